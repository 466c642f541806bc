use Rattle.std.proofs.Common.{◌≡◌, ◌++◌, ◌≤◌, reverse, drop, length}
use Rattle.js_machine.specs.Machine.{want_all, marks}
use Rattle.js_machine.proofs.machine.push_symbols.Given as goal

abbrev pub invariant-loop-left : goal.invariant-loop-left
invariant-loop-left l = (marks (reverse l.stack.items) ≡ marks (reverse l.fn.stack.items)) × (l.left ≤ length l.symbols) × (reverse l.stack.items ≡ want_all l.first l.from (drop l.left l.symbols) ++ reverse l.fn.stack.items)

abbrev pub decreases-loop-left : goal.decreases-loop-left
decreases-loop-left l = l.left
