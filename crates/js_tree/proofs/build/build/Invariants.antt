use Rattle.std.proofs.Common.{◌≡◌, ◌≤◌, drop, length, reverse, Ok}
use Rattle.js_tree.specs.Image.{image}
use Rattle.js_tree.specs.Nodes.{limited}
use Rattle.js_tree.proofs.build.build.Given as goal

abbrev pub invariant-loop-left : goal.invariant-loop-left
invariant-loop-left l = (l.left ≤ length l.events) × (image limited (reverse l.fn.leaves.items) (drop l.left l.events) ≡ Ok (reverse l.leaves.items, l.parts))

abbrev pub decreases-loop-left : goal.decreases-loop-left
decreases-loop-left l = l.left
