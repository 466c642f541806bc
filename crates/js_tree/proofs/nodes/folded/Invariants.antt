use Rattle.std.proofs.Common.{◌≡◌, length}
use Rattle.js_tree.specs.Nodes.{folded, limited}
use Rattle.js_tree.proofs.nodes.folded.Given as goal

abbrev pub invariant-loop-ending : goal.invariant-loop-ending
invariant-loop-ending l = folded limited l.endings l.node ≡ folded limited l.fn.endings l.fn.operand

abbrev pub decreases-loop-ending : goal.decreases-loop-ending
decreases-loop-ending l = length l.endings
