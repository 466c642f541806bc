use Rattle.std.proofs.Common.{◌≡◌, length}
use Rattle.bast_schema.specs.Counts.{join}
use Rattle.bast_schema.specs.View.{data_of}
use Rattle.js_tree.specs.Nodes.{statements}
use Rattle.js_tree.proofs.statements.statements.Given as goal

abbrev pub invariant-loop-item : goal.invariant-loop-item
invariant-loop-item l = join (data_of l.found.items) (statements l.items) ≡ statements l.fn.items

abbrev pub decreases-loop-item : goal.decreases-loop-item
decreases-loop-item l = length l.items
