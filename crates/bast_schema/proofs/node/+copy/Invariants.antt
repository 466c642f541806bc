use Rattle.std.proofs.Common.{◌≡◌, take}
use Rattle.bast_schema.specs.Tree.{weight, weight_in, weight_at}
use Rattle.bast_schema.specs.View.{datum}
use Rattle.bast_schema.proofs.node.+copy.Given as goal

abbrev pub decreases-Node::copy : goal.decreases-Node::copy
decreases-Node::copy l = weight l.self.now

abbrev pub decreases-copy_values : goal.decreases-copy_values
decreases-copy_values l = weight_in l.values.now

abbrev pub decreases-copy_value : goal.decreases-copy_value
decreases-copy_value l = weight_at (datum l.value.now)

abbrev pub invariant-copy_values-loop-item : goal.invariant-copy_values-loop-item
invariant-copy_values-loop-item l = l.copies.items ≡ take l.item-index l.item-items
