use Rattle.std.proofs.Common.{drop}
use Rattle.bast_schema.specs.Tree.{weight, weight_in, weight_at}
use Rattle.bast_schema.specs.View.{datum, data_of}
use Rattle.early_errors.proofs.Firsts.{Walked}
use Rattle.early_errors.proofs.walk.+walk.Given as goal

abbrev pub decreases-walk_node : goal.decreases-walk_node
decreases-walk_node l = weight l.node.now

abbrev pub decreases-walk_values : goal.decreases-walk_values
decreases-walk_values l = weight_in (data_of l.values.now)

abbrev pub decreases-walk_value : goal.decreases-walk_value
decreases-walk_value l = weight_at (datum l.value.now)

abbrev pub invariant-walk_values-loop-value : goal.invariant-walk_values-loop-value
invariant-walk_values-loop-value l = Walked l.texts (record { flags = l.flags; labels = l.labels }) l.left l.next (data_of (drop l.value-index l.values)) l.places l.number (data_of l.values)
