use Rattle.std.proofs.Common.{◌≡◌, ◌+◌, drop}
use Rattle.bast_schema.specs.Tree.{weight, weight_in, weight_at, nodes_in}
use Rattle.bast_schema.specs.View.{datum, data_of}
use Rattle.scope_check.proofs.numbers.+count.Given as goal

abbrev pub decreases-number_behind : goal.decreases-number_behind
decreases-number_behind l = weight l.node.now

abbrev pub decreases-number_behind_values : goal.decreases-number_behind_values
decreases-number_behind_values l = weight_in (data_of l.values.now)

abbrev pub decreases-number_behind_value : goal.decreases-number_behind_value
decreases-number_behind_value l = weight_at (datum l.value.now)

abbrev pub invariant-number_behind_values-loop-value : goal.invariant-number_behind_values-loop-value
invariant-number_behind_values-loop-value l = l.next + nodes_in (data_of (drop l.value-index l.values)) ≡ l.number + nodes_in (data_of l.values)
