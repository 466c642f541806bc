use Rattle.std.proofs.Common.{◌≡◌, ◌+◌, ◌<◌, ◌^◌, drop}
use Rattle.bast_schema.specs.Tree.{weight, weight_in, weight_at, nodes_in}
use Rattle.bast_schema.specs.View.{datum, data_of}
use Rattle.tree_decoder.specs.LazyKinds.{kinds_in, walked}
use Rattle.tree_decoder.proofs.lazy_kinds.+lazy_kinds.Given as goal

abbrev pub decreases-walk_node : goal.decreases-walk_node
decreases-walk_node l = weight l.node.now

abbrev pub decreases-walk_values : goal.decreases-walk_values
decreases-walk_values l = weight_in (data_of l.values.now)

abbrev pub decreases-walk_value : goal.decreases-walk_value
decreases-walk_value l = weight_at (datum l.value.now)

-- the walk over what is left comes to what the walk over all does
abbrev pub invariant-walk_values-loop-value : goal.invariant-walk_values-loop-value
invariant-walk_values-loop-value l =
    (l.next + nodes_in (data_of (drop l.value-index l.values)) < 2 ^ 32)
    × (walked l.next (kinds_in (data_of (drop l.value-index l.values))) ≡ walked l.fn.number (kinds_in (data_of l.values)))
