use Rattle.std.proofs.Common.{◌≡◌, drop, max, ◌≤◌}
use Rattle.bast_schema.specs.Tree.{depth_in, weight_in, weight_at}
use Rattle.bast_schema.specs.View.{datum, data_of}
use Rattle.bast_schema.proofs.node.+depth.Given as goal

abbrev pub decreases-deepest : goal.decreases-deepest
decreases-deepest l = weight_in (data_of l.values.now)

abbrev pub decreases-depth_of : goal.decreases-depth_of
decreases-depth_of l = weight_at (datum l.value.now)

abbrev pub invariant-deepest-loop-value : goal.invariant-deepest-loop-value
invariant-deepest-loop-value l = (max l.deepest (depth_in (data_of (drop l.value-index l.values))) ≡ depth_in (data_of l.values)) × (l.deepest ≤ 512)
