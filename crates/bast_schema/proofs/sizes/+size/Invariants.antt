use Rattle.std.proofs.Common.{◌≡◌, ◌+◌, drop}
use Rattle.bast_schema.specs.Counts.{size_in}
use Rattle.bast_schema.specs.Tree.{weight, weight_in, weight_at}
use Rattle.bast_schema.specs.View.{datum, data_of}
use Rattle.bast_schema.proofs.sizes.+size.Given as goal

abbrev pub decreases-values_left : goal.decreases-values_left
decreases-values_left l = weight l.tree.now

abbrev pub decreases-left_after_all : goal.decreases-left_after_all
decreases-left_after_all l = weight_in (data_of l.values.now)

abbrev pub decreases-left_after : goal.decreases-left_after
decreases-left_after l = weight_at (datum l.value.now)

abbrev pub invariant-left_after_all-loop-value : goal.invariant-left_after_all-loop-value
invariant-left_after_all-loop-value l = l.left + size_in (data_of l.values) ≡ l.fn.budget + size_in (data_of (drop l.value-index l.values))
