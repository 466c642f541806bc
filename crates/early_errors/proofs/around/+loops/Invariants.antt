use Rattle.std.proofs.Common.{◌≡◌, drop}
use Rattle.bast_schema.specs.Tree.{weight, weight_in, weight_at}
use Rattle.bast_schema.specs.View.{datum, data_of}
use Rattle.early_errors.specs.Around.{loop_in}
use Rattle.early_errors.proofs.around.+loops.Given as goal

abbrev pub decreases-is_loop : goal.decreases-is_loop
decreases-is_loop l = weight l.node.now

abbrev pub decreases-is_loop_at : goal.decreases-is_loop_at
decreases-is_loop_at l = weight_at (datum l.value.now)

abbrev pub decreases-has_loop : goal.decreases-has_loop
decreases-has_loop l = weight_in (data_of l.values.now)

abbrev pub invariant-has_loop-loop-value : goal.invariant-has_loop-loop-value
invariant-has_loop-loop-value l = loop_in (data_of (drop l.value-index l.values)) ≡ loop_in (data_of l.values)
