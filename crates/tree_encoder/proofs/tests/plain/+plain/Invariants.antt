use Rattle.bast_schema.specs.Tree.{weight, weight_in, weight_at}
use Rattle.bast_schema.specs.View.{data_of, datum}
use Rattle.tree_encoder.proofs.tests.plain.+plain.Given as goal

abbrev pub decreases-is_plain : goal.decreases-is_plain
decreases-is_plain l = weight l.node.now

abbrev pub decreases-are_plain : goal.decreases-are_plain
decreases-are_plain l = weight_in (data_of l.values.now)

abbrev pub decreases-is_plain_value : goal.decreases-is_plain_value
decreases-is_plain_value l = weight_at (datum l.value.now)
