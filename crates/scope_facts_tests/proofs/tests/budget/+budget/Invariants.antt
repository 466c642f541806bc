use Rattle.bast_schema.specs.Tree.{weight, weight_in, weight_at}
use Rattle.bast_schema.specs.View.{data_of, datum}
use Rattle.scope_facts_tests.proofs.tests.budget.+budget.Given as goal

abbrev pub decreases-left_after : goal.decreases-left_after
decreases-left_after l = weight l.node.now

abbrev pub decreases-left_after_all : goal.decreases-left_after_all
decreases-left_after_all l = weight_in (data_of l.values.now)

abbrev pub decreases-left_after_value : goal.decreases-left_after_value
decreases-left_after_value l = weight_at (datum l.value.now)
