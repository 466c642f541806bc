use Rattle.bast_schema.specs.Tree.{weight, weight_at, weight_in}
use Rattle.bast_schema.specs.View.{datum, data_of}
use Rattle.js_parser.proofs.tests.+show.Given as goal

abbrev pub decreases-put_node : goal.decreases-put_node
decreases-put_node l = weight l.node.now

abbrev pub decreases-put_values : goal.decreases-put_values
decreases-put_values l = weight_in (data_of l.values.now)

abbrev pub decreases-put_value : goal.decreases-put_value
decreases-put_value l = weight_at (datum l.value.now)
