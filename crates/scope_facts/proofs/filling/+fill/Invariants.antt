use Rattle.std.proofs.Common.{◌≡◌, ◌++◌}
use Rattle.bast_schema.specs.Tree.{weight, weight_in, weight_at}
use Rattle.bast_schema.specs.View.{data_of, datum}
use Rattle.scope_facts.specs.Filled.{filled_among}
use Rattle.scope_facts.proofs.filling.+fill.Given as goal

abbrev pub decreases-fill_node : goal.decreases-fill_node
decreases-fill_node l = weight l.node

abbrev pub decreases-fill_fields : goal.decreases-fill_fields
decreases-fill_fields l = weight_in (data_of l.fields.items)

abbrev pub decreases-fill_value : goal.decreases-fill_value
decreases-fill_value l = weight_at (datum l.value)

abbrev pub decreases-fill_items : goal.decreases-fill_items
decreases-fill_items l = weight_in (data_of l.values.items)

abbrev pub invariant-fill_items-loop-value : goal.invariant-fill_items-loop-value
invariant-fill_items-loop-value l = record {
  filled : data_of l.done.items ≡ filled_among (data_of l.yielded);
  all : l.yielded ++ l.value-iterator.rest.items ≡ l.fn.values.items;
}
