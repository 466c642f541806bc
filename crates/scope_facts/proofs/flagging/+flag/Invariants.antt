use Rattle.std.proofs.Common.{◌≡◌, ◌++◌}
use Rattle.bast_schema.specs.Tree.{weight, weight_in, weight_at}
use Rattle.bast_schema.specs.View.{data_of, datum}
use Rattle.scope_facts.specs.Uses.{used_among, crossed_among, evals_among}
use Rattle.scope_facts.specs.Flagged.{flagged_among}
use Rattle.scope_facts.specs.Covers.{Touches}
use Rattle.scope_facts.proofs.flagging.+flag.Given as goal

abbrev pub decreases-flag_node : goal.decreases-flag_node
decreases-flag_node l = weight l.node

abbrev pub decreases-flag_fields : goal.decreases-flag_fields
decreases-flag_fields l = weight_in (data_of l.fields.items)

abbrev pub decreases-flag_value : goal.decreases-flag_value
decreases-flag_value l = weight_at (datum l.value)

abbrev pub decreases-flag_items : goal.decreases-flag_items
decreases-flag_items l = weight_in (data_of l.values.items)

abbrev pub invariant-flag_items-loop-value : goal.invariant-flag_items-loop-value
invariant-flag_items-loop-value l = record {
  items : data_of l.done.items ≡ flagged_among l.eval (data_of l.yielded);
  evals : l.evals ≡ evals_among l.eval (data_of l.yielded);
  covers : Touches (λ x. used_among x (data_of l.yielded)) (λ x. crossed_among x (data_of l.yielded)) l.now l.fn.covers.items l.covers.items;
  all : l.yielded ++ l.value-iterator.rest.items ≡ l.fn.values.items;
}
