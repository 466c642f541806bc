use Rattle.std.proofs.Common.{◌≡◌, ◌++◌}
use Rattle.bast_schema.specs.Tree.{weight, weight_in, weight_at}
use Rattle.bast_schema.specs.View.{data_of, datum}
use Rattle.scope_facts.specs.Bare.{bare_in}
use Rattle.scope_facts.proofs.bare.+bare.Given as goal

abbrev pub decreases-plain : goal.decreases-plain
decreases-plain l = weight l.tree

abbrev pub decreases-plain_values : goal.decreases-plain_values
decreases-plain_values l = weight_in (data_of l.values.items)

abbrev pub decreases-plain_value : goal.decreases-plain_value
decreases-plain_value l = weight_at (datum l.value)

abbrev pub invariant-plain_values-loop-value : goal.invariant-plain_values-loop-value
invariant-plain_values-loop-value l = record {
  bare : data_of l.done.items ≡ bare_in (data_of l.yielded);
  all : l.yielded ++ l.value-iterator.rest.items ≡ l.fn.values.items;
}
