use Rattle.std.proofs.Common.{◌≡◌, ◌++◌, drop}
use Rattle.bast_schema.specs.Tree.{weight, weight_in, weight_at}
use Rattle.bast_schema.specs.View.{datum, data_of}
use Rattle.scope_facts.specs.Names.{vars_in}
use Rattle.scope_facts.proofs.names.+vars.Given as goal

abbrev pub decreases-put_vars : goal.decreases-put_vars
decreases-put_vars l = weight l.node.now

abbrev pub decreases-put_vars_in : goal.decreases-put_vars_in
decreases-put_vars_in l = weight_in (data_of l.values.now)

abbrev pub decreases-put_vars_at : goal.decreases-put_vars_at
decreases-put_vars_at l = weight_at (datum l.value.now)

abbrev pub invariant-put_vars_in-loop-value : goal.invariant-put_vars_in-loop-value
invariant-put_vars_in-loop-value l = l.names.items ++ vars_in (data_of (drop l.value-index l.values)) ≡ l.fn.names.items ++ vars_in (data_of l.values)
