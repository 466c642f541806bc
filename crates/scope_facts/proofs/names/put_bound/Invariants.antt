use Rattle.std.proofs.Common.{◌≡◌, ◌++◌, drop}
use Rattle.bast_schema.specs.View.{data_of}
use Rattle.scope_facts.specs.Names.{bound}
use Rattle.scope_facts.proofs.names.put_bound.Given as goal

abbrev pub invariant-loop-value : goal.invariant-loop-value
invariant-loop-value l = l.names.items ++ bound (data_of (drop l.value-index l.values)) ≡ l.fn.names.items ++ bound (data_of l.values)
