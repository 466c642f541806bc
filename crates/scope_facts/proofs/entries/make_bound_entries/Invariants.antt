use Rattle.std.proofs.Common.{◌≡◌, drop}
use Rattle.bast_schema.specs.Counts.{join}
use Rattle.bast_schema.specs.View.{data_of}
use Rattle.scope_facts.specs.Entries.{bound_entries}
use Rattle.scope_facts.proofs.entries.make_bound_entries.Given as goal

abbrev pub invariant-loop-name : goal.invariant-loop-name
invariant-loop-name l = join (data_of l.out.items) (bound_entries (drop l.name-index l.names)) ≡ bound_entries l.names
