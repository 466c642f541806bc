use Rattle.std.proofs.Common.{◌≡◌, drop}
use Rattle.bast_schema.specs.Counts.{join}
use Rattle.bast_schema.specs.View.{data_of}
use Rattle.scope_facts.specs.Entries.{declared_entries}
use Rattle.scope_facts.proofs.entries.make_declared_entries.Given as goal

abbrev pub invariant-loop-name : goal.invariant-loop-name
invariant-loop-name l = join (data_of l.out.items) (declared_entries (drop l.name-index l.names)) ≡ declared_entries l.names
