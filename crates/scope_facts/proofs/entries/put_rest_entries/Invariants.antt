use Rattle.std.proofs.Common.{◌≡◌, drop}
use Rattle.bast_schema.specs.Counts.{join}
use Rattle.bast_schema.specs.View.{data_of}
use Rattle.scope_facts.specs.Entries.{rest_entries}
use Rattle.scope_facts.proofs.entries.put_rest_entries.Given as goal

abbrev pub invariant-loop-name : goal.invariant-loop-name
invariant-loop-name l = join (data_of l.out.items) (rest_entries (drop l.name-index l.names)) ≡ join (data_of l.fn.out.items) (rest_entries l.names)
