use Rattle.std.proofs.Common.{◌≡◌, ◌++◌, drop}
use Rattle.bast_schema.specs.View.{data_of}
use Rattle.scope_facts.specs.Covers.{names_among}
use Rattle.scope_facts.proofs.covers.names_of.Given as goal

abbrev pub invariant-loop-entry : goal.invariant-loop-entry
invariant-loop-entry l = l.names.items ++ names_among (data_of (drop l.entry-index l.entries)) ≡ names_among (data_of l.entries)
