use Rattle.std.proofs.Common.{◌≡◌, ◌++◌, drop}
use Rattle.bast_schema.specs.View.{data_of}
use Rattle.scope_check.specs.Covers.{facts_among}
use Rattle.scope_check.proofs.covers.facts_of_entries.Given as goal

abbrev pub invariant-loop-entry : goal.invariant-loop-entry
invariant-loop-entry l = l.facts.items ++ facts_among (data_of (drop l.entry-index l.entries)) ≡ facts_among (data_of l.entries)
