use Rattle.std.proofs.Common.{◌≡◌, ◌++◌, drop}
use Rattle.bast_schema.specs.View.{data_of}
use Rattle.scope_check.specs.Entries.{keys}
use Rattle.scope_check.proofs.entries.keys_of.Given as goal

abbrev pub invariant-loop-entry : goal.invariant-loop-entry
invariant-loop-entry l = l.out.items ++ keys (data_of (drop l.entry-index l.entries)) ≡ keys (data_of l.entries)
