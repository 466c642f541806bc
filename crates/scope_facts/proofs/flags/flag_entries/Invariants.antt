use Rattle.std.proofs.Common.{◌≡◌}
use Rattle.bast_schema.specs.View.{data_of}
use Rattle.scope_facts.specs.Flagged.{entries_by}
use Rattle.scope_facts.specs.Covers.{is_caught, cover_of}
use Rattle.scope_facts.proofs.flags.flag_entries.Given as goal

abbrev pub invariant-loop-entry : goal.invariant-loop-entry
invariant-loop-entry l = data_of l.done.items ≡ entries_by (λ x. is_caught (cover_of l.covers x)) (data_of l.yielded)
