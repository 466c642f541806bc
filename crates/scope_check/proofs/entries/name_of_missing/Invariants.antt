use Rattle.std.proofs.Common.{◌≡◌, drop}
use Rattle.scope_check.specs.Entries.{is_among, first_missing}
use Rattle.scope_check.proofs.entries.name_of_missing.Given as goal

abbrev pub invariant-loop-key : goal.invariant-loop-key
invariant-loop-key l = first_missing (is_among l.there.keys) (drop l.key-index l.wanted) ≡ first_missing (is_among l.there.keys) l.wanted
