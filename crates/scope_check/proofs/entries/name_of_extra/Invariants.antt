use Rattle.std.proofs.Common.{◌≡◌, drop, false}
use Rattle.scope_check.specs.Entries.{is_among, first_extra}
use Rattle.scope_check.proofs.entries.name_of_extra.Given as goal

abbrev pub invariant-loop-key : goal.invariant-loop-key
invariant-loop-key l = first_extra (is_among l.wanted.keys) (is_among l.seen.keys) (drop l.key-index l.found) ≡ first_extra (is_among l.wanted.keys) (λ a. false) l.found
