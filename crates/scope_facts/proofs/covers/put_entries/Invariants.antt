use Rattle.std.proofs.Common.{◌≡◌, ◌<◌, ℕ, Some, length, take, All, nat_eq, if◌then◌else◌}
use Rattle.std.specs.List.{list_any}
use Rattle.scope_facts.specs.Covers.{cover_of}
use Rattle.scope_facts.proofs.covers.put_entries.Given as goal

abbrev pub invariant-loop-shadow : goal.invariant-loop-shadow
invariant-loop-shadow l = record {
  covers : (x : ℕ) → cover_of l.covers.items x ≡ (if list_any (λ s. nat_eq s.name x) (take l.shadow-index l.shadows) then Some l.entry else cover_of l.fn.covers.items x);
  room : All (λ s. s.name < length l.covers.items) l.shadows;
}
