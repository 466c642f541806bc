use Rattle.std.proofs.Common.{◌≡◌, ◌<◌, ℕ, length, take, All}
use Rattle.scope_facts.specs.Covers.{cover_of}
use Rattle.scope_facts.proofs.covers.make_rooms.Given as goal

abbrev pub invariant-loop-shadow : goal.invariant-loop-shadow
invariant-loop-shadow l = record {
  room : All (λ s. s.name < length l.covers.items) (take l.shadow-index l.shadows);
  covers : (x : ℕ) → cover_of l.covers.items x ≡ cover_of l.fn.covers.items x;
}
