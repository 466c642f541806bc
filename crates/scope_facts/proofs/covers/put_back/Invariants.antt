use Rattle.std.proofs.Common.{◌≡◌, ◌<◌, ℕ, length, All}
use Rattle.scope_facts.specs.Covers.{cover_of, restored}
use Rattle.scope_facts.proofs.covers.put_back.Given as goal

abbrev pub invariant-loop-shadow : goal.invariant-loop-shadow
invariant-loop-shadow l = record {
  covers : (x : ℕ) → restored l.shadows.items x (cover_of l.covers.items x) ≡ restored l.fn.shadows.items x (cover_of l.fn.covers.items x);
  room : All (λ s. s.name < length l.covers.items) l.shadows.items;
}

abbrev pub decreases-loop-shadow : goal.decreases-loop-shadow
decreases-loop-shadow l = length l.shadows.items
