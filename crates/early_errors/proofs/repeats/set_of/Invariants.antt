use Rattle.std.proofs.Common.{ℕ, ◌≡◌, ◌||◌, drop, nat_eq}
use Rattle.std.specs.HashSet.{contains}
use Rattle.early_errors.specs.Repeats.{is_among}
use Rattle.early_errors.proofs.repeats.set_of.Given as goal

abbrev pub invariant-loop-name : goal.invariant-loop-name
invariant-loop-name l = (n : ℕ) → (contains nat_eq l.set n || is_among (drop l.name-index l.names) n) ≡ is_among l.names n
