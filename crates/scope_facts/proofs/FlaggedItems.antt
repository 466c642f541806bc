-- The items of a list that are flagged one after the other.
use Rattle.std.proofs.Common.{ℕ, Bool, List, [], ◌∷◌, ◌++◌, ◌≡◌, refl}
use Rattle.bast_schema.specs.View.{datum, data_of}
use Rattle.bast_schema.specs.declared.node.Value.{Value}
use Rattle.scope_facts.specs.Flagged.{entry_by, entries_by}
use Rattle.scope_facts.proofs.Loops.{mapped_step}

pub entries_step : (c : ℕ → Bool) (ys done : List Value) (v r : Value) → data_of done ≡ entries_by c (data_of ys) → datum r ≡ entry_by c (datum v) → data_of (done ++ r ∷ []) ≡ entries_by c (data_of (ys ++ v ∷ []))
entries_step c = mapped_step (entries_by c) (entry_by c) refl (λ d ds. refl)
