-- A tree whose names have other numbers.
use Rattle.std.specs.Prelude.{ℕ, Bool, true, false, ◌≡◌, nat_eq, Option, Some, None}
use Rattle.bast_schema.specs.Tree.{Tree, branch, Datum, child, listed, name, Data, none, more}

-- different numbers stay different
abbrev pub IsInjective : (ℕ → ℕ) → Type 0
IsInjective r = (n m : ℕ) → nat_eq (r n) (r m) ≡ nat_eq n m

abbrev mutual
  pub renamed : (ℕ → ℕ) → Tree → Tree
  renamed r (branch k ds) = branch k (renamed_in r ds)

  pub renamed_at : (ℕ → ℕ) → Datum → Datum
  renamed_at r (child t) = child (renamed r t)
  renamed_at r (listed ds) = listed (renamed_in r ds)
  renamed_at r (name n) = name (r n)
  renamed_at r d = d

  pub renamed_in : (ℕ → ℕ) → Data → Data
  renamed_in r none = none
  renamed_in r (more d ds) = more (renamed_at r d) (renamed_in r ds)

abbrev pub is_eval_name : Option ℕ → ℕ → Bool
is_eval_name None n = false
is_eval_name (Some e) n = nat_eq n e

-- of the names with a property, that of the text eval stays that of it: e before and f behind
abbrev pub KeepsEval : (ℕ → ℕ) → (ℕ → Bool) → Option ℕ → Option ℕ → Type 0
KeepsEval r p e f = (n : ℕ) → p n ≡ true → is_eval_name f (r n) ≡ is_eval_name e n
