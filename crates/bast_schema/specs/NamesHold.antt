-- What holds of each name of a tree.
use Rattle.std.specs.Prelude.{ℕ, Bool, true, ◌&&◌}
use Rattle.bast_schema.specs.Tree.{Tree, branch, Datum, child, listed, name, Data, none, more}

-- whether a property holds of each name and text of a tree
abbrev mutual
  pub names_hold : (ℕ → Bool) → Tree → Bool
  names_hold p (branch k ds) = names_hold_in p ds

  pub names_hold_at : (ℕ → Bool) → Datum → Bool
  names_hold_at p (child t) = names_hold p t
  names_hold_at p (listed ds) = names_hold_in p ds
  names_hold_at p (name n) = p n
  names_hold_at p _ = true

  pub names_hold_in : (ℕ → Bool) → Data → Bool
  names_hold_in p none = true
  names_hold_in p (more d ds) = names_hold_at p d && names_hold_in p ds
