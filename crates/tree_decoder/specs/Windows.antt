-- The windows of a tree, in order, and how many bytes they have.
use Rattle.std.specs.Prelude.{ℕ, ◌+◌, ◌-◌, List, [], ◌∷◌, ◌++◌}
use Rattle.bast_schema.specs.Tree.{Tree, branch, Datum, child, listed, window, Data, none, more}

abbrev mutual
  pub windows : Tree → List (ℕ × ℕ)
  windows (branch k ds) = windows_in ds

  pub windows_at : Datum → List (ℕ × ℕ)
  windows_at (child t) = windows t
  windows_at (listed ds) = windows_in ds
  windows_at (window from to) = (from, to) ∷ []
  windows_at _ = []

  pub windows_in : Data → List (ℕ × ℕ)
  windows_in none = []
  windows_in (more d ds) = windows_at d ++ windows_in ds

-- the bytes of windows
abbrev pub skipped : List (ℕ × ℕ) → ℕ
skipped [] = 0
skipped (w ∷ ws) = (w.1 - w.0) + skipped ws
