-- The nodes of a tree in preorder.
use Rattle.std.specs.Prelude.{ℕ, zero, suc, List, [], ◌∷◌, ◌++◌, ◌+◌}
use Rattle.bast_schema.specs.Tree.{Tree, branch, Datum, child, listed, Data, none, more}

abbrev mutual
  pub preorder : Tree → List Tree
  preorder (branch k ds) = branch k ds ∷ preorder_in ds

  pub preorder_at : Datum → List Tree
  preorder_at (child t) = preorder t
  preorder_at (listed ds) = preorder_in ds
  preorder_at _ = []

  pub preorder_in : Data → List Tree
  preorder_in none = []
  preorder_in (more d ds) = preorder_at d ++ preorder_in ds

-- so many numbers, from one on
abbrev pub numbers_from : ℕ → ℕ → List ℕ
numbers_from n zero = []
numbers_from n (suc m) = n ∷ numbers_from (n + 1) m
