-- How large a tree is, whether it is whole, and lists of values one after the other.
use Rattle.std.specs.Prelude.{ℕ, Bool, true, false, ◌+◌, ◌&&◌}
use Rattle.bast_schema.specs.Tree.{Tree, branch, Datum, child, listed, window, Data, none, more}

-- the number of values, the root and every node among them
abbrev mutual
  pub size : Tree → ℕ
  size (branch k ds) = 1 + size_in ds

  pub size_at : Datum → ℕ
  size_at (child t) = size t
  size_at (listed ds) = 1 + size_in ds
  size_at _ = 1

  pub size_in : Data → ℕ
  size_in none = 0
  size_in (more d ds) = size_at d + size_in ds

-- whether no window stands in it
abbrev mutual
  pub is_whole : Tree → Bool
  is_whole (branch k ds) = is_whole_in ds

  pub is_whole_at : Datum → Bool
  is_whole_at (child t) = is_whole t
  is_whole_at (listed ds) = is_whole_in ds
  is_whole_at (window from to) = false
  is_whole_at _ = true

  pub is_whole_in : Data → Bool
  is_whole_in none = true
  is_whole_in (more d ds) = is_whole_at d && is_whole_in ds

-- the values of one list and then those of another
abbrev pub join : Data → Data → Data
join none es = es
join (more d ds) es = more d (join ds es)
