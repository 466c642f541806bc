-- The kinds of lazy functions, of which no file may have a node yet, and the first node of one.
use Rattle.std.specs.Prelude.{ℕ, Bool, not, List, [], ◌∷◌, ◌+◌, ◌++◌, Option, Result, Ok, Err, if◌then◌else◌}
use Rattle.std.specs.List.{position_from}
use Rattle.bast_schema.specs.declared.kind.Kind.{Kind}
use Rattle.bast_schema.specs.Fields.{has_lazy}
use Rattle.bast_schema.specs.Tree.{Tree, branch, Datum, child, listed, Data, none, more}

-- whether a kind is none of those
abbrev pub is_eager_kind : Kind → Bool
is_eager_kind k = not (has_lazy k)

-- the kinds of the nodes in preorder: what is absent and a window have none
abbrev mutual
  pub kinds_of : Tree → List Kind
  kinds_of (branch k ds) = k ∷ kinds_in ds

  pub kinds_at : Datum → List Kind
  kinds_at (child t) = kinds_of t
  kinds_at (listed ds) = kinds_in ds
  kinds_at _ = []

  pub kinds_in : Data → List Kind
  kinds_in none = []
  kinds_in (more d ds) = kinds_at d ++ kinds_in ds

-- the number of the first node of a lazy kind, counted from 0 in preorder
abbrev pub first_lazy : Tree → Option ℕ
first_lazy t = position_from (λ k. not (is_eager_kind k)) 0 (kinds_of t)

-- What a walk over nodes of these kinds comes to, where the first of them has this number: the number of the node behind
-- them, or that of the first of a lazy kind.
abbrev pub walked : ℕ → List Kind → Result ℕ ℕ
walked n [] = Ok n
walked n (k ∷ ks) = if is_eager_kind k then walked (n + 1) ks else Err n
