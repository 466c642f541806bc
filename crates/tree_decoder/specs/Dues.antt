-- What is due, and what the next atom puts in its place.
use Rattle.std.specs.Prelude.{ℕ, zero, suc, ◌+◌, Bool, true, false, List, [], ◌∷◌, map, if◌then◌else◌, Option, None, Some, Result, Ok}
use Rattle.bast_base.specs.declared.errors.FormatFault.{FormatFault}
use Rattle.bast_schema.specs.declared.kind.FieldType.{FieldType}
use Rattle.bast_schema.specs.declared.kind.FieldType.TheVariants as field
use Rattle.bast_schema.specs.declared.kind.Kind.{Kind}
use Rattle.bast_schema.specs.Fields.{fields}
use Rattle.bast_schema.specs.Kinds.{counted}
use Rattle.bast_schema.specs.Tree.{item_type}
use Rattle.container.specs.Answers.{◌>>=◌}
use Rattle.tree_decoder.specs.Numbers.{kind_at, count_at, leaf_at}
use Rattle.tree_decoder.specs.Range.{Range}
use Rattle.tree_decoder.specs.Windows.{windows_at}

-- a type that is to be read, the depth of a counted node there, and whether it is inside a window
pub record Due : Type 0 where
  pub type : FieldType
  pub depth : ℕ
  pub inside : Bool

abbrev pub due : FieldType → ℕ → Bool → Due
due t d w = record { type = t; depth = d; inside = w }

abbrev pub dues : List FieldType → ℕ → Bool → List Due
dues ts d w = map (λ t. due t d w) ts

-- the depth under a node of a kind
abbrev pub below : Kind → ℕ → ℕ
below k d = if counted k then d + 1 else d

-- what is due of a node, or of none
abbrev pub children : Option Kind → ℕ → Bool → List Due
children None d w = []
children (Some k) d w = dues (fields k) (below k d) w

-- a type a number of times
abbrev pub times : ℕ → FieldType → List FieldType
times zero t = []
times (suc n) t = t ∷ times n t

-- what an atom puts in place of its due, the window that it is, and the place after it
pub record Taken : Type 0 where
  pub puts : List Due
  pub windows : List (ℕ × ℕ)
  pub next : ℕ

abbrev pub taken : List Due → List (ℕ × ℕ) → ℕ → Taken
taken xs ws next = record { puts = xs; windows = ws; next = next }

-- the atom of a due at a place, or why none stands there
abbrev pub atom_of : Range → FieldType → ℕ → Bool → ℕ → Result Taken FormatFault
atom_of r (field.Node u) d w at = kind_at r u false d w at >>= λ k. Ok (taken (children k.0 d w) [] k.1)
atom_of r (field.Optional u) d w at = kind_at r u true d w at >>= λ k. Ok (taken (children k.0 d w) [] k.1)
atom_of r (field.List u holes filled) d w at = count_at r filled at >>= λ n. Ok (taken (dues (times n.0 (item_type u holes)) d w) [] n.1)
atom_of r t d w at = leaf_at r t at >>= λ v. Ok (taken [] (windows_at v.0) v.1)

abbrev pub atom_at : Range → Due → ℕ → Result Taken FormatFault
atom_at r x at = atom_of r x.type x.depth x.inside at
