-- Which trees are spelled by a range, whatever read them.
use Rattle.std.specs.Prelude.{ℕ, ◌≤◌, ◌≡◌, ◌||◌, IsTrue, Result, Ok, Err}
use Rattle.std.specs.List.{list_all}
use Rattle.bast_base.specs.declared.errors.Halt.{Halt}
use Rattle.bast_base.specs.declared.errors.Halt.TheVariants.{Memory, Format}
use Rattle.bast_schema.specs.declared.kind.Kind.TheVariants.{Script}
use Rattle.bast_schema.specs.Counts.{is_whole}
use Rattle.bast_schema.specs.Held.{Held}
use Rattle.bast_schema.specs.Tree.{Tree, typed, depth, kind_of}
use Rattle.container.specs.Atoms.{atoms}
use Rattle.container.specs.Folded.{folded}
use Rattle.container.specs.InFile.{has_atom}
use Rattle.container.specs.Named.{named}
use Rattle.container.specs.Spelled.{spelled}
use Rattle.tree_decoder.specs.Range.{Range, held, left}
use Rattle.tree_decoder.specs.SameTree.{IsSameTree}

-- The bytes from a place on spell the script t, whose names and windows stand for those of h, over the tables.
pub record IsSpelt (r : Range) (at : ℕ) (h : Held) (t : Tree) : Type 0 where
  pub spelled : left r at ≡ spelled r.tables h t
  pub has_all : IsTrue (list_all (has_atom r.tables) (atoms h t))
  pub named : IsTrue (named h t)
  pub kind : kind_of t ≡ Script
  pub typed : IsTrue (typed t)
  pub shallow : depth t ≤ 512

-- no fault is answered
abbrev pub NoFault : Result Tree Halt → Type 0
NoFault (Ok t) = Unit {0}
NoFault (Err Memory) = Unit {0}
NoFault (Err (Format f)) = ⊥

-- A tree that is read is the same as each that is spelled there, where no window stands in it, or the contents of each
-- lazy kind of the other are a window too.
abbrev pub IsThatTree : Range → Held → Tree → Result Tree Halt → Type 0
IsThatTree r h u (Ok t) = IsTrue (is_whole t || folded u) → IsSameTree (held r) h t u
IsThatTree r h u (Err e) = Unit {0}
