-- Trees that are the same but for the numbers of their names and the places of their windows.
use Rattle.std.specs.Prelude.{◌≡◌, ◌↔◌, IsTrue}
use Rattle.bast_schema.specs.Held.{Held, text_of, bytes_of}
use Rattle.bast_schema.specs.Tree.{Tree, branch, Datum, child, listed, name, window, Data, none, more, typed}
use Rattle.container.specs.Atoms.{atoms}
use Rattle.container.specs.Named.{named}

-- The same kinds, counts, truth values, numbers and choices stand at the same places of both, and each name stands for
-- the text, each window for the bytes, that the name or window there stands for in the other.
abbrev mutual
  pub IsSameTree : Held → Held → Tree → Tree → Type 0
  IsSameTree h g (branch k ds) (branch j es) = (k ≡ j) × AreSame h g ds es

  pub IsSame : Held → Held → Datum → Datum → Type 0
  IsSame h g (child t) (child u) = IsSameTree h g t u
  IsSame h g (listed ds) (listed es) = AreSame h g ds es
  IsSame h g (name n) (name m) = text_of h n ≡ text_of g m
  IsSame h g (window a b) (window c d) = bytes_of h a b ≡ bytes_of g c d
  IsSame h g v o = v ≡ o

  pub AreSame : Held → Held → Data → Data → Type 0
  AreSame h g none none = Unit {0}
  AreSame h g (more v ds) (more o es) = IsSame h g v o × AreSame h g ds es
  AreSame h g _ _ = ⊥

-- well-typed trees whose names stand for texts have the same atoms exactly where they are the same
abbrev pub AtomsAreOfOneTree : Type 0
AtomsAreOfOneTree =
    (h g : Held) (t u : Tree) → IsTrue (typed t) → IsTrue (typed u) → IsTrue (named h t) → IsTrue (named g u)
    → (atoms h t ≡ atoms g u) ↔ IsSameTree h g t u
