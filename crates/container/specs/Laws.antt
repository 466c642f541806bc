-- What holds of every container, and of the spelling of every tree.
use Rattle.std.specs.Prelude.{◌≡◌, ℕ, ◌-◌, ◌<◌, ◌^◌, ◌≤◌, List, ◌++◌, length, flat_map, slice_range, take, Ok, Err, IsTrue}
use Rattle.std.specs.List.{All, AllByRecursion}
use Rattle.bast_base.specs.declared.errors.Why.TheVariants.{Ended, Trailing}
use Rattle.bast_schema.specs.Counts.{size}
use Rattle.bast_schema.specs.Held.{Held}
use Rattle.bast_schema.specs.Tree.{Tree, typed}
use Rattle.container.specs.declared.layout.Layout.{Layout}
use Rattle.container.specs.Answers.{fault}
use Rattle.container.specs.Atoms.{atoms}
use Rattle.container.specs.FixedParts.{IsTold, fixed_parts}
use Rattle.container.specs.Folded.{folded}
use Rattle.container.specs.IsContainer.{IsContainer, IsFileOf, layout_in}
use Rattle.container.specs.Layout.{layout_of}
use Rattle.container.specs.Spelled.{spelled}
use Rattle.container.specs.SpelledAtom.{spelled_atom}
use Rattle.container.specs.Tables.{Tables}

-- the container of two tables and a tree's bytes is read as these tables and these bytes
abbrev pub IsReadBack : Type 0
IsReadBack =
    (s : Tables) (tree bytes : List ℕ) → IsFileOf s tree bytes → length bytes < 2 ^ 32
    → (layout_of bytes ≡ Ok (layout_in s tree bytes)) × (slice_range bytes (length bytes - length tree) (length bytes) ≡ tree)

-- bytes are the container of one pair of tables and of one tree's bytes
abbrev pub IsReadOneWay : Type 0
IsReadOneWay = (s t : Tables) (x y bytes : List ℕ) → IsFileOf s x bytes → IsFileOf t y bytes → length bytes < 2 ^ 32 → (s ≡ t) × (x ≡ y)

-- bytes of which a layout is read are the container of its tables over the bytes where its tree lies
abbrev pub LayoutsAreContainers : Type 0
LayoutsAreContainers = (bytes : List ℕ) (l : Layout) → All (λ byte. byte < 256) bytes → layout_of bytes ≡ Ok l → IsContainer bytes l

-- a container that breaks off is faulty where it does, and nowhere before
abbrev pub IsToldWhereEnded : Type 0
IsToldWhereEnded = (s : Tables) (tree bytes : List ℕ) (n : ℕ) → IsFileOf s tree bytes → length bytes < 2 ^ 32 → n < length bytes → layout_of (take n bytes) ≡ Err (fault n Ended)

-- where one of a container's fixed bytes is another, that is its first fault
abbrev pub IsToldWhereChanged : Type 0
IsToldWhereChanged = (s : Tables) (tree bytes : List ℕ) → IsFileOf s tree bytes → length bytes < 2 ^ 32 → AllByRecursion (IsTold bytes) (fixed_parts s)

-- bytes after a container are its first fault
abbrev pub IsToldWhereMore : Type 0
IsToldWhereMore =
    (s : Tables) (tree bytes others : List ℕ) → IsFileOf s tree bytes → length (bytes ++ others) < 2 ^ 32 → 0 < length others
    → layout_of (bytes ++ others) ≡ Err (fault (length bytes) Trailing)

-- A tree is spelled as its atoms, one after another in preorder. The law asks that the contents of each lazy kind are a
-- window: where they are a node, the spelling of that node is the window's bytes, and its length stands before it.
abbrev pub IsSpelledByAtoms : Type 0
IsSpelledByAtoms = (s : Tables) (h : Held) (t : Tree) → IsTrue (typed t) → IsTrue (folded t) → spelled s h t ≡ flat_map (spelled_atom s) (atoms h t)

-- a tree has no more values than bytes spell it
abbrev pub HasByteForEachValue : Type 0
HasByteForEachValue = (s : Tables) (h : Held) (t : Tree) → IsTrue (typed t) → size t ≤ length (spelled s h t)
