-- What holds of every file.
use Rattle.std.specs.Prelude.{◌≡◌, ℕ, ◌<◌, ◌≤◌, ◌^◌, List, length, IsTrue, Option, None}
use Rattle.std.specs.List.{All}
use Rattle.bast_schema.specs.Counts.{is_whole}
use Rattle.bast_schema.specs.Held.{Held}
use Rattle.bast_schema.specs.Tree.{Tree}
use Rattle.container.specs.Atoms.{atoms}
use Rattle.container.specs.InFile.{InFile}
use Rattle.container.specs.declared.layout.Layout.{Layout}
use Rattle.tree_decoder.specs.LazyKinds.{first_lazy}
use Rattle.tree_decoder.specs.Reading.{first_fault, IsFileOfScript}
use Rattle.tree_decoder.specs.WholeReading.{Whole, whole, IsWhole}
use Rattle.violations.specs.Laws.{IsSound}
use Rattle.violations.specs.Violations.{script}

-- a file that is read as a tree without windows is in the grammar, and spells that tree
abbrev pub FilesThatAreReadAreInGrammar : Type 0
FilesThatAreReadAreInGrammar =
    (bytes : List ℕ) (l : Layout) (t : Tree) → length bytes < 2 ^ 32 → All (λ byte. byte < 256) bytes → IsFileOfScript bytes l t → IsTrue (is_whole t)
    → InFile bytes (record { texts = l.strings; tape = bytes }) t

-- a file in the grammar, of bytes and of a length that are read, has no fault
abbrev pub FilesInGrammarHaveNoFault : Type 0
FilesInGrammarHaveNoFault =
    (bytes : List ℕ) (h : Held) (t : Tree) → length bytes ≤ 8388608 → All (λ byte. byte < 256) bytes → InFile bytes h t → first_fault bytes ≡ None

-- A file is that of one tree: the trees that it spells have the same kinds, counts, numbers and texts in order.
abbrev pub FilesHaveOneTree : Type 0
FilesHaveOneTree = (bytes : List ℕ) (h g : Held) (t u : Tree) → InFile bytes h t → InFile bytes g u → atoms h t ≡ atoms g u

-- a file in the grammar whose tree has no lazy kind is read as such a tree
abbrev pub FilesWithoutLazyKindsAreReadSo : Type 0
FilesWithoutLazyKindsAreReadSo =
    (bytes : List ℕ) (h : Held) (t : Tree) (l : Layout) (u : Tree) → All (λ byte. byte < 256) bytes → InFile bytes h t → first_lazy t ≡ None → IsFileOfScript bytes l u → first_lazy u ≡ None

-- a file is read as one tree, over one layout
abbrev pub FilesAreReadAsOneTree : Type 0
FilesAreReadAsOneTree = (bytes : List ℕ) (l m : Layout) (t u : Tree) → IsFileOfScript bytes l t → IsFileOfScript bytes m u → (l ≡ m) × (t ≡ u)

-- every file has a whole reading
abbrev pub FilesAreRead : Type 0
FilesAreRead = (bytes : List ℕ) → length bytes ≤ 8388608 → All (λ byte. byte < 256) bytes → (w : Whole) × IsWhole bytes w

-- and one
abbrev pub FilesHaveOneReading : Type 0
FilesHaveOneReading = (bytes : List ℕ) (w v : Whole) → IsWhole bytes w → IsWhole bytes v → w ≡ v

-- The file spells this script, whose names are places of the file's own texts. No function of it is lazy, and no rule
-- fails in it.
pub record IsSoundFile (bytes : List ℕ) (texts : List (Option (List ℕ))) (t : Tree) : Type 0 where
  pub in_file : InFile bytes (record { texts = texts; tape = bytes }) t
  pub own : in_file.tables.texts ≡ texts
  pub eager : first_lazy t ≡ None
  pub sound : IsSound texts script t

-- a file is read whole as a tree exactly where it is in the grammar, its tree has no lazy function, and no rule fails in it
pub record IsReadExactly (bytes : List ℕ) (texts : List (Option (List ℕ))) (t : Tree) : Type 0 where
  pub read : IsWhole bytes (whole texts t) → IsSoundFile bytes texts t
  pub only : IsSoundFile bytes texts t → IsWhole bytes (whole texts t)

abbrev pub FilesAreReadExactly : Type 0
FilesAreReadExactly =
    (bytes : List ℕ) (texts : List (Option (List ℕ))) (t : Tree) → length bytes ≤ 8388608 → All (λ byte. byte < 256) bytes → IsReadExactly bytes texts t
