-- Where the tree of a file lies, and the tables that it is spelled over.
use Rattle.std.specs.Prelude.{ℕ, ◌<◌, ◌≤◌, List, length}
use Rattle.std.specs.List.{All}
use Rattle.container.specs.declared.layout.Layout.{Layout}
use Rattle.container.specs.IsContainer.{IsContainer, tables}
use Rattle.tree_decoder.specs.Range.{Range, IsSound}

abbrev pub tree_range : List ℕ → Layout → Range
tree_range bytes l = record { tables = tables l; tape = bytes; end = l.to }

-- in each container of bytes that is no longer than a file may be, the range of the tree can be read
abbrev pub TreeRangesAreSound : Type 0
TreeRangesAreSound = (bytes : List ℕ) (l : Layout) → length bytes ≤ 8388608 → All (λ byte. byte < 256) bytes → IsContainer bytes l → IsSound (tree_range bytes l)
