-- One spelling is that of one tree.
use Rattle.std.specs.Prelude.{◌≡◌, ℕ, IsTrue}
use Rattle.std.specs.List.{list_all}
use Rattle.bast_schema.specs.Counts.{is_whole}
use Rattle.bast_schema.specs.Held.{Held}
use Rattle.bast_schema.specs.Tree.{Tree, typed}
use Rattle.container.specs.Atoms.{atoms}
use Rattle.container.specs.InFile.{has_atom}
use Rattle.container.specs.Spelled.{spelled}
use Rattle.container.specs.Tables.{Tables}
use Rattle.string_table.specs.Entries.{AreDistinct}
use Rattle.tree_decoder.specs.Range.{Range}
use Rattle.tree_decoder.specs.Script.{IsScript}

-- a well-typed tree without windows whose kinds and texts, those of h, stand in the tables
pub record IsOver (s : Tables) (h : Held) (t : Tree) : Type 0 where
  pub has_all : IsTrue (list_all (has_atom s) (atoms h t))
  pub typed : IsTrue (typed t)
  pub whole : IsTrue (is_whole t)

-- trees with one spelling over two tables are one tree: they have the same kinds, counts, numbers and texts in order
abbrev pub IsOneTree : Type 0
IsOneTree = (s : Tables) (h g : Held) (t u : Tree) → IsOver s h t → IsOver s g u → spelled s h t ≡ spelled s g u → atoms h t ≡ atoms g u

-- where no text stands twice, a script that is read at a place is the only one, with its windows
abbrev pub ScriptsAreOne : Type 0
ScriptsAreOne = (r : Range) (at : ℕ) (t u : Tree) → AreDistinct r.tables.texts → IsScript r at t → IsScript r at u → t ≡ u
