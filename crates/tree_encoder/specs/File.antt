-- The file of a tree.
use Rattle.std.specs.Prelude.{ℕ, List, [], ◌∷◌, Option}
use Rattle.bast_schema.specs.Held.{Held}
use Rattle.bast_schema.specs.KindTable.{with_kind}
use Rattle.bast_schema.specs.Tree.{Tree}
use Rattle.container.specs.Atoms.{Atom, kind, text, atoms}
use Rattle.container.specs.Container.{container}
use Rattle.container.specs.Spelled.{spelled}
use Rattle.container.specs.Tables.{Tables}
use Rattle.string_table.specs.Entries.{added}

-- these tables, and behind their entries a kind or text that is not among them
abbrev pub with_atom : Tables → Atom → Tables
with_atom s (kind k) = record s { kinds = with_kind s.kinds k }
with_atom s (text entry) = record s { texts = added s.texts entry }
with_atom s _ = s

-- the tables with what the atoms use, in order of first use
abbrev pub used_from : Tables → List Atom → Tables
used_from s [] = s
used_from s (a ∷ as') = used_from (with_atom s a) as'

-- the kinds and texts of a tree, each once
abbrev pub tables_of : Held → Tree → Tables
tables_of h t = used_from (record { kinds = []; texts = [] }) (atoms h t)

-- the file of a tree
abbrev pub file : Held → Tree → List ℕ
file h t = container (tables_of h t) (spelled (tables_of h t) h t)

-- what the names of a tree without windows stand for: the entries of a string table
abbrev pub texts_held : List (Option (List ℕ)) → Held
texts_held texts = record { texts = texts; tape = [] }

-- how many bytes a file may have
abbrev pub most_bytes : ℕ
most_bytes = 8388608
