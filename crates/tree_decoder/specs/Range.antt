-- The bytes of a file up to a place, and the two tables that trees are spelled over there.
use Rattle.std.specs.Prelude.{ℕ, ◌<◌, ◌≤◌, ◌^◌, List, Option, length, slice_range}
use Rattle.std.specs.List.{All, IsDistinct}
use Rattle.bast_schema.specs.declared.kind.Kind.{Kind}
use Rattle.bast_schema.specs.Held.{Held}
use Rattle.bast_schema.specs.Kinds.{same_kind}
use Rattle.string_table.specs.Entries.{AreDistinct}
use Rattle.container.specs.Tables.{Tables}
use Rattle.tree_decoder.specs.declared.cursor.Input.{Input}

pub record Range : Type 0 where
  pub tables : Tables
  pub tape : List ℕ
  pub end : ℕ

-- what the names and windows of a tree stand for there
abbrev pub held : Range → Held
held r = record { texts = r.tables.texts; tape = r.tape }

-- the bytes that are left from a place on
abbrev pub left : Range → ℕ → List ℕ
left r at = slice_range r.tape at r.end

-- what is true of each range that is read
pub record IsSound (r : Range) : Type 0 where
  pub within : r.end ≤ length r.tape
  pub short : length r.tape ≤ 8388608
  pub bytes : All (λ byte. byte < 256) r.tape
  pub kinds : IsDistinct same_kind r.tables.kinds
  pub texts : AreDistinct r.tables.texts
  pub few : length r.tables.texts < 2 ^ 32

abbrev pub range : List Kind → List (Option (List ℕ)) → List ℕ → ℕ → Range
range kinds texts tape end = record { tables = record { kinds = kinds; texts = texts }; tape = tape; end = end }

-- the range of a reader
abbrev pub range_of : {L : Type 0} → Input L → Range
range_of i = range i.kinds.now i.strings.now i.tape.now i.end
