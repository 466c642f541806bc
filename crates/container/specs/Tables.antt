-- The two tables that a file is spelled over.
use Rattle.std.specs.Prelude.{ℕ, List, Option, length, unwrap_or}
use Rattle.bast_schema.specs.declared.kind.Kind.{Kind}
use Rattle.bast_schema.specs.KindTable.{place_of}
use Rattle.string_table.specs.Entries.{place_in}

-- kinds, and texts of which one may be the absent string
pub record Tables : Type 0 where
  pub kinds : List Kind
  pub texts : List (Option (List ℕ))

-- the place of a kind, counted from 0, or their number where it is not among them
abbrev pub kind_place : Tables → Kind → ℕ
kind_place s k = unwrap_or (place_of s.kinds k) (length s.kinds)

-- the same of a text or the absent string
abbrev pub text_place : Tables → Option (List ℕ) → ℕ
text_place s entry = unwrap_or (place_in s.texts entry) (length s.texts)
