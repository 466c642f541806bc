-- Where fields are wrong, place by place.
use Rattle.std.specs.Prelude.{ℕ, Bool, true, false, List, not, Option, None, Some}
use Rattle.std.specs.List.{slice_get}
use Rattle.bast_schema.specs.declared.kind.FieldType.{FieldType}
use Rattle.bast_schema.specs.Tree.{Datum, Data, value_at, fits}

-- a value is wrong where it is missing, one too many or not of its type
abbrev pub wrong_pair : Option FieldType → Option Datum → Bool
wrong_pair None None = false
wrong_pair (Some t) (Some d) = not (fits t d)
wrong_pair _ _ = true

abbrev pub wrong_at : List FieldType → Data → ℕ → Bool
wrong_at ts ds n = wrong_pair (slice_get ts n) (value_at ds n)
