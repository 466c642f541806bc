-- The entries of a string table: a text as its bytes, the absent string as `None`.
use Rattle.std.specs.Prelude.{ℕ, Bool, List, [], ◌∷◌, ◌++◌, length, position, Option, None, Some, is_some, if◌then◌else◌}
use Rattle.std.specs.List.{IsDistinct}
use Rattle.std.specs.Option.{option_eq, option_map_or}
use Rattle.std.specs.Str.{bytes_eq}
use Rattle.string_table.specs.declared.entry.Entry.{Entry}
use Rattle.string_table.specs.declared.entry.Entry.TheVariants.{Text, Absent}
use Rattle.string_table.specs.declared.entry.AddedName.{AddedName}
use Rattle.string_table.specs.declared.entry.AddedName.TheVariants.{New, There}

-- an entry as the contracts of a table see it
abbrev pub value_of : Entry → Option (List ℕ)
value_of (Text bytes) = Some bytes
value_of Absent = None

-- two entries are the same text, or both the absent string
abbrev pub is_same : Option (List ℕ) → Option (List ℕ) → Bool
is_same = option_eq bytes_eq

-- no entry stands twice
abbrev pub AreDistinct : List (Option (List ℕ)) → Type 0
AreDistinct = IsDistinct is_same

-- the place of the entry, if it is there
abbrev pub place_in : List (Option (List ℕ)) → Option (List ℕ) → Option ℕ
place_in entries entry = position (is_same entry) entries

-- the entries after `add`: as they are where the entry is there, and else with it at their end
abbrev pub added : List (Option (List ℕ)) → Option (List ℕ) → List (Option (List ℕ))
added entries entry = if is_some (place_in entries entry) then entries else entries ++ entry ∷ []

-- what `add` answers: the place that the entry has, or the next one
abbrev pub added_name : List (Option (List ℕ)) → Option (List ℕ) → AddedName
added_name entries entry =
    option_map_or (λ place. There (record { 0 = place })) (place_in entries entry) (New (record { 0 = length entries }))

-- the place that the answer gives
abbrev pub place_of : AddedName → ℕ
place_of (New name) = name.0
place_of (There name) = name.0
