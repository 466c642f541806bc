-- How a string table keeps its entries: the texts in one list, and the place of the absent string beside it.
use Rattle.std.specs.Prelude.{ℕ, ◌+◌, ◌<◌, ◌≤◌, ◌^◌, List, String, length, map, nat_lt, Option, None, Some, IfSome, if◌then◌else◌, string_bytes}
use Rattle.std.specs.List.{insert}
use Rattle.indexmap.specs.IndexSet.{IndexSet}

-- the bytes of each text, in order
abbrev pub texts_of : {A S : Type 0} → IndexSet (String A) S → List (List ℕ)
texts_of set = map string_bytes set.keys

-- the entries: the texts, with the absent string at its place among them
abbrev pub with_absent : List (List ℕ) → Option ℕ → List (Option (List ℕ))
with_absent texts None = map Some texts
with_absent texts (Some place) = insert (map Some texts) place None

-- the place of the text at an index, which is one later from the absent string on
abbrev pub place_of_index : Option ℕ → ℕ → ℕ
place_of_index None index = index
place_of_index (Some place) index = if nat_lt index place then index else index + 1

-- the absent string stands among the texts or at their end, and each place is a `u32`
pub record IsTable (texts : List (List ℕ)) (absent : Option ℕ) : Type 0 where
  pub within : IfSome absent (λ place. place ≤ length texts)
  pub fits : length (with_absent texts absent) < 2 ^ 32
