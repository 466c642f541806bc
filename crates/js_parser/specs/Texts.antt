-- The texts that names stand for.
use Rattle.std.specs.Prelude.{ℕ, Bool, List, Option, None, Some, get_or, is_some}
use Rattle.std.specs.Str.{IsUtf8}

-- whether a text stands at the place
abbrev pub is_text : List (Option (List ℕ)) → ℕ → Bool
is_text entries n = is_some (get_or entries n None)

-- an entry is a text, or the absent string
abbrev pub IsText : Option (List ℕ) → Type 0
IsText None = Unit {0}
IsText (Some bytes) = IsUtf8 bytes
