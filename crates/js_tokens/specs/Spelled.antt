-- Which raw texts can be spelled where they are: a directive's between two quotes, a template's between two backticks.
use Rattle.std.specs.Prelude.{ℕ, ◌-◌, ◌^◌, ◌==◌, ◌&&◌, Bool, true, false, not, List, [], ◌∷◌, ◌++◌, length, Option, Some, None, Result, Ok, Err, nat_lt, if◌then◌else◌}
use Rattle.std.specs.Str.{chars}
use Rattle.js_tokens.specs.Place.{Place, behind}
use Rattle.js_tokens.specs.Strings.{string_at, template_at, closing}
use Rattle.js_tokens.specs.Words.{each}
use Rattle.js_tokens.specs.declared.kinds.TokenFault.{TokenFault}

abbrev pub is_empty : List ℕ → Bool
is_empty [] = true
is_empty (c ∷ cs) = false

-- it ends where nothing is left, and `${` does not close it
abbrev pub is_whole : Result (Bool × Place) TokenFault → Bool
is_whole (Ok x) = not x.0 && is_empty x.1.chars
is_whole (Err e) = false

-- a longer raw text stands in no text that can be cut
abbrev pub fits : List ℕ → Bool
fits raw = nat_lt (length raw) (2 ^ 31 - 8)

-- the raw text, given by its bytes, and the same delimiter before and behind it
abbrev pub between_two : ℕ → List ℕ → Place
between_two delimiter raw = behind delimiter (chars raw ++ delimiter ∷ []) 0

-- between two of this quote the raw text is one string
abbrev pub is_one_string : ℕ → List ℕ → Bool
is_one_string quote raw = fits raw && is_whole (closing (string_at quote (between_two quote raw) 0))

-- the quote of a directive: `"` where that serves, else `'` where that does (ECMA-262, 6th edition, 14.1.1)
abbrev pub quote_of : List ℕ → Option ℕ
quote_of raw = if is_one_string 34 raw then Some 34 else (if is_one_string 39 raw then Some 39 else None)

abbrev pub is_no_return : ℕ → Bool
is_no_return c = not (c == 13)

-- between two backticks the raw text is one template, with no U+000D that its raw text would not have
abbrev pub is_one_template : List ℕ → Bool
is_one_template raw = each is_no_return (chars raw) && (fits raw && is_whole (closing (template_at (between_two 96 raw) 0)))
