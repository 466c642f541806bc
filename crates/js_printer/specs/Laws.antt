-- What holds of every text.
use Rattle.std.specs.Prelude.{ℕ, List, ◌≢◌}
use Rattle.std.specs.List.{All}
use Rattle.js_printer.specs.StringForm.{string_form}

-- a string form stands on one line, whatever the text: no byte of it is U+000A
abbrev pub StringFormsAreOneLine : Type 0
StringFormsAreOneLine = (text : List ℕ) → All (λ b. b ≢ 10) (string_form text)
