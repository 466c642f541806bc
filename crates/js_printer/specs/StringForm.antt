-- The string form of a text: a string literal in double quotes, ECMA-262, section 11.8.4.
use Rattle.std.specs.Prelude.{ℕ, List, ◌++◌, codes, ◌==◌, if◌then◌else◌}
use Rattle.std.specs.List.{flat_map}
use Rattle.std.specs.Str.{chars}
use Rattle.std.specs.Char.{encode_utf8}

-- A character as it may stand between double quotes: the quote, the backslash and the line terminators of section 11.3
-- as escape sequences, every other character as it is.
abbrev pub escaped : ℕ → List ℕ
escaped c =
    if c == 0x22 then codes "\\\""
    else if c == 0x5C then codes "\\\\"
    else if c == 0x0A then codes "\\n"
    else if c == 0x0D then codes "\\r"
    else if c == 0x2028 then codes "\\u2028"
    else if c == 0x2029 then codes "\\u2029"
    else encode_utf8 c

-- the string form of a text
abbrev pub string_form : List ℕ → List ℕ
string_form text = codes "\"" ++ flat_map escaped (chars text) ++ codes "\""
