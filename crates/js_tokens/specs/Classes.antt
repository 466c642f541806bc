-- The classes of characters that tokens are made of.
use Rattle.std.specs.Prelude.{ℕ, ◌==◌, Bool, true, false, not, ◌&&◌, ◌||◌, List, [], ◌∷◌, nat_lt}
use Rattle.std.specs.Char.{is_ascii_digit}
use Rattle.unicode_ident.specs.Ident.{is_xid_start, is_xid_continue}

-- white space (ECMA-262, 6th edition, 11.2)
abbrev pub is_space : ℕ → Bool
is_space c = c == 0x20 || c == 9 || c == 0xB || c == 0xC || c == 0xA0 || c == 0xFEFF || c == 0x1680 || (nat_lt 0x1FFF c && nat_lt c 0x200B) || c == 0x202F || c == 0x205F || c == 0x3000

-- line terminators (11.3)
abbrev pub is_newline : ℕ → Bool
is_newline c = c == 10 || c == 13 || c == 0x2028 || c == 0x2029

abbrev pub is_in_line : ℕ → Bool
is_in_line c = not (is_newline c)

-- what an identifier starts with, and what it goes on with (11.6)
abbrev pub is_start : ℕ → Bool
is_start c = c == 36 || c == 95 || is_xid_start c

abbrev pub is_part : ℕ → Bool
is_part c = c == 36 || c == 0x200C || c == 0x200D || is_xid_continue c

abbrev pub is_digit : ℕ → Bool
is_digit c = is_ascii_digit c

abbrev pub first_is_digit : List ℕ → Bool
first_is_digit [] = false
first_is_digit (c ∷ cs) = is_digit c

-- a number may not be followed by what could go on (11.8.3)
abbrev pub ends_number : List ℕ → Bool
ends_number [] = true
ends_number (c ∷ cs) = not (is_digit c || is_start c || c == 46 || c == 92)
