-- What stands at a place of a text: a gap, a token, a fault or the end (ECMA-262, 6th edition, section 11).
use Rattle.std.specs.Prelude.{ℕ, ◌+◌, ◌==◌, Bool, true, false, ◌&&◌, ◌||◌, List, [], ◌∷◌, Option, Some, None, Result, Ok, Err, if◌then◌else◌}
use Rattle.std.specs.Char.{len_utf8}
use Rattle.js_tokens.specs.Place.{Place, behind, behind_first, first_is, past, ◌>>=◌}
use Rattle.js_tokens.specs.Classes.{is_space, is_newline, is_in_line, is_start, is_part, is_digit, first_is_digit}
use Rattle.js_tokens.specs.Numbers.{number_at}
use Rattle.js_tokens.specs.Strings.{string_at, template_at, closing}
use Rattle.js_tokens.specs.Marks.{mark_at}
use Rattle.js_tokens.specs.declared.kinds.Mark.{Mark}
use Rattle.js_tokens.specs.declared.kinds.Piece.{Piece}
use Rattle.js_tokens.specs.declared.kinds.Piece.TheVariants as pieces
use Rattle.js_tokens.specs.declared.kinds.TokenKind.{TokenKind}
use Rattle.js_tokens.specs.declared.kinds.TokenKind.TheVariants as kinds
use Rattle.js_tokens.specs.declared.kinds.TokenFault.{TokenFault}
use Rattle.js_tokens.specs.declared.kinds.TokenFault.TheVariants as faults
use Rattle.js_tokens.specs.declared.scan.Item.{Item}
use Rattle.js_tokens.specs.declared.scan.Item.TheVariants as items

abbrev pub found : TokenKind → Place → Result (Item × Place) TokenFault
found k p = Ok (items.Token k, p)

-- a comment behind its `/*`, with whether a line terminator stands in it (11.4)
abbrev pub comment_from : Bool → List ℕ → ℕ → Option (Bool × Place)
comment_from newline [] at = None
comment_from newline (c ∷ cs) at =
    if c == 42 && first_is 47 cs then Some (newline, behind_first cs (at + len_utf8 c))
    else comment_from (newline || is_newline c) cs (at + len_utf8 c)

abbrev pub comment_to : Option (Bool × Place) → ℕ → Result (Item × Place) TokenFault
comment_to None start = Err (faults.EndedComment start)
comment_to (Some x) start = Ok (items.Gap x.0, x.1)

abbrev pub comment_at : Place → ℕ → Result (Item × Place) TokenFault
comment_at p start = comment_to (comment_from false p.chars p.at) start

abbrev pub mark_to : Option (Mark × Place) → ℕ → Result (Item × Place) TokenFault
mark_to None start = Err (faults.BadChar start)
mark_to (Some x) start = found (kinds.Punctuator x.0) x.1

-- which piece of a template it is, by its first character and by whether `${` closes it
abbrev pub piece : ℕ → Bool → Piece
piece first more =
    if first == 96 then (if more then pieces.Head else pieces.Whole) else (if more then pieces.Middle else pieces.Tail)

-- whether a number begins with these characters
abbrev pub begins_number : ℕ → List ℕ → Bool
begins_number c cs = is_digit c || (c == 46 && first_is_digit cs)

-- whether a piece of a template begins with the character, where a `}` closes a `${` or not
abbrev pub begins_piece : Bool → ℕ → Bool
begins_piece inside c = c == 96 || (c == 125 && inside)

-- the other things that begin with the character before the place, which stands at `start`
abbrev pub other_at : ℕ → Place → ℕ → Result (Item × Place) TokenFault
other_at c p start =
    if c == 47 && first_is 47 p.chars then Ok (items.Gap false, past is_in_line p)
    else (if c == 47 && first_is 42 p.chars then comment_at (behind_first p.chars p.at) start
    else (if c == 92 then Err (faults.EscapedName start)
    else mark_to (mark_at c p) start))

-- the tokens that are no names, behind their first character, which stands at `start`
abbrev pub token_at : Bool → ℕ → Place → ℕ → Result (Item × Place) TokenFault
token_at inside c p start =
    if begins_number c p.chars then number_at c p start >>= (λ x. found (kinds.Number x.0) x.1)
    else (if c == 34 || c == 39 then closing (string_at c p start) >>= (λ x. found kinds.Text x.1)
    else (if begins_piece inside c then closing (template_at p start) >>= (λ x. found (kinds.Template (piece c x.0)) x.1)
    else other_at c p start))

-- what stands at a place, where a `}` there closes a `${` or not
abbrev pub scan_at : Bool → List ℕ → ℕ → Result (Item × Place) TokenFault
scan_at inside [] at = Ok (items.Over, record { chars = []; at = at })
scan_at inside (c ∷ cs) at =
    if is_space c then Ok (items.Gap false, behind c cs at)
    else (if is_newline c then Ok (items.Gap true, behind c cs at)
    else (if is_start c then Ok (items.Name, past is_part (behind c cs at))
    else token_at inside c (behind c cs at) at))
