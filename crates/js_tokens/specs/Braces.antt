-- What a `}` closes (ECMA-262, 6th edition, 11.8.6): the innermost `{` or `${` that is open.
use Rattle.std.specs.Prelude.{Bool, true, false, List, [], ◌∷◌}
use Rattle.js_tokens.specs.declared.kinds.Mark.{Mark}
use Rattle.js_tokens.specs.declared.kinds.Mark.TheVariants as marks
use Rattle.js_tokens.specs.declared.kinds.Piece.{Piece}
use Rattle.js_tokens.specs.declared.kinds.Piece.TheVariants as pieces
use Rattle.js_tokens.specs.declared.kinds.TokenKind.{TokenKind}
use Rattle.js_tokens.specs.declared.kinds.TokenKind.TheVariants as kinds
use Rattle.js_tokens.specs.declared.braces.Brace.{Brace}
use Rattle.js_tokens.specs.declared.braces.Brace.TheVariants.{Plain, Substitution}
use Rattle.js_tokens.specs.declared.braces.Turn.{Turn}
use Rattle.js_tokens.specs.declared.braces.Turn.TheVariants.{Opens, Closes, Stays}

-- whether a `}` closes a `${`, where the braces that are open stand innermost first
abbrev pub is_inside : List Brace → Bool
is_inside [] = false
is_inside (Plain ∷ bs) = false
is_inside (Substitution ∷ bs) = true

abbrev pub turn_of_mark : Mark → Turn
turn_of_mark marks.OpenBrace = Opens Plain
turn_of_mark marks.CloseBrace = Closes
turn_of_mark _ = Stays

abbrev pub turn_of_piece : Piece → Turn
turn_of_piece pieces.Whole = Stays
turn_of_piece pieces.Head = Opens Substitution
turn_of_piece pieces.Middle = Stays
turn_of_piece pieces.Tail = Closes

-- what a token does to the braces that are open
abbrev pub turn_of : TokenKind → Turn
turn_of (kinds.Punctuator m) = turn_of_mark m
turn_of (kinds.Template p) = turn_of_piece p
turn_of kinds.Identifier = Stays
turn_of (kinds.Reserved w) = Stays
turn_of (kinds.Number n) = Stays
turn_of kinds.Text = Stays
turn_of kinds.End = Stays

abbrev pub but_innermost : List Brace → List Brace
but_innermost [] = []
but_innermost (b ∷ bs) = bs

abbrev pub turned : List Brace → Turn → List Brace
turned bs (Opens b) = b ∷ bs
turned bs Closes = but_innermost bs
turned bs Stays = bs

-- the braces that are open behind a token
abbrev pub opened : List Brace → TokenKind → List Brace
opened bs kind = turned bs (turn_of kind)
