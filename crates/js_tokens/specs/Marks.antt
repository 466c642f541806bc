-- The punctuators (ECMA-262, 6th edition, 11.7), of which the longest at a place is taken.
use Rattle.std.specs.Prelude.{ℕ, zero, suc, pred, ◌==◌, ◌&&◌, Bool, true, false, List, [], ◌∷◌, length, Option, Some, None, codes, if◌then◌else◌}
use Rattle.js_tokens.specs.Place.{Place, behind_first}
use Rattle.js_tokens.specs.declared.kinds.Mark.{Mark}
use Rattle.js_tokens.specs.declared.kinds.Mark.TheVariants as marks

-- each punctuator with its spelling, the longer ones first
abbrev pub punctuators : List (List ℕ × Mark)
punctuators =
    (codes ">>>=", marks.ShiftRightUnsignedAssign) ∷
    (codes "...", marks.Ellipsis) ∷
    (codes "===", marks.StrictEqual) ∷
    (codes "!==", marks.StrictNotEqual) ∷
    (codes ">>>", marks.ShiftRightUnsigned) ∷
    (codes "<<=", marks.ShiftLeftAssign) ∷
    (codes ">>=", marks.ShiftRightAssign) ∷
    (codes "==", marks.Equal) ∷
    (codes "<<", marks.ShiftLeft) ∷
    (codes ">>", marks.ShiftRight) ∷
    (codes "<=", marks.LessOrEqual) ∷
    (codes ">=", marks.GreaterOrEqual) ∷
    (codes "!=", marks.NotEqual) ∷
    (codes "++", marks.Increment) ∷
    (codes "--", marks.Decrement) ∷
    (codes "&&", marks.AndAnd) ∷
    (codes "||", marks.OrOr) ∷
    (codes "+=", marks.PlusAssign) ∷
    (codes "-=", marks.MinusAssign) ∷
    (codes "*=", marks.StarAssign) ∷
    (codes "/=", marks.SlashAssign) ∷
    (codes "%=", marks.PercentAssign) ∷
    (codes "&=", marks.BitAndAssign) ∷
    (codes "|=", marks.BitOrAssign) ∷
    (codes "^=", marks.BitXorAssign) ∷
    (codes "=>", marks.Arrow) ∷
    (codes "{", marks.OpenBrace) ∷
    (codes "}", marks.CloseBrace) ∷
    (codes "(", marks.OpenParen) ∷
    (codes ")", marks.CloseParen) ∷
    (codes "[", marks.OpenBracket) ∷
    (codes "]", marks.CloseBracket) ∷
    (codes ".", marks.Dot) ∷
    (codes ";", marks.Semicolon) ∷
    (codes ",", marks.Comma) ∷
    (codes "<", marks.Less) ∷
    (codes ">", marks.Greater) ∷
    (codes "+", marks.Plus) ∷
    (codes "-", marks.Minus) ∷
    (codes "*", marks.Star) ∷
    (codes "/", marks.Slash) ∷
    (codes "%", marks.Percent) ∷
    (codes "&", marks.BitAnd) ∷
    (codes "|", marks.BitOr) ∷
    (codes "^", marks.BitXor) ∷
    (codes "!", marks.Bang) ∷
    (codes "~", marks.Tilde) ∷
    (codes "?", marks.Question) ∷
    (codes ":", marks.Colon) ∷
    (codes "=", marks.Assign) ∷
    []

-- whether the text begins with these characters
abbrev pub begins_with : List ℕ → List ℕ → Bool
begins_with [] cs = true
begins_with (x ∷ xs) [] = false
begins_with (x ∷ xs) (c ∷ cs) = c == x && begins_with xs cs

-- the first punctuator of a table that the text begins with
abbrev pub mark_among : List (List ℕ × Mark) → List ℕ → Option (List ℕ × Mark)
mark_among [] cs = None
mark_among (m ∷ ms) cs = if begins_with m.0 cs then Some m else mark_among ms cs

-- the place behind this many characters
abbrev pub skipped : ℕ → List ℕ → ℕ → Place
skipped zero cs at = record { chars = cs; at = at }
skipped (suc n) [] at = record { chars = []; at = at }
skipped (suc n) (c ∷ cs) at = skipped n (behind_first (c ∷ cs) at).chars (behind_first (c ∷ cs) at).at

abbrev pub mark_to : Option (List ℕ × Mark) → Place → Option (Mark × Place)
mark_to None p = None
mark_to (Some m) p = Some (m.1, skipped (pred (length m.0)) p.chars p.at)

-- the longest punctuator that begins with the character before the place, and the place behind it
abbrev pub mark_at : ℕ → Place → Option (Mark × Place)
mark_at c p = mark_to (mark_among punctuators (c ∷ p.chars)) p
