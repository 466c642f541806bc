-- A `(` is a head where the `)` that closes it is followed by `=>` on the same line (ECMA-262, 6th edition, 14.2).
use Rattle.std.specs.Prelude.{ℕ, zero, suc, Bool, true, false, not, ◌&&◌, List, [], ◌∷◌, get_or}
use Rattle.js_tokens.specs.declared.kinds.Mark.{Mark}
use Rattle.js_tokens.specs.declared.kinds.Mark.TheVariants as marks
use Rattle.js_tokens.specs.declared.kinds.TokenKind.{TokenKind}
use Rattle.js_tokens.specs.declared.kinds.TokenKind.TheVariants as kinds
use Rattle.js_tokens.specs.declared.kinds.Token.{Token}
use Rattle.js_tokens.specs.declared.heads.Role.{Role}
use Rattle.js_tokens.specs.declared.heads.Role.TheVariants.{Opens, Closes, Arrow, Other}

abbrev pub role_of_mark : Mark → Role
role_of_mark marks.OpenParen = Opens
role_of_mark marks.CloseParen = Closes
role_of_mark marks.Arrow = Arrow
role_of_mark _ = Other

abbrev pub role_of : TokenKind → Role
role_of (kinds.Punctuator m) = role_of_mark m
role_of (kinds.Template p) = Other
role_of kinds.Identifier = Other
role_of (kinds.Reserved w) = Other
role_of (kinds.Number n) = Other
role_of kinds.Text = Other
role_of kinds.End = Other

abbrev pub is_opening : Role → Bool
is_opening Opens = true
is_opening Closes = false
is_opening Arrow = false
is_opening Other = false

abbrev pub is_arrow : Role → Bool
is_arrow Opens = false
is_arrow Closes = false
is_arrow Arrow = true
is_arrow Other = false

-- whether `=>` comes next, on the same line
abbrev pub arrow_next : List Token → Bool
arrow_next [] = false
arrow_next (t ∷ ts) = is_arrow (role_of t.kind) && not t.newline_before

-- where `depth` more `(` are open than the one that is looked at: whether the `)` that closes that one is followed by `=>`
abbrev pub at_role : Role → ℕ → Bool → (ℕ → Bool) → Bool
at_role Opens depth here on = on (suc depth)
at_role Closes zero here on = here
at_role Closes (suc depth) here on = on depth
at_role Arrow depth here on = on depth
at_role Other depth here on = on depth

abbrev pub arrow_behind : ℕ → List Token → Bool
arrow_behind depth [] = false
arrow_behind depth (t ∷ ts) = at_role (role_of t.kind) depth (arrow_next ts) (λ d. arrow_behind d ts)

-- whether the token is a head, where these tokens follow
abbrev pub is_head : Token → List Token → Bool
is_head t ts = is_opening (role_of t.kind) && arrow_behind zero ts

-- the tokens with the heads among them marked
abbrev pub with_heads : List Token → List Token
with_heads [] = []
with_heads (t ∷ ts) = record t { head = is_head t ts } ∷ with_heads ts

-- for each `)` that no `(` was met for, going from the end, whether `=>` follows it: the last met first
abbrev pub head_of : Role → List Bool → Bool
head_of role closers = is_opening role && get_or closers 0 false

abbrev pub but_last_met : List Bool → List Bool
but_last_met [] = []
but_last_met (b ∷ bs) = bs

abbrev pub closers_after : Role → Bool → List Bool → List Bool
closers_after Opens arrow closers = but_last_met closers
closers_after Closes arrow closers = arrow ∷ closers
closers_after Arrow arrow closers = closers
closers_after Other arrow closers = closers
