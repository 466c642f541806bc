-- The values of strings, and raw texts (ECMA-262, 6th edition, 11.8.4.2, 11.8.6.1 and 14.1.1).
use Rattle.std.specs.Prelude.{◌≡◌, ℕ, ◌+◌, ◌^◌, ◌≤◌, ◌==◌, ◌&&◌, Bool, true, false, List, [], ◌∷◌, ◌++◌, length, drop, Result, Ok, Err, is_ok, nat_lt, if◌then◌else◌, encode_utf8_all}
use Rattle.std.specs.Str.{chars}
use Rattle.std.specs.Char.{len_utf8}
use Rattle.js_tokens.specs.Place.{Place, behind}
use Rattle.js_tokens.specs.Strings.{string_at}
use Rattle.js_tokens.specs.Tokens.{IsWithin}
use Rattle.js_tokens.specs.declared.kinds.Token.{Token}
use Rattle.js_tokens.specs.declared.kinds.Piece.{Piece}
use Rattle.js_tokens.specs.declared.kinds.Piece.TheVariants as pieces
use Rattle.js_tokens.specs.declared.kinds.TokenKind.{TokenKind}
use Rattle.js_tokens.specs.declared.kinds.TokenKind.TheVariants as kinds
use Rattle.js_tokens.specs.declared.kinds.TokenFault.{TokenFault}
use Rattle.js_tokens.specs.declared.kinds.TokenFault.TheVariants as faults

-- the string that begins with these characters, its opening quote the first of them
abbrev pub string_from : List ℕ → ℕ → Result ((List ℕ × Bool) × Place) TokenFault
string_from [] at = Err (faults.EndedString at)
string_from (quote ∷ cs) at = string_at quote (behind quote cs at) at

-- the characters of a string's value
abbrev pub characters : Result ((List ℕ × Bool) × Place) TokenFault → List ℕ
characters (Ok x) = x.0.0
characters (Err e) = []

-- the value of the string that begins at a byte of the text, in UTF-8
abbrev pub value_at : List ℕ → ℕ → List ℕ
value_at text from = encode_utf8_all (characters (string_from (chars (drop from text)) from))

-- how many bytes close a token that has a raw text
abbrev pub piece_closing : Piece → ℕ
piece_closing pieces.Whole = 1
piece_closing pieces.Head = 2
piece_closing pieces.Middle = 2
piece_closing pieces.Tail = 1

abbrev pub closing_len : TokenKind → ℕ
closing_len (kinds.Template p) = piece_closing p
closing_len kinds.Text = 1
closing_len kinds.Identifier = 1
closing_len (kinds.Reserved w) = 1
closing_len (kinds.Punctuator m) = 1
closing_len (kinds.Number n) = 1
closing_len kinds.End = 1

abbrev pub is_template : TokenKind → Bool
is_template (kinds.Template p) = true
is_template kinds.Text = false
is_template kinds.Identifier = false
is_template (kinds.Reserved w) = false
is_template (kinds.Punctuator m) = false
is_template (kinds.Number n) = false
is_template kinds.End = false

abbrev pub is_text : TokenKind → Bool
is_text kinds.Text = true
is_text (kinds.Template p) = false
is_text kinds.Identifier = false
is_text (kinds.Reserved w) = false
is_text (kinds.Punctuator m) = false
is_text (kinds.Number n) = false
is_text kinds.End = false

-- the characters before a byte, of which this many more bytes are left out
abbrev pub until : ℕ → ℕ → List ℕ → ℕ → List ℕ
until closing stop [] at = []
until closing stop (c ∷ cs) at = if nat_lt (at + closing) stop then c ∷ until closing stop cs (at + len_utf8 c) else []

-- a character with U+000D U+000A and U+000D each made U+000A, where U+000D stands before it or not
abbrev pub line_feed : Bool → ℕ → List ℕ
line_feed return c = if c == 13 then 10 ∷ [] else (if c == 10 && return then [] else c ∷ [])

abbrev pub line_feeds : Bool → List ℕ → List ℕ
line_feeds return [] = []
line_feeds return (c ∷ cs) = line_feed return c ++ line_feeds (c == 13) cs

abbrev pub between : Token → List ℕ → ℕ → List ℕ
between t [] at = []
between t (c ∷ cs) at = until (closing_len t.kind) t.to cs (at + len_utf8 c)

-- the raw text of a token, between its first character and what closes it, in UTF-8; that of a template has no U+000D
abbrev pub raw_of : Bool → List ℕ → List ℕ
raw_of template cs = encode_utf8_all (if template then line_feeds false cs else cs)

abbrev pub raw_at : List ℕ → Token → List ℕ
raw_at text t = raw_of (is_template t.kind) (between t (chars (drop t.from text)) t.from)

-- a token of the text: it stands within it, and where it is a string, a string is read there
pub record IsTokenOf (text : List ℕ) (t : Token) : Type 0 where
  pub small : length text ≤ 2 ^ 31
  pub within : IsWithin text t
  pub reads : is_text t.kind ≡ true → is_ok (string_from (chars (drop t.from text)) t.from) ≡ true
