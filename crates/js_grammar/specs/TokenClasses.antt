-- The class of a token: by what it is, of identifiers also by how they are spelled.
use Rattle.std.specs.Prelude.{ℕ, Bool, List, ◌-◌, take, drop, codes, if◌then◌else◌}
use Rattle.std.specs.Str.{bytes_eq}
use Rattle.js_tokens.specs.declared.kinds.Word.{Word}
use Rattle.js_tokens.specs.declared.kinds.Mark.{Mark}
use Rattle.js_tokens.specs.declared.kinds.Piece.{Piece}
use Rattle.js_tokens.specs.declared.kinds.TokenKind.{TokenKind}
use Rattle.js_tokens.specs.declared.kinds.Token.{Token}
use Rattle.js_tokens.specs.declared.kinds.Word.TheVariants as words
use Rattle.js_tokens.specs.declared.kinds.Mark.TheVariants as marks
use Rattle.js_tokens.specs.declared.kinds.Piece.TheVariants as pieces
use Rattle.js_tokens.specs.declared.kinds.TokenKind.TheVariants as kinds
use Rattle.js_grammar.specs.declared.class.Class.{Class}
use Rattle.js_grammar.specs.declared.class.Class.TheVariants as classes

-- the bytes of a text from one place up to another
abbrev pub bytes_between : List ℕ → ℕ → ℕ → List ℕ
bytes_between text from to = take (to - from) (drop from text)

-- identifiers that some rows tell from others: `of` (13.7.5), `get` and `set` (14.3)
abbrev pub class_of_identifier : List ℕ → Class
class_of_identifier name =
    if bytes_eq name (codes "of") then classes.Of
    else if bytes_eq name (codes "get") then classes.Get
    else if bytes_eq name (codes "set") then classes.Set
    else classes.Identifier

-- reserved words (11.6.2)
abbrev pub class_of_word : Word → Class
class_of_word words.Break = classes.Break
class_of_word words.Case = classes.Case
class_of_word words.Catch = classes.Catch
class_of_word words.Class = classes.OtherWord
class_of_word words.Const = classes.Const
class_of_word words.Continue = classes.Continue
class_of_word words.Debugger = classes.Debugger
class_of_word words.Default = classes.Default
class_of_word words.Delete = classes.UnaryWord
class_of_word words.Do = classes.Do
class_of_word words.Else = classes.Else
class_of_word words.Enum = classes.OtherWord
class_of_word words.Export = classes.OtherWord
class_of_word words.Extends = classes.OtherWord
class_of_word words.False = classes.False
class_of_word words.Finally = classes.Finally
class_of_word words.For = classes.For
class_of_word words.Function = classes.Function
class_of_word words.If = classes.If
class_of_word words.Import = classes.OtherWord
class_of_word words.In = classes.In
class_of_word words.Instanceof = classes.Instanceof
class_of_word words.Let = classes.Let
class_of_word words.New = classes.New
class_of_word words.Null = classes.Null
class_of_word words.Return = classes.Return
class_of_word words.Super = classes.OtherWord
class_of_word words.Switch = classes.Switch
class_of_word words.This = classes.This
class_of_word words.Throw = classes.Throw
class_of_word words.True = classes.True
class_of_word words.Try = classes.Try
class_of_word words.Typeof = classes.UnaryWord
class_of_word words.Var = classes.Var
class_of_word words.Void = classes.UnaryWord
class_of_word words.While = classes.While
class_of_word words.With = classes.OtherWord
class_of_word words.Yield = classes.OtherWord

-- punctuators (11.7)
abbrev pub class_of_mark : Mark → Bool → Class
class_of_mark marks.OpenParen head = if head then classes.HeadParen else classes.OpenParen
class_of_mark marks.OpenBrace head = classes.OpenBrace
class_of_mark marks.CloseBrace head = classes.CloseBrace
class_of_mark marks.CloseParen head = classes.CloseParen
class_of_mark marks.OpenBracket head = classes.OpenBracket
class_of_mark marks.CloseBracket head = classes.CloseBracket
class_of_mark marks.Dot head = classes.Dot
class_of_mark marks.Ellipsis head = classes.Ellipsis
class_of_mark marks.Semicolon head = classes.Semicolon
class_of_mark marks.Comma head = classes.Comma
class_of_mark marks.Less head = classes.Relational
class_of_mark marks.Greater head = classes.Relational
class_of_mark marks.LessOrEqual head = classes.Relational
class_of_mark marks.GreaterOrEqual head = classes.Relational
class_of_mark marks.Equal head = classes.Equality
class_of_mark marks.NotEqual head = classes.Equality
class_of_mark marks.StrictEqual head = classes.Equality
class_of_mark marks.StrictNotEqual head = classes.Equality
class_of_mark marks.Plus head = classes.Sign
class_of_mark marks.Minus head = classes.Sign
class_of_mark marks.Star head = classes.Multiplicative
class_of_mark marks.Slash head = classes.Multiplicative
class_of_mark marks.Percent head = classes.Multiplicative
class_of_mark marks.Increment head = classes.Increment
class_of_mark marks.Decrement head = classes.Decrement
class_of_mark marks.ShiftLeft head = classes.Shift
class_of_mark marks.ShiftRight head = classes.Shift
class_of_mark marks.ShiftRightUnsigned head = classes.Shift
class_of_mark marks.BitAnd head = classes.BitwiseAnd
class_of_mark marks.BitOr head = classes.BitwiseOr
class_of_mark marks.BitXor head = classes.BitwiseXor
class_of_mark marks.Bang head = classes.Complement
class_of_mark marks.Tilde head = classes.Complement
class_of_mark marks.AndAnd head = classes.LogicalAnd
class_of_mark marks.OrOr head = classes.LogicalOr
class_of_mark marks.Question head = classes.Question
class_of_mark marks.Colon head = classes.Colon
class_of_mark marks.Assign head = classes.Equals
class_of_mark marks.PlusAssign head = classes.Compound
class_of_mark marks.MinusAssign head = classes.Compound
class_of_mark marks.StarAssign head = classes.Compound
class_of_mark marks.SlashAssign head = classes.Compound
class_of_mark marks.PercentAssign head = classes.Compound
class_of_mark marks.ShiftLeftAssign head = classes.Compound
class_of_mark marks.ShiftRightAssign head = classes.Compound
class_of_mark marks.ShiftRightUnsignedAssign head = classes.Compound
class_of_mark marks.BitAndAssign head = classes.Compound
class_of_mark marks.BitOrAssign head = classes.Compound
class_of_mark marks.BitXorAssign head = classes.Compound
class_of_mark marks.Arrow head = classes.Arrow

-- pieces of templates (11.8.6)
abbrev pub class_of_piece : Piece → Class
class_of_piece pieces.Whole = classes.TemplateWhole
class_of_piece pieces.Head = classes.TemplateHead
class_of_piece pieces.Middle = classes.TemplateMiddle
class_of_piece pieces.Tail = classes.TemplateTail

-- the class of a token of that kind in a text
abbrev pub class_of_kind : List ℕ → Token → TokenKind → Class
class_of_kind text t kinds.Identifier = class_of_identifier (bytes_between text t.from t.to)
class_of_kind text t (kinds.Reserved word) = class_of_word word
class_of_kind text t (kinds.Punctuator mark) = class_of_mark mark t.head
class_of_kind text t (kinds.Number value) = classes.Number
class_of_kind text t kinds.Text = classes.Text
class_of_kind text t (kinds.Template piece) = class_of_piece piece
class_of_kind text t kinds.End = classes.End

-- the class of a token of a text
abbrev pub class_in : List ℕ → Token → Class
class_in text t = class_of_kind text t t.kind
