-- What is left out of the language, told where the machine is stuck.
use Rattle.std.specs.Prelude.{Bool, true, false, ◌&&◌, ◌||◌, ◌==◌, List, [], ◌∷◌, Option, Some, None}
use Rattle.std.specs.List.{find}
use denote.Enum.Declared.{tag_of}
use Rattle.js_tokens.specs.contracts.kinds.Word as word
use Rattle.js_tokens.specs.contracts.kinds.Mark as mark
use Rattle.js_tokens.specs.declared.kinds.Word.{Word}
use Rattle.js_tokens.specs.declared.kinds.Word.TheVariants as words
use Rattle.js_tokens.specs.declared.kinds.Mark.{Mark}
use Rattle.js_tokens.specs.declared.kinds.Mark.TheVariants as marks
use Rattle.js_tokens.specs.declared.kinds.TokenKind.{TokenKind}
use Rattle.js_tokens.specs.declared.kinds.TokenKind.TheVariants as kinds
use Rattle.js_grammar.specs.declared.class.Class.{Class}
use Rattle.js_grammar.specs.declared.class.Class.TheVariants as classes
use Rattle.js_grammar.specs.declared.symbols.Symbol.{Symbol}
use Rattle.js_grammar.specs.declared.symbols.Symbol.TheVariants as symbols
use Rattle.js_grammar.specs.declared.symbols.Terminal.{Terminal}
use Rattle.js_grammar.specs.declared.symbols.Terminal.TheVariants as terminals
use Rattle.js_grammar.specs.Classes.{is_among}
use Rattle.js_machine.specs.declared.lookahead.Lookahead.{Lookahead}
use Rattle.js_machine.specs.declared.stops.Left.{Left}
use Rattle.js_machine.specs.declared.stops.Left.TheVariants as lefts

-- the token is this reserved word
abbrev pub is_word : Word → TokenKind → Bool
is_word w (kinds.Reserved v) = tag_of word.the_type w == tag_of word.the_type v
is_word w _ = false

-- the token is this punctuator
abbrev pub is_mark : Mark → TokenKind → Bool
is_mark m (kinds.Punctuator n) = tag_of mark.the_type m == tag_of mark.the_type n
is_mark m _ = false

-- the token before is of one of these classes
abbrev pub is_behind : List Class → Option Class → Bool
is_behind ks None = false
is_behind ks (Some c) = is_among c ks

-- symbols behind a template of which they would be the tag (12.3.7)
abbrev pub is_tail : Symbol → Bool
is_tail symbols.LhsTail = true
is_tail symbols.MemberTail = true
is_tail _ = false

abbrev pub is_bind : Terminal → Bool
is_bind terminals.Bind = true
is_bind _ = false

-- symbols that begin with a name that is bound (13.3.3)
abbrev pub is_binding : Symbol → Bool
is_binding (symbols.Take t) = is_bind t
is_binding symbols.Params = true
is_binding symbols.ParamNext = true
is_binding _ = false

abbrev pub is_statement : Symbol → Bool
is_statement symbols.Body = true
is_statement symbols.Stat = true
is_statement _ = false

-- whether this is what is left out, where a symbol is wanted, behind a token of a class, and another token comes
abbrev pub fits : Symbol → Option Class → Lookahead → Left → Bool
fits s before t lefts.Class = is_word words.Class t.kind
fits s before t lefts.Super = is_word words.Super t.kind
fits s before t lefts.With = is_word words.With t.kind
fits s before t lefts.Module = is_word words.Import t.kind || is_word words.Export t.kind
fits s before t lefts.Generator = is_word words.Yield t.kind || (is_mark marks.Star t.kind && is_behind (classes.Function ∷ classes.OpenBrace ∷ classes.Comma ∷ []) before)
fits s before t lefts.TaggedTemplate = is_among t.class (classes.TemplateWhole ∷ classes.TemplateHead ∷ []) && is_tail s
fits s before t lefts.BindingPattern = is_among t.class (classes.OpenBracket ∷ classes.OpenBrace ∷ []) && is_binding s
fits s before t lefts.BareFunction = is_among t.class (classes.Function ∷ []) && is_statement s
fits s before t lefts.NewTarget = is_among t.class (classes.Dot ∷ []) && is_behind (classes.New ∷ []) before
fits s before t lefts.Regex = is_mark marks.Slash t.kind || is_mark marks.SlashAssign t.kind

-- in the order in which it is told
abbrev pub all_left : List Left
all_left = lefts.Class ∷ lefts.Super ∷ lefts.With ∷ lefts.Module ∷ lefts.Generator ∷ lefts.TaggedTemplate ∷ lefts.BindingPattern ∷ lefts.BareFunction ∷ lefts.NewTarget ∷ lefts.Regex ∷ []

-- the first that fits
abbrev pub left_of : Symbol → Option Class → Lookahead → Option Left
left_of s before t = find (fits s before t) all_left
