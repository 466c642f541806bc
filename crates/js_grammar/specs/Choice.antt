-- Which row a symbol takes at a token.
use Rattle.std.specs.Prelude.{ℕ, zero, suc, Bool, true, false, not, ◌&&◌, ◌||◌, List, [], ◌∷◌, Option, Some, None, if◌then◌else◌}
use Rattle.std.specs.List.{list_any, list_all, find}
use Rattle.std.specs.Option.{option_or}
use Rattle.js_grammar.specs.declared.class.Class.{Class}
use Rattle.js_grammar.specs.declared.class.Class.TheVariants as classes
use Rattle.js_grammar.specs.declared.symbols.Symbol.{Symbol}
use Rattle.js_grammar.specs.declared.symbols.Symbol.TheVariants as symbols
use Rattle.js_grammar.specs.declared.symbols.RowId.{RowId}
use Rattle.js_grammar.specs.declared.symbols.RowId.TheVariants as rows
use Rattle.js_grammar.specs.Classes.{same_class, takes_class, is_among}
use Rattle.js_grammar.specs.Rows.{alternatives, row_symbols}

-- whether a symbol may be empty, found within n rows of it
abbrev pub empty_within : ℕ → Symbol → Bool
empty_within zero s = false
empty_within (suc n) s = list_any (λ r. list_all (empty_within n) (row_symbols r)) (alternatives s)

-- no symbol leads to its first token, or to nothing, through more rows
abbrev pub depth : ℕ
depth = 30

abbrev pub may_be_empty : Symbol → Bool
may_be_empty = empty_within depth

-- a token that a symbol takes by itself
abbrev pub takes_itself : Class → Symbol → Bool
takes_itself c (symbols.Take t) = takes_class t c
takes_itself c symbols.Semi = same_class classes.Semicolon c
takes_itself c _ = false

-- a list of symbols begins with a token where its first one does, or where that one may be empty and the rest does
abbrev pub list_begins : (Symbol → Bool) → List Symbol → Bool
list_begins begins [] = false
list_begins begins (s ∷ ss) = begins s || (may_be_empty s && list_begins begins ss)

-- an expression that is a statement does not begin with `function` (13.5 of ECMA-262)
abbrev pub is_expression_statement : RowId → Bool
is_expression_statement rows.StatExpr = true
is_expression_statement _ = false

abbrev pub is_left_out : Class → RowId → Bool
is_left_out c r = is_expression_statement r && same_class classes.Function c

-- whether a row begins with a token, by whether a symbol does
abbrev pub row_begins : (Symbol → Bool) → Class → RowId → Bool
row_begins begins c r = not (is_left_out c r) && list_begins begins (row_symbols r)

-- whether a symbol begins with a token, found within n rows of it
abbrev pub begins_within : ℕ → Class → Symbol → Bool
begins_within zero c s = false
begins_within (suc n) c s = takes_itself c s || list_any (row_begins (begins_within n c) c) (alternatives s)

-- whether a symbol begins with a token of the class
abbrev pub begins_with : Class → Symbol → Bool
begins_with = begins_within depth

-- a row that a token behind a newline does not begin (11.9.1 of ECMA-262: "no LineTerminator here")
abbrev pub needs_same_line : RowId → Bool
needs_same_line rows.JumpLabel = true
needs_same_line rows.RetExpr = true
needs_same_line (rows.AssignTailArrow m) = true
needs_same_line rows.PostIncrement = true
needs_same_line rows.PostDecrement = true
needs_same_line _ = false

-- a row that a symbol takes on top of the stack, where the token begins it
abbrev pub is_begun : Class → Bool → RowId → Bool
is_begun c newline r = row_begins (begins_with c) c r && not (needs_same_line r && newline)

abbrev pub is_semicolon : Symbol → Bool
is_semicolon symbols.Semi = true
is_semicolon _ = false

-- a semicolon alone
abbrev pub is_lone_semicolon : List Symbol → Bool
is_lone_semicolon [] = false
is_lone_semicolon (s ∷ []) = is_semicolon s
is_lone_semicolon (s ∷ t ∷ ss) = false

-- a row that is taken where the token begins no other one
abbrev pub stands_for_nothing : RowId → Bool
stands_for_nothing r = is_lone_semicolon (row_symbols r) || list_all may_be_empty (row_symbols r)

-- parameters are only empty before their `)`, and a template does not follow what it would be the tag's
abbrev pub may_stay_empty : Symbol → Class → Bool
may_stay_empty symbols.Params c = same_class classes.CloseParen c
may_stay_empty symbols.LhsTail c = not (is_among c (classes.TemplateWhole ∷ classes.TemplateHead ∷ []))
may_stay_empty symbols.MemberTail c = not (is_among c (classes.TemplateWhole ∷ classes.TemplateHead ∷ []))
may_stay_empty _ c = true

-- the expression of a `throw` stands on its line
abbrev pub is_throw : Symbol → Bool
is_throw symbols.Throw = true
is_throw _ = false

-- of one alternative that one; of several the first one that the token begins, or else the first that stands for nothing
abbrev pub chosen : Symbol → Class → Bool → List RowId → Option RowId
chosen s c newline [] = None
chosen s c newline (r ∷ []) = if is_throw s && newline then None else Some r
chosen s c newline (q ∷ r ∷ rs) =
    option_or (find (is_begun c newline) (q ∷ r ∷ rs)) (if may_stay_empty s c then find stands_for_nothing (q ∷ r ∷ rs) else None)

-- the row that a symbol takes on top of the stack at a token of the class, which may stand behind a newline
abbrev pub row_of : Symbol → Class → Bool → Option RowId
row_of s c newline = chosen s c newline (alternatives s)
