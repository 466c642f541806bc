-- The derivations of the grammar, with no machine (5.1.1 and 5.1.4 of ECMA-262), and where in them a semicolon may count as
-- there and no newline may stand (11.9).
use Rattle.std.specs.Prelude.{Bool, true, false, not, ◌&&◌, ◌||◌, List, [], ◌∷◌, ◌++◌, ◌≡◌}
use Rattle.std.specs.List.{Contains, list_any}
use Rattle.js_grammar.specs.declared.class.Class.{Class}
use Rattle.js_grammar.specs.declared.class.Class.TheVariants as classes
use Rattle.js_grammar.specs.declared.symbols.Terminal.{Terminal}
use Rattle.js_grammar.specs.declared.symbols.Symbol.{Symbol}
use Rattle.js_grammar.specs.declared.symbols.Symbol.TheVariants as symbols
use Rattle.js_grammar.specs.declared.symbols.RowId.{RowId}
use Rattle.js_grammar.specs.declared.symbols.RowId.TheVariants as rows
use Rattle.js_grammar.specs.Classes.{takes_class, same_class, is_among}
use Rattle.js_grammar.specs.Choice.{is_left_out, row_begins, begins_with}
use Rattle.js_grammar.specs.Rows.{alternatives, row_symbols}

-- what is derived: a token of a class, which may stand after a newline, or a semicolon that is not in the text and counts as
-- there before the token that follows (11.9)
pub data Leaf : Type 0 where
  token : Class → Bool → Leaf
  counted : Leaf

-- the first token of the leaves passes the test
abbrev pub first_token_is : (Class → Bool → Bool) → List Leaf → Bool
first_token_is test [] = false
first_token_is test (token c newline ∷ ls) = test c newline
first_token_is test (counted ∷ ls) = first_token_is test ls

-- a semicolon counts as there before a token that is no `;` itself, and stands after a newline, is `}` or is the end (11.9.1)
abbrev pub counts_before : Class → Bool → Bool
counts_before c newline = not (is_among c (classes.Semicolon ∷ [])) && (newline || is_among c (classes.CloseBrace ∷ classes.End ∷ []))

-- the restricted productions: no newline may stand before the token that the row begins with (11.9.1)
abbrev pub is_restricted : RowId → Bool
-- the label of `continue` and of `break` (13.8, 13.9)
is_restricted rows.JumpLabel = true
-- the expression of `return` (13.10)
is_restricted rows.RetExpr = true
-- the expression of `throw` (13.14)
is_restricted rows.Throw = true
-- the `=>` of an arrow function (14.2)
is_restricted (rows.AssignTailArrow m) = true
-- `++` and `--` after an expression (12.4)
is_restricted rows.PostIncrement = true
is_restricted rows.PostDecrement = true
is_restricted _ = false

-- the token begins the row, and no newline before it stands against that
abbrev pub begins_here : Class → Bool → RowId → Bool
begins_here c newline r = row_begins (begins_with c) c r && not (is_restricted r && newline)

-- a template after an expression, which is its tag (12.3.7): ECMA-262 takes it there, and no row does
abbrev pub is_tagged : Symbol → Class → Bool
is_tagged symbols.LhsTail c = is_among c (classes.TemplateWhole ∷ classes.TemplateHead ∷ [])
is_tagged symbols.MemberTail c = is_among c (classes.TemplateWhole ∷ classes.TemplateHead ∷ [])
is_tagged _ c = false

-- no other row of the symbol takes the token: where it begins an alternative, it begins this one
abbrev pub no_other_begins : Symbol → RowId → Class → Bool → Bool
no_other_begins s r c newline = not (is_tagged s c) && (begins_here c newline r || not (list_any (begins_here c newline) (alternatives s)))

-- an `if` without `else` does not stand before `else`, which belongs to the nearest `if` (13.6)
abbrev pub is_left_without_else : Class → RowId → Bool
is_left_without_else c rows.ElseEmpty = same_class classes.Else c
is_left_without_else c _ = false

-- the row may stand before the token: no expression that is a statement before `function` (13.5), no restricted production
-- before a newline, and no `if` without `else` before `else`
abbrev pub may_precede : RowId → Class → Bool → Bool
may_precede r c newline = not (is_left_out c r) && not (is_restricted r && newline) && not (is_left_without_else c r)

-- a row of the symbol may stand before these leaves. A semicolon counts as there only before an offending token, which the
-- grammar does not take there: by no other row of the symbols before it (11.9.1)
abbrev pub may_begin : Symbol → RowId → List Leaf → Bool
may_begin s r [] = true
may_begin s r (token c newline ∷ ls) = may_precede r c newline
may_begin s r (counted ∷ ls) = first_token_is (no_other_begins s r) ls

-- the symbols derive the leaves by the rows, each symbol from the left
pub data Derives : List Symbol → List Leaf → List RowId → Type 0 where
  nothing : Derives [] [] []
  takes : (t : Terminal) (c : Class) (newline : Bool) (ss : List Symbol) (ls : List Leaf) (rs : List RowId)
      → takes_class t c ≡ true → Derives ss ls rs → Derives (symbols.Take t ∷ ss) (token c newline ∷ ls) rs
  semicolon : (newline : Bool) (ss : List Symbol) (ls : List Leaf) (rs : List RowId)
      → Derives ss ls rs → Derives (symbols.Semi ∷ ss) (token classes.Semicolon newline ∷ ls) rs
  counts : (ss : List Symbol) (ls : List Leaf) (rs : List RowId)
      → first_token_is counts_before ls ≡ true → Derives ss ls rs → Derives (symbols.Semi ∷ ss) (counted ∷ ls) rs
  expands : (s : Symbol) (r : RowId) (ss : List Symbol) (ls : List Leaf) (rs : List RowId)
      → Contains (alternatives s) r → may_begin s r ls ≡ true
      → Derives (row_symbols r ++ ss) ls rs → Derives (s ∷ ss) ls (r ∷ rs)
