-- What holds of each class and each symbol, found by computing it.
use Rattle.std.proofs.Common.{Bool, true, false, List, [], ◌∷◌, ◌≡◌, ◌<◌, ◌||◌, ◌&&◌, not, refl, lit<, get_or, length, nat_lt, Option, Some, None, sym, ap, ◌∙◌}
use Rattle.std.specs.List.{list_any, list_all}
use Rattle.std.proofs.lemmas.List.Folds.{list_all_at}
use Rattle.js_grammar.specs.declared.class.Class.{Class}
use Rattle.js_grammar.specs.declared.class.Class.TheVariants as classes
use Rattle.js_grammar.specs.declared.symbols.Mode.TheVariants as modes
use Rattle.js_grammar.specs.declared.symbols.Level.TheVariants as levels
use Rattle.js_grammar.specs.declared.symbols.Symbol.{Symbol}
use Rattle.js_grammar.specs.declared.symbols.Symbol.TheVariants as symbols
use Rattle.js_grammar.specs.declared.symbols.RowId.{RowId}
use Rattle.js_grammar.specs.Classes.{number_of}
use Rattle.js_grammar.specs.Choice.{begins_with, row_begins, takes_itself, may_be_empty, is_left_out, row_of}
use Rattle.js_grammar.specs.Derivation.{may_precede, is_restricted, is_tagged}
use Rattle.js_grammar.specs.Rows.{alternatives, row_symbols}
use Rattle.js_grammar.proofs.Begins.{and_first, and_second}
use Rattle.js_grammar.specs.Laws.{is_decided_by_order, begun_alternatives}

abbrev pub all_classes : List Class
all_classes = classes.End ∷ classes.Semicolon ∷ classes.Comma ∷ classes.OpenBrace ∷ classes.CloseBrace ∷ classes.OpenParen ∷ classes.HeadParen ∷ classes.CloseParen ∷ classes.OpenBracket ∷ classes.CloseBracket ∷ classes.Ellipsis ∷ classes.Equals ∷ classes.Compound ∷ classes.Arrow ∷ classes.Colon ∷ classes.Question ∷ classes.Dot ∷ classes.Increment ∷ classes.Decrement ∷ classes.LogicalOr ∷ classes.LogicalAnd ∷ classes.BitwiseOr ∷ classes.BitwiseXor ∷ classes.BitwiseAnd ∷ classes.Equality ∷ classes.Relational ∷ classes.Shift ∷ classes.Sign ∷ classes.Multiplicative ∷ classes.Complement ∷ classes.Identifier ∷ classes.Of ∷ classes.Get ∷ classes.Set ∷ classes.Number ∷ classes.Text ∷ classes.TemplateWhole ∷ classes.TemplateHead ∷ classes.TemplateMiddle ∷ classes.TemplateTail ∷ classes.Instanceof ∷ classes.In ∷ classes.UnaryWord ∷ classes.This ∷ classes.Null ∷ classes.True ∷ classes.False ∷ classes.New ∷ classes.Function ∷ classes.Let ∷ classes.Const ∷ classes.Var ∷ classes.Debugger ∷ classes.If ∷ classes.Else ∷ classes.For ∷ classes.While ∷ classes.Do ∷ classes.Continue ∷ classes.Break ∷ classes.Return ∷ classes.Throw ∷ classes.Switch ∷ classes.Case ∷ classes.Default ∷ classes.Try ∷ classes.Catch ∷ classes.Finally ∷ classes.OtherWord ∷ []

in_place : (c : Class) → get_or all_classes (number_of c) c ≡ c
in_place classes.End = refl
in_place _ = refl

below : (c : Class) → number_of c < 69
below classes.End = lit< tt
below _ = lit< tt

abbrev same : Bool → Bool → Bool
same true b = b
same false b = not b

same_equal : (a b : Bool) → a ≡ b → same a b ≡ true
same_equal true b e = sym e
same_equal false b e = ap not (sym e)

from_same : (a b : Bool) → same a b ≡ true → a ≡ b
from_same true b e = sym e
from_same false false e = refl
from_same false true e = e

-- a test that holds of each class in the list holds of each class
pub each_class : (p : Class → Bool) → list_all p all_classes ≡ true → (c : Class) → p c ≡ true
each_class p e c = elim (p c) as (λ b. p c ≡ b → b ≡ true) [ true ↦ λ h. refl | false ↦ λ h. ap not (sym e ∙ list_all_at p all_classes (number_of c) c (below c) (ap p (in_place c) ∙ h)) ] refl

disjoint_at : (s : Symbol) → list_all (λ c. same (nat_lt 1 (length (begun_alternatives s c))) (is_decided_by_order s c)) all_classes ≡ true
disjoint_at symbols.Script = refl
disjoint_at (symbols.Level levels.LogicalOr m) = refl
disjoint_at (symbols.Level _ m) = refl
disjoint_at (symbols.LevelTail levels.Relational modes.WithIn) = refl
disjoint_at (symbols.LevelTail levels.Relational modes.NoIn) = refl
disjoint_at (symbols.LevelTail _ _) = refl
disjoint_at _ = refl

pub disjoint : (s : Symbol) (c : Class) → nat_lt 1 (length (begun_alternatives s c)) ≡ is_decided_by_order s c
disjoint s c = from_same (nat_lt 1 (length (begun_alternatives s c))) (is_decided_by_order s c) (each_class (λ c. same (nat_lt 1 (length (begun_alternatives s c))) (is_decided_by_order s c)) (disjoint_at s) c)

-- a symbol is empty where all symbols of one of its rows are: more rows add nothing
pub empty_settled : (s : Symbol) → list_any (λ r. list_all may_be_empty (row_symbols r)) (alternatives s) ≡ may_be_empty s
empty_settled symbols.Script = refl
empty_settled (symbols.Level levels.LogicalOr m) = refl
empty_settled (symbols.Level _ m) = refl
empty_settled _ = refl

all_same : (f g : Class → Bool) → ((c : Class) → f c ≡ g c) → (cs : List Class) → list_all (λ c. same (f c) (g c)) cs ≡ true
all_same f g e [] = refl
all_same f g e (c ∷ cs) = ap (λ b. b && list_all (λ c. same (f c) (g c)) cs) (same_equal (f c) (g c) (e c)) ∙ all_same f g e cs

begins_at : (s : Symbol) → list_all (λ c. same (takes_itself c s || list_any (row_begins (begins_with c) c) (alternatives s)) (begins_with c s)) all_classes ≡ true
begins_at symbols.Script = refl
begins_at (symbols.Level levels.LogicalOr m) = refl
begins_at (symbols.Level _ m) = refl
begins_at (symbols.LevelTail levels.Relational modes.WithIn) = refl
begins_at (symbols.LevelTail levels.Relational modes.NoIn) = refl
begins_at (symbols.LevelTail _ _) = refl
begins_at (symbols.Take t) = all_same (λ c. takes_itself c (symbols.Take t) || list_any (row_begins (begins_with c) c) (alternatives (symbols.Take t))) (λ c. begins_with c (symbols.Take t)) (λ c. refl) all_classes
begins_at _ = refl

-- a symbol begins with a token that it takes itself, or that one of its rows begins with: more rows add nothing
pub begins_settled : (s : Symbol) (c : Class) → (takes_itself c s || list_any (row_begins (begins_with c) c) (alternatives s)) ≡ begins_with c s
begins_settled s c = from_same _ _ (each_class (λ c. same (takes_itself c s || list_any (row_begins (begins_with c) c) (alternatives s)) (begins_with c s)) (begins_at s) c)

abbrev may_be_taken : Symbol → Class → Bool → Option RowId → Bool
may_be_taken s c newline None = true
may_be_taken s c newline (Some r) = may_precede r c newline && not (is_tagged s c)

taken_at : (s : Symbol) (newline : Bool) → list_all (λ c. may_be_taken s c newline (row_of s c newline)) all_classes ≡ true
taken_at symbols.Script true = refl
taken_at (symbols.Level levels.LogicalOr m) true = refl
taken_at (symbols.Level _ m) _ = refl
taken_at (symbols.LevelTail levels.Relational modes.WithIn) true = refl
taken_at (symbols.LevelTail levels.Relational modes.NoIn) true = refl
taken_at (symbols.LevelTail _ _) _ = refl
taken_at _ true = refl
taken_at _ false = refl

taken_fits : (s : Symbol) (c : Class) (newline : Bool) (r : RowId) → row_of s c newline ≡ Some r → (may_precede r c newline && not (is_tagged s c)) ≡ true
taken_fits s c newline r e = ap (may_be_taken s c newline) (sym e) ∙ each_class (λ c. may_be_taken s c newline (row_of s c newline)) (taken_at s newline) c

-- the row that a symbol takes may stand before the token
pub taken_precedes : (s : Symbol) (c : Class) (newline : Bool) (r : RowId) → row_of s c newline ≡ Some r → may_precede r c newline ≡ true
taken_precedes s c newline r e = and_first (may_precede r c newline) _ (taken_fits s c newline r e)

-- and the token is no template of a tag
pub taken_untagged : (s : Symbol) (c : Class) (newline : Bool) (r : RowId) → row_of s c newline ≡ Some r → not (is_tagged s c) ≡ true
taken_untagged s c newline r e = and_second (may_precede r c newline) _ (taken_fits s c newline r e)

first_not : (a b d : Bool) → (not a && not b && d) ≡ true → a ≡ false
first_not true b d e = sym e
first_not false b d e = refl

second_not : (a b d : Bool) → (not a && not (b && true) && d) ≡ true → b ≡ false
second_not true true d e = sym e
second_not false true d e = sym e
second_not a false d e = refl

pub left_out_not_taken : (s : Symbol) (c : Class) (newline : Bool) (r : RowId) → row_of s c newline ≡ Some r → is_left_out c r ≡ false
left_out_not_taken s c newline r e = first_not (is_left_out c r) (is_restricted r && newline) _ (taken_precedes s c newline r e)

pub restricted_not_taken : (s : Symbol) (c : Class) (r : RowId) → row_of s c true ≡ Some r → is_restricted r ≡ false
restricted_not_taken s c r e = second_not (is_left_out c r) (is_restricted r) _ (taken_precedes s c true r e)
