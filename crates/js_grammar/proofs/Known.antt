-- The tests of the definition are closed under the rows, so they know each derivation's first token.
use Rattle.std.proofs.Common.{Bool, true, List, [], ◌∷◌, ◌≡◌, refl, sym, ap, ◌∙◌}
use Rattle.std.specs.List.{Contains, list_all}
use Rattle.js_grammar.specs.declared.class.Class.{Class}
use Rattle.js_grammar.specs.declared.class.Class.TheVariants as classes
use Rattle.js_grammar.specs.declared.symbols.Symbol.{Symbol}
use Rattle.js_grammar.specs.declared.symbols.Symbol.TheVariants as symbols
use Rattle.js_grammar.specs.declared.symbols.Terminal.{Terminal}
use Rattle.js_grammar.specs.declared.symbols.RowId.{RowId}
use Rattle.js_grammar.specs.Classes.{takes_class}
use Rattle.js_grammar.specs.Choice.{begins_with, list_begins, row_begins, takes_itself, may_be_empty}
use Rattle.js_grammar.specs.Derivation.{Leaf, token, Derives}
use Rattle.js_grammar.specs.Rows.{alternatives, row_symbols}
use Rattle.js_grammar.proofs.Begins.{any_from, first_of, empty_of, or_left, or_right}
use Rattle.js_grammar.proofs.Each.{begins_settled, empty_settled}

empty_closed : (s : Symbol) (r : RowId) → Contains (alternatives s) r → list_all may_be_empty (row_symbols r) ≡ true → may_be_empty s ≡ true
empty_closed s r h e = sym (empty_settled s) ∙ any_from (λ r. list_all may_be_empty (row_symbols r)) (alternatives s) r h e

begins_closed : (c : Class) (s : Symbol) (r : RowId) → Contains (alternatives s) r → row_begins (begins_with c) c r ≡ true → begins_with c s ≡ true
begins_closed c s r h e = sym (begins_settled s c) ∙ or_right (takes_itself c s) _ (any_from (row_begins (begins_with c) c) (alternatives s) r h e)

token_taken : (c : Class) (t : Terminal) → takes_class t c ≡ true → begins_with c (symbols.Take t) ≡ true
token_taken c t e = sym (begins_settled (symbols.Take t) c) ∙ or_left (takes_class t c) _ e

semicolon_taken : (c : Class) → classes.Semicolon ≡ c → begins_with c symbols.Semi ≡ true
semicolon_taken c e = ap (λ k. begins_with k symbols.Semi) (sym e) ∙ refl

pub first_known : (ss : List Symbol) (c : Class) (newline : Bool) (ls : List Leaf) (rs : List RowId)
    → Derives ss (token c newline ∷ ls) rs → list_begins (begins_with c) ss ≡ true
first_known ss c newline ls rs d = first_of c newline (begins_with c) (token_taken c) (semicolon_taken c) (begins_closed c) empty_closed ss ls rs d

pub empty_known : (ss : List Symbol) (rs : List RowId) → Derives ss [] rs → list_all may_be_empty ss ≡ true
empty_known = empty_of empty_closed
