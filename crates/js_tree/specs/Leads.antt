-- Steps that lead from symbols to nothing: the derivation in the order of the steps.
use Rattle.std.specs.Prelude.{◌≡◌, Bool, true, false, List, [], ◌∷◌, ◌++◌}
use Rattle.std.specs.List.{Contains}
use Rattle.js_grammar.specs.Rows.{alternatives, row_symbols}
use Rattle.js_grammar.specs.declared.symbols.RowId.{RowId}
use Rattle.js_grammar.specs.declared.symbols.Symbol.{Symbol}
use Rattle.js_grammar.specs.declared.symbols.Symbol.TheVariants as symbols
use Rattle.js_machine.specs.declared.events.Event.{Event}
use Rattle.js_machine.specs.declared.events.Event.TheVariants.{Row, Took, Inserted}

-- a token, or a semicolon
abbrev pub is_leaf : Symbol → Bool
is_leaf symbols.Semi = true
is_leaf (symbols.Take t) = true
is_leaf _ = false

-- each step takes the first symbol: a token or a semicolon goes, and a row's symbols stand in place of the row's own
pub data Leads : List Symbol → List Event → Type 0 where
  over : Leads [] []
  took : (s : Symbol) (ss : List Symbol) (es : List Event) → is_leaf s ≡ true → Leads ss es → Leads (s ∷ ss) (Took ∷ es)
  counts : (s : Symbol) (ss : List Symbol) (es : List Event) → is_leaf s ≡ true → Leads ss es → Leads (s ∷ ss) (Inserted ∷ es)
  expands : (s : Symbol) (r : RowId) (ss : List Symbol) (es : List Event) → Contains (alternatives s) r → Leads (row_symbols r ++ ss) es → Leads (s ∷ ss) (Row r ∷ es)
