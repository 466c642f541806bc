-- What the grammar's rows have to do with each other.
use Rattle.std.specs.Prelude.{Bool, true, false, List, [], ◌∷◌, ◌≡◌, ◌&&◌, ◌||◌, length, nat_lt, Some}
use Rattle.std.specs.List.{Contains, filter, list_any, list_all}
use Rattle.js_grammar.specs.declared.class.Class.{Class}
use Rattle.js_grammar.specs.declared.class.Class.TheVariants as classes
use Rattle.js_grammar.specs.declared.symbols.Symbol.{Symbol}
use Rattle.js_grammar.specs.declared.symbols.Symbol.TheVariants as symbols
use Rattle.js_grammar.specs.declared.symbols.RowId.{RowId}
use Rattle.js_grammar.specs.Classes.{same_class, is_among, identifiers}
use Rattle.js_grammar.specs.Choice.{begins_with, row_begins, takes_itself, may_be_empty, list_begins, is_left_out, needs_same_line, is_throw, row_of}
use Rattle.js_grammar.specs.Derivation.{Leaf, token, Derives, is_restricted, no_other_begins}
use Rattle.js_grammar.specs.Rows.{alternatives, row_symbols}

-- where several alternatives of a symbol begin with a token, and the first of them is taken: a block before an expression
-- (13.5), the body of an arrow function before an object (14.2), its head before parentheses (12.2), `get`, `set` and
-- shorthands before other names (12.2.6)
abbrev pub is_decided_by_order : Symbol → Class → Bool
is_decided_by_order symbols.Stat c = same_class classes.OpenBrace c
is_decided_by_order (symbols.Arrow m) c = same_class classes.OpenBrace c
is_decided_by_order symbols.Primary c = same_class classes.HeadParen c
is_decided_by_order symbols.Prop c = is_among c identifiers
is_decided_by_order _ c = false

-- the alternatives of a symbol that begin with a token of the class
abbrev pub begun_alternatives : Symbol → Class → List RowId
begun_alternatives s c = filter (row_begins (begins_with c) c) (alternatives s)

-- no two alternatives of a symbol begin with one token, but where the first of them is taken
abbrev pub AlternativesAreDisjoint : Type 0
AlternativesAreDisjoint = (s : Symbol) (c : Class) → nat_lt 1 (length (begun_alternatives s c)) ≡ is_decided_by_order s c

-- the row that a symbol takes is one of its alternatives
abbrev pub RowsAreAlternatives : Type 0
RowsAreAlternatives = (s : Symbol) (c : Class) (newline : Bool) (r : RowId)
    → row_of s c newline ≡ Some r → Contains (alternatives s) r

-- an expression statement is never begun with `function`
abbrev pub LeftOutRowsAreNotTaken : Type 0
LeftOutRowsAreNotTaken = (s : Symbol) (c : Class) (newline : Bool) (r : RowId)
    → row_of s c newline ≡ Some r → is_left_out c r ≡ false

-- a restricted production is never taken at a token after a newline
abbrev pub RestrictedRowsAreNotTaken : Type 0
RestrictedRowsAreNotTaken = (s : Symbol) (c : Class) (r : RowId) → row_of s c true ≡ Some r → is_restricted r ≡ false

-- where the token begins an alternative, the row that the symbol takes is one that it begins
abbrev pub TokensTakeTheirRows : Type 0
TokensTakeTheirRows = (s : Symbol) (c : Class) (newline : Bool) (r : RowId)
    → row_of s c newline ≡ Some r → no_other_begins s r c newline ≡ true

-- an alternative that begins with the token is the row that the symbol takes, but where the first of several is taken and
-- where a newline stands against it
abbrev pub BegunRowsAreTaken : Type 0
BegunRowsAreTaken = (s : Symbol) (c : Class) (newline : Bool) (r : RowId)
    → Contains (alternatives s) r → row_begins (begins_with c) c r ≡ true → is_decided_by_order s c ≡ false
    → (needs_same_line r && newline) ≡ false → (is_throw s && newline) ≡ false → row_of s c newline ≡ Some r

-- a symbol begins with a token just where it takes the token itself or one of its alternatives begins with it, however
-- many rows lie between
abbrev pub FirstsAreSettled : Type 0
FirstsAreSettled = (s : Symbol) (c : Class)
    → begins_with c s ≡ (takes_itself c s || list_any (row_begins (begins_with c) c) (alternatives s))

-- a symbol may be empty just where all symbols of one of its alternatives may
abbrev pub EmptinessIsSettled : Type 0
EmptinessIsSettled = (s : Symbol) → may_be_empty s ≡ list_any (λ r. list_all may_be_empty (row_symbols r)) (alternatives s)

-- symbols that derive leaves of which a token is the first begin with that token
abbrev pub FirstTokensAreKnown : Type 0
FirstTokensAreKnown = (ss : List Symbol) (c : Class) (newline : Bool) (ls : List Leaf) (rs : List RowId)
    → Derives ss (token c newline ∷ ls) rs → list_begins (begins_with c) ss ≡ true

-- symbols that derive nothing may be empty
abbrev pub EmptySymbolsAreKnown : Type 0
EmptySymbolsAreKnown = (ss : List Symbol) (rs : List RowId) → Derives ss [] rs → list_all may_be_empty ss ≡ true
