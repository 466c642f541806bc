-- What holds of the machine's runs.
use Rattle.std.specs.Prelude.{◌≡◌, ℕ, List, [], ◌∷◌, map}
use Rattle.js_tokens.specs.declared.kinds.Token.{Token}
use Rattle.js_grammar.specs.TokenClasses.{class_in}
use Rattle.js_grammar.specs.Derivation.{Leaf, token, counted, Derives}
use Rattle.js_grammar.specs.declared.symbols.Symbol.TheVariants as symbols
use Rattle.js_grammar.specs.declared.symbols.RowId.{RowId}
use Rattle.js_machine.specs.declared.events.Event.{Event}
use Rattle.js_machine.specs.declared.events.Event.TheVariants.{Row, Took, Inserted}
use Rattle.js_machine.specs.Machine.{Outcome, Accepted, Ends}

-- the rows of a list of steps
abbrev pub rows_among : List Event → List RowId
rows_among [] = []
rows_among (Row r ∷ es) = r ∷ rows_among es
rows_among (Took ∷ es) = rows_among es
rows_among (Inserted ∷ es) = rows_among es

-- the leaves of a list of steps, which take these tokens
abbrev pub leaves : List Event → List Leaf → List Leaf
leaves [] ls = []
leaves (Row r ∷ es) ls = leaves es ls
leaves (Inserted ∷ es) ls = counted ∷ leaves es ls
leaves (Took ∷ es) [] = []
leaves (Took ∷ es) (l ∷ ls) = l ∷ leaves es ls

-- the tokens among leaves: all but the semicolons that count as there
abbrev pub tokens_among : List Leaf → List Leaf
tokens_among [] = []
tokens_among (token c newline ∷ ls) = token c newline ∷ tokens_among ls
tokens_among (counted ∷ ls) = tokens_among ls

-- a token of a text, of its class, and after a newline where one stands before it
abbrev pub token_in : List ℕ → Token → Leaf
token_in text t = token (class_in text t) t.newline_before

abbrev pub tokens_in : List ℕ → List Token → List Leaf
tokens_in text ts = map (token_in text) ts

-- what the machine accepts, the grammar derives, with no machine: by the rows of the steps, from the tokens and the
-- semicolons that count as there
abbrev pub AcceptedIsDerived : Type 0
AcceptedIsDerived = (text : List ℕ) (ts : List Token) (events : List Event) → Ends text ts (Accepted events)
    → Derives (symbols.Script ∷ []) (leaves events (tokens_in text ts)) (rows_among events)

-- and from no other tokens: each token of the text is a leaf, in the text's order
abbrev pub AcceptedTakesAll : Type 0
AcceptedTakesAll = (text : List ℕ) (ts : List Token) (events : List Event) → Ends text ts (Accepted events)
    → tokens_among (leaves events (tokens_in text ts)) ≡ tokens_in text ts

-- the machine's run over the tokens of a text ends, and in one way
abbrev pub RunsEnd : Type 0
RunsEnd = (text : List ℕ) (ts : List Token) → (end : Outcome) × Ends text ts end

abbrev pub EndsAreEqual : Type 0
EndsAreEqual = (text : List ℕ) (ts : List Token) (one other : Outcome) → Ends text ts one → Ends text ts other → one ≡ other
