-- Why the tree of an accepted run is that of a script.
use Rattle.std.proofs.Common.{◌≡◌, ◌==◌, ℕ, zero, suc, length, List, [], ◌∷◌, ◌++◌, reverse, Ok, refl, sym, ap, ◌∙◌, subst, arith}
use Rattle.std.specs.List.{Contains}
use Rattle.bast_schema.specs.declared.kind.Kind.{Kind}
use Rattle.bast_schema.specs.declared.kind.Kind.TheVariants as kinds
use Rattle.bast_schema.specs.Tree.{Tree, child, kind_of, Data}
use Rattle.js_grammar.specs.Derivation.{Leaf as GrammarLeaf, Derives, nothing, takes, semicolon, counts, expands}
use Rattle.js_grammar.specs.Rows.{alternatives}
use Rattle.js_grammar.specs.declared.symbols.RowId.{RowId}
use Rattle.js_grammar.specs.declared.symbols.RowId.TheVariants as rows
use Rattle.js_grammar.specs.declared.symbols.Symbol.{Symbol}
use Rattle.js_grammar.specs.declared.symbols.Symbol.TheVariants as symbols
use Rattle.js_machine.specs.Laws.{rows_among, leaves, tokens_in}
use Rattle.js_machine.specs.Machine.{Accepted, Ends}
use Rattle.js_machine.specs.declared.events.Event.{Event}
use Rattle.js_machine.specs.declared.events.Event.TheVariants.{Row, Took, Inserted}
use Rattle.js_machine.proofs.Explained.{whole}
use Rattle.js_tokens.specs.declared.kinds.Token.{Token}
use Rattle.js_tree.specs.Finishes.{finish_on}
use Rattle.js_tree.specs.Image.{row_part, leaf_part, event_part, image, root, tree_of}
use Rattle.js_tree.specs.Nodes.{one, limited}
use Rattle.js_tree.specs.Parts.{one_node}
use Rattle.js_tree.specs.Recipes.{recipe}
use Rattle.js_tree.specs.Results.{broken}
use Rattle.js_tree.specs.Steps.{gathered, step_on, closed, no_work}
use Rattle.js_tree.specs.declared.leaf.Leaf.{Leaf}
use Rattle.js_tree.specs.declared.parts.Part.{Part}
use Rattle.js_tree.specs.declared.parts.Part.TheVariants as parts
use Rattle.js_tree.specs.declared.recipe.Finish.TheVariants as finishes
use Rattle.js_tree.specs.declared.recipe.Step.{Step}
use Rattle.js_tree.specs.declared.recipe.Step.TheVariants as steps
use Rattle.js_tree.specs.declared.work.Work.{Work}
use Rattle.js_tree_laws.proofs.Holding.{Holds, then, each_result, any, either}
use Rattle.js_tree_laws.proofs.TreesHold.{limited_made, held_in}

-- the row of a script is the first one of its derivation
one_row : (q r : RowId) → Contains (q ∷ []) r → q ≡ r
one_row q r (zero, below, is) = is
one_row q r (suc i, below, is) = absurd (omega arith)

row_of_script : (s : Symbol) (r : RowId) → symbols.Script ≡ s → Contains (alternatives s) r → rows.Script ≡ r
row_of_script s r same c = one_row rows.Script r (subst (λ s. Contains (alternatives s) r) (sym same) c)

first_row : (ss : List Symbol) (ls : List GrammarLeaf) (rs : List RowId) (r : RowId) (qs : List RowId) → Derives ss ls rs → ss ≡ symbols.Script ∷ [] → rs ≡ r ∷ qs → rows.Script ≡ r
first_row _ _ _ r qs (expands s q ss ls rs c b d) e f = let same : symbols.Script ≡ s = cc in let row : q ≡ r = cc in row_of_script s q same c ∙ row
first_row _ _ _ r qs _ e f = absurd cc

-- one node of a kind
abbrev IsOne : Kind → Data → Type 0
IsOne k ds = (t : Tree) × (ds ≡ one (child t)) × (kind_of t ≡ k)

abbrev IsOnTop : Kind → List Part → Type 0
IsOnTop k (parts.Values ds raw ∷ ps) = IsOne k ds
IsOnTop k _ = Unit {0}

closed_is : (k : Kind) (w : Work) → Holds (λ x. IsOne k x.values) (closed limited k w)
unfolding closed
closed_is k w =
    then (λ t. kind_of t ≡ k) (λ x. IsOne k x.values) (limited k w.values) (λ t. Ok (record w { values = one (child t) }))
    (each_result (λ t. kind_of t ≡ k) (limited k w.values) (λ t made. ap kind_of (sym (limited_made k w.values t made).same))) (λ t is. (t, refl, is))

last_is : (k : Kind) (ss : List Step) (w : Work) (ps : List Part) → Holds (λ g. IsOne k g.0.values) (gathered limited (ss ++ steps.Close k ∷ []) w ps)
last_is k [] w ps =
    then (λ r. IsOne k r.0.values) (λ g. IsOne k g.0.values) (step_on limited (steps.Close k) w ps) (λ r. gathered limited [] r.0 r.1)
    (then (λ x. IsOne k x.values) (λ r. IsOne k r.0.values) (closed limited k w) (λ x. Ok (x, ps)) (closed_is k w) (λ x is. is)) (λ r is. is)
last_is k (s ∷ ss) w ps =
    then (λ r. Unit {0}) (λ g. IsOne k g.0.values) (step_on limited s w ps) (λ r. gathered limited (ss ++ steps.Close k ∷ []) r.0 r.1) (any (step_on limited s w ps)) (λ r any. last_is k ss r.0 r.1)

script_on_top : (ps : List Part) → Holds (IsOnTop kinds.Script) (row_part limited rows.Script ps)
unfolding row_part
script_on_top ps =
    then (λ g. IsOne kinds.Script g.0.values) (IsOnTop kinds.Script) (gathered limited (recipe rows.Script).0 no_work ps) (λ g. finish_on limited finishes.Values g.0 g.1)
    (last_is kinds.Script (steps.Hold ∷ steps.Scope kinds.AssertedScriptGlobalScope ∷ steps.Body ∷ steps.Skip ∷ steps.Resume ∷ []) no_work ps) (λ g is. is)

abbrev TopOf : List Leaf × List Part → Type 0
TopOf s = IsOnTop kinds.Script s.1

row_on_top : (r : RowId) (s : List Leaf × List Part) → rows.Script ≡ r → Holds TopOf (event_part limited (Row r) s)
row_on_top r s e =
    then (IsOnTop kinds.Script) TopOf (row_part limited r s.1) (λ ps. Ok (s.0, ps)) (subst (λ r. Holds (IsOnTop kinds.Script) (row_part limited r s.1)) e (script_on_top s.1)) (λ ps is. is)

leaf_on_top : (ls : List Leaf) (ps : List Part) → Holds TopOf (leaf_part ls ps)
leaf_on_top [] ps = tt
leaf_on_top (l ∷ ls) ps = tt

top_of : (ls : List Leaf) (es : List Event) → ((r : RowId) (qs : List RowId) → rows_among es ≡ r ∷ qs → rows.Script ≡ r) → Holds TopOf (image limited ls es)
top_of ls [] first = tt
top_of ls (Row r ∷ es) first = then (λ s. Unit {0}) TopOf (image limited ls es) (event_part limited (Row r)) (any (image limited ls es)) (λ s h. row_on_top r s (first r (rows_among es) refl))
top_of ls (Took ∷ es) first = then (λ s. Unit {0}) TopOf (image limited ls es) (event_part limited Took) (any (image limited ls es)) (λ s h. leaf_on_top s.0 s.1)
top_of ls (Inserted ∷ es) first = then (λ s. Unit {0}) TopOf (image limited ls es) (event_part limited Inserted) (any (image limited ls es)) (λ s h. tt)

node_is : (k : Kind) (ds : Data) → IsOne k ds → Holds (λ t. kind_of t ≡ k) (one_node ds)
node_is k ds (t, same, is) = subst (λ ds. Holds (λ t. kind_of t ≡ k) (one_node ds)) (sym same) is

root_is : (k : Kind) (ps : List Part) → IsOnTop k ps → Holds (λ t. kind_of t ≡ k) (root ps)
root_is k (parts.Values ds raw ∷ ps) is = either (λ t. kind_of t ≡ k) (length ps == 0) (one_node ds) broken (node_is k ds is) tt
root_is k _ is = tt

script_of : (ls : List Leaf) (es : List Event) → ((r : RowId) (qs : List RowId) → rows_among es ≡ r ∷ qs → rows.Script ≡ r) → Holds (λ t. kind_of t ≡ kinds.Script) (tree_of limited ls es)
unfolding tree_of
script_of ls es first = then TopOf (λ t. kind_of t ≡ kinds.Script) (image limited (reverse ls) es) (λ s. root s.1) (top_of (reverse ls) es first) (λ s is. root_is kinds.Script s.1 is)

pub trees_are_scripts : (text : List ℕ) (ts : List Token) (ls : List Leaf) (es : List Event) (t : Tree) → Ends text ts (Accepted es) → tree_of limited ls es ≡ Ok t → kind_of t ≡ kinds.Script
trees_are_scripts text ts ls es t ends made =
    held_in (λ t. kind_of t ≡ kinds.Script) (tree_of limited ls es) t
    (script_of ls es (λ r qs e. first_row (symbols.Script ∷ []) (leaves es (tokens_in text ts)) (rows_among es) r qs (whole text ts es ends.0 (length text) ends.1).0 refl e)) made
