-- The tree with the limit follows the one without it.
use Rattle.std.proofs.Common.{◌≡◌, ◌≤◌, ◌<◌, ◌==◌, ◌+◌, ◌-◌, ℕ, max, Bool, true, ◌&&◌, List, [], ◌∷◌, ◌++◌, reverse, Ok, Err, refl, subst, arith}
use Rattle.std.specs.List.{Contains, list_all}
use Rattle.std.proofs.lemmas.Bool.{eqb-true}
use Rattle.bast_schema.specs.Tree.{Tree, child, Data, none, more, depth, depth_in}
use Rattle.js_grammar.specs.Rows.{alternatives, row_symbols}
use Rattle.js_grammar.specs.declared.symbols.Level.TheVariants as levels
use Rattle.js_grammar.specs.declared.symbols.RowId.{RowId}
use Rattle.js_grammar.specs.declared.symbols.Symbol.{Symbol}
use Rattle.js_grammar.specs.declared.symbols.Symbol.TheVariants as symbols
use Rattle.js_machine.specs.Machine.{Accepted, Ends}
use Rattle.js_machine.specs.declared.events.Event.{Event}
use Rattle.js_tokens.specs.declared.kinds.Token.{Token}
use Rattle.js_tree.specs.Image.{row_part, leaf_part, image, root, tree_of}
use Rattle.js_tree.specs.Leads.{Leads, over, took, counts, expands}
use Rattle.js_tree.specs.Nodes.{limited, unlimited}
use Rattle.js_tree.specs.Parts.{one_node}
use Rattle.js_tree.specs.Recipes.{recipe}
use Rattle.js_tree.specs.Steps.{no_work}
use Rattle.js_tree.specs.declared.fault.Fault.TheVariants as faults
use Rattle.js_tree.specs.declared.leaf.Leaf.{Leaf}
use Rattle.js_tree.specs.declared.parts.Part.{Part}
use Rattle.js_tree.specs.declared.parts.Part.TheVariants as parts
use Rattle.js_tree_laws.proofs.Holding.{both, each_row, HoldsParts}
use Rattle.js_tree_laws.proofs.Gathering.{all_got}
use Rattle.js_tree_laws.proofs.Finishing.{image_held, nothing, row_makes}
use Rattle.js_tree_laws.proofs.Following.{deep_parts, Follows, Agrees, Deep, Unrefused, done, failed, andthen, known, weaker, unrefused_of}
use Rattle.js_tree_laws.proofs.FollowSteps.{leafs, Laid, Flow, Within, no_flow, may_all, left_by_all, after_all, all_follow}
use Rattle.js_tree_laws.proofs.FollowFinishes.{IsIdent, ident_kept, waste, finish_follows}
use Rattle.js_tree_laws.proofs.Leading.{accepted_leads}
use Rattle.js_tree_laws.proofs.TreesHold.{no_names_in}

-- each row of each symbol is sound: its steps take the parts of its symbols, and nothing deep that was gathered is lost
abbrev row_flow : RowId → Flow
row_flow r = after_all (recipe r).0 (row_symbols r) no_flow

abbrev row_waste : Symbol → RowId → ℕ
row_waste s r = (1 - leafs s) + waste s (recipe r).1 (left_by_all (recipe r).0 (row_symbols r)) (row_flow r)

abbrev is_sound : Symbol → RowId → Bool
is_sound s r = may_all (recipe r).0 (row_symbols r) no_flow && (row_waste s r == 0)

all_sound : (s : Symbol) → list_all (is_sound s) (alternatives s) ≡ true
all_sound (symbols.Level levels.LogicalOr m) = refl
all_sound (symbols.LevelTail levels.LogicalOr m) = refl
all_sound _ = refl

nothing_gathered : Within no_flow no_work
nothing_gathered = omega arith

row_follows : (s : Symbol) (r : RowId) (outer : List Symbol) (ps : List Part) → Contains (alternatives s) r → Laid (row_symbols r ++ outer) ps → HoldsParts IsIdent ps
    → Follows (deep_parts ps) deep_parts (Laid (s ∷ outer)) (row_part limited r ps) (row_part unlimited r ps)
unfolding row_part
row_follows s r outer ps among laid idents =
    let ok = both (may_all (recipe r).0 (row_symbols r) no_flow) (row_waste s r == 0) (each_row (is_sound s) (alternatives s) r (all_sound s) among)
    in let kept : row_waste s r ≡ 0 = eqb-true (row_waste s r) 0 ok.1
    in andthen (weaker (omega arith) (known (all_got unlimited IsIdent ident_kept (recipe r).0 no_work ps (row_makes r).0 (nothing IsIdent) idents) (all_follow (recipe r).0 no_flow no_work (row_symbols r) outer ps ok.0 nothing_gathered laid)))
    (λ g k. finish_follows (recipe r).1 s (row_flow r) (left_by_all (recipe r).0 (row_symbols r)) outer g.0 g.1 (omega (arith, kept)) (omega (arith, kept)) k.0.0 k.1.0 k.0.1)

abbrev ImageFollows : List Symbol → List Leaf → List Event → Type 0
ImageFollows ss ls es = Follows 0 (λ s. deep_parts s.1) (λ s. Laid ss s.1) (image limited ls es) (image unlimited ls es)

leaf_follows : (s : Symbol) (ss : List Symbol) (ls : List Leaf) (ps : List Part) → Laid ss ps → Follows (deep_parts ps) (λ s. deep_parts s.1) (λ x. Laid (s ∷ ss) x.1) (leaf_part ls ps) (leaf_part ls ps)
leaf_follows s ss [] ps laid = failed
leaf_follows s ss (l ∷ ls) ps laid = done (omega arith) (omega arith, laid)

image_follows : (ss : List Symbol) (es : List Event) (ls : List Leaf) → Leads ss es → ImageFollows ss ls es
image_follows _ _ ls over = done (omega arith) tt
image_follows _ _ ls (took s ss es leaf d) = andthen (image_follows ss es ls d) (λ x laid. leaf_follows s ss x.0 x.1 laid)
image_follows _ _ ls (counts s ss es leaf d) = andthen (image_follows ss es ls d) (λ x laid. done (omega arith) (omega arith, laid))
image_follows _ _ ls (expands s r ss es among d) =
    andthen (known (image_held unlimited IsIdent ident_kept ls es (no_names_in IsIdent (λ n. tt) ls)) (image_follows (row_symbols r ++ ss) es ls d))
    (λ x k. andthen (row_follows s r ss x.1 among k.0 k.1.1) (λ ps laid. done (omega arith) laid))

alone_follows : {n : ℕ} (ds : Data) → n ≤ max 512 (depth_in ds) → Follows n depth (λ t. Unit {0}) (one_node ds) (one_node ds)
alone_follows (more (child t) none) below = done (omega (arith, below)) tt
alone_follows (more _ none) below = failed
alone_follows (more d (more e es)) below = failed
alone_follows none below = failed

root_follows : (s : Symbol) (ps : List Part) → Laid (s ∷ []) ps → Follows (deep_parts ps) depth (λ t. Unit {0}) (root ps) (root ps)
root_follows s (parts.Values ds raw ∷ []) laid = alone_follows ds (omega arith)
root_follows s (parts.Values ds raw ∷ p ∷ ps) laid = absurd laid.1
root_follows s _ laid = failed

tree_follows : (text : List ℕ) (ts : List Token) (es : List Event) (ls : List Leaf) → Ends text ts (Accepted es) → Agrees depth (tree_of limited ls es) (tree_of unlimited ls es)
unfolding tree_of
tree_follows text ts es ls ends =
    let follows : Follows 0 depth (λ t. Unit {0}) (tree_of limited ls es) (tree_of unlimited ls es) =
    andthen (image_follows (symbols.Script ∷ []) es (reverse ls) (accepted_leads text ts es ends)) (λ s laid. root_follows symbols.Script s.1 laid)
    in follows.agrees

pub trees_are_same : (text : List ℕ) (ts : List Token) (ls : List Leaf) (es : List Event) (t : Tree) → Ends text ts (Accepted es) → tree_of limited ls es ≡ Ok t → tree_of unlimited ls es ≡ Ok t
trees_are_same text ts ls es t ends made = subst (λ r. Agrees depth r (tree_of unlimited ls es)) made (tree_follows text ts es ls ends)

pub deep_trees : (text : List ℕ) (ts : List Token) (ls : List Leaf) (es : List Event) (t : Tree) → Ends text ts (Accepted es) → tree_of limited ls es ≡ Err faults.TooDeep → tree_of unlimited ls es ≡ Ok t → 512 < depth t
deep_trees text ts ls es t ends refused made = subst (Deep depth) made (subst (λ r. Agrees depth r (tree_of unlimited ls es)) refused (tree_follows text ts es ls ends))

pub trees_are_unrefused : (text : List ℕ) (ts : List Token) (ls : List Leaf) (es : List Event) → Ends text ts (Accepted es) → Unrefused (tree_of unlimited ls es)
trees_are_unrefused text ts ls es ends = unrefused_of depth (tree_of limited ls es) (tree_of unlimited ls es) (tree_follows text ts es ls ends)
