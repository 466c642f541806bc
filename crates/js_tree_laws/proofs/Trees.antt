-- What the machine accepts has a tree of a script, where an arrow comes behind each head.
use Rattle.std.proofs.Common.{◌≡◌, ℕ, zero, suc, ◌+◌, Bool, true, false, cond, ◌&&◌, inl, inr, List, [], ◌∷◌, ◌++◌, reverse, Some, None, Ok, Err, refl, sym, subst, arith}
use Rattle.js_grammar.specs.declared.class.Class.{Class}
use Rattle.js_grammar.specs.declared.class.Class.TheVariants as classes
use Rattle.js_grammar.specs.declared.symbols.Terminal.TheVariants as terminals
use Rattle.js_grammar.specs.declared.symbols.Symbol.TheVariants as symbols
use Rattle.js_grammar.specs.declared.symbols.RowId.TheVariants as rows
use Rattle.js_grammar.specs.Classes.{takes_class, is_among}
use Rattle.js_grammar.specs.Rows.{row_symbols}
use Rattle.js_machine.specs.declared.events.Frame.{Frame}
use Rattle.js_machine.specs.declared.events.Frame.TheVariants.{Want}
use Rattle.js_machine.specs.declared.events.Event.{Event}
use Rattle.js_machine.specs.declared.events.Event.TheVariants.{Row}
use Rattle.js_machine.specs.declared.stops.Stop.TheVariants.{Syntax}
use Rattle.js_machine.specs.declared.lookahead.Lookahead.{Lookahead}
use Rattle.js_machine.specs.Machine.{Accepted, start, run, want_all, with_row}
use Rattle.js_tree.specs.Image.{image, event_part, row_part}
use Rattle.js_tree.specs.Nodes.{Maker}
use Rattle.js_tree.specs.Results.{◌>>=◌}
use Rattle.js_tree.specs.declared.leaf.Leaf.{Leaf}
use Rattle.js_tree.specs.declared.parts.Part.{Part}
use Rattle.js_tree.specs.declared.parts.Part.TheVariants as parts
use Rattle.js_tree_laws.proofs.Sorts.{IsMaker, Safely}
use Rattle.js_tree_laws.proofs.Shapes.{and_left, and_right}
use Rattle.js_tree_laws.proofs.Safe.{safely_bind}
use Rattle.js_tree_laws.proofs.Suits.{Anything, Suits}
use Rattle.js_tree_laws.proofs.Rowwise.{Here}
use Rattle.js_tree_laws.proofs.EachRow.{row_goal}
use Rattle.std.proofs.lemmas.List.{append-nil}
use Rattle.bast_schema.specs.declared.kind.Kind.TheVariants as kinds
use Rattle.bast_schema.specs.declared.kind.FieldType.{FieldType}
use Rattle.bast_schema.specs.Tree.{fits}
use Rattle.bast_schema.specs.declared.node.NodeFault.TheVariants as node_faults
use Rattle.bast_schema.specs.declared.kind.Union.TheVariants as unions
use Rattle.bast_schema.specs.Made.{node_or}
use Rattle.bast_schema.specs.Fields.{fields}
use Rattle.bast_schema.specs.Tree.{Tree, branch, child, Data, none, more, fit, first_wrong, depth}
use Rattle.std.specs.Prelude.{nat_lt}
use Rattle.js_tree.specs.Image.{root, tree_of}
use Rattle.js_tree.specs.Nodes.{unlimited, limited, of_node}
use Rattle.js_tree_laws.proofs.Sorts.{Is, PartIs}
use Rattle.js_tree_laws.proofs.Table.{one_node}
use Rattle.js_tree_laws.proofs.Accepted.{LeavesAre, Closes, Sound, builds, not_next, Agree}
use Rattle.js_tree_laws.proofs.Leading.{stopped_not, goes}

-- the one node that is left
root_of_part : (m : Maker) (p : Part) → PartIs m (one_node (unions.One kinds.Script)) p → Safely (Is (unions.One kinds.Script)) (root (p ∷ []))
root_of_part m (parts.Values none raw) is = absurd is
root_of_part m (parts.Values (more (child t) none) raw) is = is.0
root_of_part m (parts.Values (more (child t) (more d ds)) raw) is = absurd is.1
root_of_part m (parts.Values (more _ ds) raw) is = let non : false ≡ true = is.0 in cc
root_of_part m _ is = absurd is

root_of : (m : Maker) (c : Class) (ps : List Part) → Suits m (Want symbols.Script c 0 ∷ []) Anything ps → Safely (Is (unions.One kinds.Script)) (root ps)
root_of m c [] is = absurd is
root_of m c (p ∷ ps) (is, inl (v, e)) = subst (λ qs. Safely (Is (unions.One kinds.Script)) (root (p ∷ qs))) (sym e) (root_of_part m p is)
root_of m c (p ∷ ps) (is, inr (x, starts, e)) = subst (λ qs. Safely (Is (unions.One kinds.Script)) (root (p ∷ qs))) (sym e) (root_of_part m p is)

sound_begun : (c : Class) → Sound c (with_row rows.Script c (record start { stack = [] })).stack (with_row rows.Script c (record start { stack = [] }))
sound_begun c = record {
  chain = (omega arith, λ k. refl, (omega arith, λ k. refl, tt));
  linked = (λ k. cc, (λ k. cc, tt));
  late = tt;
  closed = λ k. cc;
}

none_left : {A : Type 0} (a b : Bool) → (a && false && b) ≡ true → A
none_left true b e = cc
none_left false b e = cc

agree_begun : (c : Class) → Agree 0 None 0 Anything (want_all c 0 (row_symbols rows.Script) ++ [])
agree_begun c = (λ e. not_next 0 (takes_class terminals.Ident c) e, λ e. none_left (is_among c (classes.HeadParen ∷ [])) true e, (λ e. not_next 0 (takes_class terminals.Ident c) e, λ e. none_left (is_among c (classes.HeadParen ∷ [])) true e, tt))

script_made : (m : Maker) → IsMaker m → (c : Class) (newline : Bool) (ps : List Part) → Suits m (want_all c 0 (row_symbols rows.Script) ++ []) Anything ps → Safely (Suits m (Want symbols.Script c 0 ∷ []) Anything) (row_part m rows.Script ps)
script_made m maker c newline ps suits =
    let here : Here symbols.Script rows.Script c 0 newline c 0 [] Anything = record {
      ok = refl;
      least = omega arith;
      same = λ e. refl;
      chain = tt;
      chain_all = (omega arith, λ e. refl, (omega arith, λ e. refl, tt));
      linked = (λ k. cc, (λ k. cc, tt));
      late = tt;
      arrow = tt;
      follows = tt;
    } in
    row_goal m maker symbols.Script c newline rows.Script refl c 0 newline c 0 [] Anything ps here suits

tree_made : (m : Maker) → IsMaker m → (c : Class) (newline : Bool) (ls : List Leaf) (es : List Event) → Safely (λ s. (s.0 ≡ []) × Suits m (want_all c 0 (row_symbols rows.Script) ++ []) Anything s.1) (image m (reverse ls ++ []) es)
    → Safely (Is (unions.One kinds.Script)) (tree_of m ls (Row rows.Script ∷ es))
unfolding tree_of
tree_made m maker c newline ls es made =
    let there : Safely (λ s. (s.0 ≡ []) × Suits m (want_all c 0 (row_symbols rows.Script) ++ []) Anything s.1) (image m (reverse ls) es) = subst (λ l. Safely (λ s. (s.0 ≡ []) × Suits m (want_all c 0 (row_symbols rows.Script) ++ []) Anything s.1) (image m l es)) (append-nil (reverse ls)) made in
    safely_bind (λ s. Suits m (Want symbols.Script c 0 ∷ []) Anything s.1) (Is (unions.One kinds.Script)) (image m (reverse ls) es >>= event_part m (Row rows.Script)) (λ s. root s.1)
    (safely_bind (λ s. (s.0 ≡ []) × Suits m (want_all c 0 (row_symbols rows.Script) ++ []) Anything s.1) (λ s. Suits m (Want symbols.Script c 0 ∷ []) Anything s.1) (image m (reverse ls) es) (event_part m (Row rows.Script)) there
    (λ s is. safely_bind (Suits m (Want symbols.Script c 0 ∷ []) Anything) (λ s. Suits m (Want symbols.Script c 0 ∷ []) Anything s.1) (row_part m rows.Script s.1) (λ ps. Ok (s.0, ps)) (script_made m maker c newline s.1 is.1) (λ ps suits. suits)))
    (λ s suits. root_of m c s.1 suits)

-- the tree of what is accepted is no broken one
pub accepted_tree : (m : Maker) → IsMaker m → (K : List Frame → List Lookahead → Type 0) → Closes K → (n over : ℕ) (ts : List Lookahead) (ls : List Leaf) (all : List Event) → LeavesAre ts ls → K start.stack ts
    → run n over ts start ≡ Some (Accepted all) → Safely (Is (unions.One kinds.Script)) (tree_of m ls all)
accepted_tree m maker K closes n over [] ls all leaves k e = stopped_not (Syntax over) all e
accepted_tree m maker K closes zero over (t ∷ ts) ls all leaves k e = cc
accepted_tree m maker K closes (suc n) over (t ∷ ts) ls all leaves k e =
    let st = with_row rows.Script t.class (record start { stack = [] }) in
    let rest = goes all n over (t ∷ ts) st e in
    let built = builds m maker K closes st (t ∷ ts) rest.0 rest.2 ls leaves (sound_begun t.class) (closes.row symbols.Script classes.End 0 0 [] t ts rows.Script false refl (λ e. cc) k) in
    subst (λ all. Safely (Is (unions.One kinds.Script)) (tree_of m ls all)) (sym rest.1) (tree_made m maker t.class t.newline_before ls rest.0 (built Anything tt (agree_begun t.class) []))

-- both makers make the node of each kind whose fields fit
pub unlimited_makes : IsMaker unlimited
unlimited_makes k ds e = refl

first_none : (i : ℕ) (ts : List FieldType) (ds : Data) → fit ts ds ≡ true → first_wrong i ts ds ≡ None
first_none i [] none e = refl
first_none i [] (more d ds) e = cc
first_none i (t ∷ ts) none e = cc
first_none i (t ∷ ts) (more d ds) e = passing (fits t d) (and_left (fits t d) (fit ts ds) e) (first_none (i + 1) ts ds (and_right (fits t d) (fit ts ds) e))
  where
    passing : (b : Bool) → b ≡ true → first_wrong (i + 1) ts ds ≡ None → cond b (first_wrong (i + 1) ts ds) (Some i) ≡ None
    passing true e is = is
    passing false e is = cc

within_limit : (b : Bool) (t : Tree) → Safely (λ u. u ≡ t) (of_node (cond b (Err node_faults.TooDeep) (Ok t)))
within_limit true t = tt
within_limit false t = refl

pub limited_makes : IsMaker limited
limited_makes k ds e = subst (λ o. Safely (λ t. t ≡ branch k ds) (of_node (node_or o (branch k ds)))) (sym (first_none 0 (fields k) ds e)) (within_limit (nat_lt 512 (depth (branch k ds))) (branch k ds))
