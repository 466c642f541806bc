-- What a row makes with the limit of what was gathered follows what it makes without it.
use Rattle.std.proofs.Common.{◌≡◌, ◌≤◌, ◌==◌, ◌+◌, ◌-◌, ℕ, max, min, cond, Bool, true, false, not, ◌&&◌, length, List, [], ◌∷◌, ◌++◌, Option, Some, None, Result, Ok, refl, subst, arith}
use Rattle.std.proofs.lemmas.Bool.{eqb-true}
use Rattle.bast_base.specs.declared.errors.NameId.{NameId}
use Rattle.bast_schema.specs.declared.kind.Kind.{Kind}
use Rattle.bast_schema.specs.declared.kind.Kind.TheVariants as kinds
use Rattle.bast_schema.specs.Choices.{lexical_let, lexical_const}
use Rattle.bast_schema.specs.Counts.{join}
use Rattle.bast_schema.specs.Kinds.{same_kind, counted}
use Rattle.bast_schema.specs.Tree.{Tree, branch, Datum, child, absent, listed, name, choice, Data, none, more, is_none, depth, depth_at, depth_in}
use Rattle.bast_schema.proofs.Sums.{depth_join}
use Rattle.js_grammar.specs.declared.symbols.Symbol.{Symbol}
use Rattle.scope_facts.specs.Bare.{empty_fields}
use Rattle.scope_facts.specs.Roles.{shape_of}
use Rattle.scope_facts.specs.declared.roles.Shape.{Shape}
use Rattle.scope_facts.specs.declared.roles.Shape.TheVariants.{Parameters}
use Rattle.js_tree.specs.Finishes.{finish_on, folds, statement, shorthand, property, filled, fills, for_kind, declaration, left_of, bound, binds, declaring, declares, arrow_body, tries, sequence, instead, add_item, is_default, before_default, from_default, switch_of, switch, parameters}
use Rattle.js_tree.specs.Nodes.{one, two, identifier, first_name, limited, unlimited, parameters_or, parameters_of, no_names, no_parameter_names, contents_of, stands, ended, folded}
use Rattle.js_tree.specs.Parts.{node_in, one_node, one_ending, last_behind, last_value}
use Rattle.js_tree.specs.Results.{◌>>=◌, there}
use Rattle.js_tree.specs.declared.fault.Fault.{Fault}
use Rattle.js_tree.specs.declared.parts.Part.{Part}
use Rattle.js_tree.specs.declared.parts.Part.TheVariants as parts
use Rattle.js_tree.specs.declared.parts.Form.{Form}
use Rattle.js_tree.specs.declared.parts.Form.TheVariants as forms
use Rattle.js_tree.specs.declared.parts.Ending.{Ending}
use Rattle.js_tree.specs.declared.parts.Ending.TheVariants as endings
use Rattle.js_tree.specs.declared.recipe.Declared.{Declared}
use Rattle.js_tree.specs.declared.recipe.Declared.TheVariants as declared
use Rattle.js_tree.specs.declared.recipe.Finish.{Finish}
use Rattle.js_tree.specs.declared.recipe.Finish.TheVariants as finishes
use Rattle.js_tree.specs.declared.work.Work.{Work}
use Rattle.js_tree_laws.proofs.Holding.{Each, is_common, is_made, Kept, HoldsEndings, HoldsWork}
use Rattle.js_tree_laws.proofs.Finishing.{ended_held}
use Rattle.js_tree_laws.proofs.Following.{deep_form, deep_ending, deep_endings, deep_items, deep_parts, deep_got, Follows, done, failed, andthen, known, either_follows, node, made}
use Rattle.js_tree_laws.proofs.FollowSteps.{rank_form, rank, ranks, ranks_behind, told, cap, level, leafs, Laid, Flow, Within, rank_form_is, bounds, one_follows, first_follows}

-- an identifier is not deep
abbrev pub IsIdent : Datum → Type 0
IsIdent (child t) = (n : ℕ) → identifier t ≡ Some n → depth t ≤ 512
IsIdent _ = Unit {0}

no_name_of : {A : Type 0} (b : Bool) (o : Option ℕ) (n : ℕ) → b ≡ false → cond b o None ≡ Some n → A
no_name_of true o n e f = absurd cc
no_name_of false o n e f = absurd cc

second_not : (a b : Bool) → (a && not b) ≡ true → b ≡ false
second_not true false e = refl
second_not _ _ e = absurd cc

one_at_most : (b : Bool) → cond b 1 0 ≤ 1
one_at_most true = omega arith
one_at_most false = omega arith

ident_made : (k : Kind) (ds : Data) (t : Tree) → is_made k ≡ true → unlimited k ds ≡ Ok t → IsIdent (child t)
ident_made k ds t is made =
    let same : branch k ds ≡ t = cc
    in subst (λ t. IsIdent (child t)) same (λ n e. no_name_of (same_kind k kinds.IdentifierExpression) (first_name ds) n (second_not (is_common k) (same_kind k kinds.IdentifierExpression) is) e)

ident_flat : (k : Kind) (ds : Data) (t : Tree) → depth_in ds ≤ 0 → unlimited k ds ≡ Ok t → IsIdent (child t)
ident_flat k ds t flat made = let same : branch k ds ≡ t = cc in subst (λ t. IsIdent (child t)) same (λ i e. omega (arith, flat, one_at_most (counted k)))

empty_flat : (s : Shape) → depth_in (empty_fields s) ≤ 0
empty_flat Parameters = omega arith
empty_flat _ = omega arith

pub ident_kept : Kept unlimited IsIdent
ident_kept = record {
  node = λ k ds t is h made. ident_made k ds t is made;
  scope = λ k t is made. ident_flat k (empty_fields (shape_of k)) t (empty_flat (shape_of k)) made;
  named = λ k n t is h made. ident_flat k (one (name n)) t (omega arith) made;
  shorthand = λ ds t u h made again. ident_made kinds.ShorthandProperty (one (child t)) u refl again;
  name_of = λ t n h e. tt;
  list = λ ds h. tt;
  no_node = tt;
  no_label = tt;
  flags = λ b. tt;
  wholes = λ n. tt;
  choices = λ n. tt;
}

-- an operand with what is put around it, beside what is as deep as c
parameters_by : {n : ℕ} (c : ℕ) (t : Tree) (o : Option ℕ) → identifier t ≡ o → IsIdent (child t) → n ≤ max 512 (max c (depth t)) → Follows n (λ u. max c (depth u)) (λ u. Unit {0}) (parameters_or limited t o) (parameters_or unlimited t o)
parameters_by c t None e ident below = done (omega (arith, below)) tt
parameters_by c t (Some i) e ident below =
    let flat = ident i e
    in andthen (made kinds.BindingIdentifier (one (name i))) (λ b same. node c kinds.FormalParameters (two (listed (one (child b))) absent) (omega (arith, flat, below, same)) tt)

parameters_follow : {n : ℕ} (c : ℕ) (t : Tree) → IsIdent (child t) → n ≤ max 512 (max c (depth t)) → Follows n (λ u. max c (depth u)) (λ u. Unit {0}) (parameters_of limited t) (parameters_of unlimited t)
unfolding parameters_of
parameters_follow c t ident below = parameters_by c t (identifier t) refl ident below

contents_follow : {n : ℕ} (c : ℕ) (params : Tree) (body : Data) → n ≤ max 512 (max c (max (depth params) (depth_in body))) → Follows n (λ u. max c (depth u)) (λ u. Unit {0}) (contents_of limited params body) (contents_of unlimited params body)
unfolding contents_of
contents_follow c params body below =
    andthen (made kinds.AssertedParameterScope no_parameter_names) (λ scope s. andthen (made kinds.AssertedVarScope no_names) (λ vars v.
    node c kinds.FunctionContents (more (child scope) (more (child params) (more (child vars) body))) (omega (arith, below)) tt))

label_follows : {n : ℕ} (c : ℕ) (t : Tree) (o : Option ℕ) → identifier t ≡ o → IsIdent (child t) → n ≤ max 512 (max c (depth t)) → Follows n (λ d. max c (depth_at d)) (λ d. Unit {0}) (there o >>= λ n. Ok (name n)) (there o >>= λ n. Ok (name n))
label_follows c t None e ident below = failed
label_follows c t (Some i) e ident below = let flat = ident i e in done (omega (arith, flat, below)) tt

stands_follow : {n : ℕ} (c : ℕ) (f : Form) (t : Tree) → IsIdent (child t) → n ≤ max 512 (max c (max (deep_form f) (depth t))) → Follows n (λ d. max c (depth_at d)) (λ d. Unit {0}) (stands limited f t) (stands unlimited f t)
unfolding stands
stands_follow c forms.Plain t ident below = done (omega (arith, below)) tt
stands_follow c forms.Parameters t ident below = andthen (parameters_follow c t ident (omega (arith, below))) (λ p u. done (omega arith) tt)
stands_follow c (forms.Contents body) t ident below =
    andthen (parameters_follow (max c (depth_in body)) t ident (omega (arith, below))) (λ p u. andthen (contents_follow c p body (omega arith)) (λ x v. done (omega arith) tt))
stands_follow c forms.Label t ident below = label_follows c t (identifier t) refl ident (omega (arith, below))
stands_follow c (forms.Declared ds) t ident below = failed

ended_follows : {n : ℕ} (c : ℕ) (e : Ending) (t : Tree) → rank e ≤ 2 → IsIdent (child t) → n ≤ max 512 (max c (max (deep_ending e) (depth t))) → Follows n (λ u. max c (depth u)) (λ u. Unit {0}) (ended limited e t) (ended unlimited e t)
unfolding ended
ended_follows c (endings.Around k form before behind) t around ident below =
    andthen (stands_follow (max c (max (depth_in before) (depth_in behind))) form t ident (omega (arith, below))) (λ d u. node c k (join before (more d behind)) (omega (arith, depth_join)) tt)
ended_follows c (endings.Instead u) t around ident below = absurd (omega (arith, around))

folded_follows : (c : ℕ) (es : List Ending) {n : ℕ} (t : Tree) → ranks es ≤ 2 → HoldsEndings IsIdent es → IsIdent (child t) → n ≤ max 512 (max c (max (deep_endings es) (depth t))) → Follows n (λ u. max c (depth u)) (λ u. Unit {0}) (folded limited es t) (folded unlimited es t)
folded_follows c [] t around idents ident below = done (omega (arith, below)) tt
folded_follows c (e ∷ es) t around idents ident below =
    andthen (known (ended_held unlimited IsIdent ident_kept e t idents.0 ident) (ended_follows (max c (deep_endings es)) e t (omega (arith, around)) ident (omega (arith, below))))
    (λ u j. folded_follows c es u (omega (arith, around)) idents.1 j.1 (omega arith))

-- where an operand that is not deep is replaced, nothing deep is lost
replaced_follows : {n : ℕ} (c : ℕ) (es : List Ending) (t : Tree) → ranks_behind es ≤ 2 → HoldsEndings IsIdent es → IsIdent (child t) → depth t ≤ 512 → n ≤ max 512 (max c (max (deep_endings es) (depth t)))
    → Follows n (λ u. max c (depth u)) (λ u. Unit {0}) (folded limited es t) (folded unlimited es t)
unfolding ended
replaced_follows c [] t behind idents ident flat below = done (omega (arith, below)) tt
replaced_follows c (endings.Around k form before after ∷ es) t behind idents ident flat below = folded_follows c (endings.Around k form before after ∷ es) t (omega (arith, behind, rank_form_is form)) idents ident below
replaced_follows c (endings.Instead u ∷ es) t behind idents ident flat below = folded_follows c es u behind idents.1 idents.0 (omega (arith, flat, below))

-- parts that are taken apart
node_follows : {n : ℕ} (ds : Data) (d : Datum) → ds ≡ one d → depth_in ds ≡ depth_at d → Follows n (λ t. n) (λ t. (ds ≡ one (child t)) × (depth_in ds ≡ depth t)) (node_in d) (node_in d)
node_follows ds (child t) is deep = done (omega arith) (is, deep)
node_follows ds _ is deep = failed

pub one_node_follows : {n : ℕ} (ds : Data) → Follows n (λ t. n) (λ t. (ds ≡ one (child t)) × (depth_in ds ≡ depth t)) (one_node ds) (one_node ds)
one_node_follows ds = andthen (one_follows ds) (λ d is. node_follows ds d is.0 is.1)

none_left : (es : List Ending) → (length es == 0) ≡ true → (deep_endings es ≤ 0) × (ranks es ≤ 0)
none_left [] is = omega arith
none_left (e ∷ es) is = let some = eqb-true (length (e ∷ es)) 0 is in absurd (omega (arith, some))

one_ending_follows : {n : ℕ} (es : List Ending) → Follows n (λ e. n) (λ e. (deep_endings es ≡ deep_ending e) × (ranks es ≡ rank e)) (one_ending es) (one_ending es)
one_ending_follows [] = failed
one_ending_follows (e ∷ es) = either_follows (length es == 0) (λ is. let left = none_left es is in done (omega arith) (omega (arith, left))) (λ is. failed)

behind_depth : (d : Datum) (ds : Data) → depth_in (more d ds) ≡ max (depth_in (last_behind d ds).0) (depth_at (last_behind d ds).1)
behind_depth d none = omega arith
behind_depth d (more e es) = omega (arith, behind_depth e es)

last_follows : {n : ℕ} (ds : Data) → Follows n (λ l. n) (λ l. depth_in ds ≡ max (depth_in l.0) (depth_at l.1)) (last_value ds) (last_value ds)
last_follows none = failed
last_follows (more d ds) = done (omega arith) (behind_depth d ds)

flat_ranks : (es : List Ending) → ranks es ≤ 0 → deep_endings es ≤ 0
flat_ranks [] h = omega arith
flat_ranks (endings.Around k form before behind ∷ es) h = let r = rank_form_is form in absurd (omega (arith, h, r))
flat_ranks (endings.Instead t ∷ es) h = absurd (omega (arith, h))

behind_ranks : (es : List Ending) → ranks_behind es ≤ ranks es
behind_ranks [] = omega arith
behind_ranks (e ∷ es) = omega arith

plain_flat : (f : Form) → rank_form f ≤ 1 → deep_form f ≤ 0
plain_flat forms.Plain h = omega arith
plain_flat _ h = absurd (omega (arith, h))

told_up : (o : Option NameId) (k d e : ℕ) → d ≤ k + e → told o d ≤ k + told o e
told_up None k d e h = omega arith
told_up (Some n) k d e h = omega (arith, h)

ident_of : (ds : Data) (t : Tree) → ds ≡ one (child t) → Each IsIdent ds → IsIdent (child t)
ident_of ds t e h = (subst (Each IsIdent) e h).0

-- what is made of what was gathered
shorthand_follows : {n : ℕ} (c : ℕ) (ds : Data) → n ≤ max 512 (max c (depth_in ds)) → Follows n (λ u. max c (depth u)) (λ u. Unit {0}) (shorthand limited ds) (shorthand unlimited ds)
shorthand_follows c ds below = andthen (made kinds.IdentifierExpression ds) (λ t same. node c kinds.ShorthandProperty (one (child t)) (omega (arith, below, same)) tt)

property_ident : (ds : Data) (t : Tree) → branch kinds.LiteralPropertyName ds ≡ t → IsIdent (child t)
property_ident ds t e = subst (λ t. IsIdent (child t)) e (λ n f. no_name_of false (first_name ds) n refl f)

declaration_follows : {n : ℕ} (c : ℕ) (how : Declared) (ds : Data) → n ≤ max 512 (max c (depth_in ds)) → Follows n (λ u. max c (depth u)) (λ u. Unit {0}) (declaration limited how ds) (declaration unlimited how ds)
declaration_follows c declared.Var ds below = node c kinds.VarDeclaration (one (listed ds)) (omega (arith, below)) tt
declaration_follows c declared.Let ds below = node c kinds.LexicalDeclaration (two (choice lexical_let) (listed ds)) (omega (arith, below)) tt
declaration_follows c declared.Const ds below = node c kinds.LexicalDeclaration (two (choice lexical_const) (listed ds)) (omega (arith, below)) tt

left_follows : {n : ℕ} (c : ℕ) (how : Declared) (b : Datum) (f : Form) → n ≤ max 512 (max c (max (depth_at b) (deep_form f))) → Follows n (λ u. max c (depth u)) (λ u. Unit {0}) (left_of limited how b f) (left_of unlimited how b f)
left_follows c how b forms.Plain below = node c kinds.ForInOfBinding (two (choice (for_kind how)) b) (omega (arith, below)) tt
left_follows c how b (forms.Declared ds) below =
    andthen (first_follows ds) (λ f all. andthen (made kinds.VariableDeclarator (two b f.0)) (λ d same. declaration_follows c how (more (child d) f.1) (omega (arith, below, all, same))))
left_follows c how b _ below = failed

cases_by : (b : Bool) (d : Datum) (ds before behind : Data) → depth_in ds ≤ max (depth_in before) (depth_in behind)
    → depth_in (more d ds) ≤ max (depth_in (cond b none (more d before))) (depth_in (cond b (more d ds) behind))
cases_by true d ds before behind h = omega arith
cases_by false d ds before behind h = omega (arith, h)

cases_depth : (ds : Data) → depth_in ds ≤ max (depth_in (before_default ds)) (depth_in (from_default ds))
cases_depth none = omega arith
cases_depth (more d ds) = cases_by (is_default d) d ds (before_default ds) (from_default ds) (cases_depth ds)

switch_follows : {n : ℕ} (c : ℕ) (held before behind : Data) → n ≤ max 512 (max c (max (depth_in held) (max (depth_in before) (depth_in behind)))) → Follows n (λ u. max c (depth u)) (λ u. Unit {0}) (switch_of limited held before behind) (switch_of unlimited held before behind)
switch_follows c held before none below = node c kinds.SwitchStatement (join held (one (listed before))) (omega (arith, below, depth_join)) tt
switch_follows c held before (more d behind) below = node c kinds.SwitchStatementWithDefault (join held (more (listed before) (two d (listed behind)))) (omega (arith, below, depth_join)) tt

none_flat : (ds : Data) → is_none ds ≡ true → depth_in ds ≤ 0
none_flat none e = omega arith
none_flat (more d ds) e = absurd cc

-- what a finish would lose, and what of the row's own part its symbol does not allow: nothing of it is allowed
abbrev pub waste : Symbol → Finish → List Symbol → Flow → ℕ
waste s finishes.Same (x ∷ []) b = (cap x - cap s) + (level x - level s) + b.values + b.held + b.directives + b.items + b.ends
waste s finishes.Values [] b = b.held + b.directives + b.items + b.ends
waste s finishes.Folds [] b = b.held + b.directives + b.items + (b.ends - 2) + (b.operand - 1)
waste s (finishes.Ends k) [] b = b.directives + b.items + (b.ends - 2) + (b.ends - level s)
waste s (finishes.EndsParameters k) [] b = b.directives + b.items + (b.ends - 2) + (max 2 b.ends - level s)
waste s (finishes.EndsLabel k) [] b = b.directives + b.items + (b.ends - 2) + (max 2 b.ends - level s)
waste s finishes.Endings [] b = b.values + b.held + b.directives + b.items + (b.ends - level s) + (min b.ends b.behind - 2)
waste s finishes.Fills [] b = b.held + b.directives + b.items + (b.ends - 1)
waste s (finishes.Binds how) [] b = b.held + b.directives + b.items
waste s finishes.Declares [] b = b.held + b.directives + b.items + (b.ends - 1) + (2 - level s)
waste s finishes.ArrowBody [] b = b.held + b.items + b.ends + (2 - level s)
waste s finishes.Tries [] b = b.directives + b.items + (b.ends - 2) + (b.ends - level s)
waste s finishes.Sequence [] b = b.directives + b.items + b.ends + (b.held_operand - 1)
waste s finishes.Statement [] b = b.held + b.directives + b.items + (b.ends - 2) + (b.operand - 1) + (2 - cap s)
waste s finishes.Property [] b = b.values + b.held + b.directives + b.items + (b.behind - 2)
waste s finishes.Instead [] b = b.held + b.directives + b.items + b.ends + (3 - level s)
waste s finishes.Items [] b = b.held + b.directives + b.ends + (b.operand - 2) + (2 - cap s)
waste s finishes.NoItems [] b = b.values + b.held + b.directives + b.items + b.ends
waste s finishes.Switch [] b = b.directives + b.items + b.ends
waste s finishes.Parameters [] b = b.held + b.directives + b.items + b.ends
waste s _ _ b = 1

module _ (s : Symbol) (outer : List Symbol) (ps : List Part) (solid : 1 ≤ leafs s) (laid : Laid outer ps) where
  abbrev Finishes : ℕ → Result (List Part) Fault → Result (List Part) Fault → Type 0
  Finishes n r q = Follows n deep_parts (Laid (s ∷ outer)) r q

  values_end : {n : ℕ} {r q : Result Tree Fault} → Follows n (λ t. max (deep_parts ps) (depth t)) (λ t. Unit {0}) r q → Finishes n (r >>= λ t. Ok (parts.Values (one (child t)) None ∷ ps)) (q >>= λ t. Ok (parts.Values (one (child t)) None ∷ ps))
  values_end h = andthen h (λ t k. done (omega arith) (omega (arith, solid), laid))

  folds_finish : (b : Flow) (w : Work) → waste s finishes.Folds [] b ≡ 0 → Within b w → HoldsWork IsIdent w → Finishes (deep_got (w, ps)) (folds limited w ps) (folds unlimited w ps)
  unfolding folds
  folds_finish b w kept e idents =
      either_follows (length w.endings == 0) (λ is. let left = none_left w.endings is in done (omega (arith, kept, e, left)) (omega (arith, kept, e, solid, bounds s), laid))
      (λ is. andthen (one_node_follows w.values) (λ t one. values_end (folded_follows (deep_parts ps) w.endings t (omega (arith, kept, e)) idents.endings (ident_of w.values t one.0 idents.values) (omega (arith, kept, e, one.1)))))

  filled_finish : {n : ℕ} (e : Ending) (d : Datum) → rank e ≤ 1 → n ≤ max 512 (max (deep_parts ps) (max (deep_ending e) (depth_at d))) → Finishes n (filled e d ps) (filled e d ps)
  filled_finish (endings.Around k form before behind) d plain below = let flat = plain_flat form plain in done (omega (arith, below, flat, depth_join)) (omega (arith, solid, bounds s), laid)
  filled_finish (endings.Instead t) d plain below = failed

  bound_finish : {n : ℕ} (how : Declared) (d : Datum) (e : Ending) → n ≤ max 512 (max (deep_parts ps) (max (deep_ending e) (depth_at d))) → Finishes n (bound limited how d e ps) (bound unlimited how d e ps)
  bound_finish how d (endings.Around k form before behind) below =
      andthen (left_follows (max (deep_parts ps) (max (depth_in before) (depth_in behind))) how d form (omega (arith, below))) (λ t u. done (omega (arith, depth_join)) (omega (arith, solid, bounds s), laid))
  bound_finish how d (endings.Instead t) below = failed

  declaring_finish : {n : ℕ} (ds : Data) (e : Ending) → 2 ≤ level s → rank e ≤ 1 → n ≤ max 512 (max (deep_parts ps) (max (deep_ending e) (depth_in ds))) → Finishes n (declaring ds e ps) (declaring ds e ps)
  declaring_finish ds (endings.Around k form before behind) high plain below = let flat = plain_flat form plain in done (omega (arith, below, flat)) (omega (arith, solid, high), laid)
  declaring_finish ds (endings.Instead t) high plain below = failed

pub finish_follows : (f : Finish) (s : Symbol) (b : Flow) (left outer : List Symbol) (w : Work) (ps : List Part) → waste s f left b ≡ 0 → 1 ≤ leafs s → Within b w → HoldsWork IsIdent w → Laid (left ++ outer) ps
    → Follows (deep_got (w, ps)) deep_parts (Laid (s ∷ outer)) (finish_on limited f w ps) (finish_on unlimited f w ps)
unfolding statement property fills binds declares arrow_body tries sequence instead add_item switch parameters
finish_follows finishes.Same s b (x ∷ []) outer w (p ∷ ps) kept solid e idents laid = done (omega (arith, kept, e, flat_ranks w.endings)) (omega (arith, kept, solid, laid.0), laid.1)
finish_follows finishes.Same s b (x ∷ []) outer w [] kept solid e idents laid = absurd laid
finish_follows finishes.Values s b [] outer w ps kept solid e idents laid = done (omega (arith, kept, e, flat_ranks w.endings)) (omega (arith, solid), laid)
finish_follows finishes.Folds s b [] outer w ps kept solid e idents laid = folds_finish s outer ps solid laid b w kept e idents
finish_follows (finishes.Ends k) s b [] outer w ps kept solid e idents laid = done (omega (arith, kept, e)) (omega (arith, kept, solid, e, bounds s), laid)
finish_follows (finishes.EndsParameters k) s b [] outer w ps kept solid e idents laid = done (omega (arith, kept, e)) (omega (arith, kept, solid, e), laid)
finish_follows (finishes.EndsLabel k) s b [] outer w ps kept solid e idents laid = done (omega (arith, kept, e)) (omega (arith, kept, solid, e), laid)
finish_follows finishes.Endings s b [] outer w ps kept solid e idents laid = done (omega (arith, kept, e)) (omega (arith, kept, solid, e, behind_ranks w.endings), laid)
finish_follows finishes.Fills s b [] outer w ps kept solid e idents laid =
    andthen (one_follows w.values) (λ d one. andthen (one_ending_follows w.endings) (λ x all. filled_finish s outer ps solid laid x d (omega (arith, kept, e, all.1)) (omega (arith, kept, e, one.1, all.0))))
finish_follows (finishes.Binds how) s b [] outer w ps kept solid e idents laid =
    andthen (one_follows w.values) (λ d one. andthen (one_ending_follows w.endings) (λ x all. bound_finish s outer ps solid laid how d x (omega (arith, kept, e, one.1, all.0))))
finish_follows finishes.Declares s b [] outer w ps kept solid e idents laid =
    andthen (one_ending_follows w.endings) (λ x all. declaring_finish s outer ps solid laid w.values x (omega (arith, kept)) (omega (arith, kept, e, all.1)) (omega (arith, kept, e, all.0)))
finish_follows finishes.ArrowBody s b [] outer w ps kept solid e idents laid = done (omega (arith, kept, e, flat_ranks w.endings)) (omega (arith, kept, solid), laid)
finish_follows finishes.Tries s b [] outer w ps kept solid e idents laid = done (omega (arith, kept, e)) (omega (arith, kept, solid, e, bounds s), laid)
finish_follows finishes.Sequence s b [] outer w ps kept solid e idents laid =
    either_follows (is_none w.values) (λ is. let flat = none_flat w.values is in done (omega (arith, kept, e, flat, flat_ranks w.endings)) (omega (arith, kept, solid, e, bounds s), laid))
    (λ is. values_end s outer ps solid laid (node (deep_parts ps) kinds.SequenceExpression (join w.held (one (listed w.values))) (omega (arith, kept, e, flat_ranks w.endings, depth_join)) tt))
finish_follows finishes.Statement s b [] outer w ps kept solid e idents laid =
    either_follows (length w.endings == 0) (λ is. andthen (made kinds.ExpressionStatement w.values) (λ t same. let left = none_left w.endings is in
    let small = told_up w.raw 1 (depth_in (one (child t))) (depth_in w.values) (omega (arith, same.1)) in
    done (omega (arith, kept, e, left, same.1)) (omega (arith, kept, solid, e, small), laid)))
    (λ is. folds_finish s outer ps solid laid b w (omega (arith, kept)) e idents)
finish_follows finishes.Property s b [] outer w ps kept solid e idents laid =
    either_follows (length w.endings == 0) (λ is. let left = none_left w.endings is in values_end s outer ps solid laid (shorthand_follows (deep_parts ps) w.values (omega (arith, kept, e, left))))
    (λ is. andthen (made kinds.LiteralPropertyName w.values) (λ t same. values_end s outer ps solid laid
    (let spare : (depth_in w.values ≤ 1) × (depth_in w.held ≤ 1) × (depth_in w.directives ≤ 1) × (deep_items w.items ≤ 1) = omega (arith, kept, e) in
    replaced_follows (deep_parts ps) w.endings t (omega (arith, kept, e)) idents.endings (property_ident w.values t same.0) (omega (arith, spare, same.1)) (omega (arith, spare, same.1)))))
finish_follows finishes.Instead s b [] outer w ps kept solid e idents laid =
    andthen (one_node_follows w.values) (λ t one. done (omega (arith, kept, e, one.1, flat_ranks w.endings)) (omega (arith, kept, solid), laid))
finish_follows finishes.Items s b [] outer w ps kept solid e idents laid =
    andthen (one_node_follows w.values) (λ t one. let small = told_up w.raw 0 (depth t) (depth_in w.values) (omega (arith, one.1)) in
    done (omega (arith, kept, e, one.1, flat_ranks w.endings)) (omega (arith, kept, solid, e, small), laid))
finish_follows finishes.NoItems s b [] outer w ps kept solid e idents laid = done (omega (arith, kept, e, flat_ranks w.endings)) (omega (arith, solid), laid)
finish_follows finishes.Switch s b [] outer w ps kept solid e idents laid =
    values_end s outer ps solid laid (switch_follows (deep_parts ps) w.held (before_default w.values) (from_default w.values) (omega (arith, kept, e, flat_ranks w.endings, cases_depth w.values)))
finish_follows finishes.Parameters s b [] outer w ps kept solid e idents laid =
    andthen (last_follows w.values) (λ l all. values_end s outer ps solid laid (node (deep_parts ps) kinds.FormalParameters (two (listed l.0) l.1) (omega (arith, kept, e, all, flat_ranks w.endings)) tt))
finish_follows _ s b _ outer w ps kept solid e idents laid = absurd (omega (arith, kept))
