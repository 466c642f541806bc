-- Why each finish of a recipe leaves what is found for it.
use Rattle.std.proofs.Common.{◌≡◌, Bool, true, false, ◌&&◌, inl, inr, List, [], ◌∷◌, Option, Some, None, Ok, Err, refl, sym, ap, subst, cond}
use lib.Dec.{eqb}
use Rattle.bast_base.specs.declared.errors.NameId.{NameId}
use Rattle.bast_schema.specs.Choices.{lexical_let, lexical_const, for_var, for_let, for_const}
use Rattle.bast_schema.specs.declared.kind.FieldType.{FieldType}
use Rattle.bast_schema.specs.declared.kind.FieldType.TheVariants as field
use Rattle.bast_schema.specs.declared.kind.Kind.{Kind}
use Rattle.bast_schema.specs.declared.kind.Kind.TheVariants as kinds
use Rattle.bast_schema.specs.declared.kind.Union.{Union}
use Rattle.bast_schema.specs.declared.kind.Union.TheVariants as unions
use Rattle.bast_schema.specs.Fields.{fields}
use Rattle.bast_schema.specs.Kinds.{number}
use Rattle.bast_schema.specs.Counts.{join}
use Rattle.bast_schema.specs.Tree.{Tree, branch, Datum, child, listed, choice, Data, none, more, fits, fit, items_fit, is_none}
use Rattle.bast_schema.specs.Unions.{allowed}
use Rattle.js_tree.specs.Finishes.{Finished, finish_on, with_values, with_made, with_endings, ends, folds, statement, property, filled, fills, for_kind, declaration, left_of, bound, binds, declaring, declares, arrow_body, try_kind, tries, sequence, instead, add_item, is_default, before_default, from_default, switch_of, switch, parameters}
use Rattle.js_tree.specs.Nodes.{Maker, one, two, ended}
use Rattle.js_tree.specs.Parts.{one_value, one_node, one_ending, last_value, last_behind}
use Rattle.js_tree.specs.Results.{◌>>=◌}
use Rattle.js_tree.specs.declared.parts.Part.{Part}
use Rattle.js_tree.specs.declared.parts.Part.TheVariants as parts
use Rattle.js_tree.specs.declared.parts.Form.TheVariants as forms
use Rattle.js_tree.specs.declared.parts.Ending.{Ending}
use Rattle.js_tree.specs.declared.parts.Ending.TheVariants as endings
use Rattle.js_tree.specs.declared.recipe.Declared.{Declared}
use Rattle.js_tree.specs.declared.recipe.Declared.TheVariants as declared
use Rattle.js_tree.specs.declared.recipe.Finish.{Finish}
use Rattle.js_tree.specs.declared.recipe.Finish.TheVariants as finishes
use Rattle.js_tree.specs.declared.work.Work.{Work}
use Rattle.js_tree_laws.proofs.Sorts.{Sort, Of, Rest, Nothing, Many, Maybe, Clauses, Parameters, RestIs, Holds, Tail, NoTail, Turns, Names, Fills, Binds, Any, PartSort, Values, Endings, Items, PartIs, AreEndings, Is, IsMaker, Safely, TurnsTo, Operand, Filling, Binding, declarators, within, suits, suit, shape_within, case, default, last_parameter, sorts_of}
use Rattle.js_tree_laws.proofs.Shapes.{and_left, and_right, both, three, suits_sound, suit_sound, shape_sound, node_items}
use Rattle.js_tree_laws.proofs.Gathers.{Shape, WorkIs, PartsAre, a_node}
use Rattle.js_tree_laws.proofs.Safe.{safely_bind, safely_map, widened, made_in}
use Rattle.js_tree_laws.proofs.Closing.{Makes, none_left, one_left, node_target, values_target, tail_target, items_target, turns_target, at_node, at_values, at_tail, at_items, at_turns, nothing_left, on_top, operand_within, operand_sound, tail_within, tail_sound, part_within, same_sound, after_sound, around, plainly}
use Rattle.js_tree_laws.proofs.SortedFinishes.{made_on_top, endings_on_top, exactly, none_behind, other_kind, kind_is, is_nothing, is_no_tail, folds_fit, folds_sound, statement_fit, statement_sound, property_fit, property_sound, ends_fit, ends_sound, heads_fit, heads_sound, label_fit, label_sound, arrow_fit, arrow_sound}
use Rattle.js_tree.specs.Recipes.{recipe}
use Rattle.js_tree.specs.Image.{row_part}
use Rattle.js_tree.specs.Steps.{no_work}
use Rattle.js_tree_laws.proofs.Gathers.{Checked, gathers, no_shape}
use Rattle.js_tree_laws.proofs.Safe.{Reached, gathered_sound}
use Rattle.js_tree.specs.Steps.{Gathered}
use Rattle.js_tree.specs.declared.fault.Fault.TheVariants as faults
use Rattle.js_grammar.specs.declared.symbols.RowId.{RowId}

-- the body of a loop behind a value that is filled in
filled_turns : (m : Maker) → IsMaker m → (k : Kind) (before behind : Data) (d : Datum) (v : Union) → allowed unions.Body k ≡ true → within unions.Body v ≡ true
    → ((t : Tree) → Is unions.Body t → fit (fields k) (join (join before (more d behind)) (more (child t) none)) ≡ true)
    → TurnsTo m (Any unions.Body) v (endings.Around k forms.Plain (join before (more d behind)) none ∷ [])
filled_turns m maker k before behind d v allows inside fitting =
    around m maker (Any unions.Body) v k forms.Plain (join before (more d behind)) none []
    (λ t is. plainly m (λ x. fit (fields k) (join (join before (more d behind)) (more x none)) ≡ true) t (fitting t is))
    (λ t is. widened unions.Body v t inside (widened (unions.One k) unions.Body t (both _ _ allows refl) is))

one_filled : (m : Maker) → IsMaker m → (s : FieldType) (e : Ending) (d : Datum) (v : Union) (ps qs : List Part) → within unions.Body v ≡ true → ps ≡ qs → fits s d ≡ true → Filling s e → Makes m (Endings (Turns (Any unions.Body) v)) qs (filled e d ps)
one_filled m maker s (endings.Around k forms.Plain before behind) d v ps qs inside same fitting is =
    endings_on_top m (Turns (Any unions.Body) v) (endings.Around k forms.Plain (join before (more d behind)) none ∷ []) ps qs same (filled_turns m maker k before behind d v is.0 inside (λ t. is.1 d t fitting))
one_filled m maker s _ d v ps qs inside same fitting is = absurd is

abbrev pub body_target : Tail → (Union → Bool) → Bool
body_target (Turns (Any unions.Body) v) f = f v
body_target _ f = false

at_body : (m : Maker) (x : Tail) (f : Union → Bool) (P : PartSort → Type 0) → body_target x f ≡ true → ((v : Union) → f v ≡ true → P (Endings (Turns (Any unions.Body) v))) → P (Endings x)
at_body m (Turns (Any unions.Body) v) f P e next = next v e
at_body m _ f P e next = cc

abbrev pub fills_as : List Sort → Rest → Tail → Bool
fills_as (s ∷ []) Nothing (Fills t) = suits s t
fills_as _ _ _ = false

fills_found : (m : Maker) → IsMaker m → (ss : List Sort) (q : Rest) (x : Tail) (v : Union) (ds : Data) (es : List Ending) (ps qs : List Part) → fills_as ss q x ≡ true → within unions.Body v ≡ true → ps ≡ qs → Holds ss q ds → AreEndings m x es
    → Makes m (Endings (Turns (Any unions.Body) v)) qs (one_value ds >>= λ d. one_ending es >>= λ e. filled e d ps)
fills_found m maker (s ∷ []) Nothing (Fills t) v (more d none) (e ∷ []) ps qs w inside same is endings_are = one_filled m maker t e d v ps qs inside same (suits_sound s t d w is.0) endings_are
fills_found m maker (s ∷ []) Nothing (Fills t) v (more d none) [] ps qs w inside same is endings_are = absurd endings_are
fills_found m maker (s ∷ []) Nothing (Fills t) v (more d none) (e ∷ f ∷ es) ps qs w inside same is endings_are = absurd endings_are
fills_found m maker (s ∷ []) Nothing (Fills t) v none es ps qs w inside same is endings_are = absurd is
fills_found m maker (s ∷ []) Nothing (Fills t) v (more d (more e ds)) es ps qs w inside same is endings_are = absurd is.1
fills_found m maker _ _ _ v ds es ps qs w inside same is endings_are = cc

abbrev pub fills_fit : Shape → Tail → Bool
fills_fit a x = body_target x (λ v. fills_as a.front a.rest a.tail && within unions.Body v)

fills_sound : (m : Maker) → IsMaker m → (a : Shape) (x : Tail) (w : Work) (ps qs : List Part) → fills_fit a x ≡ true → ps ≡ qs → WorkIs m a w → Makes m (Endings x) qs (fills w ps)
unfolding fills
fills_sound m maker a x w ps qs fit_is same is =
    at_body m x _ (λ t. Makes m t qs (one_value w.values >>= λ d. one_ending w.endings >>= λ e. filled e d ps)) fit_is (λ v e.
    fills_found m maker a.front a.rest a.tail v w.values w.endings ps qs (and_left (fills_as a.front a.rest a.tail) (within unions.Body v) e) (and_right (fills_as a.front a.rest a.tail) (within unions.Body v) e) same is.values is.endings)

-- what the head of a `for` declares
for_of : (m : Maker) → IsMaker m → (how : Declared) (b : Datum) → fits (field.Node (unions.One kinds.BindingIdentifier)) b ≡ true → Safely (Is unions.ForTarget) (m kinds.ForInOfBinding (two (choice (for_kind how)) b))
for_of m maker declared.Var b is = made_in m maker unions.ForTarget kinds.ForInOfBinding (two (choice for_var) b) refl (both _ _ is refl)
for_of m maker declared.Let b is = made_in m maker unions.ForTarget kinds.ForInOfBinding (two (choice for_let) b) refl (both _ _ is refl)
for_of m maker declared.Const b is = made_in m maker unions.ForTarget kinds.ForInOfBinding (two (choice for_const) b) refl (both _ _ is refl)

declaration_safe : (m : Maker) → IsMaker m → (how : Declared) (d : Datum) (ds : Data) → items_fit (unions.One kinds.VariableDeclarator) false (more d ds) ≡ true → Safely (Is unions.ForInit) (declaration m how (more d ds))
declaration_safe m maker declared.Var d ds is = made_in m maker unions.ForInit kinds.VarDeclaration (one (listed (more d ds))) refl (both _ _ is refl)
declaration_safe m maker declared.Let d ds is = made_in m maker unions.ForInit kinds.LexicalDeclaration (two (choice lexical_let) (listed (more d ds))) refl (both _ _ is refl)
declaration_safe m maker declared.Const d ds is = made_in m maker unions.ForInit kinds.LexicalDeclaration (two (choice lexical_const) (listed (more d ds))) refl (both _ _ is refl)

declared_safe : (m : Maker) → IsMaker m → (how : Declared) (b : Datum) (ds : Data) → fits (field.Node (unions.One kinds.BindingIdentifier)) b ≡ true → Holds (Of (field.Optional unions.Expression) ∷ []) declarators ds
    → Safely (Is unions.ForInit) (left_of m how b (forms.Declared ds))
declared_safe m maker how b none is holds = absurd holds
declared_safe m maker how b (more d ds) is holds =
    safely_bind (Is (unions.One kinds.VariableDeclarator)) (Is unions.ForInit) (m kinds.VariableDeclarator (two b d)) _ (made_in m maker (unions.One kinds.VariableDeclarator) kinds.VariableDeclarator (two b d) refl (both _ _ is (both _ _ holds.0 refl)))
    (λ t e. declaration_safe m maker how (child t) ds (both _ _ e (node_items (unions.One kinds.VariableDeclarator) ds holds.1)))

bound_safe : (m : Maker) → IsMaker m → (how : Declared) (b : Datum) (e : Ending) (v : Union) (ps qs : List Part) → within unions.Body v ≡ true → ps ≡ qs → fits (field.Node (unions.One kinds.BindingIdentifier)) b ≡ true → Binding e
    → Makes m (Endings (Turns (Any unions.Body) v)) qs (bound m how b e ps)
bound_safe m maker how b (endings.Around k forms.Plain before behind) v ps qs inside same is can =
    safely_bind (Is unions.ForTarget) (λ out. (p : Part) × (out ≡ p ∷ qs) × PartIs m (Endings (Turns (Any unions.Body) v)) p) (m kinds.ForInOfBinding (two (choice (for_kind how)) b)) _ (for_of m maker how b is)
    (λ t e. one_filled m maker (field.Node unions.ForTarget) (endings.Around k forms.Plain before behind) (child t) v ps qs inside same e can)
bound_safe m maker how b (endings.Around k (forms.Declared ds) before behind) v ps qs inside same is can =
    safely_bind (Is unions.ForInit) (λ out. (p : Part) × (out ≡ p ∷ qs) × PartIs m (Endings (Turns (Any unions.Body) v)) p) (left_of m how b (forms.Declared ds)) _ (declared_safe m maker how b ds is can.0)
    (λ t e. one_filled m maker (field.Optional unions.ForInit) (endings.Around k forms.Plain before behind) (child t) v ps qs inside same e can.1)
bound_safe m maker how b _ v ps qs inside same is can = absurd can

abbrev pub binds_as : List Sort → Rest → Tail → Bool
binds_as (s ∷ []) Nothing Binds = suits s (field.Node (unions.One kinds.BindingIdentifier))
binds_as _ _ _ = false

binds_found : (m : Maker) → IsMaker m → (how : Declared) (ss : List Sort) (q : Rest) (x : Tail) (v : Union) (ds : Data) (es : List Ending) (ps qs : List Part) → binds_as ss q x ≡ true → within unions.Body v ≡ true → ps ≡ qs → Holds ss q ds → AreEndings m x es
    → Makes m (Endings (Turns (Any unions.Body) v)) qs (one_value ds >>= λ d. one_ending es >>= λ e. bound m how d e ps)
binds_found m maker how (s ∷ []) Nothing Binds v (more d none) (e ∷ []) ps qs w inside same is endings_are = bound_safe m maker how d e v ps qs inside same (suits_sound s (field.Node (unions.One kinds.BindingIdentifier)) d w is.0) endings_are
binds_found m maker how (s ∷ []) Nothing Binds v (more d none) [] ps qs w inside same is endings_are = absurd endings_are
binds_found m maker how (s ∷ []) Nothing Binds v (more d none) (e ∷ f ∷ es) ps qs w inside same is endings_are = absurd endings_are
binds_found m maker how (s ∷ []) Nothing Binds v none es ps qs w inside same is endings_are = absurd is
binds_found m maker how (s ∷ []) Nothing Binds v (more d (more e ds)) es ps qs w inside same is endings_are = absurd is.1
binds_found m maker how _ _ _ v ds es ps qs w inside same is endings_are = cc

abbrev pub binds_fit : Shape → Tail → Bool
binds_fit a x = body_target x (λ v. binds_as a.front a.rest a.tail && within unions.Body v)

binds_sound : (m : Maker) → IsMaker m → (how : Declared) (a : Shape) (x : Tail) (w : Work) (ps qs : List Part) → binds_fit a x ≡ true → ps ≡ qs → WorkIs m a w → Makes m (Endings x) qs (binds m how w ps)
unfolding binds
binds_sound m maker how a x w ps qs fit_is same is =
    at_body m x _ (λ t. Makes m t qs (one_value w.values >>= λ d. one_ending w.endings >>= λ e. bound m how d e ps)) fit_is (λ v e.
    binds_found m maker how a.front a.rest a.tail v w.values w.endings ps qs (and_left (binds_as a.front a.rest a.tail) (within unions.Body v) e) (and_right (binds_as a.front a.rest a.tail) (within unions.Body v) e) same is.values is.endings)

-- a declaration without its first name
abbrev pub declares_tail : Tail → Bool
declares_tail (Fills s) = suits (Of (field.Optional unions.ForInit)) s
declares_tail _ = false

abbrev pub is_binds : Tail → Bool
is_binds Binds = true
is_binds _ = false

abbrev pub declares_fit : Shape → Tail → Bool
declares_fit a x = is_binds x && shape_within a.front a.rest (field.Optional unions.Expression ∷ []) declarators && declares_tail a.tail

declaring_as : (m : Maker) (s : FieldType) (ds : Data) (e : Ending) (ps qs : List Part) → suits (Of (field.Optional unions.ForInit)) s ≡ true → Holds (Of (field.Optional unions.Expression) ∷ []) declarators ds → Filling s e → ps ≡ qs → Makes m (Endings Binds) qs (declaring ds e ps)
declaring_as m s ds (endings.Around k forms.Plain before behind) ps qs w holds can same =
    endings_on_top m Binds (endings.Around k (forms.Declared ds) before behind ∷ []) ps qs same (holds, (can.0, λ d t e. can.1 d t (suits_sound (Of (field.Optional unions.ForInit)) s d w e)))
declaring_as m s ds _ ps qs w holds can same = absurd can

declares_found : (m : Maker) (x : Tail) (ds : Data) (es : List Ending) (ps qs : List Part) → declares_tail x ≡ true → Holds (Of (field.Optional unions.Expression) ∷ []) declarators ds → AreEndings m x es → ps ≡ qs → Makes m (Endings Binds) qs (one_ending es >>= λ e. declaring ds e ps)
declares_found m (Fills s) ds (e ∷ []) ps qs w holds is same = declaring_as m s ds e ps qs w holds is same
declares_found m (Fills s) ds [] ps qs w holds is same = absurd is
declares_found m (Fills s) ds (e ∷ f ∷ es) ps qs w holds is same = absurd is
declares_found m _ ds es ps qs w holds is same = cc

at_binds : (x : Tail) (P : Tail → Type 0) → is_binds x ≡ true → P Binds → P x
at_binds Binds P e is = is
at_binds _ P e is = cc

declares_sound : (m : Maker) (a : Shape) (x : Tail) (w : Work) (ps qs : List Part) → declares_fit a x ≡ true → ps ≡ qs → WorkIs m a w → Makes m (Endings x) qs (declares w ps)
unfolding declares
declares_sound m a x w ps qs fit_is same is =
    let h = three (is_binds x) (shape_within a.front a.rest (field.Optional unions.Expression ∷ []) declarators) (declares_tail a.tail) fit_is in
    at_binds x (λ x. Makes m (Endings x) qs (one_ending w.endings >>= λ e. declaring w.values e ps)) h.0
    (declares_found m a.tail w.values w.endings ps qs h.2 (shape_sound a.front a.rest (field.Optional unions.Expression ∷ []) declarators w.values h.1 is.values) is.endings same)

-- what stands around the block of a `try`
abbrev pub block : FieldType
block = field.Node (unions.One kinds.Block)

abbrev pub no_sorts : List Sort → Bool
no_sorts [] = true
no_sorts (s ∷ ss) = false

abbrev pub try_fit : Shape → Operand → Union → Bool
try_fit a o v =
    operand_within o (Any (unions.One kinds.Block)) && (within (unions.One kinds.TryCatchStatement) v && within (unions.One kinds.TryFinallyStatement) v)
    && (no_sorts a.held && is_no_tail a.tail && shape_within a.front a.rest (field.Node (unions.One kinds.CatchClause) ∷ []) (Maybe block))

abbrev pub tries_fit : Shape → Tail → Bool
tries_fit a x = turns_target x (λ o v. try_fit a o v)

nothing_held : (ss : List Sort) (ds : Data) → no_sorts ss ≡ true → Holds ss Nothing ds → ds ≡ none
nothing_held [] none e is = refl
nothing_held [] (more d ds) e is = absurd is
nothing_held (s ∷ ss) ds e is = cc

maybe_catch : (d : Datum) → fits (field.Node (unions.One kinds.CatchClause)) d ≡ true → fits (field.Optional (unions.One kinds.CatchClause)) d ≡ true
maybe_catch d e = suits_sound (Of (field.Node (unions.One kinds.CatchClause))) (field.Optional (unions.One kinds.CatchClause)) d refl e

try_around : (m : Maker) → IsMaker m → (o : Operand) (v : Union) (ds : Data) → operand_within o (Any (unions.One kinds.Block)) ≡ true → within (unions.One kinds.TryCatchStatement) v ≡ true → within (unions.One kinds.TryFinallyStatement) v ≡ true
    → Holds (Of (field.Node (unions.One kinds.CatchClause)) ∷ []) (Maybe block) ds → TurnsTo m o v (endings.Around (try_kind ds) forms.Plain none ds ∷ [])
try_around m maker o v none inside one_in other_in is = absurd is
try_around m maker o v (more c none) inside one_in other_in is =
    around m maker o v kinds.TryCatchStatement forms.Plain none (more c none) []
    (λ t operand. plainly m (λ x. fit (fields kinds.TryCatchStatement) (more x (more c none)) ≡ true) t (both _ _ (operand_sound o (Any (unions.One kinds.Block)) t inside operand) (both _ _ is.0 refl)))
    (after_sound m kinds.TryCatchStatement NoTail v [] one_in refl)
try_around m maker o v (more c (more b none)) inside one_in other_in is =
    around m maker o v kinds.TryFinallyStatement forms.Plain none (more c (more b none)) []
    (λ t operand. plainly m (λ x. fit (fields kinds.TryFinallyStatement) (more x (more c (more b none))) ≡ true) t (both _ _ (operand_sound o (Any (unions.One kinds.Block)) t inside operand) (both _ _ (maybe_catch c is.0) (both _ _ is.1 refl))))
    (after_sound m kinds.TryFinallyStatement NoTail v [] other_in refl)
try_around m maker o v (more c (more b (more d ds))) inside one_in other_in is = absurd is.1

try_with : (m : Maker) → IsMaker m → (o : Operand) (v : Union) (before ds : Data) (es : List Ending) → before ≡ none → es ≡ [] → operand_within o (Any (unions.One kinds.Block)) ≡ true → within (unions.One kinds.TryCatchStatement) v ≡ true → within (unions.One kinds.TryFinallyStatement) v ≡ true
    → Holds (Of (field.Node (unions.One kinds.CatchClause)) ∷ []) (Maybe block) ds → TurnsTo m o v (endings.Around (try_kind ds) forms.Plain before ds ∷ es)
try_with m maker o v before ds es e f inside one_in other_in is =
    subst (λ l. TurnsTo m o v (endings.Around (try_kind ds) forms.Plain before ds ∷ l)) (sym f)
    (subst (λ b. TurnsTo m o v (endings.Around (try_kind ds) forms.Plain b ds ∷ [])) (sym e) (try_around m maker o v ds inside one_in other_in is))

tries_sound : (m : Maker) → IsMaker m → (a : Shape) (x : Tail) (w : Work) (ps qs : List Part) → tries_fit a x ≡ true → ps ≡ qs → WorkIs m a w → Makes m (Endings x) qs (tries w ps)
unfolding tries
tries_sound m maker a x w ps qs fit_is same is =
    endings_on_top m x (endings.Around (try_kind w.values) forms.Plain w.held w.values ∷ w.endings) ps qs same (at_turns m x (λ o v. try_fit a o v) _ fit_is (λ o v e.
    let h = three (operand_within o (Any (unions.One kinds.Block))) (within (unions.One kinds.TryCatchStatement) v && within (unions.One kinds.TryFinallyStatement) v) (no_sorts a.held && is_no_tail a.tail && shape_within a.front a.rest (field.Node (unions.One kinds.CatchClause) ∷ []) (Maybe block)) e in
    let g = three (no_sorts a.held) (is_no_tail a.tail) (shape_within a.front a.rest (field.Node (unions.One kinds.CatchClause) ∷ []) (Maybe block)) h.2 in
    try_with m maker o v w.held w.values w.endings (nothing_held a.held w.held g.0 is.held) (none_behind m a.tail w.endings g.1 is.endings) h.0
    (and_left _ _ h.1) (and_right (within (unions.One kinds.TryCatchStatement) v) _ h.1) (shape_sound a.front a.rest (field.Node (unions.One kinds.CatchClause) ∷ []) (Maybe block) w.values g.2 is.values)))

-- one node
one_child : (v : Union) (ds : Data) → fit (field.Node v ∷ []) ds ≡ true → (t : Tree) × (ds ≡ more (child t) none) × Is v t
one_child v none e = cc
one_child v (more (child t) none) e = (t, refl, and_left (fits (field.Node v) (child t)) true e)
one_child v (more (child t) (more d ds)) e = let no : false ≡ true = and_right (fits (field.Node v) (child t)) false e in cc
one_child v (more _ ds) e = cc

-- a sequence of expressions
abbrev pub sequence_fit : Shape → Union → Bool
sequence_fit a v = suit a.held (field.Node unions.Expression ∷ []) && shape_within a.front a.rest [] (Many (field.Node unions.Expression)) && within unions.Expression v

sequence_of : (m : Maker) → IsMaker m → (v : Union) (first : Tree) (ds : Data) (raw : Option NameId) (ps qs : List Part) → within unions.Expression v ≡ true → Is unions.Expression first → RestIs (Many (field.Node unions.Expression)) ds → ps ≡ qs
    → Makes m (Values (field.Node v ∷ []) Nothing) qs (cond (is_none ds) (with_values (more (child first) none) raw ps) (with_made (m kinds.SequenceExpression (join (more (child first) none) (one (listed ds)))) ps))
sequence_of m maker v first none raw ps qs inside is rest_is same = on_top m (Values (field.Node v ∷ []) Nothing) (parts.Values (more (child first) none) raw) ps qs same (widened unions.Expression v first inside is, tt)
sequence_of m maker v first (more d ds) raw ps qs inside is rest_is same =
    made_on_top m v (m kinds.SequenceExpression (more (child first) (one (listed (more d ds))))) ps qs same (safely_map (Is unions.Expression) (Is v) (m kinds.SequenceExpression (more (child first) (one (listed (more d ds))))) (λ t. widened unions.Expression v t inside)
    (made_in m maker unions.Expression kinds.SequenceExpression (more (child first) (one (listed (more d ds)))) refl (both _ _ is (both _ _ (node_items unions.Expression (more d ds) rest_is) refl))))

sequence_sound : (m : Maker) → IsMaker m → (a : Shape) (v : Union) (w : Work) (ps qs : List Part) → sequence_fit a v ≡ true → ps ≡ qs → WorkIs m a w → Makes m (Values (field.Node v ∷ []) Nothing) qs (sequence m w ps)
unfolding sequence
sequence_sound m maker a v w ps qs fit_is same is =
    let h = three (suit a.held (field.Node unions.Expression ∷ [])) (shape_within a.front a.rest [] (Many (field.Node unions.Expression))) (within unions.Expression v) fit_is in
    let f = one_child unions.Expression w.held (suit_sound a.held (field.Node unions.Expression ∷ []) w.held h.0 is.held) in
    subst (λ held. Makes m (Values (field.Node v ∷ []) Nothing) qs (cond (is_none w.values) (with_values held w.raw ps) (with_made (m kinds.SequenceExpression (join held (one (listed w.values)))) ps))) (sym f.1)
    (sequence_of m maker v f.0 w.values w.raw ps qs h.2 f.2 (shape_sound a.front a.rest [] (Many (field.Node unions.Expression)) w.values h.1 is.values) same)

-- a node in place of an operand
abbrev pub instead_fit : Shape → Tail → Bool
instead_fit a x = turns_target x (λ o v. is_nothing a.rest && suit a.front (field.Node v ∷ []))

instead_turns : (m : Maker) (o : Operand) (v : Union) (u : Tree) → Is v u → TurnsTo m o v (endings.Instead u ∷ [])
unfolding ended
instead_turns m o v u is = λ t operand. is

abbrev pub instead_at : Tail → (Operand → Union → Bool) → Union
instead_at (Turns o v) f = v
instead_at _ f = unions.ObjectProperty

instead_value : (a : Shape) (x : Tail) → instead_fit a x ≡ true → (is_nothing a.rest && suit a.front (field.Node (instead_at x (λ o v. true)) ∷ [])) ≡ true
instead_value a (Turns o v) e = e
instead_value a Names e = e
instead_value a _ e = cc

instead_are : (m : Maker) (a : Shape) (x : Tail) (u : Tree) → instead_fit a x ≡ true → Is (instead_at x (λ o v. true)) u → AreEndings m x (endings.Instead u ∷ [])
instead_are m a (Turns o v) u e is = instead_turns m o v u is
instead_are m a Names u e is = λ some. instead_turns m (Any unions.PropertyName) unions.ObjectProperty u is
instead_are m a _ u e is = cc

instead_sound : (m : Maker) (a : Shape) (x : Tail) (w : Work) (ps qs : List Part) → instead_fit a x ≡ true → ps ≡ qs → WorkIs m a w → Makes m (Endings x) qs (instead w ps)
unfolding instead
instead_sound m a x w ps qs fit_is same is =
    let f = one_child (instead_at x (λ o v. true)) w.values (exactly a.front a.rest (field.Node (instead_at x (λ o v. true)) ∷ []) w.values (instead_value a x fit_is) is.values) in
    subst (λ ds. Makes m (Endings x) qs (one_node ds >>= λ t. with_endings (endings.Instead t ∷ []) ps)) (sym f.1)
    (endings_on_top m x (endings.Instead f.0 ∷ []) ps qs same (instead_are m a x f.0 fit_is f.2))

-- an item in front of others
abbrev pub item_fit : Shape → Bool
item_fit a = is_nothing a.rest && suit a.front (field.Node unions.Statement ∷ [])

item_sound : (m : Maker) (a : Shape) (w : Work) (ps qs : List Part) → item_fit a ≡ true → ps ≡ qs → WorkIs m a w → Makes m Items qs (add_item w ps)
unfolding add_item
item_sound m a w ps qs fit_is same is =
    let f = one_child unions.Statement w.values (exactly a.front a.rest (field.Node unions.Statement ∷ []) w.values fit_is is.values) in
    subst (λ ds. Makes m Items qs (one_node ds >>= λ t. Ok (parts.Items (record { statement = t; raw = w.raw } ∷ w.items) ∷ ps))) (sym f.1)
    (on_top m Items (parts.Items (record { statement = f.0; raw = w.raw } ∷ w.items)) ps qs same (f.2, is.items))

-- the clauses of a `switch`
not_default : (d : Datum) → fits case d ≡ true → is_default d ≡ false
not_default (child (branch k ds)) e = other_kind k kinds.SwitchDefault (number kinds.SwitchCase) (sym (kind_is kinds.SwitchCase (branch k ds) e)) refl
not_default _ e = cc

a_default : (d : Datum) → fits default d ≡ true → is_default d ≡ true
a_default (child (branch k ds)) e = ap (λ n. eqb n (number kinds.SwitchDefault)) (sym (kind_is kinds.SwitchDefault (branch k ds) e))
a_default _ e = cc

abbrev cases : Data → Type 0
cases ds = items_fit (unions.One kinds.SwitchCase) false ds ≡ true

abbrev FromDefault : Data → Type 0
FromDefault none = Unit {0}
FromDefault (more d ds) = (fits default d ≡ true) × cases ds

at_case : (b : Bool) (d : Datum) (before behind rest : Data) → b ≡ false → fits case d ≡ true → cases before → FromDefault behind → cases (cond b none (more d before)) × FromDefault (cond b (more d rest) behind)
at_case true d before behind rest e is are more_are = cc
at_case false d before behind rest e is are more_are = (both _ _ is are, more_are)

at_first_default : (b : Bool) (d : Datum) (before behind rest : Data) → b ≡ true → fits default d ≡ true → cases rest → cases (cond b none (more d before)) × FromDefault (cond b (more d rest) behind)
at_first_default true d before behind rest e is are = (refl, (is, are))
at_first_default false d before behind rest e is are = cc

clauses_part : (ds : Data) → RestIs Clauses ds → cases (before_default ds) × FromDefault (from_default ds)
clauses_part none is = (refl, tt)
clauses_part (more d ds) (inl is) = let h = clauses_part ds is.1 in at_case (is_default d) d (before_default ds) (from_default ds) ds (not_default d is.0) is.0 h.0 h.1
clauses_part (more d ds) (inr is) = at_first_default (is_default d) d (before_default ds) (from_default ds) ds (a_default d is.0) is.0 (node_items (unions.One kinds.SwitchCase) ds is.1)

abbrev pub switch_head : List FieldType
switch_head = field.Node unions.Expression ∷ a_node kinds.AssertedBlockScope ∷ []

switch_with : (m : Maker) → IsMaker m → (e s : Datum) (before behind : Data) → fits (field.Node unions.Expression) e ≡ true → fits (a_node kinds.AssertedBlockScope) s ≡ true → cases before → FromDefault behind → Safely (Is unions.Body) (switch_of m (two e s) before behind)
switch_with m maker e s before none is_e is_s are more_are = made_in m maker unions.Body kinds.SwitchStatement (more e (more s (one (listed before)))) refl (both _ _ is_e (both _ _ is_s (both _ _ are refl)))
switch_with m maker e s before (more d behind) is_e is_s are more_are =
    made_in m maker unions.Body kinds.SwitchStatementWithDefault (more e (more s (more (listed before) (two d (listed behind))))) refl (both _ _ is_e (both _ _ is_s (both _ _ are (both _ _ more_are.0 (both _ _ more_are.1 refl)))))

switch_held : (m : Maker) → IsMaker m → (held before behind : Data) → Holds (sorts_of switch_head) Nothing held → cases before → FromDefault behind → Safely (Is unions.Body) (switch_of m held before behind)
switch_held m maker none before behind is are more_are = absurd is
switch_held m maker (more e none) before behind is are more_are = absurd is.1
switch_held m maker (more e (more s none)) before behind is are more_are = switch_with m maker e s before behind is.0 is.1.0 are more_are
switch_held m maker (more e (more s (more d ds))) before behind is are more_are = absurd is.1.1

abbrev pub switch_fit : Shape → Union → Bool
switch_fit a v = shape_within a.held Nothing switch_head Nothing && shape_within a.front a.rest [] Clauses && within unions.Body v

switch_sound : (m : Maker) → IsMaker m → (a : Shape) (v : Union) (w : Work) (ps qs : List Part) → switch_fit a v ≡ true → ps ≡ qs → WorkIs m a w → Makes m (Values (field.Node v ∷ []) Nothing) qs (switch m w ps)
unfolding switch
switch_sound m maker a v w ps qs fit_is same is =
    let h = three (shape_within a.held Nothing switch_head Nothing) (shape_within a.front a.rest [] Clauses) (within unions.Body v) fit_is in
    let c = clauses_part w.values (shape_sound a.front a.rest [] Clauses w.values h.1 is.values) in
    made_on_top m v (switch_of m w.held (before_default w.values) (from_default w.values)) ps qs same
    (safely_map (Is unions.Body) (Is v) (switch_of m w.held (before_default w.values) (from_default w.values)) (λ t. widened unions.Body v t h.2) (switch_held m maker w.held (before_default w.values) (from_default w.values) (shape_sound a.held Nothing switch_head Nothing w.held h.0 is.held) c.0 c.1))

-- the parameters of a function
all_but_last : (d : Datum) (ds : Data) → RestIs Parameters (more d ds) → (items_fit unions.Parameter false (last_behind d ds).0 ≡ true) × (fits last_parameter (last_behind d ds).1 ≡ true)
all_but_last d none is = (refl, is)
all_but_last d (more e ds) is = let h = all_but_last e ds is.1 in (both _ _ is.0 h.0, h.1)

abbrev pub parameters_fit : Shape → Union → Bool
parameters_fit a v = shape_within a.front a.rest [] Parameters && within (unions.One kinds.FormalParameters) v

parameters_as : (m : Maker) → IsMaker m → (v : Union) (ds : Data) (ps qs : List Part) → within (unions.One kinds.FormalParameters) v ≡ true → RestIs Parameters ds → ps ≡ qs
    → Makes m (Values (field.Node v ∷ []) Nothing) qs (last_value ds >>= λ l. with_made (m kinds.FormalParameters (two (listed l.0) l.1)) ps)
parameters_as m maker v none ps qs inside is same = absurd is
parameters_as m maker v (more d ds) ps qs inside is same =
    let h = all_but_last d ds is in
    made_on_top m v (m kinds.FormalParameters (two (listed (last_behind d ds).0) (last_behind d ds).1)) ps qs same (made_in m maker v kinds.FormalParameters (two (listed (last_behind d ds).0) (last_behind d ds).1) inside (both _ _ h.0 (both _ _ h.1 refl)))

parameters_sound : (m : Maker) → IsMaker m → (a : Shape) (v : Union) (w : Work) (ps qs : List Part) → parameters_fit a v ≡ true → ps ≡ qs → WorkIs m a w → Makes m (Values (field.Node v ∷ []) Nothing) qs (parameters m w ps)
unfolding parameters
parameters_sound m maker a v w ps qs fit_is same is =
    parameters_as m maker v w.values ps qs (and_right (shape_within a.front a.rest [] Parameters) _ fit_is) (shape_sound a.front a.rest [] Parameters w.values (and_left _ (within (unions.One kinds.FormalParameters) v) fit_is) is.values) same

-- what each finish leaves
abbrev pub finish_fits : Finish → Shape → List PartSort → PartSort → Bool
finish_fits finishes.Same a ss t = one_left ss (λ s. part_within s t)
finish_fits finishes.Values a ss t = none_left ss (values_target t (λ us r. shape_within a.front a.rest us r))
finish_fits finishes.Folds a ss t = none_left ss (node_target t (λ v. folds_fit a.front a.rest a.tail v))
finish_fits (finishes.Ends k) a ss t = none_left ss (tail_target t (λ x. ends_fit a k x))
finish_fits (finishes.EndsParameters k) a ss t = none_left ss (tail_target t (λ x. heads_fit a k x))
finish_fits (finishes.EndsLabel k) a ss t = none_left ss (tail_target t (λ x. label_fit a k x))
finish_fits finishes.Endings a ss t = none_left ss (tail_target t (λ x. tail_within a.tail x))
finish_fits finishes.Fills a ss t = none_left ss (tail_target t (λ x. fills_fit a x))
finish_fits (finishes.Binds how) a ss t = none_left ss (tail_target t (λ x. binds_fit a x))
finish_fits finishes.Declares a ss t = none_left ss (tail_target t (λ x. declares_fit a x))
finish_fits finishes.ArrowBody a ss t = none_left ss (tail_target t (λ x. arrow_fit a x))
finish_fits finishes.Tries a ss t = none_left ss (tail_target t (λ x. tries_fit a x))
finish_fits finishes.Sequence a ss t = none_left ss (node_target t (λ v. sequence_fit a v))
finish_fits finishes.Statement a ss t = none_left ss (node_target t (λ v. statement_fit a v))
finish_fits finishes.Property a ss t = none_left ss (node_target t (λ v. property_fit a v))
finish_fits finishes.Instead a ss t = none_left ss (tail_target t (λ x. instead_fit a x))
finish_fits finishes.Items a ss t = none_left ss (items_target t (item_fit a))
finish_fits finishes.NoItems a ss t = none_left ss (items_target t true)
finish_fits finishes.Switch a ss t = none_left ss (node_target t (λ v. switch_fit a v))
finish_fits finishes.Parameters a ss t = none_left ss (node_target t (λ v. parameters_fit a v))

at_end : (m : Maker) (ss : List PartSort) (t : PartSort) (b : Bool) (ps qs : List Part) (r : Finished) → none_left ss b ≡ true → PartsAre m ss ps qs → (ps ≡ qs → b ≡ true → Makes m t qs r) → Makes m t qs r
at_end m ss t b ps qs r e is next = let h = nothing_left m ss b ps qs e is in next h.0 h.1

pub finish_sound : (m : Maker) → IsMaker m → (f : Finish) (a : Shape) (ss : List PartSort) (t : PartSort) (w : Work) (ps qs : List Part) → finish_fits f a ss t ≡ true → WorkIs m a w → PartsAre m ss ps qs → Makes m t qs (finish_on m f w ps)
finish_sound m maker finishes.Same a ss t w ps qs e is rest_is = same_sound m ss t ps qs e rest_is
finish_sound m maker finishes.Values a ss t w ps qs e is rest_is =
    at_end m ss t _ ps qs (finish_on m finishes.Values w ps) e rest_is (λ same e. at_values t _ (λ t. Makes m t qs (with_values w.values None ps)) e (λ us r e. on_top m (Values us r) (parts.Values w.values None) ps qs same (shape_sound a.front a.rest us r w.values e is.values)))
finish_sound m maker finishes.Folds a ss t w ps qs e is rest_is = at_end m ss t _ ps qs (finish_on m finishes.Folds w ps) e rest_is (λ same e. at_node t _ (λ t. Makes m t qs (folds m w ps)) e (λ v e. folds_sound m a v w ps qs e same is))
finish_sound m maker (finishes.Ends k) a ss t w ps qs e is rest_is = at_end m ss t _ ps qs (finish_on m (finishes.Ends k) w ps) e rest_is (λ same e. at_tail t _ (λ t. Makes m t qs (ends k forms.Plain w ps)) e (λ x e. ends_sound m maker a k x w ps qs e same is))
finish_sound m maker (finishes.EndsParameters k) a ss t w ps qs e is rest_is = at_end m ss t _ ps qs (finish_on m (finishes.EndsParameters k) w ps) e rest_is (λ same e. at_tail t _ (λ t. Makes m t qs (ends k forms.Parameters w ps)) e (λ x e. heads_sound m maker a k x w ps qs e same is))
finish_sound m maker (finishes.EndsLabel k) a ss t w ps qs e is rest_is = at_end m ss t _ ps qs (finish_on m (finishes.EndsLabel k) w ps) e rest_is (λ same e. at_tail t _ (λ t. Makes m t qs (ends k forms.Label w ps)) e (λ x e. label_sound m maker a k x w ps qs e same is))
finish_sound m maker finishes.Endings a ss t w ps qs e is rest_is = at_end m ss t _ ps qs (finish_on m finishes.Endings w ps) e rest_is (λ same e. at_tail t _ (λ t. Makes m t qs (with_endings w.endings ps)) e (λ x e. endings_on_top m x w.endings ps qs same (tail_sound m a.tail x w.endings e is.endings)))
finish_sound m maker finishes.Fills a ss t w ps qs e is rest_is = at_end m ss t _ ps qs (finish_on m finishes.Fills w ps) e rest_is (λ same e. at_tail t _ (λ t. Makes m t qs (fills w ps)) e (λ x e. fills_sound m maker a x w ps qs e same is))
finish_sound m maker (finishes.Binds how) a ss t w ps qs e is rest_is = at_end m ss t _ ps qs (finish_on m (finishes.Binds how) w ps) e rest_is (λ same e. at_tail t _ (λ t. Makes m t qs (binds m how w ps)) e (λ x e. binds_sound m maker how a x w ps qs e same is))
finish_sound m maker finishes.Declares a ss t w ps qs e is rest_is = at_end m ss t _ ps qs (finish_on m finishes.Declares w ps) e rest_is (λ same e. at_tail t _ (λ t. Makes m t qs (declares w ps)) e (λ x e. declares_sound m a x w ps qs e same is))
finish_sound m maker finishes.ArrowBody a ss t w ps qs e is rest_is = at_end m ss t _ ps qs (finish_on m finishes.ArrowBody w ps) e rest_is (λ same e. at_tail t _ (λ t. Makes m t qs (arrow_body w ps)) e (λ x e. arrow_sound m maker a x w ps qs e same is))
finish_sound m maker finishes.Tries a ss t w ps qs e is rest_is = at_end m ss t _ ps qs (finish_on m finishes.Tries w ps) e rest_is (λ same e. at_tail t _ (λ t. Makes m t qs (tries w ps)) e (λ x e. tries_sound m maker a x w ps qs e same is))
finish_sound m maker finishes.Sequence a ss t w ps qs e is rest_is = at_end m ss t _ ps qs (finish_on m finishes.Sequence w ps) e rest_is (λ same e. at_node t _ (λ t. Makes m t qs (sequence m w ps)) e (λ v e. sequence_sound m maker a v w ps qs e same is))
finish_sound m maker finishes.Statement a ss t w ps qs e is rest_is = at_end m ss t _ ps qs (finish_on m finishes.Statement w ps) e rest_is (λ same e. at_node t _ (λ t. Makes m t qs (statement m w ps)) e (λ v e. statement_sound m maker a v w ps qs e same is))
finish_sound m maker finishes.Property a ss t w ps qs e is rest_is = at_end m ss t _ ps qs (finish_on m finishes.Property w ps) e rest_is (λ same e. at_node t _ (λ t. Makes m t qs (property m w ps)) e (λ v e. property_sound m maker a v w ps qs e same is))
finish_sound m maker finishes.Instead a ss t w ps qs e is rest_is = at_end m ss t _ ps qs (finish_on m finishes.Instead w ps) e rest_is (λ same e. at_tail t _ (λ t. Makes m t qs (instead w ps)) e (λ x e. instead_sound m a x w ps qs e same is))
finish_sound m maker finishes.Items a ss t w ps qs e is rest_is = at_end m ss t _ ps qs (finish_on m finishes.Items w ps) e rest_is (λ same e. at_items t _ (λ t. Makes m t qs (add_item w ps)) e (λ e. item_sound m a w ps qs e same is))
finish_sound m maker finishes.NoItems a ss t w ps qs e is rest_is = at_end m ss t _ ps qs (finish_on m finishes.NoItems w ps) e rest_is (λ same e. at_items t _ (λ t. Makes m t qs (Ok (parts.Items [] ∷ ps))) e (λ e. on_top m Items (parts.Items []) ps qs same tt))
finish_sound m maker finishes.Switch a ss t w ps qs e is rest_is = at_end m ss t _ ps qs (finish_on m finishes.Switch w ps) e rest_is (λ same e. at_node t _ (λ t. Makes m t qs (switch m w ps)) e (λ v e. switch_sound m maker a v w ps qs e same is))
finish_sound m maker finishes.Parameters a ss t w ps qs e is rest_is = at_end m ss t _ ps qs (finish_on m finishes.Parameters w ps) e rest_is (λ same e. at_node t _ (λ t. Makes m t qs (parameters m w ps)) e (λ v e. parameters_sound m maker a v w ps qs e same is))

-- what a row leaves of parts of these sorts
abbrev pub leaves : Checked → Finish → PartSort → Bool
leaves None f t = false
leaves (Some x) f t = finish_fits f x.0 x.1 t

abbrev pub row_fits : RowId → List PartSort → PartSort → Bool
row_fits r ss t = leaves (gathers (recipe r).0 no_shape ss) (recipe r).1 t

no_work_is : (m : Maker) → WorkIs m no_shape no_work
no_work_is m = record { values = tt; held = tt; directives = refl; endings = refl; items = tt }

leaves_sound : (m : Maker) → IsMaker m → (o : Checked) (g : Gathered) (f : Finish) (t : PartSort) (qs : List Part) → leaves o f t ≡ true → Reached m qs o g → Makes m t qs (g >>= λ x. finish_on m f x.0 x.1)
leaves_sound m maker None g f t qs e is = cc
leaves_sound m maker (Some x) (Ok y) f t qs e is = finish_sound m maker f x.0 x.1 t y.0 y.1 qs e is.0 is.1
leaves_sound m maker (Some x) (Err faults.TooDeep) f t qs e is = tt
leaves_sound m maker (Some x) (Err _) f t qs e is = absurd is

pub row_sound : (m : Maker) → IsMaker m → (r : RowId) (ss : List PartSort) (t : PartSort) (ps qs : List Part) → row_fits r ss t ≡ true → PartsAre m ss ps qs → Makes m t qs (row_part m r ps)
unfolding row_part
row_sound m maker r ss t ps qs e is = leaves_sound m maker (gathers (recipe r).0 no_shape ss) _ (recipe r).1 t qs e (gathered_sound m qs maker (recipe r).0 no_shape ss no_work ps (no_work_is m) is)
