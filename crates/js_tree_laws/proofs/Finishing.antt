-- What a row makes of what was gathered holds what was gathered.
use Rattle.std.proofs.Common.{◌≡◌, ℕ, ◌==◌, cond, Bool, true, false, length, List, [], ◌∷◌, Option, Some, None, Result, Ok, refl}
use Rattle.bast_schema.specs.Choices.{lexical_let, lexical_const}
use Rattle.bast_schema.specs.declared.kind.Kind.TheVariants as kinds
use Rattle.bast_schema.specs.Counts.{join}
use Rattle.bast_schema.specs.Tree.{Tree, Datum, child, absent, listed, name, choice, Data, none, more, count, is_none}
use Rattle.js_grammar.specs.declared.symbols.RowId.{RowId}
use Rattle.js_grammar.specs.declared.symbols.RowId.TheVariants as rows
use Rattle.js_machine.specs.declared.events.Event.{Event}
use Rattle.js_machine.specs.declared.events.Event.TheVariants.{Row, Took, Inserted}
use Rattle.js_tree.specs.Finishes.{finish_on, folds, statement, shorthand, property, filled, fills, for_kind, declaration, left_of, bound, binds, declaring, declares, arrow_body, tries, sequence, instead, add_item, is_default, before_default, from_default, switch_of, switch, parameters}
use Rattle.js_tree.specs.Image.{row_part, leaf_part, event_part, image, root}
use Rattle.js_tree.specs.Nodes.{Maker, one, two, identifier, one_parameter, parameters_or, parameters_of, no_names, no_parameter_names, contents_of, stands, ended, folded}
use Rattle.js_tree.specs.Parts.{first_value, one_value, one_node, last_behind, last_value, one_ending, taken_values}
use Rattle.js_tree.specs.Recipes.{recipe}
use Rattle.js_tree.specs.Results.{◌>>=◌, there, broken}
use Rattle.js_tree.specs.Steps.{gathered, no_work}
use Rattle.js_tree.specs.declared.fault.Fault.{Fault}
use Rattle.js_tree.specs.declared.leaf.Leaf.{Leaf}
use Rattle.js_tree.specs.declared.parts.Part.{Part}
use Rattle.js_tree.specs.declared.parts.Part.TheVariants as parts
use Rattle.js_tree.specs.declared.parts.Form.{Form}
use Rattle.js_tree.specs.declared.parts.Form.TheVariants as forms
use Rattle.js_tree.specs.declared.parts.Ending.{Ending}
use Rattle.js_tree.specs.declared.parts.Ending.TheVariants as endings
use Rattle.js_tree.specs.declared.recipe.Declared.{Declared}
use Rattle.js_tree.specs.declared.recipe.Declared.TheVariants as declared
use Rattle.js_tree.specs.declared.recipe.Finish.{Finish}
use Rattle.js_tree.specs.declared.recipe.Finish.TheVariants as finishes
use Rattle.js_tree.specs.declared.work.Work.{Work}
use Rattle.js_tree_laws.proofs.Holding.{Holds, then, each_result, either, Each, is_made, Kept, HoldsLeaf, HoldsForm, HoldsEnding, HoldsEndings, HoldsParts, HoldsWork, each_join, node_made, name_made, scope_made, parameter_scope_made}
use Rattle.js_tree_laws.proofs.Gathering.{Got, ValuesTaken, values_taken, first_taken, one_taken, one_node_taken, all_made_by, all_got}

-- a tree of which it holds
abbrev pub Has : (Datum → Type 0) → Tree → Type 0
Has P t = P (child t)

made_end : (P : Datum → Type 0) (made : Result Tree Fault) (ps : List Part) → Holds (Has P) made → HoldsParts P ps → Holds (HoldsParts P) (made >>= λ t. Ok (parts.Values (one (child t)) None ∷ ps))
made_end P made ps h k = then (Has P) (HoldsParts P) made (λ t. Ok (parts.Values (one (child t)) None ∷ ps)) h (λ t it. (((it, tt), tt), k))

parameter_held : (m : Maker) (P : Datum → Type 0) → Kept m P → (n : ℕ) → P (name n) → Holds (Has P) (one_parameter m n)
parameter_held m P kept n h =
    then (Has P) (Has P) (m kinds.BindingIdentifier (one (name n))) (λ b. m kinds.FormalParameters (two (listed (one (child b))) absent)) (name_made m P kept kinds.BindingIdentifier n refl h)
    (λ b ib. node_made m P kept kinds.FormalParameters (two (listed (one (child b))) absent) refl (kept.list (one (child b)) (ib, tt), (kept.no_node, tt)))

parameters_held_or : (m : Maker) (P : Datum → Type 0) → Kept m P → (t : Tree) (o : Option ℕ) → identifier t ≡ o → P (child t) → Holds (Has P) (parameters_or m t o)
parameters_held_or m P kept t None e h = h
parameters_held_or m P kept t (Some n) e h = parameter_held m P kept n (kept.name_of t n h e)

parameters_held : (m : Maker) (P : Datum → Type 0) → Kept m P → (t : Tree) → P (child t) → Holds (Has P) (parameters_of m t)
unfolding parameters_of
parameters_held m P kept t h = parameters_held_or m P kept t (identifier t) refl h

contents_held : (m : Maker) (P : Datum → Type 0) → Kept m P → (params : Tree) (body : Data) → P (child params) → Each P body → Holds (Has P) (contents_of m params body)
unfolding contents_of
contents_held m P kept params body h k =
    then (Has P) (Has P) (m kinds.AssertedParameterScope no_parameter_names) _ (parameter_scope_made m P kept)
    (λ scope is. then (Has P) (Has P) (m kinds.AssertedVarScope no_names) (λ vars. m kinds.FunctionContents (more (child scope) (more (child params) (more (child vars) body)))) (scope_made m P kept kinds.AssertedVarScope refl refl)
    (λ vars iv. node_made m P kept kinds.FunctionContents (more (child scope) (more (child params) (more (child vars) body))) refl (is, (h, (iv, k)))))

label_held : (m : Maker) (P : Datum → Type 0) → Kept m P → (t : Tree) (o : Option ℕ) → identifier t ≡ o → P (child t) → Holds P (there o >>= λ n. Ok (name n))
label_held m P kept t None e h = tt
label_held m P kept t (Some n) e h = kept.name_of t n h e

stands_held : (m : Maker) (P : Datum → Type 0) → Kept m P → (f : Form) (t : Tree) → HoldsForm P f → P (child t) → Holds P (stands m f t)
unfolding stands
stands_held m P kept forms.Plain t f h = h
stands_held m P kept forms.Parameters t f h = then (Has P) P (parameters_of m t) (λ p. Ok (child p)) (parameters_held m P kept t h) (λ p ip. ip)
stands_held m P kept (forms.Contents body) t f h =
    then (Has P) P (parameters_of m t) (λ p. contents_of m p body >>= λ c. Ok (child c)) (parameters_held m P kept t h)
    (λ p ip. then (Has P) P (contents_of m p body) (λ c. Ok (child c)) (contents_held m P kept p body ip f) (λ c ic. ic))
stands_held m P kept forms.Label t f h = label_held m P kept t (identifier t) refl h
stands_held m P kept (forms.Declared ds) t f h = tt

pub ended_held : (m : Maker) (P : Datum → Type 0) → Kept m P → (e : Ending) (t : Tree) → HoldsEnding P e → P (child t) → Holds (Has P) (ended m e t)
unfolding ended
ended_held m P kept (endings.Around k form before behind) t e h =
    then P (Has P) (stands m form t) (λ d. m k (join before (more d behind))) (stands_held m P kept form t e.1 h)
    (λ d id. node_made m P kept k (join before (more d behind)) e.0 (each_join P before (more d behind) e.2 (id, e.3)))
ended_held m P kept (endings.Instead u) t e h = e

folded_held : (m : Maker) (P : Datum → Type 0) → Kept m P → (es : List Ending) (t : Tree) → HoldsEndings P es → P (child t) → Holds (Has P) (folded m es t)
folded_held m P kept [] t e h = h
folded_held m P kept (x ∷ es) t e h = then (Has P) (Has P) (ended m x t) (folded m es) (ended_held m P kept x t e.0 h) (λ u iu. folded_held m P kept es u e.1 iu)

one_ending_held : (P : Datum → Type 0) (es : List Ending) → HoldsEndings P es → Holds (HoldsEnding P) (one_ending es)
one_ending_held P [] h = tt
one_ending_held P (e ∷ es) h = either (HoldsEnding P) (length es == 0) (Ok e) broken h.0 tt

folds_held : (m : Maker) (P : Datum → Type 0) → Kept m P → (w : Work) (ps : List Part) → HoldsWork P w → HoldsParts P ps → Holds (HoldsParts P) (folds m w ps)
unfolding folds
folds_held m P kept w ps h k =
    either (HoldsParts P) (length w.endings == 0) (Ok (parts.Values w.values w.raw ∷ ps)) _ ((h.values, h.raw), k)
    (then (Has P) (HoldsParts P) (one_node w.values) (λ t. folded m w.endings t >>= λ t. Ok (parts.Values (one (child t)) None ∷ ps)) (one_node_taken P w.values h.values)
    (λ t it. made_end P (folded m w.endings t) ps (folded_held m P kept w.endings t h.endings it) k))

shorthand_held : (m : Maker) (P : Datum → Type 0) → Kept m P → (ds : Data) → Each P ds → Holds (Has P) (shorthand m ds)
shorthand_held m P kept ds h =
    then (λ t. m kinds.IdentifierExpression ds ≡ Ok t) (Has P) (m kinds.IdentifierExpression ds) (λ t. m kinds.ShorthandProperty (one (child t))) (each_result (λ t. m kinds.IdentifierExpression ds ≡ Ok t) (m kinds.IdentifierExpression ds) (λ t e. e))
    (λ t it. each_result (Has P) (m kinds.ShorthandProperty (one (child t))) (λ u e. kept.shorthand ds t u h it e))

filled_held : (P : Datum → Type 0) (e : Ending) (d : Datum) (ps : List Part) → HoldsEnding P e → P d → HoldsParts P ps → Holds (HoldsParts P) (filled e d ps)
filled_held P (endings.Around j form before behind) d ps e h k = (((e.0, tt, each_join P before (more d behind) e.2 (h, e.3), tt), tt), k)
filled_held P (endings.Instead t) d ps e h k = tt

declaration_held : (m : Maker) (P : Datum → Type 0) → Kept m P → (how : Declared) (ds : Data) → Each P ds → Holds (Has P) (declaration m how ds)
declaration_held m P kept declared.Var ds h = node_made m P kept kinds.VarDeclaration (one (listed ds)) refl (kept.list ds h, tt)
declaration_held m P kept declared.Let ds h = node_made m P kept kinds.LexicalDeclaration (two (choice lexical_let) (listed ds)) refl (kept.choices lexical_let, (kept.list ds h, tt))
declaration_held m P kept declared.Const ds h = node_made m P kept kinds.LexicalDeclaration (two (choice lexical_const) (listed ds)) refl (kept.choices lexical_const, (kept.list ds h, tt))

left_held : (m : Maker) (P : Datum → Type 0) → Kept m P → (how : Declared) (b : Datum) (f : Form) → P b → HoldsForm P f → Holds (Has P) (left_of m how b f)
left_held m P kept how b forms.Plain h k = node_made m P kept kinds.ForInOfBinding (two (choice (for_kind how)) b) refl (kept.choices (for_kind how), (h, tt))
left_held m P kept how b (forms.Declared ds) h k =
    then (λ f. P f.0 × Each P f.1) (Has P) (first_value ds) (λ f. m kinds.VariableDeclarator (two b f.0) >>= λ d. declaration m how (more (child d) f.1)) (first_taken P ds k)
    (λ f jf. then (Has P) (Has P) (m kinds.VariableDeclarator (two b f.0)) (λ d. declaration m how (more (child d) f.1)) (node_made m P kept kinds.VariableDeclarator (two b f.0) refl (h, (jf.0, tt)))
    (λ d id. declaration_held m P kept how (more (child d) f.1) (id, jf.1)))
left_held m P kept how b _ h k = tt

bound_held : (m : Maker) (P : Datum → Type 0) → Kept m P → (how : Declared) (b : Datum) (e : Ending) (ps : List Part) → P b → HoldsEnding P e → HoldsParts P ps → Holds (HoldsParts P) (bound m how b e ps)
bound_held m P kept how b (endings.Around j form before behind) ps h e k =
    then (Has P) (HoldsParts P) (left_of m how b form) (λ t. filled (endings.Around j form before behind) (child t) ps) (left_held m P kept how b form h e.1)
    (λ t it. filled_held P (endings.Around j form before behind) (child t) ps e it k)
bound_held m P kept how b (endings.Instead t) ps h e k = tt

declaring_held : (P : Datum → Type 0) (ds : Data) (e : Ending) (ps : List Part) → Each P ds → HoldsEnding P e → HoldsParts P ps → Holds (HoldsParts P) (declaring ds e ps)
declaring_held P ds (endings.Around j form before behind) ps h e k = (((e.0, h, e.2, e.3), tt), k)
declaring_held P ds (endings.Instead t) ps h e k = tt

tries_kind : (b : Bool) → is_made (cond b kinds.TryCatchStatement kinds.TryFinallyStatement) ≡ true
tries_kind true = refl
tries_kind false = refl

before_step : (P : Datum → Type 0) (b : Bool) (d : Datum) (ds : Data) → P d → Each P ds → Each P (cond b none (more d ds))
before_step P true d ds h k = tt
before_step P false d ds h k = (h, k)

from_step : (P : Datum → Type 0) (b : Bool) (ds es : Data) → Each P ds → Each P es → Each P (cond b ds es)
from_step P true ds es h k = h
from_step P false ds es h k = k

before_held : (P : Datum → Type 0) (ds : Data) → Each P ds → Each P (before_default ds)
before_held P none h = tt
before_held P (more d ds) h = before_step P (is_default d) d (before_default ds) h.0 (before_held P ds h.1)

from_held : (P : Datum → Type 0) (ds : Data) → Each P ds → Each P (from_default ds)
from_held P none h = tt
from_held P (more d ds) h = from_step P (is_default d) (more d ds) (from_default ds) h (from_held P ds h.1)

switch_held_of : (m : Maker) (P : Datum → Type 0) → Kept m P → (held before behind : Data) → Each P held → Each P before → Each P behind → Holds (Has P) (switch_of m held before behind)
switch_held_of m P kept held before none h b k = node_made m P kept kinds.SwitchStatement (join held (one (listed before))) refl (each_join P held (one (listed before)) h (kept.list before b, tt))
switch_held_of m P kept held before (more d behind) h b k =
    node_made m P kept kinds.SwitchStatementWithDefault (join held (more (listed before) (two d (listed behind)))) refl
    (each_join P held (more (listed before) (two d (listed behind))) h (kept.list before b, (k.0, (kept.list behind k.1, tt))))

behind_held : (P : Datum → Type 0) (d : Datum) (ds : Data) → P d → Each P ds → Each P (last_behind d ds).0 × P (last_behind d ds).1
behind_held P d none h k = (tt, h)
behind_held P d (more e es) h k = let r = behind_held P e es k.0 k.1 in ((h, r.0), r.1)

last_held : (P : Datum → Type 0) (ds : Data) → Each P ds → Holds (λ l. Each P l.0 × P l.1) (last_value ds)
last_held P none h = tt
last_held P (more d ds) h = behind_held P d ds h.0 h.1

abbrev pub is_finished_by : Finish → Bool
is_finished_by (finishes.Ends k) = is_made k
is_finished_by (finishes.EndsParameters k) = is_made k
is_finished_by (finishes.EndsLabel k) = is_made k
is_finished_by _ = true

finish_held : (m : Maker) (P : Datum → Type 0) → Kept m P → (f : Finish) (w : Work) (ps : List Part) → is_finished_by f ≡ true → HoldsWork P w → HoldsParts P ps → Holds (HoldsParts P) (finish_on m f w ps)
unfolding fills binds declares arrow_body tries sequence statement property instead add_item switch parameters
finish_held m P kept finishes.Same w ps is h k = k
finish_held m P kept finishes.Values w ps is h k = ((h.values, tt), k)
finish_held m P kept finishes.Folds w ps is h k = folds_held m P kept w ps h k
finish_held m P kept (finishes.Ends j) w ps is h k = (((is, tt, h.held, h.values), h.endings), k)
finish_held m P kept (finishes.EndsParameters j) w ps is h k = (((is, tt, h.held, h.values), h.endings), k)
finish_held m P kept (finishes.EndsLabel j) w ps is h k = (((is, tt, h.held, h.values), h.endings), k)
finish_held m P kept finishes.Endings w ps is h k = (h.endings, k)
finish_held m P kept finishes.Fills w ps is h k =
    then P (HoldsParts P) (one_value w.values) (λ d. one_ending w.endings >>= λ e. filled e d ps) (one_taken P w.values h.values)
    (λ d id. then (HoldsEnding P) (HoldsParts P) (one_ending w.endings) (λ e. filled e d ps) (one_ending_held P w.endings h.endings) (λ e ie. filled_held P e d ps ie id k))
finish_held m P kept (finishes.Binds how) w ps is h k =
    then P (HoldsParts P) (one_value w.values) (λ d. one_ending w.endings >>= λ e. bound m how d e ps) (one_taken P w.values h.values)
    (λ d id. then (HoldsEnding P) (HoldsParts P) (one_ending w.endings) (λ e. bound m how d e ps) (one_ending_held P w.endings h.endings) (λ e ie. bound_held m P kept how d e ps id ie k))
finish_held m P kept finishes.Declares w ps is h k =
    then (HoldsEnding P) (HoldsParts P) (one_ending w.endings) (λ e. declaring w.values e ps) (one_ending_held P w.endings h.endings) (λ e ie. declaring_held P w.values e ps h.values ie k)
finish_held m P kept finishes.ArrowBody w ps is h k = (((refl, h.values, (kept.list w.directives h.directives, tt), tt), tt), k)
finish_held m P kept finishes.Tries w ps is h k = (((tries_kind (count w.values == 1), tt, h.held, h.values), h.endings), k)
finish_held m P kept finishes.Sequence w ps is h k =
    either (HoldsParts P) (is_none w.values) (Ok (parts.Values w.held w.raw ∷ ps)) _ ((h.held, h.raw), k)
    (made_end P (m kinds.SequenceExpression (join w.held (one (listed w.values)))) ps
    (node_made m P kept kinds.SequenceExpression (join w.held (one (listed w.values))) refl (each_join P w.held (one (listed w.values)) h.held (kept.list w.values h.values, tt))) k)
finish_held m P kept finishes.Statement w ps is h k =
    either (HoldsParts P) (length w.endings == 0) (m kinds.ExpressionStatement w.values >>= λ t. Ok (parts.Values (one (child t)) w.raw ∷ ps)) (folds m w ps)
    (then (Has P) (HoldsParts P) (m kinds.ExpressionStatement w.values) (λ t. Ok (parts.Values (one (child t)) w.raw ∷ ps)) (node_made m P kept kinds.ExpressionStatement w.values refl h.values) (λ t it. (((it, tt), h.raw), k)))
    (folds_held m P kept w ps h k)
finish_held m P kept finishes.Property w ps is h k =
    either (HoldsParts P) (length w.endings == 0) _ _ (made_end P (shorthand m w.values) ps (shorthand_held m P kept w.values h.values) k)
    (then (Has P) (HoldsParts P) (m kinds.LiteralPropertyName w.values) (λ t. folded m w.endings t >>= λ t. Ok (parts.Values (one (child t)) None ∷ ps)) (node_made m P kept kinds.LiteralPropertyName w.values refl h.values)
    (λ t it. made_end P (folded m w.endings t) ps (folded_held m P kept w.endings t h.endings it) k))
finish_held m P kept finishes.Instead w ps is h k =
    then (Has P) (HoldsParts P) (one_node w.values) (λ t. Ok (parts.Endings (endings.Instead t ∷ []) ∷ ps)) (one_node_taken P w.values h.values) (λ t it. ((it, tt), k))
finish_held m P kept finishes.Items w ps is h k =
    then (Has P) (HoldsParts P) (one_node w.values) (λ t. Ok (parts.Items (record { statement = t; raw = w.raw } ∷ w.items) ∷ ps)) (one_node_taken P w.values h.values) (λ t it. ((it, h.raw, h.items), k))
finish_held m P kept finishes.NoItems w ps is h k = (tt, k)
finish_held m P kept finishes.Switch w ps is h k =
    made_end P (switch_of m w.held (before_default w.values) (from_default w.values)) ps
    (switch_held_of m P kept w.held (before_default w.values) (from_default w.values) h.held (before_held P w.values h.values) (from_held P w.values h.values)) k
finish_held m P kept finishes.Parameters w ps is h k =
    then (λ l. Each P l.0 × P l.1) (HoldsParts P) (last_value w.values) (λ l. m kinds.FormalParameters (two (listed l.0) l.1) >>= λ t. Ok (parts.Values (one (child t)) None ∷ ps)) (last_held P w.values h.values)
    (λ l il. made_end P (m kinds.FormalParameters (two (listed l.0) l.1)) ps (node_made m P kept kinds.FormalParameters (two (listed l.0) l.1) refl (kept.list l.0 il.0, (il.1, tt))) k)

-- no row makes a kind that is lazy, or a scope that tells names
pub row_makes : (r : RowId) → (all_made_by (recipe r).0 ≡ true) × (is_finished_by (recipe r).1 ≡ true)
row_makes rows.Script = (refl, refl)
row_makes _ = (refl, refl)

pub nothing : (P : Datum → Type 0) → HoldsWork P no_work
nothing P = record { values = tt; held = tt; directives = tt; raw = tt; endings = tt; items = tt }

row_held : (m : Maker) (P : Datum → Type 0) → Kept m P → (r : RowId) (ps : List Part) → HoldsParts P ps → Holds (HoldsParts P) (row_part m r ps)
unfolding row_part
row_held m P kept r ps h =
    then (Got P) (HoldsParts P) (gathered m (recipe r).0 no_work ps) (λ g. finish_on m (recipe r).1 g.0 g.1) (all_got m P kept (recipe r).0 no_work ps (row_makes r).0 (nothing P) h)
    (λ g ig. finish_held m P kept (recipe r).1 g.0 g.1 (row_makes r).1 ig.0 ig.1)

-- of each token that is left
abbrev pub HoldsLeaves : (Datum → Type 0) → List Leaf → Type 0
HoldsLeaves P [] = Unit {0}
HoldsLeaves P (l ∷ ls) = HoldsLeaf P l × HoldsLeaves P ls

abbrev pub HoldsState : (Datum → Type 0) → List Leaf × List Part → Type 0
HoldsState P s = HoldsLeaves P s.0 × HoldsParts P s.1

leaf_held : (P : Datum → Type 0) (ls : List Leaf) (ps : List Part) → HoldsLeaves P ls → HoldsParts P ps → Holds (HoldsState P) (leaf_part ls ps)
leaf_held P [] ps h k = tt
leaf_held P (l ∷ ls) ps h k = (h.1, (h.0, k))

event_held : (m : Maker) (P : Datum → Type 0) → Kept m P → (e : Event) (s : List Leaf × List Part) → HoldsState P s → Holds (HoldsState P) (event_part m e s)
event_held m P kept (Row r) s h = then (HoldsParts P) (HoldsState P) (row_part m r s.1) (λ ps. Ok (s.0, ps)) (row_held m P kept r s.1 h.1) (λ ps k. (h.0, k))
event_held m P kept Took s h = leaf_held P s.0 s.1 h.0 h.1
event_held m P kept Inserted s h = (h.0, (tt, h.1))

pub image_held : (m : Maker) (P : Datum → Type 0) → Kept m P → (ls : List Leaf) (es : List Event) → HoldsLeaves P ls → Holds (HoldsState P) (image m ls es)
image_held m P kept ls [] h = (h, tt)
image_held m P kept ls (e ∷ es) h = then (HoldsState P) (HoldsState P) (image m ls es) (event_part m e) (image_held m P kept ls es h) (event_held m P kept e)

pub root_held : (P : Datum → Type 0) (ps : List Part) → HoldsParts P ps → Holds (Has P) (root ps)
root_held P ps h =
    then (ValuesTaken P) (Has P) (taken_values ps) (λ v. cond (length v.1 == 0) (one_node v.0.0) broken) (values_taken P ps h)
    (λ v iv. either (Has P) (length v.1 == 0) (one_node v.0.0) broken (one_node_taken P v.0.0 iv.0.0) tt)
