-- What the steps of a recipe gather holds what the parts hold.
use Rattle.std.proofs.Common.{◌≡◌, Bool, true, not, ◌&&◌, List, [], ◌∷◌, ◌++◌, Option, Some, None, Result, Ok, refl}
use Rattle.bast_base.specs.declared.errors.NameId.{NameId}
use Rattle.bast_schema.specs.declared.kind.Kind.{Kind}
use Rattle.bast_schema.specs.declared.kind.Kind.TheVariants as kinds
use Rattle.bast_schema.specs.Counts.{join}
use Rattle.bast_schema.specs.Fields.{has_lazy}
use Rattle.bast_schema.specs.Tree.{Tree, Datum, child, absent, listed, flag, whole, name, no_name, choice, Data, none, more}
use Rattle.scope_facts.specs.Roles.{shape_of}
use Rattle.js_tree.specs.Nodes.{Maker, one, two, no_names, no_parameter_names, statements, behind_directive, behind_directives, directives, directives_from}
use Rattle.js_tree.specs.Operators.{operator}
use Rattle.js_tree.specs.Parts.{first_value, one_value, node_in, one_node, without_top, taken_leaf, taken_values, taken_endings, taken_items}
use Rattle.js_tree.specs.Results.{◌>>=◌, there}
use Rattle.js_tree.specs.Steps.{gathered, with_value, with_node, step_on, skip, put, operand, wrap, text, number, whole_number, named, quoted, with_operator, parameter_of, parameter, template_part, tail, rest, with_statements, body, hold, resume, closed}
use Rattle.js_tree.specs.declared.fault.Fault.{Fault}
use Rattle.js_tree.specs.declared.leaf.Leaf.{Leaf}
use Rattle.js_tree.specs.declared.parts.Part.{Part}
use Rattle.js_tree.specs.declared.parts.Part.TheVariants as parts
use Rattle.js_tree.specs.declared.parts.Ending.{Ending}
use Rattle.js_tree.specs.declared.parts.Item.{Item}
use Rattle.js_tree.specs.declared.recipe.Step.{Step}
use Rattle.js_tree.specs.declared.recipe.Step.TheVariants as steps
use Rattle.js_tree.specs.declared.work.Work.{Work}
use Rattle.js_tree_laws.proofs.Holding.{Holds, then, each_result, both, is_not, Each, is_common, is_made, Kept, HoldsName, HoldsLeaf, HoldsEndings, HoldsItems, HoldsParts, HoldsWork, each_join, endings_join, name_there, node_made, name_made, has_one_flag, scope_made, parameter_scope_made}

-- what was gathered, and the parts that are left
abbrev pub Got : (Datum → Type 0) → Work × List Part → Type 0
Got P r = HoldsWork P r.0 × HoldsParts P r.1

abbrev pub LeafTaken : (Datum → Type 0) → Leaf × List Part → Type 0
LeafTaken P l = HoldsLeaf P l.0 × HoldsParts P l.1

abbrev pub ValuesTaken : (Datum → Type 0) → (Data × Option NameId) × List Part → Type 0
ValuesTaken P v = (Each P v.0.0 × HoldsName P v.0.1) × HoldsParts P v.1

abbrev pub EndingsTaken : (Datum → Type 0) → List Ending × List Part → Type 0
EndingsTaken P e = HoldsEndings P e.0 × HoldsParts P e.1

abbrev pub ItemsTaken : (Datum → Type 0) → List Item × List Part → Type 0
ItemsTaken P i = HoldsItems P i.0 × HoldsParts P i.1

pub leaf_taken : (P : Datum → Type 0) (ps : List Part) → HoldsParts P ps → Holds (LeafTaken P) (taken_leaf ps)
leaf_taken P (parts.Token l ∷ ps) h = h
leaf_taken P _ h = tt

pub values_taken : (P : Datum → Type 0) (ps : List Part) → HoldsParts P ps → Holds (ValuesTaken P) (taken_values ps)
values_taken P (parts.Values ds raw ∷ ps) h = h
values_taken P _ h = tt

pub endings_taken : (P : Datum → Type 0) (ps : List Part) → HoldsParts P ps → Holds (EndingsTaken P) (taken_endings ps)
endings_taken P (parts.Endings es ∷ ps) h = h
endings_taken P _ h = tt

pub items_taken : (P : Datum → Type 0) (ps : List Part) → HoldsParts P ps → Holds (ItemsTaken P) (taken_items ps)
items_taken P (parts.Items is ∷ ps) h = h
items_taken P _ h = tt

pub top_taken : (P : Datum → Type 0) (ps : List Part) → HoldsParts P ps → Holds (HoldsParts P) (without_top ps)
top_taken P [] h = tt
top_taken P (p ∷ ps) h = h.1

pub first_taken : (P : Datum → Type 0) (ds : Data) → Each P ds → Holds (λ f. P f.0 × Each P f.1) (first_value ds)
first_taken P none h = tt
first_taken P (more d ds) h = h

pub one_taken : (P : Datum → Type 0) (ds : Data) → Each P ds → Holds P (one_value ds)
one_taken P none h = tt
one_taken P (more d none) h = h.0
one_taken P (more d (more e es)) h = tt

pub node_taken : (P : Datum → Type 0) (d : Datum) → P d → Holds (λ t. P (child t)) (node_in d)
node_taken P (child t) h = h
node_taken P _ h = tt

pub one_node_taken : (P : Datum → Type 0) (ds : Data) → Each P ds → Holds (λ t. P (child t)) (one_node ds)
one_node_taken P ds h = then P (λ t. P (child t)) (one_value ds) node_in (one_taken P ds h) (node_taken P)

pub with_values : (P : Datum → Type 0) (w : Work) (ds : Data) → HoldsWork P w → Each P ds → HoldsWork P (record w { values = join w.values ds })
with_values P w ds h k = record { values = each_join P w.values ds h.values k; held = h.held; directives = h.directives; raw = h.raw; endings = h.endings; items = h.items }

pub value_got : (P : Datum → Type 0) (d : Datum) (w : Work) (ps : List Part) → P d → HoldsWork P w → HoldsParts P ps → Holds (Got P) (with_value d w ps)
value_got P d w ps is h k = (with_values P w (one d) h (is, tt), k)

pub node_got : (P : Datum → Type 0) (made : Result Tree Fault) (w : Work) (ps : List Part) → Holds (λ t. P (child t)) made → HoldsWork P w → HoldsParts P ps → Holds (Got P) (with_node made w ps)
node_got P made w ps is h k = then (λ t. P (child t)) (Got P) made (λ t. with_value (child t) w ps) is (λ t it. value_got P (child t) w ps it h k)

with_raw : (P : Datum → Type 0) (w : Work) (raw : Option NameId) → HoldsWork P w → HoldsName P raw → HoldsWork P (record w { raw = raw })
with_raw P w raw h k = record { values = h.values; held = h.held; directives = h.directives; raw = k; endings = h.endings; items = h.items }

initialized : (m : Maker) (P : Datum → Type 0) → Kept m P → (b : Tree) (d : Datum) → P (child b) → P d → Holds (λ t. P (child t)) (parameter_of m b d)
initialized m P kept b absent h k = h
initialized m P kept b (child t) h k = node_made m P kept kinds.BindingWithInitializer (two (child b) (child t)) refl (h, (k, tt))
initialized m P kept b _ h k = tt

statements_held : (P : Datum → Type 0) (is : List Item) → HoldsItems P is → Each P (statements is)
statements_held P [] h = tt
statements_held P (i ∷ is) h = (h.0, statements_held P is h.2)

directive_behind : (P : Datum → Type 0) (o : Option NameId) (here rest : List Item) → HoldsItems P here → HoldsItems P rest → HoldsItems P (behind_directive o here rest)
directive_behind P None here rest h k = h
directive_behind P (Some raw) here rest h k = k

directives_behind : (P : Datum → Type 0) (is : List Item) → HoldsItems P is → HoldsItems P (behind_directives is)
directives_behind P [] h = tt
directives_behind P (i ∷ is) h = directive_behind P i.raw (i ∷ is) (behind_directives is) h (directives_behind P is h.2)

directives_held_from : (m : Maker) (P : Datum → Type 0) → Kept m P → (o : Option NameId) (r : Result Data Fault) → HoldsName P o → Holds (Each P) r → Holds (Each P) (directives_from m o r)
directives_held_from m P kept None r h k = tt
directives_held_from m P kept (Some raw) r h k =
    then (λ t. P (child t)) (Each P) (m kinds.Directive (one (name raw.0))) (λ t. r >>= λ ds. Ok (more (child t) ds)) (name_made m P kept kinds.Directive raw.0 refl h)
    (λ t it. then (Each P) (Each P) r (λ ds. Ok (more (child t) ds)) k (λ ds id. (it, id)))

directives_held : (m : Maker) (P : Datum → Type 0) → Kept m P → (is : List Item) → HoldsItems P is → Holds (Each P) (directives m is)
directives_held m P kept [] h = tt
directives_held m P kept (i ∷ is) h = directives_held_from m P kept i.raw (directives m is) h.1 (directives_held m P kept is h.2)

-- no step of a recipe makes a kind that is lazy, or a scope that tells names
abbrev pub is_made_by : Step → Bool
is_made_by (steps.Named k) = is_common k
is_made_by (steps.Scope k) = not (has_lazy k) && has_one_flag (shape_of k)
is_made_by (steps.Close k) = is_made k
is_made_by _ = true

step_got : (m : Maker) (P : Datum → Type 0) → Kept m P → (s : Step) (w : Work) (ps : List Part) → is_made_by s ≡ true → HoldsWork P w → HoldsParts P ps → Holds (Got P) (step_on m s w ps)
unfolding skip put operand wrap text whole_number named quoted with_operator parameter template_part tail rest with_statements body hold resume closed
step_got m P kept steps.Skip w ps is h k = then (HoldsParts P) (Got P) (without_top ps) (λ rest. Ok (w, rest)) (top_taken P ps k) (λ rest r. (h, r))
step_got m P kept steps.Put w ps is h k =
    then (ValuesTaken P) (Got P) (taken_values ps) (λ v. Ok (record w { values = join w.values v.0.0 }, v.1)) (values_taken P ps k) (λ v r. (with_values P w v.0.0 h r.0.0, r.1))
step_got m P kept steps.Operand w ps is h k =
    then (ValuesTaken P) (Got P) (taken_values ps) (λ v. Ok (record w { values = join w.values v.0.0; raw = v.0.1 }, v.1)) (values_taken P ps k)
    (λ v r. (with_raw P (record w { values = join w.values v.0.0 }) v.0.1 (with_values P w v.0.0 h r.0.0) r.0.1, r.1))
step_got m P kept steps.Wrap w ps is h k =
    then (ValuesTaken P) (Got P) (taken_values ps) (λ v. with_value (listed v.0.0) w v.1) (values_taken P ps k) (λ v r. value_got P (listed v.0.0) w v.1 (kept.list v.0.0 r.0.0) h r.1)
step_got m P kept steps.Text w ps is h k =
    then (LeafTaken P) (Got P) (taken_leaf ps) (λ l. there l.0.text >>= λ n. with_value (name n.0) w l.1) (leaf_taken P ps k)
    (λ l r. then (λ n. P (name n.0)) (Got P) (there l.0.text) (λ n. with_value (name n.0) w l.1) (name_there P l.0.text r.0.0) (λ n s. value_got P (name n.0) w l.1 s h r.1))
step_got m P kept steps.Whole w ps is h k =
    then (LeafTaken P) (Got P) (taken_leaf ps) (λ l. number l.0.kind >>= λ n. with_value (whole n) w l.1) (leaf_taken P ps k)
    (λ l r. then (λ n. P (whole n)) (Got P) (number l.0.kind) (λ n. with_value (whole n) w l.1) (each_result (λ n. P (whole n)) (number l.0.kind) (λ n e. kept.wholes n)) (λ n s. value_got P (whole n) w l.1 s h r.1))
step_got m P kept (steps.Named j) w ps is h k =
    then (LeafTaken P) (Got P) (taken_leaf ps) (λ l. there l.0.text >>= λ n. with_node (m j (one (name n.0))) w l.1) (leaf_taken P ps k)
    (λ l r. then (λ n. P (name n.0)) (Got P) (there l.0.text) (λ n. with_node (m j (one (name n.0))) w l.1) (name_there P l.0.text r.0.0) (λ n s. node_got P (m j (one (name n.0))) w l.1 (name_made m P kept j n.0 is s) h r.1))
step_got m P kept steps.Quoted w ps is h k =
    then (LeafTaken P) (Got P) (taken_leaf ps) _ (leaf_taken P ps k)
    (λ l r. then (λ n. P (name n.0)) (Got P) (there l.0.text) _ (name_there P l.0.text r.0.0)
    (λ n s. then (λ t. P (child t)) (Got P) (m kinds.LiteralStringExpression (one (name n.0))) (λ t. Ok (record w { values = join w.values (one (child t)); raw = l.0.raw }, l.1)) (name_made m P kept kinds.LiteralStringExpression n.0 refl s)
    (λ t it. (with_raw P (record w { values = join w.values (one (child t)) }) l.0.raw (with_values P w (one (child t)) h (it, tt)) r.0.1, r.1))))
step_got m P kept (steps.Operator e) w ps is h k =
    then (LeafTaken P) (Got P) (taken_leaf ps) (λ l. there (operator e l.0.kind) >>= λ n. with_value (choice n) w l.1) (leaf_taken P ps k)
    (λ l r. then (λ n. P (choice n)) (Got P) (there (operator e l.0.kind)) (λ n. with_value (choice n) w l.1) (each_result (λ n. P (choice n)) (there (operator e l.0.kind)) (λ n e. kept.choices n)) (λ n s. value_got P (choice n) w l.1 s h r.1))
step_got m P kept steps.Parameter w ps is h k =
    then (LeafTaken P) (Got P) (taken_leaf ps) _ (leaf_taken P ps k)
    (λ l r. then (λ n. P (name n.0)) (Got P) (there l.0.text) _ (name_there P l.0.text r.0.0)
    (λ n s. then (λ t. P (child t)) (Got P) (m kinds.BindingIdentifier (one (name n.0))) _ (name_made m P kept kinds.BindingIdentifier n.0 refl s)
    (λ b ib. then (ValuesTaken P) (Got P) (taken_values l.1) _ (values_taken P l.1 r.1)
    (λ v iv. then P (Got P) (one_value v.0.0) (λ d. with_node (parameter_of m b d) w v.1) (one_taken P v.0.0 iv.0.0)
    (λ d id. node_got P (parameter_of m b d) w v.1 (initialized m P kept b d ib id) h iv.1)))))
step_got m P kept steps.TemplatePart w ps is h k =
    then (ValuesTaken P) (Got P) (taken_values ps) _ (values_taken P ps k)
    (λ e ie. then P (Got P) (one_value e.0.0) _ (one_taken P e.0.0 ie.0.0)
    (λ d id. then (ValuesTaken P) (Got P) (taken_values e.1) _ (values_taken P e.1 ie.1)
    (λ v iv. then (λ f. P f.0 × Each P f.1) (Got P) (first_value v.0.0) _ (first_taken P v.0.0 iv.0.0)
    (λ f jf. then (λ t. P (child t)) (Got P) (m kinds.TemplatePart (two d f.0)) (λ t. Ok (record w { values = join w.values (more (child t) f.1) }, v.1)) (node_made m P kept kinds.TemplatePart (two d f.0) refl (id, (jf.0, tt)))
    (λ t it. (with_values P w (more (child t) f.1) h (it, jf.1), iv.1))))))
step_got m P kept steps.Tail w ps is h k =
    then (EndingsTaken P) (Got P) (taken_endings ps) (λ e. Ok (record w { endings = w.endings ++ e.0 }, e.1)) (endings_taken P ps k)
    (λ e r. (record { values = h.values; held = h.held; directives = h.directives; raw = h.raw; endings = endings_join P w.endings e.0 h.endings r.0; items = h.items }, r.1))
step_got m P kept steps.Rest w ps is h k =
    then (ItemsTaken P) (Got P) (taken_items ps) (λ i. Ok (record w { items = i.0 }, i.1)) (items_taken P ps k)
    (λ i r. (record { values = h.values; held = h.held; directives = h.directives; raw = h.raw; endings = h.endings; items = r.0 }, r.1))
step_got m P kept steps.Statements w ps is h k =
    then (ItemsTaken P) (Got P) (taken_items ps) (λ i. with_value (listed (statements i.0)) w i.1) (items_taken P ps k)
    (λ i r. value_got P (listed (statements i.0)) w i.1 (kept.list (statements i.0) (statements_held P i.0 r.0)) h r.1)
step_got m P kept steps.Body w ps is h k =
    then (ItemsTaken P) (Got P) (taken_items ps) _ (items_taken P ps k)
    (λ i r. then (Each P) (Got P) (directives m i.0) (λ ds. Ok (record w { values = join w.values (one (listed (statements (behind_directives i.0)))); directives = ds }, i.1)) (directives_held m P kept i.0 r.0)
    (λ ds id. let all = kept.list (statements (behind_directives i.0)) (statements_held P (behind_directives i.0) (directives_behind P i.0 r.0))
    in let values = each_join P w.values (one (listed (statements (behind_directives i.0)))) h.values (all, tt)
    in (record { values = values; held = h.held; directives = id; raw = h.raw; endings = h.endings; items = h.items }, r.1)))
step_got m P kept steps.Absent w ps is h k = value_got P absent w ps kept.no_node h k
step_got m P kept steps.NoLabel w ps is h k = value_got P no_name w ps kept.no_label h k
step_got m P kept steps.NoItems w ps is h k = value_got P (listed none) w ps (kept.list none tt) h k
step_got m P kept (steps.Flag b) w ps is h k = value_got P (flag b) w ps (kept.flags b) h k
step_got m P kept (steps.Choice n) w ps is h k = value_got P (choice n) w ps (kept.choices n) h k
step_got m P kept (steps.Scope j) w ps is h k = let b = both (not (has_lazy j)) (has_one_flag (shape_of j)) is in node_got P (m j no_names) w ps (scope_made m P kept j (is_not (has_lazy j) b.0) b.1) h k
step_got m P kept steps.ParameterScope w ps is h k = node_got P (m kinds.AssertedParameterScope no_parameter_names) w ps (parameter_scope_made m P kept) h k
step_got m P kept steps.Hold w ps is h k = (record { values = tt; held = h.values; directives = h.directives; raw = h.raw; endings = h.endings; items = h.items }, k)
step_got m P kept steps.Resume w ps is h k =
    let all = each_join P w.held (more (listed w.directives) w.values) h.held (kept.list w.directives h.directives, h.values)
    in (record { values = all; held = tt; directives = tt; raw = h.raw; endings = h.endings; items = h.items }, k)
step_got m P kept (steps.Close j) w ps is h k =
    then (HoldsWork P) (Got P) (closed m j w) (λ x. Ok (x, ps))
    (then (λ t. P (child t)) (HoldsWork P) (m j w.values) (λ t. Ok (record w { values = one (child t) })) (node_made m P kept j w.values is h.values)
    (λ t it. record { values = (it, tt); held = h.held; directives = h.directives; raw = h.raw; endings = h.endings; items = h.items })) (λ x ix. (ix, k))

abbrev pub all_made_by : List Step → Bool
all_made_by [] = true
all_made_by (s ∷ ss) = is_made_by s && all_made_by ss

pub all_got : (m : Maker) (P : Datum → Type 0) → Kept m P → (ss : List Step) (w : Work) (ps : List Part) → all_made_by ss ≡ true → HoldsWork P w → HoldsParts P ps → Holds (Got P) (gathered m ss w ps)
all_got m P kept [] w ps is h k = (h, k)
all_got m P kept (s ∷ ss) w ps is h k =
    let b = both (is_made_by s) (all_made_by ss) is
    in then (Got P) (Got P) (step_on m s w ps) (λ r. gathered m ss r.0 r.1) (step_got m P kept s w ps b.0 h k) (λ r ir. all_got m P kept ss r.0 r.1 b.1 ir.0 ir.1)
