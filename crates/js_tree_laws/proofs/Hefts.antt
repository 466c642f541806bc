-- How many values a row adds to those of its symbols' parts.
use Rattle.std.proofs.Common.{◌≡◌, ◌≤◌, ◌+◌, ℕ, List, [], ◌∷◌, ◌++◌, Option, Some, None, Result, Ok, Err, refl, arith}
use Rattle.bast_base.specs.declared.errors.NameId.{NameId}
use Rattle.bast_schema.specs.declared.kind.Kind.{Kind}
use Rattle.bast_schema.specs.declared.kind.Kind.TheVariants as kinds
use Rattle.bast_schema.specs.Counts.{join, size, size_at, size_in}
use Rattle.bast_schema.specs.Tree.{Tree, branch, Datum, child, absent, listed, flag, whole, name, no_name, choice, Data, none, more}
use Rattle.js_tree.specs.Nodes.{Maker, one, two, no_names, no_parameter_names, statements, behind_directive, behind_directives, directives, directives_from}
use Rattle.js_tree.specs.Operators.{operator}
use Rattle.js_tree.specs.Parts.{first_value, one_value, node_in, one_node, without_top, taken_leaf, taken_values, taken_endings, taken_items}
use Rattle.js_tree.specs.Results.{◌>>=◌, there}
use Rattle.js_tree.specs.Steps.{gathered, with_value, with_node, step_on, skip, put, operand, wrap, text, number, whole_number, named, quoted, with_operator, parameter_of, parameter, template_part, tail, rest, with_statements, body, hold, resume, closed}
use Rattle.js_tree.specs.declared.fault.Fault.{Fault}
use Rattle.js_tree.specs.declared.leaf.Leaf.{Leaf}
use Rattle.js_tree.specs.declared.parts.Part.{Part}
use Rattle.js_tree.specs.declared.parts.Part.TheVariants as parts
use Rattle.js_tree.specs.declared.parts.Form.{Form}
use Rattle.js_tree.specs.declared.parts.Form.TheVariants as forms
use Rattle.js_tree.specs.declared.parts.Ending.{Ending}
use Rattle.js_tree.specs.declared.parts.Ending.TheVariants as endings
use Rattle.js_tree.specs.declared.parts.Item.{Item}
use Rattle.js_tree.specs.declared.recipe.Step.{Step}
use Rattle.js_tree.specs.declared.recipe.Step.TheVariants as steps
use Rattle.js_tree.specs.declared.work.Work.{Work}
use Rattle.js_tree_laws.proofs.Holding.{Holds, then, each_result, any}

-- a node is as large as its values and one more
pub record Sized (m : Maker) : Type 0 where
  pub made : (k : Kind) (ds : Data) (t : Tree) → m k ds ≡ Ok t → size t ≡ 1 + size_in ds

-- what the values of a list come to
abbrev pub total : {A : Type 0} → (A → ℕ) → List A → ℕ
total f [] = 0
total f (x ∷ xs) = f x + total f xs

pub total_join : {A : Type 0} (f : A → ℕ) (xs ys : List A) → total f (xs ++ ys) ≡ total f xs + total f ys
total_join f [] ys = omega arith
total_join f (x ∷ xs) ys = omega (arith, total_join f xs ys)

-- the values that stand in parts, with those that are still to be made of them
abbrev pub heft_form : Form → ℕ
heft_form forms.Parameters = 3
heft_form (forms.Contents body) = 11 + size_in body
heft_form (forms.Declared ds) = size_in ds
heft_form _ = 0

abbrev pub heft_ending : Ending → ℕ
heft_ending (endings.Around k form before behind) = 1 + heft_form form + size_in before + size_in behind
heft_ending (endings.Instead t) = size t

abbrev pub heft_item : Item → ℕ
heft_item i = 1 + size i.statement

abbrev pub heft_part : Part → ℕ
heft_part (parts.Values ds raw) = size_in ds
heft_part (parts.Endings es) = total heft_ending es
heft_part (parts.Items is) = total heft_item is
heft_part _ = 0

abbrev pub heft_work : Work → ℕ
heft_work w = size_in w.values + size_in w.held + size_in w.directives + total heft_ending w.endings + total heft_item w.items

pub size_join : (ds es : Data) → size_in (join ds es) ≡ size_in ds + size_in es
size_join none es = omega arith
size_join (more d ds) es = omega (arith, size_join ds es)

-- every tree is a value
some_tree : (t : Tree) → 1 ≤ size t
some_tree (branch k ds) = omega arith

abbrev pub Got : ℕ → Work × List Part → Type 0
Got n r = heft_work r.0 + total heft_part r.1 ≤ n

abbrev LeafLeft : ℕ → Leaf × List Part → Type 0
LeafLeft n l = total heft_part l.1 ≤ n

abbrev pub ValuesLeft : ℕ → (Data × Option NameId) × List Part → Type 0
ValuesLeft n v = size_in v.0.0 + total heft_part v.1 ≤ n

abbrev EndingsLeft : ℕ → List Ending × List Part → Type 0
EndingsLeft n e = total heft_ending e.0 + total heft_part e.1 ≤ n

abbrev ItemsLeft : ℕ → List Item × List Part → Type 0
ItemsLeft n i = total heft_item i.0 + total heft_part i.1 ≤ n

abbrev pub PartsLeft : ℕ → List Part → Type 0
PartsLeft n ps = total heft_part ps ≤ n

abbrev pub TreeOf : ℕ → Tree → Type 0
TreeOf n t = size t ≤ n

leaf_left : (ps : List Part) → Holds (LeafLeft (total heft_part ps)) (taken_leaf ps)
leaf_left (parts.Token l ∷ ps) = omega arith
leaf_left _ = tt

pub values_left : (ps : List Part) → Holds (ValuesLeft (total heft_part ps)) (taken_values ps)
values_left (parts.Values ds raw ∷ ps) = omega arith
values_left _ = tt

endings_left : (ps : List Part) → Holds (EndingsLeft (total heft_part ps)) (taken_endings ps)
endings_left (parts.Endings es ∷ ps) = omega arith
endings_left _ = tt

items_left : (ps : List Part) → Holds (ItemsLeft (total heft_part ps)) (taken_items ps)
items_left (parts.Items is ∷ ps) = omega arith
items_left _ = tt

top_left : (ps : List Part) → Holds (PartsLeft (total heft_part ps)) (without_top ps)
top_left [] = tt
top_left (p ∷ ps) = omega arith

pub first_left : (ds : Data) → Holds (λ f. size_at f.0 + size_in f.1 ≤ size_in ds) (first_value ds)
first_left none = tt
first_left (more d ds) = omega arith

pub one_left : (ds : Data) → Holds (λ d. size_at d ≤ size_in ds) (one_value ds)
one_left none = tt
one_left (more d none) = omega arith
one_left (more d (more e es)) = tt

node_left : (d : Datum) → Holds (TreeOf (size_at d)) (node_in d)
node_left (child t) = omega arith
node_left _ = tt

pub up_to : (n k : ℕ) (r : Result Tree Fault) → n ≤ k → Holds (TreeOf n) r → Holds (TreeOf k) r
up_to n k (Ok t) le h = omega arith
up_to n k (Err e) le h = tt

pub one_node_left : (ds : Data) → Holds (TreeOf (size_in ds)) (one_node ds)
one_node_left ds = then (λ d. size_at d ≤ size_in ds) (TreeOf (size_in ds)) (one_value ds) node_in (one_left ds) (λ d h. up_to (size_at d) (size_in ds) (node_in d) h (node_left d))

pub node_made : (m : Maker) → Sized m → (k : Kind) (ds : Data) (n : ℕ) → 1 + size_in ds ≤ n → Holds (TreeOf n) (m k ds)
node_made m sized k ds n le = each_result (TreeOf n) (m k ds) (λ t made. let s = sized.made k ds t made in omega (arith, s))

value_got : (d : Datum) (w : Work) (ps : List Part) (n : ℕ) → heft_work w + size_at d + total heft_part ps ≤ n → Holds (Got n) (with_value d w ps)
value_got d w ps n le = omega (arith, size_join w.values (one d))

node_got : (made : Result Tree Fault) (w : Work) (ps : List Part) (k n : ℕ) → Holds (TreeOf k) made → heft_work w + k + total heft_part ps ≤ n → Holds (Got n) (with_node made w ps)
node_got made w ps k n h le = then (TreeOf k) (Got n) made (λ t. with_value (child t) w ps) h (λ t it. value_got (child t) w ps n (omega (arith, it)))

initialized : (m : Maker) → Sized m → (b : Tree) (d : Datum) (n : ℕ) → size b + size_at d + 1 ≤ n → Holds (TreeOf n) (parameter_of m b d)
initialized m sized b absent n le = omega arith
initialized m sized b (child t) n le = node_made m sized kinds.BindingWithInitializer (two (child b) (child t)) n (omega arith)
initialized m sized b _ n le = tt

size_statements : (is : List Item) → size_in (statements is) ≤ total heft_item is
size_statements [] = omega arith
size_statements (i ∷ is) = omega (arith, size_statements is)

-- the directives in front, and the statements behind them
abbrev Parted : List Item → ℕ → Data → Type 0
Parted is n ds = size_in ds + size_in (statements (behind_directives is)) ≤ n

parted_from : (m : Maker) → Sized m → (o : Option NameId) (i : Item) (is : List Item) (r : Result Data Fault) → i.raw ≡ o → Holds (Parted is (total heft_item is)) r
    → Holds (λ ds. size_in ds + size_in (statements (behind_directive o (i ∷ is) (behind_directives is))) ≤ 1 + size i.statement + total heft_item is) (directives_from m o r)
parted_from m sized None i is r e h = omega (arith, size_statements is)
parted_from m sized (Some raw) i is r e h =
    then (TreeOf 2) (λ ds. size_in ds + size_in (statements (behind_directives is)) ≤ 1 + size i.statement + total heft_item is) (m kinds.Directive (one (name raw.0))) (λ t. r >>= λ ds. Ok (more (child t) ds))
    (node_made m sized kinds.Directive (one (name raw.0)) 2 (omega arith))
    (λ t it. then (Parted is (total heft_item is)) (λ ds. size_in ds + size_in (statements (behind_directives is)) ≤ 1 + size i.statement + total heft_item is) r (λ ds. Ok (more (child t) ds)) h (λ ds id. omega (arith, it, id, some_tree i.statement)))

parted_items : (m : Maker) → Sized m → (is : List Item) → Holds (Parted is (total heft_item is)) (directives m is)
parted_items m sized [] = omega arith
parted_items m sized (i ∷ is) = parted_from m sized i.raw i is (directives m is) refl (parted_items m sized is)

-- how many values a step adds
abbrev pub step_cost : Step → ℕ
step_cost steps.Wrap = 1
step_cost steps.Text = 1
step_cost steps.Whole = 1
step_cost (steps.Named k) = 2
step_cost steps.Quoted = 2
step_cost (steps.Operator e) = 1
step_cost steps.Parameter = 3
step_cost steps.TemplatePart = 1
step_cost steps.Statements = 1
step_cost steps.Body = 1
step_cost steps.Absent = 1
step_cost steps.NoLabel = 1
step_cost steps.NoItems = 1
step_cost (steps.Flag b) = 1
step_cost (steps.Choice n) = 1
step_cost (steps.Scope k) = 3
step_cost steps.ParameterScope = 4
step_cost steps.Resume = 1
step_cost (steps.Close k) = 1
step_cost _ = 0

step_got : (m : Maker) → Sized m → (s : Step) (w : Work) (ps : List Part) (n : ℕ) → heft_work w + total heft_part ps + step_cost s ≤ n → Holds (Got n) (step_on m s w ps)
unfolding skip put operand wrap text whole_number named quoted with_operator parameter template_part tail rest with_statements body hold resume closed
step_got m sized steps.Skip w ps n le = then (PartsLeft (total heft_part ps)) (Got n) (without_top ps) (λ rest. Ok (w, rest)) (top_left ps) (λ rest r. omega arith)
step_got m sized steps.Put w ps n le =
    then (ValuesLeft (total heft_part ps)) (Got n) (taken_values ps) (λ v. Ok (record w { values = join w.values v.0.0 }, v.1)) (values_left ps) (λ v r. omega (arith, size_join w.values v.0.0))
step_got m sized steps.Operand w ps n le =
    then (ValuesLeft (total heft_part ps)) (Got n) (taken_values ps) (λ v. Ok (record w { values = join w.values v.0.0; raw = v.0.1 }, v.1)) (values_left ps) (λ v r. omega (arith, size_join w.values v.0.0))
step_got m sized steps.Wrap w ps n le =
    then (ValuesLeft (total heft_part ps)) (Got n) (taken_values ps) (λ v. with_value (listed v.0.0) w v.1) (values_left ps) (λ v r. value_got (listed v.0.0) w v.1 n (omega arith))
step_got m sized steps.Text w ps n le =
    then (LeafLeft (total heft_part ps)) (Got n) (taken_leaf ps) (λ l. there l.0.text >>= λ x. with_value (name x.0) w l.1) (leaf_left ps)
    (λ l r. then (λ x. Unit {0}) (Got n) (there l.0.text) (λ x. with_value (name x.0) w l.1) (any (there l.0.text)) (λ x u. value_got (name x.0) w l.1 n (omega (arith, r))))
step_got m sized steps.Whole w ps n le =
    then (LeafLeft (total heft_part ps)) (Got n) (taken_leaf ps) (λ l. number l.0.kind >>= λ x. with_value (whole x) w l.1) (leaf_left ps)
    (λ l r. then (λ x. Unit {0}) (Got n) (number l.0.kind) (λ x. with_value (whole x) w l.1) (any (number l.0.kind)) (λ x u. value_got (whole x) w l.1 n (omega (arith, r))))
step_got m sized (steps.Named j) w ps n le =
    then (LeafLeft (total heft_part ps)) (Got n) (taken_leaf ps) (λ l. there l.0.text >>= λ x. with_node (m j (one (name x.0))) w l.1) (leaf_left ps)
    (λ l r. then (λ x. Unit {0}) (Got n) (there l.0.text) (λ x. with_node (m j (one (name x.0))) w l.1) (any (there l.0.text))
    (λ x u. node_got (m j (one (name x.0))) w l.1 2 n (node_made m sized j (one (name x.0)) 2 (omega arith)) (omega (arith, r))))
step_got m sized steps.Quoted w ps n le =
    then (LeafLeft (total heft_part ps)) (Got n) (taken_leaf ps) _ (leaf_left ps)
    (λ l r. then (λ x. Unit {0}) (Got n) (there l.0.text) _ (any (there l.0.text))
    (λ x u. then (TreeOf 2) (Got n) (m kinds.LiteralStringExpression (one (name x.0))) (λ t. Ok (record w { values = join w.values (one (child t)); raw = l.0.raw }, l.1)) (node_made m sized kinds.LiteralStringExpression (one (name x.0)) 2 (omega arith))
    (λ t it. omega (arith, r, it, size_join w.values (one (child t))))))
step_got m sized (steps.Operator e) w ps n le =
    then (LeafLeft (total heft_part ps)) (Got n) (taken_leaf ps) (λ l. there (operator e l.0.kind) >>= λ x. with_value (choice x) w l.1) (leaf_left ps)
    (λ l r. then (λ x. Unit {0}) (Got n) (there (operator e l.0.kind)) (λ x. with_value (choice x) w l.1) (any (there (operator e l.0.kind))) (λ x u. value_got (choice x) w l.1 n (omega (arith, r))))
step_got m sized steps.Parameter w ps n le =
    then (LeafLeft (total heft_part ps)) (Got n) (taken_leaf ps) _ (leaf_left ps)
    (λ l r. then (λ x. Unit {0}) (Got n) (there l.0.text) _ (any (there l.0.text))
    (λ x u. then (TreeOf 2) (Got n) (m kinds.BindingIdentifier (one (name x.0))) _ (node_made m sized kinds.BindingIdentifier (one (name x.0)) 2 (omega arith))
    (λ b ib. then (ValuesLeft (total heft_part l.1)) (Got n) (taken_values l.1) _ (values_left l.1)
    (λ v iv. then (λ d. size_at d ≤ size_in v.0.0) (Got n) (one_value v.0.0) (λ d. with_node (parameter_of m b d) w v.1) (one_left v.0.0)
    (λ d id. node_got (parameter_of m b d) w v.1 (3 + size_at d) n (initialized m sized b d (3 + size_at d) (omega (arith, ib))) (omega (arith, r, iv, id)))))))
step_got m sized steps.TemplatePart w ps n le =
    then (ValuesLeft (total heft_part ps)) (Got n) (taken_values ps) _ (values_left ps)
    (λ e ie. then (λ d. size_at d ≤ size_in e.0.0) (Got n) (one_value e.0.0) _ (one_left e.0.0)
    (λ d id. then (ValuesLeft (total heft_part e.1)) (Got n) (taken_values e.1) _ (values_left e.1)
    (λ v iv. then (λ f. size_at f.0 + size_in f.1 ≤ size_in v.0.0) (Got n) (first_value v.0.0) _ (first_left v.0.0)
    (λ f jf. then (TreeOf (1 + size_at d + size_at f.0)) (Got n) (m kinds.TemplatePart (two d f.0)) (λ t. Ok (record w { values = join w.values (more (child t) f.1) }, v.1))
    (node_made m sized kinds.TemplatePart (two d f.0) (1 + size_at d + size_at f.0) (omega arith))
    (λ t it. omega (arith, ie, id, iv, jf, it, size_join w.values (more (child t) f.1)))))))
step_got m sized steps.Tail w ps n le =
    then (EndingsLeft (total heft_part ps)) (Got n) (taken_endings ps) (λ e. Ok (record w { endings = w.endings ++ e.0 }, e.1)) (endings_left ps) (λ e r. omega (arith, r, total_join heft_ending w.endings e.0))
step_got m sized steps.Rest w ps n le =
    then (ItemsLeft (total heft_part ps)) (Got n) (taken_items ps) (λ i. Ok (record w { items = i.0 }, i.1)) (items_left ps) (λ i r. omega (arith, r))
step_got m sized steps.Statements w ps n le =
    then (ItemsLeft (total heft_part ps)) (Got n) (taken_items ps) (λ i. with_value (listed (statements i.0)) w i.1) (items_left ps) (λ i r. value_got (listed (statements i.0)) w i.1 n (omega (arith, r, size_statements i.0)))
step_got m sized steps.Body w ps n le =
    then (ItemsLeft (total heft_part ps)) (Got n) (taken_items ps) _ (items_left ps)
    (λ i r. then (Parted i.0 (total heft_item i.0)) (Got n) (directives m i.0) (λ ds. Ok (record w { values = join w.values (one (listed (statements (behind_directives i.0)))); directives = ds }, i.1)) (parted_items m sized i.0)
    (λ ds id. omega (arith, r, id, size_join w.values (one (listed (statements (behind_directives i.0)))))))
step_got m sized steps.Absent w ps n le = value_got absent w ps n (omega arith)
step_got m sized steps.NoLabel w ps n le = value_got no_name w ps n (omega arith)
step_got m sized steps.NoItems w ps n le = value_got (listed none) w ps n (omega arith)
step_got m sized (steps.Flag b) w ps n le = value_got (flag b) w ps n (omega arith)
step_got m sized (steps.Choice i) w ps n le = value_got (choice i) w ps n (omega arith)
step_got m sized (steps.Scope j) w ps n le = node_got (m j no_names) w ps 3 n (node_made m sized j no_names 3 (omega arith)) (omega arith)
step_got m sized steps.ParameterScope w ps n le =
    node_got (m kinds.AssertedParameterScope no_parameter_names) w ps 4 n (node_made m sized kinds.AssertedParameterScope no_parameter_names 4 (omega arith)) (omega arith)
step_got m sized steps.Hold w ps n le = omega arith
step_got m sized steps.Resume w ps n le = omega (arith, size_join w.held (more (listed w.directives) w.values))
step_got m sized (steps.Close j) w ps n le =
    then (λ x. heft_work x ≤ heft_work w + 1) (Got n) (closed m j w) (λ x. Ok (x, ps))
    (then (TreeOf (1 + size_in w.values)) (λ x. heft_work x ≤ heft_work w + 1) (m j w.values) (λ t. Ok (record w { values = one (child t) }))
    (node_made m sized j w.values (1 + size_in w.values) (omega arith)) (λ t it. omega (arith, it))) (λ x ix. omega (arith, ix))

pub all_got : (m : Maker) → Sized m → (ss : List Step) (w : Work) (ps : List Part) (n : ℕ) → heft_work w + total heft_part ps + total step_cost ss ≤ n → Holds (Got n) (gathered m ss w ps)
all_got m sized [] w ps n le = omega arith
all_got m sized (s ∷ ss) w ps n le =
    let one = step_got m sized s w ps (heft_work w + total heft_part ps + step_cost s) (omega arith)
    in then (Got (heft_work w + total heft_part ps + step_cost s)) (Got n) (step_on m s w ps) (λ r. gathered m ss r.0 r.1) one (λ r ir. all_got m sized ss r.0 r.1 n (omega (arith, ir)))
