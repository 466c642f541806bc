-- How many values a row's own part has beyond those that were gathered.
use Rattle.std.proofs.Common.{◌≡◌, ◌≤◌, ◌+◌, ◌==◌, ℕ, cond, Bool, true, false, length, List, [], ◌∷◌, reverse, Option, Some, None, Result, Ok, refl, sym, ap, arith}
use Rattle.bast_schema.specs.Choices.{lexical_let, lexical_const}
use Rattle.bast_schema.specs.declared.kind.Kind.TheVariants as kinds
use Rattle.bast_schema.specs.Counts.{join, size, size_at, size_in}
use Rattle.bast_schema.specs.Kinds.{same_kind}
use Rattle.bast_schema.specs.Tree.{Tree, branch, Datum, child, absent, listed, name, choice, Data, none, more, is_none}
use Rattle.js_grammar.specs.declared.symbols.RowId.{RowId}
use Rattle.js_machine.specs.Laws.{rows_among}
use Rattle.js_machine.specs.declared.events.Event.{Event}
use Rattle.js_machine.specs.declared.events.Event.TheVariants.{Row, Took, Inserted}
use Rattle.js_tree.specs.Finishes.{finish_on, folds, statement, shorthand, property, filled, fills, for_kind, declaration, left_of, bound, binds, declaring, declares, arrow_body, tries, sequence, instead, add_item, is_default, before_default, from_default, switch_of, switch, parameters}
use Rattle.js_tree.specs.Image.{row_part, leaf_part, event_part, image, root, tree_of}
use Rattle.js_tree.specs.Nodes.{Maker, one, two, identifier, first_name, limited, one_parameter, parameters_or, parameters_of, no_names, no_parameter_names, contents_of, stands, ended, folded}
use Rattle.js_tree.specs.Parts.{first_value, one_value, one_node, last_behind, last_value, one_ending, taken_values}
use Rattle.js_tree.specs.Recipes.{recipe}
use Rattle.js_tree.specs.Results.{◌>>=◌, there, broken}
use Rattle.js_tree.specs.Steps.{gathered, no_work}
use Rattle.js_tree.specs.declared.fault.Fault.{Fault}
use Rattle.js_tree.specs.declared.leaf.Leaf.{Leaf}
use Rattle.js_tree.specs.declared.parts.Part.{Part}
use Rattle.js_tree.specs.declared.parts.Part.TheVariants as parts
use Rattle.js_tree.specs.declared.parts.Form.{Form}
use Rattle.js_tree.specs.declared.parts.Form.TheVariants as forms
use Rattle.js_tree.specs.declared.parts.Ending.{Ending}
use Rattle.js_tree.specs.declared.parts.Ending.TheVariants as endings
use Rattle.js_tree.specs.declared.recipe.Declared.{Declared}
use Rattle.js_tree.specs.declared.recipe.Declared.TheVariants as declared
use Rattle.js_tree.specs.declared.recipe.Finish.{Finish}
use Rattle.js_tree.specs.declared.recipe.Finish.TheVariants as finishes
use Rattle.js_tree.specs.declared.work.Work.{Work}
use Rattle.js_tree_laws.proofs.Holding.{Holds, then, either}
use Rattle.js_tree_laws.proofs.Hefts.{Sized, heft_form, heft_ending, heft_part, total, heft_work, size_join, Got, ValuesLeft, PartsLeft, TreeOf, values_left, first_left, one_left, up_to, one_node_left, node_made, step_cost, all_got}
use Rattle.js_tree_laws.proofs.TreesHold.{limited_made, held_in, no_name_here}

made_end : (made : Result Tree Fault) (ps : List Part) (k n : ℕ) → Holds (TreeOf k) made → k + total heft_part ps ≤ n → Holds (PartsLeft n) (made >>= λ t. Ok (parts.Values (one (child t)) None ∷ ps))
made_end made ps k n h le = then (TreeOf k) (PartsLeft n) made (λ t. Ok (parts.Values (one (child t)) None ∷ ps)) h (λ t it. omega (arith, it))

-- an identifier has a name
name_counts : (ds : Data) (n : ℕ) → first_name ds ≡ Some n → 1 ≤ size_in ds
name_counts (more (name i) ds) n e = omega arith
name_counts _ n e = no_name_here n e

identifier_by : (b : Bool) (ds : Data) (n : ℕ) → cond b (first_name ds) None ≡ Some n → 2 ≤ 1 + size_in ds
identifier_by true ds n e = omega (arith, name_counts ds n e)
identifier_by false ds n e = no_name_here n e

identifier_counts : (t : Tree) (n : ℕ) → identifier t ≡ Some n → 2 ≤ size t
identifier_counts (branch k ds) n e = identifier_by (same_kind k kinds.IdentifierExpression) ds n e

parameter_of : (m : Maker) → Sized m → (i : ℕ) → Holds (TreeOf 5) (one_parameter m i)
parameter_of m sized i =
    then (TreeOf 2) (TreeOf 5) (m kinds.BindingIdentifier (one (name i))) (λ b. m kinds.FormalParameters (two (listed (one (child b))) absent)) (node_made m sized kinds.BindingIdentifier (one (name i)) 2 (omega arith))
    (λ b ib. node_made m sized kinds.FormalParameters (two (listed (one (child b))) absent) 5 (omega (arith, ib)))

parameters_by : (m : Maker) → Sized m → (t : Tree) (o : Option ℕ) → identifier t ≡ o → Holds (TreeOf (3 + size t)) (parameters_or m t o)
parameters_by m sized t None e = omega arith
parameters_by m sized t (Some i) e = up_to 5 (3 + size t) (one_parameter m i) (omega (arith, identifier_counts t i e)) (parameter_of m sized i)

parameters_size : (m : Maker) → Sized m → (t : Tree) → Holds (TreeOf (3 + size t)) (parameters_of m t)
unfolding parameters_of
parameters_size m sized t = parameters_by m sized t (identifier t) refl

contents_size : (m : Maker) → Sized m → (params : Tree) (body : Data) (n : ℕ) → 8 + size params + size_in body ≤ n → Holds (TreeOf n) (contents_of m params body)
unfolding contents_of
contents_size m sized params body n le =
    then (TreeOf 4) (TreeOf n) (m kinds.AssertedParameterScope no_parameter_names) _ (node_made m sized kinds.AssertedParameterScope no_parameter_names 4 (omega arith))
    (λ scope is. then (TreeOf 3) (TreeOf n) (m kinds.AssertedVarScope no_names) (λ vars. m kinds.FunctionContents (more (child scope) (more (child params) (more (child vars) body)))) (node_made m sized kinds.AssertedVarScope no_names 3 (omega arith))
    (λ vars iv. node_made m sized kinds.FunctionContents (more (child scope) (more (child params) (more (child vars) body))) n (omega (arith, is, iv))))

stands_size : (m : Maker) → Sized m → (f : Form) (t : Tree) → Holds (λ d. size_at d ≤ heft_form f + size t) (stands m f t)
unfolding stands
stands_size m sized forms.Plain t = omega arith
stands_size m sized forms.Parameters t = then (TreeOf (3 + size t)) (λ d. size_at d ≤ 3 + size t) (parameters_of m t) (λ p. Ok (child p)) (parameters_size m sized t) (λ p ip. ip)
stands_size m sized (forms.Contents body) t =
    then (TreeOf (3 + size t)) (λ d. size_at d ≤ 11 + size_in body + size t) (parameters_of m t) (λ p. contents_of m p body >>= λ c. Ok (child c)) (parameters_size m sized t)
    (λ p ip. then (TreeOf (11 + size_in body + size t)) (λ d. size_at d ≤ 11 + size_in body + size t) (contents_of m p body) (λ c. Ok (child c)) (contents_size m sized p body (11 + size_in body + size t) (omega (arith, ip))) (λ c ic. ic))
stands_size m sized forms.Label t = label_by t (identifier t) refl
  where
    label_by : (t : Tree) (o : Option ℕ) → identifier t ≡ o → Holds (λ d. size_at d ≤ 0 + size t) (there o >>= λ n. Ok (name n))
    label_by t None e = tt
    label_by t (Some i) e = omega (arith, identifier_counts t i e)
stands_size m sized (forms.Declared ds) t = tt

ended_size : (m : Maker) → Sized m → (e : Ending) (t : Tree) → Holds (TreeOf (heft_ending e + size t)) (ended m e t)
unfolding ended
ended_size m sized (endings.Around k form before behind) t =
    then (λ d. size_at d ≤ heft_form form + size t) (TreeOf (1 + heft_form form + size_in before + size_in behind + size t)) (stands m form t) (λ d. m k (join before (more d behind))) (stands_size m sized form t)
    (λ d id. node_made m sized k (join before (more d behind)) (1 + heft_form form + size_in before + size_in behind + size t) (omega (arith, id, size_join before (more d behind))))
ended_size m sized (endings.Instead u) t = omega arith

folded_size : (m : Maker) → Sized m → (es : List Ending) (t : Tree) (n : ℕ) → total heft_ending es + size t ≤ n → Holds (TreeOf n) (folded m es t)
folded_size m sized [] t n le = omega arith
folded_size m sized (e ∷ es) t n le = then (TreeOf (heft_ending e + size t)) (TreeOf n) (ended m e t) (folded m es) (ended_size m sized e t) (λ u iu. folded_size m sized es u n (omega (arith, iu)))

one_ending_left : (es : List Ending) → Holds (λ e. heft_ending e ≤ total heft_ending es) (one_ending es)
one_ending_left [] = tt
one_ending_left (e ∷ es) = either (λ f. heft_ending f ≤ heft_ending e + total heft_ending es) (length es == 0) (Ok e) broken (omega arith) tt

folds_left : (m : Maker) → Sized m → (w : Work) (ps : List Part) (n : ℕ) → heft_work w + total heft_part ps ≤ n → Holds (PartsLeft n) (folds m w ps)
unfolding folds
folds_left m sized w ps n le =
    either (PartsLeft n) (length w.endings == 0) (Ok (parts.Values w.values w.raw ∷ ps)) _ (omega arith)
    (then (TreeOf (size_in w.values)) (PartsLeft n) (one_node w.values) (λ t. folded m w.endings t >>= λ t. Ok (parts.Values (one (child t)) None ∷ ps)) (one_node_left w.values)
    (λ t it. made_end (folded m w.endings t) ps (total heft_ending w.endings + size_in w.values) n (folded_size m sized w.endings t (total heft_ending w.endings + size_in w.values) (omega (arith, it))) (omega arith)))

shorthand_size : (m : Maker) → Sized m → (ds : Data) → Holds (TreeOf (2 + size_in ds)) (shorthand m ds)
shorthand_size m sized ds =
    then (TreeOf (1 + size_in ds)) (TreeOf (2 + size_in ds)) (m kinds.IdentifierExpression ds) (λ t. m kinds.ShorthandProperty (one (child t))) (node_made m sized kinds.IdentifierExpression ds (1 + size_in ds) (omega arith))
    (λ t it. node_made m sized kinds.ShorthandProperty (one (child t)) (2 + size_in ds) (omega (arith, it)))

filled_left : (e : Ending) (d : Datum) (ps : List Part) (n : ℕ) → heft_ending e + size_at d + total heft_part ps ≤ n → Holds (PartsLeft n) (filled e d ps)
filled_left (endings.Around j form before behind) d ps n le = omega (arith, size_join before (more d behind))
filled_left (endings.Instead t) d ps n le = tt

declaration_size : (m : Maker) → Sized m → (how : Declared) (ds : Data) → Holds (TreeOf (3 + size_in ds)) (declaration m how ds)
declaration_size m sized declared.Var ds = node_made m sized kinds.VarDeclaration (one (listed ds)) (3 + size_in ds) (omega arith)
declaration_size m sized declared.Let ds = node_made m sized kinds.LexicalDeclaration (two (choice lexical_let) (listed ds)) (3 + size_in ds) (omega arith)
declaration_size m sized declared.Const ds = node_made m sized kinds.LexicalDeclaration (two (choice lexical_const) (listed ds)) (3 + size_in ds) (omega arith)

left_size : (m : Maker) → Sized m → (how : Declared) (b : Datum) (f : Form) (n : ℕ) → 4 + size_at b + heft_form f ≤ n → Holds (TreeOf n) (left_of m how b f)
left_size m sized how b forms.Plain n le = node_made m sized kinds.ForInOfBinding (two (choice (for_kind how)) b) n (omega arith)
left_size m sized how b (forms.Declared ds) n le =
    then (λ f. size_at f.0 + size_in f.1 ≤ size_in ds) (TreeOf n) (first_value ds) (λ f. m kinds.VariableDeclarator (two b f.0) >>= λ d. declaration m how (more (child d) f.1)) (first_left ds)
    (λ f jf. then (TreeOf (1 + size_at b + size_at f.0)) (TreeOf n) (m kinds.VariableDeclarator (two b f.0)) (λ d. declaration m how (more (child d) f.1)) (node_made m sized kinds.VariableDeclarator (two b f.0) (1 + size_at b + size_at f.0) (omega arith))
    (λ d id. up_to (3 + size_in (more (child d) f.1)) n (declaration m how (more (child d) f.1)) (omega (arith, id, jf)) (declaration_size m sized how (more (child d) f.1))))
left_size m sized how b _ n le = tt

-- the form counts no more once it is used
bound_left : (m : Maker) → Sized m → (how : Declared) (b : Datum) (e : Ending) (ps : List Part) (n : ℕ) → 4 + size_at b + heft_ending e + total heft_part ps ≤ n → Holds (PartsLeft n) (bound m how b e ps)
bound_left m sized how b (endings.Around j form before behind) ps n le =
    then (TreeOf (4 + size_at b + heft_form form)) (PartsLeft n) (left_of m how b form) (λ t. filled (endings.Around j form before behind) (child t) ps) (left_size m sized how b form (4 + size_at b + heft_form form) (omega arith))
    (λ t it. omega (arith, it, size_join before (more (child t) behind)))
bound_left m sized how b (endings.Instead t) ps n le = tt

declaring_left : (ds : Data) (e : Ending) (ps : List Part) (n : ℕ) → size_in ds + heft_ending e + total heft_part ps ≤ n → Holds (PartsLeft n) (declaring ds e ps)
declaring_left ds (endings.Around j form before behind) ps n le = omega arith
declaring_left ds (endings.Instead t) ps n le = tt

cases_by : (b : Bool) (d : Datum) (ds before from : Data) → size_in before + size_in from ≤ size_in ds → size_in (cond b none (more d before)) + size_in (cond b (more d ds) from) ≤ size_at d + size_in ds
cases_by true d ds before from le = omega arith
cases_by false d ds before from le = omega arith

cases_left : (ds : Data) → size_in (before_default ds) + size_in (from_default ds) ≤ size_in ds
cases_left none = omega arith
cases_left (more d ds) = cases_by (is_default d) d ds (before_default ds) (from_default ds) (cases_left ds)

switch_size : (m : Maker) → Sized m → (held before behind : Data) (n : ℕ) → 3 + size_in held + size_in before + size_in behind ≤ n → Holds (TreeOf n) (switch_of m held before behind)
switch_size m sized held before none n le = node_made m sized kinds.SwitchStatement (join held (one (listed before))) n (omega (arith, size_join held (one (listed before))))
switch_size m sized held before (more d behind) n le =
    node_made m sized kinds.SwitchStatementWithDefault (join held (more (listed before) (two d (listed behind)))) n (omega (arith, size_join held (more (listed before) (two d (listed behind)))))

behind_left : (d : Datum) (ds : Data) → size_in (last_behind d ds).0 + size_at (last_behind d ds).1 ≡ size_at d + size_in ds
behind_left d none = omega arith
behind_left d (more e es) = omega (arith, behind_left e es)

last_left : (ds : Data) → Holds (λ l. size_in l.0 + size_at l.1 ≤ size_in ds) (last_value ds)
last_left none = tt
last_left (more d ds) = omega (arith, behind_left d ds)

-- how many values a row's own part has beyond those that were gathered
abbrev pub finish_cost : Finish → ℕ
finish_cost (finishes.Ends k) = 1
finish_cost (finishes.EndsParameters k) = 4
finish_cost (finishes.EndsLabel k) = 1
finish_cost (finishes.Binds how) = 4
finish_cost finishes.ArrowBody = 13
finish_cost finishes.Tries = 1
finish_cost finishes.Sequence = 2
finish_cost finishes.Statement = 1
finish_cost finishes.Property = 2
finish_cost finishes.Items = 1
finish_cost finishes.Switch = 3
finish_cost finishes.Parameters = 2
finish_cost _ = 0

finish_left : (m : Maker) → Sized m → (f : Finish) (w : Work) (ps : List Part) (n : ℕ) → heft_work w + total heft_part ps + finish_cost f ≤ n → Holds (PartsLeft n) (finish_on m f w ps)
unfolding fills binds declares arrow_body tries sequence statement property instead add_item switch parameters
finish_left m sized finishes.Same w ps n le = omega arith
finish_left m sized finishes.Values w ps n le = omega arith
finish_left m sized finishes.Folds w ps n le = folds_left m sized w ps n (omega arith)
finish_left m sized (finishes.Ends j) w ps n le = omega arith
finish_left m sized (finishes.EndsParameters j) w ps n le = omega arith
finish_left m sized (finishes.EndsLabel j) w ps n le = omega arith
finish_left m sized finishes.Endings w ps n le = omega arith
finish_left m sized finishes.Fills w ps n le =
    then (λ d. size_at d ≤ size_in w.values) (PartsLeft n) (one_value w.values) (λ d. one_ending w.endings >>= λ e. filled e d ps) (one_left w.values)
    (λ d id. then (λ e. heft_ending e ≤ total heft_ending w.endings) (PartsLeft n) (one_ending w.endings) (λ e. filled e d ps) (one_ending_left w.endings) (λ e ie. filled_left e d ps n (omega (arith, id, ie))))
finish_left m sized (finishes.Binds how) w ps n le =
    then (λ d. size_at d ≤ size_in w.values) (PartsLeft n) (one_value w.values) (λ d. one_ending w.endings >>= λ e. bound m how d e ps) (one_left w.values)
    (λ d id. then (λ e. heft_ending e ≤ total heft_ending w.endings) (PartsLeft n) (one_ending w.endings) (λ e. bound m how d e ps) (one_ending_left w.endings) (λ e ie. bound_left m sized how d e ps n (omega (arith, id, ie))))
finish_left m sized finishes.Declares w ps n le =
    then (λ e. heft_ending e ≤ total heft_ending w.endings) (PartsLeft n) (one_ending w.endings) (λ e. declaring w.values e ps) (one_ending_left w.endings) (λ e ie. declaring_left w.values e ps n (omega (arith, ie)))
finish_left m sized finishes.ArrowBody w ps n le = omega arith
finish_left m sized finishes.Tries w ps n le = omega arith
finish_left m sized finishes.Sequence w ps n le =
    either (PartsLeft n) (is_none w.values) (Ok (parts.Values w.held w.raw ∷ ps)) _ (omega arith)
    (made_end (m kinds.SequenceExpression (join w.held (one (listed w.values)))) ps (2 + size_in w.held + size_in w.values) n
    (node_made m sized kinds.SequenceExpression (join w.held (one (listed w.values))) (2 + size_in w.held + size_in w.values) (omega (arith, size_join w.held (one (listed w.values))))) (omega arith))
finish_left m sized finishes.Statement w ps n le =
    either (PartsLeft n) (length w.endings == 0) (m kinds.ExpressionStatement w.values >>= λ t. Ok (parts.Values (one (child t)) w.raw ∷ ps)) (folds m w ps)
    (then (TreeOf (1 + size_in w.values)) (PartsLeft n) (m kinds.ExpressionStatement w.values) (λ t. Ok (parts.Values (one (child t)) w.raw ∷ ps)) (node_made m sized kinds.ExpressionStatement w.values (1 + size_in w.values) (omega arith)) (λ t it. omega (arith, it)))
    (folds_left m sized w ps n (omega arith))
finish_left m sized finishes.Property w ps n le =
    either (PartsLeft n) (length w.endings == 0) _ _ (made_end (shorthand m w.values) ps (2 + size_in w.values) n (shorthand_size m sized w.values) (omega arith))
    (then (TreeOf (1 + size_in w.values)) (PartsLeft n) (m kinds.LiteralPropertyName w.values) (λ t. folded m w.endings t >>= λ t. Ok (parts.Values (one (child t)) None ∷ ps)) (node_made m sized kinds.LiteralPropertyName w.values (1 + size_in w.values) (omega arith))
    (λ t it. made_end (folded m w.endings t) ps (total heft_ending w.endings + 1 + size_in w.values) n (folded_size m sized w.endings t (total heft_ending w.endings + 1 + size_in w.values) (omega (arith, it))) (omega arith)))
finish_left m sized finishes.Instead w ps n le =
    then (TreeOf (size_in w.values)) (PartsLeft n) (one_node w.values) (λ t. Ok (parts.Endings (endings.Instead t ∷ []) ∷ ps)) (one_node_left w.values) (λ t it. omega (arith, it))
finish_left m sized finishes.Items w ps n le =
    then (TreeOf (size_in w.values)) (PartsLeft n) (one_node w.values) (λ t. Ok (parts.Items (record { statement = t; raw = w.raw } ∷ w.items) ∷ ps)) (one_node_left w.values) (λ t it. omega (arith, it))
finish_left m sized finishes.NoItems w ps n le = omega arith
finish_left m sized finishes.Switch w ps n le =
    made_end (switch_of m w.held (before_default w.values) (from_default w.values)) ps (3 + size_in w.held + size_in w.values) n
    (switch_size m sized w.held (before_default w.values) (from_default w.values) (3 + size_in w.held + size_in w.values) (omega (arith, cases_left w.values))) (omega arith)
finish_left m sized finishes.Parameters w ps n le =
    then (λ l. size_in l.0 + size_at l.1 ≤ size_in w.values) (PartsLeft n) (last_value w.values) (λ l. m kinds.FormalParameters (two (listed l.0) l.1) >>= λ t. Ok (parts.Values (one (child t)) None ∷ ps)) (last_left w.values)
    (λ l il. made_end (m kinds.FormalParameters (two (listed l.0) l.1)) ps (2 + size_in w.values) n (node_made m sized kinds.FormalParameters (two (listed l.0) l.1) (2 + size_in w.values) (omega (arith, il))) (omega arith))

abbrev pub row_cost : RowId → ℕ
row_cost r = total step_cost (recipe r).0 + finish_cost (recipe r).1

row_left : (m : Maker) → Sized m → (r : RowId) (ps : List Part) → Holds (PartsLeft (total heft_part ps + row_cost r)) (row_part m r ps)
unfolding row_part
row_left m sized r ps =
    then (Got (total heft_part ps + total step_cost (recipe r).0)) (PartsLeft (total heft_part ps + row_cost r)) (gathered m (recipe r).0 no_work ps) (λ g. finish_on m (recipe r).1 g.0 g.1)
    (all_got m sized (recipe r).0 no_work ps (total heft_part ps + total step_cost (recipe r).0) (omega arith))
    (λ g ig. finish_left m sized (recipe r).1 g.0 g.1 (total heft_part ps + row_cost r) (omega (arith, ig)))

abbrev StateLeft : ℕ → List Leaf × List Part → Type 0
StateLeft n s = total heft_part s.1 ≤ n

leaf_left : (ls : List Leaf) (ps : List Part) (n : ℕ) → total heft_part ps ≤ n → Holds (StateLeft n) (leaf_part ls ps)
leaf_left [] ps n le = tt
leaf_left (l ∷ ls) ps n le = omega arith

image_left : (m : Maker) → Sized m → (ls : List Leaf) (es : List Event) → Holds (StateLeft (total row_cost (rows_among es))) (image m ls es)
image_left m sized ls [] = omega arith
image_left m sized ls (Row r ∷ es) =
    then (StateLeft (total row_cost (rows_among es))) (StateLeft (row_cost r + total row_cost (rows_among es))) (image m ls es) (event_part m (Row r)) (image_left m sized ls es)
    (λ s is. then (PartsLeft (total heft_part s.1 + row_cost r)) (StateLeft (row_cost r + total row_cost (rows_among es))) (row_part m r s.1) (λ ps. Ok (s.0, ps)) (row_left m sized r s.1) (λ ps ip. omega (arith, is, ip)))
image_left m sized ls (Took ∷ es) =
    then (StateLeft (total row_cost (rows_among es))) (StateLeft (total row_cost (rows_among es))) (image m ls es) (event_part m Took) (image_left m sized ls es) (λ s is. leaf_left s.0 s.1 (total row_cost (rows_among es)) is)
image_left m sized ls (Inserted ∷ es) =
    then (StateLeft (total row_cost (rows_among es))) (StateLeft (total row_cost (rows_among es))) (image m ls es) (event_part m Inserted) (image_left m sized ls es) (λ s is. omega (arith, is))

root_left : (ps : List Part) → Holds (TreeOf (total heft_part ps)) (root ps)
root_left ps =
    then (ValuesLeft (total heft_part ps)) (TreeOf (total heft_part ps)) (taken_values ps) (λ v. cond (length v.1 == 0) (one_node v.0.0) broken) (values_left ps)
    (λ v iv. either (TreeOf (total heft_part ps)) (length v.1 == 0) (one_node v.0.0) broken (up_to (size_in v.0.0) (total heft_part ps) (one_node v.0.0) (omega (arith, iv)) (one_node_left v.0.0)) tt)

tree_left : (m : Maker) → Sized m → (ls : List Leaf) (es : List Event) → Holds (TreeOf (total row_cost (rows_among es))) (tree_of m ls es)
unfolding tree_of
tree_left m sized ls es =
    then (StateLeft (total row_cost (rows_among es))) (TreeOf (total row_cost (rows_among es))) (image m (reverse ls) es) (λ s. root s.1) (image_left m sized (reverse ls) es)
    (λ s is. up_to (total heft_part s.1) (total row_cost (rows_among es)) (root s.1) is (root_left s.1))

limited_sized : Sized limited
limited_sized = record { made = λ k ds t made. ap size (sym (limited_made k ds t made).same) }

-- a tree has no more values than its rows add
pub tree_costs : (ls : List Leaf) (es : List Event) (t : Tree) → tree_of limited ls es ≡ Ok t → size t ≤ total row_cost (rows_among es)
tree_costs ls es t made = held_in (TreeOf (total row_cost (rows_among es))) (tree_of limited ls es) t (tree_left limited limited_sized ls es) made
