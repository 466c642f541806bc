-- What holds of each value that is gathered, where it holds of what is made of such values.
use Rattle.std.proofs.Common.{◌≡◌, ℕ, zero, suc, cond, Bool, true, false, not, ◌&&◌, ◌||◌, List, [], ◌∷◌, ◌++◌, Option, Some, None, Result, Ok, Err, refl, sym, subst, arith}
use Rattle.std.specs.List.{Contains, list_all}
use Rattle.bast_base.specs.declared.errors.NameId.{NameId}
use Rattle.bast_schema.specs.declared.kind.Kind.{Kind}
use Rattle.bast_schema.specs.declared.kind.Kind.TheVariants as kinds
use Rattle.bast_schema.specs.Counts.{join}
use Rattle.bast_schema.specs.Fields.{has_lazy}
use Rattle.bast_schema.specs.Kinds.{same_kind}
use Rattle.bast_schema.specs.Tree.{Tree, Datum, child, absent, listed, flag, whole, name, no_name, choice, Data, none, more}
use Rattle.scope_facts.specs.Bare.{empty_fields}
use Rattle.scope_facts.specs.Roles.{part, is_scope_part, shape_of}
use Rattle.scope_facts.specs.declared.roles.Shape.{Shape}
use Rattle.scope_facts.specs.declared.roles.Shape.TheVariants.{Parameters}
use Rattle.js_grammar.specs.declared.symbols.RowId.{RowId}
use Rattle.js_tree.specs.Nodes.{Maker, one, identifier, no_names, no_parameter_names}
use Rattle.js_tree.specs.Results.{◌>>=◌, there}
use Rattle.js_tree.specs.declared.fault.Fault.{Fault}
use Rattle.js_tree.specs.declared.leaf.Leaf.{Leaf}
use Rattle.js_tree.specs.declared.parts.Part.{Part}
use Rattle.js_tree.specs.declared.parts.Part.TheVariants as parts
use Rattle.js_tree.specs.declared.parts.Form.{Form}
use Rattle.js_tree.specs.declared.parts.Form.TheVariants as forms
use Rattle.js_tree.specs.declared.parts.Ending.{Ending}
use Rattle.js_tree.specs.declared.parts.Ending.TheVariants as endings
use Rattle.js_tree.specs.declared.parts.Item.{Item}
use Rattle.js_tree.specs.declared.work.Work.{Work}

-- it holds of a result, if there is one
abbrev pub Holds : {A : Type 0} → (A → Type 0) → Result A Fault → Type 0
Holds Q (Ok x) = Q x
Holds Q (Err e) = Unit {0}

pub then : {A B : Type 0} (Q : A → Type 0) (R : B → Type 0) (r : Result A Fault) (f : A → Result B Fault) → Holds Q r → ((x : A) → Q x → Holds R (f x)) → Holds R (r >>= f)
then Q R (Ok x) f holds next = next x holds
then Q R (Err e) f holds next = tt

pub each_result : {A : Type 0} (Q : A → Type 0) (r : Result A Fault) → ((x : A) → r ≡ Ok x → Q x) → Holds Q r
each_result Q (Ok x) is = is x refl
each_result Q (Err e) is = tt

pub any : {A : Type 0} (r : Result A Fault) → Holds (λ x. Unit {0}) r
any r = each_result (λ x. Unit {0}) r (λ x e. tt)

pub either : {A : Type 0} (Q : A → Type 0) (b : Bool) (r s : Result A Fault) → Holds Q r → Holds Q s → Holds Q (cond b r s)
either Q true r s h k = h
either Q false r s h k = k

pub both : (a b : Bool) → (a && b) ≡ true → (a ≡ true) × (b ≡ true)
both true b e = (refl, e)
both false b e = absurd cc

pub is_not : (b : Bool) → not b ≡ true → b ≡ false
is_not true e = sym e
is_not false e = refl

-- what holds of all rows of a list holds of one
pub each_row : (p : RowId → Bool) (rs : List RowId) (r : RowId) → list_all p rs ≡ true → Contains rs r → p r ≡ true
each_row p [] r all (k, below, is) = absurd (omega arith)
each_row p (q ∷ rs) r all (zero, below, is) = subst (λ r. p r ≡ true) is (both (p q) (list_all p rs) all).0
each_row p (q ∷ rs) r all (suc k, below, is) = each_row p rs r (both (p q) (list_all p rs) all).1 (k, omega arith, is)

-- of each value
abbrev pub Each : (Datum → Type 0) → Data → Type 0
Each P none = Unit {0}
Each P (more d ds) = P d × Each P ds

-- a kind of node that is no lazy one and no scope
abbrev pub is_common : Kind → Bool
is_common k = not (has_lazy k || is_scope_part (part k))

-- a kind of node that is made of any values: a common one, and no identifier, which is made of a name
abbrev pub is_made : Kind → Bool
is_made k = is_common k && not (same_kind k kinds.IdentifierExpression)

pub record Kept (m : Maker) (P : Datum → Type 0) : Type 0 where
  pub node : (k : Kind) (ds : Data) (t : Tree) → is_made k ≡ true → Each P ds → m k ds ≡ Ok t → P (child t)
  pub scope : (k : Kind) (t : Tree) → has_lazy k ≡ false → m k (empty_fields (shape_of k)) ≡ Ok t → P (child t)
  pub named : (k : Kind) (n : ℕ) (t : Tree) → is_common k ≡ true → P (name n) → m k (one (name n)) ≡ Ok t → P (child t)
  pub shorthand : (ds : Data) (t u : Tree) → Each P ds → m kinds.IdentifierExpression ds ≡ Ok t → m kinds.ShorthandProperty (one (child t)) ≡ Ok u → P (child u)
  pub name_of : (t : Tree) (n : ℕ) → P (child t) → identifier t ≡ Some n → P (name n)
  pub list : (ds : Data) → Each P ds → P (listed ds)
  pub no_node : P absent
  pub no_label : P no_name
  pub flags : (b : Bool) → P (flag b)
  pub wholes : (n : ℕ) → P (whole n)
  pub choices : (n : ℕ) → P (choice n)

abbrev pub HoldsName : (Datum → Type 0) → Option NameId → Type 0
HoldsName P None = Unit {0}
HoldsName P (Some n) = P (name n.0)

abbrev pub HoldsLeaf : (Datum → Type 0) → Leaf → Type 0
HoldsLeaf P l = HoldsName P l.text × HoldsName P l.raw

abbrev pub HoldsForm : (Datum → Type 0) → Form → Type 0
HoldsForm P (forms.Contents body) = Each P body
HoldsForm P (forms.Declared ds) = Each P ds
HoldsForm P _ = Unit {0}

abbrev pub HoldsEnding : (Datum → Type 0) → Ending → Type 0
HoldsEnding P (endings.Around k form before behind) = (is_made k ≡ true) × HoldsForm P form × Each P before × Each P behind
HoldsEnding P (endings.Instead t) = P (child t)

abbrev pub HoldsEndings : (Datum → Type 0) → List Ending → Type 0
HoldsEndings P [] = Unit {0}
HoldsEndings P (e ∷ es) = HoldsEnding P e × HoldsEndings P es

abbrev pub HoldsItems : (Datum → Type 0) → List Item → Type 0
HoldsItems P [] = Unit {0}
HoldsItems P (i ∷ is) = P (child i.statement) × HoldsName P i.raw × HoldsItems P is

abbrev pub HoldsPart : (Datum → Type 0) → Part → Type 0
HoldsPart P (parts.Token l) = HoldsLeaf P l
HoldsPart P parts.Counted = Unit {0}
HoldsPart P (parts.Values ds raw) = Each P ds × HoldsName P raw
HoldsPart P (parts.Endings es) = HoldsEndings P es
HoldsPart P (parts.Items is) = HoldsItems P is

abbrev pub HoldsParts : (Datum → Type 0) → List Part → Type 0
HoldsParts P [] = Unit {0}
HoldsParts P (p ∷ ps) = HoldsPart P p × HoldsParts P ps

pub record HoldsWork (P : Datum → Type 0) (w : Work) : Type 0 where
  pub values : Each P w.values
  pub held : Each P w.held
  pub directives : Each P w.directives
  pub raw : HoldsName P w.raw
  pub endings : HoldsEndings P w.endings
  pub items : HoldsItems P w.items

pub each_join : (P : Datum → Type 0) (ds es : Data) → Each P ds → Each P es → Each P (join ds es)
each_join P none es h k = k
each_join P (more d ds) es h k = (h.0, each_join P ds es h.1 k)

pub endings_join : (P : Datum → Type 0) (es fs : List Ending) → HoldsEndings P es → HoldsEndings P fs → HoldsEndings P (es ++ fs)
endings_join P [] fs h k = k
endings_join P (e ∷ es) fs h k = (h.0, endings_join P es fs h.1 k)

pub name_there : (P : Datum → Type 0) (o : Option NameId) → HoldsName P o → Holds (λ n. P (name n.0)) (there o)
name_there P None h = tt
name_there P (Some n) h = h

-- of a node that is made
pub node_made : (m : Maker) (P : Datum → Type 0) → Kept m P → (k : Kind) (ds : Data) → is_made k ≡ true → Each P ds → Holds (λ t. P (child t)) (m k ds)
node_made m P kept k ds is h = each_result (λ t. P (child t)) (m k ds) (λ t. kept.node k ds t is h)

pub name_made : (m : Maker) (P : Datum → Type 0) → Kept m P → (k : Kind) (n : ℕ) → is_common k ≡ true → P (name n) → Holds (λ t. P (child t)) (m k (one (name n)))
name_made m P kept k n is h = each_result (λ t. P (child t)) (m k (one (name n))) (λ t. kept.named k n t is h)

-- of a scope that says nothing
pub empty_held : (P : Datum → Type 0) → P (listed none) → P (flag false) → (s : Shape) → Each P (empty_fields s)
empty_held P l f Parameters = (l, (f, (f, tt)))
empty_held P l f _ = (l, (f, tt))

-- whether a scope of that shape has one flag
abbrev pub has_one_flag : Shape → Bool
has_one_flag Parameters = false
has_one_flag _ = true

fields_of_one : (s : Shape) → has_one_flag s ≡ true → empty_fields s ≡ no_names
fields_of_one Parameters e = cc
fields_of_one _ e = refl

pub scope_made : (m : Maker) (P : Datum → Type 0) → Kept m P → (k : Kind) → has_lazy k ≡ false → has_one_flag (shape_of k) ≡ true → Holds (λ t. P (child t)) (m k no_names)
scope_made m P kept k is one =
    subst (λ ds. Holds (λ t. P (child t)) (m k ds)) (fields_of_one (shape_of k) one) (each_result (λ t. P (child t)) (m k (empty_fields (shape_of k))) (λ t. kept.scope k t is))

pub parameter_scope_made : (m : Maker) (P : Datum → Type 0) → Kept m P → Holds (λ t. P (child t)) (m kinds.AssertedParameterScope no_parameter_names)
parameter_scope_made m P kept = each_result (λ t. P (child t)) (m kinds.AssertedParameterScope no_parameter_names) (λ t. kept.scope kinds.AssertedParameterScope t refl)
