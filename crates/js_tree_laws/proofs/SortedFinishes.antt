-- Why what a row leaves is of the sort that is found for it.
use Rattle.std.proofs.Common.{◌≡◌, ℕ, Bool, true, false, ◌&&◌, inl, inr, List, [], ◌∷◌, ◌++◌, Option, None, Result, Ok, refl, sym, ap, ◌∙◌, subst, length, cond}
use Rattle.std.specs.Prelude.{◌==◌}
use Rattle.std.proofs.lemmas.Bool.{eqb-true}
use lib.Dec.{eqb}
use Rattle.bast_base.specs.declared.errors.NameId.{NameId}
use Rattle.bast_schema.specs.declared.kind.FieldType.{FieldType}
use Rattle.bast_schema.specs.declared.kind.FieldType.TheVariants as field
use Rattle.bast_schema.specs.declared.kind.Kind.{Kind}
use Rattle.bast_schema.specs.declared.kind.Kind.TheVariants as kinds
use Rattle.bast_schema.specs.declared.kind.Union.{Union}
use Rattle.bast_schema.specs.declared.kind.Union.TheVariants as unions
use Rattle.bast_schema.specs.Fields.{fields}
use Rattle.bast_schema.specs.Kinds.{same_kind, number}
use Rattle.bast_schema.specs.Counts.{join}
use Rattle.bast_schema.specs.Tree.{Tree, branch, Datum, child, absent, listed, name, Data, none, more, kind_of, typed, fits, fit}
use Rattle.bast_schema.specs.Unions.{allowed}
use Rattle.js_tree.specs.Finishes.{Finished, with_values, with_made, with_endings, ends, folds, statement, shorthand, property, arrow_body}
use Rattle.js_tree.specs.Nodes.{Maker, one, two, no_names, no_parameter_names, identifier, one_parameter, parameters_or, parameters_of, contents_of, stands, folded}
use Rattle.js_tree.specs.Parts.{one_node}
use Rattle.js_tree.specs.Results.{◌>>=◌, there}
use Rattle.js_tree.specs.declared.fault.Fault.{Fault}
use Rattle.js_tree.specs.declared.parts.Part.{Part}
use Rattle.js_tree.specs.declared.parts.Part.TheVariants as parts
use Rattle.js_tree.specs.declared.parts.Form.TheVariants as forms
use Rattle.js_tree.specs.declared.parts.Ending.{Ending}
use Rattle.js_tree.specs.declared.parts.Ending.TheVariants as endings
use Rattle.js_tree.specs.declared.work.Work.{Work}
use Rattle.js_tree_laws.proofs.Sorts.{Sort, Of, Fits, Rest, Nothing, Holds, Tail, NoTail, Turns, Names, Fills, Binds, Any, OneName, Head, Values, Endings, PartIs, AreEndings, Is, IsMaker, Safely, TurnsTo, IsOperand, Operand, CanFill, Filling, Binding, OneOf, within, suits, suit}
use Rattle.js_tree_laws.proofs.Shapes.{and_left, and_right, both, three, joined, suits_sound, suit_sound}
use Rattle.js_tree_laws.proofs.Gathers.{Shape, WorkIs, a_node, all_statements}
use Rattle.js_tree_laws.proofs.Safe.{safely_bind, safely_map, widened, made_in, or_none}
use Rattle.js_tree_laws.proofs.Closing.{Makes, turns_target, at_turns, on_top, operand_within, operand_sound, tail_after, after_sound, around, held_around, plainly}

none_of : (es : List Ending) → (length es == 0) ≡ true → es ≡ []
none_of [] e = refl
none_of (x ∷ es) e = absurd (let zero_is : length (x ∷ es) ≡ 0 = eqb-true _ _ e in cc)

pub made_on_top : (m : Maker) (v : Union) (made : Result Tree Fault) (ps qs : List Part) → ps ≡ qs → Safely (Is v) made → Makes m (Values (field.Node v ∷ []) Nothing) qs (with_made made ps)
made_on_top m v made ps qs e is = safely_bind (Is v) (λ out. (p : Part) × (out ≡ p ∷ qs) × PartIs m (Values (field.Node v ∷ []) Nothing) p) made _ is (λ t is. on_top m (Values (field.Node v ∷ []) Nothing) (parts.Values (one (child t)) None) ps qs e (is, tt))

-- the one value, with all that stands behind it around it
abbrev pub folds_fit : List Sort → Rest → Tail → Union → Bool
folds_fit (s ∷ []) Nothing NoTail v = suits s (field.Node v)
folds_fit (s ∷ []) Nothing (Turns (Any u) x) v = suits s (field.Node u) && within x v
folds_fit _ _ _ v = false

abbrev pub fold_of : Maker → Bool → Data → Option NameId → List Ending → List Part → Finished
fold_of m b ds raw es ps = cond b (with_values ds raw ps) (one_node ds >>= λ t. with_made (folded m es t) ps)

pub folded_one : (m : Maker) (b : Bool) (v : Union) (t : Tree) (raw : Option NameId) (es : List Ending) (ps qs : List Part) → (length es == 0) ≡ b → ps ≡ qs → Safely (Is v) (folded m es t)
    → Makes m (Values (field.Node v ∷ []) Nothing) qs (fold_of m b (more (child t) none) raw es ps)
folded_one m true v t raw es ps qs e same is = on_top m (Values (field.Node v ∷ []) Nothing) (parts.Values (more (child t) none) raw) ps qs same ((subst (λ l. Safely (Is v) (folded m l t)) (none_of es e) is, tt))
folded_one m false v t raw es ps qs e same is = made_on_top m v (folded m es t) ps qs same is

pub folded_value : (m : Maker) (u v : Union) (d : Datum) (raw : Option NameId) (es : List Ending) (ps qs : List Part) → fits (field.Node u) d ≡ true → ps ≡ qs → TurnsTo m (Any u) v es
    → Makes m (Values (field.Node v ∷ []) Nothing) qs (fold_of m (length es == 0) (more d none) raw es ps)
folded_value m u v (child t) raw es ps qs e same is = folded_one m (length es == 0) v t raw es ps qs refl same (is t e)
folded_value m u v _ raw es ps qs e same is = cc

folds_as : (m : Maker) (ss : List Sort) (q : Rest) (x : Tail) (v : Union) (ds : Data) (raw : Option NameId) (es : List Ending) (ps qs : List Part) → folds_fit ss q x v ≡ true → ps ≡ qs → Holds ss q ds → AreEndings m x es
    → Makes m (Values (field.Node v ∷ []) Nothing) qs (fold_of m (length es == 0) ds raw es ps)
folds_as m (s ∷ []) Nothing NoTail v (more d none) raw es ps qs w same is none_is =
    folded_value m v v d raw es ps qs (suits_sound s (field.Node v) d w is.0) same (λ t e. subst (λ l. Safely (Is v) (folded m l t)) (sym none_is) e)
folds_as m (s ∷ []) Nothing (Turns (Any u) x) v (more d none) raw es ps qs w same is turns =
    folded_value m u v d raw es ps qs (suits_sound s (field.Node u) d (and_left _ _ w) is.0) same (λ t e. safely_map (Is x) (Is v) (folded m es t) (λ y. widened x v y (and_right (suits s (field.Node u)) _ w)) (turns t e))
folds_as m (s ∷ []) Nothing NoTail v none raw es ps qs w same is turns = absurd is
folds_as m (s ∷ []) Nothing NoTail v (more d (more e ds)) raw es ps qs w same is turns = absurd is.1
folds_as m (s ∷ []) Nothing (Turns (Any u) x) v none raw es ps qs w same is turns = absurd is
folds_as m (s ∷ []) Nothing (Turns (Any u) x) v (more d (more e ds)) raw es ps qs w same is turns = absurd is.1
folds_as m _ _ _ v ds raw es ps qs w same is turns = cc

pub folds_sound : (m : Maker) (a : Shape) (v : Union) (w : Work) (ps qs : List Part) → folds_fit a.front a.rest a.tail v ≡ true → ps ≡ qs → WorkIs m a w → Makes m (Values (field.Node v ∷ []) Nothing) qs (folds m w ps)
unfolding folds
folds_sound m a v w ps qs fit_is same is = folds_as m a.front a.rest a.tail v w.values w.raw w.endings ps qs fit_is same is.values is.endings

-- a statement of an expression alone
abbrev pub is_no_tail : Tail → Bool
is_no_tail NoTail = true
is_no_tail _ = false

pub none_behind : (m : Maker) (x : Tail) (es : List Ending) → is_no_tail x ≡ true → AreEndings m x es → es ≡ []
none_behind m NoTail es e is = is
none_behind m _ es e is = cc

abbrev pub is_nothing : Rest → Bool
is_nothing Nothing = true
is_nothing _ = false

pub exactly : (ss : List Sort) (q : Rest) (ts : List FieldType) (ds : Data) → (is_nothing q && suit ss ts) ≡ true → Holds ss q ds → fit ts ds ≡ true
exactly ss Nothing ts ds w is = suit_sound ss ts ds w is
exactly ss _ ts ds w is = cc

statement_as : (m : Maker) → IsMaker m → (v : Union) (b : Bool) (w : Work) (ps qs : List Part) → b ≡ true → within (unions.One kinds.ExpressionStatement) v ≡ true → fit (fields kinds.ExpressionStatement) w.values ≡ true → ps ≡ qs
    → Makes m (Values (field.Node v ∷ []) Nothing) qs (cond b (m kinds.ExpressionStatement w.values >>= λ t. with_values (one (child t)) w.raw ps) (folds m w ps))
statement_as m maker v true w ps qs e inside fitting same =
    safely_bind (Is v) (λ out. (p : Part) × (out ≡ p ∷ qs) × PartIs m (Values (field.Node v ∷ []) Nothing) p) (m kinds.ExpressionStatement w.values) _ (made_in m maker v kinds.ExpressionStatement w.values inside fitting)
    (λ t is. on_top m (Values (field.Node v ∷ []) Nothing) (parts.Values (one (child t)) w.raw) ps qs same (is, tt))
statement_as m maker v false w ps qs e inside fitting same = cc

abbrev pub statement_fit : Shape → Union → Bool
statement_fit a v = (is_nothing a.rest && suit a.front (fields kinds.ExpressionStatement)) && is_no_tail a.tail && within (unions.One kinds.ExpressionStatement) v

pub statement_sound : (m : Maker) → IsMaker m → (a : Shape) (v : Union) (w : Work) (ps qs : List Part) → statement_fit a v ≡ true → ps ≡ qs → WorkIs m a w → Makes m (Values (field.Node v ∷ []) Nothing) qs (statement m w ps)
unfolding statement
statement_sound m maker a v w ps qs fit_is same is =
    let h = three (is_nothing a.rest && suit a.front (fields kinds.ExpressionStatement)) (is_no_tail a.tail) (within (unions.One kinds.ExpressionStatement) v) fit_is in
    statement_as m maker v (length w.endings == 0) w ps qs (ap (λ l. length l == 0) (none_behind m a.tail w.endings h.1 is.endings)) h.2
    (exactly a.front a.rest (fields kinds.ExpressionStatement) w.values h.0 is.values) same

-- a property that begins with a name
abbrev pub is_names : Tail → Bool
is_names Names = true
is_names _ = false

shorthand_safe : (m : Maker) → IsMaker m → (ds : Data) → fit (field.Name ∷ []) ds ≡ true → Safely (Is unions.ObjectProperty) (shorthand m ds)
shorthand_safe m maker ds fitting =
    safely_bind (Is (unions.One kinds.IdentifierExpression)) (Is unions.ObjectProperty) (m kinds.IdentifierExpression ds) _ (made_in m maker (unions.One kinds.IdentifierExpression) kinds.IdentifierExpression ds refl fitting)
    (λ t is. made_in m maker unions.ObjectProperty kinds.ShorthandProperty (one (child t)) refl (both _ _ is refl))

text_fits : (ds : Data) → fit (field.Name ∷ []) ds ≡ true → fit (field.Text ∷ []) ds ≡ true
text_fits (more (name n) none) e = refl
text_fits _ e = cc

property_as : (m : Maker) → IsMaker m → (b : Bool) (v : Union) (ds : Data) (es : List Ending) (ps qs : List Part) → (length es == 0) ≡ b → within unions.ObjectProperty v ≡ true → fit (field.Name ∷ []) ds ≡ true → AreEndings m Names es → ps ≡ qs
    → Makes m (Values (field.Node v ∷ []) Nothing) qs (cond b (with_made (shorthand m ds) ps) (m kinds.LiteralPropertyName ds >>= λ t. with_made (folded m es t) ps))
property_as m maker true v ds es ps qs e inside fitting is same = made_on_top m v (shorthand m ds) ps qs same (safely_map (Is unions.ObjectProperty) (Is v) (shorthand m ds) (λ t. widened unions.ObjectProperty v t inside) (shorthand_safe m maker ds fitting))
property_as m maker false v ds es ps qs e inside fitting is same =
    safely_bind (Is unions.PropertyName) (λ out. (p : Part) × (out ≡ p ∷ qs) × PartIs m (Values (field.Node v ∷ []) Nothing) p) (m kinds.LiteralPropertyName ds) _ (made_in m maker unions.PropertyName kinds.LiteralPropertyName ds refl (text_fits ds fitting))
    (λ t made. made_on_top m v (folded m es t) ps qs same (safely_map (Is unions.ObjectProperty) (Is v) (folded m es t) (λ x. widened unions.ObjectProperty v x inside) (is e t made)))

abbrev pub property_fit : Shape → Union → Bool
property_fit a v = (is_nothing a.rest && suit a.front (field.Name ∷ [])) && is_names a.tail && within unions.ObjectProperty v

names_behind : (m : Maker) (x : Tail) (es : List Ending) → is_names x ≡ true → AreEndings m x es → AreEndings m Names es
names_behind m Names es e is = is
names_behind m _ es e is = cc

pub property_sound : (m : Maker) → IsMaker m → (a : Shape) (v : Union) (w : Work) (ps qs : List Part) → property_fit a v ≡ true → ps ≡ qs → WorkIs m a w → Makes m (Values (field.Node v ∷ []) Nothing) qs (property m w ps)
unfolding property
property_sound m maker a v w ps qs fit_is same is =
    let h = three (is_nothing a.rest && suit a.front (field.Name ∷ [])) (is_names a.tail) (within unions.ObjectProperty v) fit_is in
    property_as m maker (length w.endings == 0) v w.values w.endings ps qs refl h.2
    (exactly a.front a.rest (field.Name ∷ []) w.values h.0 is.values) (names_behind m a.tail w.endings h.1 is.endings) same

-- what stands around an operand as it is
abbrev pub any_operand : Operand → (Union → Bool) → Bool
any_operand (Any u) f = f u
any_operand _ f = false

abbrev pub around_fit : Rest → List Sort → List Sort → Sort → Kind → Bool
around_fit Nothing held front s k = suit (held ++ s ∷ front) (fields k)
around_fit _ held front s k = false

around_fits : (q : Rest) (held front : List Sort) (s : Sort) (k : Kind) (before behind : Data) (d : Datum) → around_fit q held front s k ≡ true → Holds held Nothing before → Holds front q behind → Fits s d → fit (fields k) (join before (more d behind)) ≡ true
around_fits Nothing held front s k before behind d w is more_is e = held_around held front s k before behind d w is more_is e
around_fits _ held front s k before behind d w is more_is e = cc

abbrev pub plain_fit : Shape → Kind → Tail → Bool
plain_fit a k x = turns_target x (λ o v. any_operand o (λ u. around_fit a.rest a.held a.front (Of (field.Node u)) k && tail_after k a.tail v))

plain_turns : (m : Maker) → IsMaker m → (a : Shape) (k : Kind) (o : Operand) (v : Union) (w : Work) → any_operand o (λ u. around_fit a.rest a.held a.front (Of (field.Node u)) k && tail_after k a.tail v) ≡ true → WorkIs m a w
    → TurnsTo m o v (endings.Around k forms.Plain w.held w.values ∷ w.endings)
plain_turns m maker a k (Any u) v w fit_is is =
    around m maker (Any u) v k forms.Plain w.held w.values w.endings
    (λ t e. plainly m (λ d. fit (fields k) (join w.held (more d w.values)) ≡ true) t (around_fits a.rest a.held a.front (Of (field.Node u)) k w.held w.values (child t) (and_left _ _ fit_is) is.held is.values e))
    (after_sound m k a.tail v w.endings (and_right (around_fit a.rest a.held a.front (Of (field.Node u)) k) _ fit_is) is.endings)
plain_turns m maker a k _ v w fit_is is = cc

plain_sound : (m : Maker) → IsMaker m → (a : Shape) (k : Kind) (x : Tail) (w : Work) → plain_fit a k x ≡ true → WorkIs m a w → AreEndings m x (endings.Around k forms.Plain w.held w.values ∷ w.endings)
plain_sound m maker a k x w fit_is is = at_turns m x _ _ fit_is (λ o v e. plain_turns m maker a k o v w e is)

-- what a value is still to be filled into
abbrev pub body_behind : List Sort
body_behind = Of (field.Node unions.Body) ∷ []

abbrev pub fill_fit : Shape → Kind → FieldType → Bool
fill_fit a k s = (is_nothing a.rest && is_no_tail a.tail) && suit ((a.held ++ Of s ∷ a.front) ++ body_behind) (fields k) && within (unions.One k) unions.Body

pub holds_nothing : (ss : List Sort) (q : Rest) (ds : Data) → is_nothing q ≡ true → Holds ss q ds → Holds ss Nothing ds
holds_nothing ss Nothing ds e is = is
holds_nothing ss _ ds e is = cc

fill_can : (m : Maker) (a : Shape) (k : Kind) (s : FieldType) (w : Work) → fill_fit a k s ≡ true → WorkIs m a w → CanFill s k w.held w.values
fill_can m a k s w fit_is is =
    let h = three (is_nothing a.rest && is_no_tail a.tail) (suit ((a.held ++ Of s ∷ a.front) ++ body_behind) (fields k)) (within (unions.One k) unions.Body) fit_is in (
      and_left (allowed unions.Body k) true h.2,
      λ d t e body.
          suit_sound ((a.held ++ Of s ∷ a.front) ++ body_behind) (fields k) (join (join w.held (more d w.values)) (more (child t) none)) h.1
          (joined (a.held ++ Of s ∷ a.front) body_behind Nothing (join w.held (more d w.values)) (more (child t) none)
          (joined a.held (Of s ∷ a.front) Nothing w.held (more d w.values) is.held (e, holds_nothing a.front a.rest w.values (and_left (is_nothing a.rest) (is_no_tail a.tail) h.0) is.values)) (body, tt)),
    )

fill_alone : (m : Maker) (a : Shape) (k : Kind) (s : FieldType) (w : Work) → fill_fit a k s ≡ true → WorkIs m a w → w.endings ≡ []
fill_alone m a k s w fit_is is =
    let h = three (is_nothing a.rest && is_no_tail a.tail) (suit ((a.held ++ Of s ∷ a.front) ++ body_behind) (fields k)) (within (unions.One k) unions.Body) fit_is in
    none_behind m a.tail w.endings (and_right (is_nothing a.rest) (is_no_tail a.tail) h.0) is.endings

abbrev pub ends_fit : Shape → Kind → Tail → Bool
ends_fit a k (Fills s) = fill_fit a k s
ends_fit a k Binds = fill_fit a k (field.Node unions.ForTarget)
ends_fit a k x = plain_fit a k x

ends_are : (m : Maker) → IsMaker m → (a : Shape) (k : Kind) (x : Tail) (w : Work) → ends_fit a k x ≡ true → WorkIs m a w → AreEndings m x (endings.Around k forms.Plain w.held w.values ∷ w.endings)
ends_are m maker a k (Fills s) w fit_is is = subst (λ l. OneOf (Filling s) (endings.Around k forms.Plain w.held w.values ∷ l)) (sym (fill_alone m a k s w fit_is is)) (fill_can m a k s w fit_is is)
ends_are m maker a k Binds w fit_is is = subst (λ l. OneOf Binding (endings.Around k forms.Plain w.held w.values ∷ l)) (sym (fill_alone m a k (field.Node unions.ForTarget) w fit_is is)) (fill_can m a k (field.Node unions.ForTarget) w fit_is is)
ends_are m maker a k NoTail w fit_is is = cc
ends_are m maker a k (Turns o v) w fit_is is = plain_sound m maker a k (Turns o v) w fit_is is
ends_are m maker a k Names w fit_is is = plain_sound m maker a k Names w fit_is is

pub endings_on_top : (m : Maker) (x : Tail) (es : List Ending) (ps qs : List Part) → ps ≡ qs → AreEndings m x es → Makes m (Endings x) qs (with_endings es ps)
endings_on_top m x es ps qs same is = on_top m (Endings x) (parts.Endings es) ps qs same is

pub ends_sound : (m : Maker) → IsMaker m → (a : Shape) (k : Kind) (x : Tail) (w : Work) (ps qs : List Part) → ends_fit a k x ≡ true → ps ≡ qs → WorkIs m a w → Makes m (Endings x) qs (ends k forms.Plain w ps)
ends_sound m maker a k x w ps qs fit_is same is = endings_on_top m x _ ps qs same (ends_are m maker a k x w fit_is is)

-- what stands around the parameters of an arrow function
a_parameter : (m : Maker) → IsMaker m → (n : ℕ) → Safely (Is (unions.One kinds.FormalParameters)) (one_parameter m n)
a_parameter m maker n =
    safely_bind (Is (unions.One kinds.BindingIdentifier)) (Is (unions.One kinds.FormalParameters)) (m kinds.BindingIdentifier (one (name n))) _ (made_in m maker (unions.One kinds.BindingIdentifier) kinds.BindingIdentifier (one (name n)) refl refl)
    (λ b is. made_in m maker (unions.One kinds.FormalParameters) kinds.FormalParameters (two (listed (one (child b))) absent) refl
    (both _ _ (both _ _ (widened (unions.One kinds.BindingIdentifier) unions.Parameter b refl is) refl) refl))

pub other_kind : (j k : Kind) (n : ℕ) → number j ≡ n → eqb n (number k) ≡ false → same_kind j k ≡ false
other_kind j k n e other = ap (λ x. eqb x (number k)) e ∙ other

pub kind_is : (k : Kind) (t : Tree) → Is (unions.One k) t → number k ≡ number (kind_of t)
kind_is k t is = eqb-true (number k) (number (kind_of t)) (or_none (same_kind k (kind_of t)) (and_left (allowed (unions.One k) (kind_of t)) (typed t) is))

no_identifier : (b : Bool) (o : Option ℕ) → b ≡ false → cond b o None ≡ None
no_identifier true o e = cc
no_identifier false o e = refl

of_parameters : (t : Tree) → Is (unions.One kinds.FormalParameters) t → identifier t ≡ None
of_parameters (branch k ds) is = no_identifier (same_kind k kinds.IdentifierExpression) _ (other_kind k kinds.IdentifierExpression (number kinds.FormalParameters) (sym (kind_is kinds.FormalParameters (branch k ds) is)) refl)

pub parameters_safe : (m : Maker) → IsMaker m → (t : Tree) → IsOperand Head t → Safely (Is (unions.One kinds.FormalParameters)) (parameters_of m t)
unfolding parameters_of
parameters_safe m maker t (inl (is, (n, e))) = subst (λ o. Safely (Is (unions.One kinds.FormalParameters)) (parameters_or m t o)) (sym e) (a_parameter m maker n)
parameters_safe m maker t (inr is) = subst (λ o. Safely (Is (unions.One kinds.FormalParameters)) (parameters_or m t o)) (sym (of_parameters t is)) is

as_parameters : (m : Maker) → IsMaker m → (P : Datum → Type 0) (t : Tree) → IsOperand Head t → ((p : Tree) → Is (unions.One kinds.FormalParameters) p → P (child p)) → Safely P (stands m forms.Parameters t)
unfolding stands
as_parameters m maker P t is next = safely_bind (Is (unions.One kinds.FormalParameters)) P (parameters_of m t) _ (parameters_safe m maker t is) next

contents_safe : (m : Maker) → IsMaker m → (p : Tree) (body : Data) → Is (unions.One kinds.FormalParameters) p → Holds (Of all_statements ∷ []) Nothing body → Safely (Is (unions.One kinds.FunctionContents)) (contents_of m p body)
unfolding contents_of
contents_safe m maker p body is holds =
    safely_bind (Is (unions.One kinds.AssertedParameterScope)) (Is (unions.One kinds.FunctionContents)) (m kinds.AssertedParameterScope no_parameter_names) _ (made_in m maker (unions.One kinds.AssertedParameterScope) kinds.AssertedParameterScope no_parameter_names refl refl)
    (λ scope is_scope. safely_bind (Is (unions.One kinds.AssertedVarScope)) (Is (unions.One kinds.FunctionContents)) (m kinds.AssertedVarScope no_names) _ (made_in m maker (unions.One kinds.AssertedVarScope) kinds.AssertedVarScope no_names refl refl)
    (λ vars are_vars. made_in m maker (unions.One kinds.FunctionContents) kinds.FunctionContents (more (child scope) (more (child p) (more (child vars) body))) refl
    (suit_sound (Of (a_node kinds.AssertedParameterScope) ∷ Of (a_node kinds.FormalParameters) ∷ Of (a_node kinds.AssertedVarScope) ∷ Of all_statements ∷ []) (fields kinds.FunctionContents) (more (child scope) (more (child p) (more (child vars) body))) refl (is_scope, (is, (are_vars, holds))))))

as_contents : (m : Maker) → IsMaker m → (P : Datum → Type 0) (body : Data) (t : Tree) → IsOperand Head t → Holds (Of all_statements ∷ []) Nothing body → ((p : Tree) → Is (unions.One kinds.FunctionContents) p → P (child p)) → Safely P (stands m (forms.Contents body) t)
unfolding stands
as_contents m maker P body t is holds next =
    safely_bind (Is (unions.One kinds.FormalParameters)) P (parameters_of m t) _ (parameters_safe m maker t is)
    (λ p e. safely_bind (Is (unions.One kinds.FunctionContents)) P (contents_of m p body) _ (contents_safe m maker p body e holds) next)

as_label : (m : Maker) (P : Datum → Type 0) (t : Tree) → IsOperand OneName t → ((n : ℕ) → P (name n)) → Safely P (stands m forms.Label t)
unfolding stands
as_label m P t (is, (n, e)) next = subst (λ o. Safely P (there o >>= λ n. Ok (name n))) (sym e) (next n)

abbrev pub heads_fit : Shape → Kind → Tail → Bool
heads_fit a k x = turns_target x (λ o v. operand_within o Head && around_fit a.rest a.held a.front (Of (a_node kinds.FormalParameters)) k && tail_after k a.tail v)

pub heads_sound : (m : Maker) → IsMaker m → (a : Shape) (k : Kind) (x : Tail) (w : Work) (ps qs : List Part) → heads_fit a k x ≡ true → ps ≡ qs → WorkIs m a w → Makes m (Endings x) qs (ends k forms.Parameters w ps)
heads_sound m maker a k x w ps qs fit_is same is =
    endings_on_top m x (endings.Around k forms.Parameters w.held w.values ∷ w.endings) ps qs same (at_turns m x _ _ fit_is (λ o v e.
    let h = three (operand_within o Head) (around_fit a.rest a.held a.front (Of (a_node kinds.FormalParameters)) k) (tail_after k a.tail v) e in
    around m maker o v k forms.Parameters w.held w.values w.endings
    (λ t operand. as_parameters m maker (λ d. fit (fields k) (join w.held (more d w.values)) ≡ true) t (operand_sound o Head t h.0 operand) (λ p e. around_fits a.rest a.held a.front (Of (a_node kinds.FormalParameters)) k w.held w.values (child p) h.1 is.held is.values e))
    (after_sound m k a.tail v w.endings h.2 is.endings)))

abbrev pub label_fit : Shape → Kind → Tail → Bool
label_fit a k x = turns_target x (λ o v. operand_within o OneName && around_fit a.rest a.held a.front (Of field.Text) k && tail_after k a.tail v)

pub label_sound : (m : Maker) → IsMaker m → (a : Shape) (k : Kind) (x : Tail) (w : Work) (ps qs : List Part) → label_fit a k x ≡ true → ps ≡ qs → WorkIs m a w → Makes m (Endings x) qs (ends k forms.Label w ps)
label_sound m maker a k x w ps qs fit_is same is =
    endings_on_top m x (endings.Around k forms.Label w.held w.values ∷ w.endings) ps qs same (at_turns m x _ _ fit_is (λ o v e.
    let h = three (operand_within o OneName) (around_fit a.rest a.held a.front (Of field.Text) k) (tail_after k a.tail v) e in
    around m maker o v k forms.Label w.held w.values w.endings
    (λ t operand. as_label m (λ d. fit (fields k) (join w.held (more d w.values)) ≡ true) t (operand_sound o OneName t h.0 operand) (λ n. around_fits a.rest a.held a.front (Of field.Text) k w.held w.values (name n) h.1 is.held is.values refl))
    (after_sound m k a.tail v w.endings h.2 is.endings)))

abbrev pub arrow_fit : Shape → Tail → Bool
arrow_fit a x = turns_target x (λ o v. operand_within o Head && (is_nothing a.rest && suit a.front (all_statements ∷ [])) && within (unions.One kinds.EagerArrowExpressionWithFunctionBody) v)

pub one_list : (t : FieldType) (ds : Data) → fit (t ∷ []) ds ≡ true → Holds (Of t ∷ []) Nothing ds
one_list t none e = cc
one_list t (more d none) e = (and_left (fits t d) true e, tt)
one_list t (more d (more f ds)) e = let no : false ≡ true = and_right (fits t d) false e in cc

pub arrow_sound : (m : Maker) → IsMaker m → (a : Shape) (x : Tail) (w : Work) (ps qs : List Part) → arrow_fit a x ≡ true → ps ≡ qs → WorkIs m a w → Makes m (Endings x) qs (arrow_body w ps)
unfolding arrow_body
arrow_sound m maker a x w ps qs fit_is same is =
    endings_on_top m x (endings.Around kinds.EagerArrowExpressionWithFunctionBody (forms.Contents w.values) (one (listed w.directives)) none ∷ []) ps qs same (at_turns m x _ _ fit_is (λ o v e.
    let h = three (operand_within o Head) (is_nothing a.rest && suit a.front (all_statements ∷ [])) (within (unions.One kinds.EagerArrowExpressionWithFunctionBody) v) e in
    around m maker o v kinds.EagerArrowExpressionWithFunctionBody (forms.Contents w.values) (one (listed w.directives)) none []
    (λ t operand. as_contents m maker (λ d. fit (fields kinds.EagerArrowExpressionWithFunctionBody) (join (one (listed w.directives)) (more d none)) ≡ true) w.values t (operand_sound o Head t h.0 operand)
    (one_list all_statements w.values (exactly a.front a.rest (all_statements ∷ []) w.values h.1 is.values)) (λ p e. both _ _ is.directives (both _ _ e refl)))
    (after_sound m kinds.EagerArrowExpressionWithFunctionBody NoTail v [] h.2 refl)))
