-- Why each step gathers what is found for it.
use Rattle.std.proofs.Common.{◌≡◌, Bool, true, false, ◌&&◌, ◌||◌, List, [], ◌∷◌, ◌++◌, Option, Some, None, Result, Ok, Err, inl, inr, refl, sym, ap, ◌∙◌, subst, get_or}
use Rattle.std.specs.List.{list_all}
use Rattle.std.proofs.lemmas.Bool.{eq-eqb, eqb-true}
use Rattle.bast_base.specs.declared.errors.NameId.{NameId}
use Rattle.bast_schema.specs.declared.kind.EnumId.TheVariants as sets
use Rattle.bast_schema.specs.declared.kind.FieldType.{FieldType}
use Rattle.bast_schema.specs.declared.kind.FieldType.TheVariants as field
use Rattle.bast_schema.specs.declared.kind.Kind.{Kind}
use Rattle.bast_schema.specs.declared.kind.Kind.TheVariants as kinds
use Rattle.bast_schema.specs.declared.kind.Union.{Union}
use Rattle.bast_schema.specs.declared.kind.Union.TheVariants as unions
use Rattle.bast_schema.specs.Fields.{fields}
use Rattle.bast_schema.specs.Kinds.{same_kind, number}
use Rattle.bast_schema.specs.Counts.{join}
use Rattle.bast_schema.specs.Tree.{Tree, branch, Datum, child, absent, listed, flag, whole, name, no_name, choice, Data, none, more, fits, fit, items_fit}
use Rattle.js_grammar.specs.declared.class.Class.{Class}
use Rattle.js_grammar.specs.declared.class.Class.TheVariants as classes
use Rattle.js_grammar.specs.declared.symbols.Terminal.{Terminal}
use Rattle.js_grammar.specs.Classes.{classes_of, takes_class, is_among, same_class, number_of}
use Rattle.js_grammar.proofs.Each.{all_classes}
use Rattle.js_tree.specs.Nodes.{Maker, one, two, no_names, no_parameter_names, statements, behind_directives, behind_directive, directives, directives_from, ended, folded}
use Rattle.js_tree.specs.Operators.{operator}
use Rattle.js_tree.specs.Parts.{one_value, first_value, taken_leaf, taken_values, taken_endings, taken_items}
use Rattle.js_tree.specs.Results.{◌>>=◌, there}
use Rattle.js_tree.specs.Steps.{Gathered, step_on, gathered, skip, put, operand, wrap, text, number as number_in, whole_number, named, quoted, with_operator, parameter, parameter_of, template_part, tail, rest, with_statements, body, hold, resume, closed, with_value, with_node}
use Rattle.js_tree.specs.declared.fault.Fault.{Fault}
use Rattle.js_tree.specs.declared.fault.Fault.TheVariants as faults
use Rattle.js_tree.specs.declared.leaf.Leaf.{Leaf}
use Rattle.js_tree.specs.declared.parts.Part.{Part}
use Rattle.js_tree.specs.declared.parts.Part.TheVariants as parts
use Rattle.js_tree.specs.declared.parts.Ending.{Ending}
use Rattle.js_tree.specs.declared.parts.Item.{Item}
use Rattle.js_tree.specs.declared.recipe.Step.{Step}
use Rattle.js_tree.specs.declared.recipe.Step.TheVariants as steps
use Rattle.js_tree.specs.declared.work.Work.{Work}
use Rattle.js_tree_laws.proofs.Sorts.{Sort, Of, Missing, Empty, Fits, Rest, Nothing, Holds, Tail, NoTail, Turns, Any, PartSort, Token, Values, Endings, Items, AreEndings, AreItems, Is, IsMaker, Safely, TurnsTo, Operand, within, suits, wrapped, sorts_of, tells_text, is_number, is_operator, IsToken, LeafIs}
use Rattle.js_tree_laws.proofs.Shapes.{and_left, and_right, both, either, joined, suits_sound, suit_sound, wrapped_sound}
use Rattle.js_tree_laws.proofs.Gathers.{Shape, WorkIs, PartsAre, Checked, guard, add_on, add, add_one, a_node, skips, wraps_to, takes_token, join_tail, tails_to, holds_on, closes_on, step_shape, option_then, gathers, all_directives, all_statements, on_values, on_one, on_token, on_endings, on_items, pieces_to}

-- what is done is as it is found, where something is found
abbrev pub Reached : Maker → List Part → Checked → Gathered → Type 0
Reached m qs None r = Unit {0}
Reached m qs (Some x) r = Safely (λ y. WorkIs m x.0 y.0 × PartsAre m x.1 y.1 qs) r

too_deep : (m : Maker) (qs : List Part) (o : Checked) → Reached m qs o (Err faults.TooDeep)
too_deep m qs None = tt
too_deep m qs (Some x) = tt

guarded : (m : Maker) (qs : List Part) (b : Bool) (o : Checked) (r : Gathered) → (b ≡ true → Reached m qs o r) → Reached m qs (guard b o) r
guarded m qs true o r f = f refl
guarded m qs false o r f = tt

-- what comes of something that is safe
safe_then : {A : Type 0} (P : A → Type 0) (m : Maker) (qs : List Part) (o : Checked) (r : Result A Fault) (f : A → Gathered) → Safely P r → ((x : A) → P x → Reached m qs o (f x)) → Reached m qs o (r >>= f)
safe_then P m qs o (Ok x) f is next = next x is
safe_then P m qs o (Err faults.TooDeep) f is next = too_deep m qs o
safe_then P m qs o (Err _) f is next = absurd is

told : {A : Type 0} (m : Maker) (qs : List Part) (o : Checked) (x : Option A) (a : A) (f : A → Gathered) → x ≡ Some a → Reached m qs o (f a) → Reached m qs o (there x >>= f)
told m qs o x a f e is = subst (λ y. Reached m qs o (there y >>= f)) (sym e) is

-- classes are known by their numbers
in_place : (c : Class) → get_or all_classes (number_of c) classes.End ≡ c
in_place classes.End = refl
in_place _ = refl

pub same_classes : (c k : Class) → same_class c k ≡ true → c ≡ k
same_classes c k e = sym (in_place c) ∙ ap (λ n. get_or all_classes n classes.End) (eqb-true (number_of c) (number_of k) e) ∙ in_place k

pub or_none : (b : Bool) → (b || false) ≡ true → b ≡ true
or_none true e = refl
or_none false e = e

pub among_one : (c k : Class) → is_among c (k ∷ []) ≡ true → c ≡ k
among_one c k e = same_classes c k (or_none (same_class c k) e)

pub among_all : (p : Class → Bool) (ks : List Class) (c : Class) → is_among c ks ≡ true → list_all p ks ≡ true → p c ≡ true
among_all p [] c some all = absurd (let e : false ≡ true = some in cc)
among_all p (k ∷ ks) c some all =
    elim (either (same_class c k) _ some) [
      | inl e ↦ ap p (same_classes c k e) ∙ and_left (p k) _ all
      | inr e ↦ among_all p ks c e (and_right (p k) _ all)
    ]

pub taken_is : (p : Class → Bool) (t : Terminal) (c : Class) → takes_class t c ≡ true → list_all p (classes_of t) ≡ true → p c ≡ true
taken_is p t c some all = among_all p (classes_of t) c some all

add_sound_on : (m : Maker) (qs : List Part) (q : Rest) (a : Shape) (ts : List Sort) (r : Rest) (ss : List PartSort) (w : Work) (raw : Option NameId) (es : Data) (ps : List Part)
    → Holds a.front q w.values → WorkIs m a w → Holds ts r es → PartsAre m ss ps qs
    → Reached m qs (add_on q ts r a ss) (Ok (record w { values = join w.values es; raw = raw }, ps))
add_sound_on m qs Nothing a ts r ss w raw es ps holds is more_is rest_is =
    (record { values = joined a.front ts r w.values es holds more_is; held = is.held; directives = is.directives; endings = is.endings; items = is.items }, rest_is)
add_sound_on m qs _ a ts r ss w raw es ps holds is more_is rest_is = tt

add_sound : (m : Maker) (qs : List Part) (a : Shape) (ts : List Sort) (r : Rest) (ss : List PartSort) (w : Work) (raw : Option NameId) (es : Data) (ps : List Part)
    → WorkIs m a w → Holds ts r es → PartsAre m ss ps qs
    → Reached m qs (add ts r a ss) (Ok (record w { values = join w.values es; raw = raw }, ps))
add_sound m qs a ts r ss w raw es ps is more_is rest_is = add_sound_on m qs a.rest a ts r ss w raw es ps is.values is more_is rest_is

one_added : (m : Maker) (qs : List Part) (a : Shape) (s : Sort) (ss : List PartSort) (w : Work) (raw : Option NameId) (d : Datum) (ps : List Part)
    → WorkIs m a w → Fits s d → PartsAre m ss ps qs
    → Reached m qs (add (s ∷ []) Nothing a ss) (Ok (record w { values = join w.values (one d); raw = raw }, ps))
one_added m qs a s ss w raw d ps is fit rest_is = add_sound m qs a (s ∷ []) Nothing ss w raw (one d) ps is (fit, tt) rest_is

-- a node of a kind is of the union of that kind
pub self_within : (k : Kind) → within (unions.One k) (unions.One k) ≡ true
self_within k = within_self (same_kind k k) (eq-eqb (number k) (number k) refl)
  where
    within_self : (b : Bool) → b ≡ true → ((b || false) && true) ≡ true
    within_self true e = refl
    within_self false e = e

made_is : (k : Kind) (ds : Data) → fit (fields k) ds ≡ true → Is (unions.One k) (branch k ds)
made_is k ds e = both _ _ (and_left _ true (self_within k)) e

node_added : (m : Maker) (qs : List Part) → IsMaker m → (k : Kind) (ds : Data) (a : Shape) (ss : List PartSort) (w : Work) (raw : Option NameId) (ps : List Part)
    → fit (fields k) ds ≡ true → WorkIs m a w → PartsAre m ss ps qs
    → Reached m qs (add_one (a_node k) a ss) (m k ds >>= λ t. Ok (record w { values = join w.values (one (child t)); raw = raw }, ps))
node_added m qs maker k ds a ss w raw ps fitting is rest_is =
    safe_then (λ t. t ≡ branch k ds) m qs (add_one (a_node k) a ss) (m k ds) _ (maker k ds fitting)
    (λ t e. one_added m qs a (Of (a_node k)) ss w raw (child t) ps is (subst (Is (unions.One k)) (sym e) (made_is k ds fitting)) rest_is)

skip_sound : (m : Maker) (qs : List Part) (a : Shape) (ss : List PartSort) (w : Work) (ps : List Part) → WorkIs m a w → PartsAre m ss ps qs → Reached m qs (skips a ss) (skip w ps)
unfolding skip
skip_sound m qs a [] w ps is rest_is = tt
skip_sound m qs a (s ∷ ss) w [] is rest_is = absurd rest_is
skip_sound m qs a (s ∷ ss) w (p ∷ ps) is rest_is = (is, rest_is.1)

-- what stands on top is taken where it is of the sort that is found for it
values_taken : (m : Maker) (qs : List Part) (ss : List PartSort) (ps : List Part) (f : List FieldType → Rest → List PartSort → Checked) (g : (Data × Option NameId) × List Part → Gathered) → PartsAre m ss ps qs
    → ((ts : List FieldType) (r : Rest) (ss : List PartSort) (ds : Data) (raw : Option NameId) (ps : List Part) → Holds (sorts_of ts) r ds → PartsAre m ss ps qs → Reached m qs (f ts r ss) (g ((ds, raw), ps)))
    → Reached m qs (on_values ss f) (taken_values ps >>= g)
values_taken m qs (Values ts r ∷ ss) (parts.Values ds raw ∷ ps) f g is next = next ts r ss ds raw ps is.0 is.1
values_taken m qs (Values ts r ∷ ss) [] f g is next = absurd is
values_taken m qs (Values ts r ∷ ss) (_ ∷ ps) f g is next = absurd is.0
values_taken m qs _ ps f g is next = tt

one_taken : (m : Maker) (qs : List Part) (ss : List PartSort) (ps : List Part) (f : FieldType → List PartSort → Checked) (g : Datum → List Part → Gathered) → PartsAre m ss ps qs
    → ((s : FieldType) (ss : List PartSort) (d : Datum) (ps : List Part) → fits s d ≡ true → PartsAre m ss ps qs → Reached m qs (f s ss) (g d ps))
    → Reached m qs (on_one ss f) (taken_values ps >>= λ v. one_value v.0.0 >>= λ d. g d v.1)
one_taken m qs (Values (s ∷ []) Nothing ∷ ss) (parts.Values (more d none) raw ∷ ps) f g is next = next s ss d ps is.0.0 is.1
one_taken m qs (Values (s ∷ []) Nothing ∷ ss) (parts.Values (more d (more e es)) raw ∷ ps) f g is next = absurd is.0.1
one_taken m qs (Values (s ∷ []) Nothing ∷ ss) [] f g is next = absurd is
one_taken m qs (Values (s ∷ []) Nothing ∷ ss) (_ ∷ ps) f g is next = absurd is.0
one_taken m qs _ ps f g is next = tt

token_taken : (m : Maker) (qs : List Part) (ss : List PartSort) (ps : List Part) (f : Terminal → List PartSort → Checked) (g : Leaf × List Part → Gathered) → PartsAre m ss ps qs
    → ((t : Terminal) (ss : List PartSort) (l : Leaf) (ps : List Part) → IsToken t l → PartsAre m ss ps qs → Reached m qs (f t ss) (g (l, ps)))
    → Reached m qs (on_token ss f) (taken_leaf ps >>= g)
token_taken m qs (Token t ∷ ss) (parts.Token l ∷ ps) f g is next = next t ss l ps is.0 is.1
token_taken m qs (Token t ∷ ss) [] f g is next = absurd is
token_taken m qs (Token t ∷ ss) (_ ∷ ps) f g is next = absurd is.0
token_taken m qs _ ps f g is next = tt

endings_taken : (m : Maker) (qs : List Part) (ss : List PartSort) (ps : List Part) (f : Tail → List PartSort → Checked) (g : List Ending × List Part → Gathered) → PartsAre m ss ps qs
    → ((e : Tail) (ss : List PartSort) (es : List Ending) (ps : List Part) → AreEndings m e es → PartsAre m ss ps qs → Reached m qs (f e ss) (g (es, ps)))
    → Reached m qs (on_endings ss f) (taken_endings ps >>= g)
endings_taken m qs (Endings e ∷ ss) (parts.Endings es ∷ ps) f g is next = next e ss es ps is.0 is.1
endings_taken m qs (Endings e ∷ ss) [] f g is next = absurd is
endings_taken m qs (Endings e ∷ ss) (_ ∷ ps) f g is next = absurd is.0
endings_taken m qs _ ps f g is next = tt

items_taken : (m : Maker) (qs : List Part) (ss : List PartSort) (ps : List Part) (f : List PartSort → Checked) (g : List Item × List Part → Gathered) → PartsAre m ss ps qs
    → ((ss : List PartSort) (i : List Item) (ps : List Part) → AreItems i → PartsAre m ss ps qs → Reached m qs (f ss) (g (i, ps)))
    → Reached m qs (on_items ss f) (taken_items ps >>= g)
items_taken m qs (Items ∷ ss) (parts.Items i ∷ ps) f g is next = next ss i ps is.0 is.1
items_taken m qs (Items ∷ ss) [] f g is next = absurd is
items_taken m qs (Items ∷ ss) (_ ∷ ps) f g is next = absurd is.0
items_taken m qs _ ps f g is next = tt

-- a token that tells what is asked of it
told_taken : (m : Maker) (qs : List Part) (p : Class → Bool) (u : FieldType) (a : Shape) (ss : List PartSort) (ps : List Part) (g : Leaf × List Part → Gathered) → PartsAre m ss ps qs
    → ((c : Class) (ss : List PartSort) (l : Leaf) (ps : List Part) → p c ≡ true → LeafIs c l → PartsAre m ss ps qs → Reached m qs (add_one u a ss) (g (l, ps)))
    → Reached m qs (takes_token p u a ss) (taken_leaf ps >>= g)
told_taken m qs p u a ss ps g is next =
    token_taken m qs ss ps _ g is (λ t ss l ps tells rest_is. guarded m qs _ _ _ λ all. next tells.0 ss l ps (taken_is p t tells.0 tells.1 all) tells.2 rest_is)

wrap_sound_to : (m : Maker) (qs : List Part) (o : Option FieldType) (a : Shape) (ss : List PartSort) (w : Work) (ds : Data) (ps : List Part) → ((t : FieldType) → o ≡ Some t → fits t (listed ds) ≡ true) → WorkIs m a w → PartsAre m ss ps qs
    → Reached m qs (wraps_to o a ss) (with_value (listed ds) w ps)
wrap_sound_to m qs None a ss w ds ps e is rest_is = tt
wrap_sound_to m qs (Some t) a ss w ds ps e is rest_is = one_added m qs a (Of t) ss w w.raw (listed ds) ps is (e t refl) rest_is

pub safely_bind : {A B : Type 0} (P : A → Type 0) (Q : B → Type 0) (r : Result A Fault) (f : A → Result B Fault) → Safely P r → ((x : A) → P x → Safely Q (f x)) → Safely Q (r >>= f)
safely_bind P Q (Ok x) f is next = next x is
safely_bind P Q (Err faults.TooDeep) f is next = tt
safely_bind P Q (Err _) f is next = absurd is

pub safely_map : {A : Type 0} (P Q : A → Type 0) (r : Result A Fault) → ((x : A) → P x → Q x) → Safely P r → Safely Q r
safely_map P Q (Ok x) f is = f x is
safely_map P Q (Err faults.TooDeep) f is = tt
safely_map P Q (Err _) f is = is

pub widened : (v u : Union) (t : Tree) → within v u ≡ true → Is v t → Is u t
widened v u t w is = suits_sound (Of (field.Node v)) (field.Node u) (child t) w is

-- what is made of fields that fit is a node of each union that the kind is in
pub made_in : (m : Maker) → IsMaker m → (u : Union) (k : Kind) (ds : Data) → within (unions.One k) u ≡ true → fit (fields k) ds ≡ true → Safely (Is u) (m k ds)
made_in m maker u k ds w fitting = safely_map (λ t. t ≡ branch k ds) (Is u) (m k ds) (λ t e. widened (unions.One k) u t w (subst (Is (unions.One k)) (sym e) (made_is k ds fitting))) (maker k ds fitting)

node_put : (m : Maker) (qs : List Part) (u : Union) (r : Result Tree Fault) (a : Shape) (ss : List PartSort) (w : Work) (ps : List Part) → Safely (Is u) r → WorkIs m a w → PartsAre m ss ps qs
    → Reached m qs (add_one (field.Node u) a ss) (with_node r w ps)
node_put m qs u r a ss w ps made is rest_is = safe_then (Is u) m qs (add_one (field.Node u) a ss) r _ made (λ t e. one_added m qs a (Of (field.Node u)) ss w w.raw (child t) ps is e rest_is)

parameter_made : (m : Maker) → IsMaker m → (b : Tree) (d : Datum) → Is (unions.One kinds.BindingIdentifier) b → fits (field.Optional unions.Expression) d ≡ true → Safely (Is unions.Parameter) (parameter_of m b d)
parameter_made m maker b absent is fitting = widened (unions.One kinds.BindingIdentifier) unions.Parameter b refl is
parameter_made m maker b (child t) is fitting = made_in m maker unions.Parameter kinds.BindingWithInitializer (two (child b) (child t)) refl (both _ _ is (both _ _ fitting refl))
parameter_made m maker b _ is fitting = cc

piece_put : (m : Maker) (qs : List Part) → IsMaker m → (s : FieldType) (ts : List FieldType) (r : Rest) (a : Shape) (ss : List PartSort) (w : Work) (d : Datum) (ds : Data) (ps : List Part) → WorkIs m a w → fits s d ≡ true → Holds (sorts_of ts) r ds → PartsAre m ss ps qs
    → Reached m qs (pieces_to s ts r a ss) (first_value ds >>= λ f. m kinds.TemplatePart (two d f.0) >>= λ t. Ok (record w { values = join w.values (more (child t) f.1) }, ps))
piece_put m qs maker s [] r a ss w d ds ps is is_expression more_is rest_is = tt
piece_put m qs maker s (t ∷ ts) r a ss w d none ps is is_expression more_is rest_is = absurd more_is
piece_put m qs maker s (t ∷ ts) r a ss w d (more f fs) ps is is_expression more_is rest_is =
    guarded m qs _ _ _ λ suiting.
    safe_then (Is (unions.One kinds.TemplatePart)) m qs _ (m kinds.TemplatePart (two d f)) _
    (made_in m maker (unions.One kinds.TemplatePart) kinds.TemplatePart (two d f) refl (both _ _ (suits_sound (Of s) (field.Node unions.Expression) d (and_left _ _ suiting) is_expression) (both _ _ (suits_sound (Of t) field.Text f (and_right (suits (Of s) (field.Node unions.Expression)) _ suiting) more_is.0) refl)))
    (λ made e. add_sound m qs a (Of (a_node kinds.TemplatePart) ∷ sorts_of ts) r ss w w.raw (more (child made) fs) ps is (e, more_is.1) rest_is)

bind_twice : {A B C : Type 0} (r : Result A Fault) (f : A → Result C Fault) (g : A → Result B Fault) (h : B → Result C Fault) → ((x : A) → f x ≡ (g x >>= h)) → (r >>= f) ≡ ((r >>= g) >>= h)
bind_twice (Ok x) f g h e = e x
bind_twice (Err x) f g h e = refl

folded_behind : (m : Maker) (es fs : List Ending) (t : Tree) → folded m (es ++ fs) t ≡ (folded m es t >>= folded m fs)
folded_behind m [] fs t = refl
folded_behind m (e ∷ es) fs t = bind_twice (ended m e t) (folded m (es ++ fs)) (folded m es) (folded m fs) (folded_behind m es fs)

turns_behind : (m : Maker) (o : Operand) (v u w : Union) (es fs : List Ending) → within v u ≡ true → TurnsTo m o v es → TurnsTo m (Any u) w fs → TurnsTo m o w (es ++ fs)
turns_behind m o v u w es fs inside one_is more_is = λ t is.
    subst (Safely (Is w)) (sym (folded_behind m es fs t)) (safely_bind (Is v) (Is w) (folded m es t) (folded m fs) (one_is t is) (λ x e. more_is x (widened v u x inside e)))

turns_if : (m : Maker) (b : Bool) (o : Operand) (v u w : Union) (es fs : List Ending) (z : Tail) → within v u ≡ b → guard b (Some (Turns o w)) ≡ Some z → TurnsTo m o v es → TurnsTo m (Any u) w fs → AreEndings m z (es ++ fs)
turns_if m true o v u w es fs z inside e one_is more_is = let same : Turns o w ≡ z = cc in subst (λ x. AreEndings m x (es ++ fs)) same (turns_behind m o v u w es fs inside one_is more_is)
turns_if m false o v u w es fs z inside e one_is more_is = cc

endings_behind : (m : Maker) (x y : Tail) (es fs : List Ending) (z : Tail) → join_tail x y ≡ Some z → AreEndings m x es → AreEndings m y fs → AreEndings m z (es ++ fs)
endings_behind m NoTail y es fs z e is more_is = let same : y ≡ z = cc in subst (λ l. AreEndings m z (l ++ fs)) (sym is) (subst (λ x. AreEndings m x fs) same more_is)
endings_behind m (Turns o v) (Turns (Any u) w) es fs z e is more_is = turns_if m _ o v u w es fs z refl e is more_is
endings_behind m _ _ es fs z e is more_is = cc

tail_sound_to : (m : Maker) (qs : List Part) (o : Option Tail) (a : Shape) (ss : List PartSort) (w : Work) (es : List Ending) (ps : List Part) → ((z : Tail) → o ≡ Some z → AreEndings m z (w.endings ++ es)) → WorkIs m a w → PartsAre m ss ps qs
    → Reached m qs (tails_to o a ss) (Ok (record w { endings = w.endings ++ es }, ps))
tail_sound_to m qs None a ss w es ps e is rest_is = tt
tail_sound_to m qs (Some z) a ss w es ps e is rest_is = (record { values = is.values; held = is.held; directives = is.directives; endings = e z refl; items = is.items }, rest_is)

statements_fit : (i : List Item) → AreItems i → items_fit unions.Statement false (statements i) ≡ true
statements_fit [] is = refl
statements_fit (i ∷ is) all = both _ _ all.0 (statements_fit is all.1)

behind_one : (raw : Option NameId) (here rest : List Item) → AreItems here → AreItems rest → AreItems (behind_directive raw here rest)
behind_one None here rest is more_is = is
behind_one (Some x) here rest is more_is = more_is

behind_all : (i : List Item) → AreItems i → AreItems (behind_directives i)
behind_all [] is = tt
behind_all (i ∷ is) all = behind_one i.raw (i ∷ is) (behind_directives is) all (behind_all is all.1)

abbrev AreDirectives : Data → Type 0
AreDirectives ds = items_fit (unions.One kinds.Directive) false ds ≡ true

directive_in_front : (m : Maker) → IsMaker m → (raw : Option NameId) (rest : Result Data Fault) → Safely AreDirectives rest → Safely AreDirectives (directives_from m raw rest)
directive_in_front m maker None rest is = refl
directive_in_front m maker (Some x) rest is =
    safely_bind (Is (unions.One kinds.Directive)) AreDirectives (m kinds.Directive (one (name x.0))) _ (made_in m maker (unions.One kinds.Directive) kinds.Directive (one (name x.0)) refl refl)
    (λ t e. safely_bind AreDirectives AreDirectives rest _ is (λ ds all. both _ _ e all))

directives_safe : (m : Maker) → IsMaker m → (i : List Item) → Safely AreDirectives (directives m i)
directives_safe m maker [] = refl
directives_safe m maker (i ∷ is) = directive_in_front m maker i.raw (directives m is) (directives_safe m maker is)

hold_sound : (m : Maker) (qs : List Part) (q : Rest) (a : Shape) (ss : List PartSort) (w : Work) (ps : List Part) → Holds a.front q w.values → WorkIs m a w → PartsAre m ss ps qs → Reached m qs (holds_on q a ss) (Ok (hold w, ps))
unfolding hold
hold_sound m qs Nothing a ss w ps holds is rest_is = (record { values = tt; held = holds; directives = is.directives; endings = is.endings; items = is.items }, rest_is)
hold_sound m qs _ a ss w ps holds is rest_is = tt

close_sound : (m : Maker) (qs : List Part) → IsMaker m → (q : Rest) (k : Kind) (a : Shape) (ss : List PartSort) (w : Work) (ps : List Part) → Holds a.front q w.values → WorkIs m a w → PartsAre m ss ps qs
    → Reached m qs (closes_on q k a ss) (closed m k w >>= λ x. Ok (x, ps))
unfolding closed
close_sound m qs maker Nothing k a ss w ps holds is rest_is =
    guarded m qs _ _ _ λ suiting.
    subst (Reached m qs (Some (record a { front = Of (a_node k) ∷ []; rest = Nothing }, ss))) (bind_twice (m k w.values) _ _ _ (λ t. refl))
    (safe_then (Is (unions.One k)) m qs (Some (record a { front = Of (a_node k) ∷ []; rest = Nothing }, ss)) (m k w.values) (λ t. Ok (record w { values = one (child t) }, ps))
    (made_in m maker (unions.One k) k w.values (self_within k) (suit_sound a.front (fields k) w.values suiting holds))
    (λ t e. (record { values = (e, tt); held = is.held; directives = is.directives; endings = is.endings; items = is.items }, rest_is)))
close_sound m qs maker _ k a ss w ps holds is rest_is = tt

step_sound : (m : Maker) (qs : List Part) → IsMaker m → (s : Step) (a : Shape) (ss : List PartSort) (w : Work) (ps : List Part) → WorkIs m a w → PartsAre m ss ps qs → Reached m qs (step_shape s a ss) (step_on m s w ps)
unfolding put operand wrap text whole_number named quoted with_operator parameter template_part tail rest with_statements body resume
step_sound m qs maker steps.Skip a ss w ps is rest_is = skip_sound m qs a ss w ps is rest_is
step_sound m qs maker steps.Put a ss w ps is rest_is = values_taken m qs ss ps _ _ rest_is (λ ts r ss ds raw ps more_is rest_is. add_sound m qs a (sorts_of ts) r ss w w.raw ds ps is more_is rest_is)
step_sound m qs maker steps.Operand a ss w ps is rest_is = values_taken m qs ss ps _ _ rest_is (λ ts r ss ds raw ps more_is rest_is. add_sound m qs a (sorts_of ts) r ss w raw ds ps is more_is rest_is)
step_sound m qs maker steps.Wrap a ss w ps is rest_is = values_taken m qs ss ps _ _ rest_is (λ ts r ss ds raw ps more_is rest_is. wrap_sound_to m qs (wrapped ts r) a ss w ds ps (λ t e. wrapped_sound ts r ds t e more_is) is rest_is)
step_sound m qs maker steps.Text a ss w ps is rest_is =
    told_taken m qs tells_text field.Text a ss ps _ rest_is (λ c ss l ps e leaf rest_is. let has = leaf.told e in told m qs _ l.text has.0 _ has.1 (one_added m qs a (Of field.Text) ss w w.raw (name has.0.0) ps is refl rest_is))
step_sound m qs maker steps.Whole a ss w ps is rest_is =
    told_taken m qs is_number field.Whole a ss ps _ rest_is (λ c ss l ps e leaf rest_is.
    let has = leaf.counts e in
    subst (λ k. Reached m qs (add_one field.Whole a ss) (number_in k >>= λ n. with_value (whole n) w ps)) (sym has.1) (one_added m qs a (Of field.Whole) ss w w.raw (whole has.0) ps is has.2 rest_is))
step_sound m qs maker (steps.Named k) a ss w ps is rest_is =
    guarded m qs _ _ _ λ suiting.
    told_taken m qs tells_text (a_node k) a ss ps _ rest_is (λ c ss l ps e leaf rest_is.
    let has = leaf.told e in
    told m qs _ l.text has.0 _ has.1 (node_added m qs maker k (one (name has.0.0)) a ss w w.raw ps (suit_sound (Of field.Text ∷ []) (fields k) (one (name has.0.0)) suiting (refl, tt)) is rest_is))
step_sound m qs maker steps.Quoted a ss w ps is rest_is =
    told_taken m qs tells_text (a_node kinds.LiteralStringExpression) a ss ps _ rest_is (λ c ss l ps e leaf rest_is.
    let has = leaf.told e in
    told m qs _ l.text has.0 _ has.1 (node_added m qs maker kinds.LiteralStringExpression (one (name has.0.0)) a ss w l.raw ps refl is rest_is))
step_sound m qs maker (steps.Operator e) a ss w ps is rest_is =
    told_taken m qs (is_operator e) (field.Choice e) a ss ps _ rest_is (λ c ss l ps f leaf rest_is.
    let has = leaf.operates e f in
    told m qs _ (operator e l.kind) has.0 _ has.1 (one_added m qs a (Of (field.Choice e)) ss w w.raw (choice has.0) ps is has.2 rest_is))
step_sound m qs maker steps.Parameter a ss w ps is rest_is =
    token_taken m qs ss ps _ _ rest_is (λ t ss l ps tells rest_is.
    guarded m qs _ _ _ λ all.
    let has = tells.2.told (taken_is tells_text t tells.0 tells.1 all) in
    told m qs _ l.text has.0 _ has.1
    (safe_then (Is (unions.One kinds.BindingIdentifier)) m qs _ (m kinds.BindingIdentifier (one (name has.0.0))) _ (made_in m maker (unions.One kinds.BindingIdentifier) kinds.BindingIdentifier (one (name has.0.0)) refl refl)
    (λ b e. one_taken m qs ss ps _ (λ d ps. with_node (parameter_of m b d) w ps) rest_is (λ s ss d ps fitting rest_is.
    guarded m qs _ _ _ λ suiting. node_put m qs unions.Parameter (parameter_of m b d) a ss w ps (parameter_made m maker b d e (suits_sound (Of s) (field.Optional unions.Expression) d suiting fitting)) is rest_is))))
step_sound m qs maker steps.TemplatePart a ss w ps is rest_is =
    one_taken m qs ss ps _ (λ d ps. taken_values ps >>= λ v. first_value v.0.0 >>= λ f. m kinds.TemplatePart (two d f.0) >>= λ t. Ok (record w { values = join w.values (more (child t) f.1) }, v.1)) rest_is
    (λ s ss d ps fitting rest_is. values_taken m qs ss ps _ _ rest_is (λ ts r ss ds raw ps more_is rest_is. piece_put m qs maker s ts r a ss w d ds ps is fitting more_is rest_is))
step_sound m qs maker steps.Tail a ss w ps is rest_is =
    endings_taken m qs ss ps _ _ rest_is (λ e ss es ps more_is rest_is. tail_sound_to m qs (join_tail a.tail e) a ss w es ps (λ z same. endings_behind m a.tail e w.endings es z same is.endings more_is) is rest_is)
step_sound m qs maker steps.Rest a ss w ps is rest_is =
    items_taken m qs ss ps _ _ rest_is (λ ss i ps more_is rest_is. (record { values = is.values; held = is.held; directives = is.directives; endings = is.endings; items = more_is }, rest_is))
step_sound m qs maker steps.Statements a ss w ps is rest_is =
    items_taken m qs ss ps _ _ rest_is (λ ss i ps more_is rest_is. one_added m qs a (Of all_statements) ss w w.raw (listed (statements i)) ps is (statements_fit i more_is) rest_is)
step_sound m qs maker steps.Body a ss w ps is rest_is =
    items_taken m qs ss ps _ _ rest_is (λ ss i ps more_is rest_is.
    safe_then AreDirectives m qs _ (directives m i) _ (directives_safe m maker i)
    (λ ds all. one_added m qs a (Of all_statements) ss (record w { directives = ds }) w.raw (listed (statements (behind_directives i))) ps
    (record { values = is.values; held = is.held; directives = all; endings = is.endings; items = is.items }) (statements_fit (behind_directives i) (behind_all i more_is)) rest_is))
step_sound m qs maker steps.Absent a ss w ps is rest_is = one_added m qs a Missing ss w w.raw absent ps is refl rest_is
step_sound m qs maker steps.NoLabel a ss w ps is rest_is = one_added m qs a (Of field.Label) ss w w.raw no_name ps is refl rest_is
step_sound m qs maker steps.NoItems a ss w ps is rest_is = one_added m qs a Empty ss w w.raw (listed none) ps is refl rest_is
step_sound m qs maker (steps.Flag b) a ss w ps is rest_is = one_added m qs a (Of field.Bool) ss w w.raw (flag b) ps is refl rest_is
step_sound m qs maker (steps.Choice n) a ss w ps is rest_is = guarded m qs _ _ _ λ below. one_added m qs a (Of (field.Choice sets.LexicalKind)) ss w w.raw (choice n) ps is below rest_is
step_sound m qs maker (steps.Scope k) a ss w ps is rest_is =
    guarded m qs _ _ _ λ suiting.
    node_added m qs maker k no_names a ss w w.raw ps (suit_sound (Empty ∷ Of field.Bool ∷ []) (fields k) no_names suiting (refl, (refl, tt))) is rest_is
step_sound m qs maker steps.ParameterScope a ss w ps is rest_is = node_added m qs maker kinds.AssertedParameterScope no_parameter_names a ss w w.raw ps refl is rest_is
step_sound m qs maker steps.Hold a ss w ps is rest_is = hold_sound m qs a.rest a ss w ps is.values is rest_is
step_sound m qs maker steps.Resume a ss w ps is rest_is =
    (record { values = joined a.held (Of all_directives ∷ a.front) a.rest w.held (more (listed w.directives) w.values) is.held (is.directives, is.values); held = tt; directives = refl; endings = is.endings; items = is.items }, rest_is)
step_sound m qs maker (steps.Close k) a ss w ps is rest_is = close_sound m qs maker a.rest k a ss w ps is.values is rest_is

reached_then : (m : Maker) (qs : List Part) (o : Checked) (r : Gathered) (f : Shape × List PartSort → Checked) (g : Work × List Part → Gathered) → Reached m qs o r
    → ((x : Shape × List PartSort) (y : Work × List Part) → WorkIs m x.0 y.0 → PartsAre m x.1 y.1 qs → Reached m qs (f x) (g y)) → Reached m qs (option_then o f) (r >>= g)
reached_then m qs None r f g is next = tt
reached_then m qs (Some x) (Ok y) f g is next = next x y is.0 is.1
reached_then m qs (Some x) (Err faults.TooDeep) f g is next = too_deep m qs (f x)
reached_then m qs (Some x) (Err _) f g is next = absurd is

-- what is gathered by steps
pub gathered_sound : (m : Maker) (qs : List Part) → IsMaker m → (l : List Step) (a : Shape) (ss : List PartSort) (w : Work) (ps : List Part) → WorkIs m a w → PartsAre m ss ps qs → Reached m qs (gathers l a ss) (gathered m l w ps)
gathered_sound m qs maker [] a ss w ps is rest_is = (is, rest_is)
gathered_sound m qs maker (s ∷ l) a ss w ps is rest_is =
    reached_then m qs (step_shape s a ss) (step_on m s w ps) _ _ (step_sound m qs maker s a ss w ps is rest_is)
    (λ x y is rest_is. gathered_sound m qs maker l x.0 x.1 y.0 y.1 is rest_is)
