-- Trees with other scopes, flags or kinds are well typed, and not deeper than before, so that their nodes are made.
use Rattle.std.proofs.Common.{ℕ, List, [], ◌∷◌, ◌≡◌, Bool, true, false, refl, ap, sym, ◌&&◌, ◌||◌, ◌+◌, ◌^◌, max, not, if◌then◌else◌, Option, ◌∙◌, arith, ◌≤◌, ◌<◌, IsTrue, subst, nat_lt, Ok, map}
use Rattle.std.specs.List.{list_all, list_any}
use Rattle.std.proofs.lemmas.Bool.Decides.{nat_tests}
use Rattle.bast_schema.specs.declared.kind.Kind.{Kind}
use Rattle.bast_schema.specs.declared.kind.Kind.TheVariants.{AssertedScriptGlobalScope, AssertedVarScope, AssertedBlockScope, AssertedParameterScope, AssertedBoundNamesScope, AssertedDeclaredName, AssertedBoundName, LazyFunctionDeclaration, LazyMethod, LazyGetter, LazySetter, LazyFunctionExpression}
use Rattle.bast_schema.specs.declared.kind.Union.{Union}
use Rattle.bast_schema.specs.declared.kind.Union.TheVariants.{ParameterName, One}
use Rattle.bast_schema.specs.declared.kind.FieldType.{FieldType}
use Rattle.bast_schema.specs.declared.kind.FieldType.TheVariants as field
use Rattle.bast_schema.specs.Fields.{fields}
use Rattle.bast_schema.specs.Unions.{allowed, kinds_in}
use Rattle.bast_schema.specs.Kinds.{counted, same_kind}
use Rattle.bast_schema.specs.Made.{node_of}
use Rattle.bast_schema.specs.Counts.{size, size_at, size_in, is_whole, is_whole_at, is_whole_in}
use Rattle.bast_schema.specs.Tree.{Tree, branch, Datum, child, listed, flag, name, window, Data, none, more, typed, fits, fit, items_fit, item_type, is_none, depth, depth_at, depth_in, kind_of}
use Rattle.bast_schema.proofs.Both.{and_first, and_second}
use Rattle.bast_schema.proofs.Typed.{made_where_fit, allowed_one}
use Rattle.scope_facts.specs.declared.names.NameKind.{NameKind}
use Rattle.scope_facts.specs.declared.names.NameKind.TheVariants.{Var, Lexical, Constant}
use Rattle.scope_facts.specs.declared.roles.Shape.{Shape}
use Rattle.scope_facts.specs.declared.roles.Shape.TheVariants as shape
use Rattle.scope_facts.specs.Roles.{part, is_scope_part, shape_of}
use Rattle.scope_facts.specs.Uses.{is_scope}
use Rattle.scope_facts.specs.Names.{kind_choice, bound}
use Rattle.scope_facts.specs.Bare.{eager, empty_fields, bare, bare_in}
use Rattle.scope_facts.specs.Entries.{entries, flags, flags_by, is_simple}
use Rattle.scope_facts.specs.Filled.{filled, filled_in}
use Rattle.scope_facts.specs.Flagged.{with_flag, fields_by, flagged, flagged_in}
use Rattle.scope_facts.proofs.Clean.{none_of, not_true, not_false, typed_clean}
use Rattle.scope_facts.proofs.Like.{Change, kind_by, LikeAt, in_scope, in_node, in_list, a_name, a_flag, a_window, LikeIn, end, next}
use Rattle.scope_facts.proofs.Maps.{emptying, bare_like}
use Rattle.scope_facts.proofs.NamesKept.{Entered, entries_entered, all_entered, le_self, implied, filling, any_filled_in, flags_alone, with_flag_like, fields_by_like, only_flags, any_flagged}

-- what stands in the place of a lazy field where kinds are made eager
abbrev pub type_by : Bool → FieldType → FieldType
type_by b (field.Lazy u) = if b then field.Node u else field.Lazy u
type_by b t = t

-- a union that has the eager kind beside each lazy one
abbrev pub is_fair : Union → Bool
is_fair (One k) = same_kind k (eager k)
is_fair _ = true

abbrev pub is_fair_type : FieldType → Bool
is_fair_type (field.Node u) = is_fair u
is_fair_type (field.Optional u) = is_fair u
is_fair_type (field.List u holes filled) = is_fair u
is_fair_type (field.Lazy u) = is_fair u
is_fair_type _ = true

fields_fair : (k : Kind) → list_all is_fair_type (fields k) ≡ true
fields_fair LazyMethod = refl
fields_fair _ = refl

same_types : (ts : List FieldType) → ts ≡ map (type_by false) ts
same_types [] = refl
same_types (field.Lazy u ∷ ts) = ap (λ us. field.Lazy u ∷ us) (same_types ts)
same_types (t ∷ ts) = ap (λ us. t ∷ us) (same_types ts)

types_by : (b : Bool) (k : Kind) → fields (kind_by b k) ≡ map (type_by b) (fields k)
types_by true LazyFunctionDeclaration = refl
types_by true LazyMethod = refl
types_by true LazyGetter = refl
types_by true LazySetter = refl
types_by true LazyFunctionExpression = refl
types_by true _ = refl
types_by false k = same_types (fields k)

counted_by : (b : Bool) (k : Kind) → counted (kind_by b k) ≡ counted k
counted_by true LazyFunctionDeclaration = refl
counted_by true LazyMethod = refl
counted_by true LazyGetter = refl
counted_by true LazySetter = refl
counted_by true LazyFunctionExpression = refl
counted_by true _ = refl
counted_by false k = refl

each_eager : (u : Union) (k : Kind) → not (list_any (λ j. not (allowed u (eager j))) (kinds_in u)) ≡ true → allowed u k ≡ true → allowed u (eager k) ≡ true
each_eager u k e h = not_false (allowed u (eager k)) (none_of (λ j. not (allowed u (eager j))) (kinds_in u) k h (not_true (list_any (λ j. not (allowed u (eager j))) (kinds_in u)) e))

allowed_by : (b : Bool) (u : Union) (k : Kind) → is_fair u ≡ true → allowed u k ≡ true → allowed u (kind_by b k) ≡ true
allowed_by false u k f h = h
allowed_by true (One j) k f h = let e : j ≡ k = allowed_one j k h in rw (← e, f) refl
allowed_by true u k f h = each_eager u k refl h

-- the types of values

child_fits : (b : Bool) (t : FieldType) (u v : Tree) → is_fair_type t ≡ true → ((w : Union) → is_fair w ≡ true → allowed w (kind_of u) ≡ true → allowed w (kind_of v) ≡ true) → (typed u ≡ true → typed v ≡ true)
    → fits t (child u) ≡ true → fits (type_by b t) (child v) ≡ true
child_fits b (field.Node w) u v r k h f = implied (allowed w (kind_of u)) (typed u) (allowed w (kind_of v)) (typed v) (k w r) h f
child_fits b (field.Optional w) u v r k h f = implied (allowed w (kind_of u)) (typed u) (allowed w (kind_of v)) (typed v) (k w r) h f
child_fits true (field.Lazy w) u v r k h f = implied (allowed w (kind_of u)) (typed u) (allowed w (kind_of v)) (typed v) (k w r) h f
child_fits false (field.Lazy w) u v r k h f = implied (allowed w (kind_of u)) (typed u) (allowed w (kind_of v)) (typed v) (k w r) h f
child_fits b _ u v r k h f = cc

list_fits : (b : Bool) (t : FieldType) (ds es : Data) → is_none es ≡ is_none ds → is_fair_type t ≡ true → ((u : Union) (holes : Bool) → is_fair u ≡ true → items_fit u holes ds ≡ true → items_fit u holes es ≡ true)
    → fits t (listed ds) ≡ true → fits (type_by b t) (listed es) ≡ true
list_fits b (field.List u holes filled) ds es n r h f = rw n (implied (not filled || not (is_none ds)) (items_fit u holes ds) (not filled || not (is_none ds)) (items_fit u holes es) (λ a. a) (h u holes r) f)
list_fits b _ ds es n r h f = cc

name_fits : (b : Bool) (t : FieldType) (n m : ℕ) → fits t (name n) ≡ true → fits (type_by b t) (name m) ≡ true
name_fits b field.Text n m h = refl
name_fits b field.Name n m h = refl
name_fits b field.Label n m h = refl
name_fits b _ n m h = cc

flag_fits : (a : Bool) (t : FieldType) (b c : Bool) → fits t (flag b) ≡ true → fits (type_by a t) (flag c) ≡ true
flag_fits a field.Bool b c h = refl
flag_fits a _ b c h = cc

window_fits : (b : Bool) (t : FieldType) (m n : ℕ) → (b ≡ true → false ≡ true) → fits t (window m n) ≡ true → fits (type_by b t) (window m n) ≡ true
window_fits true t m n w h = let e : false ≡ true = w refl in cc
window_fits false (field.Lazy u) m n w h = h
window_fits false _ m n w h = h

leaf_fits : (b : Bool) (t : FieldType) (d : Datum) → ((u : Union) → fits (field.Lazy u) d ≡ false) → fits t d ≡ true → fits (type_by b t) d ≡ true
leaf_fits b (field.Lazy u) d e h = let f : fits (field.Lazy u) d ≡ false = e u in cc
leaf_fits b _ d e h = h

item_by : (b : Bool) (u : Union) (holes : Bool) → type_by b (item_type u holes) ≡ item_type u holes
item_by b u true = refl
item_by b u false = refl

item_fair : (u : Union) (holes : Bool) → is_fair u ≡ true → is_fair_type (item_type u holes) ≡ true
item_fair u true h = h
item_fair u false h = h

none_like : {m : Change} {ds es : Data} → LikeIn m ds es → is_none es ≡ is_none ds
none_like end = refl
none_like (next c d cs ds h l) = refl

-- a map whose scopes have no depth
abbrev pub Flat : Change → Type 0
Flat m = (k : Kind) (ds es : Data) → m.scopes k ds es → depth_in es ≡ 0

-- the same, and the scopes stay well typed
pub record Sound (m : Change) : Type 0 where
  pub fields_fit : (k : Kind) (ds es : Data) → is_scope_part (part k) ≡ true → m.scopes k ds es → fit (fields k) ds ≡ true → fit (fields k) es ≡ true
  pub flat : Flat m

-- where kinds are made eager, the tree has no windows
mutual
  fits_like : {m : Change} → Sound m → {c d : Datum} → LikeAt m c d → (t : FieldType) → is_fair_type t ≡ true → (m.eagerly ≡ true → is_whole_at c ≡ true) → fits t c ≡ true → fits (type_by m.eagerly t) d ≡ true
  fits_like {m} p (in_scope k ds es s o) t r w h = child_fits m.eagerly t (branch k ds) (branch k es) r (λ u f a. a) (p.fields_fit k ds es s o) h
  fits_like {m} p (in_node k ds es l) t r w h = child_fits m.eagerly t (branch k ds) (branch (kind_by m.eagerly k) es) r (λ u. allowed_by m.eagerly u k) (λ g. ap (λ ts. fit ts es) (types_by m.eagerly k) ∙ fit_like p l (fields k) (fields_fair k) w g) h
  fits_like {m} p (in_list ds es l) t r w h = list_fits m.eagerly t ds es (none_like l) r (λ u holes f. items_like p l u holes f w) h
  fits_like {m} p (a_name n i) t r w h = name_fits m.eagerly t n (m.number n) h
  fits_like {m} p (a_flag b c i) t r w h = flag_fits m.eagerly t b c h
  fits_like {m} p (a_window a b) t r w h = window_fits m.eagerly t a b w h
  fits_like {m} p {c = c} _ t r w h = leaf_fits m.eagerly t c (λ u. refl) h

  pub fit_like : {m : Change} → Sound m → {ds es : Data} → LikeIn m ds es → (ts : List FieldType) → list_all is_fair_type ts ≡ true → (m.eagerly ≡ true → is_whole_in ds ≡ true) → fit ts ds ≡ true → fit (map (type_by m.eagerly) ts) es ≡ true
  fit_like p end [] r w h = refl
  fit_like p end (t ∷ ts) r w h = cc
  fit_like p (next c d cs ds f l) [] r w h = cc
  fit_like {m} p (next c d cs ds f l) (t ∷ ts) r w h = implied (fits t c) (fit ts cs) (fits (type_by m.eagerly t) d) (fit (map (type_by m.eagerly) ts) ds)
      (fits_like p f t (and_first (is_fair_type t) (list_all is_fair_type ts) r) (λ e. and_first (is_whole_at c) (is_whole_in cs) (w e)))
      (fit_like p l ts (and_second (is_fair_type t) (list_all is_fair_type ts) r) (λ e. and_second (is_whole_at c) (is_whole_in cs) (w e))) h

  items_like : {m : Change} → Sound m → {ds es : Data} → LikeIn m ds es → (u : Union) (holes : Bool) → is_fair u ≡ true → (m.eagerly ≡ true → is_whole_in ds ≡ true) → items_fit u holes ds ≡ true → items_fit u holes es ≡ true
  items_like p end u holes r w h = refl
  items_like {m} p (next c d cs ds f l) u holes r w h = implied (fits (item_type u holes) c) (items_fit u holes cs) (fits (item_type u holes) d) (items_fit u holes ds)
      (λ g. rw (item_by m.eagerly u holes) at (fits_like p f (item_type u holes) (item_fair u holes r) (λ e. and_first (is_whole_at c) (is_whole_in cs) (w e)) g))
      (items_like p l u holes r (λ e. and_second (is_whole_at c) (is_whole_in cs) (w e))) h

-- depth

max_less : (a b c d : ℕ) → a ≤ b → c ≤ d → max a c ≤ max b d
max_less a b c d h g = omega arith

same_more : (n a b : ℕ) → a ≤ b → n + a ≤ n + b
same_more n a b h = omega arith

less_zero : (n m : ℕ) → n ≡ 0 → n ≤ m
less_zero n m e = omega arith

mutual
  pub depth_at_like : {m : Change} → Flat m → {c d : Datum} → LikeAt m c d → depth_at d ≤ depth_at c
  depth_at_like p (in_scope k ds es s o) = same_more (if counted k then 1 else 0) (depth_in es) (depth_in ds) (less_zero (depth_in es) (depth_in ds) (p k ds es o))
  depth_at_like {m} p (in_node k ds es l) = rw (counted_by m.eagerly k) (same_more (if counted k then 1 else 0) (depth_in es) (depth_in ds) (depth_like p l))
  depth_at_like p (in_list ds es l) = depth_like p l
  depth_at_like p _ = le_self 0

  pub depth_like : {m : Change} → Flat m → {ds es : Data} → LikeIn m ds es → depth_in es ≤ depth_in ds
  depth_like p end = le_self 0
  depth_like p (next c d cs ds h l) = max_less (depth_at d) (depth_at c) (depth_in ds) (depth_in cs) (depth_at_like p h) (depth_like p l)

one_at_most : (b : Bool) (n : ℕ) → n ≡ 0 → (if b then 1 else 0) + n ≤ 512
one_at_most true n e = omega arith
one_at_most false n e = omega arith

less_more : (a b : ℕ) → a ≤ b → b ≤ 2 ^ 28 → a ≤ 2 ^ 28
less_more a b h g = omega arith

pub from_is_true : (b : Bool) → IsTrue b → b ≡ true
from_is_true true h = refl
from_is_true false h = cc

less_trans : (a b : ℕ) → a ≤ b → b ≤ 512 → a ≤ 512
less_trans a b h g = omega arith

-- a node that is as well typed as the node of a tree, and not deeper, is made
made : (t : Tree) (j k : Kind) (ds es : Data) → branch k ds ≡ t → IsTrue (typed t) → depth t ≤ 512 → (fit (fields k) ds ≡ true → fit (fields j) es ≡ true) → depth (branch j es) ≤ depth (branch k ds) → node_of j es ≡ Ok (branch j es)
made t j k ds es is ty d f g = made_where_fit j es (f (from_is_true (typed (branch k ds)) (subst (λ u. IsTrue (typed u)) (sym is) ty)))
    (less_trans (depth (branch j es)) (depth (branch k ds)) g (subst (λ u. depth u ≤ 512) (sym is) d))

-- the trees alike, where kinds stay as they are
typed_like : {m : Change} → Sound m → m.eagerly ≡ false → (k : Kind) (ds es : Data) → LikeIn m ds es → fit (fields k) ds ≡ true → fit (fields k) es ≡ true
typed_like p z k ds es l h = ap (λ ts. fit ts es) (same_types (fields k) ∙ ap (λ b. map (type_by b) (fields k)) (sym z)) ∙ fit_like p l (fields k) (fields_fair k) (λ q. let f : true ≡ false = sym q ∙ z in cc) h

-- a map that leaves kinds as they are makes nodes
lazily_made : {m : Change} → Sound m → m.eagerly ≡ false → (t : Tree) (k : Kind) (ds fs es : Data) → branch k ds ≡ t → IsTrue (typed t) → depth t ≤ 512 → LikeIn m ds fs → es ≡ fs → node_of k es ≡ Ok (branch k es)
lazily_made p z t k ds fs es is ty d l e = rw e (made t k k ds fs is ty d (typed_like p z k ds fs l) (same_more (if counted k then 1 else 0) (depth_in fs) (depth_in ds) (depth_like p.flat l)))

-- filled

kind_fits : (k : NameKind) → nat_lt (kind_choice k) 3 ≡ true
kind_fits Var = refl
kind_fits Lexical = refl
kind_fits Constant = refl

below : (i n : ℕ) → i < n → n ≤ 2 ^ 28 → nat_lt i (2 ^ 32) ≡ true
below i n h l = grind (arith, nat_tests)

abbrev entry_union : Shape → Union
entry_union shape.Parameters = ParameterName
entry_union shape.BoundName = One AssertedBoundName
entry_union _ = One AssertedDeclaredName

fit_entered : (n : ℕ) → n ≤ 2 ^ 28 → Entered n (λ m. true) (λ s es. items_fit (entry_union s) false es ≡ true)
fit_entered n l = record {
  nothing = λ s. refl;
  statement = λ a es q h. rw (kind_fits a.kind, h) refl;
  lexical = λ a es q h. rw (kind_fits a.kind, h) refl;
  bound = λ m es q h. h;
  rest = λ m es q h. h;
  positional = λ i m es j q h. rw (below i n j l, h) refl;
}

flat_entered : (n : ℕ) → Entered n (λ m. true) (λ s es. depth_in es ≡ 0)
flat_entered n = record {
  nothing = λ s. refl;
  statement = λ a es q h. omega (arith, h);
  lexical = λ a es q h. omega (arith, h);
  bound = λ m es q h. omega (arith, h);
  rest = λ m es q h. omega (arith, h);
  positional = λ i m es l q h. omega (arith, h);
}

flags_flat : (s : Shape) (b : Bool) → depth_in (flags_by s b) ≡ 0
flags_flat shape.Parameters b = refl
flags_flat _ b = refl

-- the fields of a scope that is filled
scope_fit : (k : Kind) (names : List ℕ) (after : Data) → is_scope_part (part k) ≡ true → size_in after ≤ 2 ^ 28 → fit (fields k) (more (listed (entries (shape_of k) names after)) (flags (shape_of k) after)) ≡ true
scope_fit AssertedScriptGlobalScope names after s l = rw (all_entered after (fit_entered (size_in after) l) shape.Statements names) refl
scope_fit AssertedVarScope names after s l = rw (all_entered after (fit_entered (size_in after) l) shape.Statements names) refl
scope_fit AssertedBlockScope names after s l = rw (all_entered after (fit_entered (size_in after) l) shape.Lexical names) refl
scope_fit AssertedParameterScope names after s l = rw (all_entered after (fit_entered (size_in after) l) shape.Parameters names) refl
scope_fit AssertedBoundNamesScope names after s l = rw (all_entered after (fit_entered (size_in after) l) shape.BoundName names) refl
scope_fit _ names after s l = cc

scope_flat : (s : Shape) (names : List ℕ) (after : Data) → depth_in (more (listed (entries s names after)) (flags s after)) ≡ 0
scope_flat s names after = rw (all_entered after (flat_entered (size_in after)) s names, flags_flat s (is_simple after)) refl

-- a scope that is filled is made
pub scope_made : (k : Kind) (names : List ℕ) (after ds : Data) → is_scope_part (part k) ≡ true → size_in after ≤ 2 ^ 28
    → ds ≡ more (listed (entries (shape_of k) names after)) (flags (shape_of k) after) → node_of k ds ≡ Ok (branch k ds)
scope_made k names after ds s l e = rw e (made_where_fit k (more (listed (entries (shape_of k) names after)) (flags (shape_of k) after)) (scope_fit k names after s l)
    (one_at_most (counted k) (depth_in (more (listed (entries (shape_of k) names after)) (flags (shape_of k) after))) (scope_flat (shape_of k) names after)))

flat_filled : (n : ℕ) → Flat (filling n (λ m. true))
flat_filled n k ds es o = rw o.is (scope_flat (shape_of k) o.names o.behind)

more_one : (n : ℕ) → n ≤ 1 + n
more_one n = omega arith

filled_sound : (n : ℕ) → n ≤ 2 ^ 28 → Sound (filling n (λ m. true))
filled_sound n l = record {
  fields_fit = λ k ds es s o h. rw o.is (scope_fit k o.names o.behind s (less_more (size_in o.behind) n o.small l));
  flat = flat_filled n;
}

pub filled_typed : (t : Tree) → size t ≤ 2 ^ 28 → typed t ≡ true → typed (filled t) ≡ true
filled_typed (branch k ds) l h = typed_like (filled_sound (size (branch k ds)) l) refl k ds (filled_in (bound ds) ds) (any_filled_in (bound ds) ds (size (branch k ds)) (more_one (size_in ds))) h

pub filled_depth : (t : Tree) → depth (filled t) ≤ depth t
filled_depth (branch k ds) = same_more (if counted k then 1 else 0) (depth_in (filled_in (bound ds) ds)) (depth_in ds) (depth_like (flat_filled (size_in ds)) (any_filled_in (bound ds) ds (size_in ds) (le_self (size_in ds))))

-- a node of which the fields are filled is made
pub filled_made : (t : Tree) (k : Kind) (ds es : Data) → branch k ds ≡ t → IsTrue (typed t) → depth t ≤ 512 → size t ≤ 2 ^ 28 → es ≡ filled_in (bound ds) ds → node_of k es ≡ Ok (branch k es)
filled_made t k ds es is ty d l e = lazily_made (filled_sound (size t) l) refl t k ds (filled_in (bound ds) ds) es is ty d (any_filled_in (bound ds) ds (size t) (subst (λ u. size_in ds ≤ size u) is (more_one (size_in ds)))) e

pub scope_kind : (d : Datum) (t : Tree) (k : Kind) → d ≡ child t → k ≡ kind_of t → is_scope d ≡ true → is_scope_part (part k) ≡ true
scope_kind d (branch j ds) k e f h = ap (λ x. is_scope_part (part x)) f ∙ ap is_scope (sym e) ∙ h

-- flagged

flags_sound : Sound flags_alone
flags_sound = record { fields_fit = λ k ds es s o h. absurd o; flat = λ k ds es o. absurd o }

pub typed_same : (e : Option ℕ) (t : Tree) → typed t ≡ true → typed (flagged e t) ≡ true
typed_same e (branch k ds) h = typed_like flags_sound refl k ds (flagged_in e ds) (only_flags e ds) h

pub depth_same : (e : Option ℕ) (t : Tree) → depth (flagged e t) ≤ depth t
depth_same e t = depth_at_like flags_sound.flat (any_flagged e t)

mutual
  size_at_like : {c d : Datum} → LikeAt flags_alone c d → size_at d ≡ size_at c
  size_at_like (in_scope k ds es s o) = absurd o
  size_at_like (in_node k ds es l) = ap (λ n. 1 + n) (size_like l)
  size_at_like (in_list ds es l) = ap (λ n. 1 + n) (size_like l)
  size_at_like _ = refl

  size_like : {ds es : Data} → LikeIn flags_alone ds es → size_in es ≡ size_in ds
  size_like end = refl
  size_like (next c d cs ds h l) = rw (size_at_like h, size_like l) refl

pub size_same : (e : Option ℕ) (t : Tree) → size (flagged e t) ≡ size t
size_same e t = size_at_like (any_flagged e t)

-- a node with its flag set is made
pub flag_made : (t : Tree) (b : Bool) (k : Kind) (ds es : Data) → branch k ds ≡ t → IsTrue (typed t) → depth t ≤ 512 → es ≡ with_flag b ds → node_of k es ≡ Ok (branch k es)
flag_made t b k ds es is ty d = lazily_made flags_sound refl t k ds (with_flag b ds) es is ty d (with_flag_like b ds)

-- a scope with its flags is made
pub flags_made : (t : Tree) (c : ℕ → Bool) (b : Bool) (k : Kind) (ds es : Data) → branch k ds ≡ t → IsTrue (typed t) → depth t ≤ 512 → es ≡ fields_by c b ds → node_of k es ≡ Ok (branch k es)
flags_made t c b k ds es is ty d = lazily_made flags_sound refl t k ds (fields_by c b ds) es is ty d (fields_by_like c b ds)

-- a node with flags below is made
pub flagged_made : (t : Tree) (e : Option ℕ) (k : Kind) (ds es : Data) → branch k ds ≡ t → IsTrue (typed t) → depth t ≤ 512 → es ≡ flagged_in e ds → node_of k es ≡ Ok (branch k es)
flagged_made t e k ds es is ty d = lazily_made flags_sound refl t k ds (flagged_in e ds) es is ty d (only_flags e ds)

-- bare

empty_fit : (k : Kind) → is_scope_part (part k) ≡ true → fit (fields k) (empty_fields (shape_of k)) ≡ true
empty_fit AssertedScriptGlobalScope h = refl
empty_fit AssertedVarScope h = refl
empty_fit AssertedBlockScope h = refl
empty_fit AssertedParameterScope h = refl
empty_fit AssertedBoundNamesScope h = refl
empty_fit _ h = cc

empty_flat : (s : Shape) → depth_in (empty_fields s) ≡ 0
empty_flat shape.Parameters = refl
empty_flat _ = refl

-- a scope that says nothing is made
pub empty_made : (k : Kind) (ds : Data) → is_scope_part (part k) ≡ true → ds ≡ empty_fields (shape_of k) → node_of k ds ≡ Ok (branch k ds)
empty_made k ds s e = rw e (made_where_fit k (empty_fields (shape_of k)) (empty_fit k s) (one_at_most (counted k) (depth_in (empty_fields (shape_of k))) (empty_flat (shape_of k))))

bare_sound : Sound emptying
bare_sound = record { fields_fit = λ k ds es s o h. rw o.is (empty_fit k s); flat = λ k ds es o. rw o.is (empty_flat (shape_of k)) }

-- the node of a plain tree is made
pub bare_made : (t : Tree) (j k : Kind) (ds es : Data) → branch k ds ≡ t → IsTrue (typed t) → depth t ≤ 512 → is_whole t ≡ true → j ≡ eager k → es ≡ bare_in ds → node_of j es ≡ Ok (branch j es)
bare_made t j k ds es is ty d w je e =
    let l : LikeIn emptying ds (bare_in ds) = bare_like ds (typed_clean (branch k ds) (from_is_true (typed (branch k ds)) (subst (λ u. IsTrue (typed u)) (sym is) ty)))
    in rw (je, e) (made t (eager k) k ds (bare_in ds) is ty d (λ h. ap (λ ts. fit ts (bare_in ds)) (types_by true k) ∙ fit_like bare_sound l (fields k) (fields_fair k) (λ q. ap is_whole is ∙ w) h) (depth_at_like bare_sound.flat (in_node k ds (bare_in ds) l)))
