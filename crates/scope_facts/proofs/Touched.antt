-- What pieces of a program do to covers, one after the other.
use Rattle.std.proofs.Common.{ℕ, List, [], ◌∷◌, ◌++◌, ◌≡◌, ◌≤◌, ◌+◌, Bool, true, false, refl, ap, sym, ◌&&◌, ◌||◌, not, nat_eq, nat_lt, if◌then◌else◌, Option, None, Some, ◌∙◌, arith, subst, option_to_list}
use Rattle.std.proofs.lemmas.Bool.Decides.{nat_tests}
use Rattle.bast_schema.specs.declared.kind.Kind.{Kind}
use Rattle.bast_schema.specs.declared.kind.Kind.TheVariants.{FunctionContents, GetterContents, SetterContents, EagerArrowExpressionWithExpression}
use Rattle.bast_schema.specs.Kinds.{counted}
use Rattle.bast_schema.specs.Tree.{Tree, branch, Datum, child, absent, listed, flag, index, whole, name, no_name, choice, window, Data, none, more, depth, depth_in}
use Rattle.bast_schema.specs.View.{datum, data_of}
use Rattle.bast_schema.specs.declared.node.Value.{Value}
use Rattle.scope_facts.specs.declared.covers.Cover.{Cover}
use Rattle.scope_facts.specs.declared.covers.Shadow.{Shadow}
use Rattle.scope_facts.specs.declared.roles.Part.{Part}
use Rattle.scope_facts.specs.declared.roles.Part.TheVariants.{Scope, Use, Call, Function, Other}
use Rattle.scope_facts.specs.Roles.{part, is_function}
use Rattle.scope_facts.specs.Uses.{is_scope, first_name, is_name, is_entry, has_entry, declares, is_use_named, is_use_of, used, used_at, used_in, used_among, crossed, crossed_at, crossed_in, crossed_among, evals_in}
use Rattle.scope_facts.specs.Flagged.{holds_of, entry_by, entries_by, scope_by, flagged_scope, flagged_in}
use Rattle.scope_facts.specs.Covers.{cover_of, touched, is_caught, is_within, AreWithin, has_name, entry_name, names_among, entry_names, restored, inside_now, Touches}
use Rattle.scope_facts.proofs.Nearest.{or_left, or_right, crossed_used_in}
use Rattle.scope_facts.proofs.Loops.{any_last, or_assoc}

or_false : (b : Bool) → (b || false) ≡ b
or_false true = refl
or_false false = refl

untouched : (now : ℕ) (o : Option Cover) → touched false false now o ≡ o
untouched now None = refl
untouched now (Some e) = ap (λ b. Some (record { function = e.function; captured = b })) (or_false e.captured)

caught : (p d v l c u : Bool) → ((p || (d || (v && l))) || (c || (u && l))) ≡ (p || ((d || c) || ((v || u) && l)))
caught true d v l c u = refl
caught false true v l c u = refl
caught false false true true true u = refl
caught false false true true false u = refl
caught false false true false true u = refl
caught false false true false false true = refl
caught false false true false false false = refl
caught false false false l c u = refl

touched_twice : (u c v d : Bool) (now : ℕ) (o : Option Cover) → touched u c now (touched v d now o) ≡ touched (v || u) (d || c) now o
touched_twice u c v d now None = refl
touched_twice u c v d now (Some e) = ap (λ b. Some (record { function = e.function; captured = b })) (caught e.captured d v (nat_lt e.function now) c u)

pub touches_both : (v d u c : ℕ → Bool) (now : ℕ) (cs ds es : List (Option Cover)) → Touches v d now cs ds → Touches u c now ds es → Touches (λ x. v x || u x) (λ x. d x || c x) now cs es
touches_both v d u c now cs ds es s t = record { all = λ x. t.all x ∙ ap (touched (u x) (c x) now) (s.all x) ∙ touched_twice (u x) (c x) (v x) (d x) now (cover_of cs x) }

within_touched : (n m : ℕ) (u c : Bool) (o : Option Cover) → is_within n (touched u c m o) ≡ is_within n o
within_touched n m u c None = refl
within_touched n m u c (Some e) = refl

pub within_after : (n m : ℕ) (u c : ℕ → Bool) (cs ds : List (Option Cover)) → AreWithin n cs → Touches u c m cs ds → AreWithin n ds
within_after n m u c cs ds w t = record { all = λ x. ap (is_within n) (t.all x) ∙ within_touched n m (u x) (c x) (cover_of cs x) ∙ w.all x }

one_more : (n m : ℕ) → not (nat_lt n m) ≡ true → not (nat_lt (n + 1) m) ≡ true
one_more n m h = grind (arith, nat_tests)

within_more : (n : ℕ) (o : Option Cover) → is_within n o ≡ true → is_within (n + 1) o ≡ true
within_more n None h = refl
within_more n (Some e) h = one_more n e.function h

pub within_inside : (p : Part) (n : ℕ) (cs : List (Option Cover)) → AreWithin n cs → AreWithin (inside_now p n) cs
within_inside Function n cs w = record { all = λ x. within_more n (cover_of cs x) (w.all x) }
within_inside _ n cs w = w

not_less : (n : ℕ) → nat_lt n n ≡ false
not_less n = grind (arith, nat_tests)

-- a node

inner : (c u l : Bool) (p : Bool) → (c ≡ true → u ≡ true) → (p || (c || (u && true))) ≡ (p || (u || (u && l)))
inner c u l true h = refl
inner true true l false h = refl
inner false true l false h = refl
inner true false l false h = let e : false ≡ true = h refl in cc
inner false false l false h = refl

less_more : (n m : ℕ) → not (nat_lt n m) ≡ true → nat_lt m (n + 1) ≡ true
less_more n m h = grind (arith, nat_tests)

function_touched : (u c : Bool) (now : ℕ) (o : Option Cover) → (c ≡ true → u ≡ true) → is_within now o ≡ true → touched u c (now + 1) o ≡ touched u u now o
function_touched u c now None h w = refl
function_touched u c now (Some e) h w = ap (λ b. Some (record { function = e.function; captured = e.captured || (c || (u && b)) })) (less_more now e.function w) ∙ ap (λ b. Some (record { function = e.function; captured = b })) (inner c u (nat_lt e.function now) e.captured h)

node_touched : (p : Part) (now x : ℕ) (ds : Data) (o : Option Cover) → is_within now o ≡ true
    → touched (used_in x ds) (crossed_in x ds) (inside_now p now) (touched (is_use_of x p ds) false now o) ≡ touched (is_use_of x p ds || used_in x ds) (if is_function p then used_in x ds else crossed_in x ds) now o
node_touched Function now x ds o w = ap (touched (used_in x ds) (crossed_in x ds) (now + 1)) (untouched now o) ∙ function_touched (used_in x ds) (crossed_in x ds) now o (crossed_used_in x ds) w
node_touched Scope now x ds o w = touched_twice (used_in x ds) (crossed_in x ds) false false now o
node_touched Use now x ds o w = touched_twice (used_in x ds) (crossed_in x ds) (is_name x (first_name ds)) false now o
node_touched Call now x ds o w = touched_twice (used_in x ds) (crossed_in x ds) false false now o
node_touched Other now x ds o w = touched_twice (used_in x ds) (crossed_in x ds) false false now o

pub node_touches : (t : Tree) (k : Kind) (p : Part) (o : Option ℕ) (ds : Data) (now : ℕ) (os bs cs : List (Option Cover)) → branch k ds ≡ t → p ≡ part k → o ≡ first_name ds → AreWithin now os
    → ((x : ℕ) → cover_of bs x ≡ touched (is_use_named x p o) false now (cover_of os x))
    → Touches (λ x. used_in x ds) (λ x. crossed_in x ds) (inside_now p now) bs cs
    → Touches (λ x. used x t) (λ x. crossed x t) now os cs
node_touches t k p o ds now os bs cs is pe oe w h s =
    subst (λ u. Touches (λ x. used x u) (λ x. crossed x u) now os cs) is (record {
      all = λ x.
          s.all x
          ∙ ap (λ q. touched (used_in x ds) (crossed_in x ds) (inside_now p now) q) (h x)
          ∙ ap (λ q. touched (used_in x ds) (crossed_in x ds) (inside_now p now) (touched (is_use_named x p q) false now (cover_of os x))) oe
          ∙ ap (λ q. touched (used_in x ds) (crossed_in x ds) (inside_now q now) (touched (is_use_of x q ds) false now (cover_of os x))) pe
          ∙ node_touched (part k) now x ds (cover_of os x) (w.all x);
    })

function_counted : (k : Kind) → is_function (part k) ≡ true → counted k ≡ true
function_counted FunctionContents h = refl
function_counted GetterContents h = refl
function_counted SetterContents h = refl
function_counted EagerArrowExpressionWithExpression h = refl
function_counted _ h = cc

room_inside : (p : Part) (c : Bool) (now d : ℕ) → (is_function p ≡ true → c ≡ true) → now + ((if c then 1 else 0) + d) ≤ 512 → inside_now p now + d ≤ 512
room_inside Function true now d h l = omega arith
room_inside Function false now d h l = let e : false ≡ true = h refl in cc
room_inside Scope c now d h l = omega arith
room_inside Use c now d h l = omega arith
room_inside Call c now d h l = omega arith
room_inside Other c now d h l = omega arith

pub depth_inside : (t : Tree) (k : Kind) (p : Part) (ds : Data) (now : ℕ) → branch k ds ≡ t → p ≡ part k → now + depth t ≤ 512 → inside_now p now + depth_in ds ≤ 512
depth_inside t k p ds now is pe l = subst (λ q. inside_now q now + depth_in ds ≤ 512) (sym pe) (room_inside (part k) (counted k) now (depth_in ds) (function_counted k) (subst (λ u. now + depth u ≤ 512) (sym is) l))

-- a scope

named : (x : ℕ) (o : Option ℕ) → is_name x o ≡ has_name x (option_to_list o)
named x None = refl
named x (Some n) = sym (or_false (nat_eq n x))

entry_named : (x : ℕ) (d : Datum) → is_entry x d ≡ has_name x (option_to_list (entry_name d))
entry_named x (child (branch k ds)) = named x (first_name ds)
entry_named x _ = refl

has_append : (x : ℕ) (ms ns : List ℕ) → has_name x (ms ++ ns) ≡ (has_name x ms || has_name x ns)
has_append x [] ns = refl
has_append x (m ∷ ms) ns = ap (λ b. nat_eq m x || b) (has_append x ms ns) ∙ or_assoc (nat_eq m x) (has_name x ms) (has_name x ns)

entries_named : (x : ℕ) (es : Data) → has_entry x es ≡ has_name x (names_among es)
entries_named x none = refl
entries_named x (more d es) = rw (entry_named x d, entries_named x es) (sym (has_append x (option_to_list (entry_name d)) (names_among es)))

-- the names of a scope's entries are those that it declares
pub declares_named : (x : ℕ) (d : Datum) → declares x d ≡ has_name x (entry_names d)
declares_named x (child (branch k (more (listed es) ds))) = entries_named x es
declares_named x _ = refl

left_scope : (h u c : Bool) (now : ℕ) (o p q r : Option Cover) → p ≡ (if h then Some (record { function = now; captured = false }) else o) → q ≡ touched u c now p → r ≡ (if h then o else q)
    → r ≡ touched (not h && u) (not h && c) now o
left_scope true u c now o p q r e f g = g ∙ sym (untouched now o)
left_scope false u c now o p q r e f g = g ∙ f ∙ ap (touched u c now) e

scope_tests : (d : Datum) (ds : Data) (b : Bool) (x : ℕ) → is_scope d ≡ b → b ≡ true → used_in x (more d ds) ≡ (not (declares x d) && used_in x ds)
scope_tests d ds b x s e = rw (s, e) refl

scope_crossed : (d : Datum) (ds : Data) (b : Bool) (x : ℕ) → is_scope d ≡ b → b ≡ true → crossed_in x (more d ds) ≡ (not (declares x d) && crossed_in x ds)
scope_crossed d ds b x s e = rw (s, e) refl

pub scope_touches : (d : Datum) (ds all : Data) (ns : List ℕ) (now : ℕ) (os bs cs es : List (Option Cover)) (shadows : List Shadow) → all ≡ more d ds → is_scope d ≡ true → ns ≡ entry_names d
    → ((x : ℕ) → cover_of bs x ≡ (if has_name x ns then Some (record { function = now; captured = false }) else cover_of os x))
    → ((x : ℕ) (o : Option Cover) → restored shadows x o ≡ (if has_name x ns then cover_of os x else o))
    → Touches (λ x. used_in x ds) (λ x. crossed_in x ds) now bs cs
    → ((x : ℕ) → cover_of es x ≡ restored shadows x (cover_of cs x))
    → Touches (λ x. used_in x all) (λ x. crossed_in x all) now os es
scope_touches d ds all ns now os bs cs es shadows is s ne entered kept t left =
    subst (λ q. Touches (λ x. used_in x q) (λ x. crossed_in x q) now os es) (sym is) (record {
      all = λ x.
          left_scope (has_name x ns) (used_in x ds) (crossed_in x ds) now (cover_of os x) (cover_of bs x) (cover_of cs x) (cover_of es x) (entered x) (t.all x) (left x ∙ kept x (cover_of cs x))
          ∙ ap (λ m. touched (not (has_name x m) && used_in x ds) (not (has_name x m) && crossed_in x ds) now (cover_of os x)) ne
          ∙ ap (λ b. touched (not b && used_in x ds) (not b && crossed_in x ds) now (cover_of os x)) (sym (declares_named x d))
          ∙ ap (λ b. touched b (not (declares x d) && crossed_in x ds) now (cover_of os x)) (sym (scope_tests d ds (is_scope d) x refl s))
          ∙ ap (λ b. touched (used_in x (more d ds)) b now (cover_of os x)) (sym (scope_crossed d ds (is_scope d) x refl s));
    })

equal_names : (n : ℕ) → nat_eq n n ≡ true
equal_names n = grind (arith, nat_tests)

holds_same : (c e : ℕ → Bool) (o : Option ℕ) → ((x : ℕ) → is_name x o ≡ true → c x ≡ e x) → holds_of c o ≡ holds_of e o
holds_same c e None h = refl
holds_same c e (Some n) h = h n (equal_names n)

entry_same : (c e : ℕ → Bool) (d : Datum) → ((x : ℕ) → is_entry x d ≡ true → c x ≡ e x) → entry_by c d ≡ entry_by e d
entry_same c e (child (branch k ds)) h = rw (holds_same c e (first_name ds) h) refl
entry_same c e _ h = refl

entries_same : (c e : ℕ → Bool) (es : Data) → ((x : ℕ) → has_entry x es ≡ true → c x ≡ e x) → entries_by c es ≡ entries_by e es
entries_same c e none h = refl
entries_same c e (more d es) h = rw (entry_same c e d (λ x i. h x (or_left (is_entry x d) (has_entry x es) i)), entries_same c e es (λ x i. h x (or_right (is_entry x d) (has_entry x es) i))) refl

-- a scope is told by what holds of the names that it declares
scope_same : (c e : ℕ → Bool) (b : Bool) (d : Datum) → ((x : ℕ) → declares x d ≡ true → c x ≡ e x) → scope_by c b d ≡ scope_by e b d
scope_same c e b (child (branch k (more (listed es) ds))) h = rw (entries_same c e es h) refl
scope_same c e b _ h = refl

nothing : (u c : Bool) → (c || (u && false)) ≡ c
nothing u true = refl
nothing true false = refl
nothing false false = refl

caught_here : (now : ℕ) (u c : Bool) → is_caught (touched u c now (Some (record { function = now; captured = false }))) ≡ c
caught_here now u c = ap (λ b. c || (u && b)) (not_less now) ∙ nothing u c

pick : (b : Bool) (o p : Option Cover) → b ≡ true → (if b then o else p) ≡ o
pick true o p e = refl
pick false o p e = cc

pub scope_fields : (e : Option ℕ) (d v : Datum) (ds all rest out : Data) (b : Bool) (ns : List ℕ) (now : ℕ) (os bs cs : List (Option Cover)) → all ≡ more d ds → is_scope d ≡ true → ns ≡ entry_names d
    → ((x : ℕ) → cover_of bs x ≡ (if has_name x ns then Some (record { function = now; captured = false }) else cover_of os x))
    → Touches (λ x. used_in x ds) (λ x. crossed_in x ds) now bs cs
    → b ≡ evals_in e ds → rest ≡ flagged_in e ds → v ≡ scope_by (λ x. is_caught (cover_of cs x)) b d → out ≡ more v rest → out ≡ flagged_in e all
scope_fields e d v ds all rest out b ns now os bs cs is s ne entered t be re ve oe =
    let f : v ≡ flagged_scope e d ds = ve ∙ scope_same (λ x. is_caught (cover_of cs x)) (λ x. crossed_in x ds) b d (λ x i.
    ap is_caught (t.all x)
    ∙ ap (λ o. is_caught (touched (used_in x ds) (crossed_in x ds) now o)) (entered x ∙ pick (has_name x ns) (Some (record { function = now; captured = false })) (cover_of os x) (ap (has_name x) ne ∙ sym (declares_named x d) ∙ i))
    ∙ caught_here now (used_in x ds) (crossed_in x ds)) ∙ ap (λ q. scope_by (λ x. crossed_in x ds) q d) be
    in oe ∙ rw (is, s, f, re) refl

-- a field that is no scope

pub field_touches : (d : Datum) (ds all : Data) (now : ℕ) (os bs cs : List (Option Cover)) → all ≡ more d ds → is_scope d ≡ false
    → Touches (λ x. used_at x d) (λ x. crossed_at x d) now os bs → Touches (λ x. used_in x ds) (λ x. crossed_in x ds) now bs cs
    → Touches (λ x. used_in x all) (λ x. crossed_in x all) now os cs
field_touches d ds all now os bs cs is s h t =
    let r : Touches (λ x. used_at x d || used_in x ds) (λ x. crossed_at x d || crossed_in x ds) now os cs
    = touches_both (λ x. used_at x d) (λ x. crossed_at x d) (λ x. used_in x ds) (λ x. crossed_in x ds) now os bs cs h t
    in record { all = λ x. r.all x ∙ rw (is, s) refl }

-- one more item of a list
pub item_touches : (ys : List Value) (v : Value) (now : ℕ) (os bs cs : List (Option Cover))
    → Touches (λ x. used_among x (data_of ys)) (λ x. crossed_among x (data_of ys)) now os bs → Touches (λ x. used_at x (datum v)) (λ x. crossed_at x (datum v)) now bs cs
    → Touches (λ x. used_among x (data_of (ys ++ v ∷ []))) (λ x. crossed_among x (data_of (ys ++ v ∷ []))) now os cs
item_touches ys v now os bs cs h t =
    let r : Touches (λ x. used_among x (data_of ys) || used_at x (datum v)) (λ x. crossed_among x (data_of ys) || crossed_at x (datum v)) now os cs
    = touches_both (λ x. used_among x (data_of ys)) (λ x. crossed_among x (data_of ys)) (λ x. used_at x (datum v)) (λ x. crossed_at x (datum v)) now os bs cs h t
    in record { all = λ x. r.all x ∙ rw (any_last (used_among x) (used_at x) refl (λ d ds. refl) ys v, any_last (crossed_among x) (crossed_at x) refl (λ d ds. refl) ys v) refl }
