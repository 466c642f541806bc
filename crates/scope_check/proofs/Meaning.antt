-- What the covers of the names mean is the nearest declarations in frames.
use Rattle.std.proofs.Common.{ℕ, List, [], ◌∷◌, ◌++◌, ◌+◌, ◌≡◌, ◌<◌, refl, Bool, true, false, ◌&&◌, ◌||◌, not, nat_eq, nat_lt, if◌then◌else◌, Option, None, Some, ap, sym, ◌∙◌, arith}
use Rattle.std.proofs.lemmas.Bool.Decides.{nat_tests}
use Rattle.bast_schema.specs.declared.kind.Kind.{Kind}
use Rattle.bast_schema.specs.Tree.{Tree, branch, Datum, child, absent, listed, flag, index, whole, name, no_name, choice, window, Data, none, more, nodes_at}
use Rattle.scope_facts.specs.declared.context.Ctx.{Ctx}
use Rattle.scope_facts.specs.declared.context.FactName.{FactName}
use Rattle.scope_facts.specs.declared.context.Rule.TheVariants.{A2}
use Rattle.scope_facts.specs.declared.context.ScopeFacts.{ScopeFacts}
use Rattle.scope_facts.specs.declared.context.Violation.{Violation}
use Rattle.scope_facts.specs.declared.roles.Part.{Part}
use Rattle.scope_facts.specs.declared.roles.Part.TheVariants.{Scope, Use, Call, Function, Other}
use Rattle.scope_facts.specs.Covers.{inside_now}
use Rattle.scope_facts.specs.Exact.{eval_name}
use Rattle.scope_facts.specs.Frames.{Frame, scope, begins, frame, is_captured, all_captured, all_captured_at, nearest, fine, fine_name, fine_use, inside}
use Rattle.scope_facts.specs.Names.{bound}
use Rattle.scope_facts.specs.Reading.{says_eval}
use Rattle.scope_facts.specs.Roles.{part}
use Rattle.scope_facts.specs.Uses.{is_scope, is_name, is_entry, has_entry, first_name}
use Rattle.scope_facts.specs.declared.covers.Cover.{Cover}
use Rattle.scope_check.specs.declared.walk.Step.{Step}
use Rattle.scope_check.specs.declared.walk.Step.TheVariants.{Found, Next}
use Rattle.scope_check.specs.Covers.{is_fine, is_fact, has_fact, all_caught, entered, facts_named, facts_at, facts_among, facts_of}
use Rattle.scope_check.specs.Least.{or_else, is_fine_name, is_fine_use, least_use, least, least_at, least_in, least_among, told_step, cover_start}
use Rattle.scope_check.specs.Untrue.{first, violation, untrue_use, untrue_eval, untrue_scope, untrue_from, untrue_at, untrue_in, untrue_among, fact_entries, frames_inside, all_tell, untrue}
use Rattle.scope_check.proofs.Walks.{least_same, least_in_same, found_is, next_none}

-- how many functions frames are inside of
abbrev pub functions : List Frame → ℕ
functions [] = 0
functions (begins ∷ fs) = functions fs + 1
functions (scope es ∷ fs) = functions fs

abbrev pub cover_in : List Frame → ℕ → Option Cover
cover_in [] x = None
cover_in (begins ∷ fs) x = cover_in fs x
cover_in (scope es ∷ fs) x = if has_entry x es then Some (record { function = functions fs; captured = all_captured x es }) else cover_in fs x

less_is : (m n : ℕ) → m < n → nat_lt m n ≡ true
less_is m n h = grind (arith, nat_tests)

not_less : (n : ℕ) → nat_lt n n ≡ false
not_less n = grind (arith, nat_tests)

found_outside : (b c : Bool) (m n : ℕ) (o : Option Cover) (fs : List Frame) (x : ℕ) → m < n → is_fine n o ≡ fine (nearest fs x true)
    → is_fine n (if b then Some (record { function = m; captured = c }) else o) ≡ fine (if b then Some (record { captured = c; outside = true }) else nearest fs x true)
found_outside true c m n o fs x h e = ap (λ t. c || not t) (less_is m n h)
found_outside false c m n o fs x h e = e

-- from inside a function that begins inside all of the frames
outside : (fs : List Frame) (n x : ℕ) → functions fs < n → is_fine n (cover_in fs x) ≡ fine (nearest fs x true)
outside [] n x h = refl
outside (begins ∷ fs) n x h = outside fs n x (omega arith)
outside (scope es ∷ fs) n x h = found_outside (has_entry x es) (all_captured x es) (functions fs) n (cover_in fs x) fs x h (outside fs n x h)

found_inside : (b c : Bool) (n : ℕ) (o : Option Cover) (fs : List Frame) (x : ℕ) → is_fine n o ≡ fine (nearest fs x false)
    → is_fine n (if b then Some (record { function = n; captured = c }) else o) ≡ fine (if b then Some (record { captured = c; outside = false }) else nearest fs x false)
found_inside true c n o fs x e = ap (λ t. c || not t) (not_less n)
found_inside false c n o fs x e = e

fine_is : (fs : List Frame) (x : ℕ) → is_fine (functions fs) (cover_in fs x) ≡ fine (nearest fs x false)
fine_is [] x = refl
fine_is (begins ∷ fs) x = outside fs (functions fs + 1) x (omega arith)
fine_is (scope es ∷ fs) x = found_inside (has_entry x es) (all_captured x es) (functions fs) (cover_in fs x) fs x (fine_is fs x)

fine_name_is : (fs : List Frame) (x : Option ℕ) → is_fine_name (cover_in fs) (functions fs) x ≡ fine_name fs x
fine_name_is fs None = refl
fine_name_is fs (Some x) = fine_is fs x

fine_use_is : (fs : List Frame) (p : Part) (ds : Data) → is_fine_use (cover_in fs) (functions fs) p (first_name ds) ≡ fine_use fs p ds
fine_use_is fs Use ds = fine_name_is fs (first_name ds)
fine_use_is fs Scope ds = refl
fine_use_is fs Call ds = refl
fine_use_is fs Function ds = refl
fine_use_is fs Other ds = refl

-- the entries of a scope

or_end : (a : Bool) → a ≡ (a || false)
or_end true = refl
or_end false = refl

and_end : (a : Bool) → a ≡ (a && true)
and_end true = refl
and_end false = refl

or_assoc : (a b c : Bool) → ((a || b) || c) ≡ (a || (b || c))
or_assoc true b c = refl
or_assoc false b c = refl

and_assoc : (a b c : Bool) → ((a && b) && c) ≡ (a && (b && c))
and_assoc true b c = refl
and_assoc false b c = refl

has_append : (x : ℕ) (fs gs : List FactName) → (has_fact x fs || has_fact x gs) ≡ has_fact x (fs ++ gs)
has_append x [] gs = refl
has_append x (f ∷ fs) gs = or_assoc (is_fact x f) (has_fact x fs) (has_fact x gs) ∙ ap (λ b. is_fact x f || b) (has_append x fs gs)

all_append : (x : ℕ) (fs gs : List FactName) → (all_caught x fs && all_caught x gs) ≡ all_caught x (fs ++ gs)
all_append x [] gs = refl
all_append x (f ∷ fs) gs = and_assoc (not (is_fact x f) || f.captured) (all_caught x fs) (all_caught x gs) ∙ ap (λ b. (not (is_fact x f) || f.captured) && b) (all_append x fs gs)

named_has : (x : ℕ) (o : Option ℕ) (ds : Data) → is_name x o ≡ has_fact x (facts_named o ds)
named_has x None ds = refl
named_has x (Some n) ds = or_end (nat_eq n x)

named_all : (x : ℕ) (o : Option ℕ) (ds : Data) → (not (is_name x o) || is_captured ds) ≡ all_caught x (facts_named o ds)
named_all x None ds = refl
named_all x (Some n) ds = and_end (not (nat_eq n x) || is_captured ds)

entry_has : (x : ℕ) (d : Datum) → is_entry x d ≡ has_fact x (facts_at d)
entry_has x (child (branch k ds)) = named_has x (first_name ds) ds
entry_has x _ = refl

entry_all : (x : ℕ) (d : Datum) → all_captured_at x d ≡ all_caught x (facts_at d)
entry_all x (child (branch k ds)) = named_all x (first_name ds) ds
entry_all x _ = refl

entries_have : (x : ℕ) (es : Data) → has_entry x es ≡ has_fact x (facts_among es)
entries_have x none = refl
entries_have x (more d es) = rw (entry_has x d, entries_have x es) (has_append x (facts_at d) (facts_among es))

entries_all : (x : ℕ) (es : Data) → all_captured x es ≡ all_caught x (facts_among es)
entries_all x none = refl
entries_all x (more d es) = rw (entry_all x d, entries_all x es) (all_append x (facts_at d) (facts_among es))

scope_entered : (x n : ℕ) (es : Data) (fs : List FactName) (o : Option Cover) → has_entry x es ≡ has_fact x fs → all_captured x es ≡ all_caught x fs
    → entered n fs x o ≡ (if has_entry x es then Some (record { function = n; captured = all_captured x es }) else o)
scope_entered x n es fs o e f = rw (e, f) refl

frame_entered : (d : Datum) (fs : List Frame) (x : ℕ) → entered (functions fs) (facts_of d) x (cover_in fs x) ≡ cover_in (frame d ∷ fs) x
frame_entered (child (branch k (more (listed es) ds))) fs x = scope_entered x (functions fs) es (facts_among es) (cover_in fs x) (entries_have x es) (entries_all x es)
frame_entered _ fs x = refl

functions_frame : (d : Datum) (fs : List Frame) → functions fs ≡ functions (frame d ∷ fs)
functions_frame (child (branch k (more (listed es) ds))) fs = refl
functions_frame _ fs = refl

-- the first of the list is the least

first_append : {A : Type 0} (xs ys : List A) → or_else (first xs) (first ys) ≡ first (xs ++ ys)
first_append [] ys = refl
first_append (x ∷ xs) ys = refl

use_first : (b : Bool) (v : Violation) → (if b then None else Some v) ≡ first (if b then [] else v ∷ [])
use_first true v = refl
use_first false v = refl

use_is : (fs : List Frame) (n : ℕ) (k : Kind) (ds : Data) → least_use (cover_in fs) (functions fs) n k ds ≡ first (untrue_use fs n k ds)
use_is fs n k ds = ap (λ b. if b then None else Some (violation n A2 (first_name ds))) (fine_use_is fs (part k) ds) ∙ use_first (fine_use fs (part k) ds) (violation n A2 (first_name ds))

node_is : (us es xs : List Violation) (o p q : Option Violation) → o ≡ first us → p ≡ first es → q ≡ first xs → or_else (or_else o p) q ≡ first (us ++ es ++ xs)
node_is us es xs o p q e f g = rw (e, f, g) (ap (λ r. or_else r (first xs)) (first_append us es) ∙ first_append (us ++ es) xs)

in_part : (e : Option ℕ) (fs : List Frame) (p : Part) (told : Bool) (names : List ℕ) (n : ℕ) (ds : Data)
    → ((gs : List Frame) → least_in e (cover_in gs) (functions gs) told names n ds ≡ first (untrue_in e gs told names n ds))
    → least_in e (cover_in fs) (inside_now p (functions fs)) told names n ds ≡ first (untrue_in e (inside p fs) told names n ds)
in_part e fs Function told names n ds h = least_in_same e (cover_in fs) (cover_in (begins ∷ fs)) (functions fs + 1) told names n ds (λ x. refl) ∙ h (begins ∷ fs)
in_part e fs Scope told names n ds h = h fs
in_part e fs Use told names n ds h = h fs
in_part e fs Call told names n ds h = h fs
in_part e fs Other told names n ds h = h fs

field_is : (b : Bool) (ss rs xs ys : List Violation) (o p q : Option Violation) → o ≡ first rs → p ≡ first xs → q ≡ first ys
    → (if b then or_else (first ss) o else or_else p q) ≡ first (if b then ss ++ rs else xs ++ ys)
field_is true ss rs xs ys o p q e f g = ap (or_else (first ss)) e ∙ first_append ss rs
field_is false ss rs xs ys o p q e f g = rw (f, g) (first_append xs ys)

item_is : (xs ys : List Violation) (p q : Option Violation) → p ≡ first xs → q ≡ first ys → or_else p q ≡ first (xs ++ ys)
item_is xs ys p q f g = rw (f, g) (first_append xs ys)

mutual
  pub least_is : (e : Option ℕ) (fs : List Frame) (told : Bool) (n : ℕ) (t : Tree) → least e (cover_in fs) (functions fs) told n t ≡ first (untrue_from e fs told n t)
  least_is e fs told n (branch k ds) = node_is (untrue_use fs n k ds) (untrue_eval e told n k ds) (untrue_in e (inside (part k) fs) told (bound ds) (n + 1) ds)
      (least_use (cover_in fs) (functions fs) n k ds) (first (untrue_eval e told n k ds)) (least_in e (cover_in fs) (inside_now (part k) (functions fs)) told (bound ds) (n + 1) ds)
      (use_is fs n k ds) refl (in_part e fs (part k) told (bound ds) (n + 1) ds (λ gs. least_in_is e gs told (bound ds) (n + 1) ds))

  least_at_is : (e : Option ℕ) (fs : List Frame) (told : Bool) (n : ℕ) (d : Datum) → least_at e (cover_in fs) (functions fs) told n d ≡ first (untrue_at e fs told n d)
  least_at_is e fs told n (child t) = least_is e fs told n t
  least_at_is e fs told n (listed ds) = least_among_is e fs told n ds
  least_at_is e fs told n absent = refl
  least_at_is e fs told n (flag f) = refl
  least_at_is e fs told n (index i) = refl
  least_at_is e fs told n (whole i) = refl
  least_at_is e fs told n (name i) = refl
  least_at_is e fs told n no_name = refl
  least_at_is e fs told n (choice i) = refl
  least_at_is e fs told n (window i j) = refl

  least_in_is : (e : Option ℕ) (fs : List Frame) (told : Bool) (names : List ℕ) (n : ℕ) (ds : Data) → least_in e (cover_in fs) (functions fs) told names n ds ≡ first (untrue_in e fs told names n ds)
  least_in_is e fs told names n none = refl
  least_in_is e fs told names n (more d ds) = field_is (is_scope d) (untrue_scope n names d ds) (untrue_in e (frame d ∷ fs) (told && says_eval d) names (n + nodes_at d) ds)
      (untrue_at e fs told n d) (untrue_in e fs told names (n + nodes_at d) ds)
      (least_in e (λ x. entered (functions fs) (facts_of d) x (cover_in fs x)) (functions fs) (told && says_eval d) names (n + nodes_at d) ds)
      (least_at e (cover_in fs) (functions fs) told n d) (least_in e (cover_in fs) (functions fs) told names (n + nodes_at d) ds)
      (least_in_same e (λ x. entered (functions fs) (facts_of d) x (cover_in fs x)) (cover_in (frame d ∷ fs)) (functions fs) (told && says_eval d) names (n + nodes_at d) ds (frame_entered d fs)
      ∙ ap (λ m. least_in e (cover_in (frame d ∷ fs)) m (told && says_eval d) names (n + nodes_at d) ds) (functions_frame d fs)
      ∙ least_in_is e (frame d ∷ fs) (told && says_eval d) names (n + nodes_at d) ds)
      (least_at_is e fs told n d) (least_in_is e fs told names (n + nodes_at d) ds)

  least_among_is : (e : Option ℕ) (fs : List Frame) (told : Bool) (n : ℕ) (ds : Data) → least_among e (cover_in fs) (functions fs) told n ds ≡ first (untrue_among e fs told n ds)
  least_among_is e fs told n none = refl
  least_among_is e fs told n (more d ds) = item_is (untrue_at e fs told n d) (untrue_among e fs told (n + nodes_at d) ds)
      (least_at e (cover_in fs) (functions fs) told n d) (least_among e (cover_in fs) (functions fs) told (n + nodes_at d) ds)
      (least_at_is e fs told n d) (least_among_is e fs told (n + nodes_at d) ds)

-- the scopes of a context

facts_have : (x : ℕ) (fs : List FactName) → has_entry x (fact_entries fs) ≡ has_fact x fs
facts_have x [] = refl
facts_have x (f ∷ fs) = ap (λ b. is_fact x f || b) (facts_have x fs)

facts_all : (x : ℕ) (fs : List FactName) → all_captured x (fact_entries fs) ≡ all_caught x fs
facts_all x [] = refl
facts_all x (f ∷ fs) = ap (λ b. (not (is_fact x f) || f.captured) && b) (facts_all x fs)

start_is : (ss : List ScopeFacts) (fs : List Frame) (x : ℕ) → functions fs ≡ 0 → cover_start ss x (cover_in fs x) ≡ cover_in (frames_inside fs ss) x
start_is [] fs x e = refl
start_is (s ∷ ss) fs x e =
    ap (cover_start ss x) (ap (λ n. entered n s.names x (cover_in fs x)) (sym e) ∙ scope_entered x (functions fs) (fact_entries s.names) s.names (cover_in fs x) (facts_have x s.names) (facts_all x s.names))
    ∙ start_is ss (scope (fact_entries s.names) ∷ fs) x e

start_functions : (ss : List ScopeFacts) (fs : List Frame) → functions fs ≡ 0 → functions (frames_inside fs ss) ≡ 0
start_functions [] fs e = e
start_functions (s ∷ ss) fs e = start_functions ss (scope (fact_entries s.names) ∷ fs) e

untrue_is : (texts : List (Option (List ℕ))) (k : Ctx) (t : Tree) (c : ℕ → Option Cover) (e : Option ℕ) (told : Bool) → ((x : ℕ) → c x ≡ cover_start k.scopes x None) → e ≡ eval_name texts → told ≡ all_tell k.scopes
    → least e c 0 told 0 t ≡ first (untrue texts k t)
untrue_is texts k t c e told h f g =
    least_same e c (cover_in (frames_inside [] k.scopes)) 0 told 0 t (λ x. h x ∙ start_is k.scopes [] x refl)
    ∙ ap (λ n. least e (cover_in (frames_inside [] k.scopes)) n told 0 t) (sym (start_functions k.scopes [] refl))
    ∙ least_is e (frames_inside [] k.scopes) told 0 t
    ∙ ap (λ d. first (untrue_from d (frames_inside [] k.scopes) told 0 t)) f
    ∙ ap (λ b. first (untrue_from (eval_name texts) (frames_inside [] k.scopes) b 0 t)) g

pub first_found : (texts : List (Option (List ℕ))) (k : Ctx) (t : Tree) (c : ℕ → Option Cover) (e : Option ℕ) (told : Bool) (m : ℕ) (st : Step) (v : Violation)
    → ((x : ℕ) → c x ≡ cover_start k.scopes x None) → e ≡ eval_name texts → told ≡ all_tell k.scopes → st ≡ told_step (least e c 0 told 0 t) m → st ≡ Found v → Some v ≡ first (untrue texts k t)
first_found texts k t c e told m st v h f g told_is found_eq = sym (found_is (least e c 0 told 0 t) v m (sym found_eq ∙ told_is)) ∙ untrue_is texts k t c e told h f g

pub first_none : (texts : List (Option (List ℕ))) (k : Ctx) (t : Tree) (c : ℕ → Option Cover) (e : Option ℕ) (told : Bool) (m i : ℕ) (st : Step)
    → ((x : ℕ) → c x ≡ cover_start k.scopes x None) → e ≡ eval_name texts → told ≡ all_tell k.scopes → st ≡ told_step (least e c 0 told 0 t) m → st ≡ Next i → None ≡ first (untrue texts k t)
first_none texts k t c e told m i st h f g told_is next_eq = sym (next_none (least e c 0 told 0 t) i m (sym next_eq ∙ told_is)) ∙ untrue_is texts k t c e told h f g
