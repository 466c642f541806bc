-- The nearest declarations, looked for from above, and the uses below a node, counted without what scopes below declare.
use Rattle.std.proofs.Common.{ℕ, List, [], ◌∷◌, ◌≡◌, Bool, true, false, refl, ap, sym, ◌&&◌, ◌||◌, not, nat_eq, if◌then◌else◌, Option, None, Some, ◌∙◌, arith}
use Rattle.bast_schema.specs.Tree.{Tree, branch, Datum, child, listed, Data, none, more}
use Rattle.bast_schema.proofs.Both.{and_first, and_second, both}
use Rattle.scope_facts.specs.Roles.{part, is_function}
use Rattle.scope_facts.specs.Uses.{is_scope, is_use_of, is_name, has_entry, declares, first_name, used, used_at, used_in, used_among, crossed, crossed_at, crossed_in, crossed_among}
use Rattle.scope_facts.specs.Frames.{Frame, scope, begins, frame, all_captured, all_captured_at, is_captured, Near, nearest, fine, fine_name, fine_use, inside, respects, respects_at, respects_in, respects_among, kept, kept_at, kept_in, kept_among, kept_scope, kept_entry, kept_entries, needed}
use Rattle.scope_facts.specs.declared.roles.Part.{Part}
use Rattle.scope_facts.specs.declared.roles.Part.TheVariants.{Scope, Use, Call, Function, Other}

-- a scope without the name leaves the nearest declaration as it is
pub nearest_passes : (d : Datum) (fs : List Frame) (x : ℕ) (out : Bool) → declares x d ≡ false → nearest (frame d ∷ fs) x out ≡ nearest fs x out
nearest_passes (child (branch k (more (listed es) ds))) fs x out e = rw e refl
nearest_passes _ fs x out e = refl

pub or_right : (a b : Bool) → b ≡ true → (a || b) ≡ true
or_right true b e = refl
or_right false b e = e

pub or_left : (a b : Bool) → a ≡ true → (a || b) ≡ true
or_left a b e = rw e refl

crossed_in_node : (u n w : Bool) (p : Part) → (w ≡ true → u ≡ true) → (if is_function p then u else w) ≡ true → (n || u) ≡ true
crossed_in_node u n w Function ih e = or_right n u e
crossed_in_node u n w Use ih e = or_right n u (ih e)
crossed_in_node u n w Scope ih e = or_right n u (ih e)
crossed_in_node u n w Call ih e = or_right n u (ih e)
crossed_in_node u n w Other ih e = or_right n u (ih e)

crossed_in_field : (b c w0 w1 u0 u1 : Bool) → (w0 ≡ true → u0 ≡ true) → (w1 ≡ true → u1 ≡ true) → (if b then not c && w1 else w0 || w1) ≡ true → (if b then not c && u1 else u0 || u1) ≡ true
crossed_in_field true true w0 w1 u0 u1 f g e = cc
crossed_in_field true false w0 w1 u0 u1 f g e = g e
crossed_in_field false c true w1 u0 u1 f g e = rw (f refl) refl
crossed_in_field false c false w1 u0 u1 f g e = or_right u0 u1 (g e)

mutual
  pub crossed_used : (x : ℕ) (t : Tree) → crossed x t ≡ true → used x t ≡ true
  crossed_used x (branch k ds) e = crossed_in_node (used_in x ds) (is_use_of x (part k) ds) (crossed_in x ds) (part k) (crossed_used_in x ds) e

  pub crossed_used_at : (x : ℕ) (d : Datum) → crossed_at x d ≡ true → used_at x d ≡ true
  crossed_used_at x (child t) e = crossed_used x t e
  crossed_used_at x (listed ds) e = crossed_used_among x ds e
  crossed_used_at x _ e = cc

  pub crossed_used_in : (x : ℕ) (ds : Data) → crossed_in x ds ≡ true → used_in x ds ≡ true
  crossed_used_in x none e = cc
  crossed_used_in x (more d ds) e = crossed_in_field (is_scope d) (declares x d) (crossed_at x d) (crossed_in x ds) (used_at x d) (used_in x ds) (crossed_used_at x d) (crossed_used_in x ds) e

  pub crossed_used_among : (x : ℕ) (ds : Data) → crossed_among x ds ≡ true → used_among x ds ≡ true
  crossed_used_among x none e = cc
  crossed_used_among x (more d ds) e = crossed_in_field false false (crossed_at x d) (crossed_among x ds) (used_at x d) (used_among x ds) (crossed_used_at x d) (crossed_used_among x ds) e

name_fine : (fs : List Frame) (o : Option ℕ) → ((x : ℕ) → is_name x o ≡ true → fine (nearest fs x false) ≡ true) → fine_name fs o ≡ true
name_fine fs None h = refl
name_fine fs (Some n) h = h n (grind arith)

or_true : (a : Bool) → (a || true) ≡ true
or_true true = refl
or_true false = refl

found_fine : (d : Datum) (fs : List Frame) (x : ℕ) → declares x d ≡ true → fine (nearest (frame d ∷ fs) x false) ≡ true
found_fine (child (branch k (more (listed es) ds))) fs x e = rw e (or_true (all_captured x es))
found_fine _ fs x e = cc

kept_name : (m x : ℕ) (after : Data) (b : Bool) → nat_eq m x ≡ b → not (crossed_in m after) ≡ true → crossed_in x after ≡ true → (not (nat_eq m x) || false) ≡ true
kept_name m x after false is e c = rw is refl
kept_name m x after true is e c =
    let same : m ≡ x = grind arith
    in let f : not (crossed_in x after) ≡ true = (rw same at e)
    in let g : not true ≡ true = (rw c at f)
    in absurd cc

kept_one : (a n : Bool) (x : ℕ) (o : Option ℕ) (after : Data) → (a || not (needed o after)) ≡ true → crossed_in x after ≡ true → (not (is_name x o) || a) ≡ true
kept_one true n x o after e c = or_true (not (is_name x o))
kept_one false n x None after e c = refl
kept_one false n x (Some m) after e c = kept_name m x after (nat_eq m x) refl e c

kept_all_at : (d : Datum) (x : ℕ) (after : Data) → kept_entry d after ≡ true → crossed_in x after ≡ true → all_captured_at x d ≡ true
kept_all_at (child (branch k ds)) x after e c = kept_one (is_captured ds) true x (first_name ds) after e c
kept_all_at _ x after e c = refl

kept_all : (es : Data) (x : ℕ) (after : Data) → kept_entries es after ≡ true → crossed_in x after ≡ true → all_captured x es ≡ true
kept_all none x after e c = refl
kept_all (more d es) x after e c = both (all_captured_at x d) (all_captured x es)
    (kept_all_at d x after (and_first (kept_entry d after) (kept_entries es after) e) c)
    (kept_all es x after (and_second (kept_entry d after) (kept_entries es after) e) c)

found_kept : (d : Datum) (fs : List Frame) (x : ℕ) (after : Data) → kept_scope d after ≡ true → crossed_in x after ≡ true → declares x d ≡ true → fine (nearest (frame d ∷ fs) x true) ≡ true
found_kept (child (branch k (more (listed es) ds))) fs x after e c is = rw (is, kept_all es x after e c) refl
found_kept _ fs x after e c is = cc

below_used : (d : Datum) (fs : List Frame) (x : ℕ) (b u : Bool) → declares x d ≡ b → u ≡ true → ((not b && u) ≡ true → fine (nearest fs x false) ≡ true) → fine (nearest (frame d ∷ fs) x false) ≡ true
below_used d fs x true u is e h = found_fine d fs x is
below_used d fs x false u is e h = ap fine (nearest_passes d fs x false is) ∙ h e

below_crossed : (d : Datum) (fs : List Frame) (x : ℕ) (after : Data) (b : Bool) → declares x d ≡ b → kept_scope d after ≡ true → crossed_in x after ≡ true → ((not b && crossed_in x after) ≡ true → fine (nearest fs x true) ≡ true) → fine (nearest (frame d ∷ fs) x true) ≡ true
below_crossed d fs x after true is k c h = found_kept d fs x after k c is
below_crossed d fs x after false is k c h = ap fine (nearest_passes d fs x true is) ∙ h c

node_respects : (fs : List Frame) (p : Part) (ds : Data)
    → ((gs : List Frame) → ((x : ℕ) → used_in x ds ≡ true → fine (nearest gs x false) ≡ true) → ((x : ℕ) → crossed_in x ds ≡ true → fine (nearest gs x true) ≡ true) → respects_in gs ds ≡ true)
    → ((x : ℕ) → (is_use_of x p ds || used_in x ds) ≡ true → fine (nearest fs x false) ≡ true)
    → ((x : ℕ) → (if is_function p then used_in x ds else crossed_in x ds) ≡ true → fine (nearest fs x true) ≡ true)
    → (fine_use fs p ds && respects_in (inside p fs) ds) ≡ true
node_respects fs Use ds ih u c = both (fine_name fs (first_name ds)) (respects_in fs ds)
    (name_fine fs (first_name ds) (λ x e. u x (or_left (is_name x (first_name ds)) (used_in x ds) e)))
    (ih fs (λ x e. u x (or_right (is_name x (first_name ds)) (used_in x ds) e)) c)
node_respects fs Function ds ih u c = ih (begins ∷ fs) c (λ x e. c x (crossed_used_in x ds e))
node_respects fs Scope ds ih u c = ih fs u c
node_respects fs Call ds ih u c = ih fs u c
node_respects fs Other ds ih u c = ih fs u c

field_respects : (fs : List Frame) (d : Datum) (ds : Data) (b : Bool)
    → ((gs : List Frame) → ((x : ℕ) → used_in x ds ≡ true → fine (nearest gs x false) ≡ true) → ((x : ℕ) → crossed_in x ds ≡ true → fine (nearest gs x true) ≡ true) → respects_in gs ds ≡ true)
    → (kept_at d ≡ true → ((x : ℕ) → used_at x d ≡ true → fine (nearest fs x false) ≡ true) → ((x : ℕ) → crossed_at x d ≡ true → fine (nearest fs x true) ≡ true) → respects_at fs d ≡ true)
    → (if b then kept_scope d ds else kept_at d) ≡ true
    → ((x : ℕ) → (if b then not (declares x d) && used_in x ds else used_at x d || used_in x ds) ≡ true → fine (nearest fs x false) ≡ true)
    → ((x : ℕ) → (if b then not (declares x d) && crossed_in x ds else crossed_at x d || crossed_in x ds) ≡ true → fine (nearest fs x true) ≡ true)
    → (if b then respects_in (frame d ∷ fs) ds else respects_at fs d && respects_in fs ds) ≡ true
field_respects fs d ds true ih ih_at k u c = ih (frame d ∷ fs)
    (λ x e. below_used d fs x (declares x d) (used_in x ds) refl e (u x))
    (λ x e. below_crossed d fs x ds (declares x d) refl k e (c x))
field_respects fs d ds false ih ih_at k u c = both (respects_at fs d) (respects_in fs ds)
    (ih_at k (λ x e. u x (or_left (used_at x d) (used_in x ds) e)) (λ x e. c x (or_left (crossed_at x d) (crossed_in x ds) e)))
    (ih fs (λ x e. u x (or_right (used_at x d) (used_in x ds) e)) (λ x e. c x (or_right (crossed_at x d) (crossed_in x ds) e)))

-- where entries below are kept, and the uses that are left over are fine above, all uses are fine
mutual
  pub uses_respect : (t : Tree) (fs : List Frame) → kept t ≡ true → ((x : ℕ) → used x t ≡ true → fine (nearest fs x false) ≡ true) → ((x : ℕ) → crossed x t ≡ true → fine (nearest fs x true) ≡ true) → respects fs t ≡ true
  uses_respect (branch k ds) fs e u c = node_respects fs (part k) ds (λ gs. uses_respect_in ds gs e) u c

  pub uses_respect_at : (d : Datum) (fs : List Frame) → kept_at d ≡ true → ((x : ℕ) → used_at x d ≡ true → fine (nearest fs x false) ≡ true) → ((x : ℕ) → crossed_at x d ≡ true → fine (nearest fs x true) ≡ true) → respects_at fs d ≡ true
  uses_respect_at (child t) fs e u c = uses_respect t fs e u c
  uses_respect_at (listed ds) fs e u c = uses_respect_among ds fs e u c
  uses_respect_at _ fs e u c = refl

  pub uses_respect_in : (ds : Data) (fs : List Frame) → kept_in ds ≡ true → ((x : ℕ) → used_in x ds ≡ true → fine (nearest fs x false) ≡ true) → ((x : ℕ) → crossed_in x ds ≡ true → fine (nearest fs x true) ≡ true) → respects_in fs ds ≡ true
  uses_respect_in none fs e u c = refl
  uses_respect_in (more d ds) fs e u c = field_respects fs d ds (is_scope d)
      (λ gs. uses_respect_in ds gs (and_second (if is_scope d then kept_scope d ds else kept_at d) (kept_in ds) e))
      (uses_respect_at d fs)
      (and_first (if is_scope d then kept_scope d ds else kept_at d) (kept_in ds) e) u c

  pub uses_respect_among : (ds : Data) (fs : List Frame) → kept_among ds ≡ true → ((x : ℕ) → used_among x ds ≡ true → fine (nearest fs x false) ≡ true) → ((x : ℕ) → crossed_among x ds ≡ true → fine (nearest fs x true) ≡ true) → respects_among fs ds ≡ true
  uses_respect_among none fs e u c = refl
  uses_respect_among (more d ds) fs e u c = both (respects_at fs d) (respects_among fs ds)
      (uses_respect_at d fs (and_first (kept_at d) (kept_among ds) e) (λ x f. u x (or_left (used_at x d) (used_among x ds) f)) (λ x f. c x (or_left (crossed_at x d) (crossed_among x ds) f)))
      (uses_respect_among ds fs (and_second (kept_at d) (kept_among ds) e) (λ x f. u x (or_right (used_at x d) (used_among x ds) f)) (λ x f. c x (or_right (crossed_at x d) (crossed_among x ds) f)))
