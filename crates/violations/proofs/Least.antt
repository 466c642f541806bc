-- The first violation of two lists is the least of both.
use Rattle.std.proofs.Common.{◌≡◌, ◌⊎◌, ℕ, ◌+◌, ◌<◌, ◌≤◌, Bool, true, false, List, [], ◌∷◌, Option, Some, None, IfSome, inl, inr, refl, ◌∙◌, nat_lt, eq-or-lt_of_le, arith, lit≤, if◌then◌else◌}
use Rattle.std.specs.List.{Contains}
use Rattle.std.proofs.lemmas.Bool.{ltb-false, ltb-true}
use Rattle.std.proofs.lemmas.List.Elements.{All-contains, All-from_recursion}
use Rattle.bast_schema.specs.Tree.{Tree, nodes}
use Rattle.early_errors.specs.Early.{early, first}
use Rattle.scope_check.specs.Untrue.{untrue}
use Rattle.scope_facts.specs.declared.context.Ctx.{Ctx}
use Rattle.scope_facts.specs.declared.context.Rule.TheVariants.{E18, A1}
use Rattle.scope_facts.specs.declared.context.Violation.{Violation}
use Rattle.violations.specs.Laws.{FirstIsLeast, IsLeast}
use Rattle.violations.specs.Violations.{NotAfter, earlier, first_violation, place_of}
use Rattle.violations.proofs.Along.{Between, Led}
use Rattle.violations.proofs.EarlyOrder.{early_along, IsEarly}
use Rattle.violations.proofs.UntrueOrder.{untrue_along, IsUntrue}

itself : (v : Violation) → NotAfter v v
itself v = inr (refl, omega arith)

none_in_empty : {A : Type 0} (x : A) → Contains [] x → ⊥
none_in_empty x c = let below : c.0 < 0 = c.1 in omega arith

-- the first of a list does not come after any other of it
led_by : (v : Violation) (vs : List Violation) → Led (v ∷ vs) → (w : Violation) → Contains (v ∷ vs) w → NotAfter v w
led_by v vs led w c = All-contains (NotAfter v) (v ∷ vs) w (All-from_recursion (NotAfter v) (v ∷ vs) (itself v, led)) c

first_is_in : (v : Violation) (vs : List Violation) → Contains (v ∷ vs) v
first_is_in v vs = (0, omega arith, refl)

not_after_both : (u v w : Violation) → NotAfter u v → NotAfter v w → NotAfter u w
not_after_both u v w (inl a) (inl b) = inl (omega arith)
not_after_both u v w (inl a) (inr b) = inl (omega (arith, b.0))
not_after_both u v w (inr a) (inl b) = inl (omega (arith, a.0))
not_after_both u v w (inr a) (inr b) = inr (a.0 ∙ b.0, omega (arith, a.1, b.1))

-- the sooner of the first of both lists is the least
record Lists (es us : List Violation) : Type 0 where
  early : Led es
  untrue : Led us
  apart : (v w : Violation) → Contains es v → Contains us w → place_of v.rule ≤ place_of w.rule

abbrev IsIn : List Violation → List Violation → Violation → Type 0
IsIn es us v = Contains es v ⊎ Contains us v

record LeastOf (es us : List Violation) (v : Violation) : Type 0 where
  stands : IsIn es us v
  least : (w : Violation) → IsIn es us w → NotAfter v w

from_early : (v w : Violation) (es us : List Violation) → Led (v ∷ es) → Led (w ∷ us) → NotAfter v w → LeastOf (v ∷ es) (w ∷ us) v
from_early v w es us e u before = record {
  stands = inl (first_is_in v es);
  least = λ x is. elim is [ inl c ↦ led_by v es e x c | inr c ↦ not_after_both v w x before (led_by w us u x c) ];
}

from_untrue : (v w : Violation) (es us : List Violation) → Led (v ∷ es) → Led (w ∷ us) → NotAfter w v → LeastOf (v ∷ es) (w ∷ us) w
from_untrue v w es us e u before = record {
  stands = inr (first_is_in w us);
  least = λ x is. elim is [ inl c ↦ not_after_both w v x before (led_by v es e x c) | inr c ↦ led_by w us u x c ];
}

sooner_of : (b : Bool) (v w : Violation) (es us : List Violation) → nat_lt w.node v.node ≡ b → Lists (v ∷ es) (w ∷ us) → LeastOf (v ∷ es) (w ∷ us) (if b then w else v)
sooner_of true v w es us is l = from_untrue v w es us l.early l.untrue (inl (ltb-true w.node v.node is))
sooner_of false v w es us is l =
    let rules : place_of v.rule ≤ place_of w.rule = l.apart v w (first_is_in v es) (first_is_in w us) in
    let nodes : v.node ≤ w.node = ltb-false w.node v.node is in
    from_early v w es us l.early l.untrue (elim (eq-or-lt_of_le nodes) [ inl same ↦ inr (same, rules) | inr less ↦ inl less ])

first_is_least : (es us : List Violation) → Lists es us → IfSome (earlier (first es) (first us)) (LeastOf es us)
first_is_least [] [] l = tt
first_is_least [] (w ∷ us) l = record {
  stands = inr (first_is_in w us);
  least = λ x is. elim is [ inl c ↦ absurd (none_in_empty x c) | inr c ↦ led_by w us l.untrue x c ];
}
first_is_least (v ∷ es) [] l = record {
  stands = inl (first_is_in v es);
  least = λ x is. elim is [ inl c ↦ led_by v es l.early x c | inr c ↦ absurd (none_in_empty x c) ];
}
first_is_least (v ∷ es) (w ∷ us) l = sooner_of (nat_lt w.node v.node) v w es us refl l

both_empty : (es us : List Violation) → earlier (first es) (first us) ≡ None → (es ≡ []) × (us ≡ [])
both_empty [] [] e = (refl, refl)
both_empty [] (w ∷ us) e = absurd cc
both_empty (v ∷ es) [] e = absurd cc
both_empty (v ∷ es) (w ∷ us) e = absurd cc

lists_of : (texts : List (Option (List ℕ))) (c : Ctx) (t : Tree) → Lists (early texts c t) (untrue texts c t)
lists_of texts c t =
    let e = early_along texts c t in
    let u = untrue_along texts c t in
    record {
      early = e.led;
      untrue = u.led;
      apart = λ v w at_v at_w.
          let early_rule : place_of v.rule ≤ place_of E18 = (All-contains (Between IsEarly 0 (0 + nodes t)) (early texts c t) v (All-from_recursion (Between IsEarly 0 (0 + nodes t)) (early texts c t) e.between) at_v).0 in
          let untrue_rule : place_of A1 ≤ place_of w.rule = (All-contains (Between IsUntrue 0 (0 + nodes t)) (untrue texts c t) w (All-from_recursion (Between IsUntrue 0 (0 + nodes t)) (untrue texts c t) u.between) at_w).0 in
          let between : place_of E18 ≤ place_of A1 = lit≤ tt in
          omega arith;
    }

as_least : (texts : List (Option (List ℕ))) (c : Ctx) (t : Tree) (o : Option Violation) → IfSome o (LeastOf (early texts c t) (untrue texts c t)) → IfSome o (IsLeast texts c t)
as_least texts c t None h = tt
as_least texts c t (Some v) h = record { stands = h.stands; least = h.least }

pub first_violation_is_least : (texts : List (Option (List ℕ))) (c : Ctx) (t : Tree) → FirstIsLeast texts c t
first_violation_is_least texts c t = record {
  least = as_least texts c t (first_violation texts c t) (first_is_least (early texts c t) (untrue texts c t) (lists_of texts c t));
  none = λ e. let b = both_empty (early texts c t) (untrue texts c t) e in record { no_early = b.0; no_untrue = b.1 };
  sound = λ s. rw (s.no_early, s.no_untrue) refl;
}
