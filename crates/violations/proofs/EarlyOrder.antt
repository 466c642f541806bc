-- The early errors of a tree go along its nodes, and at each node along the rules.
use Rattle.std.proofs.Common.{◌≡◌, ℕ, zero, suc, ◌+◌, ◌≤◌, ◌&&◌, Bool, true, List, [], ◌∷◌, map, Option, Some, None, inr, refl, ap, subst, sym, ◌∙◌, flat_map, filter_map, nat_le, arith}
use Rattle.std.specs.List.{AllByRecursion, cons_option}
use Rattle.std.proofs.lemmas.Bool.{leb-true}
use Rattle.bast_schema.specs.Tree.{Tree, nodes}
use Rattle.bast_schema.proofs.Both.{and_first, and_second}
use Rattle.early_errors.specs.Around.{Site, sites, start}
use Rattle.early_errors.specs.Early.{early, early_rules, broken, found_at, violation}
use Rattle.early_errors.specs.Preorder.{numbers_from}
use Rattle.early_errors.specs.Reading.{reading}
use Rattle.early_errors.specs.Rules.{says}
use Rattle.early_errors.specs.Strict.{Texts}
use Rattle.early_errors.specs.declared.rules.Finding.{Finding}
use Rattle.early_errors.specs.declared.rules.Finding.TheVariants.{Holds, Broken}
use Rattle.early_errors.proofs.Sites.{numbers_are}
use Rattle.scope_facts.specs.declared.context.Ctx.{Ctx}
use Rattle.scope_facts.specs.declared.context.Rule.{Rule}
use Rattle.scope_facts.specs.declared.context.Rule.TheVariants.{E18}
use Rattle.scope_facts.specs.declared.context.Violation.{Violation}
use Rattle.violations.specs.Violations.{NotAfter, place_of}
use Rattle.violations.proofs.Along.{Along, Between, Led, all_weaker, joined, nowhere, widened}

-- by one of the rules on early errors
abbrev pub IsEarly : Violation → Type 0
IsEarly v = place_of v.rule ≤ place_of E18

-- at one node by a rule from a place on
abbrev ByRule : ℕ → ℕ → Violation → Type 0
ByRule n place v = IsEarly v × (v.node ≡ n) × (place ≤ place_of v.rule)

-- a rule finds itself broken, at the node that it was asked of
abbrev Finds : ℕ → Rule → Option Violation → Type 0
Finds n r (Some v) = (v.node ≡ n) × (v.rule ≡ r)
Finds n r None = Unit {0}

found_there : (n : ℕ) (r : Rule) (f : Finding) → Finds n r (violation n r f)
found_there n r (Broken name) = (refl, refl)
found_there n r Holds = tt

-- rules on early errors in their order, from a place on
abbrev ascending : ℕ → List Rule → Bool
ascending place [] = true
ascending place (r ∷ rs) = (nat_le place (place_of r) && nat_le (place_of r) (place_of E18)) && ascending (place_of r + 1) rs

all_ascend : ascending 0 early_rules ≡ true
unfolding early_rules
all_ascend = refl

record Ordered (n place : ℕ) (vs : List Violation) : Type 0 where
  by_rule : AllByRecursion (ByRule n place) vs
  led : Led vs

with_first : (n place : ℕ) (r : Rule) (o : Option Violation) (vs : List Violation) → Finds n r o → place ≤ place_of r → place_of r ≤ place_of E18
    → Ordered n (place_of r + 1) vs → Ordered n place (cons_option o vs)
with_first n place r None vs finds low high rest = record {
  by_rule = all_weaker (ByRule n (place_of r + 1)) (ByRule n place) (λ v h. (h.0, h.1, omega (arith, h.2))) vs rest.by_rule;
  led = rest.led;
}
with_first n place r (Some v) vs finds low high rest =
    let here : place_of v.rule ≡ place_of r = ap place_of finds.1 in
    record {
      by_rule = ((omega arith, finds.0, omega arith), all_weaker (ByRule n (place_of r + 1)) (ByRule n place) (λ w h. (h.0, h.1, omega (arith, h.2))) vs rest.by_rule);
      led = all_weaker (ByRule n (place_of r + 1)) (NotAfter v) (λ w h. inr (finds.0 ∙ sym h.1, omega (arith, h.2))) vs rest.by_rule;
    }

in_order : (n : ℕ) (f : Rule → Option Violation) → ((r : Rule) → Finds n r (f r)) → (place : ℕ) (rs : List Rule) → ascending place rs ≡ true → Ordered n place (filter_map f rs)
in_order n f finds place [] up = record { by_rule = tt; led = tt }
in_order n f finds place (r ∷ rs) up =
    let here = and_first (nat_le place (place_of r) && nat_le (place_of r) (place_of E18)) (ascending (place_of r + 1) rs) up in
    with_first n place r (f r) (filter_map f rs) (finds r)
    (leb-true place (place_of r) (and_first (nat_le place (place_of r)) (nat_le (place_of r) (place_of E18)) here))
    (leb-true (place_of r) (place_of E18) (and_second (nat_le place (place_of r)) (nat_le (place_of r) (place_of E18)) here))
    (in_order n f finds (place_of r + 1) rs (and_second (nat_le place (place_of r) && nat_le (place_of r) (place_of E18)) (ascending (place_of r + 1) rs) up))

-- what is found at a node
at_node : (s : Texts) (x : Site) → Along IsEarly x.number (x.number + 1) (found_at s x)
at_node s x =
    let ordered = in_order x.number (broken s x.number x.around x.tree) (λ r. found_there x.number r (says r (reading s x.around x.tree))) 0 early_rules all_ascend in
    record {
      between = all_weaker (ByRule x.number 0) (Between IsEarly x.number (x.number + 1)) (λ v h. (h.0, omega (arith, h.1), omega (arith, h.1))) (found_at s x) ordered.by_rule;
      led = ordered.led;
    }

first_number : (n m : ℕ) (ns ms : List ℕ) → (n ∷ ns) ≡ (m ∷ ms) → (n ≡ m) × (ns ≡ ms)
first_number n m ns ms e = (cc, cc)

along_sites : (s : Texts) (xs : List Site) (n count : ℕ) → map (λ (x : Site). x.number) xs ≡ numbers_from n count → Along IsEarly n (n + count) (flat_map (found_at s) xs)
along_sites s [] n count e = nowhere IsEarly n (n + count)
along_sites s (x ∷ xs) n zero e = absurd cc
along_sites s (x ∷ xs) n (suc count) e =
    let f = first_number x.number n (map (λ (y : Site). y.number) xs) (numbers_from (n + 1) count) e in
    let here : Along IsEarly n (n + 1) (found_at s x) = subst (λ (m : ℕ). Along IsEarly m (m + 1) (found_at s x)) f.0 (at_node s x) in
    let rest = along_sites s xs (n + 1) count f.1 in
    joined IsEarly n (n + 1) (n + suc count) (found_at s x) (flat_map (found_at s) xs) (omega arith) (omega arith) here (widened IsEarly (n + 1) (n + 1 + count) (n + 1) (n + suc count) (flat_map (found_at s) xs) (omega arith) (omega arith) rest)

pub early_along : (s : Texts) (c : Ctx) (t : Tree) → Along IsEarly 0 (0 + nodes t) (early s c t)
early_along s c t = along_sites s (sites s (start c) 0 t) 0 (nodes t) (numbers_are s (start c) 0 t)
