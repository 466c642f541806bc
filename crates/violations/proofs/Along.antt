-- Lists of violations that go along the nodes of a tree.
use Rattle.std.proofs.Common.{ℕ, ◌<◌, ◌≤◌, List, [], ◌∷◌, ◌++◌, inl, arith}
use Rattle.std.specs.List.{AllByRecursion}
use Rattle.scope_facts.specs.declared.context.Violation.{Violation}
use Rattle.violations.specs.Violations.{NotAfter}

-- none of the list comes before its first
abbrev pub Led : List Violation → Type 0
Led [] = Unit {0}
Led (v ∷ vs) = AllByRecursion (NotAfter v) vs

-- of a kind, and at nodes from `from` up to `to`
abbrev pub Between : (Violation → Type 0) → ℕ → ℕ → Violation → Type 0
Between P from to v = P v × (from ≤ v.node) × (v.node < to)

pub record Along (P : Violation → Type 0) (from to : ℕ) (vs : List Violation) : Type 0 where
  pub between : AllByRecursion (Between P from to) vs
  pub led : Led vs

pub all_weaker : {A : Type 0} (P Q : A → Type 0) → ((x : A) → P x → Q x) → (xs : List A) → AllByRecursion P xs → AllByRecursion Q xs
all_weaker P Q f [] h = tt
all_weaker P Q f (x ∷ xs) h = (f x h.0, all_weaker P Q f xs h.1)

all_append : {A : Type 0} (P : A → Type 0) (xs ys : List A) → AllByRecursion P xs → AllByRecursion P ys → AllByRecursion P (xs ++ ys)
all_append P [] ys h k = k
all_append P (x ∷ xs) ys h k = (h.0, all_append P xs ys h.1 k)

pub nowhere : (P : Violation → Type 0) (from to : ℕ) → Along P from to []
nowhere P from to = record { between = tt; led = tt }

pub widened : (P : Violation → Type 0) (from to from' to' : ℕ) (vs : List Violation) → from' ≤ from → to ≤ to' → Along P from to vs → Along P from' to' vs
widened P from to from' to' vs low high a = record {
  between = all_weaker (Between P from to) (Between P from' to') (λ v h. (h.0, omega (arith, h.1), omega (arith, h.2))) vs a.between;
  led = a.led;
}

later : (P : Violation → Type 0) (from mid to : ℕ) (v : Violation) → Between P from mid v → (ys : List Violation) → AllByRecursion (Between P mid to) ys → AllByRecursion (NotAfter v) ys
later P from mid to v b ys h = all_weaker (Between P mid to) (NotAfter v) (λ w k. inl (omega (arith, k.1, b.2))) ys h

joined_led : (P : Violation → Type 0) (from mid to : ℕ) (xs ys : List Violation) → Along P from mid xs → Along P mid to ys → Led (xs ++ ys)
joined_led P from mid to [] ys a b = b.led
joined_led P from mid to (x ∷ xs) ys a b = all_append (NotAfter x) xs ys a.led (later P from mid to x a.between.0 ys b.between)

-- one list after the other, along further nodes
pub joined : (P : Violation → Type 0) (from mid to : ℕ) (xs ys : List Violation) → from ≤ mid → mid ≤ to → Along P from mid xs → Along P mid to ys → Along P from to (xs ++ ys)
joined P from mid to xs ys low high a b = record {
  between = all_append (Between P from to) xs ys (widened P from mid from to xs (omega arith) high a).between (widened P mid to from to ys low (omega arith) b).between;
  led = joined_led P from mid to xs ys a b;
}
