-- What a spelling begins with, and that what is left of it is spelled so.
use Rattle.std.proofs.Common.{◌≡◌, ℕ, zero, suc, ◌+◌, ◌*◌, ◌/◌, ◌%◌, ◌^◌, ◌<◌, ◌≤◌, [], ◌∷◌, length, refl, ap, arith, inl, inr}
use Rattle.std.specs.List.{All}
use Rattle.std.proofs.Math.Nat.{pow-suc}
use Rattle.std.proofs.lemmas.Bool.{lt-ltb, le-ltb, cases_lt}
use Rattle.std.proofs.lemmas.List.Elements.{All-nil, All-cons}
use Rattle.var_numbers.specs.Varnum.{varnum, varnum_within}

-- more room changes nothing
within-within : (f g n : ℕ) → n ≤ f → n ≤ g → varnum_within f n ≡ varnum_within g n
within-within zero zero n p q = refl
within-within zero (suc g) n p q = let e : n ≡ 0 = omega arith in rw e refl
within-within (suc f) zero n p q = let e : n ≡ 0 = omega arith in rw e refl
within-within (suc f) (suc g) n p q = grind (arith, within-within f g (n / 128))

pub varnum-last : (n : ℕ) → n < 128 → varnum n ≡ 2 * n ∷ []
unfolding varnum
varnum-last zero p = refl
varnum-last (suc n) p = rw (lt-ltb (suc n) 128 p) refl

pub varnum-more : (n : ℕ) → 128 ≤ n → varnum n ≡ (2 * (n % 128) + 1) ∷ varnum (n / 128)
unfolding varnum
varnum-more zero p = absurd (omega arith)
varnum-more (suc n) p =
    rw (le-ltb (suc n) 128 p) (ap (λ more. (2 * (suc n % 128) + 1) ∷ more) (within-within n (suc n / 128) (suc n / 128) (omega arith) (omega arith)))

pub ruleset spellings = (varnum-last, varnum-more)

by_groups_within : (P : ℕ → Type 0) → ((n : ℕ) → n < 128 → P n) → ((n : ℕ) → 128 ≤ n → P (n / 128) → P n) → (bound n : ℕ) → n ≤ bound → P n
by_groups_within P base step zero n p = base n (omega arith)
by_groups_within P base step (suc bound) n p =
    elim (cases_lt n 128) [
      | inl low ↦ base n low
      | inr high ↦ step n high (by_groups_within P base step bound (n / 128) (omega arith))
    ]

-- an induction over the groups of a number
pub by_groups : (P : ℕ → Type 0) → ((n : ℕ) → n < 128 → P n) → ((n : ℕ) → 128 ≤ n → P (n / 128) → P n) → (n : ℕ) → P n
by_groups P base step n = by_groups_within P base step n n (omega arith)

-- each byte of a spelling is one
pub varnum-bytes : (n : ℕ) → All (λ byte. byte < 256) (varnum n)
varnum-bytes n =
    by_groups
    (λ m. All (λ byte. byte < 256) (varnum m))
    (λ m p. rw (varnum-last m p) (All-cons (λ byte. byte < 256) (2 * m) [] (omega arith) (All-nil (λ byte. byte < 256))))
    (λ m p h. rw (varnum-more m p) (All-cons (λ byte. byte < 256) (2 * (m % 128) + 1) (varnum (m / 128)) (omega arith) h))
    n

-- no spelling is empty
pub varnum-nonempty : (n : ℕ) → 1 ≤ length (varnum n)
varnum-nonempty n =
    by_groups
    (λ m. 1 ≤ length (varnum m))
    (λ m p. rw (varnum-last m p) (omega arith))
    (λ m p h. rw (varnum-more m p) (omega arith))
    n

-- a number of so many groups of seven bits has a byte for each at most
pub varnum-length_le : (groups n : ℕ) → n < 128 ^ suc groups → length (varnum n) ≤ suc groups
varnum-length_le zero n p = rw (varnum-last n (omega arith)) (omega arith)
varnum-length_le (suc groups) n p =
    elim (cases_lt n 128) [
      | inl low ↦ rw (varnum-last n low) (omega arith)
      | inr high ↦
          let shorter : length (varnum (n / 128)) ≤ suc groups = varnum-length_le groups (n / 128) (omega (arith, pow-suc 128 (suc groups))) in
          rw (varnum-more n high) (omega arith)
    ]

-- a number of 32 bits has five bytes at most
pub varnum-short : (n : ℕ) → n < 2 ^ 32 → length (varnum n) ≤ 5
varnum-short n p = varnum-length_le 4 n (omega arith)

pub ruleset spelling_lengths = (varnum-nonempty, varnum-short)
