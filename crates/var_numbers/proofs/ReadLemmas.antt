-- What is read of a list of bytes.
use Rattle.std.proofs.Common.{◌≡◌, ℕ, suc, ◌+◌, ◌*◌, ◌/◌, ◌%◌, ◌^◌, ◌<◌, ◌≤◌, ◌⊎◌, List, ◌∷◌, ◌++◌, length, take, drop, slice_index, refl, sym, ap, ◌∙◌, arith, inl, inr, Ok, false, length-append, Err}
use Rattle.std.proofs.Math.Nat.{pow-suc, pow-le-pow_right, mul_assoc}
use Rattle.std.proofs.lemmas.Bool.{lt-ltb, le-ltb, cases_lt, eq-eqb, ne_eqb, and_from, and_left, and_right, or_left, or_right, or_from}
use Rattle.std.proofs.lemmas.List.{take_at, drop_at}
use Rattle.bast_base.specs.declared.errors.Why.TheVariants.{Ended, Overlong, TooBig}
use Rattle.var_numbers.specs.Varnum.{varnum}
use Rattle.var_numbers.specs.VarnumRead.{last_place, groups_sum, is_ended, is_too_big, is_overlong, number_in}
use Rattle.var_numbers.proofs.VarnumLemmas.{varnum-last, varnum-more, by_groups}

pub last_place-even : (byte : ℕ) (more : List ℕ) → byte % 2 ≡ 0 → last_place (byte ∷ more) ≡ 0
last_place-even byte more even = rw even refl

pub last_place-odd : (byte : ℕ) (more : List ℕ) → byte % 2 ≡ 1 → last_place (byte ∷ more) ≡ suc (last_place more)
last_place-odd byte more odd = rw odd (omega arith)

pub groups_sum-varnum : (n : ℕ) → groups_sum (varnum n) ≡ n
groups_sum-varnum n =
    by_groups
    (λ m. groups_sum (varnum m) ≡ m)
    (λ m p. rw (varnum-last m p) (omega arith))
    (λ m p h. rw (varnum-more m p) (omega arith))
    n

-- what bytes that begin with the spelling of n show
pub record Front (n : ℕ) (bytes : List ℕ) : Type 0 where
  pub place : last_place bytes + 1 ≡ length (varnum n)
  pub used : 0 < n → 0 < slice_index bytes (last_place bytes)
  pub even : slice_index bytes (last_place bytes) % 2 ≡ 0
  pub small : slice_index bytes (last_place bytes) * 128 ^ last_place bytes ≤ 2 * n
  pub short : 0 < n → 128 ^ last_place bytes ≤ n
  pub later : 0 < last_place bytes → 0 < n

front-last : (n : ℕ) (more : List ℕ) → n < 128 → Front n (2 * n ∷ more)
front-last n more p =
    let even : (2 * n) % 2 ≡ 0 = omega arith in
    let here : last_place (2 * n ∷ more) ≡ 0 = last_place-even (2 * n) more even in
    record {
      place = omega (arith, ap length (varnum-last n p));
      used = λ q. rw here (omega arith);
      even = rw here even;
      small = rw here (omega arith);
      short = λ q. rw here (omega arith);
      later = λ q. omega arith;
    }

front-more : (n : ℕ) (rest : List ℕ) → 128 ≤ n → Front (n / 128) rest → Front n ((2 * (n % 128) + 1) ∷ rest)
front-more n rest p f =
    let odd : (2 * (n % 128) + 1) % 2 ≡ 1 = omega arith in
    let here : last_place ((2 * (n % 128) + 1) ∷ rest) ≡ suc (last_place rest) = last_place-odd (2 * (n % 128) + 1) rest odd in
    let wider : 128 ^ suc (last_place rest) ≡ 128 ^ last_place rest * 128 = pow-suc 128 (last_place rest) in
    let byte = slice_index rest (last_place rest) in
    let product : byte * (128 ^ last_place rest * 128) ≡ byte * 128 ^ last_place rest * 128 = sym (mul_assoc byte (128 ^ last_place rest) 128) in
    record {
      place = omega (arith, f.place, ap length (varnum-more n p));
      used = λ q. rw here (f.used (omega arith));
      even = rw here f.even;
      small = rw (here, wider, product) (omega (arith, f.small));
      short = λ q. rw (here, wider) (omega (arith, f.short (omega arith)));
      later = λ q. omega arith;
    }

pub front_of : (n : ℕ) (more : List ℕ) → Front n (varnum n ++ more)
front_of n more =
    by_groups
    (λ m. Front m (varnum m ++ more))
    (λ m p. rw (varnum-last m p) (front-last m more p))
    (λ m p f. rw (varnum-more m p) (front-more m (varnum (m / 128) ++ more) p f))
    n

-- what bytes that begin with a number show
pub record IsSpelled (bytes : List ℕ) : Type 0 where
  pub within : last_place bytes < length bytes
  pub few : last_place bytes ≤ 4
  pub small : last_place bytes ≡ 4 → slice_index bytes 4 ≤ 0x1E
  pub used : 0 < last_place bytes → 0 < slice_index bytes (last_place bytes)

pub answer-ended : (bytes : List ℕ) → length bytes < 5 → last_place bytes ≡ length bytes → number_in bytes ≡ Err (record { at = length bytes; why = Ended })
unfolding number_in
answer-ended bytes p q = rw (and_from _ _ (lt-ltb (length bytes) 5 p) (eq-eqb (last_place bytes) (length bytes) q)) refl

not_ended : (bytes : List ℕ) → (4 < length bytes) ⊎ (last_place bytes < length bytes) → is_ended bytes ≡ false
not_ended bytes (inl p) = and_left _ _ (le-ltb (length bytes) 5 p)
not_ended bytes (inr p) = and_right _ _ (ne_eqb (last_place bytes) (length bytes) (λ e. omega arith))

pub answer-too_big : (bytes : List ℕ) → 4 < length bytes → (4 < last_place bytes) ⊎ ((last_place bytes ≡ 4) × (0x1E < slice_index bytes 4)) → number_in bytes ≡ Err (record { at = 4; why = TooBig })
unfolding number_in
answer-too_big bytes p (inl far) = rw (not_ended bytes (inl p), or_left _ _ (lt-ltb 4 (last_place bytes) far)) refl
answer-too_big bytes p (inr h) =
    rw (not_ended bytes (inl p), or_right _ _ (and_from _ _ (eq-eqb (last_place bytes) 4 h.0) (lt-ltb 0x1E (slice_index bytes 4) h.1))) refl

not_too_big : (bytes : List ℕ) → last_place bytes ≤ 4 → (last_place bytes ≡ 4 → slice_index bytes 4 ≤ 0x1E) → is_too_big bytes ≡ false
not_too_big bytes few small =
    elim (cases_lt (last_place bytes) 4) [
      | inl p ↦ or_from _ _ (le-ltb 4 (last_place bytes) few) (and_left _ _ (ne_eqb (last_place bytes) 4 (λ e. omega arith)))
      | inr p ↦ or_from _ _ (le-ltb 4 (last_place bytes) few) (and_right _ _ (le-ltb 0x1E (slice_index bytes 4) (small (omega arith))))
    ]

pub answer-overlong : (bytes : List ℕ) → last_place bytes < length bytes → last_place bytes ≤ 4 → 0 < last_place bytes → slice_index bytes (last_place bytes) ≡ 0 → number_in bytes ≡ Err (record { at = last_place bytes; why = Overlong })
unfolding number_in
answer-overlong bytes within few later empty =
    let small : last_place bytes ≡ 4 → slice_index bytes 4 ≤ 0x1E = λ e. let none : slice_index bytes 4 ≡ 0 = rw e at empty in omega arith in
    rw (not_ended bytes (inr within), not_too_big bytes few small, and_from _ _ (lt-ltb 0 (last_place bytes) later) (eq-eqb (slice_index bytes (last_place bytes)) 0 empty)) refl

not_overlong : (bytes : List ℕ) → (0 < last_place bytes → 0 < slice_index bytes (last_place bytes)) → is_overlong bytes ≡ false
not_overlong bytes used =
    elim (cases_lt 0 (last_place bytes)) [
      | inl p ↦ and_right _ _ (ne_eqb (slice_index bytes (last_place bytes)) 0 (λ e. omega (arith, used p)))
      | inr p ↦ and_left _ _ (le-ltb 0 (last_place bytes) p)
    ]

pub answer-number : (bytes : List ℕ) → IsSpelled bytes → number_in bytes ≡ Ok (groups_sum (take (last_place bytes + 1) bytes), last_place bytes + 1)
unfolding number_in
answer-number bytes s =
    rw (not_ended bytes (inr s.within), not_too_big bytes s.few s.small, not_overlong bytes s.used) refl

spelled-from_front : (n : ℕ) (bytes : List ℕ) → n < 2 ^ 32 → length (varnum n) ≤ length bytes → Front n bytes → IsSpelled bytes
spelled-from_front n bytes fits long f =
    let few : last_place bytes ≤ 4 = elim (cases_lt (last_place bytes) 5) [
      | inl p ↦ omega arith
      | inr p ↦
          let wide : 128 ^ 5 ≤ 128 ^ last_place bytes = pow-le-pow_right (omega arith) p in
          absurd (omega (arith, f.short (f.later (omega arith))))
    ] in
    record {
      within = omega (arith, f.place);
      few = few;
      small = λ e.
          let even = rw e at f.even in
          let small = rw e at f.small in
          omega arith;
      used = λ p. f.used (f.later p);
    }

-- a number is read from the front of any bytes that begin with its spelling
pub number_in-varnum : (n : ℕ) (more : List ℕ) → n < 2 ^ 32 → number_in (varnum n ++ more) ≡ Ok (n, length (varnum n))
number_in-varnum n more fits =
    let f = front_of n more in
    let long : length (varnum n) ≤ length (varnum n ++ more) = omega (arith, length-append (varnum n) more) in
    let front : take (length (varnum n)) (varnum n ++ more) ≡ varnum n = take_at (varnum n) more (length (varnum n)) refl in
    let whole : groups_sum (take (length (varnum n)) (varnum n ++ more)) ≡ n = ap groups_sum front ∙ groups_sum-varnum n in
    rw (answer-number (varnum n ++ more) (spelled-from_front n (varnum n ++ more) fits long f), f.place, whole) refl

-- one spelling a number, and none is a front of another
pub varnum-prefix_free : (m n : ℕ) (x y : List ℕ) → varnum m ++ x ≡ varnum n ++ y → (m ≡ n) × (x ≡ y)
varnum-prefix_free m n x y e =
    let long : length (varnum m) ≡ length (varnum n) =
    sym (front_of m x).place ∙ ap (λ bytes. last_place bytes + 1) e ∙ (front_of n y).place in
    let front : varnum m ≡ varnum n =
    sym (take_at (varnum m) x (length (varnum m)) refl) ∙ ap (λ bytes. take (length (varnum m)) bytes) e ∙ take_at (varnum n) y (length (varnum m)) (sym long) in
    let rest : x ≡ y =
    sym (drop_at (varnum m) x (length (varnum m)) refl) ∙ ap (λ bytes. drop (length (varnum m)) bytes) e ∙ drop_at (varnum n) y (length (varnum m)) (sym long) in
    (sym (groups_sum-varnum m) ∙ ap groups_sum front ∙ groups_sum-varnum n, rest)
