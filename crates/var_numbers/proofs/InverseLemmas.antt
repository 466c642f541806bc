-- That a number is read only of bytes that spell it.
use Rattle.std.proofs.Common.{◌≡◌, ℕ, ◌+◌, ◌*◌, ◌/◌, ◌%◌, ◌^◌, ◌<◌, ◌≤◌, List, [], ◌∷◌, ◌++◌, Ok, false, length, take, drop, slice_index, refl, sym, ap, arith, inl, inr, take-append-drop}
use Rattle.std.specs.List.{All}
use Rattle.std.proofs.Math.Nat.{pow-suc}
use Rattle.std.proofs.lemmas.Bool.{cases_lt, cases_Bool, ltb-false, eqb-false, eqb-true, and_cases, or_parts}
use Rattle.std.proofs.lemmas.List.{length-take-le}
use Rattle.std.proofs.lemmas.List.Sums.{passes_at_first}
use Rattle.std.proofs.lemmas.List.Elements.{All-head, All-tail, All-take}
use Rattle.var_numbers.specs.Varnum.{varnum}
use Rattle.var_numbers.specs.VarnumRead.{is_last, last_place, groups_sum, is_ended, is_too_big, is_overlong, number_in}
use Rattle.var_numbers.proofs.ReadLemmas.{IsSpelled}
use Rattle.var_numbers.proofs.ReadingLemmas.{Reading, Last, place_within, reading-fits, number-here, spelled-here}

within-from_tests : (bytes : List ℕ) → is_ended bytes ≡ false → last_place bytes ≤ 4 → last_place bytes < length bytes
within-from_tests bytes not_ended few =
    elim (and_cases _ _ not_ended) [
      | inl long ↦ let five : 5 ≤ length bytes = ltb-false (length bytes) 5 long in omega arith
      | inr apart ↦
          elim (cases_lt (last_place bytes) (length bytes)) [
            | inl p ↦ p
            | inr p ↦ absurd (eqb-false (last_place bytes) (length bytes) apart (omega (arith, place_within bytes)))
          ]
    ]

spelled-from_tests : (bytes : List ℕ) → is_ended bytes ≡ false → is_too_big bytes ≡ false → is_overlong bytes ≡ false → IsSpelled bytes
spelled-from_tests bytes not_ended not_big not_long =
    let big = or_parts _ _ not_big in
    let few : last_place bytes ≤ 4 = ltb-false 4 (last_place bytes) big.0 in
    record {
      within = within-from_tests bytes not_ended few;
      few = few;
      small = λ fifth. elim (and_cases _ _ big.1) [
        | inl apart ↦ absurd (eqb-false (last_place bytes) 4 apart fifth)
        | inr small ↦ ltb-false 0x1E (slice_index bytes 4) small
      ];
      used = λ later. elim (and_cases _ _ not_long) [
        | inl first ↦ let none : last_place bytes ≤ 0 = ltb-false 0 (last_place bytes) first in absurd (omega arith)
        | inr some ↦
            elim (cases_lt 0 (slice_index bytes (last_place bytes))) [
              | inl p ↦ p
              | inr p ↦ absurd (eqb-false (slice_index bytes (last_place bytes)) 0 some (omega arith))
            ]
      ];
    }

pub spelled-from_number : (bytes : List ℕ) (answer : ℕ × ℕ) → number_in bytes ≡ Ok answer → IsSpelled bytes
unfolding number_in
spelled-from_number bytes answer is =
    elim (cases_Bool (is_ended bytes)) [
      | inl ended ↦ let no = rw ended at is in cc
      | inr not_ended ↦
          elim (cases_Bool (is_too_big bytes)) [
            | inl big ↦ let no = rw (not_ended, big) at is in cc
            | inr not_big ↦
                elim (cases_Bool (is_overlong bytes)) [
                  | inl long ↦ let no = rw (not_ended, not_big, long) at is in cc
                  | inr not_long ↦ spelled-from_tests bytes not_ended not_big not_long
                ]
          ]
    ]

-- so many groups make a number below 128 to their count
groups_sum-below : (bytes : List ℕ) → All (λ byte. byte < 256) bytes → groups_sum bytes < 128 ^ length bytes
groups_sum-below [] small = omega arith
groups_sum-below (byte ∷ more) small =
    let first : byte < 256 = All-head (λ b. b < 256) byte more small in
    rw (pow-suc 128 (length more)) (omega (arith, groups_sum-below more (All-tail (λ b. b < 256) byte more small)))

-- what a reader has behind it before the last byte
reading-of : (bytes : List ℕ) → All (λ byte. byte < 256) bytes → IsSpelled bytes → Reading bytes (last_place bytes) (groups_sum (take (last_place bytes) bytes)) (128 ^ last_place bytes)
reading-of bytes small s =
    let k = last_place bytes in
    let long : length (take k bytes) ≡ k = length-take-le k bytes (omega (arith, s.within)) in
    let front : All (λ b. b < 256) (take k bytes) = All-take (λ b. b < 256) k bytes small in
    let below : groups_sum (take k bytes) < 128 ^ k = rw long at (groups_sum-below (take k bytes) front) in
    record { few = s.few; on = omega arith; sum = refl; scale_is = refl; below = below; small = front }

-- What is read as a number is its spelling, and has 32 bits.
pub record IsReadAs (bytes : List ℕ) (n count : ℕ) : Type 0 where
  pub small : n < 2 ^ 32
  pub count_is : count ≡ length (varnum n)
  pub front : bytes ≡ varnum n ++ drop count bytes

pub number_in-spelled : (bytes : List ℕ) (n count : ℕ) → All (λ byte. byte < 256) bytes → number_in bytes ≡ Ok (n, count) → IsReadAs bytes n count
number_in-spelled bytes n count small is =
    let s = spelled-from_number bytes (n, count) is in
    let r = reading-of bytes small s in
    let k = last_place bytes in
    let byte = slice_index bytes k in
    let last : Last k byte = record {
      even = eqb-true (byte % 2) 0 (passes_at_first is_last bytes 0 s.within);
      fits = small k 0 s.within;
      small = λ fifth. let there : byte ≡ slice_index bytes 4 = ap (slice_index bytes) fifth in omega (arith, s.small fifth);
      used = s.used;
    } in
    let number = groups_sum (take k bytes) in
    let whole = number + byte / 2 * 128 ^ k in
    let answer : number_in bytes ≡ Ok (whole, k + 1) = number-here bytes k number (128 ^ k) byte r s.within refl last in
    let read : ℕ × ℕ = (n, count) in
    let answered : ℕ × ℕ = (whole, k + 1) in
    let both : read ≡ answered = cc in
    let same : n ≡ whole = ap (λ (pair : ℕ × ℕ). pair.0) both in
    let next : count ≡ k + 1 = ap (λ (pair : ℕ × ℕ). pair.1) both in
    let spelled : varnum whole ≡ take (k + 1) bytes = spelled-here bytes k number (128 ^ k) byte r s.within refl last in
    record {
      small = omega (arith, (reading-fits bytes k number (128 ^ k) byte r last.fits last.small).whole);
      count_is = rw (same, spelled) (omega (arith, length-take-le (k + 1) bytes (omega (arith, s.within))));
      front = rw (next, same, spelled) (sym (take-append-drop (k + 1) bytes));
    }
