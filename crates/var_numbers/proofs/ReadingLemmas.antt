-- What a reader has behind it after so many bytes that each go on.
use Rattle.std.proofs.Common.{◌≡◌, ℕ, ◌+◌, ◌*◌, ◌/◌, ◌%◌, ◌^◌, ◌<◌, ◌≤◌, ◌⊎◌, List, length, take, slice_index, refl, sym, ap, subst, ◌∙◌, arith, inl, inr, Ok, Err, add-one}
use Rattle.std.specs.List.{All}
use Rattle.std.proofs.Math.Nat.{pow-suc, pow-le-pow_right, mul-le-mul_right}
use Rattle.std.proofs.lemmas.Bool.{cases_lt, eqb-true, eqb-false}
use Rattle.std.proofs.lemmas.Nat.{mul-le}
use Rattle.std.proofs.lemmas.List.{take_more, length-take-le}
use Rattle.std.proofs.lemmas.List.Sums.{passes_at_first, fails_before_first, prefix_len-le-length}
use Rattle.std.proofs.lemmas.List.Elements.{All-nil, All-more}
use Rattle.bast_base.specs.declared.errors.Why.TheVariants.{Ended, Overlong, TooBig}
use Rattle.var_numbers.specs.Varnum.{varnum}
use Rattle.var_numbers.specs.VarnumRead.{is_last, last_place, groups_sum, number_in}
use Rattle.var_numbers.proofs.ReadLemmas.{IsSpelled, answer-ended, answer-too_big, answer-overlong, answer-number}
use Rattle.var_numbers.proofs.SpelledLemmas.{groups_sum-push, varnum-groups_sum}

pub record Reading (bytes : List ℕ) (k number scale : ℕ) : Type 0 where
  pub few : k ≤ 4
  pub on : k ≤ last_place bytes
  pub sum : number ≡ groups_sum (take k bytes)
  pub scale_is : scale ≡ 128 ^ k
  pub below : number < scale
  pub small : All (λ byte. byte < 256) (take k bytes)

pub reading-start : (bytes : List ℕ) → Reading bytes 0 0 1
reading-start bytes = record {
  few = omega arith;
  on = omega arith;
  sum = refl;
  scale_is = refl;
  below = omega arith;
  small = All-nil (λ byte. byte < 256);
}

pub place_within : (bytes : List ℕ) → last_place bytes ≤ length bytes
place_within bytes = prefix_len-le-length _ bytes

-- an odd byte goes on
pub on_past : (bytes : List ℕ) (k : ℕ) → k ≤ last_place bytes → k < length bytes → slice_index bytes k % 2 ≡ 1 → k + 1 ≤ last_place bytes
on_past bytes k on within odd =
    elim (cases_lt k (last_place bytes)) [
      | inl p ↦ omega arith
      | inr p ↦
          let same : last_place bytes ≡ k = omega arith in
          let even : slice_index bytes (last_place bytes) % 2 ≡ 0 = eqb-true _ _ (passes_at_first is_last bytes 0 (omega arith)) in
          let even_here : slice_index bytes k % 2 ≡ 0 = subst (λ (x : ℕ). slice_index bytes x % 2 ≡ 0) same even in
          absurd (omega arith)
    ]

-- an even byte ends it
pub ends_here : (bytes : List ℕ) (k : ℕ) → k ≤ last_place bytes → slice_index bytes k % 2 ≡ 0 → last_place bytes ≡ k
ends_here bytes k on even =
    elim (cases_lt k (last_place bytes)) [
      | inl p ↦ absurd (eqb-false _ _ (fails_before_first is_last bytes k 0 p) even)
      | inr p ↦ omega arith
    ]

-- the number that one more byte makes, with what it has to be for the next
sum_more : (bytes : List ℕ) (k number scale : ℕ) → Reading bytes k number scale → k < length bytes → number + slice_index bytes k / 2 * scale ≡ groups_sum (take (k + 1) bytes)
sum_more bytes k number scale r within =
    let front : length (take k bytes) ≡ k = length-take-le k bytes (omega arith) in
    rw (take_more bytes k 0 within, groups_sum-push (take k bytes) (slice_index bytes k), front, r.sum, r.scale_is) refl

pub reading-more : (bytes : List ℕ) (k number scale byte : ℕ) → Reading bytes k number scale → k < length bytes → byte ≡ slice_index bytes k → byte < 256 → byte % 2 ≡ 1 → k < 4 → Reading bytes (k + 1) (number + byte / 2 * scale) (scale * 128)
reading-more bytes k number scale byte r within is fits odd early =
    let group : byte / 2 * scale ≤ 127 * scale = mul-le-mul_right scale (omega arith) in
    record {
      few = omega arith;
      on = on_past bytes k r.on within (rw (← is) odd);
      sum = rw is (sum_more bytes k number scale r within);
      scale_is = rw (add-one k, pow-suc 128 k) (omega (arith, r.scale_is));
      below = omega (arith, r.below);
      small = All-more (λ b. b < 256) bytes k 0 within r.small (rw (← is) fits);
    }

-- what fits of a byte's group
pub record Fits (number scale byte : ℕ) : Type 0 where
  pub scale_fits : scale ≤ 2 ^ 28
  pub group : byte / 2 * scale < 2 ^ 32
  pub whole : number + byte / 2 * scale < 2 ^ 32

pub reading-fits : (bytes : List ℕ) (k number scale byte : ℕ) → Reading bytes k number scale → byte < 256 → (k ≡ 4 → byte ≤ 0x1E) → Fits number scale byte
reading-fits bytes k number scale byte r fits last =
    elim (cases_lt k 4) [
      | inl early ↦
          let three : k ≤ 3 = omega arith in
          let most : 128 ^ k ≤ 128 ^ 3 = pow-le-pow_right (omega arith) three in
          let group : byte / 2 * scale ≤ 127 * 2 ^ 21 = mul-le (byte / 2) scale 127 (2 ^ 21) (omega arith) (omega (arith, r.scale_is)) in
          record { scale_fits = omega (arith, r.scale_is); group = omega arith; whole = omega (arith, r.below, r.scale_is) }
      | inr late ↦
          let fifth : k ≡ 4 = omega (arith, r.few) in
          let scale_here : scale ≡ 128 ^ 4 = subst (λ (x : ℕ). scale ≡ 128 ^ x) fifth r.scale_is in
          let group : byte / 2 * scale ≤ 15 * 2 ^ 28 = mul-le (byte / 2) scale 15 (2 ^ 28) (omega (arith, last fifth)) (omega arith) in
          record { scale_fits = omega arith; group = omega arith; whole = omega (arith, r.below) }
    ]

pub ended-here : (bytes : List ℕ) (k number scale : ℕ) → Reading bytes k number scale → length bytes ≤ k → number_in bytes ≡ Err (record { at = k; why = Ended })
ended-here bytes k number scale r end =
    let same : length bytes ≡ k = omega (arith, r.on, place_within bytes) in
    let all : last_place bytes ≡ length bytes = omega (arith, r.on, place_within bytes) in
    rw (answer-ended bytes (omega (arith, r.few)) all, same) refl

pub too_big-here : (bytes : List ℕ) (k number scale byte : ℕ) → Reading bytes k number scale → k ≡ 4 → k < length bytes → byte ≡ slice_index bytes k → (byte % 2 ≡ 1) ⊎ (0x1E < byte) → number_in bytes ≡ Err (record { at = k; why = TooBig })
too_big-here bytes k number scale byte r fifth within is wrong =
    let is_fifth : slice_index bytes k ≡ slice_index bytes 4 = ap (slice_index bytes) fifth in
    let why : (4 < last_place bytes) ⊎ ((last_place bytes ≡ 4) × (0x1E < slice_index bytes 4)) =
    elim (cases_lt (byte % 2) 1) [
      | inl even ↦
          let large : 0x1E < byte = elim wrong [ inl odd ↦ omega arith | inr large ↦ large ] in
          let here : last_place bytes ≡ k = ends_here bytes k r.on (rw (← is) (omega arith)) in
          inr (omega arith, omega arith)
      | inr odd ↦
          let past : k + 1 ≤ last_place bytes = on_past bytes k r.on within (rw (← is) (omega arith)) in
          inl (omega arith)
    ] in
    rw (answer-too_big bytes (omega arith) why, fifth) refl

pub overlong-here : (bytes : List ℕ) (k number scale : ℕ) → Reading bytes k number scale → k < length bytes → 0 < k → slice_index bytes k ≡ 0 → number_in bytes ≡ Err (record { at = k; why = Overlong })
overlong-here bytes k number scale r within later empty =
    let here : last_place bytes ≡ k = ends_here bytes k r.on (rw empty refl) in
    let empty_there : slice_index bytes (last_place bytes) ≡ 0 = ap (slice_index bytes) here ∙ empty in
    rw (answer-overlong bytes (omega arith) (omega (arith, r.few)) (omega arith) empty_there, here) refl

-- what the last byte of a spelling shows
pub record Last (k byte : ℕ) : Type 0 where
  pub even : byte % 2 ≡ 0
  pub fits : byte < 256
  pub small : k ≡ 4 → byte ≤ 0x1E
  pub used : 0 < k → 0 < byte

is_spelled : (bytes : List ℕ) (k number scale byte : ℕ) → Reading bytes k number scale → k < length bytes → byte ≡ slice_index bytes k → last_place bytes ≡ k → Last k byte → IsSpelled bytes
is_spelled bytes k number scale byte r within is here last =
    let there : slice_index bytes (last_place bytes) ≡ slice_index bytes k = ap (slice_index bytes) here in
    record {
      within = omega arith;
      few = omega (arith, r.few);
      small = λ e.
          let fourth : k ≡ 4 = omega arith in
          let same : slice_index bytes k ≡ slice_index bytes 4 = ap (slice_index bytes) fourth in
          omega (arith, last.small fourth);
      used = λ p. omega (arith, last.used (omega arith));
    }

pub number-here : (bytes : List ℕ) (k number scale byte : ℕ) → Reading bytes k number scale → k < length bytes → byte ≡ slice_index bytes k → Last k byte → number_in bytes ≡ Ok (number + byte / 2 * scale, k + 1)
number-here bytes k number scale byte r within is last =
    let here : last_place bytes ≡ k = ends_here bytes k r.on (rw (← is) last.even) in
    let whole : number + byte / 2 * scale ≡ groups_sum (take (k + 1) bytes) = rw is (sum_more bytes k number scale r within) in
    rw (answer-number bytes (is_spelled bytes k number scale byte r within is here last), here, whole) refl

pub spelled-here : (bytes : List ℕ) (k number scale byte : ℕ) → Reading bytes k number scale → k < length bytes → byte ≡ slice_index bytes k → Last k byte → varnum (number + byte / 2 * scale) ≡ take (k + 1) bytes
spelled-here bytes k number scale byte r within is last =
    let here : last_place bytes ≡ k = ends_here bytes k r.on (rw (← is) last.even) in
    let s = is_spelled bytes k number scale byte r within is here last in
    let whole : number + byte / 2 * scale ≡ groups_sum (take (k + 1) bytes) = rw is (sum_more bytes k number scale r within) in
    let fits : slice_index bytes k < 256 = rw (← is) last.fits in
    let small : All (λ b. b < 256) (take (k + 1) bytes) = All-more (λ b. b < 256) bytes k 0 within r.small fits in
    let there : take (last_place bytes + 1) bytes ≡ take (k + 1) bytes = ap (λ (x : ℕ). take (x + 1) bytes) here in
    let spelled : varnum (groups_sum (take (last_place bytes + 1) bytes)) ≡ take (last_place bytes + 1) bytes =
    varnum-groups_sum bytes s.within s.used (subst (λ (xs : List ℕ). All (λ b. b < 256) xs) (sym there) small) in
    ap varnum whole ∙ rw there at spelled

-- before the fifth byte there is room for one more group
pub scale_early : (bytes : List ℕ) (k number scale : ℕ) → Reading bytes k number scale → (k ≡ 4 → ⊥) → scale * 128 ≤ 2 ^ 28
scale_early bytes k number scale r not_fifth =
    elim (cases_lt k 4) [
      | inl early ↦
          let three : k ≤ 3 = omega arith in
          let most : 128 ^ k ≤ 128 ^ 3 = pow-le-pow_right (omega arith) three in
          omega (arith, r.scale_is)
      | inr late ↦ absurd (not_fifth (omega (arith, r.few)))
    ]
