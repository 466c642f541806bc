-- That what is read of bytes is spelled by them.
use Rattle.std.proofs.Common.{◌≡◌, ℕ, suc, ◌+◌, ◌*◌, ◌/◌, ◌%◌, ◌^◌, ◌<◌, List, [], ◌∷◌, ◌++◌, length, take, slice_index, refl, ap, ◌∙◌, arith, inl, inr}
use Rattle.std.specs.List.{All}
use Rattle.std.proofs.Math.Nat.{pow-suc, mul_assoc}
use Rattle.std.proofs.lemmas.Bool.{cases_lt}
use Rattle.std.proofs.lemmas.List.Elements.{All-head, All-tail}
use Rattle.var_numbers.specs.Varnum.{varnum}
use Rattle.var_numbers.specs.VarnumRead.{last_place, groups_sum}
use Rattle.var_numbers.proofs.VarnumLemmas.{varnum-last, varnum-more}
use Rattle.var_numbers.proofs.ReadLemmas.{last_place-even, last_place-odd}

-- bytes that end in one that is used make a number above 0
pub sum_pos : (bytes : List ℕ) → last_place bytes < length bytes → 0 < slice_index bytes (last_place bytes) → 0 < groups_sum (take (last_place bytes + 1) bytes)
sum_pos [] within used = absurd (omega arith)
sum_pos (byte ∷ more) within used =
    elim (cases_lt (byte % 2) 1) [
      | inl even ↦
          let here : last_place (byte ∷ more) ≡ 0 = last_place-even byte more (omega arith) in
          let pos : 0 < byte = rw here at used in
          rw here (omega arith)
      | inr odd ↦
          let here : last_place (byte ∷ more) ≡ suc (last_place more) = last_place-odd byte more (omega arith) in
          let on : last_place more < length more = omega (arith, here, within) in
          let rest : 0 < slice_index more (last_place more) = rw here at used in
          let next : suc (last_place more) + 1 ≡ suc (last_place more + 1) = omega arith in
          rw (here, next) (omega (arith, sum_pos more on rest))
    ]

-- bytes of which each goes on but the last, which is used where others stand before it, spell the number that they make
pub varnum-groups_sum : (bytes : List ℕ) → last_place bytes < length bytes → (0 < last_place bytes → 0 < slice_index bytes (last_place bytes)) → All (λ byte. byte < 256) (take (last_place bytes + 1) bytes) → varnum (groups_sum (take (last_place bytes + 1) bytes)) ≡ take (last_place bytes + 1) bytes
varnum-groups_sum [] within used small = absurd (omega arith)
varnum-groups_sum (byte ∷ more) within used small =
    elim (cases_lt (byte % 2) 1) [
      | inl even ↦
          let here : last_place (byte ∷ more) ≡ 0 = last_place-even byte more (omega arith) in
          let bytes : All (λ b. b < 256) (byte ∷ []) = rw here at small in
          let below : byte < 256 = All-head (λ b. b < 256) byte [] bytes in
          let last : varnum (byte / 2 + 128 * 0) ≡ 2 * (byte / 2 + 128 * 0) ∷ [] = varnum-last (byte / 2 + 128 * 0) (omega arith) in
          let same : 2 * (byte / 2 + 128 * 0) ≡ byte = omega arith in
          rw here (last ∙ ap (λ b. b ∷ []) same)
      | inr odd ↦
          let here : last_place (byte ∷ more) ≡ suc (last_place more) = last_place-odd byte more (omega arith) in
          let next : suc (last_place more) + 1 ≡ suc (last_place more + 1) = omega arith in
          let rest = take (last_place more + 1) more in
          let bytes : All (λ b. b < 256) (byte ∷ rest) = rw (here, next) at small in
          let below : byte < 256 = All-head (λ b. b < 256) byte rest bytes in
          let on : last_place more < length more = omega (arith, here, within) in
          let last_used : 0 < slice_index more (last_place more) = rw here at (used (omega (arith, here))) in
          let pos : 0 < groups_sum rest = sum_pos more on last_used in
          let whole = byte / 2 + 128 * groups_sum rest in
          let again : varnum (groups_sum rest) ≡ rest = varnum-groups_sum more on (λ p. last_used) (All-tail (λ b. b < 256) byte rest bytes) in
          let first : 2 * (whole % 128) + 1 ≡ byte = omega arith in
          let left : whole / 128 ≡ groups_sum rest = omega arith in
          rw (here, next) (varnum-more whole (omega arith) ∙ rw (first, left, again) refl)
    ]

pub groups_sum-push : (bytes : List ℕ) (byte : ℕ) → groups_sum (bytes ++ byte ∷ []) ≡ groups_sum bytes + byte / 2 * 128 ^ length bytes
groups_sum-push [] byte = omega arith
groups_sum-push (b ∷ bytes) byte =
    rw (pow-suc 128 (length bytes)) (omega (arith, groups_sum-push bytes byte, mul_assoc (byte / 2) (128 ^ length bytes) 128))
