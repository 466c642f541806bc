-- What is read within a range of a file.
use Rattle.std.proofs.Common.{◌≡◌, ◌↔◌, ◌⊎◌, Bool, true, false, inl, inr, Err, ℕ, ◌+◌, ◌-◌, ◌*◌, ◌/◌, ◌%◌, ◌^◌, ◌<◌, ◌≤◌, List, ◌++◌, length, take, drop, slice_index, slice_range, refl, sym, ap, ◌∙◌, arith, Ok, length-take, length-drop, take-append-drop}
use Rattle.std.proofs.lemmas.List.{get_or-take, get_or-drop, drop-take, drop-drop, length-take-le}
use Rattle.std.proofs.lemmas.Bool.{cases_lt, iff_false}
use Rattle.bast_base.specs.declared.errors.Why.{Why}
use Rattle.var_numbers.specs.ReadClauses.{Spells}
use Rattle.var_numbers.specs.Varnum.{varnum}
use Rattle.var_numbers.specs.VarnumRead.{number_at, number_in}
use Rattle.var_numbers.proofs.ReadLemmas.{number_in-varnum}
use Rattle.var_numbers.proofs.ReadingLemmas.{Reading, Last, reading-fits, spelled-here}

pub range-length : (bytes : List ℕ) (at end : ℕ) → at ≤ end → end ≤ length bytes → length (slice_range bytes at end) ≡ end - at
range-length bytes at end order within = simp (length-take, length-drop) (omega arith)

pub range-byte : (bytes : List ℕ) (at place end : ℕ) → at ≤ place → place < end → slice_index (slice_range bytes at end) (place - at) ≡ slice_index bytes place
range-byte bytes at place end order within =
    let there : at + (place - at) ≡ place = omega arith in
    get_or-take (end - at) (drop at bytes) (place - at) 0 (omega arith) ∙ get_or-drop at bytes (place - at) 0 ∙ ap (slice_index bytes) there

range-rest : (bytes : List ℕ) (at place end : ℕ) → at ≤ place → place < end → drop (place - at + 1) (slice_range bytes at end) ≡ slice_range bytes (place + 1) end
range-rest bytes at place end order within =
    let whole : end - at ≡ (place - at + 1) + (end - (place + 1)) = omega arith in
    let there : at + (place - at + 1) ≡ place + 1 = omega arith in
    ap (λ (x : ℕ). drop (place - at + 1) (take x (drop at bytes))) whole
    ∙ drop-take (place - at + 1) (end - (place + 1)) (drop at bytes)
    ∙ ap (take (end - (place + 1))) (drop-drop (place - at + 1) at bytes)
    ∙ ap (λ (x : ℕ). take (end - (place + 1)) (drop x bytes)) there

-- a range that begins with a spelling is read as its number
pub only-spelled : (bytes : List ℕ) (at n : ℕ) (more : List ℕ) → n < 2 ^ 32 → bytes ≡ varnum n ++ more → number_at at bytes ≡ Ok (n, at + length (varnum n))
only-spelled bytes at n more fits is = rw (is, number_in-varnum n more fits) refl

pub spells-here : (bytes : List ℕ) (at place end number scale byte : ℕ) → at ≤ place → place < end → end ≤ length bytes → Reading (slice_range bytes at end) (place - at) number scale → byte ≡ slice_index bytes place → Last (place - at) byte → Spells bytes at end (number + byte / 2 * scale) (place + 1)
spells-here bytes at place end number scale byte order before within r is last =
    let range = slice_range bytes at end in
    let n = number + byte / 2 * scale in
    let long : length range ≡ end - at = range-length bytes at end (omega arith) within in
    let is_there : byte ≡ slice_index range (place - at) = is ∙ sym (range-byte bytes at place end order before) in
    let spelled : varnum n ≡ take (place - at + 1) range = spelled-here range (place - at) number scale byte r (omega arith) is_there last in
    let count : length (varnum n) ≡ place - at + 1 = ap length spelled ∙ length-take-le (place - at + 1) range (omega arith) in
    record {
      small = (reading-fits range (place - at) number scale byte r last.fits last.small).whole;
      next_is = omega arith;
      ahead = omega arith;
      within = omega arith;
      front = sym (take-append-drop (place - at + 1) range) ∙ rw (range-rest bytes at place end order before, spelled) refl;
    }

-- places of a list are places of the file
pub fault-there : (bytes : List ℕ) (at place : ℕ) (why : Why) → at ≤ place → number_in bytes ≡ Err (record { at = place - at; why = why }) → Err (record { at = place; why = why }) ≡ number_at at bytes
fault-there bytes at place why order is =
    let back : at + (place - at) ≡ place = omega arith in
    rw (is, back) refl

pub number-there : (bytes : List ℕ) (at place n : ℕ) → at ≤ place → number_in bytes ≡ Ok (n, place - at + 1) → Ok (n, place + 1) ≡ number_at at bytes
number-there bytes at place n order is =
    let back : at + (place - at + 1) ≡ place + 1 = omega arith in
    rw (is, back) refl

-- what it says that a byte isn't past 32 bits
pub not_beyond : {b : Bool} (k byte : ℕ) → ((b ≡ true) ↔ ((k ≡ 4) × ((byte % 2 ≡ 1) ⊎ (0x1E < byte)))) → b ≡ false → k ≡ 4 → (byte % 2 ≡ 0) × (byte ≤ 0x1E)
not_beyond k byte tells is fifth =
    let even : byte % 2 ≡ 0 = elim (cases_lt 0 (byte % 2)) [
      | inl odd ↦ absurd (iff_false tells is (fifth, inl (omega arith)))
      | inr even ↦ omega arith
    ] in
    let small : byte ≤ 0x1E = elim (cases_lt 0x1E byte) [
      | inl large ↦ absurd (iff_false tells is (fifth, inr large))
      | inr small ↦ small
    ] in
    (even, small)

-- a byte that goes on isn't the fifth
pub not_fifth : {b : Bool} (k byte : ℕ) → ((b ≡ true) ↔ ((k ≡ 4) × ((byte % 2 ≡ 1) ⊎ (0x1E < byte)))) → b ≡ false → (byte % 2 ≡ 0 → ⊥) → k ≡ 4 → ⊥
not_fifth k byte tells is odd fifth = odd (not_beyond k byte tells is fifth).0
