-- Bytes that are due, compared one after another.
use Rattle.std.proofs.Common.{◌≡◌, ◌≢◌, inl, inr, ℕ, suc, ◌+◌, ◌-◌, ◌≤◌, ◌<◌, List, [], ◌∷◌, ◌++◌, length, drop, slice_index, refl, sym, ap, ◌∙◌, arith, add-one, drop-cons, length-append, length-drop, nat_eq, false, Ok, Err}
use Rattle.std.proofs.lemmas.Bool.{cases_lt, eq-eqb, lt-ltb}
use Rattle.std.proofs.lemmas.Bool.Decides.{eqb_tells}
use Rattle.std.proofs.lemmas.List.{drop-drop}
use Rattle.std.proofs.Math.ListN.{drop_of_length-le}
use Rattle.bast_base.specs.declared.errors.Why.{Why}
use Rattle.bast_base.specs.declared.errors.Why.TheVariants.{Ended}
use Rattle.container.specs.Answers.{fault}
use Rattle.container.specs.Parts.{agreeing, behind_shared, fixed_at}
use Rattle.container.proofs.Answered.{apart}
use Rattle.container.proofs.Counted.{not_less}
use Rattle.container.proofs.Ranges.{Lies, range_to_end}

pub agreeing_same : (x y : ℕ) (xs ys : List ℕ) → x ≡ y → agreeing (x ∷ xs) (y ∷ ys) ≡ suc (agreeing xs ys)
agreeing_same x y xs ys is = rw (eq-eqb x y is) refl

pub agreeing_other : (x y : ℕ) (xs ys : List ℕ) → x ≢ y → agreeing (x ∷ xs) (y ∷ ys) ≡ 0
agreeing_other x y xs ys other = elim (eqb_tells x y) [ inl p ↦ absurd (other p.1) | inr p ↦ rw p.0 refl ]

pub agreeing_none : (xs : List ℕ) → agreeing xs [] ≡ 0
agreeing_none [] = refl
agreeing_none (x ∷ xs) = refl

-- so many are shared up to these places, and as many more as behind them
pub record Shared (bytes due : List ℕ) (at i place : ℕ) : Type 0 where
  pub place_is : place ≡ at + i
  pub is : agreeing due (drop at bytes) ≡ i + agreeing (drop i due) (drop place bytes)

pub shared_start : (bytes due : List ℕ) (at : ℕ) → Shared bytes due at 0 at
shared_start bytes due at = record { place_is = omega arith; is = omega arith }

pub shared_more : (bytes due : List ℕ) (at i place : ℕ) → Shared bytes due at i place → i < length due → place < length bytes → slice_index due i ≡ slice_index bytes place → Shared bytes due at (i + 1) (place + 1)
shared_more bytes due at i place s some within is =
    let next : agreeing (drop i due) (drop place bytes) ≡ suc (agreeing (drop (suc i) due) (drop (suc place) bytes)) =
    rw (drop-cons due i 0 some, drop-cons bytes place 0 within) (agreeing_same (slice_index due i) (slice_index bytes place) (drop (suc i) due) (drop (suc place) bytes) is) in
    let there : agreeing due (drop at bytes) ≡ suc i + agreeing (drop (suc i) due) (drop (suc place) bytes) = s.is ∙ ap (λ (n : ℕ). i + n) next ∙ omega arith in
    record { place_is = omega (arith, s.place_is); is = rw (add-one i, add-one place) there }

pub shared_all : (bytes due : List ℕ) (at i place : ℕ) → Shared bytes due at i place → length due ≤ i → agreeing due (drop at bytes) ≡ i
shared_all bytes due at i place s all = s.is ∙ rw (drop_of_length-le due {i = i} all) (omega arith)

pub shared_other : (bytes due : List ℕ) (at i place : ℕ) → Shared bytes due at i place → i < length due → place < length bytes → slice_index due i ≢ slice_index bytes place → agreeing due (drop at bytes) ≡ i
shared_other bytes due at i place s some within other =
    let none : agreeing (drop i due) (drop place bytes) ≡ 0 = rw (drop-cons due i 0 some, drop-cons bytes place 0 within) (agreeing_other (slice_index due i) (slice_index bytes place) (drop (suc i) due) (drop (suc place) bytes) other) in
    s.is ∙ ap (λ (n : ℕ). i + n) none ∙ omega arith

pub shared_ended : (bytes due : List ℕ) (at i place : ℕ) → Shared bytes due at i place → length bytes ≤ place → agreeing due (drop at bytes) ≡ i
shared_ended bytes due at i place s over =
    s.is ∙ rw (drop_of_length-le bytes {i = place} over, agreeing_none) (omega arith)

not_all : (i n : ℕ) → i < n → nat_eq i n ≡ false
not_all i n some = elim (eqb_tells i n) [ inl p ↦ absurd (omega (arith, p.1)) | inr p ↦ p.0 ]

pub fixed_differs : (bytes due : List ℕ) (why : Why) (at i : ℕ) → agreeing due (drop at bytes) ≡ i → i < length due → at + i < length bytes → fixed_at bytes due why at ≡ Err (fault (at + i) why)
unfolding fixed_at
fixed_differs bytes due why at i is some within = rw (is, not_all i (length due) some, lt-ltb (at + i) (length bytes) within) refl

pub fixed_ended : (bytes due : List ℕ) (why : Why) (at i : ℕ) → agreeing due (drop at bytes) ≡ i → i < length due → length bytes ≤ at + i → fixed_at bytes due why at ≡ Err (fault (length bytes) Ended)
unfolding fixed_at
fixed_ended bytes due why at i is some over = rw (is, not_all i (length due) some, not_less (at + i) (length bytes) over) refl

pub fixed_stands : (bytes due : List ℕ) (why : Why) (at : ℕ) → agreeing due (drop at bytes) ≡ length due → fixed_at bytes due why at ≡ Ok (at + length due)
unfolding fixed_at
fixed_stands bytes due why at is = rw (is, eq-eqb (length due) (length due) refl) refl

-- where fixed bytes are read, all are shared
pub shared_is : (bytes : List ℕ) (why : Why) (at count shared next : ℕ) → behind_shared bytes why at count shared ≡ Ok next → (shared ≡ count) × (next ≡ at + count)
shared_is bytes why at count shared next is = elim (eqb_tells shared count) [
  | inl p ↦ let e : Ok (at + shared) ≡ behind_shared bytes why at count shared = rw p.0 refl in let q : at + shared ≡ next = cc in (p.1, omega (arith, p.1))
  | inr p ↦ elim (cases_lt (at + shared) (length bytes)) [
    | inl some ↦ absurd (apart next (fault (at + shared) why) (sym is ∙ rw (p.0, lt-ltb (at + shared) (length bytes) some) refl))
    | inr none ↦ absurd (apart next (fault (length bytes) Ended) (sym is ∙ rw (p.0, not_less (at + shared) (length bytes) none) refl))
  ]
]

agreeing_front : (due xs : List ℕ) → agreeing due xs ≡ length due → xs ≡ due ++ drop (length due) xs
agreeing_front [] xs is = refl
agreeing_front (d ∷ ds) [] is = absurd (omega arith)
agreeing_front (d ∷ ds) (x ∷ xs) is = elim (eqb_tells d x) [
  | inl p ↦
      let e : agreeing ds xs ≡ length ds = omega (arith, sym (agreeing_same d x ds xs p.1) ∙ is) in
      ap (λ (y : ℕ). y ∷ xs) (sym p.1) ∙ ap (λ (ys : List ℕ). d ∷ ys) (agreeing_front ds xs e)
  | inr p ↦ absurd (omega (arith, sym (agreeing_other d x ds xs p.1) ∙ is))
]

pub fixed_lies : (bytes due : List ℕ) (at : ℕ) → at ≤ length bytes → agreeing due (drop at bytes) ≡ length due → Lies bytes at (length bytes) due (at + length due)
fixed_lies bytes due at within is =
    let front : drop at bytes ≡ due ++ drop (length due) (drop at bytes) = agreeing_front due (drop at bytes) is in
    let long : length due ≤ length bytes - at = omega (arith, sym (length-drop at bytes) ∙ ap length front ∙ length-append due (drop (length due) (drop at bytes))) in
    record {
      next_is = refl;
      within = omega arith;
      front = range_to_end bytes at ∙ front ∙ ap (λ (xs : List ℕ). due ++ xs) (drop-drop (length due) at bytes) ∙ sym (ap (λ (xs : List ℕ). due ++ xs) (range_to_end bytes (at + length due)));
    }

-- the answers at a place in these bytes

pub stops_there : (bytes due : List ℕ) (why : Why) (at i place : ℕ) → Shared bytes due at i place → i < length due → place < length bytes → slice_index due i ≢ slice_index bytes place → Err (fault place why) ≡ fixed_at bytes due why at
stops_there bytes due why at i place s some within other =
    let here : place ≡ at + i = s.place_is in
    ap (λ (p : ℕ). Err (fault p why)) here
    ∙ sym (fixed_differs bytes due why at i (shared_other bytes due at i place s some within other) some (omega arith))

pub ends_there : (bytes due : List ℕ) (why : Why) (at i place : ℕ) → Shared bytes due at i place → i < length due → length bytes ≤ place → Err (fault (length bytes) Ended) ≡ fixed_at bytes due why at
ends_there bytes due why at i place s some over =
    let here : place ≡ at + i = s.place_is in
    sym (fixed_ended bytes due why at i (shared_ended bytes due at i place s over) some (omega arith))

pub stands_there : (bytes due : List ℕ) (why : Why) (at place : ℕ) → Shared bytes due at (length due) place → Ok place ≡ fixed_at bytes due why at
stands_there bytes due why at place s =
    let here : place ≡ at + length due = s.place_is in
    ap (λ (p : ℕ). Ok p) here ∙ sym (fixed_stands bytes due why at (shared_all bytes due at (length due) place s (omega arith)))
