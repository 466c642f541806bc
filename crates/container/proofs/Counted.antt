-- Bytes behind their length, and numbers before them.
use Rattle.std.proofs.Common.{◌≡◌, ◌≢◌, ℕ, ◌+◌, ◌≤◌, ◌<◌, List, length, refl, sym, ap, ◌∙◌, arith, nat_lt, false, inl, inr, Ok, Err, Result}
use Rattle.std.proofs.lemmas.Bool.{cases_lt, lt-ltb, eq-eqb}
use Rattle.std.proofs.lemmas.Bool.Decides.{eqb_tells}
use Rattle.bast_base.specs.declared.errors.FormatFault.{FormatFault}
use Rattle.bast_base.specs.declared.errors.Why.TheVariants.{BadVersion, Ended}
use Rattle.var_numbers.specs.VarnumRead.{moved}
use Rattle.container.specs.Answers.{fault}
use Rattle.container.specs.Parts.{counted_at, number_from, so_many, version_at}
use Rattle.container.proofs.Answered.{apart}

pub not_less : (m n : ℕ) → n ≤ m → nat_lt m n ≡ false
not_less m n over = grind arith

pub counted_fails : (bytes : List ℕ) (at end : ℕ) (f : FormatFault) → Err f ≡ number_from bytes end at → Err f ≡ counted_at bytes end at
unfolding counted_at
counted_fails bytes at end f is = rw (← is) refl

pub counted_ended : (bytes : List ℕ) (at end len from : ℕ) → Ok (len, from) ≡ number_from bytes end at → end < from + len → Err (fault end Ended) ≡ counted_at bytes end at
unfolding counted_at
counted_ended bytes at end len from is long = rw (← is) (rw (lt-ltb end (from + len) long) refl)

pub counted_stands : (bytes : List ℕ) (at end len from : ℕ) → Ok (len, from) ≡ number_from bytes end at → from + len ≤ end → Ok (from, from + len) ≡ counted_at bytes end at
unfolding counted_at
counted_stands bytes at end len from is short = rw (← is) (rw (not_less end (from + len) short) refl)

pub version_fails : (bytes : List ℕ) (at : ℕ) (f : FormatFault) → Err f ≡ number_from bytes (length bytes) at → version_at bytes at ≡ Err f
unfolding version_at
version_fails bytes at f is = rw (← is) refl

pub version_other : (bytes : List ℕ) (at n next : ℕ) → Ok (n, next) ≡ number_from bytes (length bytes) at → n ≢ 1 → version_at bytes at ≡ Err (fault at (BadVersion n))
unfolding version_at
version_other bytes at n next is other = rw (← is) (elim (eqb_tells n 1) [ inl p ↦ absurd (other p.1) | inr p ↦ rw p.0 refl ])

pub version_stands : (bytes : List ℕ) (at n next : ℕ) → Ok (n, next) ≡ number_from bytes (length bytes) at → n ≡ 1 → version_at bytes at ≡ Ok next
unfolding version_at
version_stands bytes at n next is one = rw (← is) (rw (eq-eqb n 1 one) refl)

-- a number that is read at a place is read there in the list from that place on
pub record Moved (at : ℕ) (m : Result (ℕ × ℕ) FormatFault) (n : ℕ × ℕ) : Type 0 where
  pub found : ℕ × ℕ
  pub is : m ≡ Ok found
  pub number : n.0 ≡ found.0
  pub place : n.1 ≡ at + found.1

pub moved_from : (at : ℕ) (m : Result (ℕ × ℕ) FormatFault) (n : ℕ × ℕ) → moved at m ≡ Ok n → Moved at m n
moved_from at (Ok r) n is =
    let e : (r.0, at + r.1) ≡ n = cc in
    record { found = r; is = refl; number = sym (ap (λ (p : ℕ × ℕ). p.0) e); place = sym (ap (λ (p : ℕ × ℕ). p.1) e) }
moved_from at (Err f) n is = absurd (no is)
  where
    no : {g : FormatFault} → Err g ≡ Ok n → ⊥
    no is = cc

-- so many bytes are left, and lie after their number
pub record SoMany (end : ℕ) (n r : ℕ × ℕ) : Type 0 where
  pub fits : n.1 + n.0 ≤ end
  pub from : r.0 ≡ n.1
  pub to : r.1 ≡ n.1 + n.0

pub so_many_is : (end : ℕ) (n r : ℕ × ℕ) → so_many end n ≡ Ok r → SoMany end n r
so_many_is end n r is = elim (cases_lt end (n.1 + n.0)) [
  | inl long ↦ absurd (apart r (fault end Ended) (sym is ∙ rw (lt-ltb end (n.1 + n.0) long) refl))
  | inr short ↦
      let e : Ok (n.1, n.1 + n.0) ≡ so_many end n = rw (not_less end (n.1 + n.0) short) refl in
      let p : (n.1, n.1 + n.0) ≡ r = cc in
      record { fits = short; from = sym (ap (λ (q : ℕ × ℕ). q.0) p); to = sym (ap (λ (q : ℕ × ℕ). q.1) p) }
]
