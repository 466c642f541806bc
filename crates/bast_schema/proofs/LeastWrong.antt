-- The place that is told is the least wrong one.
use Rattle.std.proofs.Common.{ℕ, List, [], ◌∷◌, ◌≡◌, ◌<◌, ◌≤◌, ◌+◌, Bool, true, false, not, refl, ap, ◌∙◌, None, Some, zero, suc, arith, if◌then◌else◌}
use Rattle.bast_schema.specs.declared.kind.FieldType.{FieldType}
use Rattle.bast_schema.specs.Tree.{Datum, Data, none, more, fits, first_wrong}
use Rattle.bast_schema.specs.Wrong.{wrong_at}

pub record IsLeast (ts : List FieldType) (ds : Data) (n : ℕ) : Type 0 where
  pub wrong : wrong_at ts ds n ≡ true
  pub least : (m : ℕ) → m < n → wrong_at ts ds m ≡ false

wrong_after : (i n : ℕ) (ts : List FieldType) (ds : Data) → first_wrong i ts ds ≡ Some n → i ≤ n
wrong_after i n [] none h = cc
wrong_after i n [] (more d ds) h = let same : i ≡ n = cc in omega arith
wrong_after i n (t ∷ ts) none h = let same : i ≡ n = cc in omega arith
wrong_after i n (t ∷ ts) (more d ds) h = after_first (fits t d) h (λ e. let r : i + 1 ≤ n = wrong_after (i + 1) n ts ds e in omega arith)
  where
    after_first : (b : Bool) → (if b then first_wrong (i + 1) ts ds else Some i) ≡ Some n → (first_wrong (i + 1) ts ds ≡ Some n → i ≤ n) → i ≤ n
    after_first true e rest = rest e
    after_first false e rest = let same : i ≡ n = cc in omega arith

at_once : (i n : ℕ) (ts : List FieldType) (ds : Data) → Some i ≡ Some (i + n) → wrong_at ts ds 0 ≡ true → IsLeast ts ds n
at_once i zero ts ds e h = record { wrong = h; least = λ m less. absurd (omega arith) }
at_once i (suc n) ts ds e h = let same : i ≡ i + suc n = cc in absurd (omega arith)

later : (t : FieldType) (ts : List FieldType) (d : Datum) (ds : Data) (n : ℕ) → fits t d ≡ true → IsLeast ts ds n → IsLeast (t ∷ ts) (more d ds) (suc n)
later t ts d ds n is rest = record { wrong = rest.wrong; least = least_of }
  where
    least_of : (m : ℕ) → m < suc n → wrong_at (t ∷ ts) (more d ds) m ≡ false
    least_of zero less = ap not is
    least_of (suc m) less = rest.least m (omega arith)

least_from : (i n : ℕ) (ts : List FieldType) (ds : Data) → first_wrong i ts ds ≡ Some (i + n) → IsLeast ts ds n
least_from i n [] none h = cc
least_from i n [] (more d ds) h = at_once i n [] (more d ds) h refl
least_from i n (t ∷ ts) none h = at_once i n (t ∷ ts) none h refl
least_from i n (t ∷ ts) (more d ds) h = by_first n (fits t d) refl h (λ m e. least_from (i + 1) m ts ds e)
  where
    by_first : (n : ℕ) (b : Bool) → fits t d ≡ b → (if b then first_wrong (i + 1) ts ds else Some i) ≡ Some (i + n) → ((m : ℕ) → first_wrong (i + 1) ts ds ≡ Some (i + 1 + m) → IsLeast ts ds m) → IsLeast (t ∷ ts) (more d ds) n
    by_first zero true is e rest = let r : i + 1 ≤ i + 0 = wrong_after (i + 1) (i + 0) ts ds e in absurd (omega arith)
    by_first (suc n) true is e rest = let same : i + suc n ≡ i + 1 + n = omega arith in later t ts d ds n is (rest n (e ∙ ap Some same))
    by_first n false is e rest = at_once i n (t ∷ ts) (more d ds) e (ap not is)

-- what first_wrong tells is the least place that is wrong
pub first_wrong_least : (ts : List FieldType) (ds : Data) (n : ℕ) → first_wrong 0 ts ds ≡ Some n → IsLeast ts ds n
first_wrong_least ts ds n h = let sum : n ≡ 0 + n = omega arith in least_from 0 n ts ds (h ∙ ap Some sum)

none_from : (i : ℕ) (ts : List FieldType) (ds : Data) (m : ℕ) → first_wrong i ts ds ≡ None → wrong_at ts ds m ≡ false
none_from i [] none m h = refl
none_from i [] (more d ds) m h = cc
none_from i (t ∷ ts) none m h = cc
none_from i (t ∷ ts) (more d ds) m h = by_first m (fits t d) refl h (λ n e. none_from (i + 1) ts ds n e)
  where
    by_first : (m : ℕ) (b : Bool) → fits t d ≡ b → (if b then first_wrong (i + 1) ts ds else Some i) ≡ None → ((n : ℕ) → first_wrong (i + 1) ts ds ≡ None → wrong_at ts ds n ≡ false) → wrong_at (t ∷ ts) (more d ds) m ≡ false
    by_first zero true is e rest = ap not is
    by_first (suc m) true is e rest = rest m e
    by_first m false is e rest = cc

-- where it tells none, no place is wrong
pub first_wrong_none : (ts : List FieldType) (ds : Data) (m : ℕ) → first_wrong 0 ts ds ≡ None → wrong_at ts ds m ≡ false
first_wrong_none ts ds m h = none_from 0 ts ds m h
