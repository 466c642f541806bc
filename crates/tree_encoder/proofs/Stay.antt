-- A place in a table stays when others come behind it.
use Rattle.std.proofs.Common.{◌≡◌, ℕ, zero, suc, ◌+◌, ◌≤◌, Bool, true, false, cond, List, [], ◌∷◌, ◌++◌, length, get_or, slice_get, slice_set, Option, None, Some, refl, sym, ap, ◌∙◌, arith, inl, inr, ◌⊎◌, length-set, length-append, replicate, Result, Ok, Err}
use Rattle.std.specs.List.{position_from}
use Rattle.std.proofs.lemmas.List.{length-replicate}
use Rattle.std.proofs.lemmas.Option.{none-some}
use Rattle.std.specs.Result.{OnOk}
use Rattle.bast_schema.specs.declared.kind.Kind.{Kind}
use Rattle.bast_schema.specs.KindTable.{place_of, with_kind, joined_at, added_of, answer_at, number_added}
use Rattle.bast_schema.specs.Kinds.{same_kind}
use Rattle.bast_schema.proofs.EachKind.{same_kind_self}
use Rattle.container.proofs.Fresh.{from_append}
use Rattle.string_table.specs.Entries.{added, place_in}
use Rattle.string_table.proofs.Laws.{place_in-append, added-new, added-there}
use Rattle.var_numbers.specs.Varnum.{varnum}
use Rattle.var_numbers.proofs.VarnumLemmas.{varnum-nonempty}
use Rattle.tree_encoder.specs.declared.writer.Writer.{Writer}
use Rattle.tree_encoder.specs.File.{most_bytes}
use Rattle.tree_encoder.specs.Writing.{AreNumbers, IsSound}

module _ {A : Type 0} (p : A → Bool) where
  from_push : (n : ℕ) (xs : List A) (x : A) → p x ≡ true → position_from p n xs ≡ None → position_from p n (xs ++ x ∷ []) ≡ Some (n + length xs)
  from_push n [] x passes none = let e : n ≡ n + 0 = omega arith in rw passes (ap Some e)
  from_push n (y ∷ xs) x passes none = by (p y) (from_push (n + 1) xs x passes) none
    where
      by : (b : Bool) → (position_from p (n + 1) xs ≡ None → position_from p (n + 1) (xs ++ x ∷ []) ≡ Some (n + 1 + length xs))
          → cond b (Some n) (position_from p (n + 1) xs) ≡ None → cond b (Some n) (position_from p (n + 1) (xs ++ x ∷ [])) ≡ Some (n + suc (length xs))
      by true rest is = absurd (none-some n (sym is))
      by false rest is = let later : n + 1 + length xs ≡ n + suc (length xs) = omega arith in rest is ∙ ap Some later

-- a kind that was added has the place that is answered
pub kind_placed : (ks : List Kind) (k : Kind) → place_of (with_kind ks k) k ≡ Some (number_added (added_of ks k))
kind_placed ks k = by (place_of ks k) refl
  where
    by : (o : Option ℕ) → place_of ks k ≡ o → place_of (joined_at ks k o) k ≡ Some (number_added (answer_at ks o))
    by None e = from_push (λ j. same_kind j k) 0 ks k (same_kind_self k) e ∙ ap Some (omega arith)
    by (Some n) e = e

pub kind_stays : (ks : List Kind) (j k : Kind) (n : ℕ) → place_of ks k ≡ Some n → place_of (with_kind ks j) k ≡ Some n
kind_stays ks j k n is = by (place_of ks j)
  where
    by : (o : Option ℕ) → place_of (joined_at ks j o) k ≡ Some n
    by None = from_append (λ i. same_kind i k) 0 n ks (j ∷ []) is
    by (Some m) = is

pub text_stays : (ts : List (Option (List ℕ))) (x entry : Option (List ℕ)) (n : ℕ) → place_in ts entry ≡ Some n → place_in (added ts x) entry ≡ Some n
text_stays ts x entry n is = by (place_in ts x) refl
  where
    by : (o : Option ℕ) → place_in ts x ≡ o → place_in (added ts x) entry ≡ Some n
    by None e = ap (λ (us : List (Option (List ℕ))). place_in us entry) (added-new ts x e).0 ∙ place_in-append ts (x ∷ []) entry n is
    by (Some m) e = ap (λ (us : List (Option (List ℕ))). place_in us entry) (added-there ts x m e).0 ∙ is

-- numbers that are kept stay right
pub numbers_stay : (strings ts : List (Option (List ℕ))) (numbers : List (Option ℕ)) (x : Option (List ℕ)) → AreNumbers strings ts numbers → AreNumbers strings (added ts x) numbers
numbers_stay strings ts numbers x are = record {
  count = are.count;
  known = λ n place is. text_stays ts x (get_or strings n None) place (are.known n place is);
}

set_get : {A : Type 0} (xs : List A) (i j : ℕ) (x y : A) → slice_get (slice_set xs i x) j ≡ Some y → ((j ≡ i) × (x ≡ y)) ⊎ (slice_get xs j ≡ Some y)
set_get [] i j x y is = inr is
set_get (z ∷ zs) zero zero x y is = let e : x ≡ y = cc in inl (refl, e)
set_get (z ∷ zs) zero (suc j) x y is = inr is
set_get (z ∷ zs) (suc i) zero x y is = inr is
set_get (z ∷ zs) (suc i) (suc j) x y is = elim (set_get zs i j x y is) [ inl e ↦ inl (ap suc e.0, e.1) | inr e ↦ inr e ]

pub numbers_set : (strings ts : List (Option (List ℕ))) (numbers : List (Option ℕ)) (n place : ℕ) → AreNumbers strings ts numbers → place_in ts (get_or strings n None) ≡ Some place → AreNumbers strings ts (slice_set numbers n (Some place))
numbers_set strings ts numbers n place are is = record {
  count = length-set numbers n (Some place) ∙ are.count;
  known = λ m p there. known_at m p (set_get numbers n m (Some place) (Some p) there);
}
  where
    known_at : (m p : ℕ) → ((m ≡ n) × (Some place ≡ Some p)) ⊎ (slice_get numbers m ≡ Some (Some p)) → place_in ts (get_or strings m None) ≡ Some p
    known_at m p (inl e) = ap (λ (i : ℕ). place_in ts (get_or strings i None)) e.0 ∙ is ∙ e.1
    known_at m p (inr e) = are.known m p e

no_number : (n i place : ℕ) → slice_get (replicate n None) i ≡ Some (Some place) → ⊥
no_number zero i place is = absurd (none-some (Some place) is)
no_number (suc n) zero place is = let e : None ≡ Some place = cc in absurd (none-some place e)
no_number (suc n) (suc i) place is = no_number n i place is

-- at first none is kept
pub numbers_none : (strings : List (Option (List ℕ))) (numbers : List (Option ℕ)) → numbers ≡ replicate (length strings) None → AreNumbers strings [] numbers
numbers_none strings numbers is = rw is (record {
  count = length-replicate (length strings) None;
  known = λ n place there. absurd (no_number (length strings) n place there);
})

added_length : (ts : List (Option (List ℕ))) (x : Option (List ℕ)) → length (added ts x) ≤ length ts + 1
added_length ts x = by (place_in ts x) refl
  where
    by : (o : Option ℕ) → place_in ts x ≡ o → length (added ts x) ≤ length ts + 1
    by None e = let longer = ap length (added-new ts x e).0 in omega (arith, longer, length-append ts (x ∷ []))
    by (Some m) e = let same = ap length (added-there ts x m e).0 in omega (arith, same)

-- a writer stays sound where a text is put
pub sound_text : (strings : List (Option (List ℕ))) (old new : Writer) (x : Option (List ℕ)) (number : ℕ) → IsSound strings old → new.texts ≡ added old.texts x → AreNumbers strings new.texts new.numbers.items
    → new.bytes.items ≡ old.bytes.items ++ varnum number → length new.bytes.items ≤ most_bytes → IsSound strings new
sound_text strings old new x number sound texts numbers bytes small =
    let longer : length new.bytes.items ≡ length (old.bytes.items ++ varnum number) = ap length bytes in
    let same : length new.texts ≡ length (added old.texts x) = ap length texts in
    let before : length old.texts ≤ length old.bytes.items = sound.few in
    record {
      small = small;
      few = omega (arith, added_length old.texts x, length-append old.bytes.items (varnum number), varnum-nonempty number);
      numbers = numbers;
    }

-- what two clauses of a call say together
pub on_ok : {A E P Q R : Type 0} (r : Result A E) → OnOk r P → OnOk r Q → (P → Q → R) → OnOk r R
on_ok (Ok x) p q both = both p q
on_ok (Err e) p q both = tt
