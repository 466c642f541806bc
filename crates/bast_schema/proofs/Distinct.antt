-- What holds of a list of kinds that stand in it once.
use Rattle.std.proofs.Common.{ℕ, List, [], ◌∷◌, ◌++◌, ◌≡◌, ◌<◌, ◌≤◌, ◌+◌, Bool, true, false, refl, ap, sym, ◌∙◌, Option, None, Some, cond, eqb, ◌||◌, zero, suc, arith, map, length}
use Rattle.std.specs.List.{slice_get, position_from, IsDistinct, AllByRecursion, list_any}
use Rattle.std.proofs.lemmas.Bool.{eqb-true}
use Rattle.std.proofs.lemmas.Map.Steps.{length-le_from_distinct_below}
use Rattle.bast_schema.specs.declared.kind.Kind.{Kind}
use Rattle.bast_schema.specs.Kinds.{number, same_kind}
use Rattle.bast_schema.specs.KindTable.{place_of, with_kind, joined_at, added_of, answer_at, number_added}
use Rattle.bast_schema.proofs.Places.{position_passes}
use Rattle.bast_schema.proofs.EachKind.{number_less, same_kind_true, same_kind_self}

apart_numbers : (j : Kind) (ks : List Kind) → AllByRecursion (λ y. same_kind j y ≡ false) ks → AllByRecursion (λ n. eqb (number j) n ≡ false) (map number ks)
apart_numbers j [] h = tt
apart_numbers j (k ∷ ks) h = (h.0, apart_numbers j ks h.1)

distinct_numbers : (ks : List Kind) → IsDistinct same_kind ks → IsDistinct eqb (map number ks)
unfolding IsDistinct
distinct_numbers [] d = tt
distinct_numbers (k ∷ ks) d = (apart_numbers k ks d.0, distinct_numbers ks d.1)

number_below : (q : ℕ) (ks : List Kind) → list_any (eqb q) (map number ks) ≡ true → q < 82
number_below q [] h = cc
number_below q (k ∷ ks) h = below_at q k ks (eqb q (number k)) refl h (number_below q ks)
  where
    below_at : (q : ℕ) (k : Kind) (ks : List Kind) (b : Bool) → eqb q (number k) ≡ b → (b || list_any (eqb q) (map number ks)) ≡ true → (list_any (eqb q) (map number ks) ≡ true → q < 82) → q < 82
    below_at q k ks true is h rest = let same : q ≡ number k = eqb-true q (number k) is in let less : number k < 82 = number_less k in omega arith
    below_at q k ks false is h rest = rest h

length_numbers : (ks : List Kind) → length (map number ks) ≡ length ks
length_numbers [] = refl
length_numbers (k ∷ ks) = ap suc (length_numbers ks)

-- there are at most as many as there are kinds
pub few_kinds : (ks : List Kind) → IsDistinct same_kind ks → length ks ≤ 82
few_kinds ks d =
    let h : length (map number ks) ≤ 82 = length-le_from_distinct_below (map number ks) 82 (distinct_numbers ks d) (λ q. number_below q ks)
    in omega (arith, length_numbers ks)

apart_end : (j k : Kind) (ks : List Kind) → AllByRecursion (λ y. same_kind j y ≡ false) ks → same_kind j k ≡ false → AllByRecursion (λ y. same_kind j y ≡ false) (ks ++ k ∷ [])
apart_end j k [] h e = (e, tt)
apart_end j k (i ∷ ks) h e = (h.0, apart_end j k ks h.1 e)

-- what a search that finds nothing says of the first item
apart_first : (j k : Kind) (o : Option ℕ) (i : ℕ) (b : Bool) → same_kind j k ≡ b → cond b (Some i) o ≡ None → (same_kind j k ≡ false) × (o ≡ None)
apart_first j k o i true is h = cc
apart_first j k o i false is h = (is, h)

distinct_from : (i : ℕ) (ks : List Kind) (k : Kind) → IsDistinct same_kind ks → position_from (λ j. same_kind j k) i ks ≡ None → IsDistinct same_kind (ks ++ k ∷ [])
unfolding IsDistinct
distinct_from i [] k d h = (tt, tt)
distinct_from i (j ∷ ks) k d h =
    let r = apart_first j k (position_from (λ j. same_kind j k) (i + 1) ks) i (same_kind j k) refl h
    in (apart_end j k ks d.0 r.0, distinct_from (i + 1) ks k d.1 r.1)

-- a kind that has no place may be added at the end
pub distinct_end : (ks : List Kind) (k : Kind) → IsDistinct same_kind ks → place_of ks k ≡ None → IsDistinct same_kind (ks ++ k ∷ [])
distinct_end ks k d h = distinct_from 0 ks k d h

-- so a table stays one
pub distinct_with_kind : (ks : List Kind) (k : Kind) → IsDistinct same_kind ks → IsDistinct same_kind (with_kind ks k)
distinct_with_kind ks k d = by_place (place_of ks k) refl
  where
    by_place : (o : Option ℕ) → place_of ks k ≡ o → IsDistinct same_kind (joined_at ks k o)
    by_place (Some n) e = d
    by_place None e = distinct_end ks k d e

pub distinct_none : IsDistinct same_kind []
unfolding IsDistinct
distinct_none = tt

-- a kind stands at its place
pub kind_at_place : (ks : List Kind) (k : Kind) (n : ℕ) → place_of ks k ≡ Some n → slice_get ks n ≡ Some k
kind_at_place ks k n h =
    let sum : n ≡ 0 + n = omega arith
    in let found = position_passes (λ j. same_kind j k) 0 n ks (h ∙ ap Some sum)
    in found.1 ∙ ap Some (same_kind_true found.0 k found.2)

apart_at : (j : Kind) (ks : List Kind) (m : ℕ) (k : Kind) → AllByRecursion (λ y. same_kind j y ≡ false) ks → slice_get ks m ≡ Some k → same_kind j k ≡ false
apart_at j [] m k h e = cc
apart_at j (i ∷ ks) zero k h e = let same : i ≡ k = cc in ap (same_kind j) (sym same) ∙ h.0
apart_at j (i ∷ ks) (suc m) k h e = apart_at j ks m k h.1 e

place_from : (i m : ℕ) (ks : List Kind) (k : Kind) → IsDistinct same_kind ks → slice_get ks m ≡ Some k → position_from (λ j. same_kind j k) i ks ≡ Some (i + m)
unfolding IsDistinct
place_from i m [] k d h = cc
place_from i zero (j ∷ ks) k d h =
    let same : j ≡ k = cc
    in let is : same_kind j k ≡ true = ap (λ x. same_kind x k) same ∙ same_kind_self k
    in let sum : i ≡ i + 0 = omega arith
    in ap (λ b. cond b (Some i) (position_from (λ j. same_kind j k) (i + 1) ks)) is ∙ ap Some sum
place_from i (suc m) (j ∷ ks) k d h =
    let sum : i + 1 + m ≡ i + suc m = omega arith
    in ap (λ b. cond b (Some i) (position_from (λ j. same_kind j k) (i + 1) ks)) (apart_at j ks m k d.0 h) ∙ place_from (i + 1) m ks k d.1 h ∙ ap Some sum

-- and has it for its place, where kinds stand once
pub place_of_at : (ks : List Kind) (k : Kind) (n : ℕ) → IsDistinct same_kind ks → slice_get ks n ≡ Some k → place_of ks k ≡ Some n
place_of_at ks k n d h = let sum : 0 + n ≡ n = omega arith in place_from 0 n ks k d h ∙ ap Some sum

at_end : (ks : List Kind) (k : Kind) → slice_get (ks ++ k ∷ []) (length ks) ≡ Some k
at_end [] k = refl
at_end (j ∷ ks) k = at_end ks k

-- the added kind stands where the answer says
pub added_stands : (ks : List Kind) (k : Kind) (n : ℕ) → place_of ks k ≡ None → n ≡ length ks → slice_get (with_kind ks k) n ≡ Some k
added_stands ks k n e same = ap (λ o. slice_get (joined_at ks k o) n) e ∙ ap (slice_get (ks ++ k ∷ [])) same ∙ at_end ks k

stays_before : (ks : List Kind) (k : Kind) (n : ℕ) (j : Kind) → slice_get ks n ≡ Some j → slice_get (ks ++ k ∷ []) n ≡ Some j
stays_before [] k n j h = cc
stays_before (i ∷ ks) k zero j h = h
stays_before (i ∷ ks) k (suc n) j h = stays_before ks k n j h

-- and the others keep their places
pub stays_with_kind : (ks : List Kind) (k : Kind) (n : ℕ) (j : Kind) → slice_get ks n ≡ Some j → slice_get (with_kind ks k) n ≡ Some j
stays_with_kind ks k n j h = by_place (place_of ks k)
  where
    by_place : (o : Option ℕ) → slice_get (joined_at ks k o) n ≡ Some j
    by_place (Some place) = h
    by_place None = stays_before ks k n j h

-- a place stays the same while kinds are added
pub place_stays : (ks : List Kind) (k j : Kind) (n : ℕ) → IsDistinct same_kind ks → place_of ks j ≡ Some n → place_of (with_kind ks k) j ≡ Some n
place_stays ks k j n d h = place_of_at (with_kind ks k) j n (distinct_with_kind ks k d) (stays_with_kind ks k n j (kind_at_place ks j n h))

-- the number that is answered is the place of the kind then
pub place_added : (ks : List Kind) (k : Kind) → IsDistinct same_kind ks → place_of (with_kind ks k) k ≡ Some (number_added (added_of ks k))
place_added ks k d = place_of_at (with_kind ks k) k (number_added (added_of ks k)) (distinct_with_kind ks k d) (by_place (place_of ks k) refl)
  where
    by_place : (o : Option ℕ) → place_of ks k ≡ o → slice_get (joined_at ks k o) (number_added (answer_at ks o)) ≡ Some k
    by_place (Some n) e = kind_at_place ks k n e
    by_place None e = at_end ks k

-- a kind that has no place is not there
pub absent_kind : (ks : List Kind) (k : Kind) (n : ℕ) → IsDistinct same_kind ks → place_of ks k ≡ None → slice_get ks n ≡ Some k → ⊥
absent_kind ks k n d none there = let found : Some n ≡ None = sym (place_of_at ks k n d there) ∙ none in cc
