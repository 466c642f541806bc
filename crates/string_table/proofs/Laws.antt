-- What callers cite of the entries of a table.
use Rattle.std.proofs.Common.{◌≡◌, ℕ, ◌+◌, Bool, true, false, cond, List, [], ◌∷◌, ◌++◌, length, get_or, zero, suc, slice_get, Option, None, Some, refl, sym, ap, subst, ◌∙◌, true≢false, arith}
use Rattle.std.proofs.lemmas.Bool.{cond-true, cond-false}
use Rattle.std.proofs.lemmas.Cmp.{nat_list_eq_equiv}
use Rattle.std.proofs.lemmas.List.Quantifiers.{position-Some}
use Rattle.std.proofs.lemmas.Map.Keys.{IsDistinct-push, IsDistinct-head, IsDistinct-tail}
use Rattle.std.proofs.lemmas.Option.{none-some, slice_get-get_or}
use Rattle.std.proofs.lemmas.Slice.Eq.{bytes_eq-Decides}
use Rattle.std.specs.Bool.{Decides}
use Rattle.std.specs.Cmp.Lexicographic.{options_equiv}
use Rattle.std.specs.List.{position_from, AllByRecursion}
use Rattle.std.specs.Option.{unwrap_or}
use Rattle.string_table.specs.Entries.{is_same, place_in, added, added_name, place_of, AreDistinct}
use Rattle.string_table.specs.declared.entry.AddedName.TheVariants.{New, There}
use Rattle.string_table.proofs.Search.{position-from, list_any-from_none}

pub is_same-Decides : (a b : Option (List ℕ)) → Decides (is_same a b) (a ≡ b)
is_same-Decides None None = (λ _. refl, λ _. refl)
is_same-Decides None (Some y) = (λ h. absurd (true≢false (sym h)), λ e. absurd (none-some y e))
is_same-Decides (Some x) None = (λ h. absurd (true≢false (sym h)), λ e. absurd (none-some x (sym e)))
is_same-Decides (Some x) (Some y) =
    let d = bytes_eq-Decides x y in (λ h. ap Some (d.0 h), λ e. d.1 (ap (λ o. unwrap_or o x) e))

-- what stands at the place that an entry has is that entry
pub slice_get-place_in : (entries : List (Option (List ℕ))) (entry : Option (List ℕ)) (i : ℕ) → place_in entries entry ≡ Some i → slice_get entries i ≡ Some entry
slice_get-place_in entries entry i e =
    let h = position-Some (is_same entry) entries i entry e in
    slice_get-get_or entries i entry h.0 ∙ ap Some (sym ((is_same-Decides entry (get_or entries i entry)).0 h.1))

-- an entry that is not there goes to the end, and has the next place there
from_push : (entry : Option (List ℕ)) (n : ℕ) (entries : List (Option (List ℕ))) → position_from (is_same entry) n entries ≡ None
    → position_from (is_same entry) n (entries ++ entry ∷ []) ≡ Some (n + length entries)
from_push entry n [] e =
    cond-true (is_same entry entry) (Some n) None ((is_same-Decides entry entry).1 refl) ∙ ap Some (omega arith)
from_push entry n (x ∷ entries) e = by (is_same entry x) (from_push entry (n + 1) entries) e
  where
    by : (b : Bool)
        → (position_from (is_same entry) (n + 1) entries ≡ None → position_from (is_same entry) (n + 1) (entries ++ entry ∷ []) ≡ Some (n + 1 + length entries))
        → cond b (Some n) (position_from (is_same entry) (n + 1) entries) ≡ None
        → cond b (Some n) (position_from (is_same entry) (n + 1) (entries ++ entry ∷ [])) ≡ Some (n + suc (length entries))
    by true rest q = absurd (none-some n (sym q))
    by false rest q =
        let later : n + 1 + length entries ≡ n + suc (length entries) = omega arith in
        rest q ∙ ap Some later

pub place_in-push : (entries : List (Option (List ℕ))) (entry : Option (List ℕ)) → place_in entries entry ≡ None → place_in (entries ++ entry ∷ []) entry ≡ Some (length entries)
place_in-push entries entry e =
    let first : 0 + length entries ≡ length entries = omega arith in
    position-from (is_same entry) (entries ++ entry ∷ []) ∙ from_push entry 0 entries (sym (position-from (is_same entry) entries) ∙ e) ∙ ap Some first

-- a place that an entry has stays its place when others come behind
from_append : (entry : Option (List ℕ)) (n i : ℕ) (entries others : List (Option (List ℕ))) → position_from (is_same entry) n entries ≡ Some i
    → position_from (is_same entry) n (entries ++ others) ≡ Some i
from_append entry n i [] others e = absurd (none-some i e)
from_append entry n i (x ∷ entries) others e = by (is_same entry x) (from_append entry (n + 1) i entries others) e
  where
    by : (b : Bool)
        → (position_from (is_same entry) (n + 1) entries ≡ Some i → position_from (is_same entry) (n + 1) (entries ++ others) ≡ Some i)
        → cond b (Some n) (position_from (is_same entry) (n + 1) entries) ≡ Some i
        → cond b (Some n) (position_from (is_same entry) (n + 1) (entries ++ others)) ≡ Some i
    by true rest q = q
    by false rest q = rest q

pub place_in-append : (entries others : List (Option (List ℕ))) (entry : Option (List ℕ)) (i : ℕ) → place_in entries entry ≡ Some i → place_in (entries ++ others) entry ≡ Some i
place_in-append entries others entry i e =
    position-from (is_same entry) (entries ++ others) ∙ from_append entry 0 i entries others (sym (position-from (is_same entry) entries) ∙ e)

-- adding keeps entries distinct
pub AreDistinct-added : (entries : List (Option (List ℕ))) (entry : Option (List ℕ)) → AreDistinct entries → AreDistinct (added entries entry)
AreDistinct-added entries entry h = by (place_in entries entry) refl
  where
    by : (o : Option ℕ) → place_in entries entry ≡ o → AreDistinct (added entries entry)
    by None e =
        rw e (IsDistinct-push (options_equiv nat_list_eq_equiv) entries entry h (list_any-from_none (is_same entry) entries e))
    by (Some i) e = rw e h

passes_at : {X : Type 0} (P : X → Type 0) (xs : List X) (i : ℕ) (x : X) → AllByRecursion P xs → slice_get xs i ≡ Some x → P x
passes_at P [] i x h e = absurd (none-some x e)
passes_at P (y ∷ ys) zero x h e = subst P (ap (λ o. unwrap_or o x) e) h.0
passes_at P (y ∷ ys) (suc i) x h e = passes_at P ys i x h.1 e

-- where entries are distinct, an entry has the place that it stands at
from_own : (entry : Option (List ℕ)) (n i : ℕ) (entries : List (Option (List ℕ))) → AreDistinct entries → slice_get entries i ≡ Some entry
    → position_from (is_same entry) n entries ≡ Some (n + i)
from_own entry n i [] h e = absurd (none-some entry e)
from_own entry n zero (x ∷ entries) h e =
    cond-true (is_same entry x) (Some n) (position_from (is_same entry) (n + 1) entries)
    ((is_same-Decides entry x).1 (sym (ap (λ o. unwrap_or o entry) e))) ∙ ap Some (omega arith)
from_own entry n (suc i) (x ∷ entries) h e =
    let apart : is_same x entry ≡ false = passes_at _ entries i entry (IsDistinct-head is_same x entries h) e in
    let later : n + 1 + i ≡ n + suc i = omega arith in
    cond-false (is_same entry x) (Some n) (position_from (is_same entry) (n + 1) entries) ((options_equiv nat_list_eq_equiv).symm entry x ∙ apart)
    ∙ from_own entry (n + 1) i entries (IsDistinct-tail is_same x entries h) e ∙ ap Some later

pub place_in-own : (entries : List (Option (List ℕ))) (entry : Option (List ℕ)) (i : ℕ) → AreDistinct entries → slice_get entries i ≡ Some entry → place_in entries entry ≡ Some i
place_in-own entries entry i h e =
    let first : 0 + i ≡ i = omega arith in
    position-from (is_same entry) entries ∙ from_own entry 0 i entries h e ∙ ap Some first

-- what `add` answers is the place that the entry has then
pub place_in-added : (entries : List (Option (List ℕ))) (entry : Option (List ℕ)) → place_in (added entries entry) entry ≡ Some (place_of (added_name entries entry))
place_in-added entries entry = by (place_in entries entry) refl
  where
    by : (o : Option ℕ) → place_in entries entry ≡ o → place_in (added entries entry) entry ≡ Some (place_of (added_name entries entry))
    by None e = rw e (place_in-push entries entry e)
    by (Some i) e = rw e e

-- a new entry has the next place, and its list one more
pub added-new : (entries : List (Option (List ℕ))) (entry : Option (List ℕ)) → place_in entries entry ≡ None
    → (added entries entry ≡ entries ++ entry ∷ []) × (added_name entries entry ≡ New (record { 0 = length entries }))
added-new entries entry e = rw e (refl, refl)

-- one that is there keeps its place, and the entries stay
pub added-there : (entries : List (Option (List ℕ))) (entry : Option (List ℕ)) (i : ℕ) → place_in entries entry ≡ Some i
    → (added entries entry ≡ entries) × (added_name entries entry ≡ There (record { 0 = i }))
added-there entries entry i e = rw e (refl, refl)
