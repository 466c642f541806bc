-- The entries of a table, from its texts and the place of the absent string.
use Rattle.std.proofs.Common.{◌≡◌, ℕ, ◌+◌, ◌-◌, ◌<◌, ◌≤◌, zero, suc, false, List, [], ◌∷◌, ◌++◌, length, get_or, map, position, slice_get, Option, None, Some, IfSome, String, string_bytes, if◌then◌else◌, refl, sym, ap, subst, ◌∙◌, arith}
use Rattle.std.proofs.lemmas.Iterator.Adapters.{option_map_id}
use Rattle.std.proofs.lemmas.List.{length-map, map_push, take_all, drop_all}
use Rattle.std.proofs.lemmas.List.Edits.{length-insert}
use Rattle.std.proofs.lemmas.List.Sorted.{IsPermutation-insert}
use Rattle.std.proofs.lemmas.Map.Keys.{IsDistinct-cons, IsDistinct-IsPermutation}
use Rattle.std.proofs.lemmas.Option.{slice_get-map, slice_get-get_or, none-some}
use Rattle.std.proofs.lemmas.Cmp.{nat_list_eq_equiv}
use Rattle.std.specs.Cmp.Lexicographic.{options_equiv}
use Rattle.std.specs.List.{position_from, insert, list_any, IsDistinct, AllByRecursion}
use Rattle.std.specs.Option.{option_map}
use Rattle.std.specs.Str.{bytes_eq}
use Rattle.std.specs.String.{string_eq}
use Rattle.indexmap.specs.IndexSet.{insert_key}
use Rattle.string_table.specs.Entries.{is_same, place_in, AreDistinct}
use Rattle.string_table.specs.Inside.{place_of_index, with_absent}
use Rattle.string_table.proofs.Search.{position-from, position-map, from_insert, list_any-from_none, slice_get-insert_at, slice_get-insert_before, slice_get-insert_after}

abbrev entries : List (List ℕ) → List (Option (List ℕ))
entries texts = map Some texts

pub place_in-text : (texts : List (List ℕ)) (absent : Option ℕ) (text : List ℕ) → IfSome absent (λ place. place ≤ length texts)
    → place_in (with_absent texts absent) (Some text) ≡ option_map (place_of_index absent) (position (bytes_eq text) texts)
place_in-text texts None text h =
    position-map Some (is_same (Some text)) texts ∙ sym (option_map_id (position (bytes_eq text) texts))
place_in-text texts (Some place) text h =
    let le : place ≤ length (entries texts) = rw length-map h in
    position-from (is_same (Some text)) (insert (entries texts) place None)
    ∙ from_insert (is_same (Some text)) None place 0 place (entries texts) refl le (omega arith)
    ∙ ap (option_map (place_of_index (Some place))) (sym (position-from (is_same (Some text)) (entries texts)) ∙ position-map Some (is_same (Some text)) texts)

no_absent : (n : ℕ) (texts : List (List ℕ)) → position_from (is_same None) n (entries texts) ≡ None
no_absent n [] = refl
no_absent n (text ∷ texts) = no_absent (n + 1) texts

absent_from : (n k : ℕ) (texts : List (List ℕ)) → k ≤ length texts → position_from (is_same None) n (insert (entries texts) k None) ≡ Some (n + k)
absent_from n zero texts le = ap Some (omega arith)
absent_from n (suc k) [] le = absurd (omega arith)
absent_from n (suc k) (text ∷ texts) le =
    let e : n + 1 + k ≡ n + suc k = omega arith in
    absent_from (n + 1) k texts (omega arith) ∙ ap Some e

pub place_in-absent : (texts : List (List ℕ)) (absent : Option ℕ) → IfSome absent (λ place. place ≤ length texts)
    → place_in (with_absent texts absent) None ≡ absent
place_in-absent texts None h = position-from (is_same None) (entries texts) ∙ no_absent 0 texts
place_in-absent texts (Some place) h =
    let e : 0 + place ≡ place = omega arith in
    position-from (is_same None) (insert (entries texts) place None) ∙ absent_from 0 place texts h ∙ ap Some e

-- the absent string at the end
pub with_absent-last : (texts : List (List ℕ)) (n : ℕ) → n ≡ length texts → with_absent texts (Some n) ≡ entries texts ++ None ∷ []
with_absent-last texts n e =
    let le : length (entries texts) ≤ n = rw length-map (omega arith) in
    rw (take_all n (entries texts) le, drop_all n (entries texts) le) refl

module _ (texts : List (List ℕ)) (absent : Option ℕ) (all : List (Option (List ℕ))) (h : IfSome absent (λ place. place ≤ length texts)) (is : with_absent texts absent ≡ all) where
  -- the place that is kept is the absent string's
  pub place_in-kept : place_in all None ≡ absent
  place_in-kept = ap (λ es. place_in es None) (sym is) ∙ place_in-absent texts absent h

  -- with none kept, the absent string goes to the end
  pub with_absent-added : (n : ℕ) → absent ≡ None → n ≡ length texts → with_absent texts (Some n) ≡ all ++ None ∷ []
  with_absent-added n e last =
      with_absent-last texts n last ∙ ap (λ es. es ++ None ∷ []) (ap (with_absent texts) (sym e) ∙ is)

  pub length-kept : absent ≡ None → length all ≡ length texts
  length-kept e = ap length (sym is ∙ ap (with_absent texts) e) ∙ length-map texts Some

-- the text at a place, where the absent string stands before it or behind it
pub slice_get-before : (texts : List (List ℕ)) (place i : ℕ) → place ≤ length texts → i < place
    → slice_get (with_absent texts (Some place)) i ≡ option_map Some (slice_get texts i)
slice_get-before texts place i le lt =
    slice_get-insert_before None (entries texts) place i (rw length-map le) lt ∙ slice_get-map Some texts i

pub slice_get-after : (texts : List (List ℕ)) (place i : ℕ) → place ≤ length texts → place < i
    → slice_get (with_absent texts (Some place)) i ≡ option_map Some (slice_get texts (i - 1))
slice_get-after texts place zero le lt = absurd (omega arith)
slice_get-after texts place (suc i) le lt =
    let e : i ≡ suc i - 1 = omega arith in
    slice_get-insert_after None (entries texts) place i (rw length-map le) (omega arith)
    ∙ slice_get-map Some texts i ∙ ap (λ k. option_map Some (slice_get texts k)) e

pub slice_get-at : (texts : List (List ℕ)) (place : ℕ) → place ≤ length texts → slice_get (with_absent texts (Some place)) place ≡ Some None
slice_get-at texts place le = slice_get-insert_at None (entries texts) place (rw length-map le)

-- what is read for a place behind the absent string
pub slice_get-kept_after : (texts : List (List ℕ)) (absent : Option ℕ) (all : List (Option (List ℕ))) (place i : ℕ) (o : Option (List ℕ))
    → IfSome absent (λ p. p ≤ length texts) → with_absent texts absent ≡ all → absent ≡ Some place → i < length all → place < i
    → o ≡ slice_get texts (i - 1) → slice_get all i ≡ Some o
slice_get-kept_after texts absent all place i o h is e within behind read =
    let le : place ≤ length texts = subst (λ a. IfSome a (λ p. p ≤ length texts)) e h in
    let whole : with_absent texts (Some place) ≡ all = ap (with_absent texts) (sym e) ∙ is in
    let more : length all ≡ length texts + 1 =
    ap length (sym whole) ∙ length-insert (entries texts) place None (rw length-map le) ∙ ap (λ n. n + 1) (length-map texts Some) in
    let there : slice_get texts (i - 1) ≡ Some (get_or texts (i - 1) []) = slice_get-get_or texts (i - 1) [] (omega arith) in
    ap (λ es. slice_get es i) (sym whole) ∙ slice_get-after texts place i le behind
    ∙ ap (option_map Some) there ∙ ap Some (sym there ∙ sym read)

all_texts : (texts : List (List ℕ)) → AllByRecursion (λ y. is_same None y ≡ false) (entries texts)
all_texts [] = tt
all_texts (text ∷ texts) = (refl, all_texts texts)

module _ {A : Type 0} where
  apart : (k : String A) (ks : List (String A)) → AllByRecursion (λ y. string_eq k y ≡ false) ks
      → AllByRecursion (λ y. is_same (Some (string_bytes k)) y ≡ false) (entries (map string_bytes ks))
  apart k [] h = tt
  apart k (x ∷ xs) h = (h.0, apart k xs h.1)

  distinct_texts : (ks : List (String A)) → IsDistinct string_eq ks → AreDistinct (entries (map string_bytes ks))
  unfolding IsDistinct
  distinct_texts [] h = tt
  distinct_texts (k ∷ ks) h = (apart k ks h.0, distinct_texts ks h.1)

  pub AreDistinct-with_absent : (ks : List (String A)) (absent : Option ℕ) → IsDistinct string_eq ks → AreDistinct (with_absent (map string_bytes ks) absent)
  AreDistinct-with_absent ks None h = distinct_texts ks h
  AreDistinct-with_absent ks (Some place) h =
      let texts = entries (map string_bytes ks) in
      IsDistinct-IsPermutation is_same ((options_equiv nat_list_eq_equiv).symm) (None ∷ texts) (insert texts place None) (IsPermutation-insert texts place None)
      (IsDistinct-cons is_same None texts (all_texts (map string_bytes ks)) (distinct_texts ks h))

  -- a text that is not there goes last
  pub texts-insert_key : (ks : List (String A)) (k : String A) → position (bytes_eq (string_bytes k)) (map string_bytes ks) ≡ None
      → map string_bytes (insert_key string_eq ks k) ≡ map string_bytes ks ++ string_bytes k ∷ []
  texts-insert_key ks k none =
      let new : list_any (string_eq k) ks ≡ false = list_any-from_none (string_eq k) ks (sym (position-map string_bytes (bytes_eq (string_bytes k)) ks) ∙ none) in
      ap (λ b. map string_bytes (if b then ks else ks ++ k ∷ [])) new ∙ map_push string_bytes ks k

pub none_from_map : {X Y : Type 0} (f : X → Y) (o : Option X) → option_map f o ≡ None → o ≡ None
none_from_map f None e = refl
none_from_map f (Some x) e = absurd (none-some (f x) (sym e))
