-- Where a search of a list stops, also after an item is put into the list.
use Rattle.std.proofs.Common.{◌≡◌, ℕ, ◌+◌, ◌<◌, ◌≤◌, zero, suc, Bool, true, false, cond, ◌||◌, List, [], ◌∷◌, length, map, position, slice_get, ltb, None, Some, refl, sym, ap, ◌∙◌, arith}
use Rattle.std.proofs.lemmas.Bool.{cond-true, cond-false, lt-ltb, le-ltb}
use Rattle.std.proofs.lemmas.Iterator.Adapters.{position_from-zero}
use Rattle.std.proofs.lemmas.Option.{none-some}
use Rattle.std.specs.List.{position_from, insert, list_any}
use Rattle.std.specs.Option.{option_map}
use Rattle.string_table.specs.Inside.{place_of_index}

module _ {X : Type 0} (p : X → Bool) where
  pub position-from : (xs : List X) → position p xs ≡ position_from p 0 xs
  position-from xs = position_from-zero p xs

  -- counted from one later, the answer is one later
  from_later : (m n : ℕ) (xs : List X) → m ≤ n → position_from p (n + 1) xs ≡ option_map (place_of_index (Some m)) (position_from p n xs)
  from_later m n [] le = refl
  from_later m n (x ∷ xs) le =
      elim (p x) as (λ b. cond b (Some (n + 1)) (position_from p (n + 1 + 1) xs) ≡ option_map (place_of_index (Some m)) (cond b (Some n) (position_from p (n + 1) xs))) [
        | true ↦ ap Some (sym (cond-false (ltb n m) n (n + 1) (le-ltb n m le)))
        | false ↦ from_later m (n + 1) xs (omega arith)
      ]

  -- an item that does not pass moves the answer by one from its own place on
  pub from_insert : (y : X) (m n k : ℕ) (xs : List X) → p y ≡ false → k ≤ length xs → m ≡ n + k
      → position_from p n (insert xs k y) ≡ option_map (place_of_index (Some m)) (position_from p n xs)
  from_insert y m n zero xs fails le e =
      cond-false (p y) (Some n) (position_from p (n + 1) xs) fails ∙ from_later m n xs (omega arith)
  from_insert y m n (suc k) [] fails le e = absurd (omega arith)
  from_insert y m n (suc k) (x ∷ xs) fails le e =
      let le' : k ≤ length xs = omega arith in
      let e' : m ≡ n + 1 + k = omega arith in
      elim (p x) as (λ b. cond b (Some n) (position_from p (n + 1) (insert xs k y)) ≡ option_map (place_of_index (Some m)) (cond b (Some n) (position_from p (n + 1) xs))) [
        | true ↦ ap Some (sym (cond-true (ltb n m) n (n + 1) (lt-ltb n m (omega arith))))
        | false ↦ from_insert y m (n + 1) k xs fails le' e'
      ]

  -- where the search finds nothing, no item passes
  none_passes : (n : ℕ) (xs : List X) → position_from p n xs ≡ None → list_any p xs ≡ false
  none_passes n [] e = refl
  none_passes n (x ∷ xs) e = by (p x) (none_passes (n + 1) xs) e
    where
      by : (b : Bool) → (position_from p (n + 1) xs ≡ None → list_any p xs ≡ false) → cond b (Some n) (position_from p (n + 1) xs) ≡ None
          → (b || list_any p xs) ≡ false
      by true rest q = absurd (none-some n (sym q))
      by false rest q = rest q

  pub list_any-from_none : (xs : List X) → position p xs ≡ None → list_any p xs ≡ false
  list_any-from_none xs e = none_passes 0 xs (sym (position-from xs) ∙ e)

module _ {X Y : Type 0} (f : X → Y) (p : Y → Bool) where
  from_map : (n : ℕ) (xs : List X) → position_from p n (map f xs) ≡ position_from (λ x. p (f x)) n xs
  from_map n [] = refl
  from_map n (x ∷ xs) = ap (λ r. cond (p (f x)) (Some n) r) (from_map (n + 1) xs)

  pub position-map : (xs : List X) → position p (map f xs) ≡ position (λ x. p (f x)) xs
  position-map xs = position-from p (map f xs) ∙ from_map 0 xs ∙ sym (position-from (λ x. p (f x)) xs)

-- the items around one that was put in
module _ {X : Type 0} (y : X) where
  pub slice_get-insert_at : (xs : List X) (k : ℕ) → k ≤ length xs → slice_get (insert xs k y) k ≡ Some y
  slice_get-insert_at xs zero le = refl
  slice_get-insert_at [] (suc k) le = absurd (omega arith)
  slice_get-insert_at (x ∷ xs) (suc k) le = slice_get-insert_at xs k (omega arith)

  pub slice_get-insert_before : (xs : List X) (k i : ℕ) → k ≤ length xs → i < k → slice_get (insert xs k y) i ≡ slice_get xs i
  slice_get-insert_before xs zero i le lt = absurd (omega arith)
  slice_get-insert_before [] (suc k) i le lt = absurd (omega arith)
  slice_get-insert_before (x ∷ xs) (suc k) zero le lt = refl
  slice_get-insert_before (x ∷ xs) (suc k) (suc i) le lt = slice_get-insert_before xs k i (omega arith) (omega arith)

  pub slice_get-insert_after : (xs : List X) (k i : ℕ) → k ≤ length xs → k ≤ i → slice_get (insert xs k y) (suc i) ≡ slice_get xs i
  slice_get-insert_after xs zero i le h = refl
  slice_get-insert_after [] (suc k) i le h = absurd (omega arith)
  slice_get-insert_after (x ∷ xs) (suc k) zero le h = absurd (omega arith)
  slice_get-insert_after (x ∷ xs) (suc k) (suc i) le h = slice_get-insert_after xs k i (omega arith) (omega arith)
