-- Entries of which none stands twice are each added as new.
use Rattle.std.proofs.Common.{◌≡◌, Bool, true, false, ℕ, ◌+◌, ◌<◌, List, [], ◌∷◌, ◌++◌, length, Option, Some, None, Ok, append_assoc, refl, ap, arith, if◌then◌else◌}
use Rattle.std.specs.List.{AllByRecursion, IsDistinct, position_from, slice_get}
use Rattle.std.specs.Str.{chars, is_utf8}
use Rattle.std.proofs.lemmas.Option.{slice_get_within}
use Rattle.bast_schema.specs.declared.kind.Kind.{Kind}
use Rattle.bast_schema.specs.KindTable.{place_of}
use Rattle.bast_schema.specs.Kinds.{kind_name, same_kind}
use Rattle.bast_schema.proofs.Distinct.{kind_at_place, place_of_at}
use Rattle.bast_schema.proofs.EachKind.{kind_of_its_name}
use Rattle.string_table.specs.Entries.{AreDistinct, place_in}
use Rattle.string_table.proofs.Laws.{place_in-append, place_in-own, slice_get-place_in}
use Rattle.container.specs.Container.{entry_bytes}
use Rattle.container.specs.Entries.{Judge, entry_of, more_kinds, more_texts, new_entry}
use Rattle.container.specs.InFile.{IsEntry}

-- behind these entries each of those is new, with these bytes
abbrev pub Fresh : {A : Type 0} → Judge A → (A → List ℕ) → List A → List A → Type 0
Fresh more bytes_of xs [] = Unit {0}
Fresh more bytes_of xs (y ∷ ys) = ((at : ℕ) → more xs (bytes_of y) at ≡ Ok (xs ++ y ∷ [])) × Fresh more bytes_of (xs ++ y ∷ []) ys

get_behind : {A : Type 0} (xs : List A) (y : A) (ys : List A) → slice_get (xs ++ y ∷ ys) (length xs) ≡ Some y
get_behind [] y ys = refl
get_behind (x ∷ xs) y ys = get_behind xs y ys

pub from_append : {A : Type 0} (p : A → Bool) (n m : ℕ) (xs ys : List A) → position_from p n xs ≡ Some m → position_from p n (xs ++ ys) ≡ Some m
from_append p n m [] ys is = cc
from_append p n m (x ∷ xs) ys is = first (p x) is (from_append p (n + 1) m xs ys)
  where
    first : (b : Bool) → (if b then Some n else position_from p (n + 1) xs) ≡ Some m → (position_from p (n + 1) xs ≡ Some m → position_from p (n + 1) (xs ++ ys) ≡ Some m) → (if b then Some n else position_from p (n + 1) (xs ++ ys)) ≡ Some m
    first true e more = e
    first false e more = more e

kind_is_new : (xs : List Kind) (y : Kind) (ys : List Kind) → IsDistinct same_kind (xs ++ y ∷ ys) → (o : Option ℕ) → place_of xs y ≡ o → place_of xs y ≡ None
kind_is_new xs y ys distinct None e = e
kind_is_new xs y ys distinct (Some m) e =
    let before : m < length xs = slice_get_within xs m y (kind_at_place xs y m e) in
    let there : place_of (xs ++ y ∷ ys) y ≡ Some m = from_append (λ j. same_kind j y) 0 m xs (y ∷ ys) e in
    let own : place_of (xs ++ y ∷ ys) y ≡ Some (length xs) = place_of_at (xs ++ y ∷ ys) y (length xs) distinct (get_behind xs y ys) in
    let same : m ≡ length xs = cc in
    absurd (omega arith)

kind_joins : (xs : List Kind) (y : Kind) (at : ℕ) → place_of xs y ≡ None → more_kinds xs (kind_name y) at ≡ Ok (xs ++ y ∷ [])
unfolding more_kinds
kind_joins xs y at none = rw (kind_of_its_name y) (ap (new_entry xs y at) none)

pub kinds_fresh : (xs ys : List Kind) → IsDistinct same_kind (xs ++ ys) → Fresh more_kinds kind_name xs ys
kinds_fresh xs [] distinct = tt
kinds_fresh xs (y ∷ ys) distinct = (
  λ at. kind_joins xs y at (kind_is_new xs y ys distinct (place_of xs y) refl),
  kinds_fresh (xs ++ y ∷ []) ys (rw append_assoc distinct),
)

text_is_new : (xs : List (Option (List ℕ))) (y : Option (List ℕ)) (ys : List (Option (List ℕ))) → AreDistinct (xs ++ y ∷ ys) → (o : Option ℕ) → place_in xs y ≡ o → place_in xs y ≡ None
text_is_new xs y ys distinct None e = e
text_is_new xs y ys distinct (Some m) e =
    let before : m < length xs = slice_get_within xs m y (slice_get-place_in xs y m e) in
    let there : place_in (xs ++ y ∷ ys) y ≡ Some m = place_in-append xs (y ∷ ys) y m e in
    let own : place_in (xs ++ y ∷ ys) y ≡ Some (length xs) = place_in-own (xs ++ y ∷ ys) y (length xs) distinct (get_behind xs y ys) in
    let same : m ≡ length xs = cc in
    absurd (omega arith)

absent_is_no_text : is_utf8 (0xFF ∷ 0 ∷ []) ≡ false
unfolding is_utf8 chars
absent_is_no_text = refl

entry_is_read : (y : Option (List ℕ)) (at : ℕ) → IsEntry y → entry_of (entry_bytes y) at ≡ Ok y
entry_is_read (Some bytes) at valid = rw valid refl
entry_is_read None at valid = rw absent_is_no_text refl

text_joins : (xs : List (Option (List ℕ))) (y : Option (List ℕ)) (at : ℕ) → IsEntry y → place_in xs y ≡ None → more_texts xs (entry_bytes y) at ≡ Ok (xs ++ y ∷ [])
unfolding more_texts
text_joins xs y at valid none = rw (entry_is_read y at valid) (ap (new_entry xs y at) none)

pub texts_fresh : (xs ys : List (Option (List ℕ))) → AreDistinct (xs ++ ys) → AllByRecursion IsEntry ys → Fresh more_texts entry_bytes xs ys
texts_fresh xs [] distinct valid = tt
texts_fresh xs (y ∷ ys) distinct valid = (
  λ at. text_joins xs y at valid.0 (text_is_new xs y ys distinct (place_in xs y) refl),
  texts_fresh (xs ++ y ∷ []) ys (rw append_assoc distinct) valid.1,
)
