-- Which names are those of kinds, and what an entry adds to a table.
use Rattle.std.proofs.Common.{◌≡◌, inl, inr, Bool, true, false, ◌&&◌, if◌then◌else◌, ℕ, zero, suc, ◌+◌, ◌<◌, nat_lt, slice_index, lit<, List, [], ◌∷◌, ◌++◌, Option, Some, None, Ok, Err, Result, length, length-append, refl, sym, ap, subst, ◌∙◌}
use Rattle.std.specs.List.{find, list_all}
use Rattle.std.specs.Str.{IsUtf8, bytes_eq, is_utf8}
use Rattle.std.specs.Str.Lossy.{utf8_valid_len}
use Rattle.std.proofs.lemmas.Bool.{cases_Bool, ltb-true}
use Rattle.std.proofs.lemmas.Slice.Eq.{bytes_eq-Decides}
use Rattle.std.proofs.lemmas.Str.{IsUtf8-from_ascii, IsUtf8-from_is_utf8, is_utf8-from_IsUtf8}
use Rattle.bast_base.specs.declared.errors.Why.TheVariants.{NotUtf8, Repeated, UnknownKind}
use Rattle.bast_schema.specs.declared.kind.Kind.{Kind}
use Rattle.bast_schema.specs.declared.table.Added.TheVariants.{New, There}
use Rattle.bast_schema.specs.KindTable.{answer_at, joined_at, place_of}
use Rattle.bast_schema.specs.Kinds.{kind_name, kind_of_name, kinds}
use Rattle.bast_schema.proofs.Both.{and_first, and_second}
use Rattle.bast_schema.proofs.Places.{found_passes}
use Rattle.string_table.specs.Entries.{place_in}
use Rattle.bast_base.specs.declared.errors.FormatFault.{FormatFault}
use Rattle.container.specs.Answers.{fault, ◌>>=◌}
use Rattle.container.specs.Container.{entry_bytes}
use Rattle.container.specs.Entries.{entry_of, more_kinds, more_texts, new_entry}

found_first : {A : Type 0} (p q : A → Bool) (y : A) (ys : List A) (x : A) (b c : Bool) → q y ≡ c → (if b then Some y else find p ys) ≡ Some x → (c && list_all q ys) ≡ true → (find p ys ≡ Some x → list_all q ys ≡ true → q x ≡ true) → q x ≡ true
found_first p q y ys x true true e is all more = let same : y ≡ x = cc in ap q (sym same) ∙ e
found_first p q y ys x true false e is all more = cc
found_first p q y ys x false true e is all more = more is all
found_first p q y ys x false false e is all more = cc

-- what is found among items that all pass passes
found_all : {A : Type 0} (p q : A → Bool) (xs : List A) (x : A) → list_all q xs ≡ true → find p xs ≡ Some x → q x ≡ true
found_all p q [] x all is = cc
found_all p q (y ∷ ys) x all is = found_first p q y ys x (p y) (q y) refl is all (λ e rest. found_all p q ys x rest e)

abbrev pub is_plain : List ℕ → Bool
is_plain bytes = list_all (λ (b : ℕ). nat_lt b 128) bytes

names_are_plain : list_all (λ (k : Kind). is_plain (kind_name k)) kinds ≡ true
names_are_plain = refl

plain_ascii : (bytes : List ℕ) → is_plain bytes ≡ true → (i : ℕ) → slice_index bytes i < 128
plain_ascii [] plain zero = lit< tt
plain_ascii [] plain (suc i) = lit< tt
plain_ascii (x ∷ xs) plain zero = ltb-true x 128 (and_first (nat_lt x 128) (is_plain xs) plain)
plain_ascii (x ∷ xs) plain (suc i) = plain_ascii xs (and_second (nat_lt x 128) (is_plain xs) plain) i

pub plain_text : (bytes : List ℕ) → is_plain bytes ≡ true → IsUtf8 bytes
plain_text bytes plain = IsUtf8-from_ascii bytes (plain_ascii bytes plain)

pub text_of_kind : (name : List ℕ) (k : Kind) → kind_of_name name ≡ Some k → (kind_name k ≡ name) × IsUtf8 name
text_of_kind name k is =
    let same : kind_name k ≡ name = (bytes_eq-Decides (kind_name k) name).0 (found_passes (λ (j : Kind). bytes_eq (kind_name j) name) kinds k is) in
    (same, subst IsUtf8 same (plain_text (kind_name k) (found_all (λ (j : Kind). bytes_eq (kind_name j) name) (λ (j : Kind). is_plain (kind_name j)) kinds k names_are_plain is)))

-- what is no text is no name
pub unnamed : (name : List ℕ) → (IsUtf8 name → ⊥) → None ≡ kind_of_name name
unnamed name none = go (kind_of_name name) refl
  where
    go : (o : Option Kind) → kind_of_name name ≡ o → None ≡ kind_of_name name
    go None e = sym e
    go (Some k) e = absurd (none (text_of_kind name k e).1)

pub kind_unknown : (ks : List Kind) (name : List ℕ) (at : ℕ) → kind_of_name name ≡ None → more_kinds ks name at ≡ Err (fault at UnknownKind)
unfolding more_kinds
kind_unknown ks name at is = rw is refl

entry_new : (ks : List Kind) (k : Kind) (at n : ℕ) (o : Option ℕ) (new : List Kind) → New n ≡ answer_at ks o → new ≡ joined_at ks k o → new_entry ks k at o ≡ Ok new
entry_new ks k at n None new is now = ap Ok (sym now)
entry_new ks k at n (Some first) new is now = cc

entry_there : (ks : List Kind) (k : Kind) (at n : ℕ) (o : Option ℕ) → There n ≡ answer_at ks o → new_entry ks k at o ≡ Err (fault at (Repeated n))
entry_there ks k at n None is = cc
entry_there ks k at n (Some first) is = let same : first ≡ n = cc in ap (λ (m : ℕ). Err (fault at (Repeated m))) same

pub kind_new : (ks : List Kind) (name : List ℕ) (at n : ℕ) (k : Kind) (new : List Kind) → kind_of_name name ≡ Some k → New n ≡ answer_at ks (place_of ks k) → new ≡ joined_at ks k (place_of ks k) → more_kinds ks name at ≡ Ok new
unfolding more_kinds
kind_new ks name at n k new is answer now = rw is (entry_new ks k at n (place_of ks k) new answer now)

pub kind_there : (ks : List Kind) (name : List ℕ) (at n : ℕ) (k : Kind) → kind_of_name name ≡ Some k → There n ≡ answer_at ks (place_of ks k) → more_kinds ks name at ≡ Err (fault at (Repeated n))
unfolding more_kinds
kind_there ks name at n k is answer = rw is (entry_there ks k at n (place_of ks k) answer)

not_utf8 : (bytes : List ℕ) → (IsUtf8 bytes → ⊥) → is_utf8 bytes ≡ false
not_utf8 bytes none = elim (cases_Bool (is_utf8 bytes)) [ inl p ↦ absurd (none (IsUtf8-from_is_utf8 bytes p)) | inr p ↦ p ]

pub text_read : (ts : List (Option (List ℕ))) (bytes : List ℕ) (at : ℕ) → IsUtf8 bytes → more_texts ts bytes at ≡ new_entry ts (Some bytes) at (place_in ts (Some bytes))
unfolding more_texts
text_read ts bytes at text = rw (is_utf8-from_IsUtf8 bytes text) refl

pub absent_read : (ts : List (Option (List ℕ))) (bytes : List ℕ) (at : ℕ) → (IsUtf8 bytes → ⊥) → bytes_eq bytes (entry_bytes None) ≡ true → more_texts ts bytes at ≡ new_entry ts None at (place_in ts None)
unfolding more_texts
absent_read ts bytes at none is = rw (not_utf8 bytes none, is) refl

pub no_text : (ts : List (Option (List ℕ))) (bytes : List ℕ) (at : ℕ) → (IsUtf8 bytes → ⊥) → bytes_eq bytes (entry_bytes None) ≡ false → more_texts ts bytes at ≡ Err (fault (at + utf8_valid_len bytes) NotUtf8)
unfolding more_texts
no_text ts bytes at none other = rw (not_utf8 bytes none, other) refl

new_grows : {A : Type 0} (xs : List A) (x : A) (at : ℕ) (o : Option ℕ) (ys : List A) → new_entry xs x at o ≡ Ok ys → length ys ≡ length xs + 1
new_grows xs x at (Some first) ys is = cc
new_grows {A} xs x at None ys is = let e : xs ++ x ∷ [] ≡ ys = cc in ap length (sym e) ∙ length-append {A = A} xs (x ∷ [])

texts_grow_from : (ts : List (Option (List ℕ))) (at : ℕ) (m : Result (Option (List ℕ)) FormatFault) (new : List (Option (List ℕ))) → (m >>= λ entry. new_entry ts entry at (place_in ts entry)) ≡ Ok new → length new ≡ length ts + 1
texts_grow_from ts at (Ok entry) new is = new_grows ts entry at (place_in ts entry) new is
texts_grow_from ts at (Err f) new is = cc

pub texts_grow : (ts : List (Option (List ℕ))) (bytes : List ℕ) (at : ℕ) (new : List (Option (List ℕ))) → more_texts ts bytes at ≡ Ok new → length new ≡ length ts + 1
unfolding more_texts
texts_grow ts bytes at new is = texts_grow_from ts at (entry_of bytes at) new is
