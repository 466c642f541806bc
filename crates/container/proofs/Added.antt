-- What an entry adds to a table: one more, that is new, and is spelled behind the others.
use Rattle.std.proofs.Common.{◌≡◌, Bool, true, false, ℕ, ◌+◌, List, [], ◌∷◌, ◌++◌, Option, Some, None, Ok, Err, Result, length, length-append, append-nil, append_assoc, refl, sym, ap, subst, ◌∙◌, if◌then◌else◌}
use Rattle.std.specs.Prelude.{flat_map, is_some}
use Rattle.std.specs.List.{AllByRecursion, IsDistinct}
use Rattle.std.specs.Str.{bytes_eq, is_utf8}
use Rattle.std.proofs.lemmas.Slice.Eq.{bytes_eq-Decides}
use Rattle.bast_base.specs.declared.errors.FormatFault.{FormatFault}
use Rattle.bast_schema.specs.declared.kind.Kind.{Kind}
use Rattle.bast_schema.specs.KindTable.{place_of}
use Rattle.bast_schema.specs.Kinds.{kind_name, kind_of_name, same_kind}
use Rattle.bast_schema.proofs.Distinct.{distinct_end}
use Rattle.string_table.specs.Entries.{AreDistinct, added, place_in}
use Rattle.string_table.proofs.Laws.{AreDistinct-added}
use Rattle.container.specs.Answers.{◌>>=◌}
use Rattle.container.specs.Clauses.{kind_entries, text_entries}
use Rattle.container.specs.Container.{counted, entry_bytes}
use Rattle.container.specs.Entries.{entry_of, more_kinds, more_texts, named, new_entry}
use Rattle.container.specs.InFile.{IsEntry}
use Rattle.container.proofs.Named.{text_of_kind}
use Rattle.container.proofs.Ranges.{Lies, lies_more}

new_is : {A : Type 0} (xs : List A) (x : A) (at : ℕ) (o : Option ℕ) (ys : List A) → new_entry xs x at o ≡ Ok ys → (o ≡ None) × (ys ≡ xs ++ x ∷ [])
new_is xs x at (Some first) ys is = cc
new_is xs x at None ys is = let e : xs ++ x ∷ [] ≡ ys = cc in (refl, sym e)

-- a kind that was not there, of this name
pub record NewKind (ks : List Kind) (name : List ℕ) (new : List Kind) : Type 0 where
  pub kind : Kind
  pub name_is : kind_name kind ≡ name
  pub none : place_of ks kind ≡ None
  pub is : new ≡ ks ++ kind ∷ []

kind_from : (ks : List Kind) (name : List ℕ) (at : ℕ) (new : List Kind) (o : Option Kind) → kind_of_name name ≡ o → (named at o >>= λ k. new_entry ks k at (place_of ks k)) ≡ Ok new → NewKind ks name new
kind_from ks name at new None e is = absurd (apart is)
  where
    apart : {f : FormatFault} → Err f ≡ Ok new → ⊥
    apart is = cc
kind_from ks name at new (Some k) e is =
    let n = new_is ks k at (place_of ks k) new is in
    record { kind = k; name_is = (text_of_kind name k e).0; none = n.0; is = n.1 }

pub kind_added : (ks : List Kind) (name : List ℕ) (at : ℕ) (new : List Kind) → more_kinds ks name at ≡ Ok new → NewKind ks name new
unfolding more_kinds
kind_added ks name at new is = kind_from ks name at new (kind_of_name name) refl is

-- an entry that was not there, of these bytes
pub record NewText (ts : List (Option (List ℕ))) (bytes : List ℕ) (new : List (Option (List ℕ))) : Type 0 where
  pub entry : Option (List ℕ)
  pub bytes_are : entry_bytes entry ≡ bytes
  pub valid : IsEntry entry
  pub none : place_in ts entry ≡ None
  pub is : new ≡ ts ++ entry ∷ []

record Read (bytes : List ℕ) (entry : Option (List ℕ)) : Type 0 where
  bytes_are : entry_bytes entry ≡ bytes
  valid : IsEntry entry

entry_from : (bytes : List ℕ) (entry : Option (List ℕ)) (b c : Bool) → is_utf8 bytes ≡ b → bytes_eq bytes (entry_bytes None) ≡ c → (f : FormatFault)
    → (if b then Ok (Some bytes) else if c then Ok None else Err f) ≡ Ok entry → Read bytes entry
entry_from bytes entry true c e1 e2 f is = let e : Some bytes ≡ entry = cc in rw (← e) (record { bytes_are = refl; valid = e1 })
entry_from bytes entry false true e1 e2 f is =
    let e : None ≡ entry = cc in
    rw (← e) (record { bytes_are = sym ((bytes_eq-Decides bytes (entry_bytes None)).0 e2); valid = tt })
entry_from bytes entry false false e1 e2 f is = absurd (apart is)
  where
    apart : Err f ≡ Ok entry → ⊥
    apart is = cc

text_from : (ts : List (Option (List ℕ))) (bytes : List ℕ) (at : ℕ) (new : List (Option (List ℕ))) (m : Result (Option (List ℕ)) FormatFault) → entry_of bytes at ≡ m → (m >>= λ entry. new_entry ts entry at (place_in ts entry)) ≡ Ok new → NewText ts bytes new
text_from ts bytes at new (Ok entry) e is =
    let n = new_is ts entry at (place_in ts entry) new is in
    let r = entry_from bytes entry (is_utf8 bytes) (bytes_eq bytes (entry_bytes None)) refl refl _ e in
    record { entry = entry; bytes_are = r.bytes_are; valid = r.valid; none = n.0; is = n.1 }
text_from ts bytes at new (Err f) e is = absurd (apart is)
  where
    apart : Err f ≡ Ok new → ⊥
    apart is = cc

pub text_added : (ts : List (Option (List ℕ))) (bytes : List ℕ) (at : ℕ) (new : List (Option (List ℕ))) → more_texts ts bytes at ≡ Ok new → NewText ts bytes new
unfolding more_texts
text_added ts bytes at new is = text_from ts bytes at new (entry_of bytes at) refl is

-- a table has one entry more, which lies behind those before it
pub record Adds {A : Type 0} (entries : List A → List ℕ) (bytes : List ℕ) (at end : ℕ) (old new : List A) (next : ℕ) : Type 0 where
  pub count : length new ≡ length old + 1
  pub lies : (from : ℕ) → Lies bytes from end (entries old) at → Lies bytes from end (entries new) next

flat_push : {A : Type 0} (f : A → List ℕ) (xs : List A) (x : A) → flat_map f (xs ++ x ∷ []) ≡ flat_map f xs ++ f x
flat_push f [] x = append-nil (f x)
flat_push f (y ∷ ys) x = ap (λ (zs : List ℕ). f y ++ zs) (flat_push f ys x) ∙ sym (append_assoc (f y) (flat_map f ys) (f x))

adds : {A : Type 0} (entries : List A → List ℕ) (bytes : List ℕ) (at end from to : ℕ) (old new : List A) (part : List ℕ) → Lies bytes at end part to → length new ≡ length old + 1 → entries new ≡ entries old ++ part → Adds entries bytes at end old new to
adds entries bytes at end from to old new part lies count is = record {
  count = count;
  lies = λ start before. subst (λ (xs : List ℕ). Lies bytes start end xs to) (sym is) (lies_more before lies);
}

pub kind_adds : (bytes : List ℕ) (at end from to : ℕ) (old new : List Kind) (name : List ℕ) → Lies bytes at end (counted name) to → more_kinds old name from ≡ Ok new → Adds kind_entries bytes at end old new to
kind_adds bytes at end from to old new name lies is =
    let n = kind_added old name from new is in
    adds kind_entries bytes at end from to old new (counted name) lies (ap length n.is ∙ length-append old (n.kind ∷ []))
    (ap kind_entries n.is ∙ flat_push (λ k. counted (kind_name k)) old n.kind ∙ ap (λ (xs : List ℕ). kind_entries old ++ counted xs) n.name_is)

pub text_adds : (bytes : List ℕ) (at end from to : ℕ) (old new : List (Option (List ℕ))) (part : List ℕ) → Lies bytes at end (counted part) to → more_texts old part from ≡ Ok new → Adds text_entries bytes at end old new to
text_adds bytes at end from to old new part lies is =
    let n = text_added old part from new is in
    adds text_entries bytes at end from to old new (counted part) lies (ap length n.is ∙ length-append old (n.entry ∷ []))
    (ap text_entries n.is ∙ flat_push (λ entry. counted (entry_bytes entry)) old n.entry ∙ ap (λ (xs : List ℕ). text_entries old ++ counted xs) n.bytes_are)

pub kinds_stay_distinct : (old : List Kind) (name : List ℕ) (at : ℕ) (new : List Kind) → more_kinds old name at ≡ Ok new → IsDistinct same_kind old → IsDistinct same_kind new
kinds_stay_distinct old name at new is distinct =
    let n = kind_added old name at new is in
    rw n.is (distinct_end old n.kind distinct n.none)

pub texts_stay_distinct : (old : List (Option (List ℕ))) (part : List ℕ) (at : ℕ) (new : List (Option (List ℕ))) → more_texts old part at ≡ Ok new → AreDistinct old → AreDistinct new
texts_stay_distinct old part at new is distinct =
    let n = text_added old part at new is in
    let e : added old n.entry ≡ old ++ n.entry ∷ [] = ap (λ o. if is_some o then old else old ++ n.entry ∷ []) n.none in
    rw (n.is, ← e) (AreDistinct-added old n.entry distinct)

pub all_push : {A : Type 0} (P : A → Type 0) (xs : List A) (x : A) → AllByRecursion P xs → P x → AllByRecursion P (xs ++ x ∷ [])
all_push P [] x all p = (p, tt)
all_push P (y ∷ ys) x all p = (all.0, all_push P ys x all.1 p)

pub texts_stay_valid : (old : List (Option (List ℕ))) (part : List ℕ) (at : ℕ) (new : List (Option (List ℕ))) → more_texts old part at ≡ Ok new → AllByRecursion IsEntry old → AllByRecursion IsEntry new
texts_stay_valid old part at new is valid =
    let n = text_added old part at new is in
    rw n.is (all_push IsEntry old n.entry valid n.valid)
