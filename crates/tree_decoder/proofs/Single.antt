-- A value with no parts is spelled by the bytes that it was read from.
use Rattle.std.proofs.Common.{ℕ, zero, suc, ◌+◌, ◌-◌, ◌<◌, ◌≤◌, ◌≡◌, Bool, true, false, cond, ltb, eqb, ◌&&◌, ◌||◌, List, [], ◌∷◌, ◌++◌, length, take, drop, get_or, Option, Some, None, Result, Ok, Err, refl, sym, ap, subst, ◌∙◌, arith, append_assoc, drop-cons, slice_get, slice_index, slice_range, inl, inr, ◌^◌, length-append}
use Rattle.std.specs.List.{All, list_all, list_any}
use Rattle.std.specs.Option.{unwrap_or}
use Rattle.std.specs.Int.{w64, from_be_bytes, to_be_bytes}
use Rattle.std.proofs.lemmas.Bool.{ltb-false, ltb-true, lt-ltb, eqb-true, cases_lt, le-ltb}
use Rattle.std.proofs.lemmas.Bool.Decides.{nat_tests}
use Rattle.std.proofs.lemmas.List.{get_or_past, drop-take, drop-drop}
use Rattle.std.proofs.lemmas.List.Elements.{All-take, All-drop}
use Rattle.std.specs.Prelude.{nat_le}
use Rattle.std.proofs.lemmas.Nat.{be_bytes_8}
use Rattle.std.proofs.lemmas.Option.{get_or_from_slice_get, slice_get_within}
use Rattle.bast_base.specs.declared.errors.FormatFault.{FormatFault}
use Rattle.bast_base.specs.declared.errors.Why.TheVariants.{Ended, BadBool, BadWhole}
use Rattle.var_numbers.specs.Pattern.{pattern}
use Rattle.var_numbers.specs.ReadClauses.{Spells}
use Rattle.var_numbers.specs.Varnum.{varnum}
use Rattle.var_numbers.proofs.RangeLemmas.{range-length}
use Rattle.bast_schema.specs.declared.kind.EnumId.{EnumId}
use Rattle.bast_schema.specs.declared.kind.FieldType.{FieldType}
use Rattle.bast_schema.specs.declared.kind.FieldType.TheVariants as field
use Rattle.bast_schema.specs.declared.kind.Union.{Union}
use Rattle.bast_schema.proofs.Both.{both}
use Rattle.bast_schema.specs.Choices.{choice_texts, choice_of_text}
use Rattle.bast_schema.specs.Held.{text_of, bytes_of}
use Rattle.bast_schema.specs.Tree.{Datum, flag, index, whole, name, no_name, choice, window, fits, depth_at}
use Rattle.bast_schema.proofs.ChoiceTexts.{text_of_choice}
use Rattle.string_table.specs.Entries.{is_same}
use Rattle.string_table.proofs.Laws.{place_in-own, is_same-Decides}
use Rattle.container.specs.Atoms.{Atom, text, chosen, atoms_of}
use Rattle.container.specs.InFile.{has_atom}
use Rattle.container.specs.Spelled.{framed, spelled_at}
use Rattle.container.specs.Tables.{Tables, text_place}
use Rattle.tree_decoder.specs.Dues.{taken, atom_of}
use Rattle.tree_decoder.specs.Found.{stands_at, is_text, Gives, SpendsLeaf}
use Rattle.container.specs.Answers.{fault, ◌>>=◌}
use Rattle.tree_decoder.specs.Numbers.{number_from, name_of, label_of, variant_of, choice_at, window_of, whole_with, whole_or, whole_at, flag_of, flag_at, numbered, leaf_at, is_leaf, passing_below}
use Rattle.container.specs.Folded.{is_folded, folded_at}
use Rattle.tree_decoder.specs.Range.{Range, IsSound, held, left}
use Rattle.tree_decoder.specs.Windows.{skipped, windows_at}
use Rattle.container.proofs.Ranges.{range_split}
use Rattle.var_numbers.proofs.PatternLemmas.{pattern-injective}
use Rattle.bast_schema.specs.declared.node.Value.{Value}
use Rattle.bast_schema.specs.View.{datum}
use Rattle.var_numbers.specs.VarnumRead.{number_in, moved}
use Rattle.var_numbers.proofs.InverseLemmas.{number_in-spelled}
use Rattle.var_numbers.proofs.VarnumLemmas.{varnum-nonempty}

-- ---- a number that is read is spelled by the bytes that were passed

-- the value of a step that did not fail
pub bind_ok : {A B : Type 0} (r : Result A FormatFault) (f : A → Result B FormatFault) (y : B) → (r >>= f) ≡ Ok y → (x : A) × (r ≡ Ok x) × (f x ≡ Ok y)
bind_ok (Ok x) f y e = (x, refl, e)
bind_ok (Err d) f y e = absurd cc

abbrev pub is_ok : {A : Type 0} → A → Result A FormatFault
is_ok x = Ok x

pub ok_is : {A : Type 0} (x y : A) → is_ok x ≡ is_ok y → x ≡ y
ok_is x y e = cc

-- a test that did not fail
pub guard_ok : {A : Type 0} (b : Bool) (d : FormatFault) (r : Result A FormatFault) (y : A) → cond b (Err d) r ≡ Ok y → (b ≡ false) × (r ≡ Ok y)
guard_ok true d r y e = absurd cc
guard_ok false d r y e = (refl, e)

pub range_drop : (tape : List ℕ) (a n e : ℕ) → a + n ≤ e → drop n (slice_range tape a e) ≡ slice_range tape (a + n) e
range_drop tape a n e order =
    let whole : e - a ≡ n + (e - (a + n)) = omega arith in
    ap (λ (k : ℕ). drop n (take k (drop a tape))) whole ∙ drop-take n (e - (a + n)) (drop a tape) ∙ ap (take (e - (a + n))) (drop-drop n a tape)

pub left_length : (r : Range) (at : ℕ) → IsSound r → at ≤ r.end → length (left r at) ≡ r.end - at
left_length r at sound order = range-length r.tape at r.end order sound.within

pub bytes_left : (r : Range) (at : ℕ) → IsSound r → All (λ byte. byte < 256) (left r at)
bytes_left r at sound = All-take (λ byte. byte < 256) (r.end - at) (drop at r.tape) (All-drop (λ byte. byte < 256) at r.tape sound.bytes)

moved_ok : (at : ℕ) (o : Result (ℕ × ℕ) FormatFault) (x : ℕ × ℕ) → moved at o ≡ Ok x → (y : ℕ × ℕ) × (o ≡ Ok y) × ((y.0, at + y.1) ≡ x)
moved_ok at (Ok y) x e = (y, refl, ok_is _ _ e)
moved_ok at (Err f) x e = absurd cc

-- what begins with a part goes on behind it
spells_front : (r : Range) (at n count : ℕ) → IsSound r → at ≤ r.end → n < 2 ^ 32 → count ≡ length (varnum n) → left r at ≡ varnum n ++ drop count (left r at) → Spells r.tape at r.end n (at + count)
spells_front r at n count sound order small long front =
    let whole : length (left r at) ≡ r.end - at = left_length r at sound order in
    let parts : length (left r at) ≡ length (varnum n) + length (drop count (left r at)) = ap length front ∙ length-append (varnum n) (drop count (left r at)) in
    let some : 1 ≤ length (varnum n) = varnum-nonempty n in
    let within : at + count ≤ r.end = omega arith in
    record {
      small = small;
      next_is = ap (λ (k : ℕ). at + k) long;
      ahead = omega arith;
      within = within;
      front = front ∙ ap (λ (xs : List ℕ). varnum n ++ xs) (range_drop r.tape at count r.end within);
    }

pub number_spells : (r : Range) (at : ℕ) (x : ℕ × ℕ) → IsSound r → at ≤ r.end → number_from r at ≡ Ok x → Spells r.tape at r.end x.0 x.1
number_spells r at x sound order e =
    let m = moved_ok at (number_in (left r at)) x e in
    let read = number_in-spelled (left r at) m.0.0 m.0.1 (bytes_left r at sound) m.1 in
    subst (λ (y : ℕ × ℕ). Spells r.tape at r.end y.0 y.1) m.2 (spells_front r at m.0.0 m.0.1 sound order read.small read.count_is read.front)

-- ---- the whole number that eight bytes are the pattern of

eqb_same : (m n : ℕ) → m ≡ n → eqb m n ≡ true
eqb_same m n e = grind (arith, nat_tests)

-- the only number that passes is found
found_last : (p : ℕ → Bool) (m n : ℕ) (b : Bool) → p m ≡ b → n < suc m → p n ≡ true → ((k : ℕ) → k < suc m → p k ≡ true → k ≡ n) → (n < m → passing_below p m ≡ Some n) → cond b (Some m) (passing_below p m) ≡ Some n
found_last p m n true e less is only rest = ap Some (only m (omega arith) e)
found_last p m n false e less is only rest =
    let other : m ≡ n → ⊥ = λ same. let both : false ≡ true = sym e ∙ ap p same ∙ is in cc in
    rest (omega (arith, other))

pub passing_found : (p : ℕ → Bool) (m n : ℕ) → n < m → p n ≡ true → ((k : ℕ) → k < m → p k ≡ true → k ≡ n) → passing_below p m ≡ Some n
unfolding passing_below
passing_found p zero n less is only = absurd (omega arith)
passing_found p (suc m) n less is only = found_last p m n (p m) refl less is only (λ lt. passing_found p m n lt is (λ k below. only k (omega arith)))

none_last : (p : ℕ → Bool) (m : ℕ) (b : Bool) → p m ≡ b → ((k : ℕ) → k < suc m → p k ≡ true → ⊥) → passing_below p m ≡ None → cond b (Some m) (passing_below p m) ≡ None
none_last p m true e never rest = absurd (never m (omega arith) e)
none_last p m false e never rest = rest

pub passing_none : (p : ℕ → Bool) (m : ℕ) → ((k : ℕ) → k < m → p k ≡ true → ⊥) → passing_below p m ≡ None
unfolding passing_below
passing_none p zero never = refl
passing_none p (suc m) never = none_last p m (p m) refl never (passing_none p m (λ k below. never k (omega arith)))

is_last : (p : ℕ → Bool) (m n : ℕ) (b : Bool) → p m ≡ b → cond b (Some m) (passing_below p m) ≡ Some n → (passing_below p m ≡ Some n → (n < m) × (p n ≡ true)) → (n < suc m) × (p n ≡ true)
is_last p m n true is h rest = let same : m ≡ n = cc in (omega arith, ap p (sym same) ∙ is)
is_last p m n false is h rest = let r = rest h in let less : n < m = r.0 in (omega arith, r.1)

pub passing_is : (p : ℕ → Bool) (m n : ℕ) → passing_below p m ≡ Some n → (n < m) × (p n ≡ true)
unfolding passing_below
passing_is p zero n e = absurd cc
passing_is p (suc m) n e = is_last p m n (p m) refl e (passing_is p m n)

pub whole_found : (bits n : ℕ) → n < 2 ^ 53 → pattern n ≡ bits → whole_with bits ≡ Some n
unfolding whole_with
whole_found bits n less is = passing_found (λ k. eqb (pattern k) bits) (2 ^ 53) n less (eqb_same (pattern n) bits is) (λ k lt e. pattern-injective k n lt less (eqb-true (pattern k) bits e ∙ sym is))

pub whole_none : (bits : ℕ) → ((n : ℕ) → n < 2 ^ 53 → pattern n ≡ bits → ⊥) → whole_with bits ≡ None
unfolding whole_with
whole_none bits never = passing_none (λ k. eqb (pattern k) bits) (2 ^ 53) (λ k lt e. never k lt (eqb-true (pattern k) bits e))

pub whole_is : (bits n : ℕ) → whole_with bits ≡ Some n → (n < 2 ^ 53) × (pattern n ≡ bits)
unfolding whole_with
whole_is bits n e = let r = passing_is (λ k. eqb (pattern k) bits) (2 ^ 53) n e in (r.0, eqb-true (pattern n) bits r.1)

pub whole_here : (r : Range) (at bits n : ℕ) → at + 8 ≤ r.end → bits ≡ from_be_bytes w64 (slice_range r.tape at (at + 8)) → n < 2 ^ 53 → pattern n ≡ bits → whole_at r at ≡ Ok (whole n, at + 8)
unfolding whole_at
whole_here r at bits n far is less same =
    let long : ltb r.end (at + 8) ≡ false = le-ltb _ _ far in
    let found : whole_with (from_be_bytes w64 (slice_range r.tape at (at + 8))) ≡ Some n = whole_found _ n less (same ∙ is) in
    rw (long, found) refl

pub whole_bad : (r : Range) (at bits : ℕ) → at + 8 ≤ r.end → bits ≡ from_be_bytes w64 (slice_range r.tape at (at + 8)) → ((n : ℕ) → n < 2 ^ 53 → pattern n ≡ bits → ⊥) → whole_at r at ≡ Err (fault at BadWhole)
unfolding whole_at
whole_bad r at bits far is never =
    let long : ltb r.end (at + 8) ≡ false = le-ltb _ _ far in
    let found : whole_with (from_be_bytes w64 (slice_range r.tape at (at + 8))) ≡ None = whole_none _ (λ n lt e. never n lt (e ∙ sym is)) in
    rw (long, found) refl

-- ---- values with no parts

or_true : (a b : Bool) → b ≡ true → (a || b) ≡ true
or_true true b e = refl
or_true false b e = e

pub any_at : {A : Type 0} (p : A → Bool) (xs : List A) (n : ℕ) (x : A) → slice_get xs n ≡ Some x → p x ≡ true → list_any p xs ≡ true
any_at p [] n x is e = absurd cc
any_at p (y ∷ ys) zero x is e = let same : y ≡ x = cc in ap (λ b. b || list_any p ys) (ap p same ∙ e)
any_at p (y ∷ ys) (suc n) x is e = or_true (p y) (list_any p ys) (any_at p ys n x is e)

-- A value with no parts is read: its windows begin at a place that lies ahead, and have no more than the bytes from there on.
pub record Stands (r : Range) (t : FieldType) (at from : ℕ) (x : Datum × ℕ) : Type 0 where
  pub ahead : at < from
  pub skips : from + skipped (windows_at x.0) ≤ x.1
  pub within : x.1 ≤ r.end
  pub spelled : left r at ≡ framed t (spelled_at r.tables (held r) t x.0) ++ left r x.1
  pub fits : fits t x.0 ≡ true
  pub flat : depth_at x.0 ≡ 0
  pub stands : stands_at r x.0 ≡ true
  pub has_all : list_all (has_atom r.tables) (atoms_of (held r) t x.0) ≡ true
  pub folded : (is_folded t x.0 && folded_at x.0) ≡ true

-- where the windows of a value begin and end
abbrev Moving : Range → ℕ → ℕ → Datum → ℕ → Type 0
Moving r at from v next = (at < from) × (from + skipped (windows_at v) ≤ next) × (next ≤ r.end)

made : (r : Range) (t : FieldType) (at from : ℕ) (v : Datum) (next : ℕ) (x : Datum × ℕ) → (v, next) ≡ x → Moving r at from v next → left r at ≡ framed t (spelled_at r.tables (held r) t v) ++ left r next → fits t v ≡ true → depth_at v ≡ 0 → stands_at r v ≡ true → list_all (has_atom r.tables) (atoms_of (held r) t v) ≡ true → (is_folded t v && folded_at v) ≡ true → Stands r t at from x
made r t at from v next x e moving sp f g st ha fo =
    subst (λ (y : Datum × ℕ). Stands r t at from y) e (record { ahead = moving.0; skips = moving.1; within = moving.2; spelled = sp; fits = f; flat = g; stands = st; has_all = ha; folded = fo })

-- a number is read, and no window stands behind it
abbrev Number : Range → ℕ → ℕ → ℕ → Type 0
Number r at n next = Spells r.tape at r.end n next

still : (r : Range) (at n next : ℕ) → Number r at n next → (at < next) × (next + 0 ≤ next) × (next ≤ r.end)
still r at n next s = (s.ahead, omega arith, s.within)

-- ---- texts

one_has : (s : Tables) (a : Atom) → has_atom s a ≡ true → list_all (has_atom s) (a ∷ []) ≡ true
one_has s a e = both (has_atom s a) true e refl

-- an entry stands in the table
entry_has : (r : Range) (n : ℕ) (entry : Option (List ℕ)) → slice_get r.tables.texts n ≡ Some entry → has_atom r.tables (text entry) ≡ true
entry_has r n entry is = any_at (is_same entry) r.tables.texts n entry is ((is_same-Decides entry entry).1 refl)

-- an entry is spelled by its number
entry_place : (r : Range) (n : ℕ) (entry : Option (List ℕ)) → IsSound r → slice_get r.tables.texts n ≡ Some entry → text_place r.tables entry ≡ n
entry_place r n entry sound is = ap (λ (o : Option ℕ). unwrap_or o (length r.tables.texts)) (place_in-own r.tables.texts entry n sound.texts is)

entry_text : (r : Range) (n : ℕ) (entry : Option (List ℕ)) → slice_get r.tables.texts n ≡ Some entry → text_of (held r) n ≡ entry
entry_text r n entry is = get_or_from_slice_get r.tables.texts n entry None is

spelled_as : (r : Range) (at m n next : ℕ) → m ≡ n → left r at ≡ varnum n ++ left r next → left r at ≡ varnum m ++ left r next
spelled_as r at m n next same e = e ∙ ap (λ (k : ℕ). varnum k ++ left r next) (sym same)

name_place : (r : Range) (n : ℕ) (words : List ℕ) → IsSound r → slice_get r.tables.texts n ≡ Some (Some words) → text_place r.tables (text_of (held r) n) ≡ n
name_place r n words sound is = ap (text_place r.tables) (entry_text r n (Some words) is) ∙ entry_place r n (Some words) sound is

name_stands : (r : Range) (t : FieldType) (at n next : ℕ) (o : Option (Option (List ℕ))) (x : Datum × ℕ) → IsSound r → slice_get r.tables.texts n ≡ o → Number r at n next → ((m : ℕ) → fits t (name m) ≡ true) → ((m : ℕ) → is_folded t (name m) ≡ true) → ((bytes : List ℕ) → framed t bytes ≡ bytes) → name_of at n next o ≡ Ok x → Stands r t at next x
name_stands r t at n next (Some (Some words)) x sound is sp fit fold plain e =
    made r t at next (name n) next x (ok_is _ _ e) (still r at n next sp) (spelled_as r at _ n next (name_place r n words sound is) sp.front ∙ ap (λ (b : List ℕ). b ++ left r next) (sym (plain (varnum (text_place r.tables (text_of (held r) n)))))) (fit n) refl (ap is_text is) (one_has r.tables (text (text_of (held r) n)) (ap (λ (o : Option (List ℕ)). has_atom r.tables (text o)) (entry_text r n (Some words) is) ∙ entry_has r n (Some words) is)) (both _ true (fold n) refl)
name_stands r t at n next (Some None) x sound is sp fit fold plain e = absurd cc
name_stands r t at n next None x sound is sp fit fold plain e = absurd cc

label_stands : (r : Range) (at n next : ℕ) (o : Option (Option (List ℕ))) (x : Datum × ℕ) → IsSound r → slice_get r.tables.texts n ≡ o → Number r at n next → label_of at n next o ≡ Ok x → Stands r field.Label at next x
label_stands r at n next (Some (Some words)) x sound is sp e =
    made r field.Label at next (name n) next x (ok_is _ _ e) (still r at n next sp) (spelled_as r at _ n next (name_place r n words sound is) sp.front) refl refl (ap is_text is) (one_has r.tables (text (text_of (held r) n)) (ap (λ (o : Option (List ℕ)). has_atom r.tables (text o)) (entry_text r n (Some words) is) ∙ entry_has r n (Some words) is)) refl
label_stands r at n next (Some None) x sound is sp e =
    made r field.Label at next no_name next x (ok_is _ _ e) (still r at n next sp) (spelled_as r at _ n next (entry_place r n None sound is) sp.front) refl refl refl (one_has r.tables (text None) (entry_has r n None is)) refl
label_stands r at n next None x sound is sp e = absurd cc

variant_stands : (r : Range) (set : EnumId) (at n next : ℕ) (words : List ℕ) (o : Option ℕ) (x : Datum × ℕ) → IsSound r → slice_get r.tables.texts n ≡ Some (Some words) → choice_of_text set words ≡ o → Number r at n next → variant_of at next o ≡ Ok x → Stands r (field.Choice set) at next x
variant_stands r set at n next words (Some c) x sound is found sp e =
    let there : slice_get (choice_texts set) c ≡ Some words = text_of_choice set words c found in
    let same : chosen (field.Choice set) c ≡ Some words = ap Some (get_or_from_slice_get (choice_texts set) c words [] there) in
    let place : text_place r.tables (chosen (field.Choice set) c) ≡ n = ap (text_place r.tables) same ∙ entry_place r n (Some words) sound is in
    made r (field.Choice set) at next (choice c) next x (ok_is _ _ e) (still r at n next sp) (spelled_as r at _ n next place sp.front) (lt-ltb _ _ (slice_get_within (choice_texts set) c words there)) refl refl (one_has r.tables (text (chosen (field.Choice set) c)) (ap (λ (o : Option (List ℕ)). has_atom r.tables (text o)) same ∙ entry_has r n (Some words) is)) refl
variant_stands r set at n next words None x sound is found sp e = absurd cc

choice_stands : (r : Range) (set : EnumId) (at n next : ℕ) (o : Option (Option (List ℕ))) (x : Datum × ℕ) → IsSound r → slice_get r.tables.texts n ≡ o → Number r at n next → choice_at set at next o ≡ Ok x → Stands r (field.Choice set) at next x
choice_stands r set at n next (Some (Some words)) x sound is sp e = variant_stands r set at n next words (choice_of_text set words) x sound is refl sp e
choice_stands r set at n next (Some None) x sound is sp e = absurd cc
choice_stands r set at n next None x sound is sp e = absurd cc

-- ---- windows

pub is_le : (m n : ℕ) → m ≤ n → nat_le m n ≡ true
is_le m n h = grind (arith, nat_tests)

window_spelled : (r : Range) (u : Union) (at n next : ℕ) → IsSound r → next + n ≤ r.end → left r at ≡ varnum n ++ left r next → left r at ≡ framed (field.Lazy u) (bytes_of (held r) next (next + n)) ++ left r (next + n)
window_spelled r u at n next sound far e =
    let within : r.end ≤ length r.tape = sound.within in
    let long : length (slice_range r.tape next (next + n)) ≡ n = range-length r.tape next (next + n) (omega arith) (omega arith) ∙ (let k : next + n - next ≡ n = omega arith in k) in
    e
    ∙ ap (λ (b : List ℕ). varnum n ++ b) (range_split r.tape next (next + n) r.end (omega arith) far)
    ∙ sym (append_assoc (varnum n) (slice_range r.tape next (next + n)) (left r (next + n)))
    ∙ ap (λ (k : ℕ). (varnum k ++ slice_range r.tape next (next + n)) ++ left r (next + n)) (sym long)

window_stands : (r : Range) (u : Union) (at n next : ℕ) (x : Datum × ℕ) → IsSound r → Number r at n next → window_of r n next ≡ Ok x → Stands r (field.Lazy u) at next x
window_stands r u at n next x sound sp e =
    let g = guard_ok (ltb r.end (next + n)) (fault r.end Ended) (is_ok (window next (next + n), next + n)) x e in
    let far : next + n ≤ r.end = ltb-false _ _ g.0 in
    made r (field.Lazy u) at next (window next (next + n)) (next + n) x (ok_is _ _ g.1) (sp.ahead, omega arith, far) (window_spelled r u at n next sound far sp.front) refl refl (both _ _ (is_le next (next + n) (omega arith)) (is_le (next + n) r.end far)) refl refl

-- ---- by a number

pub numbered_stands : (r : Range) (t : FieldType) (at n next : ℕ) (x : Datum × ℕ) → IsSound r → Number r at n next → numbered r t at n next ≡ Ok x → Stands r t at next x
numbered_stands r field.Index at n next x sound sp e = made r field.Index at next (index n) next x (ok_is _ _ e) (still r at n next sp) sp.front (lt-ltb _ _ sp.small) refl refl refl refl
numbered_stands r field.Text at n next x sound sp e = name_stands r field.Text at n next _ x sound refl sp (λ m. refl) (λ m. refl) (λ b. refl) e
numbered_stands r field.Name at n next x sound sp e = name_stands r field.Name at n next _ x sound refl sp (λ m. refl) (λ m. refl) (λ b. refl) e
numbered_stands r field.Label at n next x sound sp e = label_stands r at n next _ x sound refl sp e
numbered_stands r (field.Choice set) at n next x sound sp e = choice_stands r set at n next _ x sound refl sp e
numbered_stands r (field.Lazy u) at n next x sound sp e = window_stands r u at n next x sound sp e
numbered_stands r _ at n next x sound sp e = absurd cc

-- a value of a type that is read at a place, and where its windows may begin
abbrev Leaf : Range → FieldType → ℕ → Datum × ℕ → Type 0
Leaf r t at x = (from : ℕ) × Stands r t at from x

by_number : (r : Range) (t : FieldType) (at : ℕ) (x : Datum × ℕ) → IsSound r → at ≤ r.end → (number_from r at >>= λ n. numbered r t at n.0 n.1) ≡ Ok x → Leaf r t at x
by_number r t at x sound order e =
    let b = bind_ok (number_from r at) (λ n. numbered r t at n.0 n.1) x e in
    (b.0.1, numbered_stands r t at b.0.0 b.0.1 x sound (number_spells r at b.0 sound order b.1) b.2)

-- ---- by bytes

pub first_byte : (r : Range) (at : ℕ) → IsSound r → at < r.end → left r at ≡ slice_index r.tape at ∷ left r (at + 1)
first_byte r at sound within =
    let there : r.end ≤ length r.tape = sound.within in
    let some : r.end - at ≡ suc (r.end - (at + 1)) = omega arith in
    let next : suc at ≡ at + 1 = omega arith in
    ap (λ (k : ℕ). take k (drop at r.tape)) some
    ∙ ap (λ (xs : List ℕ). take (suc (r.end - (at + 1))) xs) (drop-cons r.tape at 0 (omega arith))
    ∙ ap (λ (k : ℕ). slice_index r.tape at ∷ take (r.end - (at + 1)) (drop k r.tape)) next

bool_stands : (r : Range) (at n : ℕ) (a b : Bool) (x : Datum × ℕ) → at < r.end → eqb n 0 ≡ a → eqb n 1 ≡ b → left r at ≡ n ∷ left r (at + 1) → cond a (is_ok (flag false, at + 1)) (cond b (is_ok (flag true, at + 1)) (Err (fault at BadBool))) ≡ Ok x → Leaf r field.Bool at x
bool_stands r at n true b x in_range p q sp e = let z : n ≡ 0 = eqb-true _ _ p in (at + 1, made r field.Bool at (at + 1) (flag false) (at + 1) x (ok_is _ _ e) (omega arith, omega arith, omega arith) (sp ∙ ap (λ (k : ℕ). k ∷ left r (at + 1)) z) refl refl refl refl refl)
bool_stands r at n false true x in_range p q sp e = let z : n ≡ 1 = eqb-true _ _ q in (at + 1, made r field.Bool at (at + 1) (flag true) (at + 1) x (ok_is _ _ e) (omega arith, omega arith, omega arith) (sp ∙ ap (λ (k : ℕ). k ∷ left r (at + 1)) z) refl refl refl refl refl)
bool_stands r at n false false x in_range p q sp e = absurd cc

inside_end : (r : Range) (at : ℕ) (b : Bool) (x : Datum × ℕ) → cond b (flag_of at (slice_index r.tape at)) (Err (fault r.end Ended)) ≡ Ok x → (b ≡ true) × (flag_of at (slice_index r.tape at) ≡ Ok x)
inside_end r at true x e = (refl, e)
inside_end r at false x e = absurd cc

flag_stands : (r : Range) (at : ℕ) (x : Datum × ℕ) → IsSound r → flag_at r at ≡ Ok x → Leaf r field.Bool at x
unfolding flag_at
flag_stands r at x sound e =
    let g = inside_end r at (ltb at r.end) x e in
    bool_stands r at (slice_index r.tape at) (eqb (slice_index r.tape at) 0) (eqb (slice_index r.tape at) 1) x (ltb-true _ _ g.0) refl refl (first_byte r at sound (ltb-true _ _ g.0)) g.1

range_byte : (r : Range) (a b i : ℕ) → IsSound r → a ≤ b → b ≤ length r.tape → All (λ byte. byte < 256) (slice_range r.tape a b) → get_or (slice_range r.tape a b) i 0 < 256
range_byte r a b i sound order within small =
    elim (cases_lt i (length (slice_range r.tape a b))) [
      | inl lt ↦ small i 0 lt
      | inr le ↦ rw (get_or_past (slice_range r.tape a b) i 0 le) (omega arith)
    ]

eight_spelled : (r : Range) (at n : ℕ) → IsSound r → at + 8 ≤ r.end → pattern n ≡ from_be_bytes w64 (slice_range r.tape at (at + 8)) → left r at ≡ to_be_bytes w64 (pattern n) ++ left r (at + 8)
eight_spelled r at n sound far is =
    let within : r.end ≤ length r.tape = sound.within in
    let bytes = slice_range r.tape at (at + 8) in
    let long : length (slice_range r.tape at (at + 8)) ≡ 8 = range-length r.tape at (at + 8) (omega arith) (omega arith) ∙ (let k : at + 8 - at ≡ 8 = omega arith in k) in
    let small = All-take (λ byte. byte < 256) (at + 8 - at) (drop at r.tape) (All-drop (λ byte. byte < 256) at r.tape sound.bytes) in
    let again : to_be_bytes w64 (pattern n) ≡ slice_range r.tape at (at + 8) = be_bytes_8 (slice_range r.tape at (at + 8)) (pattern n) long (λ i. range_byte r at (at + 8) i sound (omega arith) (omega arith) small) is in
    range_split r.tape at (at + 8) r.end (omega arith) far ∙ ap (λ (b : List ℕ). b ++ left r (at + 8)) (sym again)

whole_stands_of : (r : Range) (at : ℕ) (o : Option ℕ) (x : Datum × ℕ) → IsSound r → at + 8 ≤ r.end → whole_with (from_be_bytes w64 (slice_range r.tape at (at + 8))) ≡ o → whole_or at o ≡ Ok x → Leaf r field.Whole at x
whole_stands_of r at (Some n) x sound far is e =
    let w = whole_is (from_be_bytes w64 (slice_range r.tape at (at + 8))) n is in
    (at + 8, made r field.Whole at (at + 8) (whole n) (at + 8) x (ok_is _ _ e) (omega arith, omega arith, far) (eight_spelled r at n sound far w.1) (lt-ltb _ _ w.0) refl refl refl refl)
whole_stands_of r at None x sound far is e = absurd cc

whole_stands : (r : Range) (at : ℕ) (x : Datum × ℕ) → IsSound r → whole_at r at ≡ Ok x → Leaf r field.Whole at x
unfolding whole_at
whole_stands r at x sound e =
    let bits = from_be_bytes w64 (slice_range r.tape at (at + 8)) in
    let g = guard_ok (ltb r.end (at + 8)) (fault r.end Ended) (whole_or at (whole_with bits)) x e in
    whole_stands_of r at (whole_with bits) x sound (ltb-false _ _ g.0) refl g.1

-- ---- all of them

pub leaf_stands : (r : Range) (t : FieldType) (at : ℕ) (x : Datum × ℕ) → IsSound r → at ≤ r.end → is_leaf t ≡ true → leaf_at r t at ≡ Ok x → Leaf r t at x
leaf_stands r field.Bool at x sound order leaf e = flag_stands r at x sound e
leaf_stands r field.Whole at x sound order leaf e = whole_stands r at x sound e
leaf_stands r (field.Node u) at x sound order leaf e = absurd cc
leaf_stands r (field.Optional u) at x sound order leaf e = absurd cc
leaf_stands r (field.List u holes filled) at x sound order leaf e = absurd cc
leaf_stands r t at x sound order leaf e = by_number r t at x sound order e

pub leaf_atom : (r : Range) (t : FieldType) (d : ℕ) (w : Bool) (at : ℕ) (q : Result (Datum × ℕ) FormatFault) → is_leaf t ≡ true → leaf_at r t at ≡ q → atom_of r t d w at ≡ (q >>= λ v. is_ok (taken [] (windows_at v.0) v.1))
leaf_atom r (field.Node u) d w at q leaf e = absurd cc
leaf_atom r (field.Optional u) d w at q leaf e = absurd cc
leaf_atom r (field.List u holes filled) d w at q leaf e = absurd cc
leaf_atom r _ d w at q leaf e = ap (λ p. p >>= λ v. is_ok (taken [] (windows_at v.0) v.1)) e

-- ---- the steps of reading a value with no parts

pub numbered_spends : (r : Range) (t : FieldType) (at n next old new : ℕ) (res : Result (Value × ℕ) FormatFault) → IsSound r → Spells r.tape at r.end n next → Gives res (numbered r t at n next) → new ≤ old + (next - at) → SpendsLeaf r at old new res
numbered_spends r t at n next old new (Ok x) sound s e spent =
    let st = numbered_stands r t at n next (datum x.0, x.1) sound s e in
    omega (arith, st.ahead, st.skips)
numbered_spends r t at n next old new (Err f) sound s e spent = omega (arith, s.ahead, s.within)

pub numbered_gives : (r : Range) (t : FieldType) (at n next : ℕ) (read : Result (Datum × ℕ) FormatFault) (res : Result (Value × ℕ) FormatFault) → Gives res (numbered r t at n next) → read ≡ numbered r t at n next → Gives res read
numbered_gives r t at n next read (Ok x) e is = is ∙ e
numbered_gives r t at n next read (Err f) e is = is ∙ e

pub leaf_number : (r : Range) (t : FieldType) (at : ℕ) (x : ℕ × ℕ) → (t ≡ field.Bool → ⊥) → (t ≡ field.Whole → ⊥) → number_from r at ≡ is_ok x → leaf_at r t at ≡ numbered r t at x.0 x.1
leaf_number r field.Bool at x no_flag no_whole e = absurd (no_flag refl)
leaf_number r field.Whole at x no_flag no_whole e = absurd (no_whole refl)
leaf_number r t at x no_flag no_whole e = ap (λ n. n >>= λ y. numbered r t at y.0 y.1) e
