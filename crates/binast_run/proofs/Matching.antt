-- The numbers that a second table gives to the texts of a first.
use Rattle.std.proofs.Common.{ℕ, zero, suc, List, [], ◌∷◌, ◌+◌, ◌<◌, ◌≡◌, Bool, true, false, refl, ap, sym, ◌∙◌, ◌&&◌, nat_eq, length, slice_get, get_or, Option, Some, None, is_some, codes, arith}
use Rattle.std.proofs.lemmas.Bool.Decides.{nat_tests}
use Rattle.bast_schema.proofs.Both.{and_first, and_second}
use Rattle.js_parser.specs.Texts.{is_text}
use Rattle.scope_facts.specs.Exact.{eval_name}
use Rattle.scope_facts.specs.Renamed.{IsInjective, KeepsEval, is_eval_name}
use Rattle.string_table.specs.Entries.{AreDistinct, is_same, place_in}
use Rattle.string_table.proofs.Laws.{is_same-Decides, place_in-own, slice_get-place_in}

-- an entry's place, or else a number behind all places
abbrev place_or : Option ℕ → ℕ → ℕ
place_or (Some place) n = place
place_or None n = n

abbrev matched_entry : List (Option (List ℕ)) → ℕ → Option (Option (List ℕ)) → ℕ
matched_entry strings n None = length strings + n
matched_entry strings n (Some entry) = place_or (place_in strings entry) (length strings + n)

-- the place in the second table of the text that has this place in the first
abbrev pub matched : List (Option (List ℕ)) → List (Option (List ℕ)) → ℕ → ℕ
matched texts strings n = matched_entry strings n (slice_get texts n)

-- where a number is matched: at a place of its entry, or behind all places
data IsMatched (texts strings : List (Option (List ℕ))) (n m : ℕ) : Type 0 where
  there : (entry : Option (List ℕ)) → slice_get texts n ≡ Some entry → place_in strings entry ≡ Some m → IsMatched texts strings n m
  beyond : m ≡ length strings + n → IsMatched texts strings n m

by_place : (texts strings : List (Option (List ℕ))) (n : ℕ) (entry : Option (List ℕ)) (o : Option ℕ) → slice_get texts n ≡ Some entry → place_in strings entry ≡ o → IsMatched texts strings n (place_or o (length strings + n))
by_place texts strings n entry (Some place) e f = there entry e f
by_place texts strings n entry None e f = beyond refl

by_entry : (texts strings : List (Option (List ℕ))) (n : ℕ) (o : Option (Option (List ℕ))) → slice_get texts n ≡ o → IsMatched texts strings n (matched_entry strings n o)
by_entry texts strings n None e = beyond refl
by_entry texts strings n (Some entry) e = by_place texts strings n entry (place_in strings entry) e refl

is_matched : (texts strings : List (Option (List ℕ))) (n : ℕ) → IsMatched texts strings n (matched texts strings n)
is_matched texts strings n = by_entry texts strings n (slice_get texts n) refl

same_some : {A : Type 0} (x y : A) → Some x ≡ Some y → x ≡ y
same_some x y e = cc

within : {A : Type 0} (xs : List A) (i : ℕ) (x : A) → slice_get xs i ≡ Some x → i < length xs
within [] i x e = cc
within (y ∷ xs) zero x e = omega arith
within (y ∷ xs) (suc i) x e = let l : i < length xs = within xs i x e in omega arith

one_number : (texts strings : List (Option (List ℕ))) (n m p q : ℕ) → AreDistinct texts → IsMatched texts strings n p → IsMatched texts strings m q → p ≡ q → n ≡ m
one_number texts strings n m p q d (there e en ep) (there f fm fq) same =
    let ef : e ≡ f = same_some e f (sym (slice_get-place_in strings e p ep) ∙ ap (slice_get strings) same ∙ slice_get-place_in strings f q fq)
    in same_some n m (sym (place_in-own texts e n d en) ∙ ap (place_in texts) ef ∙ place_in-own texts f m d fm)
one_number texts strings n m p q d (there e en ep) (beyond fq) same = let l : p < length strings = within strings p e (slice_get-place_in strings e p ep) in absurd (omega arith)
one_number texts strings n m p q d (beyond ep) (there f fm fq) same = let l : q < length strings = within strings q f (slice_get-place_in strings f q fq) in absurd (omega arith)
one_number texts strings n m p q d (beyond ep) (beyond fq) same = omega arith

by_test : (b : Bool) (r : ℕ → ℕ) (n m : ℕ) → nat_eq n m ≡ b → (r n ≡ r m → n ≡ m) → nat_eq (r n) (r m) ≡ nat_eq n m
by_test true r n m e h = let same : n ≡ m = grind (arith, nat_tests) in rw (same) (both_same (r m) m)
  where
    both_same : (a c : ℕ) → nat_eq a a ≡ nat_eq c c
    both_same a c = grind (arith, nat_tests)
by_test false r n m e h = tested (nat_eq (r n) (r m)) refl
  where
    tested : (t : Bool) → nat_eq (r n) (r m) ≡ t → nat_eq (r n) (r m) ≡ nat_eq n m
    tested true f = let same : r n ≡ r m = grind (arith, nat_tests) in let bad : n ≡ m = h same in grind (arith, nat_tests)
    tested false f = f ∙ sym e

-- different numbers are matched with different numbers
pub matched_apart : (texts strings : List (Option (List ℕ))) → AreDistinct texts → IsInjective (matched texts strings)
matched_apart texts strings d n m = by_test (nat_eq n m) (matched texts strings) n m refl (one_number texts strings n m (matched texts strings n) (matched texts strings m) d (is_matched texts strings n) (is_matched texts strings m))

-- of the names with a text that stands in the second table too

abbrev pub is_matched_text : List (Option (List ℕ)) → List (Option (List ℕ)) → ℕ → Bool
is_matched_text texts strings n = is_text texts n && is_some (place_in strings (get_or texts n None))

record TextIn (texts strings : List (Option (List ℕ))) (n : ℕ) : Type 0 where
  text : List ℕ
  here : slice_get texts n ≡ Some (Some text)
  place : ℕ
  place_is : place_in strings (Some text) ≡ Some place
  matched_is : matched texts strings n ≡ place

text_here : (texts : List (Option (List ℕ))) (n : ℕ) → is_text texts n ≡ true → (t : List ℕ) × (slice_get texts n ≡ Some (Some t)) × (get_or texts n None ≡ Some t)
text_here [] n h = absurd cc
text_here (Some t ∷ texts) zero h = (t, refl, refl)
text_here (None ∷ texts) zero h = absurd cc
text_here (entry ∷ texts) (suc n) h = text_here texts n h

some_place : (o : Option ℕ) → is_some o ≡ true → (p : ℕ) × (o ≡ Some p)
some_place (Some p) h = (p, refl)
some_place None h = absurd cc

text_in : (texts strings : List (Option (List ℕ))) (n : ℕ) → is_matched_text texts strings n ≡ true → TextIn texts strings n
text_in texts strings n h =
    let t = text_here texts n (and_first (is_text texts n) (is_some (place_in strings (get_or texts n None))) h)
    in let p = some_place (place_in strings (get_or texts n None)) (and_second (is_text texts n) (is_some (place_in strings (get_or texts n None))) h)
    in let place_is : place_in strings (Some t.0) ≡ Some p.0 = ap (place_in strings) (sym t.2) ∙ p.1
    in record {
      text = t.0;
      here = t.1;
      place = p.0;
      place_is = place_is;
      matched_is = ap (matched_entry strings n) t.1 ∙ ap (λ o. place_or o (length strings + n)) place_is;
    }

pub matched_texts : (texts strings : List (Option (List ℕ))) (n : ℕ) → is_matched_text texts strings n ≡ true → slice_get strings (matched texts strings n) ≡ slice_get texts n
matched_texts texts strings n h =
    let t = text_in texts strings n h
    in ap (slice_get strings) t.matched_is ∙ slice_get-place_in strings (Some t.text) t.place t.place_is ∙ sym t.here

-- such a name is the place of a text
pub matched_there : (texts strings : List (Option (List ℕ))) (n : ℕ) → is_matched_text texts strings n ≡ true → (t : List ℕ) × (slice_get strings (matched texts strings n) ≡ Some (Some t))
matched_there texts strings n h = let t = text_in texts strings n h in (t.text, matched_texts texts strings n h ∙ t.here)

-- whether the entry at a place is this one is whether the place is the entry's
place_tested : (xs : List (Option (List ℕ))) (w e : Option (List ℕ)) (n : ℕ) (o : Option ℕ) (b : Bool) → AreDistinct xs → slice_get xs n ≡ Some e → place_in xs w ≡ o → is_same w e ≡ b → is_eval_name o n ≡ b
place_tested xs w e n None true d here place same =
    let we : w ≡ e = grind (arith, is_same-Decides)
    in let own : place_in xs e ≡ Some n = place_in-own xs e n d here
    in let bad : None ≡ Some n = sym place ∙ ap (place_in xs) we ∙ own in absurd cc
place_tested xs w e n None false d here place same = refl
place_tested xs w e n (Some q) true d here place same =
    let we : w ≡ e = grind (arith, is_same-Decides)
    in let own : Some q ≡ Some n = sym place ∙ ap (place_in xs) we ∙ place_in-own xs e n d here
    in let q_is : q ≡ n = same_some q n own in grind (arith, nat_tests)
place_tested xs w e n (Some q) false d here place same = tested (nat_eq n q) refl
  where
    tested : (t : Bool) → nat_eq n q ≡ t → nat_eq n q ≡ false
    tested true f =
        let n_is : n ≡ q = grind (arith, nat_tests)
        in let ew : e ≡ w = same_some e w (sym here ∙ ap (slice_get xs) n_is ∙ slice_get-place_in xs w q place)
        in let bad : is_same w e ≡ true = grind (arith, is_same-Decides) in absurd cc
    tested false f = f

-- and the text eval is that of the same names
pub matched_eval : (texts strings : List (Option (List ℕ))) → AreDistinct texts → AreDistinct strings → KeepsEval (matched texts strings) (is_matched_text texts strings) (eval_name texts) (eval_name strings)
matched_eval texts strings d f n h =
    let t = text_in texts strings n h
    in let there : slice_get strings (matched texts strings n) ≡ Some (Some t.text) = matched_texts texts strings n h ∙ t.here
    in place_tested strings (Some (codes "eval")) (Some t.text) (matched texts strings n) (eval_name strings) (is_same (Some (codes "eval")) (Some t.text)) f there refl refl
    ∙ sym (place_tested texts (Some (codes "eval")) (Some t.text) n (eval_name texts) (is_same (Some (codes "eval")) (Some t.text)) d t.here refl refl)
