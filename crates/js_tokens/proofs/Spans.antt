-- Where the parts of a text stand in its bytes.
use Rattle.std.proofs.Common.{◌≡◌, ℕ, ◌+◌, ◌-◌, ◌≤◌, Bool, true, false, List, [], ◌∷◌, ◌++◌, length, take, drop, Result, Ok, Err, Option, Some, None, refl, sym, ap, ◌∙◌, subst, arith, if◌then◌else◌}
use Rattle.std.specs.Prelude.{encode_utf8, encode_utf8_all, IsUtf8, IsCharBoundary, slice_range, ◌==◌, ◌||◌, ◌&&◌}
use Rattle.std.specs.Str.{chars}
use Rattle.std.specs.Char.{len_utf8}
use Rattle.std.proofs.lemmas.List.{length-append}
use Rattle.std.proofs.Math.Seq.{take-append_seam}
use Rattle.std.proofs.lemmas.Str.{encodes-chars, encodes-append, length-encode, drop_past_char, IsUtf8-past_char, IsCharBoundary-past_char, IsCharBoundary-from_drop, chars_past_char, len_utf8_bounds}
use Rattle.js_tokens.specs.Span.{Passes, none, more, Stands}
use Rattle.js_tokens.specs.Place.{Place, past_from, past, front, behind, behind_first, first_is, ◌>>=◌}
use Rattle.js_tokens.specs.Classes.{is_space, is_newline, is_start, is_part}
use Rattle.js_tokens.specs.Numbers.{number_at}
use Rattle.js_tokens.specs.Strings.{string_at, template_at, closing}
use Rattle.js_tokens.specs.Marks.{mark_at}
use Rattle.js_tokens.specs.Scan.{scan_at, token_at, begins_number, begins_piece, found, piece, comment_from, comment_to, mark_to}
use Rattle.js_tokens.specs.Cut.{name_at}
use Rattle.js_tokens.specs.declared.kinds.Mark.{Mark}
use Rattle.js_tokens.specs.declared.kinds.TokenKind.{TokenKind}
use Rattle.js_tokens.specs.declared.kinds.TokenKind.TheVariants as kinds
use Rattle.js_tokens.specs.declared.kinds.TokenFault.{TokenFault}
use Rattle.js_tokens.specs.declared.scan.Item.{Item}
use Rattle.js_tokens.specs.declared.scan.Item.TheVariants as items
use Rattle.js_tokens.proofs.Passing.{scan-moves, Moves}

bytes_are : (text : List ℕ) (cs : List ℕ) (at : ℕ) → Stands text cs at → drop at text ≡ encode_utf8_all cs
bytes_are text cs at h = sym (encodes-chars (drop at text) h.utf8) ∙ ap encode_utf8_all h.rest

stands_next : (text : List ℕ) (c : ℕ) (cs : List ℕ) (at : ℕ) → Stands text (c ∷ cs) at → Stands text cs (at + len_utf8 c)
stands_next text c cs at h =
    let e : drop at text ≡ encode_utf8 c ++ encode_utf8_all cs = bytes_are text (c ∷ cs) at h in
    let d : drop (at + len_utf8 c) text ≡ encode_utf8_all cs = drop_past_char text (encode_utf8_all cs) at c e in
    let same : chars (encode_utf8_all cs) ≡ cs = let k : c ∷ chars (encode_utf8_all cs) ≡ c ∷ cs = sym (chars_past_char (drop at text) (encode_utf8_all cs) c h.utf8 e) ∙ h.rest in cc in
    record {
      within = (IsCharBoundary-past_char text (encode_utf8_all cs) at c h.within h.utf8 e).0;
      utf8 = subst IsUtf8 (sym d) (IsUtf8-past_char (drop at text) (encode_utf8_all cs) c h.utf8 e);
      rest = ap chars d ∙ same;
    }

pub stands_on : {cs ds : List ℕ} {at to : ℕ} (text : List ℕ) → Stands text cs at → Passes cs at ds to → Stands text ds to
stands_on text h none = h
stands_on {cs = c ∷ cs} {at = at} text h (more p) = stands_on text (stands_next text c cs at h) p

pub boundary : (text cs : List ℕ) (at : ℕ) → Stands text cs at → IsCharBoundary text at
boundary text cs at h = IsCharBoundary-from_drop text at h.within h.utf8

len_more : (c : ℕ) → 1 ≤ len_utf8 c
len_more c = (len_utf8_bounds c).0

pub bounds : {cs ds : List ℕ} {at to : ℕ} → Passes cs at ds to → at + length cs ≤ to + length ds
bounds none = omega arith
bounds {cs = c ∷ cs} {at = at} (more p) = let h : 1 ≤ len_utf8 c = len_more c in let k : (at + len_utf8 c) + length cs ≤ _ = bounds p in omega arith

pub shorter : {cs ds : List ℕ} {at to : ℕ} → Passes cs at ds to → length ds ≤ length cs
shorter none = omega arith
shorter {cs = c ∷ cs} (more p) = let k : _ ≤ length cs = shorter p in omega arith

-- the longest front is what is passed
front_is : (p : ℕ → Bool) (cs : List ℕ) (at : ℕ) → (cs ≡ front p cs ++ (past_from p cs at).chars) × ((past_from p cs at).at ≡ at + length (encode_utf8_all (front p cs)))
front_is p [] at = (refl, omega arith)
front_is p (c ∷ cs) at =
    elim (p c) as (λ b. (c ∷ cs ≡ (if b then c ∷ front p cs else []) ++ (if b then past_from p cs (at + len_utf8 c) else record { chars = c ∷ cs; at = at }).chars) × ((if b then past_from p cs (at + len_utf8 c) else record { chars = c ∷ cs; at = at }).at ≡ at + length (encode_utf8_all (if b then c ∷ front p cs else [])))) [
      | true ↦
          let k = front_is p cs (at + len_utf8 c) in
          (ap (λ l. c ∷ l) k.0, omega (arith, k.1, length-append (encode_utf8 c) (encode_utf8_all (front p cs)), length-encode c))
      | false ↦ (refl, omega arith)
    ]

-- what no first character tells as a name is a gap or a token, and never the end
abbrev GapOrToken : Result (Item × Place) TokenFault → Type 0
GapOrToken (Ok (items.Name, p)) = ⊥
GapOrToken (Ok (items.Over, p)) = ⊥
GapOrToken _ = Unit {0}

record Plain (r : Result (Item × Place) TokenFault) : Type 0 where
  plain : GapOrToken r

either : {r q : Result (Item × Place) TokenFault} (b : Bool) → Plain r → Plain q → Plain (if b then r else q)
either true h k = h
either false h k = k

found_plain : {X : Type 0} (r : Result (X × Place) TokenFault) (k : X → TokenKind) → Plain (r >>= (λ x. found (k x.0) x.1))
found_plain (Ok x) k = record { plain = tt }
found_plain (Err e) k = record { plain = tt }

comment_plain : (o : Option (Bool × Place)) (s : ℕ) → Plain (comment_to o s)
comment_plain None s = record { plain = tt }
comment_plain (Some x) s = record { plain = tt }

mark_plain : (o : Option (Mark × Place)) (s : ℕ) → Plain (mark_to o s)
mark_plain None s = record { plain = tt }
mark_plain (Some x) s = record { plain = tt }

token_plain : (inside : Bool) (c : ℕ) (p : Place) (s : ℕ) → Plain (token_at inside c p s)
token_plain inside c p s =
    either (begins_number c p.chars) (found_plain (number_at c p s) kinds.Number)
    (either (c == 34 || c == 39) (found_plain (closing (string_at c p s)) (λ x. kinds.Text))
    (either (begins_piece inside c) (found_plain (closing (template_at p s)) (λ x. kinds.Template (piece c x)))
    (either (c == 47 && first_is 47 p.chars) (record { plain = tt })
    (either (c == 47 && first_is 42 p.chars) (comment_plain (comment_from false (behind_first p.chars p.at).chars (behind_first p.chars p.at).at) s)
    (either (c == 92) (record { plain = tt })
    (mark_plain (mark_at c p) s))))))

no_name : (r : Result (Item × Place) TokenFault) (p : Place) → Plain r → r ≡ Ok (items.Name, p) → ⊥
no_name r p h e = (subst (λ q. Plain q) e h).plain

no_end : (r : Result (Item × Place) TokenFault) (p : Place) → Plain r → r ≡ Ok (items.Over, p) → ⊥
no_end r p h e = (subst (λ q. Plain q) e h).plain

abbrev place_of : Result (Item × Place) TokenFault → Place
place_of (Ok x) = x.1
place_of (Err e) = record { chars = []; at = 0 }

abbrev item_of : Result (Item × Place) TokenFault → Item
item_of (Ok x) = x.0
item_of (Err e) = items.Over

name_place : (inside : Bool) (c : ℕ) (cs : List ℕ) (at : ℕ) (p : Place) (space newline starts : Bool) → (if space then Ok (items.Gap false, behind c cs at) else (if newline then Ok (items.Gap true, behind c cs at) else (if starts then Ok (items.Name, past is_part (behind c cs at)) else token_at inside c (behind c cs at) at))) ≡ Ok (items.Name, p) → p ≡ past is_part (behind c cs at)
name_place inside c cs at p true newline starts e = absurd (let k : items.Gap false ≡ items.Name = ap item_of e in cc)
name_place inside c cs at p false true starts e = absurd (let k : items.Gap true ≡ items.Name = ap item_of e in cc)
name_place inside c cs at p false false true e = sym (ap place_of e)
name_place inside c cs at p false false false e = absurd (no_name (token_at inside c (behind c cs at) at) p (token_plain inside c (behind c cs at) at) e)

-- the bytes of a name
pub name_text : (text : List ℕ) (cs : List ℕ) (at : ℕ) (inside : Bool) (p : Place) → Stands text cs at → scan_at inside cs at ≡ Ok (items.Name, p) → slice_range text at p.at ≡ encode_utf8_all (name_at cs)
name_text text [] at inside p h e = absurd (let k : items.Over ≡ items.Name = ap item_of e in cc)
name_text text (c ∷ cs) at inside p h e =
    let q : p ≡ past is_part (behind c cs at) = name_place inside c cs at p (is_space c) (is_newline c) (is_start c) e in
    let f = front_is is_part cs (at + len_utf8 c) in
    let n : p.at ≡ at + length (encode_utf8_all (name_at (c ∷ cs))) = ap (λ x. x.at) q ∙ f.1 ∙ omega (arith, length-append (encode_utf8 c) (encode_utf8_all (front is_part cs)), length-encode c) in
    let d : p.at - at ≡ length (encode_utf8_all (name_at (c ∷ cs))) = omega (arith, n) in
    let b : drop at text ≡ encode_utf8_all (name_at (c ∷ cs)) ++ encode_utf8_all (past is_part (behind c cs at)).chars = bytes_are text (c ∷ cs) at h ∙ ap (λ l. encode_utf8_all (c ∷ l)) f.0 ∙ encodes-append (name_at (c ∷ cs)) (past is_part (behind c cs at)).chars in
    ap (λ m. take m (drop at text)) d ∙ ap (λ l. take (length (encode_utf8_all (name_at (c ∷ cs)))) l) b ∙ take-append_seam (encode_utf8_all (name_at (c ∷ cs))) (encode_utf8_all (past is_part (behind c cs at)).chars)

-- what stands behind an item
pub scan_stands : (text cs : List ℕ) (at : ℕ) (inside : Bool) (item : Item) (p : Place) → Stands text cs at → scan_at inside cs at ≡ Ok (item, p) → Stands text p.chars p.at
scan_stands text [] at inside item p h e = let q : p ≡ record { chars = []; at = at } = sym (ap place_of e) in subst (λ x. Stands text x.chars x.at) (sym q) h
scan_stands text (c ∷ cs) at inside item p h e = stands_on text (stands_next text c cs at h) (subst (λ r. Moves cs (at + len_utf8 c) r) e (scan-moves inside c cs at)).moved

pub scan_bounds : (cs : List ℕ) (at : ℕ) (inside : Bool) (item : Item) (p : Place) → scan_at inside cs at ≡ Ok (item, p) → at ≤ p.at
scan_bounds [] at inside item p e = let q : p ≡ record { chars = []; at = at } = sym (ap place_of e) in omega (arith, ap (λ x. x.at) q)
scan_bounds (c ∷ cs) at inside item p e =
    let m : Passes cs (at + len_utf8 c) p.chars p.at = (subst (λ r. Moves cs (at + len_utf8 c) r) e (scan-moves inside c cs at)).moved in
    omega (arith, bounds m, shorter m)

-- an item is passed character by character
pub scan_passes : (cs : List ℕ) (at : ℕ) (inside : Bool) (item : Item) (p : Place) → scan_at inside cs at ≡ Ok (item, p) → Passes cs at p.chars p.at
scan_passes [] at inside item p e = let q : p ≡ record { chars = []; at = at } = sym (ap place_of e) in subst (λ x. Passes [] at x.chars x.at) (sym q) none
scan_passes (c ∷ cs) at inside item p e = more (subst (λ r. Moves cs (at + len_utf8 c) r) e (scan-moves inside c cs at)).moved

-- where a character is left, it is not over
over_nowhere : (inside : Bool) (c : ℕ) (cs : List ℕ) (at : ℕ) (p : Place) (space newline starts : Bool)
    → (if space then Ok (items.Gap false, behind c cs at) else (if newline then Ok (items.Gap true, behind c cs at) else (if starts then Ok (items.Name, past is_part (behind c cs at)) else token_at inside c (behind c cs at) at))) ≡ Ok (items.Over, p) → ⊥
over_nowhere inside c cs at p true newline starts e = let k : items.Gap false ≡ items.Over = ap item_of e in cc
over_nowhere inside c cs at p false true starts e = let k : items.Gap true ≡ items.Over = ap item_of e in cc
over_nowhere inside c cs at p false false true e = let k : items.Name ≡ items.Over = ap item_of e in cc
over_nowhere inside c cs at p false false false e = no_end (token_at inside c (behind c cs at) at) p (token_plain inside c (behind c cs at) at) e

pub over_none : (inside : Bool) (c : ℕ) (cs : List ℕ) (at : ℕ) (p : Place) → scan_at inside (c ∷ cs) at ≡ Ok (items.Over, p) → ⊥
over_none inside c cs at p e = over_nowhere inside c cs at p (is_space c) (is_newline c) (is_start c) e
