-- What holds of each token of a text, and of all of them.
use Rattle.std.proofs.Common.{◌≡◌, ℕ, ◌+◌, ◌<◌, ◌≤◌, ◌^◌, Bool, true, false, List, [], ◌∷◌, length, Option, Some, None, Result, Ok, Err, is_ok, refl, sym, ap, ◌∙◌, subst, arith, if◌then◌else◌}
use Rattle.std.specs.Prelude.{◌==◌, ◌&&◌, ◌||◌, IsUtf8, suc, encode_utf8_all}
use Rattle.std.specs.Str.{chars}
use Rattle.std.specs.List.{All}
use Rattle.std.specs.Char.{len_utf8}
use Rattle.std.proofs.lemmas.List.Elements.{All-cons}
use Rattle.std.proofs.lemmas.Str.{length-le-encodes, encodes-chars, len_utf8_bounds}
use Rattle.js_tokens.specs.Place.{Place, behind, behind_first, first_is, ◌>>=◌}
use Rattle.js_tokens.specs.Classes.{is_space, is_newline, is_start}
use Rattle.js_tokens.specs.Numbers.{number_at}
use Rattle.js_tokens.specs.Strings.{string_at, template_at, closing}
use Rattle.js_tokens.specs.Marks.{mark_at}
use Rattle.js_tokens.specs.Scan.{scan_at, token_at, begins_number, begins_piece, found, piece, comment_from, comment_to, mark_to}
use Rattle.js_tokens.specs.Words.{word_named, kind_of_word}
use Rattle.js_tokens.specs.Braces.{is_inside}
use Rattle.js_tokens.specs.Cut.{Cut, over, gap, name, other, CutOf, name_kind, name_at, token}
use Rattle.js_tokens.specs.Heads.{with_heads, is_head}
use Rattle.js_tokens.specs.Span.{Stands, Passes}
use Rattle.js_tokens.specs.Tokens.{AreEnded, is_end}
use Rattle.js_tokens.specs.Values.{IsTokenOf, is_text, string_from}
use Rattle.js_tokens.specs.declared.braces.Brace.{Brace}
use Rattle.js_tokens.specs.declared.kinds.Mark.{Mark}
use Rattle.js_tokens.specs.declared.kinds.Word.{Word}
use Rattle.js_tokens.specs.declared.kinds.Token.{Token}
use Rattle.js_tokens.specs.declared.kinds.TokenKind.{TokenKind}
use Rattle.js_tokens.specs.declared.kinds.TokenKind.TheVariants as kinds
use Rattle.js_tokens.specs.declared.kinds.TokenFault.{TokenFault}
use Rattle.js_tokens.specs.declared.scan.Item.{Item}
use Rattle.js_tokens.specs.declared.scan.Item.TheVariants as items
use Rattle.js_tokens.proofs.Spans.{scan_bounds, scan_stands, boundary, bounds, shorter}
use Rattle.js_tokens.proofs.Passing.{scan-moves, Moves}

-- a token that is found is no end, and where it is a string, a string is read
abbrev Tells : Bool → Item → Type 0
Tells read (items.Token k) = (is_end k ≡ false) × (is_text k ≡ true → read ≡ true)
Tells read (items.Gap b) = Unit {0}
Tells read items.Name = Unit {0}
Tells read items.Over = Unit {0}

abbrev ToldOk : Bool → Result (Item × Place) TokenFault → Type 0
ToldOk read (Ok x) = Tells read x.0
ToldOk read (Err e) = Unit {0}

record Told (read : Bool) (r : Result (Item × Place) TokenFault) : Type 0 where
  told : ToldOk read r

either : {read : Bool} {r q : Result (Item × Place) TokenFault} (b : Bool) → Told read r → Told read q → Told read (if b then r else q)
either true h k = h
either false h k = k

no_text : false ≡ true → (b : Bool) → b ≡ true
no_text e b = absurd (cc)

found-told : {X : Type 0} (read : Bool) (r : Result (X × Place) TokenFault) (k : X → TokenKind) → ((x : X) → is_end (k x) ≡ false) → ((x : X) → is_text (k x) ≡ false) → Told read (r >>= (λ x. found (k x.0) x.1))
found-told read (Ok x) k h g = record { told = (h x.0, λ e. no_text (sym (g x.0) ∙ e) read) }
found-told read (Err e) k h g = record { told = tt }

string-told : (r : Result ((List ℕ × Bool) × Place) TokenFault) → Told (is_ok r) (closing r >>= (λ x. found kinds.Text x.1))
string-told (Ok x) = record { told = (refl, λ e. refl) }
string-told (Err e) = record { told = tt }

comment-told : (read : Bool) (o : Option (Bool × Place)) (s : ℕ) → Told read (comment_to o s)
comment-told read None s = record { told = tt }
comment-told read (Some x) s = record { told = tt }

mark-told : (read : Bool) (o : Option (Mark × Place)) (s : ℕ) → Told read (mark_to o s)
mark-told read None s = record { told = tt }
mark-told read (Some x) s = record { told = (refl, λ e. no_text e read) }

token-told : (inside : Bool) (c : ℕ) (p : Place) (s : ℕ) → Told (is_ok (string_at c p s)) (token_at inside c p s)
token-told inside c p s =
    either (begins_number c p.chars) (found-told (is_ok (string_at c p s)) (number_at c p s) kinds.Number (λ x. refl) (λ x. refl))
    (either (c == 34 || c == 39) (string-told (string_at c p s))
    (either (begins_piece inside c) (found-told (is_ok (string_at c p s)) (closing (template_at p s)) (λ x. kinds.Template (piece c x)) (λ x. refl) (λ x. refl))
    (either (c == 47 && first_is 47 p.chars) (record { told = tt })
    (either (c == 47 && first_is 42 p.chars) (comment-told (is_ok (string_at c p s)) (comment_from false (behind_first p.chars p.at).chars (behind_first p.chars p.at).at) s)
    (either (c == 92) (record { told = tt })
    (mark-told (is_ok (string_at c p s)) (mark_at c p) s))))))

scan-told : (inside : Bool) (cs : List ℕ) (at : ℕ) → Told (is_ok (string_from cs at)) (scan_at inside cs at)
scan-told inside [] at = record { told = tt }
scan-told inside (c ∷ cs) at =
    either (is_space c) (record { told = tt })
    (either (is_newline c) (record { told = tt })
    (either (is_start c) (record { told = tt })
    (token-told inside c (behind c cs at) at)))

tells : (inside : Bool) (cs : List ℕ) (at : ℕ) (item : Item) (p : Place) → scan_at inside cs at ≡ Ok (item, p) → Tells (is_ok (string_from cs at)) item
tells inside cs at item p e = (subst (λ r. Told (is_ok (string_from cs at)) r) e (scan-told inside cs at)).told

-- what is found is some characters long
abbrev item_of : Result (Item × Place) TokenFault → Item
item_of (Ok x) = x.0
item_of (Err e) = items.Over

abbrev pub is_over : Item → Bool
is_over items.Over = true
is_over _ = false

pub scan-some : (inside : Bool) (cs : List ℕ) (at : ℕ) (item : Item) (p : Place) → scan_at inside cs at ≡ Ok (item, p) → is_over item ≡ false → (at < p.at) × (length p.chars < length cs)
scan-some inside [] at item p e h = absurd (let k : true ≡ is_over item = ap (λ r. is_over (item_of r)) e in cc)
scan-some inside (c ∷ cs) at item p e h =
    let m : Passes cs (at + len_utf8 c) p.chars p.at = (subst (λ r. Moves cs (at + len_utf8 c) r) e (scan-moves inside c cs at)).moved in
    (omega (arith, bounds m, shorter m, (len_utf8_bounds c).0), omega (arith, shorter m))

word-end : (w : Option Word) → is_end (kind_of_word w) ≡ false
word-end None = refl
word-end (Some w) = refl

word-text : (w : Option Word) → is_text (kind_of_word w) ≡ false
word-text None = refl
word-text (Some w) = refl

name-end : (cs : List ℕ) → is_end (name_kind cs) ≡ false
name-end cs = word-end (word_named (encode_utf8_all (name_at cs)))

name-text : (cs : List ℕ) → is_text (name_kind cs) ≡ false
name-text cs = word-text (word_named (encode_utf8_all (name_at cs)))

-- one token of the text
one : (text cs : List ℕ) (at : ℕ) (newline : Bool) (inside : Bool) (item : Item) (p : Place) (k : TokenKind) → length text ≤ 2 ^ 31 → Stands text cs at → scan_at inside cs at ≡ Ok (item, p) → is_over item ≡ is_end k → at ≤ p.at → (is_text k ≡ true → is_ok (string_from cs at) ≡ true) → IsTokenOf text (token k at p.at newline)
one text cs at newline inside item p k small stands e same ordered reads = record {
  small = small;
  within = record {
    start = boundary text cs at stands;
    stop = boundary text p.chars p.at (scan_stands text cs at inside item p stands e);
    ordered = ordered;
    some = λ h. (scan-some inside cs at item p e (same ∙ h)).0;
  };
  reads = λ h. ap (λ l. is_ok (string_from l at)) stands.rest ∙ reads h;
}

All-nil : {X : Type 0} (P : X → Type 0) → All P []
All-nil P k d h = absurd (omega (arith, h))

pub each_of : {bs : List Brace} {cs : List ℕ} {at : ℕ} {newline : Bool} {ts : List Token} (text : List ℕ) → length text ≤ 2 ^ 31 → Stands text cs at → Cut bs cs at newline ts → All (IsTokenOf text) ts
each_of {bs} {cs} {at} {newline} text small stands (over {p = p} e) =
    All-cons (IsTokenOf text) (token kinds.End at p.at newline) [] (one text cs at newline (is_inside bs) items.Over p kinds.End small stands e refl (scan_bounds cs at (is_inside bs) items.Over p e) (λ h. no_text h (is_ok (string_from cs at)))) (All-nil (IsTokenOf text))
each_of {bs} {cs} {at} {newline} text small stands (gap {breaks = breaks} {p = p} e rest) = each_of text small (scan_stands text cs at (is_inside bs) (items.Gap breaks) p stands e) rest
each_of {bs} {cs} {at} {newline} text small stands (name {p = p} {ts = ts} e rest) =
    All-cons (IsTokenOf text) (token (name_kind cs) at p.at newline) ts
    (one text cs at newline (is_inside bs) items.Name p (name_kind cs) small stands e (sym (name-end cs)) (scan_bounds cs at (is_inside bs) items.Name p e) (λ h. no_text (sym (name-text cs) ∙ h) (is_ok (string_from cs at))))
    (each_of text small (scan_stands text cs at (is_inside bs) items.Name p stands e) rest)
each_of {bs} {cs} {at} {newline} text small stands (other {k = k} {p = p} {ts = ts} e rest) =
    All-cons (IsTokenOf text) (token k at p.at newline) ts
    (one text cs at newline (is_inside bs) (items.Token k) p k small stands e (sym (tells (is_inside bs) cs at (items.Token k) p e).0) (scan_bounds cs at (is_inside bs) (items.Token k) p e) (tells (is_inside bs) cs at (items.Token k) p e).1)
    (each_of text small (scan_stands text cs at (is_inside bs) (items.Token k) p stands e) rest)

-- the end stands last
ended_more : (t : Token) (ts : List Token) → is_end t.kind ≡ false → AreEnded ts → AreEnded (t ∷ ts)
ended_more t [] h e = absurd e
ended_more t (u ∷ us) h e = (h, e)

pub ended : {bs : List Brace} {cs : List ℕ} {at : ℕ} {newline : Bool} {ts : List Token} → Cut bs cs at newline ts → AreEnded ts
ended (over e) = refl
ended (gap e rest) = ended rest
ended {cs = cs} {at = at} {newline = newline} (name {p = p} {ts = ts} e rest) = ended_more (token (name_kind cs) at p.at newline) ts (name-end cs) (ended rest)
ended {bs} {cs} {at} {newline} (other {k = k} {p = p} {ts = ts} e rest) = ended_more (token k at p.at newline) ts (tells (is_inside bs) cs at (items.Token k) p e).0 (ended rest)

-- there are no more tokens than characters, the end left out
pub few : {bs : List Brace} {cs : List ℕ} {at : ℕ} {newline : Bool} {ts : List Token} → Cut bs cs at newline ts → length ts ≤ length cs + 1
few (over e) = omega arith
few {bs} {cs} {at} (gap {breaks = breaks} {p = p} {ts = ts} e rest) = let k : length ts ≤ length p.chars + 1 = few rest in omega (arith, (scan-some (is_inside bs) cs at (items.Gap breaks) p e refl).1)
few {bs} {cs} {at} (name {p = p} {ts = ts} e rest) = let k : length ts ≤ length p.chars + 1 = few rest in omega (arith, (scan-some (is_inside bs) cs at items.Name p e refl).1)
few {bs} {cs} {at} (other {k = k} {p = p} {ts = ts} e rest) = let l : length ts ≤ length p.chars + 1 = few rest in omega (arith, (scan-some (is_inside bs) cs at (items.Token k) p e refl).1)

-- marks of heads change none of it
pub heads-each : (text : List ℕ) (ts : List Token) → All (IsTokenOf text) ts → All (IsTokenOf text) (with_heads ts)
heads-each text [] h = h
heads-each text (t ∷ ts) h =
    let first : IsTokenOf text t = h 0 t (omega arith) in
    All-cons (IsTokenOf text) (record t { head = is_head t ts }) (with_heads ts)
    (record { small = first.small; within = record { start = first.within.start; stop = first.within.stop; ordered = first.within.ordered; some = first.within.some }; reads = first.reads })
    (heads-each text ts (λ k d l. h (suc k) d (omega (arith, l))))

pub heads-ended : (ts : List Token) → AreEnded ts → AreEnded (with_heads ts)
heads-ended (t ∷ u ∷ us) h = (h.0, heads-ended (u ∷ us) h.1)
heads-ended _ h = h

heads-length : (ts : List Token) → length (with_heads ts) ≡ length ts
heads-length [] = refl
heads-length (t ∷ ts) = ap suc (heads-length ts)

pub heads-few : (text : List ℕ) (ts : List Token) → IsUtf8 text → CutOf text ts → length (with_heads ts) ≤ length text + 1
heads-few text ts utf8 cut =
    omega (arith, heads-length ts, few cut, length-le-encodes (chars text), ap length (encodes-chars text utf8))

pub stands_whole : (text : List ℕ) → IsUtf8 text → Stands text (chars text) 0
stands_whole text utf8 = record { within = omega arith; utf8 = utf8; rest = refl }
