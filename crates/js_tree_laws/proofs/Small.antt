-- The numbers among the tokens of a text are below 2^53.
use Rattle.std.proofs.Common.{◌≡◌, ℕ, ◌^◌, Bool, true, false, ◌&&◌, ◌||◌, cond, List, [], ◌∷◌, Option, Some, None, Result, Ok, Err, refl, subst, nat_lt}
use Rattle.std.specs.Prelude.{◌==◌}
use Rattle.std.proofs.lemmas.Bool.{lt-ltb}
use Rattle.js_tokens.specs.Cut.{Cut, CutOf, over, gap, name, other}
use Rattle.js_tokens.specs.Heads.{with_heads}
use Rattle.js_tokens.specs.Numbers.{number_at}
use Rattle.js_tokens.specs.Place.{Place, behind, behind_first, first_is, past, ◌>>=◌}
use Rattle.js_tokens.specs.Scan.{scan_at, token_at, other_at, begins_number, begins_piece, comment_to, comment_from, mark_to, found, piece}
use Rattle.js_tokens.specs.Classes.{is_space, is_newline, is_in_line, is_start, is_part}
use Rattle.js_tokens.specs.Strings.{string_at, template_at, closing}
use Rattle.js_tokens.specs.Marks.{mark_at}
use Rattle.js_tokens.specs.Words.{kind_of_word}
use Rattle.js_tokens.specs.Braces.{is_inside}
use Rattle.js_tokens.specs.declared.braces.Brace.{Brace}
use Rattle.js_tokens.specs.declared.kinds.Mark.{Mark}
use Rattle.js_tokens.specs.declared.kinds.Word.{Word}
use Rattle.js_tokens.specs.declared.kinds.Token.{Token}
use Rattle.js_tokens.specs.declared.kinds.TokenKind.{TokenKind}
use Rattle.js_tokens.specs.declared.kinds.TokenKind.TheVariants as tokens
use Rattle.js_tokens.specs.declared.kinds.TokenFault.{TokenFault}
use Rattle.js_tokens.specs.declared.kinds.TokenFault.TheVariants as faults
use Rattle.js_tokens.specs.declared.scan.Item.{Item}
use Rattle.js_tokens.specs.declared.scan.Item.TheVariants as items
use Rattle.js_tokens.proofs.Longest.{number_whole}

abbrev pub is_small : TokenKind → Bool
is_small (tokens.Number n) = nat_lt n (2 ^ 53)
is_small _ = true

abbrev ItemIs : Item → Type 0
ItemIs (items.Token k) = is_small k ≡ true
ItemIs _ = Unit {0}

abbrev ScanIs : Result (Item × Place) TokenFault → Type 0
ScanIs (Ok x) = ItemIs x.0
ScanIs (Err e) = Unit {0}

by_test : (b : Bool) (r s : Result (Item × Place) TokenFault) → ScanIs r → ScanIs s → ScanIs (cond b r s)
by_test true r s is other_is = is
by_test false r s is other_is = other_is

by_bind : {A : Type 0} (r : Result A TokenFault) (f : A → Result (Item × Place) TokenFault) → ((x : A) → r ≡ Ok x → ScanIs (f x)) → ScanIs (r >>= f)
by_bind (Ok x) f is = is x refl
by_bind (Err e) f is = tt

comment_is : (o : Option (Bool × Place)) (start : ℕ) → ScanIs (comment_to o start)
comment_is None start = tt
comment_is (Some x) start = tt

mark_is : (o : Option (Mark × Place)) (start : ℕ) → ScanIs (mark_to o start)
mark_is None start = tt
mark_is (Some x) start = refl

abbrev Scanned : Type 0
Scanned = Result (Item × Place) TokenFault

other_is_small : (c : ℕ) (p : Place) (start : ℕ) → ScanIs (other_at c p start)
other_is_small c p start =
    let marked : Scanned = mark_to (mark_at c p) start in
    let escape : Scanned = cond (c == 92) (Err (faults.EscapedName start)) marked in
    let comment : Scanned = comment_to (comment_from false (behind_first p.chars p.at).chars (behind_first p.chars p.at).at) start in
    by_test (c == 47 && first_is 47 p.chars) (Ok (items.Gap false, past is_in_line p)) (cond (c == 47 && first_is 42 p.chars) comment escape) tt
    (by_test (c == 47 && first_is 42 p.chars) comment escape (comment_is (comment_from false (behind_first p.chars p.at).chars (behind_first p.chars p.at).at) start)
    (by_test (c == 92) (Err (faults.EscapedName start)) marked tt (mark_is (mark_at c p) start)))

token_is_small : (inside : Bool) (c : ℕ) (p : Place) (start : ℕ) → ScanIs (token_at inside c p start)
token_is_small inside c p start =
    let other : Scanned = other_at c p start in
    let template : Scanned = closing (template_at p start) >>= (λ x. found (tokens.Template (piece c x.0)) x.1) in
    let string : Scanned = closing (string_at c p start) >>= (λ x. found tokens.Text x.1) in
    let whole : Scanned = number_at c p start >>= (λ x. found (tokens.Number x.0) x.1) in
    by_test (begins_number c p.chars) whole (cond (c == 34 || c == 39) string (cond (begins_piece inside c) template other))
    (by_bind (number_at c p start) (λ x. found (tokens.Number x.0) x.1) (λ x e. lt-ltb x.0 (2 ^ 53) (number_whole c p x.1 start x.0 e).1))
    (by_test (c == 34 || c == 39) string (cond (begins_piece inside c) template other) (by_bind (closing (string_at c p start)) (λ x. found tokens.Text x.1) (λ x e. refl))
    (by_test (begins_piece inside c) template other (by_bind (closing (template_at p start)) (λ x. found (tokens.Template (piece c x.0)) x.1) (λ x e. refl)) (other_is_small c p start)))

scan_is_small : (inside : Bool) (cs : List ℕ) (at : ℕ) → ScanIs (scan_at inside cs at)
scan_is_small inside [] at = tt
scan_is_small inside (c ∷ cs) at =
    let token : Scanned = token_at inside c (behind c cs at) at in
    let name : Scanned = Ok (items.Name, past is_part (behind c cs at)) in
    by_test (is_space c) (Ok (items.Gap false, behind c cs at)) (cond (is_newline c) (Ok (items.Gap true, behind c cs at)) (cond (is_start c) name token)) tt
    (by_test (is_newline c) (Ok (items.Gap true, behind c cs at)) (cond (is_start c) name token) tt
    (by_test (is_start c) name token tt (token_is_small inside c (behind c cs at) at)))

word_is_small : (o : Option Word) → is_small (kind_of_word o) ≡ true
word_is_small None = refl
word_is_small (Some w) = refl

abbrev pub AreSmall : List Token → Type 0
AreSmall [] = Unit {0}
AreSmall (t ∷ ts) = (is_small t.kind ≡ true) × AreSmall ts

cut_small : (bs : List Brace) (cs : List ℕ) (at : ℕ) (newline : Bool) (ts : List Token) → Cut bs cs at newline ts → AreSmall ts
cut_small _ _ _ _ _ (over e) = (refl, tt)
cut_small _ _ _ _ _ (gap e d) = cut_small _ _ _ _ _ d
cut_small _ cs _ _ _ (name e d) = (word_is_small _, cut_small _ _ _ _ _ d)
cut_small bs cs at _ _ (other e d) = (subst ScanIs e (scan_is_small (is_inside bs) cs at), cut_small _ _ _ _ _ d)

heads_small : (ts : List Token) → AreSmall ts → AreSmall (with_heads ts)
heads_small [] are = tt
heads_small (t ∷ ts) are = (are.0, heads_small ts are.1)

pub tokens_small : (text : List ℕ) (ts : List Token) → CutOf text ts → AreSmall (with_heads ts)
tokens_small text ts cut = heads_small ts (cut_small _ _ _ _ _ cut)
