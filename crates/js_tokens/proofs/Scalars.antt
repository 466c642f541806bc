-- The values and the raw texts of tokens are texts: each of their characters is one.
use Rattle.std.proofs.Common.{◌≡◌, ℕ, zero, suc, ◌+◌, ◌*◌, ◌<◌, ◌≤◌, Bool, true, false, cond, ◌&&◌, List, [], ◌∷◌, ◌++◌, length, drop, Option, Some, None, Result, Ok, Err, refl, subst, nat_lt, arith, if◌then◌else◌}
use Rattle.std.specs.Prelude.{◌==◌, ◌||◌, nat_le}
use Rattle.std.specs.Char.{len_utf8, digit_value}
use Rattle.std.specs.Str.{IsUtf8, chars}
use Rattle.std.proofs.lemmas.Bool.{ltb-true, lt-ltb, le-leb, ltb-false}
use Rattle.std.proofs.lemmas.Str.{scalars-chars}
use lib.Utf8.{scalar, scalars, low_scalar}
use Rattle.js_tokens.specs.Place.{Place, behind, eaten, ◌>>=◌}
use Rattle.js_tokens.specs.Classes.{is_digit, is_newline, first_is_digit}
use Rattle.js_tokens.specs.Numbers.{digits_at, is_digit_of}
use Rattle.js_tokens.specs.Escapes.{hex_digit_from, two_digits, four_digits, code_point_to, code_point_from, unicode_from, other_at, single, single_or, escape_from, unit, IsHalf}
use Rattle.js_tokens.specs.Strings.{is_high, of_pair, second_half, pair_at, whole, string_step, steps_on, steps_from}
use Rattle.js_tokens.specs.Span.{Passes, none, more}
use Rattle.js_tokens.specs.Values.{string_from, characters, value_at, closing_len, is_template, until, line_feed, line_feeds, between, raw_at}
use Rattle.js_tokens.specs.declared.escapes.Escaped.{Escaped}
use Rattle.js_tokens.specs.declared.escapes.Escaped.TheVariants as escapes
use Rattle.js_tokens.specs.declared.kinds.Token.{Token}
use Rattle.js_tokens.specs.declared.kinds.TokenFault.{TokenFault}
use Rattle.js_tokens.specs.declared.strings.Step.{Step}
use Rattle.js_tokens.specs.declared.strings.Step.TheVariants as steps
use Rattle.js_tokens.proofs.Passing.{Moves, eaten-passes, escape-moves, string_step-moves}

-- characters
first : (a b : Bool) → (a && b) ≡ true → a ≡ true
first true b e = refl
first false b e = e

second : (a b : Bool) → (a && b) ≡ true → b ≡ true
second true b e = e
second false b e = cc

both : (a b : Bool) → a ≡ true → b ≡ true → (a && b) ≡ true
both true b e f = f
both false b e f = e

scalars_left : {cs ds : List ℕ} {at to : ℕ} → Passes cs at ds to → scalars cs ≡ true → scalars ds ≡ true
scalars_left none h = h
scalars_left {cs = c ∷ cs} (more p) h = scalars_left p (second (scalar c) (scalars cs) h)

scalars_join : (as' bs : List ℕ) → scalars as' ≡ true → scalars bs ≡ true → scalars (as' ++ bs) ≡ true
scalars_join [] bs h k = k
scalars_join (a ∷ as') bs h k = both (scalar a) (scalars (as' ++ bs)) (first (scalar a) (scalars as') h) (scalars_join as' bs (second (scalar a) (scalars as') h) k)

high : (x a b : Bool) → a ≡ true → b ≡ true → cond x true (a && b) ≡ true
high true a b e f = refl
high false a b e f = both a b e f

high_scalar : (c : ℕ) → 57344 ≤ c → c < 1114112 → scalar c ≡ true
high_scalar c l u = high (nat_lt c 55296) (nat_le 57344 c) (nat_lt c 1114112) (le-leb 57344 c l) (lt-ltb c 1114112 u)

-- what a definition gives, where it gives something
abbrev GivenOk : {X : Type 0} → (X → Type 0) → Result (X × Place) TokenFault → Type 0
GivenOk P (Ok x) = P x.0
GivenOk P (Err e) = Unit {0}

record Gives {X : Type 0} (P : X → Type 0) (r : Result (X × Place) TokenFault) : Type 0 where
  gives : GivenOk P r

ok : {X : Type 0} {P : X → Type 0} {x : X × Place} → P x.0 → Gives P (Ok x)
ok h = record { gives = h }

err : {X : Type 0} {P : X → Type 0} {e : TokenFault} → Gives P (Err e)
err = record { gives = tt }

bind : {A B : Type 0} {Q : A → Type 0} {P : B → Type 0} (r : Result (A × Place) TokenFault) {f : A × Place → Result (B × Place) TokenFault} → Gives Q r → ((x : A × Place) → r ≡ Ok x → Q x.0 → Gives P (f x)) → Gives P (r >>= f)
bind (Ok x) h k = k x refl h.gives
bind (Err e) h k = err

tested : {X : Type 0} {P : X → Type 0} {r q : Result (X × Place) TokenFault} (b : Bool) → (b ≡ true → Gives P r) → (b ≡ false → Gives P q) → Gives P (if b then r else q)
tested true h k = h refl
tested false h k = k refl

either : {X : Type 0} {P : X → Type 0} {r q : Result (X × Place) TokenFault} (b : Bool) → Gives P r → Gives P q → Gives P (if b then r else q)
either b h k = tested b (λ e. h) (λ e. k)

-- escapes
abbrev Below : ℕ → ℕ → Type 0
Below n v = v < n

hex : (cs : List ℕ) (at s : ℕ) → Gives (Below 16) (hex_digit_from cs at s)
hex [] at s = err
hex (c ∷ cs) at s = tested (is_digit_of 16 c) (λ e. ok {x = (digit_value c, behind c cs at)} (ltb-true (digit_value c) 16 e)) (λ e. err)

two : (p : Place) (s : ℕ) → Gives (Below 256) (two_digits p s)
two p s =
    bind (hex_digit_from p.chars p.at s) (hex p.chars p.at s)
    (λ a e l. bind (hex_digit_from a.1.chars a.1.at s) (hex a.1.chars a.1.at s) (λ b f k. ok {x = (a.0 * 16 + b.0, b.1)} (omega (arith, l, k))))

four : (p : Place) (s : ℕ) → Gives (Below 1114112) (four_digits p s)
four p s =
    bind (two_digits p s) (two p s)
    (λ a e l. bind (two_digits a.1 s) (two a.1 s) (λ b f k. ok {x = (a.0 * 256 + b.0, b.1)} (omega (arith, l, k))))

point_to : (o : Option ℕ) (p : Place) (s : ℕ) → Gives (Below 1114112) (code_point_to o p s)
point_to None p s = err
point_to (Some v) p s = tested (nat_lt 0x10FFFF v) (λ e. err) (λ e. either (eaten 125 p).0 (ok {x = (v, (eaten 125 p).1)} (omega (arith, ltb-false 0x10FFFF v e))) err)

point_from : (x : Option ℕ × Place) (from s : ℕ) → Gives (Below 1114112) (code_point_from x from s)
point_from x from s = either (x.1.at == from) err (point_to x.0 x.1 s)

number_of : (x : Bool × Place) (s : ℕ) → Gives (Below 1114112) (unicode_from x s)
number_of x s = either x.0 (point_from (digits_at 16 0 x.1) x.1.at s) (four x.1 s)

abbrev IsUnit : Escaped → Type 0
IsUnit (escapes.Char c) = scalar c ≡ true
IsUnit (escapes.Half v) = IsHalf v
IsUnit escapes.Nothing = Unit {0}

unit_by : (v : ℕ) (a b : Bool) → nat_lt 0xD7FF v ≡ a → nat_lt v 0xE000 ≡ b → v < 1114112 → IsUnit (if a && b then escapes.Half v else escapes.Char v)
unit_by v true true e f l = (omega (arith, ltb-true 0xD7FF v e), ltb-true v 0xE000 f)
unit_by v true false e f l = high_scalar v (ltb-false v 0xE000 f) l
unit_by v false b e f l = low_scalar v (omega (arith, ltb-false 0xD7FF v e))

unit_is : (v : ℕ) → v < 1114112 → IsUnit (unit v)
unit_is v l = unit_by v (nat_lt 0xD7FF v) (nat_lt v 0xE000) refl refl l

abbrev IsCharacter : ℕ → Type 0
IsCharacter c = scalar c ≡ true

other_is : (c : ℕ) (p : Place) (s : ℕ) → IsCharacter c → Gives IsUnit (other_at c p s)
other_is c p s h =
    either (c == 120) (bind (two_digits p s) (two p s) (λ x e l. ok {x = (unit x.0, x.1)} (unit_is x.0 (omega (arith, l)))))
    (either (c == 117) (bind (unicode_from (eaten 123 p) s) (number_of (eaten 123 p) s) (λ x e l. ok {x = (unit x.0, x.1)} (unit_is x.0 l)))
    (either (c == 48) (either (first_is_digit p.chars) err (ok {x = (escapes.Char 0, p)} refl))
    (either (is_digit c) err
    (either (c == 13) (ok {x = (escapes.Nothing, (eaten 10 p).1)} tt)
    (either (is_newline c) (ok {x = (escapes.Nothing, p)} tt) (ok {x = (escapes.Char c, p)} h))))))

abbrev SomeIs : Option ℕ → Type 0
SomeIs None = Unit {0}
SomeIs (Some c) = IsCharacter c

choose : (b : Bool) (o n : Option ℕ) → SomeIs o → SomeIs n → SomeIs (if b then o else n)
choose true o n h k = h
choose false o n h k = k

abbrev or_none : ℕ → ℕ → ℕ → Option ℕ → Option ℕ
or_none c d v o = if c == d then Some v else o

single_is : (c : ℕ) → IsCharacter c → SomeIs (single c)
single_is c h =
    let o6 = or_none c 118 11 None
    in let o5 = or_none c 116 9 o6
    in let o4 = or_none c 114 13 o5
    in let o3 = or_none c 110 10 o4
    in let o2 = or_none c 102 12 o3
    in let o1 = or_none c 98 8 o2
    in choose (c == 39 || c == 34 || c == 92) (Some c) o1 h (choose (c == 98) (Some 8) o2 refl (choose (c == 102) (Some 12) o3 refl (choose (c == 110) (Some 10) o4 refl (choose (c == 114) (Some 13) o5 refl (choose (c == 116) (Some 9) o6 refl (choose (c == 118) (Some 11) None refl tt))))))

single_or_is : (o : Option ℕ) (c : ℕ) (p : Place) (s : ℕ) → SomeIs o → IsCharacter c → Gives IsUnit (single_or o c p s)
single_or_is None c p s is h = other_is c p s h
single_or_is (Some v) c p s is h = ok is

escape_is : (cs : List ℕ) (at s : ℕ) → scalars cs ≡ true → Gives IsUnit (escape_from cs at s)
escape_is [] at s h = err
escape_is (c ∷ cs) at s h =
    let k = first (scalar c) (scalars cs) h
    in single_or_is (single c) c (behind c cs at) s (single_is c k) k

-- strings
half_is : (high : ℕ) (r : Result (Escaped × Place) TokenFault) (s : ℕ) → IsHalf high → is_high high ≡ true → Gives IsUnit r → Gives IsCharacter (second_half high r s)
half_is high (Ok (escapes.Half low, p)) s half is h =
    tested (is_high low) (λ e. err) (λ e. ok {x = (of_pair high low, p)} (high_scalar (of_pair high low) (omega arith) (omega (arith, half, ltb-true high 0xDC00 is, h.gives, ltb-false low 0xDC00 e))))
half_is high (Ok (escapes.Char c, p)) s half is h = err
half_is high (Ok (escapes.Nothing, p)) s half is h = err
half_is high (Err e) s half is h = err

pair_is : (half : ℕ) (p : Place) (s : ℕ) → IsHalf half → scalars p.chars ≡ true → Gives IsCharacter (pair_at half p s)
pair_is half p s is h =
    let q = (eaten 92 p).1
    in tested (is_high half) (λ e. either (eaten 92 p).0 (half_is half (escape_from q.chars q.at s) s is e (escape_is q.chars q.at s (scalars_left (eaten-passes 92 p.chars p.at) h))) err) (λ e. err)

abbrev IsStep : Step → Type 0
IsStep (steps.Char c) = IsCharacter c
IsStep (steps.Closed opens) = Unit {0}
IsStep steps.Nothing = Unit {0}

whole_is : (x : Escaped × Place) (s : ℕ) → IsUnit x.0 → scalars x.1.chars ≡ true → Gives IsStep (whole x s)
whole_is (escapes.Char c, p) s is h = ok is
whole_is (escapes.Nothing, p) s is h = ok tt
whole_is (escapes.Half half, p) s is h = bind (pair_at half p s) (pair_is half p s is h) (λ x e k. ok {x = (steps.Char x.0, x.1)} k)

left : {X : Type 0} (cs : List ℕ) (at : ℕ) (r : Result (X × Place) TokenFault) (x : X × Place) → Moves cs at r → r ≡ Ok x → scalars cs ≡ true → scalars x.1.chars ≡ true
left cs at r x m e h = scalars_left (subst (λ r. Moves cs at r) e m).moved h

string_step_is : (quote : ℕ) (cs : List ℕ) (at s : ℕ) → scalars cs ≡ true → Gives IsStep (string_step quote cs at s)
string_step_is quote [] at s h = err
string_step_is quote (c ∷ cs) at s h =
    let k = second (scalar c) (scalars cs) h
    in let from = at + len_utf8 c
    in either (c == quote) (ok {x = (steps.Closed false, behind c cs at)} tt)
    (either (is_newline c) err
    (either (c == 92) (bind (escape_from cs from at) (escape_is cs from at k) (λ x e i. whole_is x at i (left cs from (escape_from cs from at) x (escape-moves cs from at) e k)))
    (ok {x = (steps.Char c, behind c cs at)} (first (scalar c) (scalars cs) h))))

abbrev AreCharacters : List ℕ × Bool → Type 0
AreCharacters x = scalars x.0 ≡ true

on_is : (next : Place → Result ((List ℕ × Bool) × Place) TokenFault) (x : Step × Place) → IsStep x.0 → Gives AreCharacters (next x.1) → Gives AreCharacters (steps_on next x)
on_is next (steps.Closed m, p) i h = ok refl
on_is next (steps.Char c, p) i h = bind (next p) h (λ x e k. ok {x = ((c ∷ x.0.0, x.0.1), x.1)} (both (scalar c) (scalars x.0.0) i k))
on_is next (steps.Nothing, p) i h = h

steps_are : (quote s n : ℕ) (cs : List ℕ) (at : ℕ) → scalars cs ≡ true → Gives AreCharacters (steps_from n (string_step quote) cs at s)
steps_are quote s zero cs at h = err
steps_are quote s (suc n) cs at h =
    bind (string_step quote cs at s) (string_step_is quote cs at s h)
    (λ x e i. on_is (λ p. steps_from n (string_step quote) p.chars p.at s) x i (steps_are quote s n x.1.chars x.1.at (left cs at (string_step quote cs at s) x (string_step-moves quote cs at s) e h)))

string_is : (cs : List ℕ) (at : ℕ) → scalars cs ≡ true → Gives AreCharacters (string_from cs at)
string_is [] at h = err
string_is (quote ∷ cs) at h = steps_are quote at (suc (length cs)) cs (at + len_utf8 quote) (second (scalar quote) (scalars cs) h)

characters_are : (r : Result ((List ℕ × Bool) × Place) TokenFault) → Gives AreCharacters r → scalars (characters r) ≡ true
characters_are (Ok x) h = h.gives
characters_are (Err e) h = refl

pub value_is_text : (text : List ℕ) (from : ℕ) → IsUtf8 (drop from text) → IsUtf8 (value_at text from)
value_is_text text from utf8 =
    let cs = chars (drop from text)
    in (characters (string_from cs from), (characters_are (string_from cs from) (string_is cs from (scalars-chars (drop from text) utf8)), refl))

-- raw texts
taken : (b : Bool) (cs : List ℕ) → scalars cs ≡ true → scalars (if b then cs else []) ≡ true
taken true cs h = h
taken false cs h = refl

until_are : (closing stop : ℕ) (cs : List ℕ) (at : ℕ) → scalars cs ≡ true → scalars (until closing stop cs at) ≡ true
until_are closing stop [] at h = refl
until_are closing stop (c ∷ cs) at h =
    let rest = until closing stop cs (at + len_utf8 c)
    in taken (nat_lt (at + closing) stop) (c ∷ rest) (both (scalar c) (scalars rest) (first (scalar c) (scalars cs) h) (until_are closing stop cs (at + len_utf8 c) (second (scalar c) (scalars cs) h)))

between_are : (t : Token) (cs : List ℕ) (at : ℕ) → scalars cs ≡ true → scalars (between t cs at) ≡ true
between_are t [] at h = refl
between_are t (c ∷ cs) at h = until_are (closing_len t.kind) t.to cs (at + len_utf8 c) (second (scalar c) (scalars cs) h)

feed_is : (a b : Bool) (c : ℕ) → scalar c ≡ true → scalars (if a then 10 ∷ [] else (if b then [] else c ∷ [])) ≡ true
feed_is true b c h = refl
feed_is false true c h = refl
feed_is false false c h = both (scalar c) true h refl

feeds_are : (return : Bool) (cs : List ℕ) → scalars cs ≡ true → scalars (line_feeds return cs) ≡ true
feeds_are return [] h = refl
feeds_are return (c ∷ cs) h =
    scalars_join (line_feed return c) (line_feeds (c == 13) cs) (feed_is (c == 13) (c == 10 && return) c (first (scalar c) (scalars cs) h)) (feeds_are (c == 13) cs (second (scalar c) (scalars cs) h))

raw_are : (template : Bool) (cs : List ℕ) → scalars cs ≡ true → scalars (if template then line_feeds false cs else cs) ≡ true
raw_are true cs h = feeds_are false cs h
raw_are false cs h = h

pub raw_is_text : (text : List ℕ) (t : Token) → IsUtf8 (drop t.from text) → IsUtf8 (raw_at text t)
raw_is_text text t utf8 =
    let cs = between t (chars (drop t.from text)) t.from
    in ((if is_template t.kind then line_feeds false cs else cs), (raw_are (is_template t.kind) cs (between_are t (chars (drop t.from text)) t.from (scalars-chars (drop t.from text) utf8)), refl))
