-- What stands at a place is passed character by character.
use Rattle.std.proofs.Common.{ℕ, zero, suc, pred, ◌+◌, ◌*◌, ◌==◌, ◌&&◌, ◌||◌, Bool, true, false, List, [], ◌∷◌, length, Option, Some, None, Result, Ok, Err, if◌then◌else◌}
use Rattle.std.specs.Char.{len_utf8, digit_value}
use Rattle.js_tokens.specs.Span.{Passes, none, more}
use Rattle.js_tokens.specs.Place.{Place, past_from, behind_first, eaten_from, eaten, behind, past, first_is, ◌>>=◌}
use Rattle.js_tokens.specs.Numbers.{digits_from, digits_at, number_to, value_to, some_digits, behind_zero, number_from, number_at, is_digit_of, digit_of}
use Rattle.js_tokens.specs.Escapes.{hex_digit_from, two_digits, four_digits, closed, code_point_to, code_point_from, code_point, unicode_from, unicode, other_at, single, single_or, escape_from, unit}
use Rattle.js_tokens.specs.declared.kinds.TokenFault.{TokenFault}
use Rattle.js_tokens.specs.declared.escapes.Escaped.{Escaped}
use Rattle.js_tokens.specs.declared.escapes.Escaped.TheVariants as escapes
use Rattle.js_tokens.specs.declared.kinds.TokenFault.TheVariants as faults
use Rattle.js_tokens.specs.declared.strings.Step.{Step}
use Rattle.js_tokens.specs.declared.strings.Step.TheVariants.{Closed, Char, Nothing}
use Rattle.js_tokens.specs.declared.scan.Item.TheVariants as items
use Rattle.js_tokens.specs.declared.kinds.Mark.{Mark}
use Rattle.js_tokens.specs.Classes.{is_newline, is_digit, first_is_digit, is_in_line, is_part, is_space, is_start}
use Rattle.js_tokens.specs.Strings.{second_half, pair_from, pair_at, whole, is_high, string_step, template_step, steps_on, steps_from, string_at, template_at, closing}
use Rattle.js_tokens.specs.Marks.{skipped, mark_to, mark_among, punctuators}
use Rattle.js_tokens.specs.Scan as scan
use Rattle.js_tokens.specs.Scan.{comment_from, comment_to}

pub onward : {a b c : List ℕ} {i j k : ℕ} → Passes a i b j → Passes b j c k → Passes a i c k
onward none q = q
onward (more p) q = more (onward p q)

-- where a result is no fault, it stands behind characters that were passed
abbrev pub Moved : {X : Type 0} → List ℕ → ℕ → Result (X × Place) TokenFault → Type 0
Moved cs at (Ok x) = Passes cs at x.1.chars x.1.at
Moved cs at (Err e) = Unit {0}

pub record Moves {X : Type 0} (cs : List ℕ) (at : ℕ) (r : Result (X × Place) TokenFault) : Type 0 where
  pub moved : Moved cs at r

pub ok : {X : Type 0} {cs : List ℕ} {at : ℕ} {x : X × Place} → Passes cs at x.1.chars x.1.at → Moves {X = X} cs at (Ok x)
ok h = record { moved = h }

pub err : {X : Type 0} {cs : List ℕ} {at : ℕ} {e : TokenFault} → Moves {X = X} cs at (Err e)
err = record { moved = tt }

pub after : {X : Type 0} {cs ds : List ℕ} {i j : ℕ} {r : Result (X × Place) TokenFault} → Passes cs i ds j → Moves ds j r → Moves cs i r
after {r = Ok x} p h = ok (onward p h.moved)
after {r = Err e} p h = err

pub bind : {A B : Type 0} {cs : List ℕ} {at : ℕ} {r : Result (A × Place) TokenFault} {f : A × Place → Result (B × Place) TokenFault} → Moves cs at r → ((x : A × Place) → Moves x.1.chars x.1.at (f x)) → Moves cs at (r >>= f)
bind {r = Ok x} h k = after h.moved (k x)
bind {r = Err e} h k = err

pub either : {X : Type 0} {cs : List ℕ} {at : ℕ} {r q : Result (X × Place) TokenFault} (b : Bool) → Moves cs at r → Moves cs at q → Moves cs at (if b then r else q)
either true h k = h
either false h k = k

pub chosen : {cs : List ℕ} {at : ℕ} (b : Bool) (p q : Place) → Passes cs at p.chars p.at → Passes cs at q.chars q.at → Passes cs at (if b then p else q).chars (if b then p else q).at
chosen true p q h k = h
chosen false p q h k = k

pub past-passes : (p : ℕ → Bool) (cs : List ℕ) (at : ℕ) → Passes cs at (past_from p cs at).chars (past_from p cs at).at
past-passes p [] at = none
past-passes p (c ∷ cs) at = chosen (p c) _ _ (more (past-passes p cs (at + len_utf8 c))) none

pub first-passes : (cs : List ℕ) (at : ℕ) → Passes cs at (behind_first cs at).chars (behind_first cs at).at
first-passes [] at = none
first-passes (c ∷ cs) at = more none

taken : {A : Type 0} {cs : List ℕ} {at : ℕ} (b : Bool) (x y : A × Place) → Passes cs at x.1.chars x.1.at → Passes cs at y.1.chars y.1.at → Passes cs at (if b then x else y).1.chars (if b then x else y).1.at
taken true x y h k = h
taken false x y h k = k

pub eaten-passes : (c : ℕ) (cs : List ℕ) (at : ℕ) → Passes cs at (eaten_from c cs at).1.chars (eaten_from c cs at).1.at
eaten-passes c [] at = none
eaten-passes c (d ∷ ds) at = taken (d == c) _ _ (more none) none

pub digits-passes : (base value : ℕ) (cs : List ℕ) (at : ℕ) → Passes cs at (digits_from base value cs at).1.chars (digits_from base value cs at).1.at
digits-passes base value [] at = none
digits-passes base value (c ∷ cs) at = taken (is_digit_of base c) _ _ (more (digits-passes base (value * base + digit_value c) cs (at + len_utf8 c))) none

value-moves : (v : Option ℕ) (p : Place) (s : ℕ) → Moves p.chars p.at (value_to v p s)
value-moves None p s = err
value-moves (Some v) p s = ok none

number_to-moves : (x : Option ℕ × Place) (s : ℕ) → Moves x.1.chars x.1.at (number_to x s)
number_to-moves x s = either _ (value-moves x.0 x.1 s) err

some_digits-moves : (base : ℕ) (p : Place) (s : ℕ) → Moves p.chars p.at (some_digits base p s)
some_digits-moves base p s = either _ err (after (digits-passes base 0 p.chars p.at) (number_to-moves (digits_at base 0 p) s))

behind_zero-moves : (o : Option ℕ) (p : Place) (s : ℕ) → Moves p.chars p.at (behind_zero o p s)
behind_zero-moves None p s = number_to-moves (Some 0, p) s
behind_zero-moves (Some base) p s = after (first-passes p.chars p.at) (some_digits-moves base (behind_first p.chars p.at) s)

number_from-moves : (o : Option ℕ) (p : Place) (s : ℕ) → Moves p.chars p.at (number_from o p s)
number_from-moves None p s = err
number_from-moves (Some v) p s = either _ (behind_zero-moves _ p s) (after (digits-passes 10 v p.chars p.at) (number_to-moves (digits_at 10 v p) s))

pub number-moves : (c : ℕ) (p : Place) (s : ℕ) → Moves p.chars p.at (number_at c p s)
number-moves c p s = number_from-moves (digit_of 10 c) p s

hex-moves : (cs : List ℕ) (at s : ℕ) → Moves cs at (hex_digit_from cs at s)
hex-moves [] at s = err
hex-moves (c ∷ cs) at s = either _ (ok (more none)) err

two-moves : (p : Place) (s : ℕ) → Moves p.chars p.at (two_digits p s)
two-moves p s = bind (hex-moves p.chars p.at s) (λ a. bind (hex-moves a.1.chars a.1.at s) (λ b. ok none))

four-moves : (p : Place) (s : ℕ) → Moves p.chars p.at (four_digits p s)
four-moves p s = bind (two-moves p s) (λ a. bind (two-moves a.1 s) (λ b. ok none))

closed-moves : (x : Bool × Place) (v s : ℕ) → Moves x.1.chars x.1.at (closed x v s)
closed-moves x v s = either _ (ok none) err

point_to-moves : (o : Option ℕ) (p : Place) (s : ℕ) → Moves p.chars p.at (code_point_to o p s)
point_to-moves None p s = err
point_to-moves (Some v) p s = either _ err (after (eaten-passes 125 p.chars p.at) (closed-moves (eaten 125 p) v s))

point_from-moves : (x : Option ℕ × Place) (from s : ℕ) → Moves x.1.chars x.1.at (code_point_from x from s)
point_from-moves x from s = either _ err (point_to-moves x.0 x.1 s)

point-moves : (p : Place) (s : ℕ) → Moves p.chars p.at (code_point p s)
point-moves p s = after (digits-passes 16 0 p.chars p.at) (point_from-moves (digits_at 16 0 p) p.at s)

unicode_from-moves : (x : Bool × Place) (s : ℕ) → Moves x.1.chars x.1.at (unicode_from x s)
unicode_from-moves x s = either _ (point-moves x.1 s) (four-moves x.1 s)

unicode-moves : (p : Place) (s : ℕ) → Moves p.chars p.at (unicode p s)
unicode-moves p s = bind (after (eaten-passes 123 p.chars p.at) (unicode_from-moves (eaten 123 p) s)) (λ x. ok none)

other-moves : (c : ℕ) (p : Place) (s : ℕ) → Moves p.chars p.at (other_at c p s)
other-moves c p s =
    either (c == 120) (bind (two-moves p s) (λ x. ok {x = (unit x.0, x.1)} none))
    (either (c == 117) (unicode-moves p s)
    (either (c == 48) (either (first_is_digit p.chars) (err {e = faults.BadEscape s}) (ok {x = (escapes.Char 0, p)} none))
    (either (is_digit c) (err {e = faults.BadEscape s})
    (either (c == 13) (ok {x = (escapes.Nothing, (eaten 10 p).1)} (eaten-passes 10 p.chars p.at))
    (either (is_newline c) (ok {x = (escapes.Nothing, p)} none) (ok {x = (escapes.Char c, p)} none))))))

single-moves : (o : Option ℕ) (c : ℕ) (p : Place) (s : ℕ) → Moves p.chars p.at (single_or o c p s)
single-moves None c p s = other-moves c p s
single-moves (Some v) c p s = ok none

pub escape-moves : (cs : List ℕ) (at s : ℕ) → Moves cs at (escape_from cs at s)
escape-moves [] at s = err
escape-moves (c ∷ cs) at s = after (more none) (single-moves (single c) c (behind c cs at) s)

-- the steps of strings and of pieces of templates
half-moves : (high : ℕ) (r : Result (Escaped × Place) TokenFault) (s : ℕ) {cs : List ℕ} {at : ℕ} → Moves cs at r → Moves cs at (second_half high r s)
half-moves high (Ok (escapes.Half low, p)) s h = either (is_high low) err (ok h.moved)
half-moves high (Ok (escapes.Char c, p)) s h = err
half-moves high (Ok (escapes.Nothing, p)) s h = err
half-moves high (Err e) s h = err

pair_from-moves : (high : ℕ) (x : Bool × Place) (s : ℕ) → Moves x.1.chars x.1.at (pair_from high x s)
pair_from-moves high x s = either x.0 (half-moves high (escape_from x.1.chars x.1.at s) s (escape-moves x.1.chars x.1.at s)) err

pair-moves : (half : ℕ) (p : Place) (s : ℕ) → Moves p.chars p.at (pair_at half p s)
pair-moves half p s = either (is_high half) (after (eaten-passes 92 p.chars p.at) (pair_from-moves half (eaten 92 p) s)) err

whole-moves : (x : Escaped × Place) (s : ℕ) → Moves x.1.chars x.1.at (whole x s)
whole-moves (escapes.Char c, p) s = ok none
whole-moves (escapes.Nothing, p) s = ok none
whole-moves (escapes.Half half, p) s = bind (pair-moves half p s) (λ x. ok none)

-- what a step leaves, after its first character
pub string_step-on : (quote c : ℕ) (cs : List ℕ) (at s : ℕ) → Moves cs (at + len_utf8 c) (string_step quote (c ∷ cs) at s)
string_step-on quote c cs at s =
    either (c == quote) (ok {x = (Closed false, behind c cs at)} none)
    (either (is_newline c) (err {e = faults.EndedString s})
    (either (c == 92) (bind (escape-moves cs (at + len_utf8 c) at) (λ x. whole-moves x at))
    (ok {x = (Char c, behind c cs at)} none)))

pub string_step-moves : (quote : ℕ) (cs : List ℕ) (at s : ℕ) → Moves cs at (string_step quote cs at s)
string_step-moves quote [] at s = err
string_step-moves quote (c ∷ cs) at s = after (more none) (string_step-on quote c cs at s)

pub template_step-on : (c : ℕ) (cs : List ℕ) (at s : ℕ) → Moves cs (at + len_utf8 c) (template_step (c ∷ cs) at s)
template_step-on c cs at s =
    either (c == 96) (ok {x = (Closed false, behind c cs at)} none)
    (either (c == 36 && first_is 123 cs) (ok {x = (Closed true, behind_first cs (at + len_utf8 c))} (first-passes cs (at + len_utf8 c)))
    (either (c == 92) (bind (escape-moves cs (at + len_utf8 c) at) (λ x. ok {x = (Nothing, x.1)} none))
    (ok {x = (Nothing, behind c cs at)} none)))

template_step-moves : (cs : List ℕ) (at s : ℕ) → Moves cs at (template_step cs at s)
template_step-moves [] at s = err
template_step-moves (c ∷ cs) at s = after (more none) (template_step-on c cs at s)

on-moves : (next : Place → Result ((List ℕ × Bool) × Place) TokenFault) (x : Step × Place) → ((p : Place) → Moves p.chars p.at (next p)) → Moves x.1.chars x.1.at (steps_on next x)
on-moves next (Closed m, p) h = ok none
on-moves next (Char c, p) h = bind (h p) (λ x. ok none)
on-moves next (Nothing, p) h = h p

pub steps-moves : (step : List ℕ → ℕ → ℕ → Result (Step × Place) TokenFault) (s : ℕ) → ((cs : List ℕ) (at : ℕ) → Moves cs at (step cs at s)) → (n : ℕ) (cs : List ℕ) (at : ℕ) → Moves cs at (steps_from n step cs at s)
steps-moves step s h zero cs at = err
steps-moves step s h (suc n) cs at = bind (h cs at) (λ x. on-moves (λ p. steps_from n step p.chars p.at s) x (λ p. steps-moves step s h n p.chars p.at))

string-moves : (quote : ℕ) (p : Place) (s : ℕ) → Moves p.chars p.at (closing (string_at quote p s))
string-moves quote p s = bind (steps-moves (string_step quote) s (λ cs at. string_step-moves quote cs at s) (suc (length p.chars)) p.chars p.at) (λ x. ok none)

template-moves : (p : Place) (s : ℕ) → Moves p.chars p.at (closing (template_at p s))
template-moves p s = bind (steps-moves template_step s (λ cs at. template_step-moves cs at s) (suc (length p.chars)) p.chars p.at) (λ x. ok none)

-- comments and punctuators
abbrev MovesMaybe : {X : Type 0} → List ℕ → ℕ → Option (X × Place) → Type 0
MovesMaybe cs at None = Unit {0}
MovesMaybe cs at (Some x) = Passes cs at x.1.chars x.1.at

maybe : {X : Type 0} (cs : List ℕ) (at : ℕ) (b : Bool) (r q : Option (X × Place)) → MovesMaybe cs at r → MovesMaybe cs at q → MovesMaybe cs at (if b then r else q)
maybe cs at true r q h k = h
maybe cs at false r q h k = k

maybe_more : {X : Type 0} (c : ℕ) (cs : List ℕ) (at : ℕ) (r : Option (X × Place)) → MovesMaybe cs (at + len_utf8 c) r → MovesMaybe (c ∷ cs) at r
maybe_more c cs at None h = tt
maybe_more c cs at (Some x) h = more h

comment-passes : (newline : Bool) (cs : List ℕ) (at : ℕ) → MovesMaybe cs at (comment_from newline cs at)
comment-passes newline [] at = tt
comment-passes newline (c ∷ cs) at =
    maybe (c ∷ cs) at (c == 42 && first_is 47 cs) (Some (newline, behind_first cs (at + len_utf8 c))) (comment_from (newline || is_newline c) cs (at + len_utf8 c)) (more (first-passes cs (at + len_utf8 c)))
    (maybe_more c cs at (comment_from (newline || is_newline c) cs (at + len_utf8 c)) (comment-passes (newline || is_newline c) cs (at + len_utf8 c)))

comment_to-moves : (o : Option (Bool × Place)) (s : ℕ) (cs : List ℕ) (at : ℕ) → MovesMaybe cs at o → Moves cs at (comment_to o s)
comment_to-moves None s cs at h = err
comment_to-moves (Some x) s cs at h = ok h

skipped-passes : (n : ℕ) (cs : List ℕ) (at : ℕ) → Passes cs at (skipped n cs at).chars (skipped n cs at).at
skipped-passes zero cs at = none
skipped-passes (suc n) [] at = none
skipped-passes (suc n) (c ∷ cs) at = more (skipped-passes n cs (at + len_utf8 c))

mark-moves : (o : Option (List ℕ × Mark)) (p : Place) (s : ℕ) → Moves p.chars p.at (scan.mark_to (mark_to o p) s)
mark-moves None p s = err
mark-moves (Some m) p s = ok (skipped-passes (pred (length m.0)) p.chars p.at)

others-move : (c : ℕ) (p : Place) (s : ℕ) → Moves p.chars p.at (scan.other_at c p s)
others-move c p s =
    either (c == 47 && first_is 47 p.chars) (ok {x = (items.Gap false, past is_in_line p)} (past-passes is_in_line p.chars p.at))
    (either (c == 47 && first_is 42 p.chars) (after (first-passes p.chars p.at) (comment_to-moves (comment_from false (behind_first p.chars p.at).chars (behind_first p.chars p.at).at) s (behind_first p.chars p.at).chars (behind_first p.chars p.at).at (comment-passes false (behind_first p.chars p.at).chars (behind_first p.chars p.at).at)))
    (either (c == 92) (err {e = faults.EscapedName s})
    (mark-moves (mark_among punctuators (c ∷ p.chars)) p s)))

token-moves : (inside : Bool) (c : ℕ) (p : Place) (s : ℕ) → Moves p.chars p.at (scan.token_at inside c p s)
token-moves inside c p s =
    either (scan.begins_number c p.chars) (bind (number-moves c p s) (λ x. ok none))
    (either (c == 34 || c == 39) (bind (string-moves c p s) (λ x. ok none))
    (either (scan.begins_piece inside c) (bind (template-moves p s) (λ x. ok none))
    (others-move c p s)))

-- what stands at a place, behind its first character
pub scan-moves : (inside : Bool) (c : ℕ) (cs : List ℕ) (at : ℕ) → Moves cs (at + len_utf8 c) (scan.scan_at inside (c ∷ cs) at)
scan-moves inside c cs at =
    either (is_space c) (ok {x = (items.Gap false, behind c cs at)} none)
    (either (is_newline c) (ok {x = (items.Gap true, behind c cs at)} none)
    (either (is_start c) (ok {x = (items.Name, past is_part (behind c cs at))} (past-passes is_part cs (at + len_utf8 c)))
    (token-moves inside c (behind c cs at) at)))
