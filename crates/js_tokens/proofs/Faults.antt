-- No fault of the cut of a text is want of memory.
use Rattle.std.proofs.Common.{◌≡◌, ℕ, zero, suc, ◌<◌, Bool, true, false, List, [], ◌∷◌, length, Option, Some, None, Result, Ok, Err, refl, sym, ap, ◌∙◌, subst, arith, if◌then◌else◌}
use Rattle.std.specs.Prelude.{◌+◌, ◌==◌, ◌&&◌}
use Rattle.std.specs.Char.{len_utf8}
use Rattle.js_tokens.specs.Place.{Place, behind, behind_first, eaten, first_is, past, ◌>>=◌}
use Rattle.js_tokens.specs.Classes.{is_newline, is_part, is_space, is_start}
use Rattle.js_tokens.specs.Numbers.{value_to, number_to, digits_at, some_digits, behind_zero, number_from, digit_of}
use Rattle.js_tokens.specs.Escapes.{hex_digit_from, two_digits, four_digits, code_point_to, code_point_from, unicode_from, other_at, single, single_or, escape_from}
use Rattle.js_tokens.specs.Strings.{second_half, pair_at, whole, string_step, template_step, steps_on, steps_from, string_at, template_at, closing}
use Rattle.js_tokens.specs.Marks.{mark_at}
use Rattle.js_tokens.specs.Braces.{is_inside}
use Rattle.js_tokens.specs.Scan as scan
use Rattle.js_tokens.specs.Scan.{comment_from, comment_to, scan_at, token_at}
use Rattle.js_tokens.specs.Cut.{CutFails, here, past_gap, past_name, past_other}
use Rattle.js_tokens.specs.declared.braces.Brace.{Brace}
use Rattle.js_tokens.specs.declared.escapes.Escaped.{Escaped}
use Rattle.js_tokens.specs.declared.escapes.Escaped.TheVariants as escapes
use Rattle.js_tokens.specs.declared.kinds.Mark.{Mark}
use Rattle.js_tokens.specs.declared.kinds.TokenFault.{TokenFault}
use Rattle.js_tokens.specs.declared.kinds.TokenFault.TheVariants as faults
use Rattle.js_tokens.specs.declared.scan.Item.{Item}
use Rattle.js_tokens.specs.declared.scan.Item.TheVariants as items
use Rattle.js_tokens.specs.declared.strings.Step.{Step}
use Rattle.js_tokens.specs.declared.strings.Step.TheVariants as steps
use Rattle.js_tokens.proofs.Passing.{Moves, string_step-on, template_step-on}
use Rattle.js_tokens.proofs.Spans.{shorter}

abbrev is_memory : TokenFault → Bool
is_memory faults.Memory = true
is_memory _ = false

abbrev wants_memory : {X : Type 0} → Result X TokenFault → Bool
wants_memory (Ok x) = false
wants_memory (Err e) = is_memory e

-- what a definition gives is no want of memory
record Free {X : Type 0} (r : Result X TokenFault) : Type 0 where
  free : wants_memory r ≡ false

ok : {X : Type 0} {x : X} → Free {X = X} (Ok x)
ok = record { free = refl }

err : {X : Type 0} {e : TokenFault} → is_memory e ≡ false → Free {X = X} (Err e)
err h = record { free = h }

bind_is : {A B : Type 0} (r : Result A TokenFault) {f : A → Result B TokenFault} → Free r → ((x : A) → r ≡ Ok x → Free (f x)) → Free (r >>= f)
bind_is (Ok x) h k = k x refl
bind_is (Err e) h k = err h.free

bind : {A B : Type 0} {r : Result A TokenFault} {f : A → Result B TokenFault} → Free r → ((x : A) → Free (f x)) → Free (r >>= f)
bind {r = r} h k = bind_is r h (λ x e. k x)

either : {X : Type 0} {r q : Result X TokenFault} (b : Bool) → Free r → Free q → Free (if b then r else q)
either true h k = h
either false h k = k

-- numbers
value-free : (v : Option ℕ) (p : Place) (s : ℕ) → Free (value_to v p s)
value-free None p s = err refl
value-free (Some v) p s = ok

number_to-free : (x : Option ℕ × Place) (s : ℕ) → Free (number_to x s)
number_to-free x s = either _ (value-free x.0 x.1 s) (err refl)

some_digits-free : (base : ℕ) (p : Place) (s : ℕ) → Free (some_digits base p s)
some_digits-free base p s = either _ (err refl) (number_to-free (digits_at base 0 p) s)

behind_zero-free : (o : Option ℕ) (p : Place) (s : ℕ) → Free (behind_zero o p s)
behind_zero-free None p s = number_to-free (Some 0, p) s
behind_zero-free (Some base) p s = some_digits-free base (behind_first p.chars p.at) s

number_from-free : (o : Option ℕ) (p : Place) (s : ℕ) → Free (number_from o p s)
number_from-free None p s = err refl
number_from-free (Some v) p s = either _ (behind_zero-free _ p s) (number_to-free (digits_at 10 v p) s)

-- escapes
hex-free : (cs : List ℕ) (at s : ℕ) → Free (hex_digit_from cs at s)
hex-free [] at s = err refl
hex-free (c ∷ cs) at s = either _ ok (err refl)

two-free : (p : Place) (s : ℕ) → Free (two_digits p s)
two-free p s = bind (hex-free p.chars p.at s) (λ a. bind (hex-free a.1.chars a.1.at s) (λ b. ok))

four-free : (p : Place) (s : ℕ) → Free (four_digits p s)
four-free p s = bind (two-free p s) (λ a. bind (two-free a.1 s) (λ b. ok))

point_to-free : (o : Option ℕ) (p : Place) (s : ℕ) → Free (code_point_to o p s)
point_to-free None p s = err refl
point_to-free (Some v) p s = either _ (err refl) (either _ ok (err refl))

point_from-free : (x : Option ℕ × Place) (from s : ℕ) → Free (code_point_from x from s)
point_from-free x from s = either _ (err refl) (point_to-free x.0 x.1 s)

unicode_from-free : (x : Bool × Place) (s : ℕ) → Free (unicode_from x s)
unicode_from-free x s = either _ (point_from-free (digits_at 16 0 x.1) x.1.at s) (four-free x.1 s)

other-free : (c : ℕ) (p : Place) (s : ℕ) → Free (other_at c p s)
other-free c p s =
    either (c == 120) (bind (two-free p s) (λ x. ok))
    (either (c == 117) (bind (unicode_from-free (eaten 123 p) s) (λ x. ok))
    (either (c == 48) (either _ (err refl) ok)
    (either _ (err refl)
    (either (c == 13) (ok {x = (escapes.Nothing, (eaten 10 p).1)})
    (either (is_newline c) (ok {x = (escapes.Nothing, p)}) (ok {x = (escapes.Char c, p)}))))))

single-free : (o : Option ℕ) (c : ℕ) (p : Place) (s : ℕ) → Free (single_or o c p s)
single-free None c p s = other-free c p s
single-free (Some v) c p s = ok

escape-free : (cs : List ℕ) (at s : ℕ) → Free (escape_from cs at s)
escape-free [] at s = err refl
escape-free (c ∷ cs) at s = single-free (single c) c (behind c cs at) s

-- the steps of strings and of pieces of templates
half-free : (high : ℕ) (r : Result (Escaped × Place) TokenFault) (s : ℕ) → Free (second_half high r s)
half-free high (Ok (escapes.Half low, p)) s = either _ (err refl) ok
half-free high (Ok (escapes.Char c, p)) s = err refl
half-free high (Ok (escapes.Nothing, p)) s = err refl
half-free high (Err e) s = err refl

pair-free : (half : ℕ) (p : Place) (s : ℕ) → Free (pair_at half p s)
pair-free half p s = either _ (either _ (half-free half (escape_from (eaten 92 p).1.chars (eaten 92 p).1.at s) s) (err refl)) (err refl)

whole-free : (x : Escaped × Place) (s : ℕ) → Free (whole x s)
whole-free (escapes.Char c, p) s = ok
whole-free (escapes.Nothing, p) s = ok
whole-free (escapes.Half half, p) s = bind (pair-free half p s) (λ x. ok)

string_step-free : (quote : ℕ) (cs : List ℕ) (at s : ℕ) → Free (string_step quote cs at s)
string_step-free quote [] at s = err refl
string_step-free quote (c ∷ cs) at s =
    either _ ok
    (either _ (err refl)
    (either _ (bind (escape-free cs (at + len_utf8 c) at) (λ x. whole-free x at))
    ok))

template_step-free : (cs : List ℕ) (at s : ℕ) → Free (template_step cs at s)
template_step-free [] at s = err refl
template_step-free (c ∷ cs) at s =
    either (c == 96) (ok {x = (steps.Closed false, behind c cs at)})
    (either (c == 36 && first_is 123 cs) (ok {x = (steps.Closed true, behind_first cs (at + len_utf8 c))})
    (either (c == 92) (bind (escape-free cs (at + len_utf8 c) at) (λ x. ok {x = (steps.Nothing, x.1)}))
    (ok {x = (steps.Nothing, behind c cs at)})))

-- a step takes a character, so the steps end within the characters that are left
abbrev Shortens : (List ℕ → ℕ → ℕ → Result (Step × Place) TokenFault) → ℕ → Type 0
Shortens step s = (cs : List ℕ) (at : ℕ) (x : Step × Place) → step cs at s ≡ Ok x → length x.1.chars < length cs

shortens : {X : Type 0} (c : ℕ) (cs : List ℕ) (at : ℕ) (r : Result (X × Place) TokenFault) (x : X × Place) → Moves cs at r → r ≡ Ok x → length x.1.chars < length (c ∷ cs)
shortens c cs at r x m e = omega (arith, shorter (subst (λ r. Moves cs at r) e m).moved)

string_step-shortens : (quote s : ℕ) → Shortens (string_step quote) s
string_step-shortens quote s [] at x e = cc
string_step-shortens quote s (c ∷ cs) at x e = shortens c cs (at + len_utf8 c) (string_step quote (c ∷ cs) at s) x (string_step-on quote c cs at s) e

template_step-shortens : (s : ℕ) → Shortens template_step s
template_step-shortens s [] at x e = cc
template_step-shortens s (c ∷ cs) at x e = shortens c cs (at + len_utf8 c) (template_step (c ∷ cs) at s) x (template_step-on c cs at s) e

on-free : (next : Place → Result ((List ℕ × Bool) × Place) TokenFault) (x : Step × Place) → Free (next x.1) → Free (steps_on next x)
on-free next (steps.Closed m, p) h = ok
on-free next (steps.Char c, p) h = bind h (λ x. ok)
on-free next (steps.Nothing, p) h = h

steps-free : (step : List ℕ → ℕ → ℕ → Result (Step × Place) TokenFault) (s : ℕ) → ((cs : List ℕ) (at : ℕ) → Free (step cs at s)) → Shortens step s → (n : ℕ) (cs : List ℕ) (at : ℕ) → length cs < n → Free (steps_from n step cs at s)
steps-free step s h k zero cs at below = absurd (omega (arith, below))
steps-free step s h k (suc n) cs at below =
    bind_is (step cs at s) (h cs at) (λ x e. on-free (λ p. steps_from n step p.chars p.at s) x (steps-free step s h k n x.1.chars x.1.at (omega (arith, below, k cs at x e))))

string-free : (quote : ℕ) (p : Place) (s : ℕ) → Free (closing (string_at quote p s))
string-free quote p s = bind (steps-free (string_step quote) s (λ cs at. string_step-free quote cs at s) (string_step-shortens quote s) (suc (length p.chars)) p.chars p.at (omega arith)) (λ x. ok)

template-free : (p : Place) (s : ℕ) → Free (closing (template_at p s))
template-free p s = bind (steps-free template_step s (λ cs at. template_step-free cs at s) (template_step-shortens s) (suc (length p.chars)) p.chars p.at (omega arith)) (λ x. ok)

-- what stands at a place
comment-free : (o : Option (Bool × Place)) (s : ℕ) → Free (comment_to o s)
comment-free None s = err refl
comment-free (Some x) s = ok

mark-free : (o : Option (Mark × Place)) (s : ℕ) → Free (scan.mark_to o s)
mark-free None s = err refl
mark-free (Some x) s = ok

token-free : (inside : Bool) (c : ℕ) (p : Place) (s : ℕ) → Free (token_at inside c p s)
token-free inside c p s =
    either _ (bind (number_from-free (digit_of 10 c) p s) (λ x. ok))
    (either _ (bind (string-free c p s) (λ x. ok))
    (either _ (bind (template-free p s) (λ x. ok))
    (either _ ok
    (either _ (comment-free (comment_from false (behind_first p.chars p.at).chars (behind_first p.chars p.at).at) s)
    (either _ (err refl)
    (mark-free (mark_at c p) s))))))

scan-free : (inside : Bool) (cs : List ℕ) (at : ℕ) → Free (scan_at inside cs at)
scan-free inside [] at = ok
scan-free inside (c ∷ cs) at =
    either (is_space c) (ok {x = (items.Gap false, behind c cs at)})
    (either (is_newline c) (ok {x = (items.Gap true, behind c cs at)})
    (either (is_start c) (ok {x = (items.Name, past is_part (behind c cs at))})
    (token-free inside c (behind c cs at) at)))

not_memory : (r : Result (Item × Place) TokenFault) (f : TokenFault) → Free r → r ≡ Err f → f ≡ faults.Memory → ⊥
not_memory r f h e is = let k : true ≡ false = sym (ap wants_memory (e ∙ ap Err is)) ∙ h.free in cc

pub no_memory : {bs : List Brace} {cs : List ℕ} {at : ℕ} {f : TokenFault} → CutFails bs cs at f → f ≡ faults.Memory → ⊥
no_memory {bs} {cs} {at} {f} (here e) is = not_memory (scan_at (is_inside bs) cs at) f (scan-free (is_inside bs) cs at) e is
no_memory (past_gap e rest) is = no_memory rest is
no_memory (past_name e rest) is = no_memory rest is
no_memory (past_other e rest) is = no_memory rest is
