-- A string form has no byte U+000A.
use Rattle.std.proofs.Common.{ℕ, List, [], ◌∷◌, ◌++◌, ◌≡◌, ◌≢◌, ◌<◌, ◌≤◌, zero, suc, get_or, refl, sym, arith, Bool, true, false, not, ◌==◌, if◌then◌else◌, codes, inl, inr, flat_map}
use Rattle.std.specs.Char.{encode_utf8}
use Rattle.std.specs.List.{All, list_all}
use Rattle.std.specs.Str.{chars}
use Rattle.std.proofs.lemmas.Bool.{cases_lt}
use Rattle.std.proofs.lemmas.Bool.Decides.{nat_tests}
use Rattle.std.proofs.lemmas.Grind.{get_or_default_zero}
use Rattle.std.proofs.lemmas.List.Elements.{All-append}
use Rattle.std.proofs.lemmas.Str.{encode_ascii, inside_one}
use Rattle.std.proofs.Common.{append-nil}
use Rattle.bast_schema.proofs.Both.{and_first, and_second}
use Rattle.js_printer.specs.StringForm.{escaped, string_form}

differs : (x : ℕ) → not (x == 10) ≡ true → x ≢ 10
differs x h = grind (arith, nat_tests)

same : (x y : ℕ) → (x == y) ≡ false → x ≢ y
same x y h = grind (arith, nat_tests)

-- each byte differs where the test passes
line_by_test : (xs : List ℕ) → list_all (λ b. not (b == 10)) xs ≡ true → All (λ b. b ≢ 10) xs
line_by_test [] h k d below = absurd (omega arith)
line_by_test (x ∷ xs) h zero d below = differs x (and_first (not (x == 10)) (list_all (λ b. not (b == 10)) xs) h)
line_by_test (x ∷ xs) h (suc k) d below = line_by_test xs (and_second (not (x == 10)) (list_all (λ b. not (b == 10)) xs) h) k d (omega arith)

line_one : (c : ℕ) → c ≢ 10 → All (λ b. b ≢ 10) (c ∷ [])
line_one c h zero d below = h
line_one c h (suc k) d below = absurd (omega arith)

line_high : (c : ℕ) → 128 ≤ c → All (λ b. b ≢ 10) (encode_utf8 c)
line_high c high k d below e =
    let zero_default = get_or_default_zero (encode_utf8 c) k d below
    in let read : get_or (encode_utf8 c) k 0 < 128 = omega arith
    in let is = inside_one c [] (encode_utf8 c) k (sym (append-nil (encode_utf8 c))) below read
    in omega arith

line_encoded : (c : ℕ) → c ≢ 10 → All (λ b. b ≢ 10) (encode_utf8 c)
line_encoded c h = elim (cases_lt c 128) [
  | inl low ↦ rw (encode_ascii c low) (line_one c h)
  | inr high ↦ line_high c high
]

line_if : (b : Bool) (xs ys : List ℕ) → All (λ x. x ≢ 10) xs → (b ≡ false → All (λ x. x ≢ 10) ys) → All (λ x. x ≢ 10) (if b then xs else ys)
line_if true xs ys p q = p
line_if false xs ys p q = q refl

line_escaped : (c : ℕ) → All (λ b. b ≢ 10) (escaped c)
line_escaped c =
    line_if (c == 0x22) (codes "\\\"") _ (line_by_test (codes "\\\"") refl) (λ _.
    line_if (c == 0x5C) (codes "\\\\") _ (line_by_test (codes "\\\\") refl) (λ _.
    line_if (c == 0x0A) (codes "\\n") _ (line_by_test (codes "\\n") refl) (λ h.
    line_if (c == 0x0D) (codes "\\r") _ (line_by_test (codes "\\r") refl) (λ _.
    line_if (c == 0x2028) (codes "\\u2028") _ (line_by_test (codes "\\u2028") refl) (λ _.
    line_if (c == 0x2029) (codes "\\u2029") _ (line_by_test (codes "\\u2029") refl) (λ _.
    line_encoded c (same c 10 h)))))))

line_all : (cs : List ℕ) → All (λ b. b ≢ 10) (flat_map escaped cs)
line_all [] = line_by_test [] refl
line_all (c ∷ cs) = All-append (λ b. b ≢ 10) (escaped c) (flat_map escaped cs) (line_escaped c) (line_all cs)

pub form_line : (text : List ℕ) → All (λ b. b ≢ 10) (string_form text)
form_line text =
    All-append (λ b. b ≢ 10) (codes "\"" ++ flat_map escaped (chars text)) (codes "\"")
    (All-append (λ b. b ≢ 10) (codes "\"") (flat_map escaped (chars text)) (line_by_test (codes "\"") refl) (line_all (chars text)))
    (line_by_test (codes "\"") refl)
