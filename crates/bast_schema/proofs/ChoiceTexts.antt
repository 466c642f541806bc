-- A choice and its text give each other.
use Rattle.std.proofs.Common.{ℕ, List, [], ◌∷◌, ◌≡◌, ◌+◌, Bool, true, false, refl, ap, ◌∙◌, Option, None, Some, eqb, ◌&&◌, zero, suc, arith}
use Rattle.std.specs.List.{slice_get}
use Rattle.std.specs.Str.{bytes_eq}
use Rattle.std.proofs.lemmas.Bool.{eqb-true}
use Rattle.std.proofs.lemmas.Slice.Eq.{bytes_eq-Decides}
use Rattle.bast_schema.specs.declared.kind.EnumId.{EnumId}
use Rattle.bast_schema.specs.declared.kind.EnumId.TheVariants.{DeclaredKind, LexicalKind, ForKind, UnaryOperator, UpdateOperator, BinaryOperator, CompoundOperator}
use Rattle.bast_schema.specs.Choices.{choice_texts, choice_of_text}
use Rattle.bast_schema.proofs.Places.{position_passes}
use Rattle.bast_schema.proofs.Both.{and_first, and_second}

abbrev is_at : Option ℕ → ℕ → Bool
is_at None i = false
is_at (Some n) i = eqb n i

is_at_true : (o : Option ℕ) (i : ℕ) → is_at o i ≡ true → o ≡ Some i
is_at_true None i h = cc
is_at_true (Some n) i h = ap Some (eqb-true n i h)

-- whether the texts are those of the choices from i on
abbrev found_in : EnumId → ℕ → List (List ℕ) → Bool
found_in e i [] = true
found_in e i (t ∷ ts) = is_at (choice_of_text e t) i && found_in e (suc i) ts

all_found : (e : EnumId) → found_in e 0 (choice_texts e) ≡ true
all_found DeclaredKind = refl
all_found _ = refl

found_at : (e : EnumId) (i : ℕ) (ts : List (List ℕ)) (n : ℕ) (t : List ℕ) → found_in e i ts ≡ true → slice_get ts n ≡ Some t → choice_of_text e t ≡ Some (i + n)
found_at e i [] n t h is = cc
found_at e i (s ∷ ts) zero t h is =
    let same : t ≡ s = cc
    in let sum : i ≡ i + 0 = omega arith
    in ap (choice_of_text e) same ∙ is_at_true (choice_of_text e s) i (and_first (is_at (choice_of_text e s) i) (found_in e (suc i) ts) h) ∙ ap Some sum
found_at e i (s ∷ ts) (suc n) t h is =
    let sum : suc i + n ≡ i + suc n = omega arith
    in found_at e (suc i) ts n t (and_second (is_at (choice_of_text e s) i) (found_in e (suc i) ts) h) is ∙ ap Some sum

-- a choice is found by its text
pub choice_of_its_text : (e : EnumId) (n : ℕ) (t : List ℕ) → slice_get (choice_texts e) n ≡ Some t → choice_of_text e t ≡ Some n
choice_of_its_text e n t is = let sum : 0 + n ≡ n = omega arith in found_at e 0 (choice_texts e) n t (all_found e) is ∙ ap Some sum

-- and the choice that is found has it
pub text_of_choice : (e : EnumId) (t : List ℕ) (n : ℕ) → choice_of_text e t ≡ Some n → slice_get (choice_texts e) n ≡ Some t
text_of_choice e t n h =
    let sum : n ≡ 0 + n = omega arith
    in let found = position_passes (λ c. bytes_eq c t) 0 n (choice_texts e) (h ∙ ap Some sum)
    in found.1 ∙ ap Some ((bytes_eq-Decides found.0 t).0 found.2)
