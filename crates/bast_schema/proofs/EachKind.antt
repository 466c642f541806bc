-- What the table of kinds says of names and numbers, entry by entry.
use Rattle.std.proofs.Common.{ℕ, List, [], ◌∷◌, ◌≡◌, ◌<◌, ◌+◌, Bool, true, refl, ap, sym, ◌∙◌, Some, eqb, ◌&&◌, zero, suc, lit<, arith, length, not, ◌||◌, take, codes}
use Rattle.std.specs.List.{slice_get}
use Rattle.std.specs.Str.{bytes_eq}
use Rattle.std.proofs.lemmas.Bool.{eqb-true}
use Rattle.std.proofs.lemmas.Bool.Decides.{nat_tests}
use Rattle.std.proofs.lemmas.Slice.Eq.{bytes_eq-Decides}
use Rattle.bast_schema.specs.declared.kind.Kind.{Kind}
use Rattle.bast_schema.specs.declared.kind.Kind.TheVariants.{Null}
use Rattle.bast_schema.specs.Kinds.{kind_name, kinds, number, same_kind, kind_of_name, counted}
use Rattle.bast_schema.specs.Fields.{fields, field_names}
use Rattle.bast_schema.proofs.Both.{and_first, and_second}
use Rattle.bast_schema.proofs.Places.{found_passes}

pub number_less : (k : Kind) → number k < 82
number_less Null = lit< tt
number_less _ = lit< tt

-- a kind stands at its number
pub kind_at_number : (k : Kind) → slice_get kinds (number k) ≡ Some k
kind_at_number Null = refl
kind_at_number _ = refl

pub number_apart : (j k : Kind) → number j ≡ number k → j ≡ k
number_apart j k e = let found : Some j ≡ Some k = sym (kind_at_number j) ∙ ap (slice_get kinds) e ∙ kind_at_number k in cc

pub same_kind_true : (j k : Kind) → same_kind j k ≡ true → j ≡ k
same_kind_true j k e = number_apart j k (eqb-true (number j) (number k) e)

pub same_number : (n : ℕ) → eqb n n ≡ true
same_number n = grind (arith, nat_tests)

pub same_kind_self : (k : Kind) → same_kind k k ≡ true
same_kind_self k = same_number (number k)

-- whether the kinds of a list have the numbers from i on
abbrev ordered : ℕ → List Kind → Bool
ordered i [] = true
ordered i (k ∷ ks) = eqb (number k) i && ordered (suc i) ks

kinds_ordered : ordered 0 kinds ≡ true
kinds_ordered = refl

ordered_at : (i : ℕ) (ks : List Kind) (n : ℕ) (k : Kind) → ordered i ks ≡ true → slice_get ks n ≡ Some k → number k ≡ i + n
ordered_at i [] n k h e = cc
ordered_at i (j ∷ ks) zero k h e =
    let same : number j ≡ i = eqb-true (number j) i (and_first (eqb (number j) i) (ordered (suc i) ks) h)
    in let is : j ≡ k = cc
    in let numbers : number j ≡ number k = ap number is
    in omega arith
ordered_at i (j ∷ ks) (suc n) k h e =
    let rest : number k ≡ suc i + n = ordered_at (suc i) ks n k (and_second (eqb (number j) i) (ordered (suc i) ks) h) e
    in omega arith

-- the kind at a place has it for a number
pub number_at : (n : ℕ) (k : Kind) → slice_get kinds n ≡ Some k → number k ≡ n
number_at n k e = let h : number k ≡ 0 + n = ordered_at 0 kinds n k kinds_ordered e in omega arith

-- a kind is found by its name
pub kind_of_its_name : (k : Kind) → kind_of_name (kind_name k) ≡ Some k
kind_of_its_name Null = refl
kind_of_its_name _ = refl

pub kind_name_apart : (j k : Kind) → kind_name j ≡ kind_name k → j ≡ k
kind_name_apart j k e = let found : Some j ≡ Some k = sym (kind_of_its_name j) ∙ ap kind_of_name e ∙ kind_of_its_name k in cc

-- the kind that is found by a name has it
pub name_of_found : (n : List ℕ) (k : Kind) → kind_of_name n ≡ Some k → kind_name k ≡ n
name_of_found n k e = (bytes_eq-Decides (kind_name k) n).0 (found_passes (λ j. bytes_eq (kind_name j) n) kinds k e)

-- each field has a name
pub names_as_many : (k : Kind) → length (field_names k) ≡ length (fields k)
names_as_many Null = refl
names_as_many _ = refl

pub fields_few : (k : Kind) → length (fields k) < 6
fields_few Null = lit< tt
fields_few _ = lit< tt

-- the kinds that do not count are that of an absent node and those of scopes and what they declare
pub counted_by_name : (k : Kind) → counted k ≡ not (bytes_eq (kind_name k) (codes "_Null") || bytes_eq (take 8 (kind_name k)) (codes "Asserted"))
counted_by_name Null = refl
counted_by_name _ = refl
