-- Covers that are kept and put back, where entries cover names one after the other and a test says whether an entry is of
-- the name.
use Rattle.std.proofs.Common.{arith, ℕ, List, [], ◌∷◌, ◌++◌, ◌≡◌, ◌<◌, ◌+◌, Bool, true, false, refl, ap, sym, ◌||◌, nat_eq, if◌then◌else◌, Option, ◌∙◌, take, length, get_or, set}
use Rattle.std.specs.List.{list_any}
use Rattle.std.proofs.lemmas.List.{take_more}
use Rattle.std.proofs.lemmas.List.Folds.{list_any_more}
use Rattle.std.proofs.lemmas.Grind.{common_steps}
use Rattle.std.proofs.lemmas.Bool.Decides.{nat_tests}
use Rattle.scope_facts.specs.Covers.{restored, has_name, shadows_among, cover_of}
use Rattle.scope_facts.specs.declared.covers.Cover.{Cover}
use Rattle.scope_facts.specs.declared.covers.Shadow.{Shadow}

pub put_there : (cs : List (Option Cover)) (n x : ℕ) (v : Option Cover) → n < length cs → cover_of (set cs n v) x ≡ (if nat_eq n x then v else cover_of cs x)
put_there cs n x v h = grind (arith, nat_tests, common_steps)

pub restored_last : (xs : List Shadow) (b : Shadow) (x : ℕ) (o : Option Cover) → restored (xs ++ b ∷ []) x o ≡ restored xs x (if nat_eq b.name x then b.cover else o)
restored_last [] b x o = refl
restored_last (a ∷ xs) b x o = ap (λ y. if nat_eq a.name x then a.cover else y) (restored_last xs b x o)

entered : (a b : Bool) (o p q : Option Cover) → q ≡ (if a then o else p) → (if b then o else q) ≡ (if a || b then o else p)
entered true true o p q e = refl
entered true false o p q e = e
entered false true o p q e = refl
entered false false o p q e = e

-- one more entry of a scope
pub cover_entered : {A : Type 0} (is : A → Bool) (es : List A) (i : ℕ) (d : A) (o p q r : Option Cover) → i < length es → q ≡ (if list_any is (take i es) then o else p) → r ≡ (if is (get_or es i d) then o else q)
    → r ≡ (if list_any is (take (i + 1) es) then o else p)
cover_entered is es i d o p q r h e f = f ∙ entered (list_any is (take i es)) (is (get_or es i d)) o p q e ∙ ap (λ b. if b then o else p) (sym (list_any_more is es i d h))

either : (a b : Bool) (p o : Option Cover) → (if a then p else (if b then p else o)) ≡ (if a || b then p else o)
either true b p o = refl
either false b p o = refl

same_cover : (n x : ℕ) (b : Bool) (f : ℕ → Option Cover) → nat_eq n x ≡ b → (p o : Option Cover) → f x ≡ p → (if b then f n else o) ≡ (if b then p else o)
same_cover n x true f e p o g = let s : n ≡ x = grind arith in ap f s ∙ g
same_cover n x false f e p o g = refl

-- what is kept of names, put back
pub restored_among : (f : ℕ → Option Cover) (ns : List ℕ) (x : ℕ) (o : Option Cover) → restored (shadows_among f ns) x o ≡ (if has_name x ns then f x else o)
restored_among f [] x o = refl
restored_among f (n ∷ ns) x o = same_cover n x (nat_eq n x) f refl (f x) (restored (shadows_among f ns) x o) refl
    ∙ ap (λ y. if nat_eq n x then f x else y) (restored_among f ns x o) ∙ either (nat_eq n x) (has_name x ns) (f x) o

pub named_among : (f : ℕ → Option Cover) (ns : List ℕ) (x : ℕ) → list_any (λ s. nat_eq s.name x) (shadows_among f ns) ≡ has_name x ns
named_among f [] x = refl
named_among f (n ∷ ns) x = ap (λ b. nat_eq n x || b) (named_among f ns x)

shadows_last : (f : ℕ → Option Cover) (ns : List ℕ) (n : ℕ) → shadows_among f (ns ++ n ∷ []) ≡ shadows_among f ns ++ record { name = n; cover = f n } ∷ []
shadows_last f [] n = refl
shadows_last f (m ∷ ns) n = ap (λ ss. record { name = m; cover = f m } ∷ ss) (shadows_last f ns n)

pub shadows_more : (f : ℕ → Option Cover) (ns : List ℕ) (i : ℕ) (ss ts : List Shadow) (o : Option Cover) → i < length ns → ts ≡ ss ++ record { name = get_or ns i 0; cover = o } ∷ [] → o ≡ f (get_or ns i 0)
    → ss ≡ shadows_among f (take i ns) → ts ≡ shadows_among f (take (i + 1) ns)
shadows_more f ns i ss ts o h e g r = rw (take_more ns i 0 h, shadows_last f (take i ns) (get_or ns i 0), ← r, ← g) e
