-- Entries differ nowhere from themselves, where none comes twice.
use Rattle.std.proofs.Common.{ℕ, List, [], ◌∷◌, ◌≡◌, Bool, true, false, refl, ◌&&◌, ◌||◌, not, nat_eq, None, arith}
use Rattle.std.proofs.lemmas.Bool.Decides.{nat_tests}
use Rattle.std.specs.List.{list_all}
use Rattle.bast_schema.proofs.Both.{and_first, and_second}
use Rattle.scope_check.specs.declared.entries.Key.{Key}
use Rattle.scope_check.specs.Entries.{same, is_among, first_extra, first_missing, differing}

-- whether no key was seen before, or comes again
abbrev pub apart : (Key → Bool) → List Key → Bool
apart seen [] = true
apart seen (a ∷ ks) = not (seen a) && apart (λ b. same b a || seen b) ks

nat_same : (n : ℕ) → nat_eq n n ≡ true
nat_same n = grind (arith, nat_tests)

key_same : (a : Key) → same a a ≡ true
key_same a = rw (nat_same a.sort, nat_same a.name, nat_same a.number) refl

both : (a b : Bool) → a ≡ true → b ≡ true → (a && b) ≡ true
both a b e f = rw (e, f) refl

pub or_right : (a b : Bool) → b ≡ true → (a || b) ≡ true
or_right true b e = refl
or_right false b e = e

all_weaker : (p q : Key → Bool) (ks : List Key) → ((a : Key) → p a ≡ true → q a ≡ true) → list_all p ks ≡ true → list_all q ks ≡ true
all_weaker p q [] h e = refl
all_weaker p q (a ∷ ks) h e = both (q a) (list_all q ks) (h a (and_first (p a) (list_all p ks) e)) (all_weaker p q ks h (and_second (p a) (list_all p ks) e))

among_themselves : (ks : List Key) → list_all (is_among ks) ks ≡ true
among_themselves [] = refl
among_themselves (a ∷ ks) = rw (key_same a) (all_weaker (is_among ks) (is_among (a ∷ ks)) ks (λ b. or_right (same b a) (is_among ks b)) (among_themselves ks))

is_not : (a : Bool) → not a ≡ true → a ≡ false
is_not true e = cc
is_not false e = refl

no_extra : (wanted seen : Key → Bool) (ks : List Key) → list_all wanted ks ≡ true → apart seen ks ≡ true → first_extra wanted seen ks ≡ None
no_extra wanted seen [] h g = refl
no_extra wanted seen (a ∷ ks) h g = rw (and_first (wanted a) (list_all wanted ks) h, is_not (seen a) (and_first (not (seen a)) (apart (λ b. same b a || seen b) ks) g))
    (no_extra wanted (λ b. same b a || seen b) ks (and_second (wanted a) (list_all wanted ks) h) (and_second (not (seen a)) (apart (λ b. same b a || seen b) ks) g))

no_missing : (there : Key → Bool) (ks : List Key) → list_all there ks ≡ true → first_missing there ks ≡ None
no_missing there [] h = refl
no_missing there (a ∷ ks) h = rw (and_first (there a) (list_all there ks) h) (no_missing there ks (and_second (there a) (list_all there ks) h))

pub differ_nowhere : (ks : List Key) → apart (λ a. false) ks ≡ true → differing ks ks ≡ None
differ_nowhere ks h = rw (no_extra (is_among ks) (λ a. false) ks (among_themselves ks) h, no_missing (is_among ks) ks (among_themselves ks)) refl
