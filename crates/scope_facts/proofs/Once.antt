-- Lists of declared names without repeats.
use Rattle.std.proofs.Common.{ℕ, List, [], ◌∷◌, ◌++◌, ◌≡◌, Bool, true, false, refl, ap, sym, ◌&&◌, ◌||◌, nat_eq, if◌then◌else◌, ◌∙◌, append_assoc}
use Rattle.std.specs.List.{list_any}
use Rattle.scope_facts.specs.declared.names.Declared.{Declared}
use lib.Dec.{eqb}
use denote.Enum.Bare.{sameb}
use Rattle.std.proofs.Common.{arith}
use Rattle.scope_facts.specs.contracts.names.NameKind.{the_type}
use Rattle.scope_facts.specs.declared.names.NameKind.{NameKind}
use Rattle.scope_facts.specs.declared.names.NameKind.TheVariants.{Var, Lexical, Constant}
use Rattle.scope_facts.specs.Names.{same, once, kind_choice}

or_same : (a b c : Bool) → b ≡ c → (a || b) ≡ (a || c)
or_same a b c e = ap (λ x. a || x) e

same_step : (a : Declared) (b c : Bool) (xs ys vs ws : List Declared) → b ≡ c → xs ≡ ys → vs ≡ ws → (if b then xs else vs) ≡ (if c then ys else ws)
same_step a b c xs ys vs ws e f g = rw (e, f, g) refl

-- what counts as earlier counts by its members alone
pub once_same : (xs s t : List Declared) → ((a : Declared) → list_any (same a) s ≡ list_any (same a) t) → once s xs ≡ once t xs
once_same [] s t h = refl
once_same (a ∷ xs) s t h = same_step a (list_any (same a) s) (list_any (same a) t) (once s xs) (once t xs) (a ∷ once (a ∷ s) xs) (a ∷ once (a ∷ t) xs) (h a) (once_same xs s t h)
    (ap (λ r. a ∷ r) (once_same xs (a ∷ s) (a ∷ t) (λ b. or_same (same b a) (list_any (same b) s) (list_any (same b) t) (h b))))

swap_or : (a b c : Bool) → (a || (b || c)) ≡ (b || (a || c))
swap_or true true c = refl
swap_or true false c = refl
swap_or false true c = refl
swap_or false false c = refl

any_last : (a b : Declared) (s : List Declared) → list_any (same b) (a ∷ s) ≡ list_any (same b) (s ++ a ∷ [])
any_last a b [] = refl
any_last a b (c ∷ s) = swap_or (same b a) (same b c) (list_any (same b) s) ∙ ap (λ x. same b c || x) (any_last a b s)

-- one more name, which is new
pub once_new : (a : Declared) (xs out : List Declared) → list_any (same a) out ≡ false → out ++ once out (a ∷ xs) ≡ (out ++ a ∷ []) ++ once (out ++ a ∷ []) xs
once_new a xs out e =
    let f : once (a ∷ out) xs ≡ once (out ++ a ∷ []) xs = once_same xs (a ∷ out) (out ++ a ∷ []) (λ b. any_last a b out)
    in ap (λ b. out ++ (if b then once out xs else a ∷ once (a ∷ out) xs)) e ∙ ap (λ r. out ++ a ∷ r) f ∙ sym (append_assoc out (a ∷ []) (once (out ++ a ∷ []) xs))

kinds_same : (j k : NameKind) → sameb the_type j k ≡ nat_eq (kind_choice j) (kind_choice k)
kinds_same Var Var = refl
kinds_same Var Lexical = refl
kinds_same Var Constant = refl
kinds_same Lexical Var = refl
kinds_same Lexical Lexical = refl
kinds_same Lexical Constant = refl
kinds_same Constant Var = refl
kinds_same Constant Lexical = refl
kinds_same Constant Constant = refl

-- the test of equality of the code is that of the definition
pub equal_is : (a b : Declared) → (eqb a.name b.name && sameb the_type a.kind b.kind) ≡ same a b
equal_is a b = ap (λ x. eqb a.name b.name && x) (kinds_same a.kind b.kind)

pub member_is : (a : Declared) (xs : List Declared) → list_any (λ b. eqb a.name b.name && sameb the_type a.kind b.kind) xs ≡ list_any (same a) xs
member_is a [] = refl
member_is a (x ∷ xs) = rw (equal_is a x, member_is a xs) refl

choices_sym : (j k : NameKind) → nat_eq (kind_choice j) (kind_choice k) ≡ nat_eq (kind_choice k) (kind_choice j)
choices_sym Var Var = refl
choices_sym Var Lexical = refl
choices_sym Var Constant = refl
choices_sym Lexical Var = refl
choices_sym Lexical Lexical = refl
choices_sym Lexical Constant = refl
choices_sym Constant Var = refl
choices_sym Constant Lexical = refl
choices_sym Constant Constant = refl

names_sym : (m n : ℕ) → nat_eq m n ≡ nat_eq n m
names_sym m n = grind arith

same_sym : (a b : Declared) → same a b ≡ same b a
same_sym a b = rw (names_sym a.name b.name, choices_sym a.kind b.kind) refl

or_is : (a b c : Bool) → a ≡ c → (if a then true else b) ≡ (c || b)
or_is true b c e = rw (← e) refl
or_is false b c e = rw (← e) refl

-- the members of a set to which one was added
pub member_added : (a x : Declared) (old new : List Declared)
    → list_any (λ b. eqb a.name b.name && sameb the_type a.kind b.kind) new ≡ (if eqb x.name a.name && sameb the_type x.kind a.kind then true else list_any (λ b. eqb a.name b.name && sameb the_type a.kind b.kind) old)
    → list_any (same a) new ≡ (same a x || list_any (same a) old)
member_added a x old new h = sym (member_is a new) ∙ h ∙ or_is (eqb x.name a.name && sameb the_type x.kind a.kind) (list_any (λ b. eqb a.name b.name && sameb the_type a.kind b.kind) old) (same a x) (equal_is x a ∙ same_sym x a) ∙ ap (λ b. same a x || b) (member_is a old)
