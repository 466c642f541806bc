-- What the entries that aren't captured make of the covers of names.
use Rattle.std.proofs.Common.{ℕ, List, [], ◌∷◌, map, ◌≡◌, Bool, true, false, refl, ap, sym, ◌&&◌, ◌||◌, not, if◌then◌else◌, Option, Some, ◌∙◌}
use Rattle.scope_facts.specs.declared.context.FactName.{FactName}
use Rattle.scope_facts.specs.declared.covers.Cover.{Cover}
use Rattle.scope_facts.specs.Covers.{has_name}
use Rattle.scope_check.specs.Covers.{has_fact, all_caught, is_fact, marked, entered}

-- a cover inside so many functions, captured or not
abbrev entry : ℕ → Bool → Option Cover
entry now c = Some (record { function = now; captured = c })

mark_case : (now : ℕ) (c b d : Bool) → (if not d && b then entry now false else entry now c) ≡ entry now (c && (not b || d))
mark_case now true true true = refl
mark_case now true true false = refl
mark_case now true false true = refl
mark_case now true false false = refl
mark_case now false true true = refl
mark_case now false true false = refl
mark_case now false false true = refl
mark_case now false false false = refl

mark_one : (now x : ℕ) (c : Bool) (f : FactName) → (if not f.captured && is_fact x f then entry now false else entry now c) ≡ entry now (c && (not (is_fact x f) || f.captured))
mark_one now x c f = mark_case now c (is_fact x f) f.captured

and_assoc : (a b c : Bool) → ((a && b) && c) ≡ (a && (b && c))
and_assoc true b c = refl
and_assoc false b c = refl

and_true : (a : Bool) → (a && true) ≡ a
and_true true = refl
and_true false = refl

marked_some : (now x : ℕ) (c : Bool) (fs : List FactName) → marked now fs x (Some (record { function = now; captured = c })) ≡ Some (record { function = now; captured = c && all_caught x fs })
marked_some now x c [] = ap (λ b. Some (record { function = now; captured = b })) (sym (and_true c))
marked_some now x c (f ∷ fs) =
    ap (marked now fs x) (mark_one now x c f)
    ∙ marked_some now x (c && (not (is_fact x f) || f.captured)) fs
    ∙ ap (λ b. Some (record { function = now; captured = b })) (and_assoc c (not (is_fact x f) || f.captured) (all_caught x fs))

unmarked_case : (b d : Bool) (o p : Option Cover) → b ≡ false → (if not d && b then p else o) ≡ o
unmarked_case true d o p e = cc
unmarked_case false true o p e = refl
unmarked_case false false o p e = refl

or_left : (a b : Bool) → (a || b) ≡ false → a ≡ false
or_left true b e = cc
or_left false b e = refl

or_right : (a b : Bool) → (a || b) ≡ false → b ≡ false
or_right true b e = cc
or_right false b e = e

marked_none : (now x : ℕ) (o : Option Cover) (fs : List FactName) → has_fact x fs ≡ false → marked now fs x o ≡ o
marked_none now x o [] e = refl
marked_none now x o (f ∷ fs) e =
    ap (marked now fs x) (unmarked_case (is_fact x f) f.captured o (Some (record { function = now; captured = false })) (or_left (is_fact x f) (has_fact x fs) e))
    ∙ marked_none now x o fs (or_right (is_fact x f) (has_fact x fs) e)

marked_by : (now x : ℕ) (b : Bool) (o : Option Cover) (fs : List FactName) → has_fact x fs ≡ b
    → marked now fs x (if b then entry now true else o) ≡ (if b then entry now (all_caught x fs) else o)
marked_by now x true o fs e = marked_some now x true fs
marked_by now x false o fs e = marked_none now x o fs e

-- both passes over the entries of a scope
pub entered_is : (now x : ℕ) (o p q : Option Cover) (fs : List FactName) → p ≡ (if has_fact x fs then Some (record { function = now; captured = true }) else o) → q ≡ marked now fs x p → q ≡ entered now fs x o
entered_is now x o p q fs e g = g ∙ ap (marked now fs x) e ∙ marked_by now x (has_fact x fs) o fs refl

-- the names of entries, each as a number
fact_named : (fs : List FactName) (x : ℕ) → has_name x (map (λ (f : FactName). f.name.0) fs) ≡ has_fact x fs
fact_named [] x = refl
fact_named (f ∷ fs) x = ap (λ b. is_fact x f || b) (fact_named fs x)

pub named_facts : (ns : List ℕ) (fs : List FactName) (x : ℕ) → ns ≡ map (λ (f : FactName). f.name.0) fs → has_name x ns ≡ has_fact x fs
named_facts ns fs x e = ap (has_name x) e ∙ fact_named fs x
