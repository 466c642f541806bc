-- Why a row is only passed over where the token does not begin it.
use Rattle.std.proofs.Common.{Bool, true, false, not, List, [], ◌∷◌, ◌≡◌, ◌&&◌, ◌||◌, refl, sym, ap, ◌∙◌, Some, None, cond, if◌then◌else◌, subst}
use Rattle.std.proofs.lemmas.Option.{none-some}
use Rattle.std.specs.List.{list_any, find}
use Rattle.std.specs.Option.{option_or, unwrap_or}
use Rattle.js_grammar.specs.declared.class.Class.{Class}
use Rattle.js_grammar.specs.declared.symbols.Symbol.{Symbol}
use Rattle.js_grammar.specs.declared.symbols.RowId.{RowId}
use Rattle.js_grammar.specs.declared.symbols.RowId.TheVariants as rows
use Rattle.js_grammar.specs.Choice.{begins_with, row_begins, needs_same_line, is_begun, chosen, is_throw, may_stay_empty, stands_for_nothing, row_of}
use Rattle.js_grammar.specs.Derivation.{begins_here, is_restricted, is_tagged, no_other_begins, may_precede}
use Rattle.js_grammar.specs.Rows.{alternatives}
use Rattle.js_grammar.proofs.Begins.{or_left, or_right, and_both, and_first, and_second, one_of}
use Rattle.js_grammar.proofs.Each.{taken_precedes, taken_untagged}

-- what a search finds passes
found_passes : {X : Type 0} (p : X → Bool) (xs : List X) (x : X) → find p xs ≡ Some x → p x ≡ true
found_passes p [] x e = absurd (none-some x e)
found_passes p (y ∷ xs) x e =
    elim (p y) as (λ b. p y ≡ b → cond b (Some y) (find p xs) ≡ Some x → p x ≡ true) [
      | true ↦ λ is same. ap p (ap (λ o. unwrap_or o y) (sym same)) ∙ is
      | false ↦ λ is rest. found_passes p xs x rest
    ] refl e

-- where a search finds nothing, nothing passes a narrower test
none_passes : {X : Type 0} (p q : X → Bool) → ((x : X) → p x ≡ false → q x ≡ false) → (xs : List X) → find p xs ≡ None → list_any q xs ≡ false
none_passes p q less [] e = refl
none_passes p q less (x ∷ xs) e =
    elim (p x) as (λ b. p x ≡ b → cond b (Some x) (find p xs) ≡ None → list_any q (x ∷ xs) ≡ false) [
      | true ↦ λ is some. absurd (none-some x (sym some))
      | false ↦ λ is rest. ap (λ b. b || list_any q xs) (less x is) ∙ none_passes p q less xs rest
    ] refl e

-- what needs its line is a restricted production
same_line_restricted : (r : RowId) → needs_same_line r ≡ true → is_restricted r ≡ true
same_line_restricted rows.JumpLabel e = refl
same_line_restricted rows.RetExpr e = refl
same_line_restricted rows.Throw e = refl
same_line_restricted (rows.AssignTailArrow m) e = refl
same_line_restricted rows.PostIncrement e = refl
same_line_restricted rows.PostDecrement e = refl
same_line_restricted _ e = e

true_not_false : true ≡ false → ⊥
true_not_false e = cc

narrower : (b n m newline : Bool) → (n ≡ true → m ≡ true) → (b && not (n && newline)) ≡ false → (b && not (m && newline)) ≡ false
narrower false n m newline more e = refl
narrower true true m true more e = ap (λ m. not (m && true)) (more refl)
narrower true true m false more e = absurd (true_not_false e)
narrower true false m newline more e = absurd (true_not_false e)

begins_less : (c : Class) (newline : Bool) (r : RowId) → is_begun c newline r ≡ false → begins_here c newline r ≡ false
begins_less c newline r e = narrower (row_begins (begins_with c) c r) (needs_same_line r) (is_restricted r) newline (same_line_restricted r) e

-- a row that the token begins and that may stand before it
begins_taken : (b a n m e newline : Bool) → (b && not (n && newline)) ≡ true → (not a && not (m && newline) && not e) ≡ true → (b && not (m && newline)) ≡ true
begins_taken b a n m e newline h g = and_both b _ (and_first b _ h) (and_second (not a) _ (and_first (not a && not (m && newline)) (not e) g))

abbrev Only : Class → Bool → List RowId → RowId → Type 0
Only c newline xs r = (begins_here c newline r || not (list_any (begins_here c newline) xs)) ≡ true

alone : (b : Bool) → (b || not (b || false)) ≡ true
alone true = refl
alone false = refl

only_in : (s : Symbol) (c : Class) (newline : Bool) (xs : List RowId) (r : RowId)
    → may_precede r c newline ≡ true → chosen s c newline xs ≡ Some r → Only c newline xs r
only_in s c newline [] r p e = absurd (none-some r e)
only_in s c newline (q ∷ []) r p e = subst (λ q. Only c newline (q ∷ []) r) (sym (one_of (is_throw s && newline) q r e)) (alone (begins_here c newline r))
only_in s c newline (q ∷ y ∷ ys) r p e =
    let xs : List RowId = q ∷ y ∷ ys in
    elim (find (is_begun c newline) xs) as (λ o. find (is_begun c newline) xs ≡ o → option_or o (if may_stay_empty s c then find stands_for_nothing xs else None) ≡ Some r → Only c newline xs r) [
      | Some x ↦ λ is same.
          or_left (begins_here c newline r) _ (begins_taken (row_begins (begins_with c) c r) _ (needs_same_line r) (is_restricted r) _ newline (found_passes (is_begun c newline) xs r (is ∙ same)) p)
      | None ↦ λ is other. or_right (begins_here c newline r) _ (ap not (none_passes (is_begun c newline) (begins_here c newline) (begins_less c newline) xs is))
    ] refl e

-- where the token begins an alternative, the row that the symbol takes is one that it begins
pub taken_begins : (s : Symbol) (c : Class) (newline : Bool) (r : RowId) → row_of s c newline ≡ Some r → no_other_begins s r c newline ≡ true
taken_begins s c newline r e = and_both (not (is_tagged s c)) _ (taken_untagged s c newline r e) (only_in s c newline (alternatives s) r (taken_precedes s c newline r e) e)
