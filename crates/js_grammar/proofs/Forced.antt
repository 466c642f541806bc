-- Why an alternative that begins with the token is taken where no other one does.
use Rattle.std.proofs.Common.{ℕ, zero, suc, Bool, true, false, List, [], ◌∷◌, ◌≡◌, ◌<◌, ◌≤◌, ◌+◌, ◌&&◌, not, refl, ap, ◌∙◌, length, get_or, cond, if◌then◌else◌, Some, None, arith}
use Rattle.std.specs.List.{Contains, find, filter}
use Rattle.std.specs.Option.{option_or}
use Rattle.std.proofs.lemmas.Bool.{ltb-false}
use Rattle.js_grammar.specs.declared.class.Class.{Class}
use Rattle.js_grammar.specs.declared.symbols.Symbol.{Symbol}
use Rattle.js_grammar.specs.declared.symbols.RowId.{RowId}
use Rattle.js_grammar.specs.Choice.{begins_with, row_begins, is_begun, needs_same_line, is_throw, may_stay_empty, stands_for_nothing, chosen, row_of}
use Rattle.js_grammar.specs.Laws.{is_decided_by_order}
use Rattle.js_grammar.specs.Rows.{alternatives}
use Rattle.js_grammar.proofs.Begins.{and_both, and_first}
use Rattle.js_grammar.proofs.Each.{disjoint}

-- what passes and is in the list is in what is left of it
some_left : {X : Type 0} (p : X → Bool) (xs : List X) (k : ℕ) (r : X) → k < length xs → get_or xs k r ≡ r → p r ≡ true → 1 ≤ length (filter p xs)
some_left p [] k r h e t = omega (arith, h)
some_left p (x ∷ xs) zero r h e t = rw (ap p e ∙ t) (omega arith)
some_left p (x ∷ xs) (suc k) r h e t =
    let rest = some_left p xs k r (omega (arith, h)) e t in
    elim (p x) as (λ b. 1 ≤ length (cond b (x ∷ filter p xs) (filter p xs))) [ true ↦ omega arith | false ↦ rest ]

more_left : {X : Type 0} (p : X → Bool) (x : X) (xs : List X) → length (filter p xs) ≤ length (filter p (x ∷ xs))
more_left p x xs = elim (p x) as (λ b. length (filter p xs) ≤ length (cond b (x ∷ filter p xs) (filter p xs))) [ true ↦ omega arith | false ↦ omega arith ]

two_left : {X : Type 0} (p : X → Bool) (x : X) (xs : List X) → p x ≡ true → length (filter p (x ∷ xs)) ≡ length (filter p xs) + 1
two_left p x xs t = rw t (omega arith)

nothing_in : {A : Type 0} (k : ℕ) → k < 0 → A
nothing_in k h = absurd (omega (arith, h))

-- where at most one passes the wider test, the search by the narrower one finds what passes it
pub only_found : {X : Type 0} (p q : X → Bool) → ((x : X) → q x ≡ true → p x ≡ true)
    → (xs : List X) (k : ℕ) (r : X) → length (filter p xs) ≤ 1 → k < length xs → get_or xs k r ≡ r → q r ≡ true → find q xs ≡ Some r
only_found p q imp [] k r few h e t = nothing_in k h
only_found p q imp (x ∷ xs) zero r few h e t = ap (λ b. cond b (Some x) (find q xs)) (ap q e ∙ t) ∙ ap Some e
only_found p q imp (x ∷ xs) (suc k) r few h e t =
    let within : k < length xs = omega (arith, h) in
    elim (q x) as (λ b. q x ≡ b → cond b (Some x) (find q xs) ≡ Some r) [
      | true ↦ λ s.
          let other = some_left p xs k r within e (imp r t) in
          let both = two_left p x xs (imp x s) in
          absurd (omega (arith, other, both, few))
      | false ↦ λ s. let more = more_left p x xs in only_found p q imp xs k r (omega (arith, more, few)) within e t
    ] refl

chosen_begun : (s : Symbol) (c : Class) (newline : Bool) (xs : List RowId) (k : ℕ) (r : RowId)
    → length (filter (row_begins (begins_with c) c) xs) ≤ 1 → k < length xs → get_or xs k r ≡ r → is_begun c newline r ≡ true
    → (is_throw s && newline) ≡ false → chosen s c newline xs ≡ Some r
chosen_begun s c newline [] k r few h e b t = nothing_in k h
chosen_begun s c newline (x ∷ []) zero r few h e b t = ap (λ b. if b then None else Some x) t ∙ ap Some e
chosen_begun s c newline (x ∷ []) (suc k) r few h e b t = absurd (omega (arith, h))
chosen_begun s c newline (x ∷ y ∷ zs) k r few h e b t =
    ap (λ o. option_or o (if may_stay_empty s c then find stands_for_nothing (x ∷ y ∷ zs) else None))
    (only_found (row_begins (begins_with c) c) (is_begun c newline) (λ z. and_first (row_begins (begins_with c) c z) _) (x ∷ y ∷ zs) k r few h e b)

pub begun_taken : (s : Symbol) (c : Class) (newline : Bool) (r : RowId)
    → Contains (alternatives s) r → row_begins (begins_with c) c r ≡ true → is_decided_by_order s c ≡ false
    → (needs_same_line r && newline) ≡ false → (is_throw s && newline) ≡ false → row_of s c newline ≡ Some r
begun_taken s c newline r h b o l t =
    let few = disjoint s c ∙ o in
    chosen_begun s c newline (alternatives s) h.0 r (ltb-false 1 _ few) h.1 h.2 (and_both (row_begins (begins_with c) c r) _ b (ap not l)) t
