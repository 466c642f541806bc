-- Why a derivation begins with a token that its symbols begin with, and the row that is chosen is an alternative.
use Rattle.std.proofs.Common.{Bool, true, false, not, List, [], ◌∷◌, ◌++◌, ◌≡◌, ◌&&◌, ◌||◌, refl, sym, ap, ◌∙◌, Option, Some, None, if◌then◌else◌, ◌⊎◌, inl, inr, lit<}
use Rattle.std.proofs.lemmas.Option.{none-some}
use Rattle.std.specs.List.{Contains, list_any, list_all, find}
use Rattle.std.specs.Option.{option_or, unwrap_or}
use Rattle.std.proofs.lemmas.List.Folds.{list_any_at, list_all-append, find_at}
use Rattle.std.proofs.lemmas.Option.{get_or_from_slice_get, slice_get_within}
use Rattle.js_grammar.specs.declared.class.Class.{Class}
use Rattle.js_grammar.specs.declared.class.Class.TheVariants as classes
use Rattle.js_grammar.specs.declared.symbols.Symbol.{Symbol}
use Rattle.js_grammar.specs.declared.symbols.Symbol.TheVariants as symbols
use Rattle.js_grammar.specs.declared.symbols.Terminal.{Terminal}
use Rattle.js_grammar.specs.declared.symbols.RowId.{RowId}
use Rattle.js_grammar.specs.Classes.{takes_class}
use Rattle.js_grammar.specs.Choice.{list_begins, row_begins, may_be_empty, chosen, is_throw, is_begun, may_stay_empty, stands_for_nothing, is_left_out}
use Rattle.js_grammar.specs.Derivation.{Leaf, token, Derives, is_restricted, nothing, takes, semicolon, expands}
use Rattle.js_grammar.specs.Rows.{alternatives, row_symbols}

pub or_left : (a b : Bool) → a ≡ true → (a || b) ≡ true
or_left a b e = ap (λ x. x || b) e

pub or_right : (a b : Bool) → b ≡ true → (a || b) ≡ true
or_right true b e = refl
or_right false b e = e

pub and_both : (a b : Bool) → a ≡ true → b ≡ true → (a && b) ≡ true
and_both a b e f = ap (λ x. x && b) e ∙ f

pub and_first : (a b : Bool) → (a && b) ≡ true → a ≡ true
and_first true b e = refl
and_first false b e = e

pub and_second : (a b : Bool) → (a && b) ≡ true → b ≡ true
and_second true b e = e
and_second false true e = refl
and_second false false e = e

-- one that passes is enough
pub any_from : {X : Type 0} (p : X → Bool) (xs : List X) (x : X) → Contains xs x → p x ≡ true → list_any p xs ≡ true
any_from p xs x h e = list_any_at p xs h.0 x h.1 (ap p h.2 ∙ e)

-- what a search finds is in the list
pub found_in : {X : Type 0} (p : X → Bool) (xs : List X) (x : X) → find p xs ≡ Some x → Contains xs x
found_in p xs x e =
    let at = sym (find_at p xs) ∙ e in
    (_, slice_get_within xs _ x at, get_or_from_slice_get xs _ x x at)

spread : (a e f g h : Bool) → (a || (e && (f || (g && h)))) ≡ ((a || (e && f)) || ((e && g) && h))
spread true e f g h = refl
spread false true f g h = refl
spread false false f g h = refl

begins_append : (b : Symbol → Bool) (xs ys : List Symbol)
    → list_begins b (xs ++ ys) ≡ (list_begins b xs || (list_all may_be_empty xs && list_begins b ys))
begins_append b [] ys = refl
begins_append b (x ∷ xs) ys = ap (λ l. b x || (may_be_empty x && l)) (begins_append b xs ys) ∙ spread (b x) (may_be_empty x) (list_begins b xs) (list_all may_be_empty xs) (list_begins b ys)

by_row : {x y : Bool} (f g h : Bool) → (f || (g && h)) ≡ true → (f ≡ true → x ≡ true) → (g ≡ true → y ≡ true) → (x || (y && h)) ≡ true
by_row {x} {y} true g h e p q = or_left x _ (p refl)
by_row {x} {y} false g h e p q = or_right x _ (and_both y h (q (and_first g h e)) (and_second g h e))

-- in a derivation that begins with a token, the symbols begin with it, by any test that is closed under the rows
pub first_of : (c : Class) (newline : Bool) (b : Symbol → Bool)
    → ((t : Terminal) → takes_class t c ≡ true → b (symbols.Take t) ≡ true)
    → (classes.Semicolon ≡ c → b symbols.Semi ≡ true)
    → ((s : Symbol) (r : RowId) → Contains (alternatives s) r → row_begins b c r ≡ true → b s ≡ true)
    → ((s : Symbol) (r : RowId) → Contains (alternatives s) r → list_all may_be_empty (row_symbols r) ≡ true → may_be_empty s ≡ true)
    → (ss : List Symbol) (ls : List Leaf) (rs : List RowId) → Derives ss (token c newline ∷ ls) rs → list_begins b ss ≡ true
first_of c newline b t_ok s_ok r_ok e_ok _ _ _ (takes t _ _ ss ls rs e d) = or_left (b (symbols.Take t)) _ (t_ok t e)
first_of c newline b t_ok s_ok r_ok e_ok _ _ _ (semicolon _ ss ls rs d) = or_left (b symbols.Semi) _ (s_ok refl)
first_of c newline b t_ok s_ok r_ok e_ok _ ls _ (expands s r ss _ rs h m d) =
    let ih = sym (begins_append b (row_symbols r) ss) ∙ first_of c newline b t_ok s_ok r_ok e_ok (row_symbols r ++ ss) ls rs d in
    by_row (list_begins b (row_symbols r)) (list_all may_be_empty (row_symbols r)) (list_begins b ss) ih
    (λ e. r_ok s r h (and_both _ _ (and_first (not (is_left_out c r)) _ (and_first (not (is_left_out c r) && not (is_restricted r && newline)) _ m)) e)) (e_ok s r h)

-- symbols from which nothing is derived may be empty, by the same closure
pub empty_of : ((s : Symbol) (r : RowId) → Contains (alternatives s) r → list_all may_be_empty (row_symbols r) ≡ true → may_be_empty s ≡ true)
    → (ss : List Symbol) (rs : List RowId) → Derives ss [] rs → list_all may_be_empty ss ≡ true
empty_of e_ok _ _ nothing = refl
empty_of e_ok _ _ (expands s r ss _ rs h m d) =
    let ih = sym (list_all-append may_be_empty (row_symbols r) ss) ∙ empty_of e_ok (row_symbols r ++ ss) rs d in
    and_both (may_be_empty s) _ (e_ok s r h (and_first _ _ ih)) (and_second (list_all may_be_empty (row_symbols r)) _ ih)

pub one_of : (b : Bool) (q r : RowId) → (if b then None else Some q) ≡ Some r → q ≡ r
one_of true q r e = absurd (none-some r e)
one_of false q r e = ap (λ o. unwrap_or o q) e

one_in : (q r : RowId) → q ≡ r → Contains (q ∷ []) r
one_in q r e = (0, lit< tt, e)

either_of : (o : Option RowId) (b : Bool) (other : Option RowId) (r : RowId)
    → option_or o (if b then other else None) ≡ Some r → (o ≡ Some r) ⊎ (other ≡ Some r)
either_of (Some q) b other r e = inl e
either_of None true other r e = inr e
either_of None false other r e = absurd (none-some r e)

-- the row that is chosen is in the list that it is chosen from
pub chosen_in : (s : Symbol) (c : Class) (newline : Bool) (rs : List RowId) (r : RowId) → chosen s c newline rs ≡ Some r → Contains rs r
chosen_in s c newline [] r e = absurd (none-some r e)
chosen_in s c newline (q ∷ []) r e = one_in q r (one_of (is_throw s && newline) q r e)
chosen_in s c newline (q ∷ p ∷ rs) r e =
    elim (either_of (find (is_begun c newline) (q ∷ p ∷ rs)) (may_stay_empty s c) (find stands_for_nothing (q ∷ p ∷ rs)) r e) [
      | inl h ↦ found_in (is_begun c newline) (q ∷ p ∷ rs) r h
      | inr h ↦ found_in stands_for_nothing (q ∷ p ∷ rs) r h
    ]
