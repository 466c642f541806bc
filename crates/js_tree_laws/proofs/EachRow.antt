-- Each row of each symbol leaves what suits its symbol.
use Rattle.std.proofs.Common.{◌≡◌, ℕ, inl, zero, suc, ◌<◌, Bool, true, false, not, ◌&&◌, ◌||◌, List, [], ◌∷◌, Option, Some, None, refl, ap, subst, arith}
use Rattle.std.specs.List.{list_all}
use Rattle.js_grammar.specs.declared.class.Class.{Class}
use Rattle.js_grammar.specs.declared.class.Class.TheVariants as classes
use Rattle.js_grammar.specs.declared.symbols.Symbol.{Symbol}
use Rattle.js_grammar.specs.declared.symbols.Symbol.TheVariants as symbols
use Rattle.js_grammar.specs.declared.symbols.RowId.{RowId}
use Rattle.js_grammar.specs.Classes.{takes_class}
use Rattle.js_machine.proofs.Work.{vanishes}
use Rattle.js_tree.specs.Nodes.{Maker}
use Rattle.js_tree_laws.proofs.Shapes.{and_left, and_right}
use Rattle.js_tree_laws.proofs.Suits.{is_late, passes_head, in_chain, is_new}
use Rattle.std.proofs.Common.{length, get_or}
use Rattle.js_grammar.specs.declared.symbols.Level.TheVariants as levels
use Rattle.js_grammar.specs.declared.symbols.RowId.TheVariants as rows
use Rattle.js_grammar.specs.Choice.{row_of}
use Rattle.js_grammar.specs.Rows.{row_symbols, alternatives, next_level}
use Rattle.js_tree_laws.proofs.Sorts.{IsMaker, leads}
use Rattle.js_grammar.specs.declared.symbols.Terminal.TheVariants as terminals
use Rattle.js_tree_laws.proofs.Safe.{among_one}
use Rattle.js_tree_laws.proofs.Rowwise.{Goal, class_ok, own, generic_row, generic_fit}
use Rattle.js_tree.specs.Image.{row_part}
use Rattle.js_tree.specs.Steps.{operand, put, tail}
use Rattle.js_tree.specs.Finishes.{folds}
use Rattle.js_tree_laws.proofs.Specials.{assign_tail_empty, new_args_empty, again, chained_row, next_role, expr_row, assign_row, stat_row, ident_row, head_row, arrow_row, label_row}
use Rattle.js_grammar.specs.declared.symbols.Mode.TheVariants as modes
use Rattle.js_grammar.proofs.Each.{all_classes, each_class}
use Rattle.js_grammar.proofs.Begins.{chosen_in}

-- a fact of each row in a list
abbrev pub AllOf : (RowId → Type 0) → List RowId → Type 0
AllOf P [] = Unit {0}
AllOf P (r ∷ rs) = P r × AllOf P rs

picked : (P : RowId → Type 0) (rs : List RowId) (k : ℕ) (r : RowId) → k < length rs → get_or rs k r ≡ r → AllOf P rs → P r
picked P [] k r less e all = absurd (omega arith)
picked P (q ∷ rs) zero r less e all = subst P e all.0
picked P (q ∷ rs) (suc k) r less e all = picked P rs k r (omega arith) e all.1

-- the goals that are asked of a symbol's rows: those of its own rows
abbrev generic_by : Bool → Symbol → RowId → Bool
generic_by true s r = false
generic_by false s r = generic_fit s r

abbrev Asked : Bool → Type 0 → Type 0 → Type 0
Asked true G K = K
Asked false G K = G × K

abbrev OwnGoals : Maker → Symbol → List RowId → Type 0
OwnGoals m s [] = Unit {0}
OwnGoals m s (r ∷ rs) = Asked (generic_by (own r) s r) (Goal m s r) (OwnGoals m s rs)

first_goal : (m : Maker) → IsMaker m → (b d : Bool) (s : Symbol) (r : RowId) (K : Type 0) → own r ≡ b → generic_by b s r ≡ d → Asked d (Goal m s r) K → Goal m s r × K
first_goal m maker b false s r K e f is = is
first_goal m maker true true s r K e f is = cc
first_goal m maker false true s r K e f is = (generic_row m maker s r f e, is)

all_goals : (m : Maker) → IsMaker m → (s : Symbol) (rs : List RowId) → OwnGoals m s rs → AllOf (Goal m s) rs
all_goals m maker s [] is = tt
all_goals m maker s (r ∷ rs) is = let f = first_goal m maker (own r) (generic_by (own r) s r) s r (OwnGoals m s rs) refl refl is in (f.0, all_goals m maker s rs f.1)

own_goals : (m : Maker) → IsMaker m → (s : Symbol) → OwnGoals m s (alternatives s)
unfolding row_part operand put tail folds
own_goals m maker symbols.Stat = (stat_row m maker, tt)
own_goals m maker symbols.Label = (label_row m maker, tt)
own_goals m maker (symbols.Expr q) = (expr_row m maker q, tt)
own_goals m maker (symbols.Comma q) = (λ c n newline first from fs o ps here is. inl (tt, is), tt)
own_goals m maker (symbols.Assign q) = (assign_row m maker q, tt)
own_goals m maker (symbols.AssignTail q) = (arrow_row m maker q, (assign_tail_empty m q, tt))
own_goals m maker (symbols.Cond q) = (chained_row m maker (symbols.Cond q) (symbols.Level levels.LogicalOr q) (symbols.CondTail q) (rows.Cond q) (λ r. r) refl refl refl refl (λ t raw qs. refl) refl, tt)
own_goals m maker (symbols.CondTail q) = (λ c n newline first from fs o ps here is. inl (tt, is), tt)
own_goals m maker (symbols.Level l q) = (chained_row m maker (symbols.Level l q) (next_level l q) (symbols.LevelTail l q) (rows.Level l q) (λ r. r) refl (next_role l q) refl refl (λ t raw qs. refl) refl, tt)
own_goals m maker (symbols.LevelTail levels.Relational modes.WithIn) = (λ c n newline first from fs o ps here is. inl (tt, is), tt)
own_goals m maker (symbols.LevelTail levels.Relational modes.NoIn) = (λ c n newline first from fs o ps here is. inl (tt, is), tt)
own_goals m maker (symbols.LevelTail l q) = (λ c n newline first from fs o ps here is. inl (tt, is), tt)
own_goals m maker symbols.Unary = (chained_row m maker symbols.Unary symbols.Lhs symbols.Post rows.UnaryLhs (λ r. r) refl refl refl refl (λ t raw qs. refl) refl, tt)
own_goals m maker symbols.Post = (λ c n newline first from fs o ps here is. inl (tt, is), tt)
own_goals m maker symbols.Lhs = (chained_row m maker symbols.Lhs symbols.Primary symbols.LhsTail rows.LhsPrimary (λ r. r) refl refl refl refl (λ t raw qs. refl) refl, tt)
own_goals m maker symbols.LhsTail = (λ c n newline first from fs o ps here is. inl (tt, is), tt)
own_goals m maker symbols.Again = (again m, tt)
own_goals m maker symbols.Callee = (chained_row m maker symbols.Callee symbols.Primary symbols.MemberTail rows.CalleePrimary (λ r. None) refl refl refl refl (λ t raw qs. refl) refl, tt)
own_goals m maker symbols.MemberTail = (λ c n newline first from fs o ps here is. inl (tt, is), tt)
own_goals m maker symbols.NewArgs = (new_args_empty m maker, tt)
own_goals m maker symbols.Primary = (ident_row m maker, (head_row m maker, tt))
own_goals m maker _ = tt

pub row_goal : (m : Maker) → IsMaker m → (s : Symbol) (c : Class) (newline : Bool) (r : RowId) → row_of s c newline ≡ Some r → Goal m s r
row_goal m maker s c newline r e = let at = chosen_in s c newline (alternatives s) r e in picked (Goal m s) (alternatives s) at.0 r at.1 at.2 (all_goals m maker s (alternatives s) (own_goals m maker s))

-- what is so of each row wherever a symbol takes it
abbrev pub row_linked : Symbol → List Symbol → Bool
row_linked s [] = true
row_linked s (x ∷ []) = leads (in_chain x) (in_chain s)
row_linked s (x ∷ y ∷ ss) = leads (in_chain x) (passes_head y) && row_linked s (y ∷ ss)

abbrev pub row_guarded : List Symbol → Bool
row_guarded [] = true
row_guarded (x ∷ ss) = not (is_late x) && leads (vanishes x) (row_guarded ss)

abbrev pub row_ok : Symbol → Class → Bool → RowId → Bool
row_ok s c newline r = class_ok s c newline r && row_linked s (row_symbols r) && row_guarded (row_symbols r) && leads (list_all vanishes (row_symbols r)) (vanishes s)

abbrev pub chosen_ok : Symbol → Class → Bool → Option RowId → Bool
chosen_ok s c newline None = true
chosen_ok s c newline (Some r) = row_ok s c newline r

abbrev both_ok : Symbol → Class → Bool
both_ok s c = is_new s || (chosen_ok s c true (row_of s c true) && chosen_ok s c false (row_of s c false))

all_ok : (s : Symbol) → list_all (both_ok s) all_classes ≡ true
all_ok symbols.Script = refl
all_ok (symbols.Level levels.LogicalOr q) = refl
all_ok (symbols.Level _ q) = refl
all_ok (symbols.LevelTail levels.Relational modes.WithIn) = refl
all_ok (symbols.LevelTail levels.Relational modes.NoIn) = refl
all_ok (symbols.LevelTail _ _) = refl
all_ok _ = refl

ok_of : (o : Option RowId) (s : Symbol) (c : Class) (newline : Bool) (r : RowId) → chosen_ok s c newline o ≡ true → o ≡ Some r → row_ok s c newline r ≡ true
ok_of None s c newline r e is = cc
ok_of (Some q) s c newline r e is = subst (λ o. chosen_ok s c newline o ≡ true) is e

not_new : (a b : Bool) → a ≡ false → (a || b) ≡ true → b ≡ true
not_new true b e f = cc
not_new false b e f = f

ok_other : (s : Symbol) (c : Class) (newline : Bool) (r : RowId) → is_new s ≡ false → row_of s c newline ≡ Some r → row_ok s c newline r ≡ true
ok_other s c true r other e = ok_of (row_of s c true) s c true r (and_left (chosen_ok s c true (row_of s c true)) (chosen_ok s c false (row_of s c false)) (not_new (is_new s) (chosen_ok s c true (row_of s c true) && chosen_ok s c false (row_of s c false)) other (each_class (both_ok s) (all_ok s) c))) e
ok_other s c false r other e = ok_of (row_of s c false) s c false r (and_right (chosen_ok s c true (row_of s c true)) (chosen_ok s c false (row_of s c false)) (not_new (is_new s) (chosen_ok s c true (row_of s c true) && chosen_ok s c false (row_of s c false)) other (each_class (both_ok s) (all_ok s) c))) e

new_ok : (c : Class) (newline : Bool) → takes_class (terminals.One classes.New) c ≡ true → row_ok symbols.New c newline rows.New ≡ true
new_ok c newline e = ap (λ c. row_ok symbols.New c newline rows.New) (among_one c classes.New e)

-- a `new` is taken only where its token comes
pub ok_at : (s : Symbol) (c : Class) (newline : Bool) (r : RowId) → row_of s c newline ≡ Some r → (is_new s ≡ true → takes_class (terminals.One classes.New) c ≡ true) → row_ok s c newline r ≡ true
ok_at symbols.New c newline r e new = let same : rows.New ≡ r = cc in subst (λ r. row_ok symbols.New c newline r ≡ true) same (new_ok c newline (new refl))
ok_at symbols.Script c newline r e new = ok_other symbols.Script c newline r refl e
ok_at s c newline r e new = ok_other s c newline r refl e
