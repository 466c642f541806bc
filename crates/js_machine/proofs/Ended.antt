-- Why each run ends, and in one way.
use Rattle.std.proofs.Common.{◌≡◌, ℕ, zero, suc, ◌+◌, ◌<◌, List, [], ◌∷◌, Option, Some, None, refl, sym, ap, ◌∙◌, arith}
use Rattle.js_machine.specs.declared.lookahead.Lookahead.{Lookahead}
use Rattle.js_machine.specs.Machine.{State, Next, Stay, Take, Halt, Outcome, Stopped, act, go_on, run, finish}
use Rattle.js_machine.proofs.Work.{work, work_less}

go_more : (next : Next) (e : Outcome) (h g h_more g_more : State → Option Outcome)
    → ((st : State) → h st ≡ Some e → h_more st ≡ Some e) → ((st : State) → g st ≡ Some e → g_more st ≡ Some e)
    → go_on next h g ≡ Some e → go_on next h_more g_more ≡ Some e
go_more (Stay st) e h g h_more g_more here next eq = here st eq
go_more (Take st) e h g h_more g_more here next eq = next st eq
go_more (Halt p) e h g h_more g_more here next eq = eq

none_some : {A : Type 0} (e : Outcome) → None ≡ Some e → A
none_some e eq = cc

-- more steps change nothing where a run has ended
run_more : (n k over : ℕ) (ts : List Lookahead) (st : State) (e : Outcome) → run n over ts st ≡ Some e → run (n + k) over ts st ≡ Some e
run_more n k over [] st e eq = eq
run_more zero k over (t ∷ ts) st e eq = none_some e eq
run_more (suc n) k over (t ∷ ts) st e eq =
    let later : suc n + k ≡ suc (n + k) = omega arith in
    ap (λ m. run m over (t ∷ ts) st) later
    ∙ go_more (act t st) e (run n over (t ∷ ts)) (run n over ts) (run (n + k) over (t ∷ ts)) (run (n + k) over ts)
    (λ st. run_more n k over (t ∷ ts) st e) (λ st. run_more n k over ts st e) eq

same_some : (e f : Outcome) → Some e ≡ Some f → e ≡ f
same_some e f eq = cc

pub one_end : (n m over : ℕ) (ts : List Lookahead) (st : State) (e f : Outcome) → run n over ts st ≡ Some e → run m over ts st ≡ Some f → e ≡ f
one_end n m over ts st e f p q =
    let other : n + m ≡ m + n = omega arith in
    same_some e f (sym (run_more n m over ts st e p) ∙ ap (λ k. run k over ts st) other ∙ run_more m n over ts st f q)

abbrev EndsFrom : ℕ → List Lookahead → State → Type 0
EndsFrom over ts st = (e : Outcome) × (n : ℕ) × (run n over ts st ≡ Some e)

one_more : (over : ℕ) (t : Lookahead) (ts : List Lookahead) (st : State) (next : Next) (n : ℕ) (e : Outcome) → act t st ≡ next
    → go_on next (run n over (t ∷ ts)) (run n over ts) ≡ Some e → EndsFrom over (t ∷ ts) st
one_more over t ts st next n e is eq = (e, suc n, ap (λ a. go_on a (run n over (t ∷ ts)) (run n over ts)) is ∙ eq)

ends_before : (b over : ℕ) (t : Lookahead) (ts : List Lookahead) → ((st : State) → EndsFrom over ts st) → (st : State) → work st.stack < b → EndsFrom over (t ∷ ts) st
ends_before zero over t ts later st less = absurd (omega (arith, less))
ends_before (suc b) over t ts later st less =
    elim (act t st) as (λ a. act t st ≡ a → EndsFrom over (t ∷ ts) st) [
      | Stay new ↦ λ is.
          let lighter = work_less t st new is in
          let rest = ends_before b over t ts later new (omega (arith, less, lighter)) in
          one_more over t ts st (Stay new) rest.1 rest.0 is rest.2
      | Take new ↦ λ is. let rest = later new in one_more over t ts st (Take new) rest.1 rest.0 is rest.2
      | Halt p ↦ λ is. one_more over t ts st (Halt p) 0 (Stopped p) is refl
    ] refl

-- from each state the run over the tokens ends
pub ends_from : (over : ℕ) (ts : List Lookahead) (st : State) → (e : Outcome) × (n : ℕ) × (run n over ts st ≡ Some e)
ends_from over [] st = (finish over st.stack st.events, 0, refl)
ends_from over (t ∷ ts) st = ends_before (suc (work st.stack)) over t ts (λ st. ends_from over ts st) st (omega arith)
