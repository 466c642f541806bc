-- What one more step makes of a run.
use Rattle.std.proofs.Common.{◌≡◌, ℕ, suc, ◌+◌, ◌<◌, List, [], ◌∷◌, length, drop, get_or, drop-cons, add-one, Some, sym, ap, ◌∙◌, arith}
use Rattle.js_tokens.specs.declared.kinds.Token.{Token}
use Rattle.js_machine.specs.declared.stops.Refusal.{Refusal}
use Rattle.js_machine.specs.declared.stops.Refusal.TheVariants as refusals
use Rattle.js_machine.specs.declared.stops.Stop.{Stop}
use Rattle.js_machine.specs.declared.lookahead.Lookahead.{Lookahead}
use Rattle.js_machine.specs.Keeper.{IfStopped}
use Rattle.js_machine.specs.Machine.{State, Next, Stay, Take, Halt, Outcome, Stopped, act, go_on, run, finish, Passes, StopsAt}

-- from one state the machine comes to another before the same token
abbrev pub Comes : Lookahead → State → State → Type 0
Comes t old new = (n : ℕ) × ((k over : ℕ) (ts : List Lookahead) → run (n + k) over (t ∷ ts) old ≡ run k over (t ∷ ts) new)

pub comes_nowhere : (t : Lookahead) (st : State) → Comes t st st
comes_nowhere t st = (0, λ k over ts. ap (λ m. run m over (t ∷ ts) st) (omega arith))

one_step : (t : Lookahead) (ts : List Lookahead) (k over : ℕ) (st : State) (next : Next) → act t st ≡ next → run (suc k) over (t ∷ ts) st ≡ go_on next (run k over (t ∷ ts)) (run k over ts)
one_step t ts k over st next e = ap (λ a. go_on a (run k over (t ∷ ts)) (run k over ts)) e

shifted : (n k over : ℕ) (t : Lookahead) (ts : List Lookahead) (st : State) → run (n + 1 + k) over (t ∷ ts) st ≡ run (n + suc k) over (t ∷ ts) st
shifted n k over t ts st = ap (λ m. run m over (t ∷ ts) st) (omega arith)

pub comes_further : (t : Lookahead) (old mid new : State) → Comes t old mid → act t mid ≡ Stay new → Comes t old new
comes_further t old mid new comes e =
    (comes.0 + 1, λ k over ts. shifted comes.0 k over t ts old ∙ comes.1 (suc k) over ts ∙ one_step t ts k over mid (Stay new) e)

pub comes_past : (t : Lookahead) (old mid new : State) → Comes t old mid → act t mid ≡ Take new → Passes t old new
comes_past t old mid new comes e =
    (comes.0 + 1, λ k over ts. shifted comes.0 k over t ts old ∙ comes.1 (suc k) over ts ∙ one_step t ts k over mid (Take new) e)

pub comes_to_stop : (t : Lookahead) (old mid : State) (p : Stop) → Comes t old mid → act t mid ≡ Halt p → StopsAt t old p
comes_to_stop t old mid p comes e =
    (comes.0 + 1, λ over ts. ap (λ m. run m over (t ∷ ts) old) (omega arith) ∙ comes.1 1 over ts ∙ one_step t ts 0 over mid (Halt p) e)

-- from the start of all tokens the machine comes to a state before the rest
abbrev pub Reaches : ℕ → List Lookahead → State → List Lookahead → State → Type 0
Reaches over all old rest new = (n : ℕ) × ((k : ℕ) → run (n + k) over all old ≡ run k over rest new)

pub reaches_next : (over : ℕ) (all : List Lookahead) (old : State) (t : Lookahead) (ts : List Lookahead) (mid new : State) → Reaches over all old (t ∷ ts) mid → Passes t mid new → Reaches over all old ts new
reaches_next over all old t ts mid new reach passes =
    (reach.0 + passes.0, λ k. ap (λ m. run m over all old) (omega arith) ∙ reach.1 (passes.0 + k) ∙ passes.1 k over ts)

pub reaches_stop : (over : ℕ) (all : List Lookahead) (old : State) (t : Lookahead) (ts : List Lookahead) (mid : State) (p : Stop) → Reaches over all old (t ∷ ts) mid → StopsAt t mid p → (n : ℕ) × (run n over all old ≡ Some (Stopped p))
reaches_stop over all old t ts mid p reach stops = (reach.0 + stops.0, reach.1 stops.0 ∙ stops.1 over ts)

-- behind the last token the run ends
pub reaches_end : (over : ℕ) (all : List Lookahead) (old new : State) (end : Outcome) → Reaches over all old [] new → finish over new.stack new.events ≡ end → (n : ℕ) × (run n over all old ≡ Some end)
reaches_end over all old new end reach e = (reach.0 + 0, reach.1 0 ∙ ap Some e)

-- a refusal before a token is the whole run's
pub refused : (over : ℕ) (all : List Lookahead) (old : State) (t : Lookahead) (ts : List Lookahead) (mid : State) (e : Refusal) → Reaches over all old (t ∷ ts) mid → IfStopped e (StopsAt t mid) → IfStopped e (λ p. (n : ℕ) × (run n over all old ≡ Some (Stopped p)))
refused over all old t ts mid refusals.Memory reach stops = tt
refused over all old t ts mid (refusals.Stopped p) reach stops = reaches_stop over all old t ts mid p reach stops

-- the tokens from a place on are the token there and the rest
pub front_token : (all : List Token) (i : ℕ) (d : Token) → i < length all → drop i all ≡ get_or all i d ∷ drop (i + 1) all
front_token all i d below = drop-cons all i d below ∙ ap (λ j. get_or all i d ∷ drop j all) (sym (add-one i))
