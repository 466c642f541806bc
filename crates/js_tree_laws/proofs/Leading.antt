-- What is left of an accepted run, step by step; and why its steps lead from a script to nothing.
use Rattle.std.proofs.Common.{◌≡◌, ℕ, zero, suc, Bool, true, false, cond, length, List, [], ◌∷◌, ◌++◌, Option, Some, None, refl, sym, ap, ◌∙◌, subst, append-nil, append_assoc}
use Rattle.js_grammar.proofs.Begins.{chosen_in}
use Rattle.js_grammar.specs.Choice.{row_of}
use Rattle.js_grammar.specs.Classes.{takes_class, is_among}
use Rattle.js_grammar.specs.Rows.{row_symbols, is_marked, alternatives}
use Rattle.js_grammar.specs.declared.class.Class.{Class}
use Rattle.js_grammar.specs.declared.class.Class.TheVariants as classes
use Rattle.js_grammar.specs.declared.symbols.RowId.{RowId}
use Rattle.js_grammar.specs.declared.symbols.Symbol.{Symbol}
use Rattle.js_grammar.specs.declared.symbols.Symbol.TheVariants as symbols
use Rattle.js_grammar.specs.declared.symbols.Terminal.{Terminal}
use Rattle.js_machine.specs.Lookahead.{seen}
use Rattle.js_machine.specs.Machine.{State, Stay, Halt, Outcome, Accepted, Stopped, Ends, start, act_on, go_on, run, finish, use_kind, use_row, use_token, kind_of, counts_as_there, want_all, under_mark, with_row, with_token, is_too_deep, may_follow, stuck}
use Rattle.js_machine.specs.declared.events.Event.{Event}
use Rattle.js_machine.specs.declared.events.Event.TheVariants.{Row, Took, Inserted}
use Rattle.js_machine.specs.declared.events.Frame.{Frame}
use Rattle.js_machine.specs.declared.events.Frame.TheVariants.{Want, EndMark}
use Rattle.js_machine.specs.declared.kinds.Kind.{Kind}
use Rattle.js_machine.specs.declared.kinds.Kind.TheVariants.{Terminal as TakesToken, Semicolon, Expands}
use Rattle.js_machine.specs.declared.lookahead.Lookahead.{Lookahead}
use Rattle.js_machine.specs.declared.stops.Stop.{Stop}
use Rattle.js_machine.specs.declared.stops.Stop.TheVariants.{Syntax, TooDeep}
use Rattle.js_tokens.specs.declared.kinds.Token.{Token}
use Rattle.js_tree.specs.Leads.{Leads, over, took, counts, expands}

abbrev pub push : Symbol → Class → ℕ → State → State
push s first from st = record st { stack = Want s first from ∷ st.stack }

-- from this state at these tokens the machine accepts by these steps
pub data Goes : State → List Lookahead → List Event → Type 0 where
  Ended : (st : State) → st.stack ≡ [] → Goes st [] []
  Unmarked : (st : State) (t : Lookahead) (ts : List Lookahead) (es : List Event) → Goes st (t ∷ ts) es → Goes (record st { stack = EndMark ∷ st.stack }) (t ∷ ts) es
  Expanded : (s : Symbol) (first : Class) (from : ℕ) (r : RowId) (st : State) (t : Lookahead) (ts : List Lookahead) (es : List Event) → row_of s t.class t.newline_before ≡ Some r → may_follow r first from st ≡ true
      → Goes (with_row r t.class st) (t ∷ ts) es → Goes (push s first from st) (t ∷ ts) (Row r ∷ es)
  Taken : (x : Terminal) (first : Class) (from : ℕ) (st : State) (t : Lookahead) (ts : List Lookahead) (es : List Event) → takes_class x t.class ≡ true
      → Goes (with_token t.class from st) ts es → Goes (push (symbols.Take x) first from st) (t ∷ ts) (Took ∷ es)
  Separated : (first : Class) (from : ℕ) (st : State) (t : Lookahead) (ts : List Lookahead) (es : List Event) → is_among t.class (classes.Semicolon ∷ []) ≡ true
      → Goes (with_token t.class from st) ts es → Goes (push symbols.Semi first from st) (t ∷ ts) (Took ∷ es)
  Counted : (first : Class) (from : ℕ) (st : State) (t : Lookahead) (ts : List Lookahead) (es : List Event)
      → Goes (record st { events = st.events ++ Inserted ∷ [] }) (t ∷ ts) es → Goes (push symbols.Semi first from st) (t ∷ ts) (Inserted ∷ es)

terminal_of : (s : Symbol) (x : Terminal) → kind_of s ≡ TakesToken x → symbols.Take x ≡ s
terminal_of (symbols.Take t) x e = cc
terminal_of _ x e = cc

semicolon_of : (s : Symbol) → kind_of s ≡ Semicolon → symbols.Semi ≡ s
semicolon_of symbols.Semi e = refl
semicolon_of _ e = cc

pub stopped_not : {A : Type 0} (p : Stop) (all : List Event) → Some (Stopped p) ≡ Some (Accepted all) → A
stopped_not p all e = cc

-- the steps of a run that are left are the last ones of all
module _ (all : List Event) where
  abbrev pub Rest : List Lookahead → State → Type 0
  Rest ts st = (more : List Event) × (all ≡ st.events ++ more) × Goes st ts more

  further : (events more : List Event) (e : Event) → all ≡ (events ++ e ∷ []) ++ more → all ≡ events ++ e ∷ more
  further events more e same = same ∙ append_assoc events (e ∷ []) more

  -- each step, where h goes on at the same token t and g at the next one
  module _ (t : Lookahead) (ts : List Lookahead) (h g : State → Option Outcome) (here : (st : State) → h st ≡ Some (Accepted all) → Rest (t ∷ ts) st) (next : (st : State) → g st ≡ Some (Accepted all) → Rest ts st) where
    row_taken : (deep follows : Bool) (r : RowId) (s : Symbol) (first : Class) (from : ℕ) (st : State) → may_follow r first from st ≡ follows → row_of s t.class t.newline_before ≡ Some r
        → go_on (cond deep (Halt (TooDeep t.at)) (cond follows (Stay (with_row r t.class st)) (Halt (Syntax t.at)))) h g ≡ Some (Accepted all) → Rest (t ∷ ts) (push s first from st)
    row_taken true follows r s first from st may is e = stopped_not (TooDeep t.at) all e
    row_taken false true r s first from st may is e =
        let rest = here _ e in (Row r ∷ rest.0, further st.events rest.0 (Row r) rest.1, Expanded s first from r st t ts rest.0 is may rest.2)
    row_taken false false r s first from st may is e = stopped_not (Syntax t.at) all e

    row_used : (o : Option RowId) (s : Symbol) (first : Class) (from : ℕ) (st : State) → row_of s t.class t.newline_before ≡ o → go_on (use_row o s first from t st) h g ≡ Some (Accepted all) → Rest (t ∷ ts) (push s first from st)
    row_used None s first from st is e = stopped_not (stuck s st.before t) all e
    row_used (Some r) s first from st is e = row_taken (is_too_deep r st.stack) (may_follow r first from st) r s first from st refl is e

    token_used : (b : Bool) (x : Terminal) (first : Class) (from : ℕ) (st : State) → takes_class x t.class ≡ b → go_on (use_token b (symbols.Take x) from t st) h g ≡ Some (Accepted all) → Rest (t ∷ ts) (push (symbols.Take x) first from st)
    token_used true x first from st takes e = let rest = next _ e in (Took ∷ rest.0, further st.events rest.0 Took rest.1, Taken x first from st t ts rest.0 takes rest.2)
    token_used false x first from st takes e = stopped_not (stuck (symbols.Take x) st.before t) all e

    semicolon_used : (a b : Bool) (first : Class) (from : ℕ) (st : State) → is_among t.class (classes.Semicolon ∷ []) ≡ a
        → go_on (cond a (use_token true symbols.Semi from t st) (cond b (Stay (record st { events = st.events ++ Inserted ∷ [] })) (use_token false symbols.Semi from t st))) h g ≡ Some (Accepted all)
        → Rest (t ∷ ts) (push symbols.Semi first from st)
    semicolon_used true b first from st takes e = let rest = next _ e in (Took ∷ rest.0, further st.events rest.0 Took rest.1, Separated first from st t ts rest.0 takes rest.2)
    semicolon_used false true first from st takes e = let rest = here _ e in (Inserted ∷ rest.0, further st.events rest.0 Inserted rest.1, Counted first from st t ts rest.0 rest.2)
    semicolon_used false false first from st takes e = stopped_not (stuck symbols.Semi st.before t) all e

    kind_used : (k : Kind) (s : Symbol) (first : Class) (from : ℕ) (st : State) → kind_of s ≡ k → go_on (use_kind k s first from t st) h g ≡ Some (Accepted all) → Rest (t ∷ ts) (push s first from st)
    kind_used (TakesToken x) s first from st k e = (subst (λ s. go_on (use_token (takes_class x t.class) s from t st) h g ≡ Some (Accepted all) → Rest (t ∷ ts) (push s first from st)) (terminal_of s x k) (token_used (takes_class x t.class) x first from st refl)) e
    kind_used Semicolon s first from st k e =
        (subst (λ s. go_on (use_kind Semicolon s first from t st) h g ≡ Some (Accepted all) → Rest (t ∷ ts) (push s first from st)) (semicolon_of s k) (semicolon_used (is_among t.class (classes.Semicolon ∷ [])) (counts_as_there t) first from st refl)) e
    kind_used Expands s first from st k e = row_used (row_of s t.class t.newline_before) s first from st refl e

    stack_used : (fs : List Frame) (st : State) → go_on (act_on fs t st) h g ≡ Some (Accepted all) → Rest (t ∷ ts) (record st { stack = fs })
    stack_used [] st e = stopped_not (Syntax t.at) all e
    stack_used (EndMark ∷ fs) st e = let rest = here _ e in (rest.0, rest.1, Unmarked (record st { stack = fs }) t ts rest.0 rest.2)
    stack_used (Want s first from ∷ fs) st e = kind_used (kind_of s) s first from (record st { stack = fs }) refl e

  same_events : (events : List Event) → Some (Accepted events) ≡ Some (Accepted all) → all ≡ events
  same_events events e = cc

  finished : (at : ℕ) (fs : List Frame) (st : State) → Some (finish at fs st.events) ≡ Some (Accepted all) → Rest [] (record st { stack = fs })
  finished at [] st e = ([], same_events st.events e ∙ sym (append-nil st.events), Ended _ refl)
  finished at (f ∷ fs) st e = stopped_not (Syntax at) all e

  pub goes : (n at : ℕ) (ts : List Lookahead) (st : State) → run n at ts st ≡ Some (Accepted all) → Rest ts st
  goes n at [] st e = finished at st.stack st e
  goes zero at (t ∷ ts) st e = cc
  goes (suc n) at (t ∷ ts) st e = stack_used t ts (run n at (t ∷ ts)) (run n at ts) (goes n at (t ∷ ts)) (goes n at ts) st.stack st e

-- the symbols on a stack
abbrev wanted : List Frame → List Symbol
wanted [] = []
wanted (EndMark ∷ fs) = wanted fs
wanted (Want s first from ∷ fs) = s ∷ wanted fs

wanted_all : (first : Class) (from : ℕ) (ss : List Symbol) (fs : List Frame) → wanted (want_all first from ss ++ fs) ≡ ss ++ wanted fs
wanted_all first from [] fs = refl
wanted_all first from (s ∷ ss) fs = ap (λ l. s ∷ l) (wanted_all first from ss fs)

wanted_mark : (b : Bool) (fs : List Frame) → wanted (under_mark b fs) ≡ wanted fs
wanted_mark true fs = refl
wanted_mark false fs = refl

led : (st : State) (ts : List Lookahead) (es : List Event) → Goes st ts es → Leads (wanted st.stack) es
led _ _ _ (Ended st e) = subst (λ fs. Leads (wanted fs) []) (sym e) over
led _ _ _ (Unmarked st t ts es d) = led st (t ∷ ts) es d
led _ _ _ (Expanded s first from r st t ts es is may d) =
    let symbols_are = wanted_all t.class st.taken (row_symbols r) (under_mark (is_marked r) st.stack) ∙ ap (λ l. row_symbols r ++ l) (wanted_mark (is_marked r) st.stack)
    in expands s r (wanted st.stack) es (chosen_in s t.class t.newline_before (alternatives s) r is) (subst (λ ss. Leads ss es) symbols_are (led (with_row r t.class st) (t ∷ ts) es d))
led _ _ _ (Taken x first from st t ts es takes d) = took (symbols.Take x) (wanted st.stack) es refl (led (with_token t.class from st) ts es d)
led _ _ _ (Separated first from st t ts es takes d) = took symbols.Semi (wanted st.stack) es refl (led (with_token t.class from st) ts es d)
led _ _ _ (Counted first from st t ts es d) = counts symbols.Semi (wanted st.stack) es refl (led (record st { events = st.events ++ Inserted ∷ [] }) (t ∷ ts) es d)

pub accepted_leads : (text : List ℕ) (ts : List Token) (all : List Event) → Ends text ts (Accepted all) → Leads (symbols.Script ∷ []) all
accepted_leads text ts all ends = let rest = goes all ends.0 (length text) (seen text ts) start ends.1 in subst (Leads (symbols.Script ∷ [])) (sym rest.1) (led start (seen text ts) rest.0 rest.2)
