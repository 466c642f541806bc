-- Why the steps of an accepted run are a derivation: what is left of the run derives what is left of the tokens from the
-- symbols on the stack.
use Rattle.std.proofs.Common.{◌≡◌, ℕ, zero, suc, Bool, true, false, not, cond, List, [], ◌∷◌, ◌++◌, map, Option, Some, None, refl, sym, ap, ◌∙◌, subst}
use Rattle.js_tokens.specs.declared.kinds.Token.{Token}
use Rattle.js_grammar.specs.declared.class.Class.{Class}
use Rattle.js_grammar.specs.declared.class.Class.TheVariants as classes
use Rattle.js_grammar.specs.declared.symbols.Terminal.{Terminal}
use Rattle.js_grammar.specs.declared.symbols.Symbol.{Symbol}
use Rattle.js_grammar.specs.declared.symbols.Symbol.TheVariants as symbols
use Rattle.js_grammar.specs.declared.symbols.RowId.{RowId}
use Rattle.js_grammar.specs.Classes.{takes_class, is_among}
use Rattle.js_grammar.specs.Choice.{row_of}
use Rattle.js_grammar.specs.Rows.{row_symbols, is_marked, alternatives}
use Rattle.js_grammar.specs.Derivation.{Leaf, token, first_token_is, counts_before, no_other_begins, may_precede, may_begin, Derives, nothing, takes, semicolon, counts, expands}
use Rattle.js_grammar.proofs.Begins.{chosen_in, and_both}
use Rattle.js_grammar.proofs.Each.{taken_precedes}
use Rattle.js_grammar.proofs.Offending.{taken_begins}
use Rattle.js_machine.specs.declared.kinds.Kind.{Kind}
use Rattle.js_machine.specs.declared.kinds.Kind.TheVariants.{Terminal as TakesToken, Semicolon, Expands}
use Rattle.js_machine.specs.declared.events.Frame.{Frame}
use Rattle.js_machine.specs.declared.events.Frame.TheVariants.{Want, EndMark}
use Rattle.js_machine.specs.declared.events.Event.{Event}
use Rattle.js_machine.specs.declared.events.Event.TheVariants.{Row, Took, Inserted}
use Rattle.js_machine.specs.declared.stops.Stop.{Stop}
use Rattle.js_machine.specs.declared.stops.Stop.TheVariants.{Syntax, TooDeep}
use Rattle.js_machine.specs.declared.lookahead.Lookahead.{Lookahead}
use Rattle.js_machine.specs.Lookahead.{seen}
use Rattle.js_machine.specs.Laws.{rows_among, leaves, tokens_among, token_in, tokens_in}
use Rattle.js_machine.specs.Machine.{State, Stay, Halt, Outcome, Accepted, Stopped, start, act_on, go_on, run, finish, use_kind, use_row, use_token, kind_of, counts_as_there, want_all, under_mark, with_row, is_too_deep, may_follow, stuck}

-- the symbols on a stack
abbrev wanted : List Frame → List Symbol
wanted [] = []
wanted (EndMark ∷ fs) = wanted fs
wanted (Want s first from ∷ fs) = s ∷ wanted fs

-- the token that the machine sees
abbrev leaf_of : Lookahead → Leaf
leaf_of t = token t.class t.newline_before

abbrev leaves_of : List Lookahead → List Leaf
leaves_of ts = map leaf_of ts

-- from these symbols the steps behind the first ones derive the tokens
abbrev Explained : List Frame → List Leaf → List Event → List Event → Type 0
Explained fs ls events all = (more : List Event) × (all ≡ events ++ more) × Derives (wanted fs) (leaves more ls) (rows_among more) × (tokens_among (leaves more ls) ≡ ls)

one_then : (es more : List Event) (e : Event) → (es ++ e ∷ []) ++ more ≡ es ++ e ∷ more
one_then [] more e = refl
one_then (x ∷ es) more e = ap (λ l. x ∷ l) (one_then es more e)

with_none : (es : List Event) → es ≡ es ++ []
with_none [] = refl
with_none (x ∷ es) = ap (λ l. x ∷ l) (with_none es)

wanted_all : (first : Class) (from : ℕ) (ss : List Symbol) (fs : List Frame) → wanted (want_all first from ss ++ fs) ≡ ss ++ wanted fs
wanted_all first from [] fs = refl
wanted_all first from (s ∷ ss) fs = ap (λ l. s ∷ l) (wanted_all first from ss fs)

wanted_mark : (b : Bool) (fs : List Frame) → wanted (under_mark b fs) ≡ wanted fs
wanted_mark true fs = refl
wanted_mark false fs = refl

terminal_of : (s : Symbol) (terminal : Terminal) → kind_of s ≡ TakesToken terminal → symbols.Take terminal ≡ s
terminal_of (symbols.Take t) terminal e = cc
terminal_of _ terminal e = cc

semicolon_of : (s : Symbol) → kind_of s ≡ Semicolon → symbols.Semi ≡ s
semicolon_of symbols.Semi e = refl
semicolon_of _ e = cc

is_semicolon_class : (c : Class) → is_among c (classes.Semicolon ∷ []) ≡ true → classes.Semicolon ≡ c
is_semicolon_class classes.Semicolon e = refl
is_semicolon_class _ e = cc

-- where all tokens are taken, the next of them is the first one among the leaves
first_is : (test : Class → Bool → Bool) (c : Class) (newline : Bool) (ls : List Leaf) (es : List Event)
    → tokens_among (leaves es (token c newline ∷ ls)) ≡ token c newline ∷ ls → test c newline ≡ true → first_token_is test (leaves es (token c newline ∷ ls)) ≡ true
first_is test c newline ls [] all e = cc
first_is test c newline ls (Row q ∷ es) all e = first_is test c newline ls es all e
first_is test c newline ls (Inserted ∷ es) all e = first_is test c newline ls es all e
first_is test c newline ls (Took ∷ es) all e = e

row_begins : (s : Symbol) (r : RowId) (c : Class) (newline : Bool) (ls : List Leaf) (es : List Event)
    → tokens_among (leaves es (token c newline ∷ ls)) ≡ token c newline ∷ ls → may_precede r c newline ≡ true → no_other_begins s r c newline ≡ true
    → may_begin s r (leaves es (token c newline ∷ ls)) ≡ true
row_begins s r c newline ls [] all p o = refl
row_begins s r c newline ls (Row q ∷ es) all p o = row_begins s r c newline ls es all p o
row_begins s r c newline ls (Inserted ∷ es) all p o = first_is (no_other_begins s r) c newline ls es all o
row_begins s r c newline ls (Took ∷ es) all p o = p

-- a token
by_token : (terminal : Terminal) (c : Class) (newline : Bool) (fs : List Frame) (ls : List Leaf) (s : Symbol) (first : Class) (from : ℕ) (events all : List Event)
    → kind_of s ≡ TakesToken terminal → takes_class terminal c ≡ true → Explained fs ls (events ++ Took ∷ []) all → Explained (Want s first from ∷ fs) (token c newline ∷ ls) events all
by_token terminal c newline fs ls s first from events all k e (more, same, d, tokens) = (
  Took ∷ more,
  same ∙ one_then events more Took,
  subst (λ s. Derives (s ∷ wanted fs) (leaves (Took ∷ more) (token c newline ∷ ls)) (rows_among more)) (terminal_of s terminal k) (takes terminal c newline (wanted fs) (leaves more ls) (rows_among more) e d),
  ap (λ l. token c newline ∷ l) tokens,
)

by_semicolon : (c : Class) (newline : Bool) (fs : List Frame) (ls : List Leaf) (s : Symbol) (first : Class) (from : ℕ) (events all : List Event)
    → kind_of s ≡ Semicolon → is_among c (classes.Semicolon ∷ []) ≡ true → Explained fs ls (events ++ Took ∷ []) all → Explained (Want s first from ∷ fs) (token c newline ∷ ls) events all
by_semicolon c newline fs ls s first from events all k e (more, same, d, tokens) = (
  Took ∷ more,
  same ∙ one_then events more Took,
  subst (λ c. Derives (s ∷ wanted fs) (leaves (Took ∷ more) (token c newline ∷ ls)) (rows_among more)) (is_semicolon_class c e)
      (subst (λ s. Derives (s ∷ wanted fs) (leaves (Took ∷ more) (token classes.Semicolon newline ∷ ls)) (rows_among more)) (semicolon_of s k) (semicolon newline (wanted fs) (leaves more ls) (rows_among more) d)),
  ap (λ l. token c newline ∷ l) tokens,
)

-- where the token is no semicolon, and one counts as there before it
may_count : (t : Lookahead) → is_among t.class (classes.Semicolon ∷ []) ≡ false → counts_as_there t ≡ true → counts_before t.class t.newline_before ≡ true
may_count t other there = and_both _ _ (ap not other) there

by_counting : (t : Lookahead) (fs : List Frame) (ls : List Leaf) (s : Symbol) (first : Class) (from : ℕ) (events all : List Event)
    → kind_of s ≡ Semicolon → is_among t.class (classes.Semicolon ∷ []) ≡ false → counts_as_there t ≡ true
    → Explained fs (leaf_of t ∷ ls) (events ++ Inserted ∷ []) all → Explained (Want s first from ∷ fs) (leaf_of t ∷ ls) events all
by_counting t fs ls s first from events all k other there (more, same, d, tokens) = (
  Inserted ∷ more,
  same ∙ one_then events more Inserted,
  subst (λ s. Derives (s ∷ wanted fs) (leaves (Inserted ∷ more) (leaf_of t ∷ ls)) (rows_among more)) (semicolon_of s k)
      (counts (wanted fs) (leaves more (leaf_of t ∷ ls)) (rows_among more) (first_is counts_before t.class t.newline_before ls more tokens (may_count t other there)) d),
  tokens,
)

by_row : (r : RowId) (c : Class) (newline : Bool) (ls : List Leaf) (s : Symbol) (first : Class) (from : ℕ) (st : State) (all : List Event)
    → row_of s c newline ≡ Some r → Explained (with_row r c st).stack (token c newline ∷ ls) (st.events ++ Row r ∷ []) all → Explained (Want s first from ∷ st.stack) (token c newline ∷ ls) st.events all
by_row r c newline ls s first from st all e (more, same, d, tokens) =
    let symbols_are = wanted_all c st.taken (row_symbols r) (under_mark (is_marked r) st.stack) ∙ ap (λ l. row_symbols r ++ l) (wanted_mark (is_marked r) st.stack) in (
      Row r ∷ more,
      same ∙ one_then st.events more (Row r),
      expands s r (wanted st.stack) (leaves more (token c newline ∷ ls)) (rows_among more) (chosen_in s c newline (alternatives s) r e)
          (row_begins s r c newline ls more tokens (taken_precedes s c newline r e) (taken_begins s c newline r e)) (subst (λ ss. Derives ss (leaves more (token c newline ∷ ls)) (rows_among more)) symbols_are d),
      tokens,
    )

stopped_not : {A : Type 0} (p : Stop) (all : List Event) → Some (Stopped p) ≡ Some (Accepted all) → A
stopped_not p all e = cc

-- what is known of the rest of a run
abbrev Here : List Leaf → List Event → (State → Option Outcome) → Type 0
Here ls all h = (st : State) → h st ≡ Some (Accepted all) → Explained st.stack ls st.events all

row_taken : (deep follows : Bool) (r : RowId) (s : Symbol) (first : Class) (from : ℕ) (t : Lookahead) (st : State) (ls : List Leaf) (all : List Event) (h g : State → Option Outcome)
    → Here (leaf_of t ∷ ls) all h → row_of s t.class t.newline_before ≡ Some r
    → go_on (cond deep (Halt (TooDeep t.at)) (cond follows (Stay (with_row r t.class st)) (Halt (Syntax t.at)))) h g ≡ Some (Accepted all) → Explained (Want s first from ∷ st.stack) (leaf_of t ∷ ls) st.events all
row_taken true follows r s first from t st ls all h g here is e = stopped_not (TooDeep t.at) all e
row_taken false true r s first from t st ls all h g here is e = by_row r t.class t.newline_before ls s first from st all is (here _ e)
row_taken false false r s first from t st ls all h g here is e = stopped_not (Syntax t.at) all e

row_used : (o : Option RowId) (s : Symbol) (first : Class) (from : ℕ) (t : Lookahead) (st : State) (ls : List Leaf) (all : List Event) (h g : State → Option Outcome)
    → Here (leaf_of t ∷ ls) all h → row_of s t.class t.newline_before ≡ o
    → go_on (use_row o s first from t st) h g ≡ Some (Accepted all) → Explained (Want s first from ∷ st.stack) (leaf_of t ∷ ls) st.events all
row_used None s first from t st ls all h g here is e = stopped_not (stuck s st.before t) all e
row_used (Some r) s first from t st ls all h g here is e = row_taken (is_too_deep r st.stack) (may_follow r first from st) r s first from t st ls all h g here is e

token_used : (b : Bool) (s : Symbol) (first : Class) (from : ℕ) (t : Lookahead) (st : State) (ls : List Leaf) (all : List Event) (h g : State → Option Outcome)
    → Here ls all g → (b ≡ true → Explained st.stack ls (st.events ++ Took ∷ []) all → Explained (Want s first from ∷ st.stack) (leaf_of t ∷ ls) st.events all)
    → go_on (use_token b s from t st) h g ≡ Some (Accepted all) → Explained (Want s first from ∷ st.stack) (leaf_of t ∷ ls) st.events all
token_used true s first from t st ls all h g next by e = by refl (next _ e)
token_used false s first from t st ls all h g next by e = stopped_not (stuck s st.before t) all e

semicolon_used : (a b : Bool) (s : Symbol) (first : Class) (from : ℕ) (t : Lookahead) (st after : State) (ls : List Leaf) (all : List Event) (h g : State → Option Outcome)
    → Here (leaf_of t ∷ ls) all h → Here ls all g
    → (a ≡ true → Explained st.stack ls (st.events ++ Took ∷ []) all → Explained (Want s first from ∷ st.stack) (leaf_of t ∷ ls) st.events all)
    → (a ≡ false → b ≡ true → Explained after.stack (leaf_of t ∷ ls) after.events all → Explained (Want s first from ∷ st.stack) (leaf_of t ∷ ls) st.events all)
    → go_on (cond a (use_token true s from t st) (cond b (Stay after) (use_token false s from t st))) h g ≡ Some (Accepted all) → Explained (Want s first from ∷ st.stack) (leaf_of t ∷ ls) st.events all
semicolon_used true b s first from t st after ls all h g here next taken inserted e = taken refl (next _ e)
semicolon_used false true s first from t st after ls all h g here next taken inserted e = inserted refl refl (here _ e)
semicolon_used false false s first from t st after ls all h g here next taken inserted e = stopped_not (stuck s st.before t) all e

kind_used : (k : Kind) (s : Symbol) (first : Class) (from : ℕ) (t : Lookahead) (st : State) (ls : List Leaf) (all : List Event) (h g : State → Option Outcome)
    → Here (leaf_of t ∷ ls) all h → Here ls all g → kind_of s ≡ k
    → go_on (use_kind k s first from t st) h g ≡ Some (Accepted all) → Explained (Want s first from ∷ st.stack) (leaf_of t ∷ ls) st.events all
kind_used (TakesToken terminal) s first from t st ls all h g here next k e =
    token_used (takes_class terminal t.class) s first from t st ls all h g next (λ is. by_token terminal t.class t.newline_before st.stack ls s first from st.events all k is) e
kind_used Semicolon s first from t st ls all h g here next k e =
    semicolon_used (is_among t.class (classes.Semicolon ∷ [])) (counts_as_there t) s first from t st _ ls all h g here next
    (λ is. by_semicolon t.class t.newline_before st.stack ls s first from st.events all k is) (by_counting t st.stack ls s first from st.events all k) e
kind_used Expands s first from t st ls all h g here next k e = row_used (row_of s t.class t.newline_before) s first from t st ls all h g here refl e

stack_used : (fs : List Frame) (t : Lookahead) (st : State) (ls : List Leaf) (all : List Event) (h g : State → Option Outcome)
    → Here (leaf_of t ∷ ls) all h → Here ls all g
    → go_on (act_on fs t st) h g ≡ Some (Accepted all) → Explained fs (leaf_of t ∷ ls) st.events all
stack_used [] t st ls all h g here next e = stopped_not (Syntax t.at) all e
stack_used (EndMark ∷ fs) t st ls all h g here next e = here _ e
stack_used (Want s first from ∷ fs) t st ls all h g here next e = kind_used (kind_of s) s first from t _ ls all h g here next refl e

same_events : {events all : List Event} → Some (Accepted events) ≡ Some (Accepted all) → all ≡ events
same_events e = cc

finished : (over : ℕ) (fs : List Frame) (events all : List Event) → Some (finish over fs events) ≡ Some (Accepted all) → Explained fs [] events all
finished over [] events all e = ([], same_events e ∙ with_none events, nothing, refl)
finished over (f ∷ fs) events all e = stopped_not (Syntax over) all e

not_done : {A : Type 0} (all : List Event) → None ≡ Some (Accepted all) → A
not_done all e = cc

explained : (n over : ℕ) (ts : List Lookahead) (st : State) (all : List Event) → run n over ts st ≡ Some (Accepted all) → Explained st.stack (leaves_of ts) st.events all
explained n over [] st all e = finished over st.stack st.events all e
explained zero over (t ∷ ts) st all e = not_done all e
explained (suc n) over (t ∷ ts) st all e =
    stack_used st.stack t st (leaves_of ts) all (run n over (t ∷ ts)) (run n over ts) (λ st. explained n over (t ∷ ts) st all) (λ st. explained n over ts st all) e

leaves_seen : (text : List ℕ) (ts : List Token) → leaves_of (seen text ts) ≡ tokens_in text ts
leaves_seen text [] = refl
leaves_seen text (t ∷ ts) = ap (λ l. token_in text t ∷ l) (leaves_seen text ts)

-- the whole run, from the start
abbrev Whole : List Leaf → List Event → Type 0
Whole ls all = Derives (symbols.Script ∷ []) (leaves all ls) (rows_among all) × (tokens_among (leaves all ls) ≡ ls)

from_start : (ls : List Leaf) (all : List Event) → Explained (Want symbols.Script classes.End 0 ∷ []) ls [] all → Whole ls all
from_start ls all (more, same, d, tokens) = subst (Whole ls) (sym same) (d, tokens)

pub whole : (text : List ℕ) (ts : List Token) (all : List Event) (n over : ℕ) → run n over (seen text ts) start ≡ Some (Accepted all) → Whole (tokens_in text ts) all
whole text ts all n over e = from_start (tokens_in text ts) all (subst (λ ls. Explained start.stack ls [] all) (leaves_seen text ts) (explained n over (seen text ts) start all e))
