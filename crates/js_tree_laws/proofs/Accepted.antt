-- What the machine accepts has a tree: what is left of a run makes parts that suit the stack.
use Rattle.std.proofs.Common.{◌≡◌, ℕ, suc, ◌≤◌, ◌<◌, Bool, true, false, not, ◌&&◌, inl, inr, List, [], ◌∷◌, ◌++◌, reverse, Option, Some, None, Ok, refl, sym, ap, ◌∙◌, subst, arith, append_assoc}
use Rattle.std.proofs.lemmas.List.{reverse-append}
use Rattle.std.specs.Prelude.{◌==◌}
use Rattle.std.specs.List.{list_all}
use Rattle.std.proofs.lemmas.Bool.{eqb-true}
use Rattle.js_grammar.specs.declared.class.Class.{Class}
use Rattle.js_grammar.specs.declared.class.Class.TheVariants as classes
use Rattle.js_grammar.specs.declared.symbols.Terminal.{Terminal}
use Rattle.js_grammar.specs.declared.symbols.Terminal.TheVariants as terminals
use Rattle.js_grammar.specs.declared.symbols.Symbol.{Symbol}
use Rattle.js_grammar.specs.declared.symbols.Symbol.TheVariants as symbols
use Rattle.js_grammar.specs.declared.symbols.RowId.{RowId}
use Rattle.js_grammar.specs.declared.symbols.RowId.TheVariants as rows
use Rattle.js_grammar.specs.Classes.{takes_class, is_among}
use Rattle.js_grammar.specs.Choice.{row_of}
use Rattle.js_grammar.specs.Rows.{row_symbols, is_marked}
use Rattle.js_machine.specs.declared.events.Frame.{Frame}
use Rattle.js_machine.specs.declared.events.Frame.TheVariants.{Want, EndMark}
use Rattle.js_machine.specs.declared.events.Event.{Event}
use Rattle.js_machine.specs.declared.events.Event.TheVariants.{Row, Took, Inserted}
use Rattle.js_machine.specs.declared.lookahead.Lookahead.{Lookahead}
use Rattle.js_machine.specs.Left.{is_behind}
use Rattle.js_machine.specs.Machine.{State, want_all, under_mark, with_row, with_token, may_follow, is_one_identifier, is_one_head}
use Rattle.js_machine.proofs.Work.{vanishes}
use Rattle.js_tree.specs.Image.{image, event_part, leaf_part, row_part}
use Rattle.js_tree.specs.Nodes.{Maker}
use Rattle.js_tree.specs.Results.{◌>>=◌}
use Rattle.js_tree.specs.declared.leaf.Leaf.{Leaf}
use Rattle.js_tree.specs.declared.parts.Part.{Part}
use Rattle.js_tree.specs.declared.parts.Part.TheVariants as parts
use Rattle.js_tree_laws.proofs.Sorts.{IsMaker, Safely, LeafIs, leads}
use Rattle.js_tree_laws.proofs.Roles.{leads_true}
use Rattle.js_tree_laws.proofs.Shapes.{and_left, and_right, either, three}
use Rattle.js_tree_laws.proofs.Safe.{safely_bind, among_one}
use Rattle.js_tree_laws.proofs.Suits.{Left, NameAt, HeadAt, is_name, is_head, after, after_by, StandsAt, NameStandsAt, Suits, Chain, is_late, OpenAt, Open, passes_head, is_ready, in_chain, is_new, Linked}
use Rattle.js_tree_laws.proofs.Apart.{open_under, all_open, from_after}
use Rattle.js_tree_laws.proofs.Rowwise.{class_ok, OnArrow, Followed, Here}
use Rattle.js_tree_laws.proofs.Leading.{Goes, Ended, Unmarked, Expanded, Taken, Separated, Counted}
use Rattle.js_tree_laws.proofs.EachRow.{row_goal, row_linked, row_guarded, row_ok, ok_at}

-- what the tokens that are left tell
abbrev pub LeavesAre : List Lookahead → List Leaf → Type 0
LeavesAre [] [] = Unit {0}
LeavesAre (t ∷ ts) (l ∷ ls) = LeafIs t.class l × LeavesAre ts ls
LeavesAre [] (l ∷ ls) = ⊥
LeavesAre (t ∷ ts) [] = ⊥

abbrev pub ArrowNext : Left → List Lookahead → Type 0
ArrowNext o [] = Unit {0}
ArrowNext o (t ∷ ts) = OnArrow t.class t.newline_before o

-- what the machine takes for one name or one head was left
abbrev pub OneName : ℕ → Class → ℕ → Type 0
OneName taken first from = (takes_class terminals.Ident first && (taken == suc from)) ≡ true

abbrev pub OneHead : Option Class → ℕ → Class → ℕ → Type 0
OneHead before k first from = (is_among first (classes.HeadParen ∷ []) && is_behind (classes.CloseParen ∷ []) before && (k == from)) ≡ true

abbrev pub Agree : ℕ → Option Class → ℕ → Left → List Frame → Type 0
Agree taken before k o [] = Unit {0}
Agree taken before k o (EndMark ∷ fs) = Agree taken before k o fs
Agree taken before k o (Want s first from ∷ fs) = (OneName taken first from → o ≡ NameAt from) × (OneHead before k first from → o ≡ HeadAt from) × Agree taken before k o fs

pub record Facts (c : Class) (fs : List Frame) (taken : ℕ) (before : Option Class) (k : ℕ) : Type 0 where
  pub chain : Chain c taken fs
  pub linked : Linked fs
  pub late : Open taken fs
  pub closed : is_behind (classes.CloseParen ∷ []) before ≡ true → k < taken

abbrev pub Sound : Class → List Frame → State → Type 0
Sound c fs st = Facts c fs st.taken st.before st.row_from

abbrev pub is_function : Symbol → Bool
is_function symbols.Function = true
is_function _ = false

-- an arrow comes behind each head: a fact of stacks and of the tokens that are left
pub record Closes (K : List Frame → List Lookahead → Type 0) : Type 0 where
  pub mark : (fs : List Frame) (ts : List Lookahead) → K (EndMark ∷ fs) ts → K fs ts
  pub row : (s : Symbol) (first : Class) (from n : ℕ) (fs : List Frame) (t : Lookahead) (ts : List Lookahead) (r : RowId) (b : Bool) → row_of s t.class t.newline_before ≡ Some r → (is_function s ≡ true → takes_class (terminals.One classes.Function) t.class ≡ true) → K (Want s first from ∷ fs) (t ∷ ts) → K (want_all t.class n (row_symbols r) ++ under_mark b fs) (t ∷ ts)
  pub inserted : (first : Class) (from : ℕ) (fs : List Frame) (ts : List Lookahead) → K (Want symbols.Semi first from ∷ fs) ts → K fs ts
  pub semicolon : (first : Class) (from : ℕ) (fs : List Frame) (t : Lookahead) (ts : List Lookahead) → is_among t.class (classes.Semicolon ∷ []) ≡ true → K (Want symbols.Semi first from ∷ fs) (t ∷ ts) → K fs ts
  pub token : (x : Terminal) (first : Class) (from : ℕ) (fs : List Frame) (t : Lookahead) (ts : List Lookahead) → takes_class x t.class ≡ true → K (Want (symbols.Take x) first from ∷ fs) (t ∷ ts) → K fs ts
  pub arrow : (x : Terminal) (first : Class) (from : ℕ) (fs : List Frame) (t : Lookahead) (ts : List Lookahead) → takes_class x t.class ≡ true → K (Want (symbols.Take x) first from ∷ fs) (t ∷ ts) → ArrowNext (after x first from) ts

-- what is left of a run makes parts that suit the stack
abbrev pub Made : Maker → List Frame → State → List Lookahead → List Leaf → List Event → Type 0
Made m fs st ts ls more =
    (o : Left) → ArrowNext o ts → Agree st.taken st.before st.row_from o fs → (back : List Leaf)
    → Safely (λ s. (s.0 ≡ back) × Suits m fs o s.1) (image m (reverse ls ++ back) more)

-- the stack's facts, step by step
chain_lift : (c first : Class) (n from : ℕ) (fs : List Frame) → from ≤ n → (from ≡ n → first ≡ c) → Chain first from fs → Chain c n fs
chain_lift c first n from [] least same chain = tt
chain_lift c first n from (EndMark ∷ fs) least same chain = chain_lift c first n from fs least same chain
chain_lift c first n from (Want s f k ∷ fs) least same (below, here, chain) = (omega arith, λ e. let a : k ≡ from = omega arith in let b : from ≡ n = omega arith in here a ∙ same b, chain)

chain_push : (c : Class) (n : ℕ) (ss : List Symbol) (fs : List Frame) → Chain c n fs → Chain c n (want_all c n ss ++ fs)
chain_push c n [] fs chain = chain
chain_push c n (s ∷ ss) fs chain = (omega arith, λ e. refl, chain_push c n ss fs chain)

chain_mark : (c : Class) (n : ℕ) (b : Bool) (fs : List Frame) → Chain c n fs → Chain c n (under_mark b fs)
chain_mark c n true fs chain = chain
chain_mark c n false fs chain = chain

chain_next : (c d : Class) (n : ℕ) (fs : List Frame) → Chain c n fs → Chain d (suc n) fs
chain_next c d n [] chain = tt
chain_next c d n (EndMark ∷ fs) chain = chain_next c d n fs chain
chain_next c d n (Want s first from ∷ fs) (below, same, chain) = (omega arith, λ e. absurd (omega arith), chain)

linked_push : (s : Symbol) (c : Class) (n : ℕ) (ss : List Symbol) (fs : List Frame) → row_linked s ss ≡ true → (in_chain s ≡ true → is_ready fs ≡ true) → Linked fs → Linked (want_all c n ss ++ fs)
linked_push s c n [] fs e ready linked = linked
linked_push s c n (x ∷ []) fs e ready linked = (λ is. ready (leads_true (in_chain x) (in_chain s) e is), linked)
linked_push s c n (x ∷ y ∷ ss) fs e ready linked = (leads_true (in_chain x) (passes_head y) (and_left (leads (in_chain x) (passes_head y)) (row_linked s (y ∷ ss)) e), linked_push s c n (y ∷ ss) fs (and_right (leads (in_chain x) (passes_head y)) (row_linked s (y ∷ ss)) e) ready linked)

linked_mark : (b : Bool) (fs : List Frame) → Linked fs → Linked (under_mark b fs)
linked_mark true fs linked = linked
linked_mark false fs linked = linked

ready_mark : (b : Bool) (fs : List Frame) → is_ready fs ≡ true → is_ready (under_mark b fs) ≡ true
ready_mark true fs e = e
ready_mark false fs e = e

open_first : (l b : Bool) (n from : ℕ) (K : Type 0) (a : Bool) (rest : Bool) → (not l && leads b rest) ≡ true → (rest ≡ true → (b && a) ≡ a → K) → OpenAt l b n from K
open_first true b n from K a rest e next = cc
open_first false true n from K a rest e next = next e refl
open_first false false n from K a rest e next = tt

open_push : (c : Class) (n : ℕ) (ss : List Symbol) (fs : List Frame) → row_guarded ss ≡ true → (list_all vanishes ss ≡ true → Open n fs) → Open n (want_all c n ss ++ fs)
open_push c n [] fs e late = late refl
open_push c n (s ∷ ss) fs e late =
    open_first (is_late s) (vanishes s) n n (Open n (want_all c n ss ++ fs)) (list_all vanishes ss) (row_guarded ss) e (λ rest same. open_push c n ss fs rest (λ v. late (same ∙ v)))

open_mark : (n : ℕ) (b : Bool) (fs : List Frame) → Open n fs → Open n (under_mark b fs)
open_mark n true fs late = late
open_mark n false fs late = late

open_at_mark : (l v : Bool) (n from : ℕ) (b : Bool) (fs : List Frame) → OpenAt l v n from (Open n fs) → OpenAt l v n from (Open n (under_mark b fs))
open_at_mark l v n from true fs late = late
open_at_mark l v n from false fs late = late

unmark : (m : Maker) (s : Symbol) (first : Class) (from : ℕ) (b : Bool) (fs : List Frame) (o : Left) (ps : List Part) → Suits m (Want s first from ∷ under_mark b fs) o ps → Suits m (Want s first from ∷ fs) o ps
unmark m s first from true fs o [] is = is
unmark m s first from true fs o (p ∷ ps) is = is
unmark m s first from false fs o ps is = is

-- a row
pub not_next : {A : Type 0} (n : ℕ) (a : Bool) → (a && (n == suc n)) ≡ true → A
not_next n a e = let same : n ≡ suc n = eqb-true n (suc n) (and_right a (n == suc n) e) in absurd (omega arith)

not_here : {A : Type 0} (before : Option Class) (k n : ℕ) (a : Bool) → (is_behind (classes.CloseParen ∷ []) before ≡ true → k < n) → (a && is_behind (classes.CloseParen ∷ []) before && (k == n)) ≡ true → A
not_here before k n a closed e =
    let h = three a (is_behind (classes.CloseParen ∷ []) before) (k == n) e in
    let below : k < n = closed h.1 in
    let same : k ≡ n = eqb-true k n h.2 in absurd (omega arith)

agree_mark : (n : ℕ) (before : Option Class) (k : ℕ) (o : Left) (b : Bool) (fs : List Frame) → Agree n before k o fs → Agree n before k o (under_mark b fs)
agree_mark n before k o true fs agree = agree
agree_mark n before k o false fs agree = agree

agree_push : (c : Class) (n : ℕ) (before : Option Class) (k : ℕ) (o : Left) (ss : List Symbol) (fs : List Frame) → (is_behind (classes.CloseParen ∷ []) before ≡ true → k < n) → Agree n before k o fs → Agree n before k o (want_all c n ss ++ fs)
agree_push c n before k o [] fs closed agree = agree
agree_push c n before k o (s ∷ ss) fs closed agree =
    (λ e. not_next n (takes_class terminals.Ident c) e, λ e. not_here before k n (is_among c (classes.HeadParen ∷ [])) closed e, agree_push c n before k o ss fs closed agree)

followed : (r : RowId) (first : Class) (from : ℕ) (st : State) (o : Left) → may_follow r first from st ≡ true → (OneName st.taken first from → o ≡ NameAt from) → (OneHead st.before st.row_from first from → o ≡ HeadAt from) → Followed r from o
followed (rows.AssignTailArrow q) first from st o e one head =
    elim (either (is_one_identifier first from st) (is_one_head first from st) e) [
      | inl h ↦ subst (StandsAt from) (sym (one h)) refl
      | inr h ↦ subst (StandsAt from) (sym (head h)) refl
    ]
followed rows.LabelBody first from st o e one head = subst (NameStandsAt from) (sym (one e)) refl
followed _ first from st o e one head = tt

four : (a b c d : Bool) → (a && b && c && d) ≡ true → (a ≡ true) × (b ≡ true) × (c ≡ true) × (d ≡ true)
four true true true true e = (refl, refl, refl, refl)
four true true true false e = cc
four true true false d e = cc
four true false c d e = cc
four false b c d e = cc

row_facts : (s : Symbol) (first : Class) (from : ℕ) (c : Class) (newline : Bool) (r : RowId) (st : State) → row_ok s c newline r ≡ true → Sound c (Want s first from ∷ st.stack) st → Sound c (want_all c st.taken (row_symbols r) ++ under_mark (is_marked r) st.stack) st
row_facts s first from c newline r st ok sound =
    let f = four (class_ok s c newline r) (row_linked s (row_symbols r)) (row_guarded (row_symbols r)) (leads (list_all vanishes (row_symbols r)) (vanishes s)) ok in
    record {
      chain = chain_push c st.taken (row_symbols r) (under_mark (is_marked r) st.stack) (chain_mark c st.taken (is_marked r) st.stack (chain_lift c first st.taken from st.stack sound.chain.0 sound.chain.1 sound.chain.2));
      linked = linked_push s c st.taken (row_symbols r) (under_mark (is_marked r) st.stack) f.1 (λ is. ready_mark (is_marked r) st.stack (sound.linked.0 is)) (linked_mark (is_marked r) st.stack sound.linked.1);
      late = open_push c st.taken (row_symbols r) (under_mark (is_marked r) st.stack) f.2 (λ v. open_mark st.taken (is_marked r) st.stack (open_under (is_late s) (vanishes s) st.taken from (Open st.taken st.stack) (leads_true (list_all vanishes (row_symbols r)) (vanishes s) f.3 v) sound.late));
      closed = sound.closed;
    }

row_made : (m : Maker) → IsMaker m → (s : Symbol) (first : Class) (from : ℕ) (t : Lookahead) (ts : List Lookahead) (ls : List Leaf) (r : RowId) (st : State) (more : List Event)
    → row_of s t.class t.newline_before ≡ Some r → row_ok s t.class t.newline_before r ≡ true → may_follow r first from st ≡ true → Sound t.class (Want s first from ∷ st.stack) st
    → Made m (with_row r t.class st).stack (with_row r t.class st) (t ∷ ts) ls more → Made m (Want s first from ∷ st.stack) st (t ∷ ts) ls (Row r ∷ more)
row_made m maker s first from t ts ls r st more is ok may sound made = λ o arrow agree back.
    let rest = under_mark (is_marked r) st.stack in
    let facts = row_facts s first from t.class t.newline_before r st ok sound in
    let f = four (class_ok s t.class t.newline_before r) (row_linked s (row_symbols r)) (row_guarded (row_symbols r)) (leads (list_all vanishes (row_symbols r)) (vanishes s)) ok in
    let here : Here s r t.class st.taken t.newline_before first from rest o = record {
      ok = f.0;
      least = sound.chain.0;
      same = sound.chain.1;
      chain = chain_mark t.class st.taken (is_marked r) st.stack (chain_lift t.class first st.taken from st.stack sound.chain.0 sound.chain.1 sound.chain.2);
      chain_all = facts.chain;
      linked = facts.linked;
      late = open_at_mark (is_late s) (vanishes s) st.taken from (is_marked r) st.stack sound.late;
      arrow = arrow;
      follows = followed r first from st o may agree.0 agree.1;
    } in
    safely_bind (λ x. (x.0 ≡ back) × Suits m (with_row r t.class st).stack o x.1) (λ x. (x.0 ≡ back) × Suits m (Want s first from ∷ st.stack) o x.1) (image m (reverse ls ++ back) more) (event_part m (Row r))
    (made o arrow (agree_push t.class st.taken st.before st.row_from o (row_symbols r) rest sound.closed (agree_mark st.taken st.before st.row_from o (is_marked r) st.stack agree.2)) back)
    (λ x suits. safely_bind (Suits m (Want s first from ∷ rest) o) (λ x. (x.0 ≡ back) × Suits m (Want s first from ∷ st.stack) o x.1) (row_part m r x.1) (λ ps. Ok (x.0, ps))
    (row_goal m maker s t.class t.newline_before r is t.class st.taken t.newline_before first from rest o x.1 here suits.1)
    (λ ps good. (suits.0, unmark m s first from (is_marked r) st.stack o ps good)))

-- a token
name_by : (a b d : Bool) (n : ℕ) → a ≡ true → b ≡ true → after_by (a && b) d n ≡ NameAt n
name_by true true d n e f = refl
name_by true false d n e f = cc
name_by false b d n e f = cc

head_by : (a b : Bool) (n : ℕ) → b ≡ true → after_by (a && false) (b && true) n ≡ HeadAt n
head_by true true n e = refl
head_by false true n e = refl
head_by a false n e = cc

after_head : (x : Terminal) (first : Class) (from : ℕ) → first ≡ classes.HeadParen → takes_class x classes.CloseParen ≡ true → after x first from ≡ HeadAt from
after_head x first from e takes = ap (λ c. after x c from) e ∙ head_by (takes_class x classes.HeadParen) (takes_class x classes.CloseParen) from takes

agree_token : (x : Terminal) (first : Class) (from : ℕ) (c : Class) (n : ℕ) (fs : List Frame) → from ≤ n → (from ≡ n → first ≡ c) → takes_class x c ≡ true → Chain first from fs → Agree (suc n) (Some c) from (after x first from) fs
agree_token x first from c n [] least same takes chain = tt
agree_token x first from c n (EndMark ∷ fs) least same takes chain = agree_token x first from c n fs least same takes chain
agree_token x first from c n (Want s f k ∷ fs) least same takes (below, here, chain) = (
  λ e.
      let next : suc n ≡ suc k = eqb-true (suc n) (suc k) (and_right (takes_class terminals.Ident f) (suc n == suc k) e) in
      let up : k ≡ from = omega arith in
      let now : from ≡ n = omega arith in
      let f_is : f ≡ first = here up in
      let named : is_name first ≡ true = subst (λ c. is_name c ≡ true) f_is (and_left (is_name f) (suc n == suc k) e) in
      let taken : takes_class x first ≡ true = subst (λ c. takes_class x c ≡ true) (sym (same now)) takes in
      name_by (takes_class x first) (is_name first) (takes_class x classes.CloseParen && is_head first) from taken named ∙ ap NameAt (sym up),
  λ e.
      let h = three (is_among f (classes.HeadParen ∷ [])) (is_among c (classes.CloseParen ∷ [])) (from == k) e in
      let at : from ≡ k = eqb-true from k h.2 in
      let f_is : f ≡ first = here (sym at) in
      let head : first ≡ classes.HeadParen = sym f_is ∙ among_one f classes.HeadParen h.0 in
      let closes : takes_class x classes.CloseParen ≡ true = subst (λ c. takes_class x c ≡ true) (among_one c classes.CloseParen h.1) takes in
      after_head x first from head closes ∙ ap HeadAt at,
  agree_token x first from c n fs least same takes (chain_lift first f from k fs below here chain),
)

rev_one : (l : Leaf) (ls back : List Leaf) → reverse (l ∷ ls) ++ back ≡ reverse ls ++ (l ∷ back)
rev_one l ls back = ap (λ x. x ++ back) (reverse-append (l ∷ []) ls) ∙ append_assoc (reverse ls) (l ∷ []) back

-- a token or a semicolon that is taken
leaf_made : (m : Maker) (s : Symbol) (x : Terminal) (first : Class) (from : ℕ) (t : Lookahead) (ts : List Lookahead) (l : Leaf) (ls : List Leaf) (st : State) (more : List Event)
    → takes_class x t.class ≡ true → Sound t.class (Want s first from ∷ st.stack) st → ArrowNext (after x first from) ts
    → ((o : Left) (ps : List Part) → Suits m st.stack (after x first from) ps → Suits m (Want s first from ∷ st.stack) o (parts.Token l ∷ ps))
    → Made m st.stack (with_token t.class from st) ts ls more → Made m (Want s first from ∷ st.stack) st (t ∷ ts) (l ∷ ls) (Took ∷ more)
leaf_made m s x first from t ts l ls st more takes sound next put made = λ o arrow agree back.
    subst (λ a. Safely (λ y. (y.0 ≡ back) × Suits m (Want s first from ∷ st.stack) o y.1) (image m a more >>= event_part m Took)) (sym (rev_one l ls back))
    (safely_bind (λ y. (y.0 ≡ l ∷ back) × Suits m st.stack (after x first from) y.1) (λ y. (y.0 ≡ back) × Suits m (Want s first from ∷ st.stack) o y.1) (image m (reverse ls ++ (l ∷ back)) more) (event_part m Took)
    (made (after x first from) next (agree_token x first from t.class st.taken st.stack sound.chain.0 sound.chain.1 takes sound.chain.2) (l ∷ back))
    (λ y is. subst (λ a. Safely (λ y. (y.0 ≡ back) × Suits m (Want s first from ∷ st.stack) o y.1) (leaf_part a y.1)) (sym is.0) (refl, put o y.1 is.1)))

arrow_free : (a : Bool) (n : ℕ) (ts : List Lookahead) → ArrowNext (after_by a false n) ts
arrow_free a n [] = tt
arrow_free true n (t ∷ ts) = tt
arrow_free false n (t ∷ ts) = tt

inserted_made : (m : Maker) (first : Class) (from : ℕ) (ts : List Lookahead) (ls : List Leaf) (fs : List Frame) (st after : State) (more : List Event) → after.taken ≡ st.taken → after.before ≡ st.before → after.row_from ≡ st.row_from
    → Made m fs st ts ls more → Made m (Want symbols.Semi first from ∷ fs) st ts ls (Inserted ∷ more)
inserted_made m first from ts ls fs st after more a b c made = λ o arrow agree back.
    safely_bind (λ y. (y.0 ≡ back) × Suits m fs o y.1) (λ y. (y.0 ≡ back) × Suits m (Want symbols.Semi first from ∷ fs) o y.1) (image m (reverse ls ++ back) more) (event_part m Inserted)
    (made o arrow agree.2 back) (λ y is. (is.0, (tt, inl (refl, is.1))))

-- the facts of the stack behind a step
sound_pop : (s : Symbol) (first : Class) (from : ℕ) (c : Class) (fs : List Frame) (st : State) → vanishes s ≡ true → Sound c (Want s first from ∷ fs) st → Sound c fs st
sound_pop s first from c fs st v sound = record {
  chain = chain_lift c first st.taken from fs sound.chain.0 sound.chain.1 sound.chain.2;
  linked = sound.linked.1;
  late = open_under (is_late s) (vanishes s) st.taken from (Open st.taken fs) v sound.late;
  closed = sound.closed;
}

sound_next : (s : Symbol) (first : Class) (from : ℕ) (c d : Class) (st : State) → Sound c (Want s first from ∷ st.stack) st → Sound d st.stack (with_token c from st)
sound_next s first from c d st sound =
    let chain = chain_lift c first st.taken from st.stack sound.chain.0 sound.chain.1 sound.chain.2 in
    record {
      chain = chain_next c d st.taken st.stack chain;
      linked = sound.linked.1;
      late = all_open c st.taken (suc st.taken) st.stack chain (omega arith);
      closed = λ e. omega (arith, sound.chain.0);
    }

-- the facts of the stack, where a token is left
abbrev pub SoundAt : List Lookahead → State → Type 0
SoundAt [] st = Unit {0}
SoundAt (t ∷ ts) st = Sound t.class st.stack st

sound_at : (ts : List Lookahead) (st : State) → ((c : Class) → Sound c st.stack st) → SoundAt ts st
sound_at [] st all = tt
sound_at (t ∷ ts) st all = all t.class

-- the token that the symbol on top takes, if the run is accepted
abbrev FirstTaken : Terminal → List Lookahead → Type 0
FirstTaken x [] = Unit {0}
FirstTaken x (t ∷ ts) = takes_class x t.class ≡ true

first_taken : (st : State) (ts : List Lookahead) (es : List Event) → Goes st ts es → (x : Terminal) (first : Class) (from : ℕ) (fs : List Frame) → st.stack ≡ Want (symbols.Take x) first from ∷ fs → FirstTaken x ts
first_taken _ _ _ (Ended st e) x first from fs is = tt
first_taken _ _ _ (Unmarked st t ts es d) x first from fs is = cc
first_taken _ _ _ (Expanded s f k r st t ts es row may d) x first from fs is = let same : s ≡ symbols.Take x = cc in let none : None ≡ Some r = subst (λ s. row_of s t.class t.newline_before ≡ Some r) same row in cc
first_taken _ _ _ (Taken y f k st t ts es takes d) x first from fs is = let same : y ≡ x = cc in subst (λ y. takes_class y t.class ≡ true) same takes
first_taken _ _ _ (Separated f k st t ts es takes d) x first from fs is = cc
first_taken _ _ _ (Counted f k st t ts es d) x first from fs is = cc

new_row : (s : Symbol) (c : Class) (newline : Bool) (r : RowId) → is_new s ≡ true → row_of s c newline ≡ Some r → rows.New ≡ r
new_row symbols.New c newline r e is = cc
new_row _ c newline r e is = cc

function_row : (s : Symbol) (c : Class) (newline : Bool) (r : RowId) → is_function s ≡ true → row_of s c newline ≡ Some r → rows.Function ≡ r
function_row symbols.Function c newline r e is = cc
function_row _ c newline r e is = cc

-- each step of a run that ends well
pub builds : (m : Maker) → IsMaker m → (K : List Frame → List Lookahead → Type 0) → Closes K → (st : State) (ts : List Lookahead) (es : List Event) → Goes st ts es
    → (ls : List Leaf) → LeavesAre ts ls → SoundAt ts st → K st.stack ts → Made m st.stack st ts ls es
builds m maker K closes _ _ _ (Ended st e) [] leaves sound k = λ o arrow agree back. (refl, subst (λ fs. Suits m fs o []) (sym e) refl)
builds m maker K closes _ _ _ (Ended st e) (l ∷ ls) leaves sound k = absurd leaves
builds m maker K closes _ _ _ (Unmarked st t ts es d) ls leaves sound k =
    builds m maker K closes st (t ∷ ts) es d ls leaves (record { chain = sound.chain; linked = sound.linked; late = sound.late; closed = sound.closed }) (closes.mark st.stack (t ∷ ts) k)
builds m maker K closes _ _ _ (Expanded s first from r st t ts es is may d) ls leaves sound k =
    let ok = ok_at s t.class t.newline_before r is (λ n. first_taken (with_row r t.class st) (t ∷ ts) es d (terminals.One classes.New) t.class st.taken _ (sym (ap (λ r. (with_row r t.class st).stack) (new_row s t.class t.newline_before r n is)))) in
    let above = closes.row s first from st.taken st.stack t ts r (is_marked r) is (λ n. first_taken (with_row r t.class st) (t ∷ ts) es d (terminals.One classes.Function) t.class st.taken _ (sym (ap (λ r. (with_row r t.class st).stack) (function_row s t.class t.newline_before r n is)))) k in
    row_made m maker s first from t ts ls r st es is ok may sound (builds m maker K closes (with_row r t.class st) (t ∷ ts) es d ls leaves (row_facts s first from t.class t.newline_before r st ok sound) above)
builds m maker K closes _ _ _ (Taken x first from st t ts es takes d) [] leaves sound k = absurd leaves
builds m maker K closes _ _ _ (Taken x first from st t ts es takes d) (l ∷ ls) leaves sound k =
    leaf_made m (symbols.Take x) x first from t ts l ls st es takes sound (closes.arrow x first from st.stack t ts takes k) (λ o ps is. ((t.class, takes, leaves.0), is))
    (builds m maker K closes (with_token t.class from st) ts es d ls leaves.1 (sound_at ts (with_token t.class from st) (λ c. sound_next (symbols.Take x) first from t.class c st sound)) (closes.token x first from st.stack t ts takes k))
builds m maker K closes _ _ _ (Separated first from st t ts es takes d) [] leaves sound k = absurd leaves
builds m maker K closes _ _ _ (Separated first from st t ts es takes d) (l ∷ ls) leaves sound k =
    let semicolon = terminals.One classes.Semicolon in
    leaf_made m symbols.Semi semicolon first from t ts l ls st es takes sound (arrow_free (takes_class semicolon first && is_name first) from ts) (λ o ps is. (tt, inr (after semicolon first from, from_after semicolon first from, is)))
    (builds m maker K closes (with_token t.class from st) ts es d ls leaves.1 (sound_at ts (with_token t.class from st) (λ c. sound_next symbols.Semi first from t.class c st sound)) (closes.semicolon first from st.stack t ts takes k))
builds m maker K closes _ _ _ (Counted first from st t ts es d) ls leaves sound k =
    let after : State = record st { events = st.events ++ Inserted ∷ [] } in
    inserted_made m first from (t ∷ ts) ls st.stack st after es refl refl refl
    (builds m maker K closes after (t ∷ ts) es d ls leaves (sound_pop symbols.Semi first from t.class st.stack st refl sound) (closes.inserted first from st.stack (t ∷ ts) k))
