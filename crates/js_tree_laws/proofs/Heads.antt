-- Behind the `)` of each head comes its arrow, where the tokens are marked so: what each frame of the stack waits for.
use Rattle.std.proofs.Common.{◌≡◌, ℕ, suc, Bool, true, false, not, ◌&&◌, ◌||◌, List, [], ◌∷◌, ◌++◌, Option, Some, None, refl, sym, ap, ◌∙◌, subst}
use Rattle.std.specs.List.{list_all}
use Rattle.js_tokens.specs.declared.heads.Role.{Role}
use Rattle.js_tokens.specs.declared.heads.Role.TheVariants.{Opens, Closes as Closing, Arrow, Other}
use Rattle.js_tokens.specs.Heads.{at_role, is_opening}
use Rattle.js_grammar.specs.declared.class.Class.{Class}
use Rattle.js_grammar.specs.declared.class.Class.TheVariants as classes
use Rattle.js_grammar.specs.declared.symbols.Level.TheVariants as levels
use Rattle.js_grammar.specs.declared.symbols.Mode.TheVariants as modes
use Rattle.js_grammar.specs.declared.symbols.Level.{Level}
use Rattle.js_grammar.specs.declared.symbols.Mode.{Mode}
use Rattle.js_grammar.specs.declared.symbols.Terminal.{Terminal}
use Rattle.js_grammar.specs.declared.symbols.Terminal.TheVariants as terminals
use Rattle.js_grammar.specs.declared.symbols.Symbol.{Symbol}
use Rattle.js_grammar.specs.declared.symbols.Symbol.TheVariants as symbols
use Rattle.js_grammar.specs.declared.symbols.RowId.{RowId}
use Rattle.js_grammar.specs.declared.symbols.RowId.TheVariants as rows
use Rattle.js_grammar.specs.Classes.{takes_class, classes_of}
use Rattle.js_grammar.specs.Choice.{row_of}
use Rattle.js_grammar.specs.Rows.{row_symbols}
use Rattle.js_grammar.proofs.Each.{all_classes, each_class}
use Rattle.js_machine.specs.declared.events.Frame.{Frame}
use Rattle.js_machine.specs.declared.events.Frame.TheVariants.{Want, EndMark}
use Rattle.js_machine.specs.declared.lookahead.Lookahead.{Lookahead}
use Rattle.js_machine.specs.Machine.{want_all, under_mark}
use Rattle.js_tree_laws.proofs.Shapes.{and_left, and_right}
use Rattle.js_tree_laws.proofs.Safe.{taken_is, among_one}
use Rattle.js_tree_laws.proofs.Suits.{is_name, is_head, after_by}
use Rattle.js_tree_laws.proofs.Rowwise.{not_arrow}
use Rattle.js_tree_laws.proofs.Accepted.{ArrowNext, Closes, is_function}

abbrev pub role_of_class : Class → Role
role_of_class classes.OpenParen = Opens
role_of_class classes.HeadParen = Opens
role_of_class classes.CloseParen = Closing
role_of_class _ = Other

abbrev pub arrow_at : List Lookahead → Bool
arrow_at [] = false
arrow_at (t ∷ ts) = not (not_arrow t.class t.newline_before)

-- whether `=>` comes behind the `)` for which `d` more are met before
abbrev pub behind : ℕ → List Lookahead → Bool
behind d [] = false
behind d (t ∷ ts) = at_role (role_of_class t.class) d (arrow_at ts) (λ e. behind e ts)

abbrev pub next_head : List Lookahead → Bool
next_head [] = false
next_head (t ∷ ts) = is_opening (role_of_class t.class) && behind 0 ts

abbrev pub Marked : List Lookahead → Type 0
Marked [] = Unit {0}
Marked (t ∷ ts) = (is_head t.class ≡ true → behind 0 ts ≡ true) × Marked ts

abbrev pub role_of_terminal : Terminal → Role
role_of_terminal (terminals.One c) = role_of_class c
role_of_terminal terminals.OpenParen = Opens
role_of_terminal _ = Other

abbrev pub role_of_symbol : Symbol → Role
role_of_symbol (symbols.Take x) = role_of_terminal x
role_of_symbol _ = Other

abbrev pub is_other : Role → Bool
is_other Other = true
is_other _ = false

pub other_is : (r : Role) → is_other r ≡ true → Other ≡ r
other_is Other e = refl
other_is _ e = cc

opening_is : (r : Role) → is_opening r ≡ true → Opens ≡ r
opening_is Opens e = refl
opening_is _ e = cc

operators_other : (l : Level) (q : Mode) → list_all (λ c. is_other (role_of_class c)) (classes_of (terminals.Operator l q)) ≡ true
operators_other levels.Relational modes.WithIn = refl
operators_other levels.Relational modes.NoIn = refl
operators_other levels.LogicalOr q = refl
operators_other _ q = refl

taken_role : (x : Terminal) (c : Class) → takes_class x c ≡ true → role_of_terminal x ≡ role_of_class c
taken_role (terminals.One k) c e = ap role_of_class (sym (among_one c k e))
taken_role terminals.OpenParen c e = opening_is (role_of_class c) (taken_is (λ c. is_opening (role_of_class c)) terminals.OpenParen c e refl)
taken_role terminals.Ident c e = other_is (role_of_class c) (taken_is (λ c. is_other (role_of_class c)) terminals.Ident c e refl)
taken_role terminals.Bind c e = other_is (role_of_class c) (taken_is (λ c. is_other (role_of_class c)) terminals.Bind c e refl)
taken_role terminals.Name c e = other_is (role_of_class c) (taken_is (λ c. is_other (role_of_class c)) terminals.Name c e refl)
taken_role terminals.UnaryOperator c e = other_is (role_of_class c) (taken_is (λ c. is_other (role_of_class c)) terminals.UnaryOperator c e refl)
taken_role (terminals.Operator l q) c e = other_is (role_of_class c) (taken_is (λ c. is_other (role_of_class c)) (terminals.Operator l q) c e (operators_other l q))

-- what a frame waits for: a `)` of a row that was taken at a head is followed by an arrow; `pending` where the `(` of the row is
-- still to be taken, `fresh` where nothing is to be taken before it
abbrev pub HeadsAt : Role → Class → Bool → Bool → ℕ → List Lookahead → (Bool → Bool → ℕ → Type 0) → Type 0
HeadsAt Opens first fresh false d ts K = K fresh true d
HeadsAt Opens first fresh true d ts K = ⊥
HeadsAt Closing first true true d ts K = (is_head first ≡ true → next_head ts ≡ true) × K false false d
HeadsAt Closing first false true d ts K = (is_head first ≡ false) × K false false d
HeadsAt Closing first fresh false d ts K = (is_head first ≡ true → behind d ts ≡ true) × K false false (suc d)
HeadsAt Arrow first fresh pending d ts K = K (fresh && pending) pending d
HeadsAt Other first fresh pending d ts K = K (fresh && pending) pending d

abbrev pub Heads : Bool → Bool → ℕ → List Frame → List Lookahead → Type 0
Heads fresh pending d [] ts = Unit {0}
Heads fresh pending d (EndMark ∷ fs) ts = Heads fresh pending d fs ts
Heads fresh pending d (Want s first from ∷ fs) ts = HeadsAt (role_of_symbol s) first fresh pending d ts (λ f p d. Heads f p d fs ts)

-- behind a token, below the row that takes it: a `)` that was met behind it after d more is met after e more now
module _ (t : Lookahead) (ts : List Lookahead) (R : ℕ → ℕ → Type 0) (up : (d e : ℕ) → R d e → R (suc d) (suc e)) (same : (d e : ℕ) → R d e → behind d (t ∷ ts) ≡ behind e ts) where
  passed_at : (r : Role) (first : Class) (p : Bool) (d e : ℕ) (K L : Bool → Bool → ℕ → Type 0) → R d e → ((p : Bool) (d e : ℕ) → R d e → K false p d → L false p e) → HeadsAt r first false p d (t ∷ ts) K → HeadsAt r first false p e ts L
  passed_at Opens first false d e K L fit next is = next true d e fit is
  passed_at Opens first true d e K L fit next is = is
  passed_at Closing first true d e K L fit next (h, k) = (h, next false d e fit k)
  passed_at Closing first false d e K L fit next (h, k) = (λ head. sym (same d e fit) ∙ h head, next false (suc d) (suc e) (up d e fit) k)
  passed_at Arrow first p d e K L fit next is = next p d e fit is
  passed_at Other first p d e K L fit next is = next p d e fit is

  passed : (fs : List Frame) (p : Bool) (d e : ℕ) → R d e → Heads false p d fs (t ∷ ts) → Heads false p e fs ts
  passed [] p d e fit is = tt
  passed (EndMark ∷ fs) p d e fit is = passed fs p d e fit is
  passed (Want s first from ∷ fs) p d e fit is = passed_at (role_of_symbol s) first p d e _ _ fit (λ p d e. passed fs p d e) is

seen_as : (r : Role) (d : ℕ) (t : Lookahead) (ts : List Lookahead) → role_of_class t.class ≡ r → behind d (t ∷ ts) ≡ at_role r d (arrow_at ts) (λ e. behind e ts)
seen_as r d t ts e = ap (λ r. at_role r d (arrow_at ts) (λ e. behind e ts)) e

other_taken : (fs : List Frame) (t : Lookahead) (ts : List Lookahead) → role_of_class t.class ≡ Other → Heads false false 0 fs (t ∷ ts) → Heads false false 0 fs ts
other_taken fs t ts is = passed t ts (λ d e. d ≡ e) (λ d e. ap suc) (λ d e fit. seen_as Other d t ts is ∙ ap (λ d. behind d ts) fit) fs false 0 0 refl

opened : (fs : List Frame) (t : Lookahead) (ts : List Lookahead) → role_of_class t.class ≡ Opens → Heads false false 0 fs (t ∷ ts) → Heads false false 1 fs ts
opened fs t ts is = passed t ts (λ d e. suc d ≡ e) (λ d e. ap suc) (λ d e fit. seen_as Opens d t ts is ∙ ap (λ d. behind d ts) fit) fs false 0 1 refl

closed : (fs : List Frame) (t : Lookahead) (ts : List Lookahead) → role_of_class t.class ≡ Closing → Heads false false 1 fs (t ∷ ts) → Heads false false 0 fs ts
closed fs t ts is =
    passed t ts (λ d e. suc e ≡ d) (λ d e. ap suc) (λ d e fit. subst (λ d. behind d (t ∷ ts) ≡ behind e ts) fit (seen_as Closing (suc e) t ts is)) fs false 1 0 refl

-- behind the `(` of the row on top
begun_at : (r : Role) (first : Class) (f : Bool) (t : Lookahead) (ts : List Lookahead) (K L : Bool → Bool → ℕ → Type 0) → role_of_class t.class ≡ Opens → ((f : Bool) → K true true 0 → L f false 0) → (K false false 0 → L false false 1) → HeadsAt r first true true 0 (t ∷ ts) K → HeadsAt r first f false 0 ts L
begun_at Opens first f t ts K L e next below is = absurd is
begun_at Closing first true t ts K L e next below (h, k) = (λ head. and_right (is_opening (role_of_class t.class)) (behind 0 ts) (h head), below k)
begun_at Closing first false t ts K L e next below (h, k) = (λ head. and_right (is_opening (role_of_class t.class)) (behind 0 ts) (h head), below k)
begun_at Arrow first true t ts K L e next below is = next false is
begun_at Arrow first false t ts K L e next below is = next false is
begun_at Other first true t ts K L e next below is = next false is
begun_at Other first false t ts K L e next below is = next false is

begun : (fs : List Frame) (f : Bool) (t : Lookahead) (ts : List Lookahead) → role_of_class t.class ≡ Opens → Heads true true 0 fs (t ∷ ts) → Heads f false 0 fs ts
begun [] f t ts e is = tt
begun (EndMark ∷ fs) f t ts e is = begun fs f t ts e is
begun (Want s first from ∷ fs) f t ts e is = begun_at (role_of_symbol s) first f t ts _ _ e (λ f. begun fs f t ts e) (opened fs t ts e) is

-- what waits below waits on top
fresh_at : (r : Role) (first : Class) (p : Bool) (d : ℕ) (ts : List Lookahead) (K : Bool → Bool → ℕ → Type 0) → ((p : Bool) (d : ℕ) → K false p d → K true p d) → HeadsAt r first false p d ts K → HeadsAt r first true p d ts K
fresh_at Opens first false d ts K next is = next true d is
fresh_at Opens first true d ts K next is = is
fresh_at Closing first true d ts K next (h, k) = (λ head. absurd (let non : true ≡ false = sym head ∙ h in cc), k)
fresh_at Closing first false d ts K next is = is
fresh_at Arrow first true d ts K next is = next true d is
fresh_at Arrow first false d ts K next is = is
fresh_at Other first true d ts K next is = next true d is
fresh_at Other first false d ts K next is = is

fresh : (fs : List Frame) (p : Bool) (d : ℕ) (ts : List Lookahead) → Heads false p d fs ts → Heads true p d fs ts
fresh [] p d ts is = tt
fresh (EndMark ∷ fs) p d ts is = fresh fs p d ts is
fresh (Want s first from ∷ fs) p d ts is = fresh_at (role_of_symbol s) first p d ts _ (λ p d. fresh fs p d ts) is

fresh_if : (f : Bool) (fs : List Frame) (ts : List Lookahead) → Heads false false 0 fs ts → Heads f false 0 fs ts
fresh_if true fs ts is = fresh fs false 0 ts is
fresh_if false fs ts is = is

-- a row's parentheses are paired, one pair at most, and behind a head only where the row begins with it
abbrev pub pairs_at : Role → Bool → Bool → Bool → (Bool → Bool → Bool) → Bool
pairs_at Opens f p h K = not p && K f true
pairs_at Closing f p h K = p && (f || not h) && K false false
pairs_at Arrow f p h K = K (f && p) p
pairs_at Other f p h K = K (f && p) p

abbrev pub pairs : Bool → Bool → Bool → List Symbol → Bool
pairs f p h [] = not p
pairs f p h (s ∷ ss) = pairs_at (role_of_symbol s) f p h (λ f p. pairs f p h ss)

push_at : (r : Role) (c : Class) (f p : Bool) (ts : List Lookahead) (K : Bool → Bool → ℕ → Type 0) (test : Bool → Bool → Bool) → (is_head c ≡ true → next_head ts ≡ true) → pairs_at r f p (is_head c) test ≡ true
    → ((f p : Bool) → test f p ≡ true → K f p 0) → HeadsAt r c f p 0 ts K
push_at Opens c f false ts K test marked e next = next f true e
push_at Opens c f true ts K test marked e next = cc
push_at Closing c true true ts K test marked e next = (marked, next false false e)
push_at Closing c false true ts K test marked e next = (not_true (is_head c) (and_left (not (is_head c)) (test false false) e), next false false (and_right (not (is_head c)) (test false false) e))
  where
    not_true : (b : Bool) → not b ≡ true → b ≡ false
    not_true true e = cc
    not_true false e = refl
push_at Closing c true false ts K test marked e next = cc
push_at Closing c false false ts K test marked e next = cc
push_at Arrow c f p ts K test marked e next = next (f && p) p e
push_at Other c f p ts K test marked e next = next (f && p) p e

pushed : (c : Class) (n : ℕ) (f p : Bool) (ss : List Symbol) (fs : List Frame) (ts : List Lookahead) → (is_head c ≡ true → next_head ts ≡ true) → pairs f p (is_head c) ss ≡ true → Heads false false 0 fs ts → Heads f p 0 (want_all c n ss ++ fs) ts
pushed c n f true [] fs ts marked e is = cc
pushed c n f false [] fs ts marked e is = fresh_if f fs ts is
pushed c n f p (s ∷ ss) fs ts marked e is = push_at (role_of_symbol s) c f p ts _ (λ f p. pairs f p (is_head c) ss) marked e (λ f p e. pushed c n f p ss fs ts marked e is)

abbrev pairs_chosen : Class → Option RowId → Bool
pairs_chosen c None = true
pairs_chosen c (Some r) = pairs true false (is_head c) (row_symbols r)

abbrev pairs_ok : Symbol → Class → Bool
pairs_ok s c = is_function s || (pairs_chosen c (row_of s c true) && pairs_chosen c (row_of s c false))

all_paired : (s : Symbol) → list_all (pairs_ok s) all_classes ≡ true
all_paired symbols.Script = refl
all_paired (symbols.Level levels.LogicalOr q) = refl
all_paired (symbols.Level _ q) = refl
all_paired (symbols.LevelTail levels.Relational modes.WithIn) = refl
all_paired (symbols.LevelTail levels.Relational modes.NoIn) = refl
all_paired (symbols.LevelTail _ _) = refl
all_paired _ = refl

paired_of : (o : Option RowId) (c : Class) (r : RowId) → pairs_chosen c o ≡ true → o ≡ Some r → pairs true false (is_head c) (row_symbols r) ≡ true
paired_of None c r e is = cc
paired_of (Some q) c r e is = subst (λ o. pairs_chosen c o ≡ true) is e

not_first : (a b : Bool) → a ≡ false → (a || b) ≡ true → b ≡ true
not_first true b e f = cc
not_first false b e f = f

paired_other : (s : Symbol) (c : Class) (newline : Bool) (r : RowId) → is_function s ≡ false → row_of s c newline ≡ Some r → pairs true false (is_head c) (row_symbols r) ≡ true
paired_other s c true r other e = paired_of (row_of s c true) c r (and_left (pairs_chosen c (row_of s c true)) (pairs_chosen c (row_of s c false)) (not_first (is_function s) (pairs_chosen c (row_of s c true) && pairs_chosen c (row_of s c false)) other (each_class (pairs_ok s) (all_paired s) c))) e
paired_other s c false r other e = paired_of (row_of s c false) c r (and_right (pairs_chosen c (row_of s c true)) (pairs_chosen c (row_of s c false)) (not_first (is_function s) (pairs_chosen c (row_of s c true) && pairs_chosen c (row_of s c false)) other (each_class (pairs_ok s) (all_paired s) c))) e

function_paired : (c : Class) → takes_class (terminals.One classes.Function) c ≡ true → pairs true false (is_head c) (row_symbols rows.Function) ≡ true
function_paired c e = ap (λ c. pairs true false (is_head c) (row_symbols rows.Function)) (among_one c classes.Function e)

paired : (s : Symbol) (c : Class) (newline : Bool) (r : RowId) → row_of s c newline ≡ Some r → (is_function s ≡ true → takes_class (terminals.One classes.Function) c ≡ true) → pairs true false (is_head c) (row_symbols r) ≡ true
paired symbols.Function c newline r e new = let same : rows.Function ≡ r = cc in subst (λ r. pairs true false (is_head c) (row_symbols r) ≡ true) same (function_paired c (new refl))
paired symbols.Script c newline r e new = paired_other symbols.Script c newline r refl e
paired s c newline r e new = paired_other s c newline r refl e

-- a symbol that has rows is no token
below_symbol : (s : Symbol) (first : Class) (from : ℕ) (c : Class) (newline : Bool) (r : RowId) (fs : List Frame) (ts : List Lookahead) → row_of s c newline ≡ Some r → Heads true false 0 (Want s first from ∷ fs) ts → Heads false false 0 fs ts
below_symbol (symbols.Take x) first from c newline r fs ts e is = cc
below_symbol symbols.Script first from c newline r fs ts e is = is
below_symbol s first from c newline r fs ts e is = is

heads_mark : (f p : Bool) (d : ℕ) (b : Bool) (fs : List Frame) (ts : List Lookahead) → Heads f p d fs ts → Heads f p d (under_mark b fs) ts
heads_mark f p d true fs ts is = is
heads_mark f p d false fs ts is = is

head_next : (t : Lookahead) (ts : List Lookahead) → Marked (t ∷ ts) → is_head t.class ≡ true → next_head (t ∷ ts) ≡ true
head_next t ts marked e =
    let same : t.class ≡ classes.HeadParen = among_one t.class classes.HeadParen e in
    ap (λ c. is_opening (role_of_class c) && behind 0 ts) same ∙ marked.0 e

no_arrow : {A : Type 0} (c : Class) → role_of_class c ≡ Arrow → A
no_arrow classes.End e = cc
no_arrow _ e = cc

token_next : (r : Role) (first : Class) (t : Lookahead) (ts : List Lookahead) (fs : List Frame) → r ≡ role_of_class t.class → HeadsAt r first true false 0 (t ∷ ts) (λ f p d. Heads f p d fs (t ∷ ts)) → Heads true false 0 fs ts
token_next Opens first t ts fs e is = begun fs true t ts (sym e) is
token_next Closing first t ts fs e is = fresh fs false 0 ts (closed fs t ts (sym e) is.1)
token_next Arrow first t ts fs e is = no_arrow t.class (sym e)
token_next Other first t ts fs e is = fresh fs false 0 ts (other_taken fs t ts (sym e) is)

pub not_not : (b : Bool) → not b ≡ true → b ≡ false
not_not true e = cc
not_not false e = refl

arrow_if : (a b : Bool) (n : ℕ) (ts : List Lookahead) → (b ≡ true → arrow_at ts ≡ true) → ArrowNext (after_by a b n) ts
arrow_if a b n [] at = tt
arrow_if true b n (t ∷ ts) at = tt
arrow_if false true n (t ∷ ts) at = not_not (not_arrow t.class t.newline_before) (at refl)
arrow_if false false n (t ∷ ts) at = tt

arrow_behind_close : (r : Role) (first : Class) (t : Lookahead) (ts : List Lookahead) (K : Bool → Bool → ℕ → Type 0) → r ≡ role_of_class t.class → r ≡ Closing → is_head first ≡ true → HeadsAt r first true false 0 (t ∷ ts) K → arrow_at ts ≡ true
arrow_behind_close Closing first t ts K e f head is = ap (λ r. at_role r 0 (arrow_at ts) (λ e. behind e ts)) e ∙ is.0 head
arrow_behind_close _ first t ts K e f head is = cc

-- the stack and the tokens that are left go together
abbrev pub Waits : List Frame → List Lookahead → Type 0
Waits fs ts = Heads true false 0 fs ts × Marked ts

pub heads_close : Closes Waits
heads_close = record {
  mark = λ fs ts is. is;
  row = λ s first from n fs t ts r b e new is. (
    pushed t.class n true false (row_symbols r) (under_mark b fs) (t ∷ ts) (head_next t ts is.1) (paired s t.class t.newline_before r e new)
        (heads_mark false false 0 b fs (t ∷ ts) (below_symbol s first from t.class t.newline_before r fs (t ∷ ts) e is.0)),
    is.1,
  );
  inserted = λ first from fs ts is. (fresh fs false 0 ts is.0, is.1);
  semicolon = λ first from fs t ts e is.
      (fresh fs false 0 ts (other_taken fs t ts (ap role_of_class (among_one t.class classes.Semicolon e)) is.0), is.1.1);
  token = λ x first from fs t ts e is. (token_next (role_of_terminal x) first t ts fs (taken_role x t.class e) is.0, is.1.1);
  arrow = λ x first from fs t ts e is.
      arrow_if (takes_class x first && is_name first) (takes_class x classes.CloseParen && is_head first) from ts (λ both.
      arrow_behind_close (role_of_terminal x) first t ts (λ f p d. Heads f p d fs (t ∷ ts)) (taken_role x t.class e) (taken_role x classes.CloseParen (and_left (takes_class x classes.CloseParen) (is_head first) both)) (and_right (takes_class x classes.CloseParen) (is_head first) both) is.0);
}
