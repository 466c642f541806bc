-- What each row leaves suits its symbol, wherever the machine takes it.
use Rattle.std.proofs.Common.{◌≡◌, ℕ, suc, ◌≤◌, Bool, true, false, not, ◌&&◌, ◌||◌, ◌⊎◌, inl, inr, List, [], ◌∷◌, ◌++◌, refl, sym, ap, ◌∙◌, subst, arith}
use Rattle.std.specs.List.{list_all}
use Rattle.js_grammar.specs.declared.class.Class.{Class}
use Rattle.js_grammar.specs.declared.class.Class.TheVariants as classes
use Rattle.js_grammar.specs.declared.symbols.Symbol.{Symbol}
use Rattle.js_grammar.specs.declared.symbols.RowId.{RowId}
use Rattle.js_machine.specs.declared.events.Frame.{Frame}
use Rattle.js_machine.specs.declared.events.Frame.TheVariants.{Want}
use Rattle.js_machine.specs.Machine.{want_all}
use Rattle.js_machine.proofs.Work.{vanishes}
use Rattle.js_tree.specs.Nodes.{Maker}
use Rattle.js_tree.specs.declared.parts.Part.{Part}
use Rattle.js_tree.specs.declared.parts.Part.TheVariants as parts
use Rattle.js_tree_laws.proofs.Sorts.{NoTail, Endings, PartIs, leads}
use Rattle.js_tree_laws.proofs.Shapes.{and_left}
use Rattle.js_tree_laws.proofs.Table.{part_of}
use Rattle.js_tree_laws.proofs.Suits.{Left, Anything, NameAt, HeadAt, NoHead, is_name, is_head, From, StandsAt, NameStandsAt, NoEndings, Role, IsToken, Passes, PassesAny, Commas, Arrows, Labels, Operand, HeadOperand, Plain, role_of, Goes, SuitsAt, Suits, Chain, is_late, OpenAt, Open, Linked}
use Rattle.js_tree_laws.proofs.Roles.{leads_true, turns_on, vanishing, part_at, part_by}
use Rattle.js_grammar.specs.declared.symbols.RowId.TheVariants as rows
use Rattle.js_grammar.specs.Classes.{is_among}
use Rattle.js_grammar.specs.Rows.{row_symbols}
use Rattle.js_tree.specs.Image.{row_part}
use Rattle.js_tree_laws.proofs.Sorts.{IsMaker, Safely}
use Rattle.js_tree_laws.proofs.Shapes.{three}
use Rattle.js_tree_laws.proofs.Safe.{safely_map}
use Rattle.js_tree_laws.proofs.Filling.{row_fits, row_sound}
use Rattle.js_tree_laws.proofs.Table.{row_parts}
use Rattle.js_tree_laws.proofs.Apart.{AtLeast, open_under, forget, all_open, all_apart, taken_apart}

-- what a row asks of the class of the token at which it is taken
abbrev pub not_arrow : Class → Bool → Bool
not_arrow c newline = not (is_among c (classes.Arrow ∷ [])) || newline

abbrev pub is_operand : Role → Bool
is_operand Operand = true
is_operand HeadOperand = true
is_operand _ = false

abbrev pub starts : Class → Bool
starts c = is_name c || is_head c

abbrev pub generic_ok : Symbol → Class → Bool → List Symbol → Bool
generic_ok s c newline ss = all_apart c ss && leads (is_operand (role_of s)) (not (starts c)) && leads (turns_on (role_of s) && not (list_all vanishes ss)) (not_arrow c newline)

-- the rows whose goals are proved one by one: those that pass an operand on, ask for one of their own, or make one
abbrev pub own : RowId → Bool
own rows.PrimaryIdent = true
own rows.PrimaryHead = true
own (rows.AssignTailEmpty m) = true
own rows.LhsTailEmpty = true
own rows.MemberTailEmpty = true
own rows.PostEmpty = true
own rows.NewArgsEmpty = true
own (rows.LevelTailEmpty n m) = true
own (rows.CondTailEmpty m) = true
own (rows.CommaEmpty m) = true
own (rows.Expr m) = true
own (rows.Assign m) = true
own (rows.Cond m) = true
own (rows.Level n m) = true
own rows.UnaryLhs = true
own rows.LhsPrimary = true
own rows.CalleePrimary = true
own rows.StatExpr = true
own rows.Again = true
own (rows.AssignTailArrow m) = true
own rows.LabelBody = true
own _ = false

abbrev pub own_ok : Class → Bool → RowId → Bool
own_ok c newline rows.PrimaryIdent = is_name c
own_ok c newline rows.PrimaryHead = is_head c
own_ok c newline (rows.AssignTailEmpty m) = not_arrow c newline
own_ok c newline (rows.AssignTailArrow m) = all_apart c (row_symbols (rows.AssignTailArrow m))
own_ok c newline rows.LabelBody = all_apart c (row_symbols rows.LabelBody)
own_ok c newline _ = true

abbrev pub ok_by : Bool → Symbol → Class → Bool → RowId → Bool
ok_by true s c newline r = own_ok c newline r
ok_by false s c newline r = generic_ok s c newline (row_symbols r)

abbrev pub class_ok : Symbol → Class → Bool → RowId → Bool
class_ok s c newline r = ok_by (own r) s c newline r

-- a head is left only before its arrow
abbrev pub OnArrow : Class → Bool → Left → Type 0
OnArrow c newline (HeadAt n) = not_arrow c newline ≡ false
OnArrow c newline _ = Unit {0}

-- what the machine asks for before an arrow and before the `:` of a label
abbrev pub Followed : RowId → ℕ → Left → Type 0
Followed (rows.AssignTailArrow m) from o = StandsAt from o
Followed rows.LabelBody from o = NameStandsAt from o
Followed _ from o = Unit {0}

-- where a row is taken
pub record Here (s : Symbol) (r : RowId) (c : Class) (n : ℕ) (newline : Bool) (first : Class) (from : ℕ) (fs : List Frame) (o : Left) : Type 0 where
  pub ok : class_ok s c newline r ≡ true
  pub least : from ≤ n
  pub same : from ≡ n → first ≡ c
  pub chain : Chain c n fs
  pub chain_all : Chain c n (want_all c n (row_symbols r) ++ fs)
  pub linked : Linked (want_all c n (row_symbols r) ++ fs)
  pub late : OpenAt (is_late s) (vanishes s) n from (Open n fs)
  pub arrow : OnArrow c newline o
  pub follows : Followed r from o

abbrev pub Goal : Maker → Symbol → RowId → Type 0
Goal m s r =
    (c : Class) (n : ℕ) (newline : Bool) (first : Class) (from : ℕ) (fs : List Frame) (o : Left) (ps : List Part) → Here s r c n newline first from fs o
    → Suits m (want_all c n (row_symbols r) ++ fs) o ps → Safely (Suits m (Want s first from ∷ fs) o) (row_part m r ps)

pub from_back : (c first : Class) (n from : ℕ) (x : Left) → from ≤ n → (from ≡ n → first ≡ c) → From c n x → From first from x
from_back c first n from Anything least same is = tt
from_back c first n from (NameAt k) least same is = (omega (arith, is.0), λ e. let at : k ≡ n = omega (arith, is.0) in let now : from ≡ n = omega (arith, is.0) in ap is_name (same now) ∙ is.1 at)
from_back c first n from (HeadAt k) least same is = (omega (arith, is.0), λ e. let at : k ≡ n = omega (arith, is.0) in let now : from ≡ n = omega (arith, is.0) in ap is_head (same now) ∙ is.1 at)

pub from_least : (c : Class) (n : ℕ) (x : Left) → From c n x → AtLeast n x
from_least c n Anything is = tt
from_least c n (NameAt k) is = is.0
from_least c n (HeadAt k) is = is.0

false_true : {A : Type 0} (b : Bool) → b ≡ false → b ≡ true → A
false_true true e f = cc
false_true false e f = cc

later : (k n : ℕ) (b : Bool) → n ≤ k → b ≡ false → (k ≡ n → b ≡ true) → suc n ≤ k
later k n b least e at = elim (apart k n least) [ inl h ↦ h | inr h ↦ false_true b e (at h) ]
  where
    apart : (k n : ℕ) → n ≤ k → (suc n ≤ k) ⊎ (k ≡ n)
    apart k n least = grind arith

or_false : (a b : Bool) → not (a || b) ≡ true → (a ≡ false) × (b ≡ false)
or_false true b e = cc
or_false false true e = cc
or_false false false e = (refl, refl)

from_later : (c : Class) (n : ℕ) (x : Left) → not (starts c) ≡ true → From c n x → AtLeast (suc n) x
from_later c n Anything e is = tt
from_later c n (NameAt k) e is = later k n (is_name c) is.0 (or_false (is_name c) (is_head c) e).0 is.1
from_later c n (HeadAt k) e is = later k n (is_head c) is.0 (or_false (is_name c) (is_head c) e).1 is.1

pub non_head : (c : Class) (newline : Bool) (o : Left) → not_arrow c newline ≡ true → OnArrow c newline o → NoHead o
non_head c newline Anything e is = tt
non_head c newline (NameAt n) e is = tt
non_head c newline (HeadAt n) e is = false_true (not_arrow c newline) is e

goes_back : (s : Symbol) (c first : Class) (n from : ℕ) (b : Bool) (o x : Left) (K : Left → Type 0) → from ≤ n → (from ≡ n → first ≡ c) → (b ≡ true → vanishes s ≡ true) → ((b ≡ true) × (x ≡ o) ⊎ From c n x) → K x → Goes s first from o K
goes_back s c first n from b o x K least same vanish (inl (v, e)) k = inl (vanish v, subst K e k)
goes_back s c first n from b o x K least same vanish (inr is) k = inr (x, from_back c first n from x least same is, k)

label_empty : (m : Maker) (p : Part) → PartIs m (Endings NoTail) p → NoEndings p
label_empty m (parts.Endings []) is = tt
label_empty m (parts.Endings (e ∷ es)) is = cc
label_empty m _ is = absurd is

-- what a row of no special kind makes
abbrev pub is_light : Role → Bool
is_light Plain = true
is_light Labels = true
is_light _ = false

abbrev pub is_symbol : Role → Bool
is_symbol (IsToken t) = false
is_symbol _ = true

abbrev pub generic_fit : Symbol → RowId → Bool
generic_fit s r = is_symbol (role_of s) && row_fits r (row_parts r) (part_of s) && leads (list_all vanishes (row_symbols r)) (vanishes s && is_light (role_of s))

only_from : (a b : Bool) (c : Class) (n : ℕ) (o x : Left) → leads a b ≡ true → b ≡ false → ((a ≡ true) × (x ≡ o) ⊎ From c n x) → From c n x
only_from a b c n o x e f (inl (v, g)) = false_true b f (leads_true a b e v)
only_from a b c n o x e f (inr is) = is

and_false : (a b : Bool) → b ≡ false → (a && b) ≡ false
and_false true b e = e
and_false false b e = refl

not_from : (b : Bool) → b ≡ false → not b ≡ true
not_from true e = cc
not_from false e = refl

solid : (a b : Bool) → leads a b ≡ true → b ≡ false → a ≡ false
solid true b e f = false_true b f e
solid false b e f = refl

-- what is left behind a row that has taken a token
abbrev Behind : Symbol → Class → Bool → ℕ → Class → ℕ → List Frame → Left → Bool → Left → Type 0
Behind s c newline n first from fs o vanish x =
    (is_symbol (role_of s) ≡ true) × (from ≤ n) × (from ≡ n → first ≡ c) × Chain c n fs × OpenAt (is_late s) (vanishes s) n from (Open n fs) × OnArrow c newline o
    × (leads (is_operand (role_of s)) (not (starts c)) ≡ true) × (leads (turns_on (role_of s) && not vanish) (not_arrow c newline) ≡ true)
    × (leads vanish (vanishes s && is_light (role_of s)) ≡ true) × ((vanish ≡ true) × (x ≡ o) ⊎ From c n x)

-- where something was put around an operand, and where an operand was derived, nothing is left behind it
turned_on : (m : Maker) (r : Role) (s : Symbol) (c : Class) (newline : Bool) (n : ℕ) (first : Class) (from : ℕ) (fs : List Frame) (o x : Left) (v : Bool) (qs : List Part) → role_of s ≡ r → turns_on r ≡ true → is_light r ≡ false
    → Behind s c newline n first from fs o v x → Suits m fs x qs → NoHead o × Suits m fs Anything qs
turned_on m r s c newline n first from fs o x v qs e on heavy_role (symbol, least, same, chain, late, arrow, starting, turning, light, left) k =
    let heavy : (vanishes s && is_light (role_of s)) ≡ false = and_false (vanishes s) (is_light (role_of s)) (ap is_light e ∙ heavy_role) in
    let seen : leads (true && not v) (not_arrow c newline) ≡ true = ap (λ b. leads (b && not v) (not_arrow c newline)) (sym on ∙ ap turns_on (sym e)) ∙ turning in (
      non_head c newline o (leads_true (not v) (not_arrow c newline) seen (not_from v (solid v (vanishes s && is_light (role_of s)) light heavy))) arrow,
      forget m n fs x qs (from_least c n x (only_from v (vanishes s && is_light (role_of s)) c n o x light heavy left)) (open_under (is_late s) (vanishes s) n from (Open n fs) (vanishing s r e on) late) k,
    )

derived_on : (m : Maker) (r : Role) (s : Symbol) (c : Class) (newline : Bool) (n : ℕ) (first : Class) (from : ℕ) (fs : List Frame) (o x : Left) (v : Bool) (qs : List Part) → role_of s ≡ r → is_operand r ≡ true → is_light r ≡ false
    → Behind s c newline n first from fs o v x → Suits m fs x qs → Suits m fs Anything qs
derived_on m r s c newline n first from fs o x v qs e operand heavy_role (symbol, least, same, chain, late, arrow, starting, turning, light, left) k =
    let heavy : (vanishes s && is_light (role_of s)) ≡ false = and_false (vanishes s) (is_light (role_of s)) (ap is_light e ∙ heavy_role) in
    let begun : not (starts c) ≡ true = leads_true (is_operand (role_of s)) (not (starts c)) starting (ap is_operand e ∙ operand) in
    forget m (suc n) fs x qs (from_later c n x begun (only_from v (vanishes s && is_light (role_of s)) c n o x light heavy left)) (all_open c n (suc n) fs chain (omega arith)) k

went_on : (m : Maker) (s : Symbol) (c : Class) (newline : Bool) (n : ℕ) (first : Class) (from : ℕ) (fs : List Frame) (o x : Left) (v : Bool) (qs : List Part) → Behind s c newline n first from fs o v x → Suits m fs x qs → Goes s first from o (λ x. Suits m fs x qs)
went_on m s c newline n first from fs o x v qs (symbol, least, same, chain, late, arrow, starting, turning, light, left) k =
    goes_back s c first n from v o x (λ x. Suits m fs x qs) least same (λ w. and_left (vanishes s) (is_light (role_of s)) (leads_true v (vanishes s && is_light (role_of s)) light w)) left k

generic_at : (m : Maker) (r : Role) (s : Symbol) (c : Class) (newline : Bool) (n : ℕ) (first : Class) (from : ℕ) (fs : List Frame) (o x : Left) (v : Bool) (p : Part) (qs : List Part) → role_of s ≡ r → Behind s c newline n first from fs o v x
    → PartIs m (part_at r (part_of s)) p → Suits m fs x qs → SuitsAt m r s first from o p (λ x. Suits m fs x qs)
generic_at m (IsToken t) s c newline n first from fs o x v p qs e b is k = let non : false ≡ true = ap is_symbol (sym e) ∙ b.0 in cc
generic_at m Passes s c newline n first from fs o x v p qs e b is k = let h = turned_on m Passes s c newline n first from fs o x v qs e refl refl b k in inr (is, h.0, h.1)
generic_at m PassesAny s c newline n first from fs o x v p qs e b is k = (is, inr (turned_on m PassesAny s c newline n first from fs o x v qs e refl refl b k))
generic_at m Commas s c newline n first from fs o x v p qs e b is k = let h = turned_on m Commas s c newline n first from fs o x v qs e refl refl b k in inr (is, h.0, h.1)
generic_at m Arrows s c newline n first from fs o x v p qs e b is k = let h = turned_on m Arrows s c newline n first from fs o x v qs e refl refl b k in inl (inr (is, h.0, h.1))
generic_at m Labels s c newline n first from fs o x v p qs e b is k = inl (label_empty m p is, went_on m s c newline n first from fs o x v qs b k)
generic_at m Operand s c newline n first from fs o x v p qs e b is k = (Anything, tt, tt, is, derived_on m Operand s c newline n first from fs o x v qs e refl refl b k)
generic_at m HeadOperand s c newline n first from fs o x v p qs e b is k = (Anything, tt, is, derived_on m HeadOperand s c newline n first from fs o x v qs e refl refl b k)
generic_at m Plain s c newline n first from fs o x v p qs e b is k = (is, went_on m s c newline n first from fs o x v qs b k)

pub put_on : (m : Maker) (s : Symbol) (first : Class) (from : ℕ) (fs : List Frame) (o : Left) (p : Part) (qs out : List Part) → out ≡ p ∷ qs → SuitsAt m (role_of s) s first from o p (λ x. Suits m fs x qs) → Suits m (Want s first from ∷ fs) o out
put_on m s first from fs o p qs out e is = subst (Suits m (Want s first from ∷ fs) o) (sym e) is

pub generic_row : (m : Maker) → IsMaker m → (s : Symbol) (r : RowId) → generic_fit s r ≡ true → own r ≡ false → Goal m s r
generic_row m maker s r fits other c n newline first from fs o ps here is =
    let f = three (is_symbol (role_of s)) (row_fits r (row_parts r) (part_of s)) (leads (list_all vanishes (row_symbols r)) (vanishes s && is_light (role_of s))) fits in
    let g = three (all_apart c (row_symbols r)) (leads (is_operand (role_of s)) (not (starts c))) (leads (turns_on (role_of s) && not (list_all vanishes (row_symbols r))) (not_arrow c newline)) (ap (λ b. ok_by b s c newline r) (sym other) ∙ here.ok) in
    let t = taken_apart m c n fs (row_symbols r) o ps g.0 here.chain_all here.linked is in
    safely_map (λ out. (p : Part) × (out ≡ p ∷ t.1) × PartIs m (part_of s) p) (Suits m (Want s first from ∷ fs) o) (row_part m r ps)
    (λ out made. put_on m s first from fs o made.0 t.1 out made.1 (generic_at m (role_of s) s c newline n first from fs o t.0 (list_all vanishes (row_symbols r)) made.0 t.1 refl
    (f.0, here.least, here.same, here.chain, here.late, here.arrow, g.1, g.2, f.2, t.3) (subst (λ t. PartIs m t made.0) (sym (part_by s (role_of s) refl)) made.2) t.4))
    (row_sound m maker r (row_parts r) (part_of s) ps t.1 f.1 t.2)
