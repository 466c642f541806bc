-- What a row leaves of parts that suit its symbols suits its own symbol.
use Rattle.std.proofs.Common.{◌≡◌, ℕ, suc, ◌≤◌, ◌<◌, Bool, true, false, not, ◌&&◌, ◌||◌, ◌⊎◌, inl, inr, List, [], ◌∷◌, ◌++◌, map, refl, sym, ap, ◌∙◌, subst, arith}
use Rattle.std.specs.List.{list_all}
use Rattle.bast_schema.specs.declared.kind.FieldType.TheVariants as field
use Rattle.bast_schema.specs.declared.kind.Union.TheVariants as unions
use Rattle.bast_schema.specs.Tree.{none, more}
use Rattle.js_grammar.specs.declared.class.Class.{Class}
use Rattle.js_grammar.specs.declared.class.Class.TheVariants as classes
use Rattle.js_grammar.specs.declared.symbols.Terminal.{Terminal}
use Rattle.js_grammar.specs.declared.symbols.Symbol.{Symbol}
use Rattle.js_grammar.specs.Classes.{takes_class}
use Rattle.js_machine.specs.declared.events.Frame.{Frame}
use Rattle.js_machine.specs.declared.events.Frame.TheVariants.{Want, EndMark}
use Rattle.js_machine.specs.Machine.{want_all}
use Rattle.js_machine.proofs.Work.{vanishes}
use Rattle.js_tree.specs.Nodes.{Maker}
use Rattle.js_tree.specs.declared.parts.Part.{Part}
use Rattle.js_tree.specs.declared.parts.Part.TheVariants as parts
use Rattle.js_tree_laws.proofs.Sorts.{PartIs}
use Rattle.js_tree_laws.proofs.Shapes.{and_left, and_right}
use Rattle.js_tree_laws.proofs.Gathers.{PartsAre}
use Rattle.js_tree_laws.proofs.Table.{part_of, one_node, operators, many}
use Rattle.js_tree_laws.proofs.Suits.{Left, Anything, NameAt, HeadAt, NoHead, is_name, is_head, after, after_by, From, StandsAt, NameStandsAt, OperandIs, NoEndings, NoValues, Role, IsToken, Passes, PassesAny, Commas, Arrows, Labels, Operand, HeadOperand, Plain, role_of, Goes, SuitsAt, Suits, Chain, is_late, OpenAt, Open, passes, hands_head, is_ready, in_chain, is_new, Linked}
use Rattle.js_tree_laws.proofs.Roles.{vanishing, asking, part_at, part_by}

-- an operand of the number n or a later one
abbrev pub AtLeast : ℕ → Left → Type 0
AtLeast n Anything = Unit {0}
AtLeast n (NameAt k) = n ≤ k
AtLeast n (HeadAt k) = n ≤ k

pub open_under : (l b : Bool) (n from : ℕ) (K : Type 0) → b ≡ true → OpenAt l b n from K → K
open_under true b n from K e is = is.1
open_under false true n from K e is = is
open_under false false n from K e is = cc

pub open_late : (l b : Bool) (n from : ℕ) (K : Type 0) → l ≡ true → OpenAt l b n from K → (from < n) × K
open_late true b n from K e is = is
open_late false b n from K e is = cc

no_stand : (A : Type 0) (n from : ℕ) (o : Left) → AtLeast n o → from < n → StandsAt from o → A
no_stand A n from Anything least below at = absurd at
no_stand A n from (NameAt k) least below at = absurd (omega arith)
no_stand A n from (HeadAt k) least below at = absurd (omega arith)

no_name_stand : (A : Type 0) (n from : ℕ) (o : Left) → AtLeast n o → from < n → NameStandsAt from o → A
no_name_stand A n from Anything least below at = absurd at
no_name_stand A n from (NameAt k) least below at = absurd (omega arith)
no_name_stand A n from (HeadAt k) least below at = absurd at

goes_on : (s : Symbol) (first : Class) (from n : ℕ) (o : Left) (K : Left → Type 0) (rest : Type 0) → (rest → K o → K Anything) → OpenAt (is_late s) (vanishes s) n from rest → Goes s first from o K → Goes s first from Anything K
goes_on s first from n o K rest ih late (inl (v, k)) = inl (v, ih (open_under (is_late s) (vanishes s) n from rest v late) k)
goes_on s first from n o K rest ih late (inr x) = inr x

forget_at : (m : Maker) (r : Role) (s : Symbol) (first : Class) (from n : ℕ) (o : Left) (p : Part) (K : Left → Type 0) (rest : Type 0) → role_of s ≡ r → AtLeast n o → OpenAt (is_late s) (vanishes s) n from rest → (rest → K o → K Anything)
    → SuitsAt m r s first from o p K → SuitsAt m r s first from Anything p K
forget_at m (IsToken t) s first from n o p K rest e least late ih is = is
forget_at m Passes s first from n o p K rest e least late ih (inl (non, k)) = inl (non, ih (open_under (is_late s) (vanishes s) n from rest (vanishing s Passes e refl) late) k)
forget_at m Passes s first from n o p K rest e least late ih (inr (is, non, k)) = inr (is, tt, k)
forget_at m PassesAny s first from n o p K rest e least late ih (is, inl k) = (is, inl (ih (open_under (is_late s) (vanishes s) n from rest (vanishing s PassesAny e refl) late) k))
forget_at m PassesAny s first from n o p K rest e least late ih (is, inr (non, k)) = (is, inr (tt, k))
forget_at m Commas s first from n o p K rest e least late ih (inl (non, k)) = inl (non, ih (open_under (is_late s) (vanishes s) n from rest (vanishing s Commas e refl) late) k)
forget_at m Commas s first from n o p K rest e least late ih (inr (is, non, k)) = inr (is, tt, k)
forget_at m Arrows s first from n o p K rest e least late ih (inl (inl (non, head, k))) = inl (inl (non, tt, ih (open_late (is_late s) (vanishes s) n from rest (asking s Arrows e refl) late).1 k))
forget_at m Arrows s first from n o p K rest e least late ih (inl (inr (is, non, k))) = inl (inr (is, tt, k))
forget_at m Arrows s first from n o p K rest e least late ih (inr (is, at, k)) = no_stand _ n from o least (open_late (is_late s) (vanishes s) n from rest (asking s Arrows e refl) late).0 at
forget_at m Labels s first from n o p K rest e least late ih (inl (non, goes)) = inl (non, goes_on s first from n o K rest ih late goes)
forget_at m Labels s first from n o p K rest e least late ih (inr (is, at, k)) = no_name_stand _ n from o least (open_late (is_late s) (vanishes s) n from rest (asking s Labels e refl) late).0 at
forget_at m Operand s first from n o p K rest e least late ih is = is
forget_at m HeadOperand s first from n o p K rest e least late ih is = is
forget_at m Plain s first from n o p K rest e least late ih (is, goes) = (is, goes_on s first from n o K rest ih late goes)

-- no frame that comes to the top before a further token asks for a later operand
pub forget : (m : Maker) (n : ℕ) (fs : List Frame) (o : Left) (ps : List Part) → AtLeast n o → Open n fs → Suits m fs o ps → Suits m fs Anything ps
forget m n [] o ps least late is = is
forget m n (EndMark ∷ fs) o ps least late is = forget m n fs o ps least late is
forget m n (Want s first from ∷ fs) o [] least late is = is
forget m n (Want s first from ∷ fs) o (p ∷ ps) least late is =
    forget_at m (role_of s) s first from n o p (λ x. Suits m fs x ps) (Open n fs) refl least late (λ late k. forget m n fs o ps least late k) is

in_chain_passes : (s : Symbol) (r : Role) → role_of s ≡ r → hands_head r ≡ true → in_chain s ≡ true
in_chain_passes s r e is = ap (λ r. hands_head r || is_new s) e ∙ ap (λ b. b || is_new s) is

no_head_at : (m : Maker) (r : Role) (s : Symbol) (first : Class) (from n k : ℕ) (p : Part) (K : Left → Type 0) (rest ready : Type 0) → role_of s ≡ r → passes r ≡ true → n ≤ k → OpenAt (is_late s) (vanishes s) n from rest
    → (in_chain s ≡ true → ready) → (ready → rest → K (HeadAt k) → ⊥) → SuitsAt m r s first from (HeadAt k) p K → ⊥
no_head_at m Passes s first from n k p K rest ready e is least late linked ih (inl (non, x)) = ih (linked (in_chain_passes s Passes e refl)) (open_under (is_late s) (vanishes s) n from rest (vanishing s Passes e refl) late) x
no_head_at m Passes s first from n k p K rest ready e is least late linked ih (inr (a, non, x)) = non
no_head_at m PassesAny s first from n k p K rest ready e is least late linked ih (a, inl x) = ih (linked (in_chain_passes s PassesAny e refl)) (open_under (is_late s) (vanishes s) n from rest (vanishing s PassesAny e refl) late) x
no_head_at m PassesAny s first from n k p K rest ready e is least late linked ih (a, inr (non, x)) = non
no_head_at m Arrows s first from n k p K rest ready e is least late linked ih (inl (inl (non, head, x))) = head
no_head_at m Arrows s first from n k p K rest ready e is least late linked ih (inl (inr (a, non, x))) = non
no_head_at m Arrows s first from n k p K rest ready e is least late linked ih (inr (a, at, x)) = no_stand ⊥ n from (HeadAt k) least (open_late (is_late s) (vanishes s) n from rest (asking s Arrows e refl) late).0 at
no_head_at m _ s first from n k p K rest ready e is least late linked ih x = cc

pub no_head : (m : Maker) (n k : ℕ) (fs : List Frame) (ps : List Part) → is_ready fs ≡ true → Linked fs → Open n fs → n ≤ k → Suits m fs (HeadAt k) ps → ⊥
no_head m n k [] ps ready linked late least is = cc
no_head m n k (EndMark ∷ fs) ps ready linked late least is = no_head m n k fs ps ready linked late least is
no_head m n k (Want s first from ∷ fs) [] ready linked late least is = is
no_head m n k (Want s first from ∷ fs) (p ∷ ps) ready linked late least is =
    no_head_at m (role_of s) s first from n k p (λ x. Suits m fs x ps) (Open n fs) (is_ready fs ≡ true) refl ready least late linked.0 (λ ready late x. no_head m n k fs ps ready linked.1 late least x) is

-- all frames are of earlier tokens than a later one
bounded_open : (l b : Bool) (n k from : ℕ) (K : Type 0) → from ≤ n → n < k → K → OpenAt l b k from K
bounded_open true b n k from K h g x = (omega arith, x)
bounded_open false true n k from K h g x = x
bounded_open false false n k from K h g x = tt

pub all_open : (c : Class) (n k : ℕ) (fs : List Frame) → Chain c n fs → n < k → Open k fs
all_open c n k [] chain less = tt
all_open c n k (EndMark ∷ fs) chain less = all_open c n k fs chain less
all_open c n k (Want s first from ∷ fs) (least, same, chain) less = bounded_open (is_late s) (vanishes s) n k from (Open k fs) least less (all_open first from k fs chain (omega arith))

-- the parts of a row's symbols, one by one
from_after_by : (a b : Bool) (c : Class) (n : ℕ) → (a ≡ true → is_name c ≡ true) → (b ≡ true → is_head c ≡ true) → From c n (after_by a b n)
from_after_by true b c n f g = (omega arith, λ e. f refl)
from_after_by false true c n f g = (omega arith, λ e. g refl)
from_after_by false false c n f g = tt

pub from_after : (t : Terminal) (c : Class) (n : ℕ) → From c n (after t c n)
from_after t c n = from_after_by (takes_class t c && is_name c) (takes_class t classes.CloseParen && is_head c) c n (and_right (takes_class t c) (is_name c)) (and_right (takes_class t classes.CloseParen) (is_head c))

pub no_endings : (m : Maker) (p : Part) → NoEndings p → PartIs m operators p
no_endings m (parts.Endings []) non = λ t is. is
no_endings m (parts.Endings (e ∷ es)) non = absurd non
no_endings m _ non = absurd non

pub no_values : (m : Maker) (p : Part) → NoValues p → PartIs m (many (field.Node unions.Expression)) p
no_values m (parts.Values none raw) non = tt
no_values m (parts.Values (more d ds) raw) non = absurd non
no_values m _ non = absurd non

pub operand_is : (m : Maker) (x : Left) (p : Part) → NoHead x → OperandIs m x p → PartIs m (one_node unions.Expression) p
operand_is m Anything p non is = is
operand_is m (NameAt n) p non is = is.0
operand_is m (HeadAt n) p non is = absurd non

abbrev pub apart_role : Class → Role → Bool
apart_role c Arrows = false
apart_role c Labels = false
apart_role c HeadOperand = not (is_head c)
apart_role c _ = true

abbrev Apart : Maker → Symbol → Class → ℕ → Left → Part → (Left → Type 0) → Type 0
Apart m s c n o p K = (x : Left) × ((vanishes s ≡ true) × (x ≡ o) ⊎ From c n x) × PartIs m (part_of s) p × K x

a_part : (m : Maker) (r : Role) (s : Symbol) (p : Part) → role_of s ≡ r → PartIs m (part_at r (part_of s)) p → PartIs m (part_of s) p
a_part m r s p e is = subst (λ t. PartIs m t p) (part_by s r e) is

not_both : (A : Type 0) (b : Bool) → not b ≡ true → b ≡ true → A
not_both A true e f = cc
not_both A false e f = cc

no_head_here : (m : Maker) (c : Class) (n : ℕ) (x : Left) (K : Left → Type 0) → not (is_head c) ≡ true → ((k : ℕ) → n < k → K (HeadAt k) → ⊥) → From c n x → K x → NoHead x
no_head_here m c n Anything K e refuted is k = tt
no_head_here m c n (NameAt j) K e refuted is k = tt
no_head_here m c n (HeadAt j) K e refuted is k = refuted j (elim (dec_le j n is) [ inl h ↦ h | inr h ↦ not_both (n < j) (is_head c) e (is.1 h) ]) k
  where
    dec_le : (j n : ℕ) → From c n (HeadAt j) → (n < j) ⊎ (j ≡ n)
    dec_le j n is = grind arith

goes_apart : (m : Maker) (s : Symbol) (c : Class) (n : ℕ) (o : Left) (p : Part) (K : Left → Type 0) → PartIs m (part_of s) p → Goes s c n o K → Apart m s c n o p K
goes_apart m s c n o p K is (inl (v, k)) = (o, inl (v, refl), is, k)
goes_apart m s c n o p K is (inr (x, from, k)) = (x, inr from, is, k)

apart_at : (m : Maker) (r : Role) (s : Symbol) (c : Class) (n : ℕ) (o : Left) (p : Part) (K : Left → Type 0) → role_of s ≡ r → apart_role c r ≡ true → (hands_head r ≡ true → (k : ℕ) → n < k → K (HeadAt k) → ⊥)
    → SuitsAt m r s c n o p K → Apart m s c n o p K
apart_at m (IsToken t) s c n o p K e ok refuted (is, k) = (after t c n, inr (from_after t c n), a_part m (IsToken t) s p e is, k)
apart_at m Passes s c n o p K e ok refuted (inl (non, k)) = (o, inl (vanishing s Passes e refl, refl), a_part m Passes s p e (no_endings m p non), k)
apart_at m Passes s c n o p K e ok refuted (inr (is, non, k)) = (Anything, inr tt, a_part m Passes s p e is, k)
apart_at m PassesAny s c n o p K e ok refuted (is, inl k) = (o, inl (vanishing s PassesAny e refl, refl), a_part m PassesAny s p e is, k)
apart_at m PassesAny s c n o p K e ok refuted (is, inr (non, k)) = (Anything, inr tt, a_part m PassesAny s p e is, k)
apart_at m Commas s c n o p K e ok refuted (inl (non, k)) = (o, inl (vanishing s Commas e refl, refl), a_part m Commas s p e (no_values m p non), k)
apart_at m Commas s c n o p K e ok refuted (inr (is, non, k)) = (Anything, inr tt, a_part m Commas s p e is, k)
apart_at m Arrows s c n o p K e ok refuted is = cc
apart_at m Labels s c n o p K e ok refuted is = cc
apart_at m Operand s c n o p K e ok refuted (x, from, non, is, k) = (x, inr from, a_part m Operand s p e (operand_is m x p non is), k)
apart_at m HeadOperand s c n o p K e ok refuted (x, from, is, k) = (x, inr from, a_part m HeadOperand s p e (operand_is m x p (no_head_here m c n x K ok (refuted refl) from k) is), k)
apart_at m Plain s c n o p K e ok refuted (is, goes) = goes_apart m s c n o p K is goes

abbrev pub all_apart : Class → List Symbol → Bool
all_apart c ss = list_all (λ s. apart_role c (role_of s)) ss

abbrev pub TakenApart : Maker → List Symbol → List Frame → Class → ℕ → Left → List Part → Type 0
TakenApart m ss fs c n o ps = (x : Left) × (qs : List Part) × PartsAre m (map part_of ss) ps qs × ((list_all vanishes ss ≡ true) × (x ≡ o) ⊎ From c n x) × Suits m fs x qs

joined_left : (a b : Bool) (c : Class) (n : ℕ) (o x y : Left) → ((a ≡ true) × (x ≡ o) ⊎ From c n x) → ((b ≡ true) × (y ≡ x) ⊎ From c n y) → ((a && b) ≡ true) × (y ≡ o) ⊎ From c n y
joined_left a b c n o x y (inl (v, e)) (inl (w, f)) = inl (ap (λ z. z && b) v ∙ w, f ∙ e)
joined_left a b c n o x y (inr from) (inl (w, f)) = inr (subst (From c n) (sym f) from)
joined_left a b c n o x y left (inr from) = inr from

pub taken_apart : (m : Maker) (c : Class) (n : ℕ) (fs : List Frame) (ss : List Symbol) (o : Left) (ps : List Part) → all_apart c ss ≡ true → Chain c n (want_all c n ss ++ fs) → Linked (want_all c n ss ++ fs)
    → Suits m (want_all c n ss ++ fs) o ps → TakenApart m ss fs c n o ps
taken_apart m c n fs [] o ps ok chain linked is = (o, ps, refl, inl (refl, refl), is)
taken_apart m c n fs (s ∷ ss) o [] ok chain linked is = absurd is
taken_apart m c n fs (s ∷ ss) o (p ∷ ps) ok chain linked is =
    let here = apart_at m (role_of s) s c n o p (λ x. Suits m (want_all c n ss ++ fs) x ps) refl (and_left _ (all_apart c ss) ok)
    (λ hands k less x. no_head m (suc n) k (want_all c n ss ++ fs) ps (linked.0 (in_chain_passes s (role_of s) refl hands)) linked.1 (all_open c n (suc n) (want_all c n ss ++ fs) chain.2 (omega arith)) less x) is in
    let rest = taken_apart m c n fs ss here.0 ps (and_right (apart_role c (role_of s)) (all_apart c ss) ok) chain.2 linked.1 here.3 in
    (rest.0, rest.1, (here.2, rest.2), joined_left (vanishes s) (list_all vanishes ss) c n o here.0 rest.0 here.1 rest.3, rest.4)
