-- What a row's own part may be, found from what it has gathered.
use Rattle.std.proofs.Common.{◌≡◌, Bool, true, false, ◌&&◌, inl, List, [], ◌∷◌, ◌++◌, Ok, sym, ap, subst, length}
use Rattle.std.specs.Prelude.{◌==◌}
use Rattle.bast_schema.specs.declared.kind.FieldType.{FieldType}
use Rattle.bast_schema.specs.declared.kind.FieldType.TheVariants as field
use Rattle.bast_schema.specs.declared.kind.Kind.{Kind}
use Rattle.bast_schema.specs.declared.kind.Union.{Union}
use Rattle.bast_schema.specs.declared.kind.Union.TheVariants as unions
use Rattle.bast_schema.specs.Fields.{fields}
use Rattle.bast_schema.specs.Counts.{join}
use Rattle.bast_schema.specs.Tree.{Tree, Datum, child, Data, more, fit}
use Rattle.js_tree.specs.Finishes.{Finished}
use Rattle.js_tree.specs.Nodes.{Maker, stands, ended, folded}
use Rattle.js_tree.specs.declared.parts.Part.{Part}
use Rattle.js_tree.specs.declared.parts.Part.TheVariants as parts
use Rattle.js_tree.specs.declared.parts.Form.{Form}
use Rattle.js_tree.specs.declared.parts.Form.TheVariants as forms
use Rattle.js_tree.specs.declared.parts.Ending.{Ending}
use Rattle.js_tree.specs.declared.parts.Ending.TheVariants as endings
use Rattle.js_tree_laws.proofs.Sorts.{Sort, Of, Fits, Rest, Nothing, Holds, Tail, NoTail, Turns, Names, Fills, Any, OneName, Head, PartSort, Values, Endings, Items, PartIs, AreEndings, Is, IsMaker, Safely, TurnsTo, IsOperand, Operand, Filling, OneOf, within, suits, suit, shape_within, sorts_of}
use Rattle.js_tree_laws.proofs.Shapes.{and_left, and_right, joined, suits_sound, suit_sound, shape_sound}
use Rattle.js_tree_laws.proofs.Gathers.{PartsAre}
use Rattle.js_tree_laws.proofs.Safe.{safely_bind, safely_map, widened, made_in, self_within}

-- the row's own part is of the sort, above those parts
abbrev pub Makes : Maker → PartSort → List Part → Finished → Type 0
Makes m t qs r = Safely (λ out. (p : Part) × (out ≡ p ∷ qs) × PartIs m t p) r

-- tests on what is left, and on the sort that is wanted
abbrev pub none_left : List PartSort → Bool → Bool
none_left [] b = b
none_left (s ∷ ss) b = false

abbrev pub one_left : List PartSort → (PartSort → Bool) → Bool
one_left (s ∷ []) f = f s
one_left _ f = false

abbrev pub node_target : PartSort → (Union → Bool) → Bool
node_target (Values (field.Node v ∷ []) Nothing) f = f v
node_target _ f = false

abbrev pub values_target : PartSort → (List FieldType → Rest → Bool) → Bool
values_target (Values us r) f = f us r
values_target _ f = false

abbrev pub tail_target : PartSort → (Tail → Bool) → Bool
tail_target (Endings e) f = f e
tail_target _ f = false

abbrev pub items_target : PartSort → Bool → Bool
items_target Items b = b
items_target _ b = false

abbrev pub turns_target : Tail → (Operand → Union → Bool) → Bool
turns_target (Turns o v) f = f o v
turns_target Names f = f (Any unions.PropertyName) unions.ObjectProperty
turns_target _ f = false

pub at_node : (t : PartSort) (f : Union → Bool) (P : PartSort → Type 0) → node_target t f ≡ true → ((v : Union) → f v ≡ true → P (Values (field.Node v ∷ []) Nothing)) → P t
at_node (Values (field.Node v ∷ []) Nothing) f P e next = next v e
at_node _ f P e next = cc

pub at_values : (t : PartSort) (f : List FieldType → Rest → Bool) (P : PartSort → Type 0) → values_target t f ≡ true → ((us : List FieldType) (r : Rest) → f us r ≡ true → P (Values us r)) → P t
at_values (Values us r) f P e next = next us r e
at_values _ f P e next = cc

pub at_tail : (t : PartSort) (f : Tail → Bool) (P : PartSort → Type 0) → tail_target t f ≡ true → ((x : Tail) → f x ≡ true → P (Endings x)) → P t
at_tail (Endings x) f P e next = next x e
at_tail _ f P e next = cc

pub at_items : (t : PartSort) (b : Bool) (P : PartSort → Type 0) → items_target t b ≡ true → (b ≡ true → P Items) → P t
at_items Items b P e next = next e
at_items _ b P e next = cc

pub at_turns : (m : Maker) (x : Tail) (f : Operand → Union → Bool) (es : List Ending) → turns_target x f ≡ true → ((o : Operand) (v : Union) → f o v ≡ true → TurnsTo m o v es) → AreEndings m x es
at_turns m (Turns o v) f es e next = next o v e
at_turns m Names f es e next = λ some. next (Any unions.PropertyName) unions.ObjectProperty e
at_turns m _ f es e next = cc

pub nothing_left : (m : Maker) (ss : List PartSort) (b : Bool) (ps qs : List Part) → none_left ss b ≡ true → PartsAre m ss ps qs → (ps ≡ qs) × (b ≡ true)
nothing_left m [] b ps qs e is = (is, e)
nothing_left m (s ∷ ss) b ps qs e is = cc

pub on_top : (m : Maker) (t : PartSort) (p : Part) (ps qs : List Part) → ps ≡ qs → PartIs m t p → Makes m t qs (Ok (p ∷ ps))
on_top m t p ps qs e is = (p, ap (λ l. p ∷ l) e, is)

-- tests on what is put around an operand
abbrev pub operand_within : Operand → Operand → Bool
operand_within (Any u) (Any v) = within u v
operand_within OneName OneName = true
operand_within OneName Head = true
operand_within Head Head = true
operand_within _ _ = false

abbrev pub tail_within : Tail → Tail → Bool
tail_within NoTail NoTail = true
tail_within NoTail (Turns (Any u) v) = within u v
tail_within NoTail Names = true
tail_within (Turns o v) (Turns p w) = operand_within p o && within v w
tail_within (Turns o v) Names = operand_within (Any unions.PropertyName) o && within v unions.ObjectProperty
tail_within Names Names = true
tail_within (Fills s) (Fills t) = suits (Of t) s
tail_within _ _ = false

pub operand_sound : (o p : Operand) (t : Tree) → operand_within o p ≡ true → IsOperand o t → IsOperand p t
operand_sound (Any u) (Any v) t w is = widened u v t w is
operand_sound OneName OneName t w is = is
operand_sound OneName Head t w is = inl is
operand_sound Head Head t w is = is
operand_sound _ _ t w is = cc

pub turns_within : (m : Maker) (o p : Operand) (v w : Union) (es : List Ending) → (operand_within p o && within v w) ≡ true → TurnsTo m o v es → TurnsTo m p w es
turns_within m o p v w es inside is = λ t e. safely_map (Is v) (Is w) (folded m es t) (λ x y. widened v w x (and_right (operand_within p o) _ inside) y) (is t (operand_sound p o t (and_left _ _ inside) e))

pub no_endings : (m : Maker) (u v : Union) (es : List Ending) → within u v ≡ true → es ≡ [] → TurnsTo m (Any u) v es
no_endings m u v es inside e = λ t is. subst (λ l. Safely (Is v) (folded m l t)) (sym e) (widened u v t inside is)

pub some_none : {A : Type 0} (es : List Ending) → es ≡ [] → (length es == 0) ≡ false → A
some_none es e some = let empty : (length es == 0) ≡ true = ap (λ l. length l == 0) e in cc

filling_within : (s t : FieldType) (e : Ending) → suits (Of t) s ≡ true → Filling s e → Filling t e
filling_within s t (endings.Around k forms.Plain before behind) w is = (is.0, λ d x fitting body. is.1 d x (suits_sound (Of t) s d w fitting) body)
filling_within s t _ w is = absurd is

one_of_within : (P Q : Ending → Type 0) (es : List Ending) → ((e : Ending) → P e → Q e) → OneOf P es → OneOf Q es
one_of_within P Q [] f is = is
one_of_within P Q (e ∷ []) f is = f e is
one_of_within P Q (e ∷ g ∷ es) f is = is

pub tail_sound : (m : Maker) (x y : Tail) (es : List Ending) → tail_within x y ≡ true → AreEndings m x es → AreEndings m y es
tail_sound m NoTail NoTail es w is = is
tail_sound m NoTail (Turns (Any u) v) es w is = no_endings m u v es w is
tail_sound m NoTail Names es w is = some_none es is
tail_sound m (Turns o v) (Turns p x) es w is = turns_within m o p v x es w is
tail_sound m (Turns o v) Names es w is = λ some. turns_within m o (Any unions.PropertyName) v unions.ObjectProperty es w is
tail_sound m Names Names es w is = is
tail_sound m (Fills s) (Fills t) es w is = one_of_within (Filling s) (Filling t) es (λ e. filling_within s t e w) is
tail_sound m _ _ es w is = cc

-- the part of the one symbol
abbrev pub part_within : PartSort → PartSort → Bool
part_within (Values ts q) (Values us r) = shape_within (sorts_of ts) q us r
part_within (Endings x) (Endings y) = tail_within x y
part_within _ _ = false

pub part_sound : (m : Maker) (s t : PartSort) (p : Part) → part_within s t ≡ true → PartIs m s p → PartIs m t p
part_sound m (Values ts q) (Values us r) (parts.Values ds raw) w is = shape_sound (sorts_of ts) q us r ds w is
part_sound m (Values ts q) (Values us r) _ w is = absurd is
part_sound m (Endings x) (Endings y) (parts.Endings es) w is = tail_sound m x y es w is
part_sound m (Endings x) (Endings y) _ w is = absurd is
part_sound m _ _ p w is = cc

pub same_sound : (m : Maker) (ss : List PartSort) (t : PartSort) (ps qs : List Part) → one_left ss (λ s. part_within s t) ≡ true → PartsAre m ss ps qs → Makes m t qs (Ok ps)
same_sound m (s ∷ []) t (p ∷ ps) qs e is = (p, ap (λ l. p ∷ l) is.1, part_sound m s t p e is.0)
same_sound m (s ∷ []) t [] qs e is = absurd is
same_sound m _ t ps qs e is = cc

-- what stands around an operand
abbrev pub tail_after : Kind → Tail → Union → Bool
tail_after k NoTail v = within (unions.One k) v
tail_after k (Turns (Any w) x) v = within (unions.One k) w && within x v
tail_after k _ v = false

pub after_sound : (m : Maker) (k : Kind) (x : Tail) (v : Union) (es : List Ending) → tail_after k x v ≡ true → AreEndings m x es → TurnsTo m (Any (unions.One k)) v es
after_sound m k NoTail v es w is = no_endings m (unions.One k) v es w is
after_sound m k (Turns (Any u) x) v es w is = λ t e. safely_map (Is x) (Is v) (folded m es t) (λ y. widened x v y (and_right (within (unions.One k) u) _ w)) (is t (widened (unions.One k) u t (and_left _ _ w) e))
after_sound m k _ v es w is = cc

pub around : (m : Maker) → IsMaker m → (o : Operand) (v : Union) (k : Kind) (form : Form) (before behind : Data) (es : List Ending)
    → ((t : Tree) → IsOperand o t → Safely (λ d. fit (fields k) (join before (more d behind)) ≡ true) (stands m form t))
    → TurnsTo m (Any (unions.One k)) v es
    → TurnsTo m o v (endings.Around k form before behind ∷ es)
unfolding ended
around m maker o v k form before behind es standing after = λ t is.
    safely_bind (Is (unions.One k)) (Is v) (ended m (endings.Around k form before behind) t) (folded m es)
    (safely_bind (λ d. fit (fields k) (join before (more d behind)) ≡ true) (Is (unions.One k)) (stands m form t) _ (standing t is)
    (λ d fitting. made_in m maker (unions.One k) k (join before (more d behind)) (self_within k) fitting))
    (λ x e. after x e)

pub held_around : (held front : List Sort) (s : Sort) (k : Kind) (before behind : Data) (d : Datum) → suit (held ++ s ∷ front) (fields k) ≡ true → Holds held Nothing before → Holds front Nothing behind → Fits s d → fit (fields k) (join before (more d behind)) ≡ true
held_around held front s k before behind d suiting is more_is fitting = suit_sound (held ++ s ∷ front) (fields k) (join before (more d behind)) suiting (joined held (s ∷ front) Nothing before (more d behind) is (fitting, more_is))

pub plainly : (m : Maker) (P : Datum → Type 0) (t : Tree) → P (child t) → Safely P (stands m forms.Plain t)
unfolding stands
plainly m P t is = is
