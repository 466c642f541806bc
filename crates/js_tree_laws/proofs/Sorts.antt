-- What the values of a symbol may be, and what is put around an operand: tests that compute, and what they stand for.
use Rattle.std.proofs.Common.{◌≡◌, ℕ, Bool, true, false, not, ◌&&◌, ◌||◌, ◌⊎◌, List, [], ◌∷◌, ◌++◌, Option, Some, None, Result, Ok, Err, length, nat_lt, ◌^◌}
use Rattle.std.specs.Prelude.{◌==◌}
use Rattle.std.specs.List.{list_all}
use Rattle.bast_base.specs.declared.errors.NameId.{NameId}
use Rattle.bast_schema.specs.declared.kind.EnumId.{EnumId}
use Rattle.bast_schema.specs.declared.kind.EnumId.TheVariants as sets
use Rattle.bast_schema.specs.declared.kind.FieldType.{FieldType}
use Rattle.bast_schema.specs.declared.kind.FieldType.TheVariants as field
use Rattle.bast_schema.specs.declared.kind.Kind.{Kind}
use Rattle.bast_schema.specs.declared.kind.Kind.TheVariants as kinds
use Rattle.bast_schema.specs.declared.kind.Union.{Union}
use Rattle.bast_schema.specs.declared.kind.Union.TheVariants as unions
use Rattle.bast_schema.specs.Choices.{choice_texts}
use Rattle.bast_schema.specs.Counts.{join}
use Rattle.bast_schema.specs.Fields.{fields}
use Rattle.bast_schema.specs.Tree.{Tree, branch, Datum, child, absent, listed, Data, none, more, fits, fit}
use Rattle.bast_schema.specs.Unions.{allowed, kinds_in}
use Rattle.js_grammar.specs.declared.class.Class.{Class}
use Rattle.js_grammar.specs.declared.class.Class.TheVariants as classes
use Rattle.js_grammar.specs.declared.symbols.Terminal.{Terminal}
use Rattle.js_grammar.specs.Classes.{takes_class, is_among}
use Rattle.js_tree.specs.Nodes.{Maker, folded, identifier}
use Rattle.js_tree.specs.Operators.{operator}
use Rattle.js_tree.specs.declared.fault.Fault.{Fault}
use Rattle.js_tree.specs.declared.fault.Fault.TheVariants as faults
use Rattle.js_tree.specs.declared.leaf.Leaf.{Leaf}
use Rattle.js_tree.specs.declared.parts.Part.{Part}
use Rattle.js_tree.specs.declared.parts.Part.TheVariants as parts
use Rattle.js_tree.specs.declared.parts.Form.TheVariants as forms
use Rattle.js_tree.specs.declared.parts.Ending.{Ending}
use Rattle.js_tree.specs.declared.parts.Ending.TheVariants as endings
use Rattle.js_tree.specs.declared.parts.Item.{Item}
use Rattle.js_tokens.specs.declared.kinds.TokenKind.TheVariants as tokens

-- it is never broken: what is made is so, unless it would be too deep
abbrev pub Safely : {A : Type 0} → (A → Type 0) → Result A Fault → Type 0
Safely P (Ok x) = P x
Safely P (Err faults.TooDeep) = Unit {0}
Safely P (Err faults.Broken) = ⊥
Safely P (Err faults.Memory) = ⊥

-- a maker makes the node of each kind and its fields, where these fit
abbrev pub IsMaker : Maker → Type 0
IsMaker m = (k : Kind) (ds : Data) → fit (fields k) ds ≡ true → Safely (λ t. t ≡ branch k ds) (m k ds)

-- a typed node of the union
abbrev pub Is : Union → Tree → Type 0
Is u t = fits (field.Node u) (child t) ≡ true

-- what a value may be: of a field's type, absent, or a list without items
pub data Sort : Type 0 where
  Of : FieldType → Sort
  Missing : Sort
  Empty : Sort

abbrev pub Fits : Sort → Datum → Type 0
Fits (Of t) d = fits t d ≡ true
Fits Missing d = d ≡ absent
Fits Empty d = d ≡ listed none

-- what stands behind values that are known one by one
pub data Rest : Type 0 where
  Nothing : Rest
  Many : FieldType → Rest
  Maybe : FieldType → Rest
  Clauses : Rest
  Parameters : Rest

abbrev pub case : FieldType
case = field.Node (unions.One kinds.SwitchCase)

abbrev pub default : FieldType
default = field.Node (unions.One kinds.SwitchDefault)

abbrev pub parameter : FieldType
parameter = field.Node unions.Parameter

abbrev pub last_parameter : FieldType
last_parameter = field.Optional (unions.One kinds.BindingIdentifier)

abbrev pub RestIs : Rest → Data → Type 0
RestIs Nothing none = Unit {0}
RestIs Nothing (more d ds) = ⊥
RestIs (Many t) none = Unit {0}
RestIs (Many t) (more d ds) = (fits t d ≡ true) × RestIs (Many t) ds
RestIs (Maybe t) none = Unit {0}
RestIs (Maybe t) (more d none) = fits t d ≡ true
RestIs (Maybe t) (more d (more e es)) = ⊥
RestIs Clauses none = Unit {0}
RestIs Clauses (more d ds) = (fits case d ≡ true) × RestIs Clauses ds ⊎ (fits default d ≡ true) × RestIs (Many case) ds
RestIs Parameters none = ⊥
RestIs Parameters (more d none) = fits last_parameter d ≡ true
RestIs Parameters (more d (more e es)) = (fits parameter d ≡ true) × RestIs Parameters (more e es)

abbrev pub Holds : List Sort → Rest → Data → Type 0
Holds [] r ds = RestIs r ds
Holds (s ∷ ss) r none = ⊥
Holds (s ∷ ss) r (more d ds) = Fits s d × Holds ss r ds

-- each kind of one union is in the other
abbrev pub within : Union → Union → Bool
within v u = list_all (allowed u) (kinds_in v)

abbrev pub same_set : EnumId → EnumId → Bool
same_set sets.UnaryOperator sets.UnaryOperator = true
same_set sets.UpdateOperator sets.UpdateOperator = true
same_set sets.BinaryOperator sets.BinaryOperator = true
same_set sets.CompoundOperator sets.CompoundOperator = true
same_set sets.LexicalKind sets.LexicalKind = true
same_set sets.ForKind sets.ForKind = true
same_set _ _ = false

abbrev pub leads : Bool → Bool → Bool
leads true b = b
leads false b = true

-- what is of the sort is of the type
abbrev pub suits : Sort → FieldType → Bool
suits (Of (field.Node v)) (field.Node u) = within v u
suits (Of (field.Node v)) (field.Optional u) = within v u
suits (Of (field.Optional v)) (field.Optional u) = within v u
suits (Of (field.List v holes filled)) (field.List u holes_too filled_too) = within v u && leads holes holes_too && leads filled_too filled
suits (Of field.Bool) field.Bool = true
suits (Of field.Whole) field.Whole = true
suits (Of field.Text) field.Text = true
suits (Of field.Text) field.Name = true
suits (Of field.Text) field.Label = true
suits (Of field.Label) field.Label = true
suits (Of (field.Choice e)) (field.Choice f) = same_set e f
suits Missing (field.Optional u) = true
suits Empty (field.List u holes filled) = not filled
suits _ _ = false

-- values of these sorts are the fields of these types
abbrev pub suit : List Sort → List FieldType → Bool
suit [] [] = true
suit (s ∷ ss) (t ∷ ts) = suits s t && suit ss ts
suit _ _ = false

abbrev pub rest_within : Rest → Rest → Bool
rest_within Nothing Nothing = true
rest_within Nothing (Many t) = true
rest_within Nothing (Maybe t) = true
rest_within Nothing Clauses = true
rest_within (Many s) (Many t) = suits (Of s) t
rest_within (Maybe s) (Maybe t) = suits (Of s) t
rest_within Clauses Clauses = true
rest_within Parameters Parameters = true
rest_within _ _ = false

-- values of the first kind are values of the other
abbrev pub behind_within : List Sort → Rest → Rest → Bool
behind_within [] q r = rest_within q r
behind_within (s ∷ ss) q (Many t) = suits s t && behind_within ss q (Many t)
behind_within (s ∷ []) Nothing (Maybe t) = suits s t
behind_within (s ∷ ss) q Clauses = (suits s case && behind_within ss q Clauses) || (suits s default && behind_within ss q (Many case))
behind_within (s ∷ []) Nothing Parameters = suits s last_parameter
behind_within (s ∷ ss) q Parameters = suits s parameter && behind_within ss q Parameters
behind_within (s ∷ ss) q _ = false

abbrev pub shape_within : List Sort → Rest → List FieldType → Rest → Bool
shape_within ss q [] r = behind_within ss q r
shape_within [] q (t ∷ ts) r = false
shape_within (s ∷ ss) q (t ∷ ts) r = suits s t && shape_within ss q ts r

-- the list of such values
abbrev pub is_filled : List FieldType → Bool
is_filled [] = false
is_filled (t ∷ ts) = true

abbrev pub all_suit : List FieldType → FieldType → Bool
all_suit [] u = true
all_suit (t ∷ ts) u = suits (Of t) u && all_suit ts u

abbrev pub wrapped_if : Bool → FieldType → Option FieldType
wrapped_if true t = Some t
wrapped_if false t = None

abbrev pub wrapped : List FieldType → Rest → Option FieldType
wrapped ts (Many (field.Node u)) = wrapped_if (all_suit ts (field.Node u)) (field.List u false (is_filled ts))
wrapped ts (Many (field.Optional u)) = wrapped_if (all_suit ts (field.Optional u)) (field.List u true (is_filled ts))
wrapped ts _ = None

-- the operands that something may be put around
pub data Operand : Type 0 where
  Any : Union → Operand
  OneName : Operand
  Head : Operand

abbrev pub IsNamed : Tree → Type 0
IsNamed t = (n : ℕ) × (identifier t ≡ Some n)

-- one name, or the parameters in the head of an arrow function
abbrev pub IsOperand : Operand → Tree → Type 0
IsOperand (Any u) t = Is u t
IsOperand OneName t = Is unions.Expression t × IsNamed t
IsOperand Head t = (Is unions.Expression t × IsNamed t) ⊎ Is (unions.One kinds.FormalParameters) t

pub data Tail : Type 0 where
  NoTail : Tail
  Turns : Operand → Union → Tail
  Names : Tail
  Fills : FieldType → Tail
  Binds : Tail

abbrev pub TurnsTo : Maker → Operand → Union → List Ending → Type 0
TurnsTo m o v es = (t : Tree) → IsOperand o t → Safely (Is v) (folded m es t)

-- an ending of a statement around its body, into which a value is still to be filled
abbrev pub CanFill : FieldType → Kind → Data → Data → Type 0
CanFill s k before behind =
    (allowed unions.Body k ≡ true)
    × ((d : Datum) (t : Tree) → fits s d ≡ true → Is unions.Body t → fit (fields k) (join (join before (more d behind)) (more (child t) none)) ≡ true)

abbrev pub declarators : Rest
declarators = Many (field.Node (unions.One kinds.VariableDeclarator))

abbrev pub Filling : FieldType → Ending → Type 0
Filling s (endings.Around k forms.Plain before behind) = CanFill s k before behind
Filling s _ = ⊥

abbrev pub Binding : Ending → Type 0
Binding (endings.Around k forms.Plain before behind) = CanFill (field.Node unions.ForTarget) k before behind
Binding (endings.Around k (forms.Declared ds) before behind) = Holds (Of (field.Optional unions.Expression) ∷ []) declarators ds × CanFill (field.Optional unions.ForInit) k before behind
Binding _ = ⊥

abbrev pub OneOf : (Ending → Type 0) → List Ending → Type 0
OneOf P [] = ⊥
OneOf P (e ∷ []) = P e
OneOf P (e ∷ f ∷ es) = ⊥

abbrev pub AreEndings : Maker → Tail → List Ending → Type 0
AreEndings m NoTail es = es ≡ []
AreEndings m (Turns o v) es = TurnsTo m o v es
AreEndings m Names es = (length es == 0) ≡ false → TurnsTo m (Any unions.PropertyName) unions.ObjectProperty es
AreEndings m (Fills s) es = OneOf (Filling s) es
AreEndings m Binds es = OneOf Binding es

-- statements
abbrev pub AreItems : List Item → Type 0
AreItems [] = Unit {0}
AreItems (i ∷ is) = Is unions.Statement i.statement × AreItems is

-- the classes of tokens that have a text
abbrev pub name_classes : List Class
name_classes =
    classes.Identifier ∷ classes.Of ∷ classes.Get ∷ classes.Set ∷ classes.Text ∷ classes.TemplateWhole ∷ classes.TemplateHead ∷
    classes.TemplateMiddle ∷ classes.TemplateTail ∷ []

abbrev pub word_classes : List Class
word_classes =
    classes.Instanceof ∷ classes.In ∷ classes.UnaryWord ∷ classes.This ∷ classes.Null ∷ classes.True ∷ classes.False ∷ classes.New ∷
    classes.Function ∷ classes.Let ∷ classes.Const ∷ classes.Var ∷ classes.Debugger ∷ classes.If ∷ classes.Else ∷ classes.For ∷ classes.While ∷
    classes.Do ∷ classes.Continue ∷ classes.Break ∷ classes.Return ∷ classes.Throw ∷ classes.Switch ∷ classes.Case ∷ classes.Default ∷
    classes.Try ∷ classes.Catch ∷ classes.Finally ∷ classes.OtherWord ∷ []

abbrev pub told_classes : List Class
told_classes = classes.Number ∷ (name_classes ++ word_classes)

abbrev pub tells_text : Class → Bool
tells_text c = is_among c told_classes

abbrev pub is_number : Class → Bool
is_number classes.Number = true
is_number _ = false

-- the classes of the operators of a set
abbrev pub is_operator : EnumId → Class → Bool
is_operator sets.UnaryOperator classes.Sign = true
is_operator sets.UnaryOperator classes.Complement = true
is_operator sets.UnaryOperator classes.UnaryWord = true
is_operator sets.UpdateOperator classes.Increment = true
is_operator sets.UpdateOperator classes.Decrement = true
is_operator sets.BinaryOperator classes.LogicalOr = true
is_operator sets.BinaryOperator classes.LogicalAnd = true
is_operator sets.BinaryOperator classes.BitwiseOr = true
is_operator sets.BinaryOperator classes.BitwiseXor = true
is_operator sets.BinaryOperator classes.BitwiseAnd = true
is_operator sets.BinaryOperator classes.Equality = true
is_operator sets.BinaryOperator classes.Relational = true
is_operator sets.BinaryOperator classes.Instanceof = true
is_operator sets.BinaryOperator classes.In = true
is_operator sets.BinaryOperator classes.Shift = true
is_operator sets.BinaryOperator classes.Sign = true
is_operator sets.BinaryOperator classes.Multiplicative = true
is_operator sets.CompoundOperator classes.Compound = true
is_operator _ _ = false

abbrev pub IsTold : Leaf → Type 0
IsTold l = (n : NameId) × (l.text ≡ Some n)

abbrev pub IsNumber : Leaf → Type 0
IsNumber l = (n : ℕ) × (l.kind ≡ tokens.Number n) × (nat_lt n (2 ^ 53) ≡ true)

abbrev pub IsOperator : EnumId → Leaf → Type 0
IsOperator e l = (n : ℕ) × (operator e l.kind ≡ Some n) × (nat_lt n (length (choice_texts e)) ≡ true)

-- what a token of a class tells
pub record LeafIs (c : Class) (l : Leaf) : Type 0 where
  pub told : tells_text c ≡ true → IsTold l
  pub counts : is_number c ≡ true → IsNumber l
  pub operates : (e : EnumId) → is_operator e c ≡ true → IsOperator e l

-- what a symbol's part may be
pub data PartSort : Type 0 where
  Token : Terminal → PartSort
  Semicolon : PartSort
  Values : List FieldType → Rest → PartSort
  Endings : Tail → PartSort
  Items : PartSort

abbrev pub sorts_of : List FieldType → List Sort
sorts_of [] = []
sorts_of (t ∷ ts) = Of t ∷ sorts_of ts

abbrev pub IsToken : Terminal → Leaf → Type 0
IsToken t l = (c : Class) × (takes_class t c ≡ true) × LeafIs c l

abbrev pub PartIs : Maker → PartSort → Part → Type 0
PartIs m (Token t) (parts.Token l) = IsToken t l
PartIs m Semicolon p = Unit {0}
PartIs m (Values ts r) (parts.Values ds raw) = Holds (sorts_of ts) r ds
PartIs m (Endings e) (parts.Endings es) = AreEndings m e es
PartIs m Items (parts.Items is) = AreItems is
PartIs m _ _ = ⊥
