-- Which parts suit a stack: each symbol's part is of its sort, an arrow's behind one name or a head, a label's behind one name.
use Rattle.std.proofs.Common.{◌≡◌, ℕ, ◌≤◌, ◌<◌, Bool, true, false, ◌&&◌, ◌||◌, ◌⊎◌, List, [], ◌∷◌}
use Rattle.bast_schema.specs.declared.kind.Kind.TheVariants as kinds
use Rattle.bast_schema.specs.declared.kind.FieldType.TheVariants as field
use Rattle.bast_schema.specs.declared.kind.Union.TheVariants as unions
use Rattle.bast_schema.specs.Tree.{child, none, more}
use Rattle.js_grammar.specs.declared.class.Class.{Class}
use Rattle.js_grammar.specs.declared.class.Class.TheVariants as classes
use Rattle.js_grammar.specs.declared.symbols.Terminal.{Terminal}
use Rattle.js_grammar.specs.declared.symbols.Symbol.{Symbol}
use Rattle.js_grammar.specs.declared.symbols.Symbol.TheVariants as symbols
use Rattle.js_grammar.specs.Classes.{takes_class, is_among, identifiers}
use Rattle.js_machine.specs.declared.events.Frame.{Frame}
use Rattle.js_machine.specs.declared.events.Frame.TheVariants.{Want, EndMark}
use Rattle.js_machine.proofs.Work.{vanishes}
use Rattle.js_tree.specs.Nodes.{Maker}
use Rattle.js_tree.specs.declared.parts.Part.{Part}
use Rattle.js_tree.specs.declared.parts.Part.TheVariants as parts
use Rattle.js_tree_laws.proofs.Sorts.{IsNamed, Turns, OneName, Head, Token, Endings, PartIs}
use Rattle.js_tree_laws.proofs.Table.{part_of, one_node, operators, many}

-- what was derived last: anything, one name that is the token of this number, or the head whose `(` is
pub data Left : Type 0 where
  Anything : Left
  NameAt : ℕ → Left
  HeadAt : ℕ → Left

abbrev pub NoHead : Left → Type 0
NoHead Anything = Unit {0}
NoHead (NameAt n) = Unit {0}
NoHead (HeadAt n) = ⊥

abbrev pub is_name : Class → Bool
is_name c = is_among c identifiers

abbrev pub is_head : Class → Bool
is_head c = is_among c (classes.HeadParen ∷ [])

-- what a token leaves, of a row that was taken at a token of that class and number
abbrev pub after_by : Bool → Bool → ℕ → Left
after_by true b n = NameAt n
after_by false true n = HeadAt n
after_by false false n = Anything

abbrev pub after : Terminal → Class → ℕ → Left
after t first from = after_by (takes_class t first && is_name first) (takes_class t classes.CloseParen && is_head first) from

-- it may have been derived from a token of that class and number on
abbrev pub From : Class → ℕ → Left → Type 0
From first from Anything = Unit {0}
From first from (NameAt n) = (from ≤ n) × (n ≡ from → is_name first ≡ true)
From first from (HeadAt n) = (from ≤ n) × (n ≡ from → is_head first ≡ true)

abbrev pub StandsAt : ℕ → Left → Type 0
StandsAt from Anything = ⊥
StandsAt from (NameAt n) = n ≡ from
StandsAt from (HeadAt n) = n ≡ from

abbrev pub NameStandsAt : ℕ → Left → Type 0
NameStandsAt from (NameAt n) = n ≡ from
NameStandsAt from _ = ⊥

abbrev pub PartIsNamed : Part → Type 0
PartIsNamed (parts.Values (more (child t) none) raw) = IsNamed t
PartIsNamed _ = ⊥

abbrev pub OperandIs : Maker → Left → Part → Type 0
OperandIs m Anything p = PartIs m (one_node unions.Expression) p
OperandIs m (NameAt n) p = PartIs m (one_node unions.Expression) p × PartIsNamed p
OperandIs m (HeadAt n) p = PartIs m (one_node (unions.One kinds.FormalParameters)) p

abbrev pub NoEndings : Part → Type 0
NoEndings (parts.Endings []) = Unit {0}
NoEndings _ = ⊥

abbrev pub NoValues : Part → Type 0
NoValues (parts.Values none raw) = Unit {0}
NoValues _ = ⊥

-- what a symbol has to do with operands
pub data Role : Type 0 where
  IsToken : Terminal → Role
  Passes : Role
  PassesAny : Role
  Commas : Role
  Arrows : Role
  Labels : Role
  Operand : Role
  HeadOperand : Role
  Plain : Role

abbrev pub role_of : Symbol → Role
role_of (symbols.Take t) = IsToken t
role_of symbols.LhsTail = Passes
role_of symbols.MemberTail = Passes
role_of symbols.Again = Passes
role_of symbols.Post = Passes
role_of (symbols.LevelTail n m) = Passes
role_of (symbols.CondTail m) = Passes
role_of symbols.NewArgs = PassesAny
role_of (symbols.Comma m) = Commas
role_of (symbols.AssignTail m) = Arrows
role_of symbols.Label = Labels
role_of (symbols.Expr m) = Operand
role_of (symbols.Assign m) = Operand
role_of (symbols.Cond m) = HeadOperand
role_of (symbols.Level n m) = HeadOperand
role_of symbols.Unary = HeadOperand
role_of symbols.Lhs = HeadOperand
role_of symbols.Callee = HeadOperand
role_of symbols.Primary = HeadOperand
role_of _ = Plain

-- what goes on behind a symbol: what was left before, where it may stand for nothing, or what was derived from it
abbrev pub Goes : Symbol → Class → ℕ → Left → (Left → Type 0) → Type 0
Goes s first from o K = ((vanishes s ≡ true) × K o) ⊎ ((p : Left) × From first from p × K p)

abbrev pub SuitsAt : Maker → Role → Symbol → Class → ℕ → Left → Part → (Left → Type 0) → Type 0
SuitsAt m (IsToken t) s first from o p K = PartIs m (Token t) p × K (after t first from)
SuitsAt m Passes s first from o p K = (NoEndings p × K o) ⊎ (PartIs m operators p × NoHead o × K Anything)
SuitsAt m PassesAny s first from o p K = PartIs m operators p × (K o ⊎ (NoHead o × K Anything))
SuitsAt m Commas s first from o p K = (NoValues p × K o) ⊎ (PartIs m (many (field.Node unions.Expression)) p × NoHead o × K Anything)
SuitsAt m Arrows s first from o p K =
    ((NoEndings p × NoHead o × K o) ⊎ (PartIs m operators p × NoHead o × K Anything)) ⊎ (PartIs m (Endings (Turns Head unions.Expression)) p × StandsAt from o × K Anything)
SuitsAt m Labels s first from o p K = (NoEndings p × Goes s first from o K) ⊎ (PartIs m (Endings (Turns OneName unions.Body)) p × NameStandsAt from o × K Anything)
SuitsAt m Operand s first from o p K = (x : Left) × From first from x × NoHead x × OperandIs m x p × K x
SuitsAt m HeadOperand s first from o p K = (x : Left) × From first from x × OperandIs m x p × K x
SuitsAt m Plain s first from o p K = PartIs m (part_of s) p × Goes s first from o K

-- these parts suit the stack, where that was derived before
abbrev pub Suits : Maker → List Frame → Left → List Part → Type 0
Suits m [] o ps = ps ≡ []
Suits m (EndMark ∷ fs) o ps = Suits m fs o ps
Suits m (Want s first from ∷ fs) o [] = ⊥
Suits m (Want s first from ∷ fs) o (p ∷ ps) = SuitsAt m (role_of s) s first from o p (λ x. Suits m fs x ps)

-- frames were pushed at tokens one after the other, and at one token with its class; c is the class of the token of number n
abbrev pub Chain : Class → ℕ → List Frame → Type 0
Chain c n [] = Unit {0}
Chain c n (EndMark ∷ fs) = Chain c n fs
Chain c n (Want s first from ∷ fs) = (from ≤ n) × (from ≡ n → first ≡ c) × Chain first from fs

-- what asks for an operand of its own comes to the top only behind a token of it
abbrev pub is_late : Symbol → Bool
is_late (symbols.AssignTail m) = true
is_late symbols.Label = true
is_late (symbols.Arrow m) = true
is_late _ = false

abbrev pub OpenAt : Bool → Bool → ℕ → ℕ → Type 0 → Type 0
OpenAt true b n from K = (from < n) × K
OpenAt false true n from K = K
OpenAt false false n from K = Unit {0}

abbrev pub Open : ℕ → List Frame → Type 0
Open n [] = Unit {0}
Open n (EndMark ∷ fs) = Open n fs
Open n (Want s first from ∷ fs) = OpenAt (is_late s) (vanishes s) n from (Open n fs)

-- behind the operands that may be a head stands what passes it on
abbrev pub passes : Role → Bool
passes Passes = true
passes PassesAny = true
passes Arrows = true
passes _ = false

abbrev pub hands_head : Role → Bool
hands_head Passes = true
hands_head PassesAny = true
hands_head HeadOperand = true
hands_head _ = false

abbrev pub passes_head : Symbol → Bool
passes_head s = passes (role_of s)

abbrev pub is_ready : List Frame → Bool
is_ready [] = false
is_ready (EndMark ∷ fs) = is_ready fs
is_ready (Want s first from ∷ fs) = passes_head s

abbrev pub is_new : Symbol → Bool
is_new symbols.New = true
is_new _ = false

abbrev pub in_chain : Symbol → Bool
in_chain s = hands_head (role_of s) || is_new s

abbrev pub Linked : List Frame → Type 0
Linked [] = Unit {0}
Linked (EndMark ∷ fs) = Linked fs
Linked (Want s first from ∷ fs) = (in_chain s ≡ true → is_ready fs ≡ true) × Linked fs
