-- What a leaf tells of its token.
use Rattle.std.specs.Prelude.{◌≡◌, ◌≤◌, ◌<◌, ℕ, Bool, true, false, List, [], ◌∷◌, Some, Ok, Err}
use Rattle.bast_base.specs.declared.errors.NameId.{NameId}
use Rattle.bast_schema.specs.declared.kind.FieldType.TheVariants as field
use Rattle.bast_schema.specs.declared.kind.Kind.TheVariants as kinds
use Rattle.bast_schema.specs.declared.kind.Union.TheVariants as unions
use Rattle.bast_schema.specs.Tree.{Tree, child, fits, depth}
use Rattle.js_machine.specs.declared.events.Event.{Event}
use Rattle.js_machine.specs.Machine.{Accepted, Ends}
use Rattle.js_tokens.specs.Tokens.{AreTokens}
use Rattle.js_tokens.specs.declared.kinds.Token.{Token}
use Rattle.js_tokens.specs.declared.kinds.TokenKind.{TokenKind}
use Rattle.js_tokens.specs.declared.kinds.TokenKind.TheVariants as tokens
use Rattle.js_tree.specs.Image.{tree_of}
use Rattle.js_tree.specs.Nodes.{limited, unlimited}
use Rattle.js_tree.specs.declared.fault.Fault.TheVariants as faults
use Rattle.js_tree.specs.declared.leaf.Leaf.{Leaf}

-- all but punctuators and the end have a text
abbrev pub has_text : TokenKind → Bool
has_text tokens.Identifier = true
has_text (tokens.Reserved word) = true
has_text (tokens.Punctuator mark) = false
has_text (tokens.Number n) = true
has_text tokens.Text = true
has_text (tokens.Template piece) = true
has_text tokens.End = false

pub record Tells (t : Token) (l : Leaf) : Type 0 where
  pub kind : l.kind ≡ t.kind
  pub text : has_text t.kind ≡ true → (n : NameId) × (l.text ≡ Some n)

-- one leaf for each token, in their order
abbrev pub LeavesTell : List Token → List Leaf → Type 0
LeavesTell [] [] = Unit {0}
LeavesTell (t ∷ ts) (l ∷ ls) = Tells t l × LeavesTell ts ls
LeavesTell [] (l ∷ ls) = ⊥
LeavesTell (t ∷ ts) [] = ⊥

-- the typed script that the steps stand for without a limit on the depth: with the limit it is their tree where it is at
-- most 512 deep, and where it is deeper, they are refused for that
pub record HasTree (ls : List Leaf) (events : List Event) : Type 0 where
  pub tree : Tree
  pub image : tree_of unlimited ls events ≡ Ok tree
  pub script : fits (field.Node (unions.One kinds.Script)) (child tree) ≡ true
  pub shallow : depth tree ≤ 512 → tree_of limited ls events ≡ Ok tree
  pub deep : 512 < depth tree → tree_of limited ls events ≡ Err faults.TooDeep

-- what the machine accepts of the tokens of a text has a tree: the image of its steps is never broken, whatever texts the
-- leaves have
abbrev pub AcceptedHaveTrees : Type 0
AcceptedHaveTrees = (text : List ℕ) (ts : List Token) (ls : List Leaf) (events : List Event) → AreTokens text ts → LeavesTell ts ls → Ends text ts (Accepted events) → HasTree ls events
