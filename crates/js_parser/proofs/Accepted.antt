-- Why what the machine accepts of a text has a tree: its leaves tell what the tree needs of them.
use Rattle.std.proofs.Common.{◌≡◌, ℕ, true, List, [], ◌∷◌, Option, Some, None, Err, refl, subst}
use Rattle.bast_base.specs.declared.errors.NameId.{NameId}
use Rattle.bast_schema.specs.declared.kind.Kind.TheVariants.{Script}
use Rattle.bast_schema.specs.declared.kind.Union.TheVariants.{One}
use Rattle.js_machine.specs.Machine.{Accepted, Ends}
use Rattle.js_machine.specs.declared.events.Event.{Event}
use Rattle.js_parser.specs.Leaves.{AreLeaves, Stands, text_by}
use Rattle.js_tokens.specs.Tokens.{AreTokens}
use Rattle.js_tokens.specs.declared.kinds.Token.{Token}
use Rattle.js_tokens.specs.declared.kinds.TokenKind.{TokenKind}
use Rattle.js_tokens.specs.declared.kinds.TokenKind.TheVariants as kinds
use Rattle.js_tree.specs.Image.{tree_of}
use Rattle.js_tree.specs.Nodes.{limited}
use Rattle.js_tree.specs.Tells.{LeavesTell, has_text}
use Rattle.js_tree.specs.declared.fault.Fault.TheVariants as faults
use Rattle.js_tree.specs.declared.leaf.Leaf.{Leaf}
use Rattle.js_tree_laws.proofs.Sorts.{Is, Safely}
use Rattle.js_tree_laws.proofs.Told.{accepted_are_safe}
use Rattle.js_tree_laws.proofs.Trees.{limited_makes}

stands_there : (entries : List (Option (List ℕ))) (bytes : List ℕ) (o : Option NameId) → Stands entries (Some bytes) o → (n : NameId) × (o ≡ Some n)
stands_there entries bytes None stands = absurd stands
stands_there entries bytes (Some n) stands = (n, refl)

text_there : (text : List ℕ) (entries : List (Option (List ℕ))) (t : Token) (k : TokenKind) (o : Option NameId) → has_text k ≡ true → Stands entries (text_by text t k) o → (n : NameId) × (o ≡ Some n)
text_there text entries t (kinds.Punctuator m) o e stands = cc
text_there text entries t kinds.End o e stands = cc
text_there text entries t _ o e stands = stands_there entries _ o stands

pub leaves_tell : (text : List ℕ) (entries : List (Option (List ℕ))) (ts : List Token) (ls : List Leaf) → AreLeaves text entries ts ls → LeavesTell ts ls
leaves_tell text entries [] [] are = tt
leaves_tell text entries [] (l ∷ ls) are = are
leaves_tell text entries (t ∷ ts) [] are = are
leaves_tell text entries (t ∷ ts) (l ∷ ls) are = (record { kind = are.0.kind; text = λ e. text_there text entries t t.kind l.text e are.0.text_stands }, leaves_tell text entries ts ls are.1)

pub never_broken : (text : List ℕ) (entries : List (Option (List ℕ))) (ts : List Token) (ls : List Leaf) (events : List Event) → AreTokens text ts → AreLeaves text entries ts ls → Ends text ts (Accepted events) → tree_of limited ls events ≡ Err faults.Broken → ⊥
never_broken text entries ts ls events are leaves ends broken = subst (Safely (Is (One Script))) broken (accepted_are_safe limited limited_makes text ts ls events are (leaves_tell text entries ts ls leaves) ends)
