-- What the machine accepts of the tokens of a text has a tree.
use Rattle.std.proofs.Common.{◌≡◌, ◌≤◌, ◌<◌, ℕ, Bool, true, false, List, [], ◌∷◌, Option, Some, None, Result, Ok, Err, refl, sym, ap, ◌∙◌, subst, length, nat_lt, ◌^◌, arith, not}
use Rattle.js_tokens.specs.declared.kinds.Token.{Token}
use Rattle.js_tokens.specs.declared.kinds.TokenKind.{TokenKind}
use Rattle.js_tokens.specs.declared.kinds.TokenKind.TheVariants as tokens
use Rattle.js_tokens.specs.declared.kinds.Word.{Word}
use Rattle.js_tokens.specs.declared.kinds.Word.TheVariants as words
use Rattle.js_tokens.specs.declared.kinds.Mark.{Mark}
use Rattle.js_tokens.specs.declared.kinds.Mark.TheVariants as marks
use Rattle.js_tokens.specs.Spelling.{mark_text, word_text}
use Rattle.js_grammar.specs.declared.class.Class.TheVariants as classes
use Rattle.js_grammar.specs.TokenClasses.{class_in, class_of_kind, class_of_word, class_of_mark}
use Rattle.js_machine.specs.declared.events.Event.{Event}
use Rattle.js_machine.specs.Lookahead.{seen}
use Rattle.js_machine.specs.Machine.{Accepted, Ends}
use Rattle.bast_schema.specs.declared.kind.EnumId.{EnumId}
use Rattle.bast_schema.specs.declared.kind.EnumId.TheVariants as sets
use Rattle.bast_schema.specs.declared.kind.Kind.TheVariants as kinds
use Rattle.bast_schema.specs.declared.kind.Union.TheVariants as unions
use Rattle.bast_schema.specs.Choices.{choice_texts, choice_of_text}
use Rattle.bast_schema.specs.Tree.{Tree, depth}
use Rattle.js_tokens.specs.Tokens.{AreTokens}
use Rattle.js_tree.specs.Image.{tree_of}
use Rattle.js_tree.specs.Nodes.{Maker, limited, unlimited}
use Rattle.js_tree.specs.Operators.{operator}
use Rattle.js_tree.specs.declared.fault.Fault.{Fault}
use Rattle.js_tree.specs.declared.fault.Fault.TheVariants as faults
use Rattle.js_tree.specs.declared.leaf.Leaf.{Leaf}
use Rattle.js_tree.specs.Tells.{has_text, Tells, LeavesTell, AcceptedHaveTrees}
use Rattle.js_tree_laws.proofs.Sorts.{LeafIs, tells_text, is_number, is_operator, IsMaker, Safely, Is, name_classes}
use Rattle.js_tree_laws.proofs.Small.{is_small, AreSmall, tokens_small}
use Rattle.js_tree_laws.proofs.Accepted.{LeavesAre}
use Rattle.js_tree_laws.proofs.Heads.{Marked, Waits, heads_close, not_not}
use Rattle.js_tree_laws.proofs.Marks.{tokens_marked, by_kind}
use Rattle.js_tree_laws.proofs.Trees.{accepted_tree, limited_makes, unlimited_makes}
use Rattle.js_tree_laws.proofs.FollowImage.{trees_are_same, deep_trees, trees_are_unrefused}
use Rattle.js_tree_laws.proofs.Following.{Unrefused}
use Rattle.js_tree_laws.proofs.TreesHold.{trees_are_shallow}
use Rattle.std.specs.List.{list_all}
use Rattle.js_tree_laws.proofs.Shapes.{and_left, and_right}

-- texts
mark_told : {A : Type 0} (m : Mark) (h : Bool) → tells_text (class_of_mark m h) ≡ true → A
mark_told marks.OpenParen true e = cc
mark_told marks.OpenParen false e = cc
mark_told _ h e = cc

texts_told : (text : List ℕ) (t : Token) (k : TokenKind) → tells_text (class_of_kind text t k) ≡ true → has_text k ≡ true
texts_told text t (tokens.Punctuator m) e = mark_told m t.head e
texts_told text t tokens.End e = cc
texts_told text t _ e = refl

-- numbers
mark_number : {A : Type 0} (m : Mark) (h : Bool) → is_number (class_of_mark m h) ≡ true → A
mark_number marks.OpenParen true e = cc
mark_number marks.OpenParen false e = cc
mark_number _ h e = cc

numbers_told : (text : List ℕ) (t : Token) (k : TokenKind) → is_number (class_of_kind text t k) ≡ true → is_small k ≡ true → (n : ℕ) × (k ≡ tokens.Number n) × (nat_lt n (2 ^ 53) ≡ true)
numbers_told text t (tokens.Number n) e small = (n, refl, small)
numbers_told text t (tokens.Punctuator m) e small = mark_number m t.head e
numbers_told text t k e small = let other : is_number (class_of_kind text t k) ≡ false = not_not (is_number (class_of_kind text t k)) (by_kind (λ c. not (is_number c)) text t k refl refl) in cc

-- operators
abbrev in_set : EnumId → Option ℕ → Bool
in_set e None = false
in_set e (Some n) = nat_lt n (length (choice_texts e))

abbrev leads : Bool → Bool → Bool
leads true b = b
leads false b = true

mark_set : (e : EnumId) (m : Mark) (h : Bool) → leads (is_operator e (class_of_mark m h)) (in_set e (choice_of_text e (mark_text m))) ≡ true
unfolding mark_text
mark_set sets.DeclaredKind m h = refl
mark_set _ marks.OpenParen true = refl
mark_set _ marks.OpenParen false = refl
mark_set _ _ h = refl

word_set : (e : EnumId) (w : Word) → leads (is_operator e (class_of_word w)) (in_set e (choice_of_text e (word_text w))) ≡ true
unfolding word_text
word_set sets.DeclaredKind w = refl
word_set _ words.Break = refl
word_set _ _ = refl

no_set : (e : EnumId) → list_all (λ c. not (is_operator e c)) (classes.Number ∷ classes.End ∷ name_classes) ≡ true
no_set sets.UnaryOperator = refl
no_set _ = refl

found : (e : EnumId) (b : Bool) (o : Option ℕ) → leads b (in_set e o) ≡ true → b ≡ true → (n : ℕ) × (o ≡ Some n) × (nat_lt n (length (choice_texts e)) ≡ true)
found e true None l is = cc
found e true (Some n) l is = (n, refl, l)
found e false o l is = cc

operators_told : (text : List ℕ) (t : Token) (k : TokenKind) (e : EnumId) → is_operator e (class_of_kind text t k) ≡ true → (n : ℕ) × (operator e k ≡ Some n) × (nat_lt n (length (choice_texts e)) ≡ true)
operators_told text t (tokens.Reserved w) e is = found e (is_operator e (class_of_word w)) (choice_of_text e (word_text w)) (word_set e w) is
operators_told text t (tokens.Punctuator m) e is = found e (is_operator e (class_of_mark m t.head)) (choice_of_text e (mark_text m)) (mark_set e m t.head) is
operators_told text t (tokens.Number n) e is =
    let other : is_operator e classes.Number ≡ false = not_not (is_operator e classes.Number) (and_left (not (is_operator e classes.Number)) _ (no_set e)) in cc
operators_told text t k e is =
    let others : list_all (λ c. not (is_operator e c)) (classes.End ∷ name_classes) ≡ true = and_right (not (is_operator e classes.Number)) _ (no_set e) in
    let other : is_operator e (class_of_kind text t k) ≡ false = not_not (is_operator e (class_of_kind text t k)) (by_kind (λ c. not (is_operator e c)) text t k others refl) in cc

leaf_is : (text : List ℕ) (t : Token) (l : Leaf) → Tells t l → is_small t.kind ≡ true → LeafIs (class_in text t) l
leaf_is text t l tells small = record {
  told = λ e. tells.text (texts_told text t t.kind e);
  counts = λ e. let n = numbers_told text t t.kind e small in (n.0, tells.kind ∙ n.1, n.2);
  operates = λ s e. let n = operators_told text t t.kind s e in (n.0, ap (operator s) tells.kind ∙ n.1, n.2);
}

leaves_are : (text : List ℕ) (ts : List Token) (ls : List Leaf) → LeavesTell ts ls → AreSmall ts → LeavesAre (seen text ts) ls
leaves_are text [] [] tell small = tt
leaves_are text [] (l ∷ ls) tell small = tell
leaves_are text (t ∷ ts) [] tell small = tell
leaves_are text (t ∷ ts) (l ∷ ls) tell small = (leaf_is text t l tell.0 small.0, leaves_are text ts ls tell.1 small.1)

-- a typed script, unless it is refused for its depth
pub accepted_are_safe : (m : Maker) → IsMaker m → (text : List ℕ) (ts : List Token) (ls : List Leaf) (events : List Event) → AreTokens text ts → LeavesTell ts ls → Ends text ts (Accepted events) → Safely (Is (unions.One kinds.Script)) (tree_of m ls events)
accepted_are_safe m maker text ts ls events are tell ends =
    accepted_tree m maker Waits heads_close ends.0 (length text) (seen text ts) ls events (leaves_are text ts ls tell (subst AreSmall (sym are.1.1) (tokens_small text are.0 are.1.0)))
    (tt, subst (λ ts. Marked (seen text ts)) (sym are.1.1) (tokens_marked text are.0)) ends.1

found_script : (r : Result Tree Fault) → Safely (Is (unions.One kinds.Script)) r → Unrefused r → (t : Tree) × (r ≡ Ok t) × Is (unions.One kinds.Script) t
found_script (Ok t) is unrefused = (t, refl, is)
found_script (Err faults.TooDeep) is unrefused = absurd unrefused
found_script (Err faults.Broken) is unrefused = absurd is
found_script (Err faults.Memory) is unrefused = absurd is

one_image : (q : Result Tree Fault) (t u : Tree) → q ≡ Ok t → q ≡ Ok u → u ≡ t
one_image q t u e f = cc

-- a tree where it is at most 512 deep, and else refused for its depth
abbrev Exactly : Tree → Result Tree Fault → Type 0
Exactly t r = (depth t ≤ 512 → r ≡ Ok t) × (512 < depth t → r ≡ Err faults.TooDeep)

refused_exactly : (t : Tree) (r : Result Tree Fault) → Safely (Is (unions.One kinds.Script)) r → ((u : Tree) → r ≡ Ok u → (u ≡ t) × (depth u ≤ 512)) → (r ≡ Err faults.TooDeep → 512 < depth t) → Exactly t r
refused_exactly t (Ok u) is same deep =
    let s = same u refl in let shallow : depth t ≤ 512 = subst (λ t. depth t ≤ 512) s.0 s.1 in (λ h. ap Ok s.0, λ h. absurd (omega (arith, shallow, h)))
refused_exactly t (Err faults.TooDeep) is same deep = let d : 512 < depth t = deep refl in (λ h. absurd (omega (arith, d, h)), λ h. refl)
refused_exactly t (Err faults.Broken) is same deep = absurd is
refused_exactly t (Err faults.Memory) is same deep = absurd is

pub accepted_have_trees : AcceptedHaveTrees
accepted_have_trees text ts ls events are tell ends =
    let f = found_script (tree_of unlimited ls events) (accepted_are_safe unlimited unlimited_makes text ts ls events are tell ends) (trees_are_unrefused text ts ls events ends)
    in let exactly =
    refused_exactly f.0 (tree_of limited ls events) (accepted_are_safe limited limited_makes text ts ls events are tell ends)
    (λ u e. (one_image (tree_of unlimited ls events) f.0 u f.1 (trees_are_same text ts ls events u ends e), trees_are_shallow ls events u e))
    (λ e. deep_trees text ts ls events f.0 ends e f.1)
    in record { tree = f.0; image = f.1; script = f.2; shallow = exactly.0; deep = exactly.1 }
