-- What holds of the trees that steps stand for.
use Rattle.std.proofs.Common.{◌≡◌, ◌≤◌, ℕ, cond, Bool, true, false, not, ◌&&◌, ◌||◌, List, [], ◌∷◌, ◌++◌, reverse, Option, Some, None, Result, Ok, Err, refl, sym, ap, ◌∙◌, subst, arith}
use Rattle.std.specs.Prelude.{nat_lt}
use Rattle.std.proofs.lemmas.List.{reverse-append}
use borrow.Author.Tests.{ltb-false}
use Rattle.bast_base.specs.declared.errors.NameId.{NameId}
use Rattle.bast_schema.specs.declared.kind.Kind.{Kind}
use Rattle.bast_schema.specs.declared.kind.Kind.TheVariants as kinds
use Rattle.bast_schema.specs.declared.node.NodeFault.TheVariants.{TooDeep}
use Rattle.bast_schema.specs.Counts.{is_whole, is_whole_at, is_whole_in}
use Rattle.bast_schema.specs.Fields.{fields, has_lazy}
use Rattle.bast_schema.specs.Kinds.{same_kind}
use Rattle.bast_schema.specs.Made.{node_or}
use Rattle.bast_schema.proofs.Both.{and_first, both}
use Rattle.bast_schema.specs.Tree.{Tree, branch, Datum, child, listed, flag, name, Data, none, more, first_wrong, depth, depth_at, depth_in}
use Rattle.js_machine.specs.declared.events.Event.{Event}
use Rattle.bast_schema.specs.Eager.{is_eager, is_eager_at, are_eager}
use Rattle.scope_facts.specs.Bare.{empty_fields, bare_scope, bare, bare_at, bare_in}
use Rattle.scope_facts.specs.Roles.{part, is_scope_part, shape_of}
use Rattle.scope_facts.specs.Uses.{is_scope}
use Rattle.scope_facts.proofs.ExactOfBare.{eager_is}
use Rattle.js_tree.specs.Image.{image, root, tree_of}
use Rattle.bast_schema.specs.NamesHold.{names_hold, names_hold_at, names_hold_in}
use Rattle.js_tree.specs.Names.{IsNameIn, AreNamesIn}
use Rattle.js_tree.specs.Nodes.{Maker, one, identifier, first_name, limited, of_node}
use Rattle.js_tree.specs.declared.fault.Fault.{Fault}
use Rattle.js_tree.specs.declared.leaf.Leaf.{Leaf}
use Rattle.js_tree_laws.proofs.Holding.{Holds, then, Each, is_common, Kept, HoldsName, empty_held}
use Rattle.js_tree_laws.proofs.Finishing.{Has, HoldsLeaves, HoldsState, image_held, root_held}

-- what is made with the limit is the node, and is at most 512 deep
pub record Made (t u : Tree) : Type 0 where
  pub same : u ≡ t
  pub shallow : depth u ≤ 512

within : (b : Bool) (u t : Tree) → nat_lt 512 (depth u) ≡ b → of_node (cond b (Err TooDeep) (Ok u)) ≡ Ok t → Made t u
within true u t e made = absurd cc
within false u t e made = record { same = cc; shallow = ltb-false 512 (depth u) e }

right : (o : Option ℕ) (u t : Tree) → of_node (node_or o u) ≡ Ok t → Made t u
right (Some field) u t made = absurd cc
right None u t made = within (nat_lt 512 (depth u)) u t refl made

pub limited_made : (k : Kind) (ds : Data) (t : Tree) → limited k ds ≡ Ok t → Made t (branch k ds)
limited_made k ds t made = right (first_wrong 0 (fields k) ds) (branch k ds) t made

-- of all leaves, also with the last one first
each_leaf : (P : Datum → Type 0) (ls ms : List Leaf) → HoldsLeaves P ls → HoldsLeaves P ms → HoldsLeaves P (ls ++ ms)
each_leaf P [] ms h k = k
each_leaf P (l ∷ ls) ms h k = (h.0, each_leaf P ls ms h.1 k)

leaves_back : (P : Datum → Type 0) (ls : List Leaf) → HoldsLeaves P ls → HoldsLeaves P (reverse ls)
leaves_back P [] h = tt
leaves_back P (l ∷ ls) h = subst (HoldsLeaves P) (sym (reverse-append (l ∷ []) ls)) (each_leaf P (reverse ls) (l ∷ []) (leaves_back P ls h.1) (h.0, tt))

tree_held : (m : Maker) (P : Datum → Type 0) → Kept m P → (ls : List Leaf) (es : List Event) → HoldsLeaves P ls → Holds (Has P) (tree_of m ls es)
unfolding tree_of
tree_held m P kept ls es h = then (HoldsState P) (Has P) (image m (reverse ls) es) (λ s. root s.1) (image_held m P kept (reverse ls) es (leaves_back P ls h)) (λ s k. root_held P s.1 k.1)

pub held_in : {A : Type 0} (Q : A → Type 0) (r : Result A Fault) (x : A) → Holds Q r → r ≡ Ok x → Q x
held_in Q r x holds e = subst (Holds Q) e holds

-- what holds of all values holds of a tree
pub of_tree : (m : Maker) (P : Datum → Type 0) → Kept m P → (ls : List Leaf) (es : List Event) (t : Tree) → HoldsLeaves P ls → tree_of m ls es ≡ Ok t → P (child t)
of_tree m P kept ls es t h made = held_in (Has P) (tree_of m ls es) t (tree_held m P kept ls es h) made

any_name : (P : Datum → Type 0) → ((n : ℕ) → P (name n)) → (o : Option NameId) → HoldsName P o
any_name P any None = tt
any_name P any (Some n) = any n.0

pub no_names_in : (P : Datum → Type 0) → ((n : ℕ) → P (name n)) → (ls : List Leaf) → HoldsLeaves P ls
no_names_in P any [] = tt
no_names_in P any (l ∷ ls) = ((any_name P any l.text, any_name P any l.raw), no_names_in P any ls)

neither : (a b : Bool) → not (a || b) ≡ true → (a ≡ false) × (b ≡ false)
neither true b e = absurd cc
neither false true e = absurd cc
neither false false e = (refl, refl)

pub no_name_here : {A : Type 0} (n : ℕ) → None ≡ Some n → A
no_name_here n e = cc

name_first : (p : ℕ → Bool) (ds : Data) (n : ℕ) → names_hold_in p ds ≡ true → first_name ds ≡ Some n → p n ≡ true
name_first p (more (name i) ds) n h e = let same : i ≡ n = cc in subst (λ n. p n ≡ true) same (and_first (p i) (names_hold_in p ds) h)
name_first p _ n h e = no_name_here n e

name_in : (p : ℕ → Bool) (b : Bool) (ds : Data) (n : ℕ) → names_hold_in p ds ≡ true → cond b (first_name ds) None ≡ Some n → p n ≡ true
name_in p true ds n h e = name_first p ds n h e
name_in p false ds n h e = no_name_here n e

name_of_tree : (p : ℕ → Bool) (t : Tree) (n : ℕ) → names_hold p t ≡ true → identifier t ≡ Some n → p n ≡ true
name_of_tree p (branch k ds) n h e = name_in p (same_kind k kinds.IdentifierExpression) ds n h e

no_scope : {A : Type 0} → false ≡ true → A
no_scope e = cc

one_plain : (d : Datum) (b : Bool) → is_scope d ≡ b → (bare_at d ≡ d) × (is_scope d ≡ true → bare_scope d ≡ d) → cond b (bare_scope d) (bare_at d) ≡ d
one_plain d true e h = h.1 e
one_plain d false e h = h.0

-- no window and no lazy kind, names of that kind, at most 512 deep, and scopes that say nothing
pub record Good (p : ℕ → Bool) (d : Datum) : Type 0 where
  pub whole : is_whole_at d ≡ true
  pub eager : is_eager_at d ≡ true
  pub named : names_hold_at p d ≡ true
  pub shallow : depth_at d ≤ 512
  pub plain : bare_at d ≡ d
  pub scope : is_scope d ≡ true → bare_scope d ≡ d

record AllGood (p : ℕ → Bool) (ds : Data) : Type 0 where
  whole : is_whole_in ds ≡ true
  eager : are_eager ds ≡ true
  named : names_hold_in p ds ≡ true
  shallow : depth_in ds ≤ 512
  plain : bare_in ds ≡ ds

all_good : (p : ℕ → Bool) (ds : Data) → Each (Good p) ds → AllGood p ds
all_good p none h = record { whole = refl; eager = refl; named = refl; shallow = omega arith; plain = refl }
all_good p (more d ds) h =
    let r = all_good p ds h.1 in let one : Good p d = h.0 in let a : depth_at d ≤ 512 = one.shallow in let b : depth_in ds ≤ 512 = r.shallow
    in record {
      whole = both (is_whole_at d) (is_whole_in ds) one.whole r.whole;
      eager = both (is_eager_at d) (are_eager ds) one.eager r.eager;
      named = both (names_hold_at p d) (names_hold_in p ds) one.named r.named;
      shallow = omega (arith, a, b);
      plain = ap (λ e. more e (bare_in ds)) (one_plain d (is_scope d) refl (one.plain, one.scope)) ∙ ap (more d) r.plain;
    }

node_good : (p : ℕ → Bool) (k : Kind) (ds : Data) (t : Tree) → has_lazy k ≡ false → (is_scope (child (branch k ds)) ≡ true → bare_scope (child (branch k ds)) ≡ child (branch k ds)) → Each (Good p) ds
    → limited k ds ≡ Ok t → Good p (child t)
node_good p k ds t is scope h made =
    let r = limited_made k ds t made in let a = all_good p ds h
    in subst (λ t. Good p (child t)) r.same (record {
      whole = a.whole;
      eager = both (not (has_lazy k)) (are_eager ds) (ap not is) a.eager;
      named = a.named;
      shallow = r.shallow;
      plain = ap (λ k. child (branch k (bare_in ds))) (eager_is k (ap not is)) ∙ ap (λ ds. child (branch k ds)) a.plain;
      scope = scope;
    })

common_good : (p : ℕ → Bool) (k : Kind) (ds : Data) (t : Tree) → is_common k ≡ true → Each (Good p) ds → limited k ds ≡ Ok t → Good p (child t)
common_good p k ds t is h made = let no = neither (has_lazy k) (is_scope_part (part k)) is in node_good p k ds t no.0 (λ scope. let not_one = no.1 in cc) h made

name_good : (p : ℕ → Bool) (n : ℕ) → p n ≡ true → Good p (name n)
name_good p n h = record { whole = refl; eager = refl; named = h; shallow = omega arith; plain = refl; scope = no_scope }

list_good : (p : ℕ → Bool) (ds : Data) → Each (Good p) ds → Good p (listed ds)
list_good p ds h = let a = all_good p ds h in record { whole = a.whole; eager = a.eager; named = a.named; shallow = a.shallow; plain = ap listed a.plain; scope = no_scope }

flag_good : (p : ℕ → Bool) (b : Bool) → Good p (flag b)
flag_good p b = record { whole = refl; eager = refl; named = refl; shallow = omega arith; plain = refl; scope = no_scope }

good_kept : (p : ℕ → Bool) → Kept limited (Good p)
good_kept p = record {
  node = λ k ds t is h made. common_good p k ds t (and_first (is_common k) (not (same_kind k kinds.IdentifierExpression)) is) h made;
  scope = λ k t is made. node_good p k (empty_fields (shape_of k)) t is (λ s. refl) (empty_held (Good p) (list_good p none tt) (flag_good p false) (shape_of k)) made;
  named = λ k n t is h made. common_good p k (one (name n)) t is (h, tt) made;
  shorthand = λ ds t u h made again. common_good p kinds.ShorthandProperty (one (child t)) u refl (common_good p kinds.IdentifierExpression ds t refl h made, tt) again;
  name_of = λ t n h e. name_good p n (name_of_tree p t n h.named e);
  list = list_good p;
  no_node = record { whole = refl; eager = refl; named = refl; shallow = omega arith; plain = refl; scope = no_scope };
  no_label = record { whole = refl; eager = refl; named = refl; shallow = omega arith; plain = refl; scope = no_scope };
  flags = flag_good p;
  wholes = λ n. record { whole = refl; eager = refl; named = refl; shallow = omega arith; plain = refl; scope = no_scope };
  choices = λ n. record { whole = refl; eager = refl; named = refl; shallow = omega arith; plain = refl; scope = no_scope };
}

of_name : (p : ℕ → Bool) (o : Option NameId) → IsNameIn p o → HoldsName (Good p) o
of_name p None h = tt
of_name p (Some n) h = name_good p n.0 h

names_of : (p : ℕ → Bool) (ls : List Leaf) → AreNamesIn p ls → HoldsLeaves (Good p) ls
names_of p [] h = tt
names_of p (l ∷ ls) h = ((of_name p l.text h.0.0, of_name p l.raw h.0.1), names_of p ls h.1)

pub trees_have_names : (p : ℕ → Bool) (ls : List Leaf) (es : List Event) (t : Tree) → AreNamesIn p ls → tree_of limited ls es ≡ Ok t → names_hold p t ≡ true
trees_have_names p ls es t h made = (of_tree limited (Good p) (good_kept p) ls es t (names_of p ls h) made).named

abbrev any_name_holds : ℕ → Bool
any_name_holds n = true

trees_are_good : (ls : List Leaf) (es : List Event) (t : Tree) → tree_of limited ls es ≡ Ok t → Good any_name_holds (child t)
trees_are_good ls es t made = of_tree limited (Good any_name_holds) (good_kept any_name_holds) ls es t (no_names_in (Good any_name_holds) (λ n. name_good any_name_holds n refl) ls) made

pub trees_are_whole : (ls : List Leaf) (es : List Event) (t : Tree) → tree_of limited ls es ≡ Ok t → is_whole t ≡ true
trees_are_whole ls es t made = (trees_are_good ls es t made).whole

pub trees_are_eager : (ls : List Leaf) (es : List Event) (t : Tree) → tree_of limited ls es ≡ Ok t → is_eager t ≡ true
trees_are_eager ls es t made = (trees_are_good ls es t made).eager

pub trees_are_shallow : (ls : List Leaf) (es : List Event) (t : Tree) → tree_of limited ls es ≡ Ok t → depth t ≤ 512
trees_are_shallow ls es t made = (trees_are_good ls es t made).shallow

same_tree : (t u : Tree) → child t ≡ child u → t ≡ u
same_tree t u e = cc

pub trees_are_plain : (ls : List Leaf) (es : List Event) (t : Tree) → tree_of limited ls es ≡ Ok t → bare t ≡ t
trees_are_plain ls es t made = same_tree (bare t) t (trees_are_good ls es t made).plain
