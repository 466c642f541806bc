-- What holds of the tree that steps stand for.
use Rattle.std.specs.Prelude.{◌≡◌, ◌≤◌, ◌<◌, ◌*◌, ℕ, Bool, true, List, length, Ok, Err}
use Rattle.bast_schema.specs.Counts.{is_whole, size}
use Rattle.bast_schema.specs.declared.kind.Kind.TheVariants.{Script}
use Rattle.bast_schema.specs.Tree.{Tree, depth, kind_of}
use Rattle.js_machine.specs.declared.events.Event.{Event}
use Rattle.js_machine.specs.Machine.{Accepted, Ends}
use Rattle.js_tokens.specs.declared.kinds.Token.{Token}
use Rattle.bast_schema.specs.Eager.{is_eager}
use Rattle.scope_facts.specs.Bare.{bare}
use Rattle.js_tree.specs.Image.{tree_of}
use Rattle.bast_schema.specs.NamesHold.{names_hold}
use Rattle.js_tree.specs.Names.{AreNamesIn}
use Rattle.js_tree.specs.Nodes.{limited, unlimited}
use Rattle.js_tree.specs.declared.fault.Fault.TheVariants.{TooDeep}
use Rattle.js_tree.specs.declared.leaf.Leaf.{Leaf}

-- no window stands in it
abbrev pub TreesAreWhole : Type 0
TreesAreWhole = (ls : List Leaf) (es : List Event) (t : Tree) → tree_of limited ls es ≡ Ok t → is_whole t ≡ true

-- no kind in it has a lazy field
abbrev pub TreesAreEager : Type 0
TreesAreEager = (ls : List Leaf) (es : List Event) (t : Tree) → tree_of limited ls es ≡ Ok t → is_eager t ≡ true

-- it is its own plain tree: no scope in it has an entry or a flag set
abbrev pub TreesArePlain : Type 0
TreesArePlain = (ls : List Leaf) (es : List Event) (t : Tree) → tree_of limited ls es ≡ Ok t → bare t ≡ t

-- its names are those of the tokens
abbrev pub TreesHaveNames : Type 0
TreesHaveNames = (p : ℕ → Bool) (ls : List Leaf) (es : List Event) (t : Tree) → AreNamesIn p ls → tree_of limited ls es ≡ Ok t → names_hold p t ≡ true

-- it is at most 512 deep
abbrev pub TreesAreShallow : Type 0
TreesAreShallow = (ls : List Leaf) (es : List Event) (t : Tree) → tree_of limited ls es ≡ Ok t → depth t ≤ 512

-- the tree of an accepted run is that of a script (15.1)
abbrev pub TreesAreScripts : Type 0
TreesAreScripts = (text : List ℕ) (ts : List Token) (ls : List Leaf) (es : List Event) (t : Tree) → Ends text ts (Accepted es) → tree_of limited ls es ≡ Ok t → kind_of t ≡ Script

-- it has fewer values than seven for each token
abbrev pub TreesAreSmall : Type 0
TreesAreSmall = (text : List ℕ) (ts : List Token) (ls : List Leaf) (es : List Event) (t : Tree) → Ends text ts (Accepted es) → tree_of limited ls es ≡ Ok t → size t < 7 * length ts

-- the tree of an accepted run with the limit is the one without it
abbrev pub LimitedAreSame : Type 0
LimitedAreSame = (text : List ℕ) (ts : List Token) (ls : List Leaf) (es : List Event) (t : Tree) → Ends text ts (Accepted es) → tree_of limited ls es ≡ Ok t → tree_of unlimited ls es ≡ Ok t

-- and where the limit refuses it, the one without it is more than 512 deep: what is made is never left out of the tree
abbrev pub RefusedAreDeep : Type 0
RefusedAreDeep = (text : List ℕ) (ts : List Token) (ls : List Leaf) (es : List Event) (t : Tree) → Ends text ts (Accepted es) → tree_of limited ls es ≡ Err TooDeep → tree_of unlimited ls es ≡ Ok t → 512 < depth t
