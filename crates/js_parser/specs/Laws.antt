-- What a text comes to is one.
use Rattle.std.specs.Prelude.{◌≡◌, ◌↔◌, ◌≤◌, ◌<◌, ◌^◌, ℕ, List, Option, Result, Ok, Err, length}
use Rattle.std.specs.List.{AllByRecursion}
use Rattle.std.specs.Str.{IsUtf8}
use Rattle.bast_schema.specs.Tree.{Tree, depth}
use Rattle.js_machine.specs.declared.stops.Stop.{Stop}
use Rattle.js_parser.specs.Source.{IsImage, IsSource, IsTokenFault, StopsAt}
use Rattle.js_parser.specs.Texts.{IsText}
use Rattle.js_tokens.specs.declared.kinds.TokenFault.{TokenFault}
use Rattle.js_tree.specs.Nodes.{unlimited}
use Rattle.js_tree.specs.declared.fault.Fault.{Fault}
use Rattle.js_tree.specs.declared.fault.Fault.TheVariants.{TooDeep}

-- what a text comes to over a table: it is not cut into tokens, or the machine stops at one of them, or there is a new table
-- and a tree, or the reason why the steps have none
pub data Answer : Type 0 where
  uncut : TokenFault → Answer
  stopped : Stop → Answer
  made : List (Option (List ℕ)) → Result Tree Fault → Answer

abbrev pub IsAnswer : List ℕ → List (Option (List ℕ)) → Answer → Type 0
IsAnswer text old (uncut fault) = IsTokenFault text fault
IsAnswer text old (stopped stop) = StopsAt text stop
IsAnswer text old (made new tree) = IsSource text old new tree

-- whatever is said of a text and a table is the same: the fault or the stop, the new table, and the tree
abbrev pub HasOneAnswer : Type 0
HasOneAnswer = (text : List ℕ) (old : List (Option (List ℕ))) (one other : Answer) → IsAnswer text old one → IsAnswer text old other → one ≡ other

-- and something is said of every text and table
abbrev pub HasAnAnswer : Type 0
HasAnAnswer = (text : List ℕ) (old : List (Option (List ℕ))) → (a : Answer) × IsAnswer text old a

-- so a source has one table and one tree
abbrev pub HasOneTree : Type 0
HasOneTree = (text : List ℕ) (old new fresh : List (Option (List ℕ))) (one other : Result Tree Fault)
    → IsSource text old new one → IsSource text old fresh other → (new ≡ fresh) × (one ≡ other)

-- a tree is that of a source exactly where it is its image without a limit on the depth, and at most 512 deep
abbrev pub SourcesAreShallow : Type 0
SourcesAreShallow = (text : List ℕ) (old new : List (Option (List ℕ))) (t : Tree) → IsSource text old new (Ok t) ↔ (IsImage unlimited text old new (Ok t) × (depth t ≤ 512))

-- a source is refused for its depth exactly where it has an image without the limit, which is deeper
abbrev pub RefusedAreDeep : Type 0
RefusedAreDeep = (text : List ℕ) (old new : List (Option (List ℕ))) → IsSource text old new (Err TooDeep) ↔ ((t : Tree) × IsImage unlimited text old new (Ok t) × (512 < depth t))

-- where the machine accepts a text, its steps have a tree, unless that is too deep
abbrev pub RefusedForDepth : Type 0
RefusedForDepth = (text : List ℕ) (old new : List (Option (List ℕ))) (f : Fault) → IsSource text old new (Err f) → f ≡ TooDeep

-- where the entries of a table are texts, so are those of the table to which the texts of a source are added
abbrev pub SourcesAddTexts : Type 0
SourcesAddTexts = (text : List ℕ) (old new : List (Option (List ℕ))) (made : Result Tree Fault) → IsUtf8 text → length text ≤ 2 ^ 31 → IsSource text old new made
    → AllByRecursion IsText old → AllByRecursion IsText new
