-- The tree of a derivation: what its steps stand for, each step above the steps behind it.
use Rattle.std.specs.Prelude.{◌==◌, length, if◌then◌else◌, List, [], ◌∷◌, reverse, Result, Ok}
use Rattle.bast_schema.specs.Tree.{Tree}
use Rattle.js_grammar.specs.declared.symbols.RowId.{RowId}
use Rattle.js_machine.specs.declared.events.Event.{Event}
use Rattle.js_machine.specs.declared.events.Event.TheVariants.{Row, Took, Inserted}
use Rattle.js_tree.specs.Finishes.{finish_on}
use Rattle.js_tree.specs.Nodes.{Maker}
use Rattle.js_tree.specs.Parts.{one_node, taken_values}
use Rattle.js_tree.specs.Recipes.{recipe}
use Rattle.js_tree.specs.Results.{◌>>=◌, broken}
use Rattle.js_tree.specs.Steps.{gathered, no_work}
use Rattle.js_tree.specs.declared.fault.Fault.{Fault}
use Rattle.js_tree.specs.declared.leaf.Leaf.{Leaf}
use Rattle.js_tree.specs.declared.parts.Part.{Part}
use Rattle.js_tree.specs.declared.parts.Part.TheVariants as parts

-- what a row makes of its symbols' parts
unfoldable pub row_part : Maker → RowId → List Part → Result (List Part) Fault
row_part m r ps = gathered m (recipe r).0 no_work ps >>= λ g. finish_on m (recipe r).1 g.0 g.1

-- the tokens that are left, the last first, and the parts, the first on top
abbrev pub Built : Type 0
Built = Result (List Leaf × List Part) Fault

abbrev pub leaf_part : List Leaf → List Part → Built
leaf_part [] ps = broken
leaf_part (l ∷ ls) ps = Ok (ls, parts.Token l ∷ ps)

abbrev pub event_part : Maker → Event → List Leaf × List Part → Built
event_part m (Row r) s = row_part m r s.1 >>= λ ps. Ok (s.0, ps)
event_part m Took s = leaf_part s.0 s.1
event_part m Inserted s = Ok (s.0, parts.Counted ∷ s.1)

-- what steps stand for, with the tokens up to their end
abbrev pub image : Maker → List Leaf → List Event → Built
image m ls [] = Ok (ls, [])
image m ls (e ∷ es) = image m ls es >>= event_part m e

-- the node that is alone
abbrev pub root : List Part → Result Tree Fault
root ps = taken_values ps >>= λ v. if length v.1 == 0 then one_node v.0.0 else broken

-- the tree of all steps, with all tokens that they take
unfoldable pub tree_of : Maker → List Leaf → List Event → Result Tree Fault
tree_of m ls es = image m (reverse ls) es >>= λ s. root s.1
