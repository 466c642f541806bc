-- The tree that a node stands for.
use Rattle.std.specs.Prelude.{List, [], ◌∷◌, ◌≡◌, IsTrue, ◌≤◌}
use Rattle.bast_schema.specs.Tree.{Tree, branch, Datum, child, absent, listed, flag, index, whole, name, no_name, choice, window, Data, none, more, typed, depth}
use Rattle.bast_schema.specs.declared.node.Node.TheInside.{Inside}
use Rattle.bast_schema.specs.declared.node.Values.TheInside as values
use Rattle.bast_schema.specs.declared.node.Value.{Value}
use Rattle.bast_schema.specs.declared.node.Value.TheVariants as value

abbrev pub datum : Value → Datum
datum (value.Node t) = child t
datum value.Absent = absent
datum (value.List ds) = listed ds
datum (value.Bool b) = flag b
datum (value.Index n) = index n
datum (value.Whole n) = whole n
datum (value.Name n) = name n.0
datum value.NoName = no_name
datum (value.Choice n) = choice n
datum (value.Window from to) = window from to

abbrev pub data_of : List Value → Data
data_of [] = none
data_of (v ∷ vs) = more (datum v) (data_of vs)

abbrev pub values_view : values.Inside → Data
values_view a = data_of a.items.items

abbrev pub tree_of : Inside → Tree
tree_of a = branch a.kind a.fields

-- what is true of every node
pub record IsSound (a : Inside) : Type 0 where
  pub typed : IsTrue (typed (tree_of a))
  pub depth : a.depth ≡ depth (tree_of a)
  pub most : a.depth ≤ 512
