-- The parts of a list of values weigh less than the list.
use Rattle.std.specs.Prelude.{List, [], ◌∷◌, ◌≤◌, ◌+◌}
use Rattle.std.proofs.Common.{arith}
use denote.Param.Weighed.{most}
use Rattle.bast_schema.specs.Tree.{weight_in, weight_at}
use Rattle.bast_schema.specs.View.{data_of, datum}
use Rattle.bast_schema.specs.declared.node.Value.{Value}
use Rattle.bast_schema.specs.declared.node.Value.TheVariants as value
use Rattle.bast_schema.specs.declared.node.Node.TheDeep.{deep-Value}

pub deep_le-weight_at : (v : Value) → deep-Value v ≤ weight_at (datum v) + 1
deep_le-weight_at (value.Node t) = omega arith
deep_le-weight_at (value.List ds) = omega arith
deep_le-weight_at value.Absent = omega arith
deep_le-weight_at (value.Bool b) = omega arith
deep_le-weight_at (value.Index n) = omega arith
deep_le-weight_at (value.Whole n) = omega arith
deep_le-weight_at (value.Name n) = omega arith
deep_le-weight_at value.NoName = omega arith
deep_le-weight_at (value.Choice n) = omega arith
deep_le-weight_at (value.Window from to) = omega arith

pub most_le-weight_in : (vs : List Value) → most deep-Value vs ≤ weight_in (data_of vs)
most_le-weight_in [] = omega arith
most_le-weight_in (v ∷ vs) = omega (arith, most_le-weight_in vs, deep_le-weight_at v)
