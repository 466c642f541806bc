-- What is made of a kind and its fields.
use Rattle.std.specs.Prelude.{ℕ, Option, None, Some, Result, Ok, Err, nat_lt, if◌then◌else◌}
use Rattle.bast_schema.specs.declared.kind.Kind.{Kind}
use Rattle.bast_schema.specs.Fields.{fields}
use Rattle.bast_schema.specs.Tree.{Tree, branch, Data, first_wrong, depth}
use Rattle.bast_schema.specs.declared.node.NodeFault.{NodeFault}
use Rattle.bast_schema.specs.declared.node.NodeFault.TheVariants.{Mistyped, TooDeep}

abbrev pub limited : Tree → Result Tree NodeFault
limited t = if nat_lt 512 (depth t) then Err TooDeep else Ok t

abbrev pub node_or : Option ℕ → Tree → Result Tree NodeFault
node_or (Some field) t = Err (Mistyped field)
node_or None t = limited t

abbrev pub node_of : Kind → Data → Result Tree NodeFault
node_of k ds = node_or (first_wrong 0 (fields k) ds) (branch k ds)
