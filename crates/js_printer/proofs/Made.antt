-- What a node is made of.
use Rattle.std.proofs.Common.{◌≡◌, ℕ, Bool, true, false, Option, None, Some, Ok, Err, nat_lt}
use Rattle.bast_schema.specs.declared.kind.Kind.{Kind}
use Rattle.bast_schema.specs.declared.node.NodeFault.TheVariants.{TooDeep}
use Rattle.bast_schema.specs.Fields.{fields}
use Rattle.bast_schema.specs.Made.{node_or, node_of}
use Rattle.bast_schema.specs.Tree.{Tree, branch, Data, depth, first_wrong}
use Rattle.std.proofs.Common.{if◌then◌else◌}

limited_is : (b : Bool) (t u : Tree) → (if b then Err TooDeep else Ok t) ≡ Ok u → u ≡ t
limited_is true t u e = cc
limited_is false t u e = cc

or_is : (o : Option ℕ) (t u : Tree) → node_or o t ≡ Ok u → u ≡ t
or_is (Some field) t u e = cc
or_is None t u e = limited_is (nat_lt 512 (depth t)) t u e

pub made_is : (k : Kind) (ds : Data) (u : Tree) → node_of k ds ≡ Ok u → u ≡ branch k ds
made_is k ds u e = or_is (first_wrong 0 (fields k) ds) (branch k ds) u e
