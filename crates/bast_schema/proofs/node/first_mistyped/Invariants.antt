use Rattle.std.proofs.Common.{◌≡◌, drop, ◌≤◌, length}
use Rattle.bast_schema.specs.Tree.{first_wrong}
use Rattle.bast_schema.specs.View.{data_of}
use Rattle.bast_schema.proofs.node.first_mistyped.Given as goal

abbrev pub invariant-loop-at : goal.invariant-loop-at
invariant-loop-at l = (l.at ≤ length l.values) × (first_wrong l.at (drop l.at l.wanted) (data_of (drop l.at l.values)) ≡ first_wrong 0 l.wanted (data_of l.values))
