use Rattle.std.proofs.Common.{◌≡◌, ◌+◌, ◌≤◌}
use Rattle.bast_schema.specs.Counts.{join}
use Rattle.bast_schema.specs.Tree.{depth_in, weight_at, weight_in}
use Rattle.bast_schema.specs.View.{data_of}
use Rattle.bast_rows.specs.Siblings.{datum_of}
use Rattle.bast_rows.proofs.making.+make.Given as goal

abbrev pub decreases-make_node : goal.decreases-make_node
decreases-make_node g l = 1 + weight_in (g.S.Siblings.seen l.values)

abbrev pub decreases-make_values : goal.decreases-make_values
decreases-make_values g l = weight_in (g.S.Siblings.seen l.values)

abbrev pub decreases-make_value : goal.decreases-make_value
decreases-make_value g l = weight_at (datum_of g.S.Siblings.seen l.sibling)

abbrev pub invariant-make_values-loop-sibling : goal.invariant-make_values-loop-sibling
invariant-make_values-loop-sibling g l =
    (join (data_of l.made.items) (g.S.Siblings.seen l.values) ≡ g.S.Siblings.seen l.fn.values)
    × (depth_in (g.S.Siblings.seen l.values) ≤ 512)
    × (weight_in (g.S.Siblings.seen l.values) ≤ weight_in (g.S.Siblings.seen l.fn.values))

abbrev pub decreases-make_values-loop-sibling : goal.decreases-make_values-loop-sibling
decreases-make_values-loop-sibling g l = weight_in (g.S.Siblings.seen l.values)
