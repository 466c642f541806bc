use Rattle.std.proofs.Common.{◌≡◌, ◌+◌, ◌≤◌}
use Rattle.bast_schema.specs.Counts.{size_in}
use Rattle.bast_schema.specs.Tree.{weight_at, weight_in}
use Rattle.bast_rows.specs.Siblings.{datum_of}
use Rattle.bast_rows.proofs.budget.+left.Given as goal

abbrev pub decreases-left_after : goal.decreases-left_after
decreases-left_after g l = weight_at (datum_of g.S.Siblings.seen l.sibling)

abbrev pub decreases-left_after_siblings : goal.decreases-left_after_siblings
decreases-left_after_siblings g l = weight_in (g.S.Siblings.seen l.values)

abbrev pub invariant-left_after_siblings-loop-sibling : goal.invariant-left_after_siblings-loop-sibling
invariant-left_after_siblings-loop-sibling g l =
    (l.left + size_in (g.S.Siblings.seen l.fn.values) ≡ l.fn.budget + size_in (g.S.Siblings.seen l.values))
    × (weight_in (g.S.Siblings.seen l.values) ≤ weight_in (g.S.Siblings.seen l.fn.values))

abbrev pub decreases-left_after_siblings-loop-sibling : goal.decreases-left_after_siblings-loop-sibling
decreases-left_after_siblings-loop-sibling g l = weight_in (g.S.Siblings.seen l.values)
