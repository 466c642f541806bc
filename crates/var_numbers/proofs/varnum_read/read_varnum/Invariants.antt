use Rattle.std.proofs.Common.{◌-◌, ◌+◌, ◌≤◌, slice_range}
use Rattle.var_numbers.proofs.ReadingLemmas.{Reading}
use Rattle.var_numbers.proofs.varnum_read.read_varnum.Given as goal

abbrev pub invariant-groups : goal.invariant-groups
invariant-groups g l =
    Reading (slice_range l.tape l.at l.end) (l.place - l.at) l.number l.scale
    × (l.at ≤ l.place)
    × (l.place ≤ l.end)
    × (l.fn.steps ≤ l.steps)
    × (l.steps ≤ l.fn.steps + (l.place - l.at))

abbrev pub decreases-groups : goal.decreases-groups
decreases-groups g l = l.end - l.place
