use Rattle.std.proofs.Common.{◌+◌, ◌≤◌, length}
use Rattle.container.proofs.Fixed.{Shared}
use Rattle.container.proofs.parts.read_fixed.Given as goal

abbrev pub invariant-due : goal.invariant-due
invariant-due g l =
    Shared l.tape l.due l.at l.byte-index l.place
    × (l.place ≤ length l.tape)
    × (l.steps ≤ l.fn.steps + l.byte-index)
