use Rattle.std.proofs.Common.{◌≡◌, ◌+◌, ◌-◌, ◌≤◌}
use Rattle.container.specs.Entries.{entries_at, table_at, more_kinds}
use Rattle.container.proofs.tables.read_kinds.Given as goal

abbrev pub invariant-entries : goal.invariant-entries
invariant-entries g l =
    (entries_at more_kinds l.tape l.to (l.count - l.counter) l.kinds l.place ≡ table_at more_kinds l.tape l.to l.from)
    × (l.place ≤ l.to)
    × (l.from ≤ l.place)
    × (l.steps ≤ l.fn.steps + (l.place - l.from))
