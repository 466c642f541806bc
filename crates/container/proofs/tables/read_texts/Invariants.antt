use Rattle.std.proofs.Common.{◌≡◌, ◌+◌, ◌-◌, ◌<◌, ◌≤◌, length}
use Rattle.container.specs.Entries.{entries_at, table_at, more_texts}
use Rattle.container.proofs.tables.read_texts.Given as goal

abbrev pub invariant-entries : goal.invariant-entries
invariant-entries g l =
    (entries_at more_texts l.tape l.to (l.count - l.counter) l.strings l.place ≡ table_at more_texts l.tape l.to l.from)
    × (l.place ≤ l.to)
    × (l.from ≤ l.place)
    × (length l.strings < l.place)
    × (l.steps ≤ l.fn.steps + (l.place - l.from))
