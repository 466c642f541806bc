use Rattle.std.proofs.Common.{◌≡◌, ◌<◌, ◌^◌, ◌++◌, drop, length}
use Rattle.std.specs.Prelude.{flat_map}
use Rattle.container.specs.Container.{counted, entry_bytes}
use Rattle.container.proofs.writing.put_entries.Given as goal

abbrev pub invariant-places : goal.invariant-places
invariant-places l =
    (l.into.items ++ flat_map (λ entry. counted (entry_bytes entry)) (drop l.place l.strings) ≡ l.fn.into.items ++ flat_map (λ entry. counted (entry_bytes entry)) l.strings)
    × (length (flat_map (λ entry. counted (entry_bytes entry)) (drop l.place l.strings)) < 2 ^ 32)
