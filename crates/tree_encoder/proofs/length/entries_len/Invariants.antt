use Rattle.std.proofs.Common.{◌≡◌, ◌≤◌, length, take}
use Rattle.std.specs.List.{AllByRecursion}
use Rattle.container.specs.Clauses.{text_entries}
use Rattle.container.specs.InFile.{IsEntry}
use Rattle.tree_encoder.specs.File.{most_bytes}
use Rattle.tree_encoder.proofs.length.entries_len.Given as goal

abbrev pub invariant-places : goal.invariant-places
invariant-places l = (l.total ≡ length (text_entries (take l.place l.texts))) × (l.total ≤ most_bytes) × AllByRecursion IsEntry (take l.place l.texts)
