use Rattle.std.proofs.Common.{◌≡◌, ◌≤◌, length, take}
use Rattle.container.specs.Clauses.{kind_entries}
use Rattle.tree_encoder.specs.File.{most_bytes}
use Rattle.tree_encoder.proofs.length.names_len.Given as goal

abbrev pub invariant-kinds : goal.invariant-kinds
invariant-kinds l = (l.total ≡ length (kind_entries (take l.kind-index l.kinds))) × (l.total ≤ most_bytes)
