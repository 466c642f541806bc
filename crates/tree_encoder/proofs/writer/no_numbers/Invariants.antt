use Rattle.std.proofs.Common.{◌≡◌, None, replicate}
use Rattle.tree_encoder.proofs.writer.no_numbers.Given as goal

abbrev pub invariant-places : goal.invariant-places
invariant-places l = l.numbers.items ≡ replicate l.counter None
