use Rattle.std.proofs.Common.{◌≡◌, drop, nat_eq}
use Rattle.std.specs.HashSet.{contains}
use Rattle.early_errors.specs.Repeats.{repeat_from, repeated}
use Rattle.early_errors.proofs.repeats.first_repeat.Given as goal

abbrev pub invariant-loop-name : goal.invariant-loop-name
invariant-loop-name l = repeat_from (contains nat_eq l.seen) (drop l.name-index l.names) ≡ repeated l.names
