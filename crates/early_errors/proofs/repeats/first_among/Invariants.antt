use Rattle.std.proofs.Common.{◌≡◌, drop, nat_eq}
use Rattle.std.specs.HashSet.{contains}
use Rattle.early_errors.specs.Repeats.{first_where}
use Rattle.early_errors.proofs.repeats.first_among.Given as goal

abbrev pub invariant-loop-name : goal.invariant-loop-name
invariant-loop-name l = first_where (contains nat_eq l.set) (drop l.name-index l.names) ≡ first_where (contains nat_eq l.set) l.names
