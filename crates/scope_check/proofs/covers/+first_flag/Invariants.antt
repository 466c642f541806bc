use Rattle.std.proofs.Common.{length}
use Rattle.scope_check.proofs.covers.+first_flag.Given as goal

abbrev pub decreases-first_flag : goal.decreases-first_flag
decreases-first_flag l = length l.values.now
