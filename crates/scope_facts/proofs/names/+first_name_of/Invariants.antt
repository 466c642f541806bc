use Rattle.std.proofs.Common.{length}
use Rattle.scope_facts.proofs.names.+first_name_of.Given as goal

abbrev pub decreases-first_name_of : goal.decreases-first_name_of
decreases-first_name_of l = length l.values.now
