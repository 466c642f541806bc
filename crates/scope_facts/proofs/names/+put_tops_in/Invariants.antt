use Rattle.std.proofs.Common.{length}
use Rattle.scope_facts.proofs.names.+put_tops_in.Given as goal

abbrev pub decreases-put_tops_in : goal.decreases-put_tops_in
decreases-put_tops_in l = length l.values.now
