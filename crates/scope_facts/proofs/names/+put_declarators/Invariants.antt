use Rattle.std.proofs.Common.{length}
use Rattle.scope_facts.proofs.names.+put_declarators.Given as goal

abbrev pub decreases-put_declarators : goal.decreases-put_declarators
decreases-put_declarators l = length l.values.now
