use Rattle.violations.proofs.Least.{first_violation_is_least}
use Rattle.violations.proofs.laws.first_violations_are_least.Goals as goal

pub returns : goal.returns
returns c = first_violation_is_least
