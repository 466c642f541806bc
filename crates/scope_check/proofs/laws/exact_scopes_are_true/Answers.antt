use Rattle.scope_check.proofs.ExactTrue.{exact_is_true}
use Rattle.scope_check.proofs.laws.exact_scopes_are_true.Goals as goal

pub returns : goal.returns
returns c = exact_is_true
