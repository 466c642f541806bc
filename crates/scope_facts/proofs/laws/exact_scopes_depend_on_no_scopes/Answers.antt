use Rattle.scope_facts.proofs.ExactOfBare.{exact_of_bare}
use Rattle.scope_facts.proofs.laws.exact_scopes_depend_on_no_scopes.Goals as goal

pub returns : goal.returns
returns c = exact_of_bare
