use Rattle.scope_facts.proofs.ExactSize.{exact_small}
use Rattle.scope_facts.proofs.laws.exact_scopes_are_small.Goals as goal

pub returns : goal.returns
returns c = exact_small
