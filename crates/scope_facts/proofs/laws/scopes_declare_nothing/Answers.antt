use Rattle.scope_facts.proofs.ExactNames.{scopes_declare_nothing}
use Rattle.scope_facts.proofs.laws.scopes_declare_nothing.Goals as goal

pub returns : goal.returns
returns c = scopes_declare_nothing
