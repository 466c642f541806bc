use Rattle.scope_facts.proofs.BareSame.{bare_of_exact}
use Rattle.scope_facts.proofs.laws.exact_scopes_change_scopes_alone.Goals as goal

pub returns : goal.returns
returns c = bare_of_exact
