use Rattle.scope_facts.proofs.Kept.{evals_are_told}
use Rattle.scope_facts.proofs.laws.evals_are_told_by_all_scopes.Goals as goal

pub returns : goal.returns
returns c = evals_are_told
