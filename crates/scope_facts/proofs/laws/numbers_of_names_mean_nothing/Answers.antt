use Rattle.scope_facts.proofs.RenamedExact.{exact_renamed}
use Rattle.scope_facts.proofs.laws.numbers_of_names_mean_nothing.Goals as goal

pub returns : goal.returns
returns c = exact_renamed
