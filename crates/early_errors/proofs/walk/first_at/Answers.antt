use Rattle.early_errors.proofs.Choosing.{chosen_first}
use Rattle.early_errors.proofs.walk.first_at.Goals as goal

pub returns : goal.returns
returns c = chosen_first _ _ _ _ c.kind.result c.role_of.result c.chosen_for-chosen.result.now c.first_of_rules.result c.kind.ensures.kind c.role_of.ensures c.chosen_for-chosen.ensures c.first_of_rules.ensures
