use Rattle.early_errors.proofs.Inside.{inside_is}
use Rattle.early_errors.proofs.laws.inside_is_judged_in_its_context.Goals as goal

pub returns : goal.returns
returns c = inside_is
