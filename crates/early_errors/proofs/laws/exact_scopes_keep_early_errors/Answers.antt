use Rattle.early_errors.proofs.BareEarly.{early_of_exact}
use Rattle.early_errors.proofs.laws.exact_scopes_keep_early_errors.Goals as goal

pub returns : goal.returns
returns c = early_of_exact
