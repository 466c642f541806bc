use Rattle.early_errors.proofs.BareEarly.{scopes_break_no_rule}
use Rattle.early_errors.proofs.laws.scopes_break_no_rule.Goals as goal

pub returns : goal.returns
returns c = scopes_break_no_rule
