use Rattle.early_errors.proofs.BareEarly.{own_scopes_break_no_rule}
use Rattle.early_errors.proofs.laws.own_scopes_break_no_rule.Goals as goal

pub returns : goal.returns
returns c = own_scopes_break_no_rule
