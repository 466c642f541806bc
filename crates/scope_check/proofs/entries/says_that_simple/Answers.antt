use Rattle.scope_check.proofs.Keys.{too_few}
use Rattle.scope_check.proofs.entries.says_that_simple.Goals as goal

pub returns-in_default : goal.returns-in_default
returns-in_default c = too_few c.args.fields.now c.in_default.len_below
