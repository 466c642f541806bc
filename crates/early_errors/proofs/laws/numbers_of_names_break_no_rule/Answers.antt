use Rattle.early_errors.proofs.RenamedEarly.{numbers_break_no_rule}
use Rattle.early_errors.proofs.laws.numbers_of_names_break_no_rule.Goals as goal

pub returns : goal.returns
returns c = numbers_break_no_rule
