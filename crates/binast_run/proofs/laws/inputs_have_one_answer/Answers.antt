use Rattle.binast_run.proofs.OneAnswer.{one_of_command, some_of_command}
use Rattle.binast_run.proofs.laws.inputs_have_one_answer.Goals as goal

pub returns-clause-some : goal.returns-clause-some
returns-clause-some c = some_of_command

pub returns-clause-one : goal.returns-clause-one
returns-clause-one c = one_of_command
