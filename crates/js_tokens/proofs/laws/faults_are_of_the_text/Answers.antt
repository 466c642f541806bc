use Rattle.js_tokens.proofs.Faults.{no_memory}
use Rattle.js_tokens.proofs.laws.faults_are_of_the_text.Goals as goal

pub returns : goal.returns
returns c text f first = no_memory first
