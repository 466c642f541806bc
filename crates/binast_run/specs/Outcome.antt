-- What a command's outcome says.
use Rattle.binast_run.specs.declared.outcome.Outcome.{Outcome}
use Rattle.binast_run.specs.declared.outcome.Outcome.TheVariants.{Output, Refusal}
use Rattle.binast_run.specs.Answer.{Answer, output, refusal}

-- an output is the answer of status 0, and a refusal's line that of status 1
abbrev pub answer_in : Outcome → Answer
answer_in (Output bytes) = output bytes.items
answer_in (Refusal line) = refusal line.items
