use Rattle.std.proofs.Common.{ℕ, List, Option, length, ap, ◌∙◌}
use Rattle.bast_schema.specs.Tree.{Tree}
use Rattle.binast_run.specs.Lines.{accepted_line}
use Rattle.binast_run.proofs.FileAnswers.{read_answer, refused_answer}
use Rattle.binast_run.proofs.files.check.Goals as goal

pub returns-in-Ok-clause-answer : goal.returns-in-Ok-clause-answer
returns-in-Ok-clause-answer g c =
    read_answer c.args.tape.now (λ (texts : List (Option (List ℕ))) (t : Tree). accepted_line (length c.args.tape.now)) c.in-Ok.field-0.1 c.in-Ok.field-0.0 _ _ c.in-Ok.ensures.reads
    (c.in_ok-accepted_line-in-Ok.ensures ∙ ap accepted_line c.len.ensures.count) c.answered.ensures

pub returns-clause-answer : goal.returns-clause-answer
returns-clause-answer g c =
    refused_answer c.args.tape.now (λ (texts : List (Option (List ℕ))) (t : Tree). accepted_line (length c.args.tape.now)) c.in-Err.refusal _ _ c.in-Err.ensures.reads c.in_ok-refusal_line-in-Err.ensures c.refused.ensures
