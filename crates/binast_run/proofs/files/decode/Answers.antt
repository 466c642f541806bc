use Rattle.js_printer.specs.Listing.{listed}
use Rattle.binast_run.proofs.FileAnswers.{read_answer, refused_answer}
use Rattle.binast_run.proofs.files.decode.Goals as goal

pub returns-in_ok-list_tree-in-Ok-clause-answer : goal.returns-in_ok-list_tree-in-Ok-clause-answer
returns-in_ok-list_tree-in-Ok-clause-answer g c =
    read_answer c.args.tape.now listed c.in-Ok.strings c.in-Ok.tree _ _ c.in-Ok.ensures.reads c.in_ok-list_tree-in-Ok.ensures c.answered.ensures

pub returns-in_ok-refusal_line-in-Err-clause-answer : goal.returns-in_ok-refusal_line-in-Err-clause-answer
returns-in_ok-refusal_line-in-Err-clause-answer g c =
    refused_answer c.args.tape.now listed c.in-Err.refusal _ _ c.in-Err.ensures.reads c.in_ok-refusal_line-in-Err.ensures c.refused.ensures
