use Rattle.std.proofs.Common.{◌∙◌}
use Rattle.binast_run.proofs.SourceAnswers.{text_answer, fault_answers, made_answers}
use Rattle.binast_run.proofs.sources.encode_bytes.Goals as goal

pub returns-in-Err : goal.returns-in-Err
returns-in-Err c =
    text_answer c.args.bytes.now c.valid_up_to.result _ _ c.in-Err.ensures.cases.0 (c.valid_up_to.ensures ∙ c.in-Err.ensures.valid_len) c.refused.ensures c.in_ok-line-in-Err.ensures

pub returns-in-Ok-parse : goal.returns-in-Ok-parse
returns-in-Ok-parse c =
    made_answers c.args.bytes.now c.in-Ok.text.now c.new-strings.result c.parse.new.strings c.in-Ok-parse.tree c.encode_tree.result c.in-Ok.ensures.cases.0 c.new-strings.ensures c.in-Ok.ensures.cases.1
    c.in-Ok-parse.ensures.tree c.encode_tree.ensures.answer c.encode_tree.ensures.spelled

pub returns : goal.returns
returns c =
    fault_answers c.args.bytes.now c.in-Ok.text.now c.new-strings.result c.parse.new.strings c.in-Err-parse.fault c.refusal_of.result c.in-Ok.ensures.cases.0 c.new-strings.ensures c.in-Ok.ensures.cases.1
    c.in-Err-parse.ensures.refused c.refusal_of.ensures
