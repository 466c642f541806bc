use Rattle.js_parser.proofs.AnswerThere.{answer_there, refused_for_depth}
use Rattle.js_parser.proofs.laws.texts_have_an_answer.Goals as goal

pub returns-clause-some : goal.returns-clause-some
returns-clause-some c = answer_there

pub returns-clause-depth : goal.returns-clause-depth
returns-clause-depth c = refused_for_depth
