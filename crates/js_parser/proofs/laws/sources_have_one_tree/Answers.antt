use Rattle.js_parser.proofs.OneAnswer.{one_answer, one_tree}
use Rattle.js_parser.proofs.laws.sources_have_one_tree.Goals as goal

pub returns-clause-tree : goal.returns-clause-tree
returns-clause-tree c = one_tree

pub returns-clause-answer : goal.returns-clause-answer
returns-clause-answer c = one_answer
