use Rattle.js_parser.proofs.OneAnswer.{deep_source, shallow_source}
use Rattle.js_parser.proofs.laws.limit_refuses_deep_sources.Goals as goal

pub returns-clause-shallow : goal.returns-clause-shallow
returns-clause-shallow c = shallow_source

pub returns-clause-deep : goal.returns-clause-deep
returns-clause-deep c = deep_source
