use Rattle.js_grammar.proofs.Known.{first_known, empty_known}
use Rattle.js_grammar.proofs.laws.first_tokens_are_known.Goals as goal

pub returns-clause-token : goal.returns-clause-token
returns-clause-token c = first_known

pub returns-clause-nothing : goal.returns-clause-nothing
returns-clause-nothing c = empty_known
