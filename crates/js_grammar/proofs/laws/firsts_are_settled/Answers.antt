use Rattle.std.proofs.Common.{sym}
use Rattle.js_grammar.proofs.Each.{begins_settled, empty_settled}
use Rattle.js_grammar.proofs.laws.firsts_are_settled.Goals as goal

pub returns-clause-begins : goal.returns-clause-begins
returns-clause-begins c = λ s k. sym (begins_settled s k)

pub returns-clause-empty : goal.returns-clause-empty
returns-clause-empty c = λ s. sym (empty_settled s)
