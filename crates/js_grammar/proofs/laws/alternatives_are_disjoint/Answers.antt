use Rattle.js_grammar.proofs.Each.{disjoint}
use Rattle.js_grammar.proofs.laws.alternatives_are_disjoint.Goals as goal

pub returns : goal.returns
returns c = disjoint
