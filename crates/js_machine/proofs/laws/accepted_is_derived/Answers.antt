use Rattle.std.proofs.Common.{length}
use Rattle.js_machine.proofs.Explained.{whole}
use Rattle.js_machine.proofs.laws.accepted_is_derived.Goals as goal

pub returns-clause-derived : goal.returns-clause-derived
returns-clause-derived c = λ text ts events ends. (whole text ts events ends.0 (length text) ends.1).0

pub returns-clause-all : goal.returns-clause-all
returns-clause-all c = λ text ts events ends. (whole text ts events ends.0 (length text) ends.1).1
