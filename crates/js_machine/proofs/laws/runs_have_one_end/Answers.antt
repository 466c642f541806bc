use Rattle.std.proofs.Common.{length}
use Rattle.js_machine.specs.Lookahead.{seen}
use Rattle.js_machine.specs.Machine.{start}
use Rattle.js_machine.proofs.Ended.{ends_from, one_end}
use Rattle.js_machine.proofs.laws.runs_have_one_end.Goals as goal

pub returns-clause-some : goal.returns-clause-some
returns-clause-some c = λ text ts. let e = ends_from (length text) (seen text ts) start in (e.0, (e.1, e.2))

pub returns-clause-one : goal.returns-clause-one
returns-clause-one c = λ text ts one other p q. one_end p.0 q.0 (length text) (seen text ts) start one other p.1 q.1
