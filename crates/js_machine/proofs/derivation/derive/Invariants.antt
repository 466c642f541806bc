use Rattle.std.proofs.Common.{drop, length}
use Rattle.js_machine.specs.Lookahead.{seen}
use Rattle.js_machine.specs.Machine.{start}
use Rattle.js_machine.proofs.Runs.{Reaches}
use Rattle.js_machine.proofs.derivation.derive.Given as goal

abbrev pub invariant-loop-token : goal.invariant-loop-token
invariant-loop-token l = Reaches (length l.text) (seen l.text l.tokens) start (seen l.text (drop l.token-index l.tokens)) l.machine
