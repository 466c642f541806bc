use Rattle.js_machine.proofs.Runs.{Comes}
use Rattle.js_machine.proofs.Work.{work}
use Rattle.js_machine.proofs.machine.Machine.take.Given as goal

-- from the state at the call the machine comes here, before the same token
abbrev pub invariant-loop-stop : goal.invariant-loop-stop
invariant-loop-stop l = Comes l.token l.initial.self l.self

abbrev pub decreases-loop-stop : goal.decreases-loop-stop
decreases-loop-stop l = work l.self.stack
