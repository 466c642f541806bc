use Rattle.std.proofs.Common.{sym, ap, ◌∙◌}
use Rattle.js_machine.specs.Keeper.{next_of}
use Rattle.js_machine.proofs.Work.{work_less}
use Rattle.js_machine.proofs.Runs.{comes_further, comes_past, comes_to_stop, comes_nowhere}
use Rattle.js_machine.proofs.machine.Machine.take.Goals as goal

pub loop-stop-init : goal.loop-stop-init
loop-stop-init c = comes_nowhere c.args.token c.args.self.now

pub loop-stop-preserved : goal.loop-stop-preserved
loop-stop-preserved c = comes_further c.args.token c.args.self.now c.loop-stop.self c.act.new.self c.loop-stop.invariant (sym c.in_ok-act.ensures ∙ ap (λ m. next_of m c.act.new.self) c.in-Stays.is)

pub returns-in-Takes-clause-passed : goal.returns-in-Takes-clause-passed
returns-in-Takes-clause-passed c = comes_past c.args.token c.args.self.now c.loop-stop.self c.act.new.self c.loop-stop.invariant (sym c.in_ok-act.ensures ∙ ap (λ m. next_of m c.act.new.self) c.in-Takes.is)

pub returns-in-Stops-clause-stopped : goal.returns-in-Stops-clause-stopped
returns-in-Stops-clause-stopped c = comes_to_stop c.args.token c.args.self.now c.loop-stop.self c.in-Stops.stop c.loop-stop.invariant (sym c.in_ok-act.ensures ∙ ap (λ m. next_of m c.act.new.self) c.in-Stops.is)

pub loop-stop-smaller : goal.loop-stop-smaller
loop-stop-smaller c = work_less c.args.token c.loop-stop.self c.act.new.self (sym c.in_ok-act.ensures ∙ ap (λ m. next_of m c.act.new.self) c.in-Stays.is)
