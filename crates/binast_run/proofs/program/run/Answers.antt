use Rattle.std.proofs.Common.{List, ℕ, sym, subst}
use Rattle.binast_run.specs.Output.{AppendsFront}
use Rattle.binast_run.proofs.Outputs.{answered, outputs_front}
use Rattle.binast_run.specs.Answer.{output, refusal}
use Rattle.binast_run.proofs.program.run.Goals as goal

pub returns-clause-write_fault : goal.returns-clause-write_fault
returns-clause-write_fault g c = λ _.
    let front = subst (λ (x : List ℕ). AppendsFront (g.K.Sink.written c.args.sink.now) (g.K.Sink.written c.write_all-in-Ok-Output.new.sink) x) c.deref-in-Ok-Output.ensures.value c.write_all-in-Ok-Output.ensures.front
    in (
      outputs_front c.args.words.now (g.S.Source.left c.args.source.now) (g.S.Source.left c.read_from.new.source) (g.K.Sink.written c.args.sink.now) (g.K.Sink.written c.write_all-in-Ok-Output.new.sink) c.in-Ok.tape c.in-Ok-Output.bytes.items c.in-Some.command (sym c.in-Some.ensures) c.in-Ok.ensures.whole c.in-Ok.ensures.within (rw c.in-Ok-Output.field-0-is at c.in-Ok-Output.ensures.answer) front,
      c.in-Err-write_all.ensures.cause.failed,
    )

pub returns-in-Ok-Refusal-clause-complete : goal.returns-in-Ok-Refusal-clause-complete
returns-in-Ok-Refusal-clause-complete g c =
    answered c.args.words.now (g.S.Source.left c.args.source.now) (g.S.Source.left c.read_from.new.source) c.in-Ok.tape c.in-Some.command (refusal c.in-Ok-Refusal.line.items) _ _ (sym c.in-Some.ensures) c.in-Ok.ensures.whole (rw c.in-Ok-Refusal.field-0-is at c.in-Ok-Refusal.ensures.answer)

pub returns-in-Ok-write_all-clause-complete : goal.returns-in-Ok-write_all-clause-complete
returns-in-Ok-write_all-clause-complete g c =
    answered c.args.words.now (g.S.Source.left c.args.source.now) (g.S.Source.left c.read_from.new.source) c.in-Ok.tape c.in-Some.command (output c.in-Ok-Output.bytes.items) _ _ (sym c.in-Some.ensures) c.in-Ok.ensures.whole (rw c.in-Ok-Output.field-0-is at c.in-Ok-Output.ensures.answer)
