use Rattle.std.proofs.Common.{arith, length-set, nat_eq, Option, Some}
use Rattle.scope_facts.specs.declared.covers.Cover.{Cover}
use Rattle.scope_facts.proofs.Shadows.{cover_entered, put_there}
use Rattle.scope_facts.proofs.covers.put_entries.Goals as goal

pub loop-shadow-preserved : goal.loop-shadow-preserved
loop-shadow-preserved c = record {
  covers = λ x. cover_entered (λ s. nat_eq s.name x) c.args.shadows.now c.loop-shadow.shadow-index _ _ _ _ _ c.loop-shadow-test.true (c.loop-shadow.invariant.covers x)
      (put_there c.loop-shadow.covers.items _ x (Some c.args.entry) (c.loop-shadow.invariant.room c.loop-shadow.shadow-index _ c.loop-shadow-test.true));
  room = λ k d h. omega (arith, length-set {A = Option Cover}, c.loop-shadow.invariant.room k d h);
}
