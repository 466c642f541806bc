use Rattle.std.proofs.Common.{arith, sym, ◌∙◌, ◌≡◌, ap, Some, length}
use Rattle.bast_schema.proofs.Lists.{wrong_missing, wrong_many}
use Rattle.bast_schema.proofs.node.first_mistyped.Goals as goal

pub returns-then-at-values : goal.returns-then-at-values
returns-then-at-values c = sym (wrong_missing _ _ c.args.wanted.now c.args.values.now c.loop-at-test.true c.if-at-values.true) ∙ c.loop-at.invariant.1

pub returns-else-values-wanted : goal.returns-else-values-wanted
returns-else-values-wanted c =
    let e : c.loop-at.at ≡ length c.args.wanted.now = omega arith
    in ap Some (sym e) ∙ sym (wrong_many _ _ c.args.wanted.now c.args.values.now e (omega arith)) ∙ c.loop-at.invariant.1
