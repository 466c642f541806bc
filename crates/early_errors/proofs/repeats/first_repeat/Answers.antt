use Rattle.std.proofs.Common.{nat_eq, ◌∙◌}
use Rattle.std.specs.HashSet.{contains}
use Rattle.early_errors.proofs.Seen.{seen_more}
use Rattle.early_errors.proofs.repeats.first_repeat.Goals as goal

pub loop-name-preserved : goal.loop-name-preserved
loop-name-preserved c =
    seen_more 0 c.args.names.now c.loop-name.name-index (contains nat_eq c.loop-name.seen) (contains nat_eq c.insert.new.self) c.in_ok-insert.field-0
    c.loop-name-test.true c.in_ok-insert.ensures.added c.if-not-branch.false c.in_ok-insert.ensures.updates.0
    ∙ c.loop-name.invariant
