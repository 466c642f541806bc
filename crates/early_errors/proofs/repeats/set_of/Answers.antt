use Rattle.std.proofs.Common.{nat_eq, ◌∙◌}
use Rattle.std.specs.HashSet.{contains}
use Rattle.early_errors.proofs.Seen.{set_more}
use Rattle.early_errors.proofs.repeats.set_of.Goals as goal

pub loop-name-preserved : goal.loop-name-preserved
loop-name-preserved c = λ q.
    set_more 0 c.args.names.now c.loop-name.name-index (contains nat_eq c.loop-name.set) (contains nat_eq c.insert.new.self) q c.loop-name-test.true c.in_ok-insert.ensures.updates.0
    ∙ c.loop-name.invariant q
