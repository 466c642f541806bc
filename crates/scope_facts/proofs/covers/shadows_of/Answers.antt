use Rattle.scope_facts.specs.Covers.{cover_of}
use Rattle.scope_facts.proofs.Shadows.{shadows_more}
use Rattle.scope_facts.proofs.covers.shadows_of.Goals as goal

pub loop-name-preserved : goal.loop-name-preserved
loop-name-preserved c = shadows_more (cover_of c.args.covers.now) c.args.names.now c.loop-name.name-index c.loop-name.shadows.items _ _ c.loop-name-test.true c.in_ok-push.ensures.items c.find_cover-cover.ensures c.loop-name.invariant
