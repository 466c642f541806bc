use Rattle.std.proofs.Common.{◌∙◌}
use Rattle.scope_check.specs.Entries.{is_among}
use Rattle.scope_check.proofs.Keys.{seen_more}
use Rattle.scope_check.proofs.entries.name_of_extra.Goals as goal

pub loop-key-preserved : goal.loop-key-preserved
loop-key-preserved c =
    seen_more (record { sort = 0; name = 0; number = 0 }) c.args.found.now c.loop-key.key-index (is_among c.args.wanted.now.keys) (is_among c.loop-key.seen.keys) (is_among c.insert_key.new.seen.keys)
    c.has_key.result c.in_ok-insert_key.field-0 c.loop-key-test.true c.has_key.ensures c.if-not-has_key.false
    c.in_ok-insert_key.ensures.is_new c.if-not-branch.false c.in_ok-insert_key.ensures.keys
    ∙ c.loop-key.invariant
