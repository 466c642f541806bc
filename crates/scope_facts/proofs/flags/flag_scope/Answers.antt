use Rattle.scope_facts.proofs.Typed.{flags_made}
use Rattle.scope_facts.proofs.flags.flag_scope.Goals as goal

pub rebuilt-requires : goal.rebuilt-requires
rebuilt-requires c = flags_made _ _ _ _ _ _ c.parts-kind.ensures.tree c.parts-kind.ensures.typed c.parts-kind.ensures.depth c.in_ok-flag_scope_fields-in-Node.ensures
