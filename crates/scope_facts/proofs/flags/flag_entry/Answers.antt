use Rattle.scope_facts.proofs.Typed.{flag_made}
use Rattle.scope_facts.proofs.flags.flag_entry.Goals as goal

pub rebuilt-requires : goal.rebuilt-requires
rebuilt-requires c = flag_made _ _ _ _ _ c.parts-kind.ensures.tree c.parts-kind.ensures.typed c.parts-kind.ensures.depth c.in_ok-set_flag-in-Node.ensures
