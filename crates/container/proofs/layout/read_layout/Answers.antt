use Rattle.container.proofs.ReadBack.{layout_read}
use Rattle.container.proofs.layout.read_layout.Goals as goal

pub returns-clause-only : goal.returns-clause-only
returns-clause-only g c s tree file =
    rw (layout_read s tree c.args.tape.now file c.read_parts.ensures.small).0 at c.read_parts.ensures.layout
