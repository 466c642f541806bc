use Rattle.std.proofs.Common.{arith}
use Rattle.container.proofs.Named.{texts_grow}
use Rattle.container.proofs.tables.read_text.Goals as goal

pub returns-clause-few : goal.returns-clause-few
returns-clause-few g c =
    omega (arith, texts_grow _ _ _ _ c.in_ok-add_entry.ensures, c.in_ok-from.ensures.within.ahead, c.in_ok-from.ensures.within.order)
