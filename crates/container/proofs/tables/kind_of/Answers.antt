use Rattle.container.proofs.Named.{unnamed}
use Rattle.container.proofs.tables.kind_of.Goals as goal

pub returns-in-Err : goal.returns-in-Err
returns-in-Err c = unnamed c.args.name.now c.in-Err.ensures.cases.0
