use Rattle.string_table.proofs.Kept.{AreDistinct-with_absent}
use Rattle.string_table.proofs.table.StringTable.len.Goals as goal

pub returns-in-None-clause-distinct : goal.returns-in-None-clause-distinct
returns-in-None-clause-distinct c =
    rw (← c.self.view_is) (AreDistinct-with_absent _ _ c.len-texts.ensures.unique)

pub returns-in-Some-clause-distinct : goal.returns-in-Some-clause-distinct
returns-in-Some-clause-distinct c =
    rw (← c.self.view_is) (AreDistinct-with_absent _ _ c.len-texts.ensures.unique)
