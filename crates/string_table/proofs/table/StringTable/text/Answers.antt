use Rattle.std.proofs.Common.{◌<◌, arith}
use Rattle.string_table.proofs.Kept.{slice_get-kept_after}
use Rattle.string_table.proofs.table.StringTable.text.Goals as goal

pub returns-else-name-place-2 : goal.returns-else-name-place-2
returns-else-name-place-2 c =
    let behind : c.in-Some.place < c.args.name.0 = grind arith in
    slice_get-kept_after _ _ _ c.in-Some.place c.args.name.0 _ c.self.invariant.within c.self.view_is c.in-Some.is c.requires behind c.text_at-else-name-place-2.ensures
