use Rattle.std.proofs.Common.{sym, ◌∙◌}
use Rattle.string_table.proofs.Kept.{place_in-text, none_from_map}
use Rattle.string_table.proofs.table.StringTable.push_text.Goals as goal

pub push_to-requires : goal.push_to-requires
push_to-requires c =
    none_from_map _ _ (sym (place_in-text _ _ _ c.self.invariant.within) ∙ (rw c.self.view_is c.requires.absent))
