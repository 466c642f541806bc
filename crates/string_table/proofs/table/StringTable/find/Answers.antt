use Rattle.std.proofs.Common.{Some, sym, ◌∙◌, ap}
use Rattle.std.specs.Option.{option_map}
use Rattle.string_table.specs.Entries.{place_in}
use Rattle.string_table.specs.Inside.{place_of_index}
use Rattle.string_table.proofs.Kept.{place_in-text}
use Rattle.string_table.proofs.table.StringTable.find.Goals as goal

pub returns-in-None : goal.returns-in-None
returns-in-None c =
    ap (option_map (place_of_index c.self.inside.absent)) c.in-None.ensures.index
    ∙ sym (place_in-text _ _ c.args.text.now c.self.invariant.within)
    ∙ ap (λ entries. place_in entries (Some c.args.text.now)) c.self.view_is

pub returns-in-Some : goal.returns-in-Some
returns-in-Some c =
    ap Some c.place_from.ensures
    ∙ ap (option_map (place_of_index c.self.inside.absent)) c.in-Some.ensures.index
    ∙ sym (place_in-text _ _ c.args.text.now c.self.invariant.within)
    ∙ ap (λ entries. place_in entries (Some c.args.text.now)) c.self.view_is
