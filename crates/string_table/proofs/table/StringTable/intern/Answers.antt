use Rattle.std.proofs.Common.{◌≡◌, Some, None, sym, ap, ◌∙◌}
use Rattle.string_table.specs.Entries.{place_in}
use Rattle.string_table.proofs.Laws.{place_in-push}
use Rattle.string_table.proofs.table.StringTable.intern.Goals as goal

pub returns-in_ok-push_text-in-None-clause-place : goal.returns-in_ok-push_text-in-None-clause-place
returns-in_ok-push_text-in-None-clause-place c =
    let none : place_in c.args.self.now (Some c.args.text.now) ≡ None = sym c.in-None.ensures
    in rw (c.in_ok-push_text-in-None.ensures.entries, c.in_ok-from_str-in-None.ensures.ok)
    (ap Some c.len-place.ensures.count ∙ sym (place_in-push c.args.self.now (Some c.args.text.now) none))
