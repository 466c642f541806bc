use Rattle.std.proofs.Common.{None, Some, sym, ap, ◌∙◌}
use Rattle.string_table.specs.Entries.{place_of}
use Rattle.string_table.specs.declared.entry.AddedName.{AddedName}
use Rattle.string_table.proofs.Laws.{place_in-added}
use Rattle.tree_encoder.proofs.numbers.number_of_text.Goals as goal

pub returns-in-New-clause-number : goal.returns-in-New-clause-number
returns-in-New-clause-number c =
    rw (c.in-None.is, c.in_ok-name-in-None.ensures.entries) (place_in-added c.args.texts.now None ∙ ap (λ (a : AddedName). Some (place_of a)) (sym c.in_ok-name-in-None.ensures.answer ∙ c.in-New.is))
