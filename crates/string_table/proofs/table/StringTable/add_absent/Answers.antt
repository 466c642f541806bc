use Rattle.std.proofs.Common.{◌≡◌, ℕ, length, None, sym, ap, ◌∙◌, string_bytes}
use Rattle.std.proofs.lemmas.List.{length-map}
use Rattle.string_table.specs.Inside.{texts_of}
use Rattle.string_table.specs.declared.entry.AddedName.TheVariants.{New}
use Rattle.string_table.proofs.Kept.{place_in-kept, with_absent-added, length-kept}
use Rattle.string_table.proofs.Laws.{added-new, added-there}
use Rattle.string_table.proofs.table.StringTable.add_absent.Goals as goal

pub returns-in-Some-clause-answer : goal.returns-in-Some-clause-answer
returns-in-Some-clause-answer c =
    sym ((added-there _ None c.in-Some.place (place_in-kept _ _ _ c.self.invariant.within c.self.view_is ∙ c.in-Some.is)).1)

pub returns-in-Some-clause-entries : goal.returns-in-Some-clause-entries
returns-in-Some-clause-entries c =
    sym ((added-there _ None c.in-Some.place (place_in-kept _ _ _ c.self.invariant.within c.self.view_is ∙ c.in-Some.is)).0)

pub returns-in-None-clause-answer : goal.returns-in-None-clause-answer
returns-in-None-clause-answer c =
    let last : c.len-place.result ≡ length c.args.self.now =
    c.len-place.ensures.len ∙ sym (length-map c.self.inside.texts.keys string_bytes) ∙ sym (length-kept _ _ _ c.self.invariant.within c.self.view_is c.in-None.is) in
    ap (λ (n : ℕ). New (record { 0 = n })) last
    ∙ sym ((added-new _ None (place_in-kept _ _ _ c.self.invariant.within c.self.view_is ∙ c.in-None.is)).1)

pub returns-in-None-clause-entries : goal.returns-in-None-clause-entries
returns-in-None-clause-entries c =
    let last : c.len-place.result ≡ length (texts_of c.self.inside.texts) =
    c.len-place.ensures.len ∙ sym (length-map c.self.inside.texts.keys string_bytes) in
    with_absent-added _ _ _ c.self.invariant.within c.self.view_is c.len-place.result c.in-None.is last
    ∙ sym ((added-new _ None (place_in-kept _ _ _ c.self.invariant.within c.self.view_is ∙ c.in-None.is)).0)
