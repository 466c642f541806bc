use Rattle.std.proofs.Common.{ap, ◌∙◌, Some, true, if◌then◌else◌}
use Rattle.scope_facts.specs.Covers.{cover_of}
use Rattle.scope_check.proofs.Marks.{entered_is, named_facts}
use Rattle.scope_check.proofs.covers.enter.Goals as goal

pub returns-clause-covers : goal.returns-clause-covers
returns-clause-covers c = λ x. entered_is c.args.now x _ _ _ c.args.facts.now
    (c.in_ok-shadows.ensures.covers x ∙ ap (λ b. if b then Some (record { function = c.args.now; captured = true }) else cover_of c.args.covers.now.items x) (named_facts _ c.args.facts.now x (c.deref.ensures.value ∙ c.in_ok-names.ensures)))
    (c.in_ok-mark_facts.ensures x)

pub returns-clause-shadows : goal.returns-clause-shadows
returns-clause-shadows c = λ x o. c.in_ok-shadows.ensures.shadows x o ∙ ap (λ b. if b then cover_of c.args.covers.now.items x else o) (named_facts _ c.args.facts.now x (c.deref.ensures.value ∙ c.in_ok-names.ensures))
