use Rattle.std.proofs.Common.{◌∙◌, ap, arith, refl, if◌then◌else◌}
use Rattle.bast_schema.specs.View.{data_of}
use Rattle.scope_facts.specs.Uses.{is_scope}
use Rattle.scope_facts.specs.Bare.{bare_scope, bare_at, bare_in}
use Rattle.scope_facts.proofs.Loops.{item_weighs, item_whole, mapped_step, step_on}
use Rattle.scope_facts.proofs.Typed.{bare_made}
use Rattle.scope_facts.proofs.bare.+bare.Goals as goal

pub plain_values-plain_value-requires : goal.plain_values-plain_value-requires
plain_values-plain_value-requires t c = (omega (arith, item_weighs _ _ _ _ _ c.loop-value.invariant.all c.in-Some.ensures.steps.0), item_whole _ _ _ _ _ c.loop-value.invariant.all c.in-Some.ensures.steps.0 c.requires)

pub plain_values-loop-value-preserved : goal.plain_values-loop-value-preserved
plain_values-loop-value-preserved t c = record {
  bare = ap data_of c.in_ok-push.ensures.items ∙ mapped_step bare_in (λ d. if is_scope d then bare_scope d else bare_at d) refl (λ d ds. refl) _ _ _ _ c.loop-value.invariant.bare c.in_ok-plain_value.ensures;
  all = step_on _ _ _ _ _ c.loop-value.invariant.all c.in-Some.ensures.steps.0;
}

pub plain-rebuilt-requires : goal.plain-rebuilt-requires
plain-rebuilt-requires t c = bare_made _ _ _ _ _ c.parts-kind.ensures.tree c.parts-kind.ensures.typed c.parts-kind.ensures.depth c.requires c.eager_kind.ensures c.in_ok-fields.ensures
