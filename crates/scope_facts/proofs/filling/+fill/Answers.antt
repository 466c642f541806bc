use Rattle.std.proofs.Common.{refl, ◌∙◌, ◌*◌, ◌≡◌, ◌≤◌, ap, arith, rules, subst, sym}
use Rattle.bast_schema.specs.Counts.{size}
use Rattle.bast_schema.specs.Tree.{typed}
use Rattle.bast_schema.specs.View.{data_of}
use Rattle.scope_facts.specs.Filled.{filled, filled_at, filled_in, filled_among}
use Rattle.scope_facts.proofs.Loops.{item_weighs, item_size, mapped_step, step_on}
use Rattle.scope_facts.proofs.ExactSize.{filled_small}
use Rattle.scope_facts.proofs.Typed.{filled_made, from_is_true}
use Rattle.scope_facts.proofs.filling.+fill.Goals as goal

pub fill_items-fill_value-requires : goal.fill_items-fill_value-requires
fill_items-fill_value-requires t c = (omega (arith, item_weighs _ _ _ _ _ c.loop-value.invariant.all c.in-Some.ensures.steps.0), omega (arith, c.requires, item_size _ _ _ _ _ c.loop-value.invariant.all c.in-Some.ensures.steps.0))

pub fill_items-loop-value-preserved : goal.fill_items-loop-value-preserved
fill_items-loop-value-preserved t c = record {
  filled = ap data_of c.in_ok-push.ensures.items ∙ mapped_step filled_among filled_at refl (λ d ds. refl) _ _ _ _ c.loop-value.invariant.filled c.in_ok-fill_value.ensures;
  all = step_on _ _ _ _ _ c.loop-value.invariant.all c.in-Some.ensures.steps.0;
}

pub fill_node-rebuilt-requires : goal.fill_node-rebuilt-requires
fill_node-rebuilt-requires t c = filled_made _ _ _ _ c.parts-kind.ensures.tree c.parts-kind.ensures.typed c.parts-kind.ensures.depth c.requires
    (c.in_ok-fields.ensures ∙ ap (λ ns. filled_in ns (data_of c.parts-kind.result.1.items)) (c.deref-2.ensures.value ∙ c.in_ok-put_bound.ensures ∙ rw (c.new-names.ensures.items, c.deref.ensures.value) refl))

pub fill_node-returns-clause-size : goal.fill_node-returns-clause-size
fill_node-returns-clause-size t c =
    let is : c.rebuilt.result ≡ filled c.args.node = search rules
    in subst (λ u. size u ≤ 4 * size c.args.node) (sym is) (filled_small c.args.node (from_is_true (typed c.args.node) c.parts-kind.ensures.typed))
