use Rattle.std.proofs.Common.{◌∙◌, sym, ap, arith, refl, ◌||◌, ◌+◌, ◌≤◌, false, subst}
use Rattle.bast_schema.specs.Tree.{depth_in, weight}
use Rattle.bast_schema.specs.View.{datum, data_of}
use Rattle.scope_facts.specs.Uses.{first_name, evals_at, evals_among, is_use_named, used_in, crossed_in, used_among, crossed_among}
use Rattle.scope_facts.specs.Flagged.{scope_by, flagged_at, flagged_among}
use Rattle.scope_facts.specs.Covers.{cover_of, is_caught, AreWithin, Touches}
use Rattle.scope_facts.proofs.Loops.{any_last, item_weighs, item_depth, mapped_step, step_on}
use Rattle.scope_facts.proofs.Typed.{flagged_made}
use Rattle.scope_facts.proofs.Touched.{within_after, within_inside, node_touches, depth_inside, scope_touches, scope_fields, field_touches, item_touches}
use Rattle.scope_facts.proofs.flagging.+flag.Goals as goal

pub flag_fields-returns-in_ok-put_first-clause-fields : goal.flag_fields-returns-in_ok-put_first-clause-fields
flag_fields-returns-in_ok-put_first-clause-fields t c = scope_fields _ (datum c.in-Some.first) _ _ _ _ _ c.in_ok-rest.evals c.deref.result.now c.args.now c.args.covers.now.items c.enter.new.covers.items c.flag_fields.new.covers.items
    c.in-Some.ensures (sym c.is_scope_value.ensures ∙ c.if-is_scope_value.true) (c.deref.ensures.value ∙ c.in_ok-names.ensures) c.in_ok-shadows.ensures.covers c.in_ok-rest.ensures.covers c.in_ok-rest.ensures.evals c.in_ok-rest.ensures.fields
    (c.in_ok-scope.ensures ∙ ap (λ cs. scope_by (λ x. is_caught (cover_of cs x)) c.in_ok-rest.evals (datum c.in-Some.first)) c.deref-then-is_scope_value.ensures.value) c.in_ok-put_first.ensures.first

pub flag_fields-returns-in_ok-put_first-clause-covers : goal.flag_fields-returns-in_ok-put_first-clause-covers
flag_fields-returns-in_ok-put_first-clause-covers t c = scope_touches (datum c.in-Some.first) _ _ c.deref.result.now c.args.now c.args.covers.now.items c.enter.new.covers.items c.flag_fields.new.covers.items c.leave.new.covers.items c.in_ok-shadows.shadows.items
    c.in-Some.ensures (sym c.is_scope_value.ensures ∙ c.if-is_scope_value.true) (c.deref.ensures.value ∙ c.in_ok-names.ensures) c.in_ok-shadows.ensures.covers c.in_ok-shadows.ensures.shadows c.in_ok-rest.ensures.covers c.in_ok-leave.ensures.covers

pub flag_fields-returns-after-called-clause-covers : goal.flag_fields-returns-after-called-clause-covers
flag_fields-returns-after-called-clause-covers t c = field_touches (datum c.in-Some.first) _ _ _ _ _ _ c.in-Some.ensures (sym c.is_scope_value.ensures ∙ c.if-is_scope_value.false) c.in_ok-first.ensures.covers c.in_ok-rest-2.ensures.covers

pub flag_items-flag_value-requires : goal.flag_items-flag_value-requires
flag_items-flag_value-requires t c = (
  omega (arith, item_weighs _ _ _ _ _ c.loop-value.invariant.all c.in-Some.ensures.steps.0),
  (
    omega (arith, c.requires.depth, item_depth _ _ _ _ _ c.loop-value.invariant.all c.in-Some.ensures.steps.0),
    within_after c.args.now c.args.now (λ x. used_among x (data_of c.loop-value.yielded)) (λ x. crossed_among x (data_of c.loop-value.yielded)) _ _ c.requires.within c.loop-value.invariant.covers,
  ),
)

pub flag_items-loop-value-preserved : goal.flag_items-loop-value-preserved
flag_items-loop-value-preserved t c = record {
  items = ap data_of c.in_ok-push.ensures.items ∙ mapped_step (flagged_among c.args.eval) (flagged_at c.args.eval) refl (λ d ds. refl) _ _ _ _ c.loop-value.invariant.items c.in_ok-value.ensures.value;
  evals = ap (λ b. c.loop-value.evals || b) c.in_ok-value.ensures.evals ∙ ap (λ b. b || evals_at c.args.eval (datum c.in-Some.value)) c.loop-value.invariant.evals ∙ sym (any_last (evals_among c.args.eval) (evals_at c.args.eval) refl (λ d ds. refl) c.loop-value.yielded c.in-Some.value);
  covers = item_touches c.loop-value.yielded c.in-Some.value _ _ _ _ c.loop-value.invariant.covers c.in_ok-value.ensures.covers;
  all = step_on _ _ _ _ _ c.loop-value.invariant.all c.in-Some.ensures.steps.0;
}

pub flag_node-flag_fields-requires : goal.flag_node-flag_fields-requires
flag_node-flag_fields-requires t c = (
  omega (arith, ap weight c.parts-kind.ensures.tree),
  (
    subst (λ n. n + depth_in (data_of c.parts-kind.result.1.items) ≤ 512) (sym c.functions_inside-inside.ensures) (depth_inside _ _ c.part_of-part.result _ c.args.now c.parts-kind.ensures.tree c.part_of-part.ensures c.requires.depth),
    subst (λ n. AreWithin n c.use_node.new.covers.items) (sym c.functions_inside-inside.ensures) (within_inside c.part_of-part.result c.args.now c.use_node.new.covers.items
        (within_after c.args.now c.args.now (λ x. is_use_named x c.part_of-part.result c.first_name_of.result) (λ x. false) c.args.covers.now.items c.use_node.new.covers.items c.requires.within (record { all = c.in_ok-use_node.ensures }))),
  ),
)

pub flag_node-rebuilt-requires : goal.flag_node-rebuilt-requires
flag_node-rebuilt-requires t c = flagged_made _ _ _ _ _ c.parts-kind.ensures.tree c.parts-kind.ensures.typed c.parts-kind.ensures.depth c.in_ok-fields.ensures.fields

pub flag_node-returns-clause-covers : goal.flag_node-returns-clause-covers
flag_node-returns-clause-covers t c = node_touches c.args.node c.parts-kind.result.0 c.part_of-part.result c.first_name_of.result (data_of c.parts-kind.result.1.items) c.args.now c.args.covers.now.items c.use_node.new.covers.items c.flag_fields.new.covers.items
    c.parts-kind.ensures.tree c.part_of-part.ensures (c.first_name_of.ensures ∙ ap (λ vs. first_name (data_of vs)) c.deref-2.ensures.value) c.requires.within c.in_ok-use_node.ensures
    (subst (λ n. Touches (λ x. used_in x (data_of c.parts-kind.result.1.items)) (λ x. crossed_in x (data_of c.parts-kind.result.1.items)) n c.use_node.new.covers.items c.flag_fields.new.covers.items) c.functions_inside-inside.ensures c.in_ok-fields.ensures.covers)
