use Rattle.std.proofs.Common.{◌≡◌, ap, sym, ◌∙◌, arith, subst, IfOk, ◌+◌, true}
use Rattle.bast_schema.specs.Tree.{Data, nodes_in, nodes_at, child, more}
use Rattle.bast_schema.specs.View.{datum, data_of}
use Rattle.bast_schema.proofs.Lists.{weight_member, data_of_drop}
use Rattle.bast_schema.proofs.Sums.{size_member}
use Rattle.scope_facts.specs.Covers.{cover_of}
use Rattle.scope_facts.specs.Uses.{is_scope}
use Rattle.scope_check.specs.Covers.{entered}
use Rattle.scope_check.specs.Least.{least_in, told_step}
use Rattle.scope_check.proofs.Walks.{fields_are, scope_whole, scope_more, field_more, item_found, item_more, next_is}
use Rattle.scope_check.proofs.walk.+walk.Goals as goal

pub walk_fields-returns-then-is_scope_value-clause-step : goal.walk_fields-returns-then-is_scope_value-clause-step
walk_fields-returns-then-is_scope_value-clause-step t c =
    subst (λ s. IfOk c.walk_scope.result (λ r. r ≡ s)) (scope_whole c.args.eval (cover_of c.args.covers.now.items) c.args.now c.args.told c.args.names.now c.args.number (datum c.first-item.result) _ (data_of c.args.fields.now)
    (fields_are c.args.fields.now _ c.first-item.is (omega (arith, c.in-len1-up.len_at_least)))) c.walk_scope.ensures.step

pub walk_fields-returns-in-Next-clause-step : goal.walk_fields-returns-in-Next-clause-step
walk_fields-returns-in-Next-clause-step t c =
    subst (λ s. IfOk c.walk_fields.result (λ r. r ≡ s)) (field_more c.args.eval (cover_of c.walk_value.new.covers.items) (cover_of c.args.covers.now.items) c.args.now c.args.told c.args.names.now c.args.number c.in-Next.next (datum c.first-item.result) _ (data_of c.args.fields.now) c.in_ok-violation-in-len1-up.field-0
    (fields_are c.args.fields.now _ c.first-item.is (omega (arith, c.in-len1-up.len_at_least))) (sym c.is_scope_value.ensures ∙ c.if-is_scope_value.false)
    c.in_ok-violation-in-len1-up.ensures.step c.in-Next.is c.in_ok-violation-in-len1-up.ensures.covers) c.walk_fields.ensures.step

pub walk_items-walk_value-requires : goal.walk_items-walk_value-requires
walk_items-walk_value-requires t c = (
  omega (arith, weight_member _ _ _ c.value-item.is c.loop-value-test.true),
  (
    c.loop-value.invariant.now,
    (
      omega (arith, c.requires.numbers, c.loop-value.invariant.walked.number, ap nodes_in (data_of_drop _ _ _ c.value-item.is c.loop-value-test.true)),
      omega (arith, c.requires.size, size_member _ _ _ c.value-item.is c.loop-value-test.true),
    ),
  ),
)

pub walk_items-returns-in-Found-clause-step : goal.walk_items-returns-in-Found-clause-step
walk_items-returns-in-Found-clause-step t c =
    item_found c.args.eval (cover_of c.loop-value.covers.items) (cover_of c.args.covers.now.items) c.args.now c.args.told c.loop-value.next (datum c.value-item.result) _ _ c.args.number (data_of c.args.values.now) c.in-Found.violation c.in_ok-violation.field-0
    (data_of_drop _ _ _ c.value-item.is c.loop-value-test.true) c.loop-value.invariant.walked c.loop-value.invariant.covers c.in_ok-violation.ensures.step c.in-Found.is

pub walk_items-loop-value-preserved : goal.walk_items-loop-value-preserved
walk_items-loop-value-preserved t c = record {
  walked = item_more c.args.eval (cover_of c.loop-value.covers.items) (cover_of c.args.covers.now.items) c.args.now c.args.told c.loop-value.next c.in-Next.number (datum c.value-item.result) _ _ c.args.number (data_of c.args.values.now) c.in_ok-violation.field-0
      (data_of_drop _ _ _ c.value-item.is c.loop-value-test.true) c.loop-value.invariant.walked c.loop-value.invariant.covers c.in_ok-violation.ensures.step c.in-Next.is;
  now = let i : c.in-Next.number ≡ c.loop-value.next + nodes_at (datum c.value-item.result) = next_is _ c.in-Next.number (c.loop-value.next + nodes_at (datum c.value-item.result)) (sym c.in-Next.is ∙ c.in_ok-violation.ensures.step) in omega (arith, c.loop-value.invariant.now);
  covers = λ x. c.in_ok-violation.ensures.covers x ∙ c.loop-value.invariant.covers x;
}

pub walk_scope-returns-clause-step : goal.walk_scope-returns-clause-step
walk_scope-returns-clause-step t c =
    let i : datum c.args.scope.now ≡ child c.in-Node.node = ap datum c.in-Node.is
    in let ds : Data = data_of c.args.after.now
    in subst (λ d. c.in_ok-step.step ≡ told_step (least_in c.args.eval (cover_of c.args.covers.now.items) c.args.now c.args.told c.args.names.now c.args.number (more d ds)) (c.args.number + nodes_at d + nodes_in ds)) (sym i)
    (scope_more c.args.eval (cover_of c.enter.new.covers.items) (cover_of c.args.covers.now.items) c.args.now c.args.told c.tells_eval_too-told.result c.args.names.now c.args.number c.number_behind-next.result (child c.in-Node.node) ds c.in_ok-step.step
    (subst (λ d. is_scope d ≡ true) i c.requires.scope) (sym c.in_default-2.is ∙ c.in_ok-violation.ensures) c.number_behind-next.ensures c.tells_eval_too-told.ensures
    (λ x. c.in_ok-shadows.ensures.covers x ∙ ap (λ fs. entered c.args.now fs x (cover_of c.args.covers.now.items x)) (c.deref.ensures.value ∙ c.in_ok-facts.ensures)) c.in_ok-step.ensures.step)
