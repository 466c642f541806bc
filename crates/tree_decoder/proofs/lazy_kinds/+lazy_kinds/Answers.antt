use Rattle.std.proofs.Common.{rules, ◌≡◌, sym, ◌∙◌, Ok, Err, arith}
use Rattle.bast_schema.specs.View.{datum}
use Rattle.bast_schema.proofs.Lists.{weight_member}
use Rattle.bast_schema.proofs.Sums.{nodes_drop}
use Rattle.tree_decoder.specs.LazyKinds.{kinds_at, walked}
use Rattle.tree_decoder.proofs.LazyKinds.{value_count, values_no_further, values_on}
use Rattle.tree_decoder.proofs.lazy_kinds.+lazy_kinds.Goals as goal

pub walk_values-walk_value-requires : goal.walk_values-walk_value-requires
walk_values-walk_value-requires t c = (
  omega (arith, weight_member _ _ _ c.value-item.is c.loop-value-test.true),
  omega (arith, nodes_drop _ _ _ c.value-item.is c.loop-value-test.true, c.loop-value.invariant.0),
)

pub walk_values-returns-in_err-next : goal.walk_values-returns-in_err-next
walk_values-returns-in_err-next t c =
    let handed_on : c.from_residual.result ≡ Err c.in_err-next.field-0.0 = search rules
    in handed_on
    ∙ sym (values_no_further _ _ _ c.loop-value.next c.in_err-next.field-0.0 c.value-item.is c.loop-value-test.true (sym c.in_err-next.ensures))
    ∙ c.loop-value.invariant.1

pub walk_values-loop-value-preserved : goal.walk_values-loop-value-preserved
walk_values-loop-value-preserved t c =
    let taken : walked c.loop-value.next (kinds_at (datum c.value-item.result)) ≡ Ok c.in_ok-next.next = sym c.in_ok-next.ensures
    in (
      omega (arith, nodes_drop _ _ _ c.value-item.is c.loop-value-test.true, c.loop-value.invariant.0, value_count c.value-item.result c.loop-value.next c.in_ok-next.next taken),
      sym (values_on _ _ _ c.loop-value.next c.in_ok-next.next c.value-item.is c.loop-value-test.true taken) ∙ c.loop-value.invariant.1,
    )
