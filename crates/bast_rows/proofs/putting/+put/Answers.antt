use Rattle.std.proofs.Common.{arith, ◌≡◌, ◌∙◌, ◌++◌, ◌∷◌, ◌+◌, sym, ap}
use Rattle.bast_schema.specs.Tree.{branch, listed, weight_at}
use Rattle.bast_schema.specs.Counts.{size_at, size_in}
use Rattle.bast_schema.specs.View.{data_of, datum}
use Rattle.bast_schema.proofs.Lists.{weight_member, count_data_of}
use Rattle.bast_schema.proofs.Sums.{size_drop}
use Rattle.bast_rows.specs.declared.row.Row.TheVariants as row
use Rattle.bast_rows.specs.RowsOf.{rows_of, rows_in}
use Rattle.bast_rows.proofs.Adding.{closed, count_size}
use Rattle.bast_rows.proofs.putting.+put.Goals as goal

pub put_list-overflow_cast-values : goal.put_list-overflow_cast-values
put_list-overflow_cast-values t c = omega (arith, count_data_of c.args.values.now, count_size (data_of c.args.values.now), c.requires.spare, c.requires.few)

pub put_list-returns-clause-rows : goal.put_list-returns-clause-rows
put_list-returns-clause-rows t c =
    closed _ _ _ _ _ (data_of c.args.values.now) _ c.push.ensures.rows c.put_values.ensures.rows c.len-at.ensures c.close.ensures.rows
    ∙ ap (λ n. c.args.room.now.rows ++ row.List n (1 + size_in (data_of c.args.values.now)) ∷ rows_in (data_of c.args.values.now)) (sym (count_data_of c.args.values.now))

pub put_node-returns-clause-rows : goal.put_node-returns-clause-rows
put_node-returns-clause-rows t c =
    closed _ _ _ _ _ (data_of c.fields.result.now) _ c.push.ensures.rows c.put_values.ensures.rows c.len-at.ensures c.close.ensures.rows
    ∙ ap (λ x. c.args.room.now.rows ++ rows_of x) (ap (λ k. branch k (data_of c.fields.result.now)) c.kind.ensures.kind ∙ c.fields.ensures.tree)

pub put_value-put_list-requires : goal.put_value-put_list-requires
put_value-put_list-requires t c =
    let e : datum c.args.value.now ≡ listed (data_of c.as_slice.result.now) = ap datum c.in-List.is ∙ ap listed (sym c.as_slice.ensures)
    in (omega (arith, ap weight_at e), (omega (arith, ap size_at e, c.requires.spare), c.requires.few))

pub put_values-put_value-requires : goal.put_values-put_value-requires
put_values-put_value-requires t c = (omega (arith, weight_member _ _ _ c.value-item.is c.loop-value-test.true), (omega (arith, size_drop _ _ _ c.value-item.is c.loop-value-test.true, c.loop-value.invariant.1, c.requires.spare), omega (arith, c.loop-value.invariant.2, c.requires.few)))
