use Rattle.std.proofs.Common.{arith, ◌∙◌}
use Rattle.std.proofs.lemmas.Result.{err_from_is_err_and}
use Rattle.container.specs.Entries.{more_texts}
use Rattle.container.proofs.TableLemmas.{table_start, table_fails, entries_more, entry_fails}
use Rattle.container.proofs.tables.read_texts.Goals as goal

pub returns-in_err-count-clause-exact : goal.returns-in_err-count-clause-exact
returns-in_err-count-clause-exact g c =
    let r = err_from_is_err_and c.from_residual.result c.from_residual.ensures.1 in
    rw (r.1, r.2) (table_fails more_texts c.args.tape.now c.args.to c.args.from _ c.in_err-count.ensures.exact)

pub entries-init : goal.entries-init
entries-init g c = (
  rw c.new-strings.ensures (table_start more_texts c.args.tape.now c.args.to c.args.from c.in_ok-count.count c.in_ok-count.start c.in_ok-count.ensures.exact),
  omega (arith, c.in_ok-count.ensures.spelled.within),
  omega (arith, c.in_ok-count.ensures.spelled.ahead),
  rw c.new-strings.ensures (omega (arith, c.in_ok-count.ensures.spelled.ahead)),
  omega (arith, c.in_ok-count.ensures.cost, c.in_ok-count.ensures.spelled.ahead),
)

pub entries-preserved : goal.entries-preserved
entries-preserved g c = (
  entries_more more_texts c.args.tape.now c.args.to c.in_ok-count.count c.entries.counter c.entries.strings c.entries.place c.read_text.new.strings c.in_ok-place.place c.entries-test.true c.in_ok-place.ensures.exact
      ∙ c.entries.invariant.0,
  omega (arith, c.in_ok-place.ensures.ahead.1),
  omega (arith, c.in_ok-place.ensures.ahead.0),
  omega (arith, c.in_ok-place.ensures.few),
  omega (arith, c.in_ok-place.ensures.cost, c.in_ok-place.ensures.ahead.0),
)

pub returns-in_err-place-clause-exact : goal.returns-in_err-place-clause-exact
returns-in_err-place-clause-exact g c =
    let r = err_from_is_err_and c.from_residual-in_err-place.result c.from_residual-in_err-place.ensures.1 in
    rw (r.1, r.2) (entry_fails more_texts c.args.tape.now c.args.to c.args.from c.in_ok-count.count c.entries.counter c.entries.strings c.read_text.new.strings c.entries.place c.in_err-place.field-0.0 c.entries-test.true c.entries.invariant.0 c.in_err-place.ensures.exact)
