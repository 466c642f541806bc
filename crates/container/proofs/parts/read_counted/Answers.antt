use Rattle.std.proofs.Common.{arith}
use Rattle.std.proofs.lemmas.Result.{err_from_is_err_and}
use Rattle.container.proofs.Counted.{counted_fails, counted_ended, counted_stands}
use Rattle.container.proofs.parts.read_counted.Goals as goal

pub returns-in_err-len-clause-exact : goal.returns-in_err-len-clause-exact
returns-in_err-len-clause-exact g c =
    let r = err_from_is_err_and c.from_residual.result c.from_residual.ensures.1 in
    rw (r.1, r.2) (counted_fails _ _ _ _ c.in_err-len.ensures.exact)

pub returns-then-len-end-clause-exact : goal.returns-then-len-end-clause-exact
returns-then-len-end-clause-exact g c =
    rw c.ended.ensures (counted_ended c.args.tape.now c.args.at c.args.end c.in_ok-len.len c.in_ok-len.from c.in_ok-len.ensures.exact (omega arith))

pub returns-clause-exact : goal.returns-clause-exact
returns-clause-exact g c =
    counted_stands c.args.tape.now c.args.at c.args.end c.in_ok-len.len c.in_ok-len.from c.in_ok-len.ensures.exact (omega (arith, c.in_ok-len.ensures.spelled.within))
