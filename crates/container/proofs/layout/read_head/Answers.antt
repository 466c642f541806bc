use Rattle.std.proofs.Common.{codes, sym, ◌∙◌}
use Rattle.std.proofs.lemmas.Result.{err_from_is_err_and}
use Rattle.bast_base.specs.declared.errors.Why.TheVariants.{BadMagic}
use Rattle.container.specs.Parts.{fixed_at, version_at}
use Rattle.container.proofs.Answered.{answered}
use Rattle.container.proofs.Counted.{version_fails, version_other, version_stands}
use Rattle.container.proofs.layout.read_head.Goals as goal

pub returns-in_err-found-clause-exact : goal.returns-in_err-found-clause-exact
returns-in_err-found-clause-exact g c =
    let r = err_from_is_err_and c.from_residual-in_err-found.result c.from_residual-in_err-found.ensures.1 in
    let e = answered (fixed_at c.args.tape.now (codes "BINJS") BadMagic 0) (version_at c.args.tape.now) c.in_ok-at.at (sym c.in_ok-at.ensures.exact) in
    rw (r.1, r.2) (sym (e ∙ version_fails c.args.tape.now c.in_ok-at.at _ (rw c.len.ensures.count at c.in_err-found.ensures.exact)))

pub returns-then-found-ne-VERSION-clause-exact : goal.returns-then-found-ne-VERSION-clause-exact
returns-then-found-ne-VERSION-clause-exact g c =
    let e = answered (fixed_at c.args.tape.now (codes "BINJS") BadMagic 0) (version_at c.args.tape.now) c.in_ok-at.at (sym c.in_ok-at.ensures.exact) in
    sym (e ∙ version_other c.args.tape.now c.in_ok-at.at c.in_ok-found.found c.in_ok-found.next (rw c.len.ensures.count at c.in_ok-found.ensures.exact) c.if-found-ne-VERSION.true)

pub returns-clause-exact : goal.returns-clause-exact
returns-clause-exact g c =
    let e = answered (fixed_at c.args.tape.now (codes "BINJS") BadMagic 0) (version_at c.args.tape.now) c.in_ok-at.at (sym c.in_ok-at.ensures.exact) in
    sym (e ∙ version_stands c.args.tape.now c.in_ok-at.at c.in_ok-found.found c.in_ok-found.next (rw c.len.ensures.count at c.in_ok-found.ensures.exact) c.if-found-ne-VERSION.false)
