use Rattle.std.proofs.Common.{◌≡◌, ℕ, length, arith, subst, sym, ◌∙◌}
use Rattle.container.proofs.Fixed.{Shared, stops_there, ends_there, stands_there}
use Rattle.container.proofs.parts.read_fixed.Given as given
use Rattle.container.proofs.parts.read_fixed.Goals as goal

pub returns-then-place-end-clause-exact : goal.returns-then-place-end-clause-exact
returns-then-place-end-clause-exact g c =
    rw (c.ended.ensures, c.len-end.ensures.count) (ends_there c.args.tape.now c.args.due.now c.args.why c.args.at c.due.byte-index c.due.place c.due.invariant.0 c.due-test.true (omega arith))

pub returns-then-byte-clause-exact : goal.returns-then-byte-clause-exact
returns-then-byte-clause-exact g c =
    stops_there c.args.tape.now c.args.due.now c.args.why c.args.at c.due.byte-index c.due.place c.due.invariant.0 c.due-test.true (omega arith)
    (λ same. c.if-byte.true (c.byte.ensures.value ∙ sym same))

whole : (g : given.Over) (c : goal.After-due g) → Shared c.args.tape.now c.args.due.now c.args.at (length c.args.due.now) c.due.place
whole g c =
    let all : c.due.byte-index ≡ length c.args.due.now = omega arith in
    subst (λ (i : ℕ). Shared c.args.tape.now c.args.due.now c.args.at i c.due.place) all c.due.invariant.0

pub returns-clause-exact : goal.returns-clause-exact
returns-clause-exact g c = stands_there c.args.tape.now c.args.due.now c.args.why c.args.at c.due.place (whole g c)
