use Rattle.std.proofs.Common.{◌+◌, ◌∷◌, length, drop, subst, sym, ap, ◌∙◌, arith}
use Rattle.std.proofs.lemmas.Result.{err_from_is_err_and}
use Rattle.std.proofs.lemmas.List.{drop_all}
use Rattle.js_machine.specs.Lookahead.{seen}
use Rattle.js_machine.specs.Machine.{start}
use Rattle.js_machine.proofs.Runs.{Reaches, front_token, refused, reaches_next, reaches_end}
use Rattle.js_machine.proofs.derivation.derive.Goals as goal

pub returns-in_err-take-clause-stopped : goal.returns-in_err-take-clause-stopped
returns-in_err-take-clause-stopped c =
    let text = c.args.text.now in
    let all = c.args.tokens.now in
    let here = subst (λ ts. Reaches (length text) (seen text all) start ts c.loop-token.machine) (ap (seen text) (front_token all c.loop-token.token-index _ c.loop-token-test.true) ∙ ap (λ t. t ∷ seen text (drop (c.loop-token.token-index + 1) all)) (sym c.look_at.ensures)) c.loop-token.invariant in
    let p = err_from_is_err_and c.from_residual-in_err-take.result c.from_residual-in_err-take.ensures.1 in
    rw (p.1, p.2) (refused (length text) (seen text all) start _ _ c.loop-token.machine c.in_err-take.field-0.0 here c.in_err-take.ensures.stopped)

pub loop-token-preserved : goal.loop-token-preserved
loop-token-preserved c =
    let text = c.args.text.now in
    let all = c.args.tokens.now in
    let here = subst (λ ts. Reaches (length text) (seen text all) start ts c.loop-token.machine) (ap (seen text) (front_token all c.loop-token.token-index _ c.loop-token-test.true) ∙ ap (λ t. t ∷ seen text (drop (c.loop-token.token-index + 1) all)) (sym c.look_at.ensures)) c.loop-token.invariant in
    reaches_next (length text) (seen text all) start _ _ c.loop-token.machine c.take.new.self here c.in_ok-take.ensures.passed

pub returns-in-Ok-clause-accepted : goal.returns-in-Ok-clause-accepted
returns-in-Ok-clause-accepted c =
    let text = c.args.text.now in
    let all = c.args.tokens.now in
    let over = ap (seen text) (drop_all c.loop-token.token-index all (omega (arith, c.loop-token-test.false))) in
    reaches_end (length text) (seen text all) start c.loop-token.machine _ (subst (λ ts. Reaches (length text) (seen text all) start ts c.loop-token.machine) over c.loop-token.invariant) c.in-Ok.ensures.accepted

pub returns-in-Err-clause-stopped : goal.returns-in-Err-clause-stopped
returns-in-Err-clause-stopped c =
    let text = c.args.text.now in
    let all = c.args.tokens.now in
    let over = ap (seen text) (drop_all c.loop-token.token-index all (omega (arith, c.loop-token-test.false))) in
    reaches_end (length text) (seen text all) start c.loop-token.machine _ (subst (λ ts. Reaches (length text) (seen text all) start ts c.loop-token.machine) over c.loop-token.invariant) c.in-Err.ensures.stopped
