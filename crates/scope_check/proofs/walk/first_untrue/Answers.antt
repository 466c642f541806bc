use Rattle.std.proofs.Common.{arith, ap, ◌∙◌, None}
use Rattle.scope_facts.specs.Covers.{cover_of}
use Rattle.scope_check.specs.Least.{cover_start}
use Rattle.scope_check.specs.Untrue.{all_tell}
use Rattle.scope_check.proofs.Meaning.{first_found, first_none}
use Rattle.scope_check.proofs.Walks.{nodes_size}
use Rattle.scope_check.proofs.walk.first_untrue.Goals as goal

pub walk_node-requires-clause-numbers : goal.walk_node-requires-clause-numbers
walk_node-requires-clause-numbers c = omega (arith, c.requires, nodes_size c.args.tree.now)

pub returns-in-Found : goal.returns-in-Found
returns-in-Found c = first_found c.args.strings.now c.args.ctx.now c.args.tree.now (cover_of c.in_ok-covers.covers.items) c.name_of_eval-eval.result c.all_tell_eval.result _ c.in_ok-violation.field-0 c.in-Found.violation
    (λ x. c.in_ok-covers.ensures x ∙ ap (λ ss. cover_start ss x None) c.as_slice-scopes.ensures) c.name_of_eval-eval.ensures (c.all_tell_eval.ensures ∙ ap all_tell c.as_slice-scopes.ensures) c.in_ok-violation.ensures.step c.in-Found.is

pub returns : goal.returns
returns c = first_none c.args.strings.now c.args.ctx.now c.args.tree.now (cover_of c.in_ok-covers.covers.items) c.name_of_eval-eval.result c.all_tell_eval.result _ c.in-Next.field-0 c.in_ok-violation.field-0
    (λ x. c.in_ok-covers.ensures x ∙ ap (λ ss. cover_start ss x None) c.as_slice-scopes.ensures) c.name_of_eval-eval.ensures (c.all_tell_eval.ensures ∙ ap all_tell c.as_slice-scopes.ensures) c.in_ok-violation.ensures.step c.in-Next.is
