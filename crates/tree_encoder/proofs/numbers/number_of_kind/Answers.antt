use Rattle.std.proofs.Common.{Some, sym, ap, ◌∙◌}
use Rattle.bast_schema.specs.KindTable.{number_added}
use Rattle.bast_schema.specs.declared.table.Added.{Added}
use Rattle.tree_encoder.proofs.Stay.{kind_placed}
use Rattle.tree_encoder.proofs.numbers.number_of_kind.Goals as goal

pub returns-in-New-clause-number : goal.returns-in-New-clause-number
returns-in-New-clause-number c =
    rw c.in_ok-number.ensures.kinds (kind_placed c.args.kinds.now c.args.kind ∙ ap (λ (a : Added). Some (number_added a)) (sym c.in_ok-number.ensures.answer ∙ c.in-New.is))
