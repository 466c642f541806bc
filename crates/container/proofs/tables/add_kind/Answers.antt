use Rattle.std.proofs.Common.{sym, ◌∙◌}
use Rattle.container.proofs.Named.{kind_unknown, kind_new, kind_there}
use Rattle.container.proofs.tables.add_kind.Goals as goal

pub returns-in_default : goal.returns-in_default
returns-in_default c = kind_unknown c.args.kinds.now c.args.name.now c.args.at (sym c.kind_of.ensures ∙ c.in_default.is)

pub returns-in-New : goal.returns-in-New
returns-in-New c =
    kind_new c.args.kinds.now c.args.name.now c.args.at _ c.in-Some.kind _ (sym c.in-Some.ensures) (sym c.in-New.is ∙ c.in_ok-add.ensures.answer) c.in_ok-add.ensures.kinds

pub returns-in-There : goal.returns-in-There
returns-in-There c =
    rw c.repeated.ensures (kind_there c.args.kinds.now c.args.name.now c.args.at c.in-There.first c.in-Some.kind (sym c.in-Some.ensures) (sym c.in-There.is ∙ c.in_ok-add.ensures.answer))
