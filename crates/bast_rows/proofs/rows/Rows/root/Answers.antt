use Rattle.std.proofs.Common.{◌∙◌, ◌∷◌, sym, ap}
use Rattle.bast_schema.specs.Tree.{branch}
use Rattle.bast_rows.proofs.Whole.{behind_root}
use Rattle.bast_rows.proofs.rows.Rows.root.Goals as goal

pub of-requires : goal.of-requires
of-requires c = (behind_root _ _ _ _ (sym c.deref.ensures.value ∙ c.in-Some-Node-default.ensures.cases.0 ∙ ap (λ r. r ∷ c.in-Some-Node-default.rest.now) c.in-Some-Node-default.field-0-0-is) c.self.invariant).parts

pub returns-clause-tree : goal.returns-clause-tree
returns-clause-tree c =
    ap (branch c.in-Some-Node-default.kind) c.of.ensures
    ∙ (behind_root _ _ _ _ (sym c.deref.ensures.value ∙ c.in-Some-Node-default.ensures.cases.0 ∙ ap (λ r. r ∷ c.in-Some-Node-default.rest.now) c.in-Some-Node-default.field-0-0-is) c.self.invariant).tree
    ∙ c.self.view_is
