use Rattle.std.proofs.Common.{ap, ◌∙◌}
use Rattle.bast_schema.specs.View.{datum}
use Rattle.scope_facts.specs.Bare.{empty_fields}
use Rattle.scope_facts.proofs.Typed.{scope_kind, empty_made}
use Rattle.scope_facts.proofs.bare.empty_scope.Goals as goal

pub rebuilt-requires : goal.rebuilt-requires
rebuilt-requires c = empty_made _ _ (scope_kind _ _ _ (ap datum c.in-Node.is) c.kind-kind.ensures.kind c.requires) (c.in_ok-fields-in-Node.ensures ∙ ap empty_fields c.scope_shape.ensures)
