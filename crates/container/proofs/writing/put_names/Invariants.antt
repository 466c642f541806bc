use Rattle.std.proofs.Common.{◌≡◌, ◌++◌, drop}
use Rattle.std.specs.Prelude.{flat_map}
use Rattle.bast_schema.specs.Kinds.{kind_name}
use Rattle.container.specs.Container.{counted}
use Rattle.container.proofs.writing.put_names.Given as goal

abbrev pub invariant-kinds : goal.invariant-kinds
invariant-kinds l =
    l.into.items ++ flat_map (λ k. counted (kind_name k)) (drop l.kind-index l.kinds) ≡ l.fn.into.items ++ flat_map (λ k. counted (kind_name k)) l.kinds
