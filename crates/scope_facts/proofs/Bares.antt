-- A walk over parameters.
use Rattle.std.proofs.Common.{List, [], ◌∷◌, ◌≡◌, refl, ap, ◌&&◌}
use Rattle.std.specs.List.{list_all}
use Rattle.bast_schema.specs.View.{datum, data_of}
use Rattle.bast_schema.specs.declared.node.Value.{Value}
use Rattle.scope_facts.specs.Entries.{is_bare, all_bare}

pub all_bare_data_of : (vs : List Value) → all_bare (data_of vs) ≡ list_all (λ v. is_bare (datum v)) vs
all_bare_data_of [] = refl
all_bare_data_of (v ∷ vs) = ap (λ b. is_bare (datum v) && b) (all_bare_data_of vs)
