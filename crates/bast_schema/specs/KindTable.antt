-- The kinds that a file names, each once.
use Rattle.std.specs.Prelude.{ℕ, List, [], ◌∷◌, ◌++◌, length, Option, None, Some}
use Rattle.std.specs.List.{position_from}
use Rattle.bast_schema.specs.declared.kind.Kind.{Kind}
use Rattle.bast_schema.specs.declared.table.Added.{Added}
use Rattle.bast_schema.specs.declared.table.Added.TheVariants.{New, There}
use Rattle.bast_schema.specs.Kinds.{same_kind}

-- the place of a kind in a list, where it stands there
abbrev pub place_of : List Kind → Kind → Option ℕ
place_of ks k = position_from (λ j. same_kind j k) 0 ks

abbrev pub answer_at : List Kind → Option ℕ → Added
answer_at ks (Some place) = There place
answer_at ks None = New (length ks)

abbrev pub joined_at : List Kind → Kind → Option ℕ → List Kind
joined_at ks k (Some place) = ks
joined_at ks k None = ks ++ k ∷ []

-- the place of a kind that is added
abbrev pub added_of : List Kind → Kind → Added
added_of ks k = answer_at ks (place_of ks k)

-- these kinds, and that one at the end unless it is there
abbrev pub with_kind : List Kind → Kind → List Kind
with_kind ks k = joined_at ks k (place_of ks k)

abbrev pub number_added : Added → ℕ
number_added (New n) = n
number_added (There n) = n
