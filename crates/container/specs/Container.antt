-- The container: two tables and a tree's bytes in three named sections.
use Rattle.std.specs.Prelude.{ℕ, List, [], ◌∷◌, ◌++◌, length, flat_map, codes, Option, Some, None}
use Rattle.var_numbers.specs.Varnum.{varnum}
use Rattle.bast_schema.specs.declared.kind.Kind.{Kind}
use Rattle.bast_schema.specs.Kinds.{kind_name}
use Rattle.container.specs.Tables.{Tables}

-- bytes behind their length
abbrev pub counted : List ℕ → List ℕ
counted bytes = varnum (length bytes) ++ bytes

abbrev pub section : List ℕ → List ℕ → List ℕ
section title content = title ++ codes "identity;" ++ counted content

-- the content of the section of kinds: their number, and the name of each
abbrev pub grammar : List Kind → List ℕ
grammar kinds = varnum (length kinds) ++ flat_map (λ k. counted (kind_name k)) kinds

-- two bytes that are no text stand for the absent string
abbrev pub entry_bytes : Option (List ℕ) → List ℕ
entry_bytes (Some bytes) = bytes
entry_bytes None = 0xFF ∷ 0 ∷ []

-- the content of the section of texts
abbrev pub strings : List (Option (List ℕ)) → List ℕ
strings texts = varnum (length texts) ++ flat_map (λ entry. counted (entry_bytes entry)) texts

-- the container over two tables and a tree's bytes
unfoldable pub container : Tables → List ℕ → List ℕ
container s tree =
    codes "BINJS" ++ varnum 1
    ++ section (codes "[GRAMMAR]") (grammar s.kinds)
    ++ section (codes "[STRINGS]") (strings s.texts)
    ++ section (codes "[TREE]") tree
