-- The names of a tree, and the texts of a string table that they stand for.
use Rattle.std.specs.Prelude.{ℕ, Bool, List, [], get_or, Option, None, is_some}
use Rattle.std.specs.Option.{unwrap_or}
use Rattle.bast_schema.specs.NamesHold.{names_hold, names_hold_at, names_hold_in}
use Rattle.bast_schema.specs.Tree.{Tree, Datum, Data}

-- the text of a name
abbrev pub name_text : List (Option (List ℕ)) → ℕ → List ℕ
name_text texts n = unwrap_or (get_or texts n None) []

abbrev pub has_text : List (Option (List ℕ)) → ℕ → Bool
has_text texts n = is_some (get_or texts n None)

-- whether each name in a tree is a text of the table
abbrev pub is_named : List (Option (List ℕ)) → Tree → Bool
is_named texts t = names_hold (has_text texts) t

abbrev pub is_named_at : List (Option (List ℕ)) → Datum → Bool
is_named_at texts v = names_hold_at (has_text texts) v

abbrev pub is_named_in : List (Option (List ℕ)) → Data → Bool
is_named_in texts vs = names_hold_in (has_text texts) vs
