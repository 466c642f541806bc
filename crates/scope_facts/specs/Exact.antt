-- A tree with exact scopes.
use Rattle.std.specs.Prelude.{ℕ, List, Option, Some, codes}
use Rattle.bast_schema.specs.Tree.{Tree}
use Rattle.string_table.specs.Entries.{place_in}
use Rattle.scope_facts.specs.Filled.{filled}
use Rattle.scope_facts.specs.Flagged.{flagged}

-- the name of the text eval, where a table of texts has it
abbrev pub eval_name : List (Option (List ℕ)) → Option ℕ
eval_name texts = place_in texts (Some (codes "eval"))

-- each scope has the entries of its declared names, in the order of the declaring nodes, and its flags are true exactly
-- where a use or a direct eval needs it
abbrev pub exact : List (Option (List ℕ)) → Tree → Tree
exact texts t = flagged (eval_name texts) (filled t)
