-- A tree with the entries of its scopes, and no flag set.
use Rattle.std.specs.Prelude.{ℕ, List, if◌then◌else◌}
use Rattle.bast_schema.specs.Tree.{Tree, branch, Datum, child, listed, Data, none, more}
use Rattle.scope_facts.specs.Roles.{shape_of}
use Rattle.scope_facts.specs.Uses.{is_scope}
use Rattle.scope_facts.specs.Names.{bound}
use Rattle.scope_facts.specs.Entries.{entries, flags}

abbrev pub filled_scope : List ℕ → Datum → Data → Datum
filled_scope names (child (branch k ds)) after = child (branch k (more (listed (entries (shape_of k) names after)) (flags (shape_of k) after)))
filled_scope names d after = d

abbrev mutual
  pub filled : Tree → Tree
  filled (branch k ds) = branch k (filled_in (bound ds) ds)

  pub filled_at : Datum → Datum
  filled_at (child t) = child (filled t)
  filled_at (listed ds) = listed (filled_among ds)
  filled_at d = d

  -- in the fields of a node whose values bind these names
  pub filled_in : List ℕ → Data → Data
  filled_in names none = none
  filled_in names (more d ds) = more (if is_scope d then filled_scope names d ds else filled_at d) (filled_in names ds)

  pub filled_among : Data → Data
  filled_among none = none
  filled_among (more d ds) = more (filled_at d) (filled_among ds)
