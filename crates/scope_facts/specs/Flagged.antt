-- A tree with the entries that it has, and the flags of its scopes set where they are needed.
use Rattle.std.specs.Prelude.{ℕ, Bool, false, if◌then◌else◌, Option, None, Some}
use Rattle.bast_schema.specs.Tree.{Tree, branch, Datum, child, listed, flag, Data, none, more}
use Rattle.scope_facts.specs.Uses.{is_scope, first_name, crossed_in, evals_in}

-- values with the first flag among them set to this
abbrev pub with_flag : Bool → Data → Data
with_flag b none = none
with_flag b (more (flag c) ds) = more (flag b) ds
with_flag b (more d ds) = more d (with_flag b ds)

-- whether a name has a property, where there is a name
abbrev pub holds_of : (ℕ → Bool) → Option ℕ → Bool
holds_of c None = false
holds_of c (Some n) = c n

-- an entry, captured where c holds of its name
abbrev pub entry_by : (ℕ → Bool) → Datum → Datum
entry_by c (child (branch k ds)) = child (branch k (with_flag (holds_of c (first_name ds)) ds))
entry_by c d = d

abbrev pub entries_by : (ℕ → Bool) → Data → Data
entries_by c none = none
entries_by c (more d ds) = more (entry_by c d) (entries_by c ds)

abbrev pub fields_by : (ℕ → Bool) → Bool → Data → Data
fields_by c b (more (listed es) ds) = more (listed (entries_by c es)) (with_flag b ds)
fields_by c b ds = ds

-- a scope, its entries captured where c holds of their names, and b the flag of a direct eval
abbrev pub scope_by : (ℕ → Bool) → Bool → Datum → Datum
scope_by c b (child (branch k ds)) = child (branch k (fields_by c b ds))
scope_by c b d = d

-- an entry is captured where its name is used inside a function, and the use finds no other scope with an entry of it
-- on its way out to this scope; a scope has a direct eval where one stands in what it covers
abbrev pub flagged_scope : Option ℕ → Datum → Data → Datum
flagged_scope e d after = scope_by (λ x. crossed_in x after) (evals_in e after) d

-- where some name has the text eval, that is the name e
abbrev mutual
  pub flagged : Option ℕ → Tree → Tree
  flagged e (branch k ds) = branch k (flagged_in e ds)

  pub flagged_at : Option ℕ → Datum → Datum
  flagged_at e (child t) = child (flagged e t)
  flagged_at e (listed ds) = listed (flagged_among e ds)
  flagged_at e d = d

  pub flagged_in : Option ℕ → Data → Data
  flagged_in e none = none
  flagged_in e (more d ds) = more (if is_scope d then flagged_scope e d ds else flagged_at e d) (flagged_in e ds)

  pub flagged_among : Option ℕ → Data → Data
  flagged_among e none = none
  flagged_among e (more d ds) = more (flagged_at e d) (flagged_among e ds)
