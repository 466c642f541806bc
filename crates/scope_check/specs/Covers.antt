-- What a walk knows of the names at a place, name by name: the innermost scope with entries of the name that covers the
-- place, captured if all its entries of the name are.
use Rattle.std.specs.Prelude.{ℕ, Bool, true, false, ◌&&◌, ◌||◌, ◌++◌, not, nat_eq, nat_lt, if◌then◌else◌, Option, None, Some, List, [], ◌∷◌}
use Rattle.std.specs.List.{list_any, list_all}
use Rattle.bast_schema.specs.Tree.{branch, Datum, child, listed, Data, none, more}
use Rattle.scope_facts.specs.Frames.{is_captured}
use Rattle.scope_facts.specs.Uses.{first_name}
use Rattle.scope_facts.specs.declared.context.FactName.{FactName}
use Rattle.scope_facts.specs.declared.covers.Cover.{Cover}

-- whether a use inside so many functions may have this entry as its nearest declaration
abbrev pub is_fine : ℕ → Option Cover → Bool
is_fine now None = true
is_fine now (Some e) = e.captured || not (nat_lt e.function now)

abbrev pub is_fact : ℕ → FactName → Bool
is_fact x f = nat_eq f.name.0 x

-- whether one of the entries is of the name, and whether all that are of it are captured
abbrev pub has_fact : ℕ → List FactName → Bool
has_fact x fs = list_any (is_fact x) fs

abbrev pub all_caught : ℕ → List FactName → Bool
all_caught x fs = list_all (λ f. not (is_fact x f) || f.captured) fs

-- the cover of a name inside a scope with these entries, and inside so many functions
abbrev pub entered : ℕ → List FactName → ℕ → Option Cover → Option Cover
entered now fs x o = if has_fact x fs then Some (record { function = now; captured = all_caught x fs }) else o

-- what the entries that aren't captured make of the cover of a name, one after the other
abbrev pub marked : ℕ → List FactName → ℕ → Option Cover → Option Cover
marked now [] x o = o
marked now (f ∷ fs) x o = marked now fs x (if not f.captured && is_fact x f then Some (record { function = now; captured = false }) else o)

-- the entries of a scope
abbrev pub facts_named : Option ℕ → Data → List FactName
facts_named None ds = []
facts_named (Some x) ds = record { name = record { 0 = x }; captured = is_captured ds } ∷ []

abbrev pub facts_at : Datum → List FactName
facts_at (child (branch k ds)) = facts_named (first_name ds) ds
facts_at _ = []

abbrev pub facts_among : Data → List FactName
facts_among none = []
facts_among (more d ds) = facts_at d ++ facts_among ds

abbrev pub facts_in : Data → List FactName
facts_in (more (listed es) ds) = facts_among es
facts_in _ = []

abbrev pub facts_of : Datum → List FactName
facts_of (child (branch k ds)) = facts_in ds
facts_of _ = []
