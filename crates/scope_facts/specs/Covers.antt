-- What a walk knows of the names at a place, name by name: the innermost entry that covers the place.
use Rattle.std.specs.Prelude.{ℕ, Bool, true, false, ◌&&◌, ◌||◌, ◌++◌, ◌≡◌, ◌+◌, not, nat_eq, nat_lt, if◌then◌else◌, Option, None, Some, List, [], ◌∷◌, get_or, option_to_list}
use Rattle.std.specs.List.{list_any}
use Rattle.bast_schema.specs.Tree.{branch, Datum, child, listed, Data, none, more}
use Rattle.scope_facts.specs.Uses.{first_name}
use Rattle.scope_facts.specs.declared.roles.Part.{Part}
use Rattle.scope_facts.specs.declared.roles.Part.TheVariants.{Function}
use Rattle.scope_facts.specs.declared.covers.Cover.{Cover}
use Rattle.scope_facts.specs.declared.covers.Shadow.{Shadow}

abbrev pub cover_of : List (Option Cover) → ℕ → Option Cover
cover_of cs x = get_or cs x None

-- what a piece of a program leaves of a cover: u says whether it uses the name, c whether inside a function, and now
-- how many functions are around the piece
abbrev pub touched : Bool → Bool → ℕ → Option Cover → Option Cover
touched u c now None = None
touched u c now (Some e) = Some (record { function = e.function; captured = e.captured || (c || (u && nat_lt e.function now)) })

abbrev pub is_caught : Option Cover → Bool
is_caught None = false
is_caught (Some e) = e.captured

-- whether an entry stands in one of so many functions
abbrev pub is_within : ℕ → Option Cover → Bool
is_within now None = true
is_within now (Some e) = not (nat_lt now e.function)

pub record AreWithin (now : ℕ) (cs : List (Option Cover)) : Type 0 where
  pub all : (x : ℕ) → is_within now (cover_of cs x) ≡ true

abbrev pub has_name : ℕ → List ℕ → Bool
has_name x ns = list_any (λ n. nat_eq n x) ns

abbrev pub entry_name : Datum → Option ℕ
entry_name (child (branch k ds)) = first_name ds
entry_name _ = None

abbrev pub names_among : Data → List ℕ
names_among none = []
names_among (more d ds) = option_to_list (entry_name d) ++ names_among ds

-- the names of the entries of a scope
abbrev pub entry_names_in : Data → List ℕ
entry_names_in (more (listed es) ds) = names_among es
entry_names_in _ = []

abbrev pub entry_names : Datum → List ℕ
entry_names (child (branch k ds)) = entry_names_in ds
entry_names _ = []

-- the cover of a name once what was kept is put back, the last that was kept first
abbrev pub restored : List Shadow → ℕ → Option Cover → Option Cover
restored [] x o = o
restored (a ∷ others) x o = if nat_eq a.name x then a.cover else restored others x o

-- what is kept of names, where f tells the cover of each
abbrev pub shadows_among : (ℕ → Option Cover) → List ℕ → List Shadow
shadows_among f [] = []
shadows_among f (n ∷ ns) = record { name = n; cover = f n } ∷ shadows_among f ns

-- how many functions are around what is inside a node
abbrev pub inside_now : Part → ℕ → ℕ
inside_now Function now = now + 1
inside_now _ now = now

-- what a piece of a program does to all covers
pub record Touches (u c : ℕ → Bool) (now : ℕ) (old new : List (Option Cover)) : Type 0 where
  pub all : (x : ℕ) → cover_of new x ≡ touched (u x) (c x) now (cover_of old x)
