-- What a scope says, judged against what it has to say.
use Rattle.std.specs.Prelude.{ℕ, Bool, true, false, ◌&&◌, ◌||◌, not, nat_eq, if◌then◌else◌, Option, None, Some, List, [], ◌∷◌, ◌++◌, option_to_list}
use Rattle.std.specs.List.{list_any}
use Rattle.std.specs.Option.{option_or}
use Rattle.bast_schema.specs.declared.kind.Kind.{Kind}
use Rattle.bast_schema.specs.declared.kind.Kind.TheVariants.{AssertedDeclaredName, AssertedPositionalParameterName, AssertedRestParameterName, AssertedBoundName}
use Rattle.bast_schema.specs.Tree.{Tree, branch, Datum, child, listed, flag, index, choice, Data, none, more}
use Rattle.scope_facts.specs.declared.roles.Shape.{Shape}
use Rattle.scope_facts.specs.declared.roles.Shape.TheVariants.{Parameters, Nothing}
use Rattle.scope_facts.specs.Roles.{shape_of}
use Rattle.scope_facts.specs.Uses.{first_name}
use Rattle.scope_facts.specs.Entries.{entries, is_simple}
use Rattle.scope_check.specs.declared.entries.Key.{Key}
use Rattle.scope_check.specs.declared.finding.Finding.{Finding}
use Rattle.scope_check.specs.declared.finding.Finding.TheVariants.{Fine, Wrong}

-- the kinds of entry, and every other kind
abbrev pub entry_sort : Kind → ℕ
entry_sort AssertedDeclaredName = 0
entry_sort AssertedPositionalParameterName = 1
entry_sort AssertedRestParameterName = 2
entry_sort AssertedBoundName = 3
entry_sort _ = 4

-- the place of a parameter, or the choice of a kind of name
abbrev pub entry_number : Data → ℕ
entry_number none = 0
entry_number (more (index i) ds) = i
entry_number (more (choice c) ds) = c
entry_number (more d ds) = entry_number ds

-- what an entry says, but for whether its name is captured
abbrev pub key_named : Kind → Data → Option ℕ → Option Key
key_named k ds None = None
key_named k ds (Some n) = Some (record { sort = entry_sort k; name = n; number = entry_number ds })

abbrev pub key_at : Datum → Option Key
key_at (child (branch k ds)) = key_named k ds (first_name ds)
key_at _ = None

abbrev pub keys : Data → List Key
keys none = []
keys (more d ds) = option_to_list (key_at d) ++ keys ds

-- the same entry, where kind, name and number are the same
abbrev pub same : Key → Key → Bool
same a b = nat_eq a.sort b.sort && (nat_eq a.name b.name && nat_eq a.number b.number)

abbrev pub is_among : List Key → Key → Bool
is_among ks a = list_any (same a) ks

-- the name of the first entry that is not wanted or was seen before
abbrev pub first_extra : (Key → Bool) → (Key → Bool) → List Key → Option ℕ
first_extra wanted seen [] = None
first_extra wanted seen (a ∷ ks) = if not (wanted a) || seen a then Some a.name else first_extra wanted (λ b. same b a || seen b) ks

-- the name of the first wanted entry that is not there
abbrev pub first_missing : (Key → Bool) → List Key → Option ℕ
first_missing there [] = None
first_missing there (a ∷ ks) = if there a then first_missing there ks else Some a.name

-- the name in which the entries differ, in any order, from those that are wanted
abbrev pub differing : List Key → List Key → Option ℕ
differing found wanted = option_or (first_extra (is_among wanted) (λ a. false) found) (first_missing (is_among found) wanted)

-- the entries that a scope has
abbrev pub said : Data → Data
said (more (listed es) ds) = es
said _ = none

-- whether a parameter scope says that its parameters are simple, behind its entries and the flag of a direct eval
abbrev pub says_simple : Data → Bool
says_simple (more es (more evals (more (flag simple) ds))) = simple
says_simple _ = false

-- a flag that has to be the other
abbrev pub flags_agree : Bool → Bool → Finding
flags_agree true true = Fine
flags_agree false false = Fine
flags_agree _ _ = Wrong None

-- of the flags of a scope only that of simple parameters follows from what stands after it
abbrev pub judged_flag : Shape → Data → Data → Finding
judged_flag Parameters ds after = flags_agree (says_simple ds) (is_simple after)
judged_flag _ ds after = Fine

abbrev pub judged : Option ℕ → Finding → Finding
judged (Some n) other = Wrong (Some n)
judged None other = other

abbrev pub says_by : Shape → List ℕ → Data → Data → Finding
says_by Nothing names ds after = Fine
says_by s names ds after = judged (differing (keys (said ds)) (keys (entries s names after))) (judged_flag s ds after)

-- what is wrong with a scope, from the names that the values of its node bind and from what stands after it
abbrev pub scope_says : List ℕ → Tree → Data → Finding
scope_says names (branch k ds) after = says_by (shape_of k) names ds after
