-- What the values that are walked from the left stand for.
use Rattle.std.specs.Prelude.{Option, None, Some, ◌≡◌, Bool, true}
use Rattle.bast_schema.specs.Fields.{fields}
use Rattle.bast_schema.specs.Tree.{branch, Datum, child, absent, listed, flag, index, whole, name, no_name, choice, window, Data, none, more, count, fit}
use Rattle.bast_rows.specs.declared.siblings.Sibling.{Sibling}
use Rattle.bast_rows.specs.declared.siblings.Sibling.TheVariants as sibling

abbrev pub datum_of : {S : Type 0} → (S → Data) → Sibling S → Datum
datum_of f (sibling.Node k s) = child (branch k (f s))
datum_of f sibling.Absent = absent
datum_of f (sibling.List n s) = listed (f s)
datum_of f (sibling.Bool b) = flag b
datum_of f (sibling.Index n) = index n
datum_of f (sibling.Whole n) = whole n
datum_of f (sibling.Name n) = name n.0
datum_of f sibling.NoName = no_name
datum_of f (sibling.Choice n) = choice n
datum_of f (sibling.Window from to) = window from to

-- the values before the first was taken: that one, and those after it
abbrev pub before : {S : Type 0} → (S → Data) → Option (Sibling S) → Data → Data
before f None ds = none
before f (Some p) ds = more (datum_of f p) ds

-- a list's number is that of its values
abbrev pub Counts : {S : Type 0} → (S → Data) → Option (Sibling S) → Type 0
Counts f (Some (sibling.List n s)) = n ≡ count (f s)
Counts f _ = Unit {0}

-- whether the values of a node fit its fields
abbrev pub is_typed : {S : Type 0} → (S → Data) → Option (Sibling S) → Bool
is_typed f (Some (sibling.Node k s)) = fit (fields k) (f s)
is_typed f _ = true
