-- A tree is a kind and a list of values.
use Rattle.std.specs.Prelude.{ℕ, Bool, true, false, List, [], ◌∷◌, ◌+◌, ◌&&◌, ◌||◌, max, not, nat_lt, suc, zero, length, ◌^◌, if◌then◌else◌, Option, None, Some}
use Rattle.bast_schema.specs.declared.kind.Kind.{Kind}
use Rattle.bast_schema.specs.declared.kind.Union.{Union}
use Rattle.bast_schema.specs.declared.kind.FieldType.{FieldType}
use Rattle.bast_schema.specs.declared.kind.FieldType.TheVariants as field
use Rattle.bast_schema.specs.Fields.{fields}
use Rattle.bast_schema.specs.Unions.{allowed}
use Rattle.bast_schema.specs.Choices.{choice_texts}
use Rattle.bast_schema.specs.Kinds.{counted}

mutual
  pub data Tree : Type 0 where
    branch : Kind → Data → Tree

  pub data Datum : Type 0 where
    child : Tree → Datum
    absent : Datum
    listed : Data → Datum
    flag : Bool → Datum
    index : ℕ → Datum
    whole : ℕ → Datum
    name : ℕ → Datum
    no_name : Datum
    choice : ℕ → Datum
    window : ℕ → ℕ → Datum

  pub data Data : Type 0 where
    none : Data
    more : Datum → Data → Data

abbrev pub is_none : Data → Bool
is_none none = true
is_none (more d ds) = false

abbrev pub kind_of : Tree → Kind
kind_of (branch k ds) = k

abbrev pub values_of : Tree → Data
values_of (branch k ds) = ds

-- how many values
abbrev pub count : Data → ℕ
count none = 0
count (more d ds) = suc (count ds)

-- the value at a place
abbrev pub value_at : Data → ℕ → Option Datum
value_at none i = None
value_at (more d ds) zero = Some d
value_at (more d ds) (suc i) = value_at ds i

-- the number of nodes
abbrev mutual
  pub nodes : Tree → ℕ
  nodes (branch k ds) = 1 + nodes_in ds

  pub nodes_at : Datum → ℕ
  nodes_at (child t) = nodes t
  nodes_at (listed ds) = nodes_in ds
  nodes_at _ = 0

  pub nodes_in : Data → ℕ
  nodes_in none = 0
  nodes_in (more d ds) = nodes_at d + nodes_in ds

-- the type of an item of a list
abbrev pub item_type : Union → Bool → FieldType
item_type u holes = if holes then field.Optional u else field.Node u

-- whether each value is of its field's type
abbrev mutual
  pub typed : Tree → Bool
  typed (branch k ds) = fit (fields k) ds

  pub fits : FieldType → Datum → Bool
  fits (field.Node u) (child t) = allowed u (kind_of t) && typed t
  fits (field.Optional u) (child t) = allowed u (kind_of t) && typed t
  fits (field.Optional u) absent = true
  fits (field.List u holes filled) (listed ds) = (not filled || not (is_none ds)) && items_fit u holes ds
  fits field.Bool (flag b) = true
  fits field.Index (index n) = nat_lt n (2 ^ 32)
  fits field.Whole (whole n) = nat_lt n (2 ^ 53)
  fits field.Text (name n) = true
  fits field.Name (name n) = true
  fits field.Label (name n) = true
  fits field.Label no_name = true
  fits (field.Choice e) (choice n) = nat_lt n (length (choice_texts e))
  fits (field.Lazy u) (child t) = allowed u (kind_of t) && typed t
  fits (field.Lazy u) (window from to) = true
  fits _ _ = false

  pub fit : List FieldType → Data → Bool
  fit [] none = true
  fit (t ∷ ts) (more d ds) = fits t d && fit ts ds
  fit _ _ = false

  pub items_fit : Union → Bool → Data → Bool
  items_fit u holes none = true
  items_fit u holes (more d ds) = fits (item_type u holes) d && items_fit u holes ds

-- the least field that is missing, too many or mistyped, where the first is number i
abbrev pub first_wrong : ℕ → List FieldType → Data → Option ℕ
first_wrong i [] none = None
first_wrong i (t ∷ ts) (more d ds) = if fits t d then first_wrong (i + 1) ts ds else Some i
first_wrong i _ _ = Some i

-- the largest number of counted nodes on a path from the root
abbrev mutual
  pub depth : Tree → ℕ
  depth (branch k ds) = (if counted k then 1 else 0) + depth_in ds

  pub depth_at : Datum → ℕ
  depth_at (child t) = depth t
  depth_at (listed ds) = depth_in ds
  depth_at _ = 0

  pub depth_in : Data → ℕ
  depth_in none = 0
  depth_in (more d ds) = max (depth_at d) (depth_in ds)

-- a number that is less in each part
abbrev mutual
  pub weight : Tree → ℕ
  weight (branch k ds) = 1 + weight_in ds

  pub weight_at : Datum → ℕ
  weight_at (child t) = 1 + weight t
  weight_at (listed ds) = 1 + weight_in ds
  weight_at _ = 0

  pub weight_in : Data → ℕ
  weight_in none = 0
  weight_in (more d ds) = 1 + weight_at d + weight_in ds
