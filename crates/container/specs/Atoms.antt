-- A tree as the flat list of what is spelled of it, in preorder.
use Rattle.std.specs.Prelude.{ℕ, Bool, List, [], ◌∷◌, ◌++◌, Option, Some, None, get_or}
use Rattle.bast_schema.specs.declared.kind.Kind.{Kind}
use Rattle.bast_schema.specs.declared.kind.Kind.TheVariants.{Null}
use Rattle.bast_schema.specs.declared.kind.FieldType.{FieldType}
use Rattle.bast_schema.specs.declared.kind.FieldType.TheVariants as field
use Rattle.bast_schema.specs.declared.kind.Union.TheVariants.{Body}
use Rattle.bast_schema.specs.Choices.{choice_texts}
use Rattle.bast_schema.specs.Fields.{fields}
use Rattle.bast_schema.specs.Held.{Held, text_of, bytes_of}
use Rattle.bast_schema.specs.Tree as tree
use Rattle.bast_schema.specs.Tree.{Tree, Datum, Data, branch, none, more}

-- what is spelled as one: a text that is None is the absent string
pub data Atom : Type 0 where
  kind : Kind → Atom
  count : ℕ → Atom
  flag : Bool → Atom
  index : ℕ → Atom
  whole : ℕ → Atom
  text : Option (List ℕ) → Atom
  window : List ℕ → Atom

-- the text of a choice
abbrev pub chosen : FieldType → ℕ → Option (List ℕ)
chosen (field.Choice set) n = Some (get_or (choice_texts set) n [])
chosen _ n = None

-- A node is its kind and its fields, an absent node is a kind of its own, and a list is its count and its items.
abbrev mutual
  pub atoms : Held → Tree → List Atom
  atoms h (branch k ds) = kind k ∷ atoms_of_fields h (fields k) ds

  pub atoms_of_fields : Held → List FieldType → Data → List Atom
  atoms_of_fields h (t ∷ ts) (more d ds) = atoms_of h t d ++ atoms_of_fields h ts ds
  atoms_of_fields h _ _ = []

  pub atoms_of : Held → FieldType → Datum → List Atom
  atoms_of h t (tree.child c) = atoms h c
  atoms_of h t tree.absent = kind Null ∷ []
  atoms_of h t (tree.listed ds) = count (tree.count ds) ∷ atoms_of_items h ds
  atoms_of h t (tree.flag b) = flag b ∷ []
  atoms_of h t (tree.index n) = index n ∷ []
  atoms_of h t (tree.whole n) = whole n ∷ []
  atoms_of h t (tree.name n) = text (text_of h n) ∷ []
  atoms_of h t tree.no_name = text None ∷ []
  atoms_of h t (tree.choice n) = text (chosen t n) ∷ []
  atoms_of h t (tree.window from to) = window (bytes_of h from to) ∷ []

  -- items are nodes, or absent
  pub atoms_of_items : Held → Data → List Atom
  atoms_of_items h none = []
  atoms_of_items h (more d ds) = atoms_of h (field.Optional Body) d ++ atoms_of_items h ds
