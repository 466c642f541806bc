-- The listing of a tree without windows: a line for each node and each field.
use Rattle.std.specs.Prelude.{ℕ, List, [], ◌∷◌, ◌++◌, ◌+◌, ◌*◌, min, replicate, codes, decimal, get_or, Option, if◌then◌else◌}
use Rattle.std.specs.List.{flat_map}
use Rattle.bast_schema.specs.declared.kind.FieldType.{FieldType}
use Rattle.bast_schema.specs.declared.kind.FieldType.TheVariants as field
use Rattle.bast_schema.specs.Choices.{choice_texts}
use Rattle.bast_schema.specs.Fields.{fields, field_names}
use Rattle.bast_schema.specs.Kinds.{kind_name}
use Rattle.bast_schema.specs.Tree.{Tree, branch, Datum, child, absent, listed as list_of, flag, index, whole, name, no_name, choice, Data, none, more, count}
use Rattle.js_printer.specs.Names.{name_text}
use Rattle.js_printer.specs.StringForm.{string_form}

-- a line: the depth at which it stands, and its text
pub record Line : Type 0 where
  pub depth : ℕ
  pub text : List ℕ

abbrev pub line : ℕ → List ℕ → Line
line d text = record { depth = d; text = text }

-- the spaces before a line: two for each level of depth, up to 16 levels
abbrev pub indent : ℕ → List ℕ
indent d = replicate (2 * min d 16) 32

-- a line as it stands in the listing
abbrev pub shown : Line → List ℕ
shown l = indent l.depth ++ l.text ++ codes "\n"

-- the lines, one after another
abbrev pub shown_all : List Line → List ℕ
shown_all = flat_map shown

-- the text of a choice of a field
abbrev pub chosen : FieldType → ℕ → List ℕ
chosen (field.Choice e) n = get_or (choice_texts e) n []
chosen _ n = []

-- a value that is neither a node nor a list
abbrev pub value_text : List (Option (List ℕ)) → FieldType → Datum → List ℕ
value_text texts t (flag b) = if b then codes "true" else codes "false"
value_text texts t (index n) = decimal n
value_text texts t (whole n) = decimal n
value_text texts t (name n) = string_form (name_text texts n)
value_text texts t no_name = codes "none"
value_text texts t (choice n) = string_form (chosen t n)
value_text texts t _ = []

abbrev mutual
  -- a node at a depth, whose line begins with a head: its kind, and its fields one deeper
  pub node_lines : List (Option (List ℕ)) → ℕ → List ℕ → Tree → List Line
  node_lines texts d head (branch k ds) = line d (head ++ kind_name k) ∷ fields_lines texts (d + 1) (fields k) (field_names k) ds

  pub fields_lines : List (Option (List ℕ)) → ℕ → List FieldType → List (List ℕ) → Data → List Line
  fields_lines texts d (t ∷ ts) (n ∷ ns) (more v ds) = field_lines texts d t n v ++ fields_lines texts d ts ns ds
  fields_lines texts d _ _ _ = []

  -- a field of a type, by its name and its value
  pub field_lines : List (Option (List ℕ)) → ℕ → FieldType → List ℕ → Datum → List Line
  field_lines texts d t n (child c) = node_lines texts d (n ++ codes ": ") c
  field_lines texts d t n absent = line d (n ++ codes ": none") ∷ []
  field_lines texts d t n (list_of ds) = line d (n ++ codes ": [" ++ decimal (count ds) ++ codes "]") ∷ items_lines texts (d + 1) ds
  field_lines texts d t n v = line d (n ++ codes " = " ++ value_text texts t v) ∷ []

  pub items_lines : List (Option (List ℕ)) → ℕ → Data → List Line
  items_lines texts d none = []
  items_lines texts d (more v ds) = item_lines texts d v ++ items_lines texts d ds

  -- an item of a list: a node, or a hole
  pub item_lines : List (Option (List ℕ)) → ℕ → Datum → List Line
  item_lines texts d (child c) = node_lines texts d [] c
  item_lines texts d _ = line d (codes "none") ∷ []

-- the listing of a tree, where the texts are those of a string table
abbrev pub listed : List (Option (List ℕ)) → Tree → List ℕ
listed texts t = shown_all (node_lines texts 0 [] t)
