-- The script that a range of bytes spells, or its fault.
use Rattle.std.specs.Prelude.{ℕ, false, [], ◌∷◌, ◌≤◌, ◌≡◌, IsTrue, Some, None, Result, Ok, Err}
use Rattle.std.specs.List.{list_all}
use Rattle.bast_base.specs.declared.errors.Halt.{Halt}
use Rattle.bast_base.specs.declared.errors.Halt.TheVariants.{Memory, Format}
use Rattle.bast_schema.specs.declared.kind.FieldType.{FieldType}
use Rattle.bast_schema.specs.declared.kind.FieldType.TheVariants as field
use Rattle.bast_schema.specs.declared.kind.Kind.TheVariants.{Script}
use Rattle.bast_schema.specs.declared.kind.Union.TheVariants.{One}
use Rattle.bast_schema.specs.Tree.{Tree, typed, depth, kind_of}
use Rattle.container.specs.Atoms.{atoms}
use Rattle.container.specs.InFile.{has_atom}
use Rattle.container.specs.Spelled.{spelled}
use Rattle.tree_decoder.specs.Dues.{due}
use Rattle.tree_decoder.specs.Found.{stands}
use Rattle.container.specs.Folded.{folded}
use Rattle.tree_decoder.specs.Outcome.{Outcome, outcome_from}
use Rattle.tree_decoder.specs.Range.{Range, IsSound, held, left}
use Rattle.tree_decoder.specs.Windows.{windows}

abbrev pub script : FieldType
script = field.Node (One Script)

-- what comes of the bytes from a place on where a script is due
abbrev pub script_outcome : Range → ℕ → Outcome
script_outcome r at = outcome_from r (due script 1 false ∷ []) at

-- The bytes from a place on spell this script, and no others are left. Its names are places of texts, its windows ranges
-- of those bytes, and the contents of each lazy kind are a window.
pub record IsScript (r : Range) (at : ℕ) (t : Tree) : Type 0 where
  pub spelled : left r at ≡ spelled r.tables (held r) t
  pub kind : kind_of t ≡ Script
  pub typed : IsTrue (typed t)
  pub shallow : depth t ≤ 512
  pub stands : IsTrue (stands r t)
  pub has_all : IsTrue (list_all (has_atom r.tables) (atoms (held r) t))
  pub folded : IsTrue (folded t)
  pub outcome : script_outcome r at ≡ record { windows = windows t; fault = None }

-- a script that is read is the one that is spelled, and a fault is the first
abbrev pub ReadsScript : Range → ℕ → Result Tree Halt → Type 0
ReadsScript r at (Ok t) = IsScript r at t
ReadsScript r at (Err Memory) = Unit {0}
ReadsScript r at (Err (Format f)) = (script_outcome r at).fault ≡ Some f

-- where no fault is found from a place on, some script is spelled there
abbrev pub SomeScriptIsSpelled : Type 0
SomeScriptIsSpelled = (r : Range) (at : ℕ) → IsSound r → at ≤ r.end → (script_outcome r at).fault ≡ None → (t : Tree) × IsScript r at t
