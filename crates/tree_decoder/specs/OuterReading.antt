-- The outer reading of a file, which looks into no window.
use Rattle.std.specs.Prelude.{◌≡◌, ℕ, ◌-◌, List, [], length, Option, Some, None, Result, Ok, Err}
use Rattle.bast_base.specs.declared.errors.FormatFault.{FormatFault}
use Rattle.bast_schema.specs.Tree.{Tree}
use Rattle.container.specs.declared.layout.Layout.{Layout}
use Rattle.container.specs.Layout.{layout_of}
use Rattle.scope_facts.specs.declared.context.Violation.{Violation}
use Rattle.tree_decoder.specs.Outer.{tree_range}
use Rattle.tree_decoder.specs.Reading.{first_fault, IsTreeOf}
use Rattle.tree_decoder.specs.Script.{script_outcome}
use Rattle.tree_decoder.specs.Windows.{skipped}
use Rattle.violations.specs.Violations.{first_violation, script}

-- what it comes to: the first fault, the first violation of the tree over the file's texts, or the texts and the tree
pub data Outer : Type 0 where
  faulty : FormatFault → Outer
  violated : List (Option (List ℕ)) → Violation → Outer
  accepted : List (Option (List ℕ)) → Tree → Outer

abbrev pub IsOuter : List ℕ → Outer → Type 0
IsOuter bytes (faulty f) = first_fault bytes ≡ Some f
IsOuter bytes (violated texts v) = (t : Tree) × IsTreeOf bytes texts t × (first_violation texts script t ≡ Some v)
IsOuter bytes (accepted texts t) = IsTreeOf bytes texts t × (first_violation texts script t ≡ None)

-- the windows that are passed before the end of the tree or its first fault; a file with a fault in its container has none
abbrev pub windows_in : List ℕ → Result Layout FormatFault → List (ℕ × ℕ)
windows_in bytes (Ok l) = (script_outcome (tree_range bytes l) l.from).windows
windows_in bytes (Err f) = []

-- how many bytes stand outside of these windows
abbrev pub outside_windows : List ℕ → ℕ
outside_windows bytes = length bytes - skipped (windows_in bytes (layout_of bytes))
