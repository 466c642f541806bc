-- What a file spells, and its first fault.
use Rattle.std.specs.Prelude.{◌≡◌, ℕ, List, Option, Some, Result, Ok, Err}
use Rattle.bast_base.specs.declared.errors.FormatFault.{FormatFault}
use Rattle.bast_base.specs.declared.errors.Halt.{Halt}
use Rattle.bast_base.specs.declared.errors.Halt.TheVariants.{Memory, Format}
use Rattle.bast_schema.specs.Tree.{Tree}
use Rattle.container.specs.declared.layout.Layout.{Layout}
use Rattle.container.specs.Layout.{layout_of}
use Rattle.tree_decoder.specs.Outer.{tree_range}
use Rattle.tree_decoder.specs.Script.{IsScript, script_outcome}

-- the first fault of the tree, where there is one
abbrev pub tree_fault : List ℕ → Layout → Option FormatFault
tree_fault bytes l = (script_outcome (tree_range bytes l) l.from).fault

abbrev pub fault_in : List ℕ → Result Layout FormatFault → Option FormatFault
fault_in bytes (Err f) = Some f
fault_in bytes (Ok l) = tree_fault bytes l

-- the first fault of a file: that of its container, and else that of its tree
abbrev pub first_fault : List ℕ → Option FormatFault
first_fault bytes = fault_in bytes (layout_of bytes)

-- the container of a file, and the script that its tree's bytes spell
pub record IsFileOfScript (bytes : List ℕ) (l : Layout) (t : Tree) : Type 0 where
  pub container : layout_of bytes ≡ Ok l
  pub script : IsScript (tree_range bytes l) l.from t

-- the tree that a file spells over its texts
pub record IsTreeOf (bytes : List ℕ) (texts : List (Option (List ℕ))) (t : Tree) : Type 0 where
  pub layout : Layout
  pub file : IsFileOfScript bytes layout t
  pub texts_are : layout.strings ≡ texts

-- unless memory runs out, a file is read as its tree and its texts, or refused with its first fault
abbrev pub ReadsFile : List ℕ → Result (Tree × List (Option (List ℕ))) Halt → Type 0
ReadsFile bytes (Ok x) = IsTreeOf bytes x.1 x.0
ReadsFile bytes (Err Memory) = Unit {0}
ReadsFile bytes (Err (Format e)) = first_fault bytes ≡ Some e
