-- Trees that are written atom by atom, while the tables grow.
use Rattle.std.specs.Prelude.{◌≡◌, ℕ, ◌<◌, ◌≤◌, ◌^◌, false, List, ◌∷◌, [], ◌++◌, Option, Some, Result, Ok, Err, length, slice_get, get_or, None}
use Rattle.std.specs.List.{AllByRecursion}
use Rattle.bast_schema.specs.Fields.{has_lazy}
use Rattle.bast_schema.specs.Held.{Held}
use Rattle.bast_schema.specs.Tree as tree
use Rattle.bast_schema.specs.Tree.{Data}
use Rattle.container.specs.Atoms.{Atom, kind, count, whole, window, atoms_of_items}
use Rattle.container.specs.SpelledAtom.{spelled_atom}
use Rattle.container.specs.Tables.{Tables}
use Rattle.string_table.specs.Entries.{place_in}
use Rattle.tree_encoder.specs.declared.fault.EncodeFault.{EncodeFault}
use Rattle.tree_encoder.specs.declared.fault.EncodeFault.TheVariants.{Memory, TooLarge}
use Rattle.tree_encoder.specs.declared.writer.Writer.{Writer}
use Rattle.tree_encoder.specs.File.{with_atom, most_bytes}

-- what is spelled without a window, and has a spelling
abbrev pub IsPlain : Atom → Type 0
IsPlain (kind k) = has_lazy k ≡ false
IsPlain (whole n) = n < 2 ^ 53
IsPlain (window bytes) = ⊥
IsPlain _ = Unit {0}

abbrev pub AllPlain : List Atom → Type 0
AllPlain as' = AllByRecursion IsPlain as'

-- the tables and the bytes of the first atoms of a tree
pub record Written : Type 0 where
  pub tables : Tables
  pub bytes : List ℕ

abbrev pub with_bytes : Tables → List ℕ → Atom → Written
with_bytes s bytes a = record { tables = s; bytes = bytes ++ spelled_atom s a }

-- one atom more: what it uses stands in the tables before it is spelled
abbrev pub with_next : Written → Atom → Written
with_next w a = with_bytes (with_atom w.tables a) w.bytes a

abbrev pub written : Written → List Atom → Written
written w [] = w
written w (a ∷ as') = written (with_next w a) as'

-- a list is its count and its items
abbrev pub list_atoms : Held → Data → List Atom
list_atoms h ds = count (tree.count ds) ∷ atoms_of_items h ds

-- what a writer has written
abbrev pub so_far : Writer → Written
so_far w = record { tables = record { kinds = w.kinds; texts = w.texts }; bytes = w.bytes.items }

-- The atoms were written, or more bytes than a file may have would have been.
abbrev pub Puts : Written → List Atom → Written → Result (Unit {0}) EncodeFault → Type 0
Puts old as' new (Ok _) = new ≡ written old as'
Puts old as' new (Err TooLarge) = most_bytes < length (written old as').bytes
Puts old as' new (Err Memory) = Unit {0}

-- each number that is kept is the place of the text that the name stands for
pub record AreNumbers (strings texts : List (Option (List ℕ))) (numbers : List (Option ℕ)) : Type 0 where
  pub count : length numbers ≡ length strings
  pub known : (n place : ℕ) → slice_get numbers n ≡ Some (Some place) → place_in texts (get_or strings n None) ≡ Some place

-- what is true of each writer: each text in its table took a byte of the tree at least
pub record IsSound (strings : List (Option (List ℕ))) (w : Writer) : Type 0 where
  pub small : length w.bytes.items ≤ most_bytes
  pub few : length w.texts ≤ length w.bytes.items
  pub numbers : AreNumbers strings w.texts w.numbers.items
