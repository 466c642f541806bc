-- What holds of every file that is written.
use Rattle.std.specs.Prelude.{◌≡◌, ◌<◌, ◌≤◌, ◌^◌, length, IsTrue}
use Rattle.std.specs.List.{AllByRecursion}
use Rattle.bast_schema.specs.declared.kind.Kind.TheVariants.{Script}
use Rattle.bast_schema.specs.Counts.{is_whole}
use Rattle.bast_schema.specs.Held.{Held}
use Rattle.bast_schema.specs.Tree.{Tree, kind_of, typed, depth}
use Rattle.bast_schema.specs.Eager.{is_eager}
use Rattle.container.specs.InFile.{InFile, IsEntry}
use Rattle.container.specs.Named.{named}
use Rattle.tree_encoder.specs.File.{file}

-- a script without windows and lazy kinds, whose names stand for texts
pub record IsNamedScript (h : Held) (t : Tree) : Type 0 where
  pub script : kind_of t ≡ Script
  pub typed : IsTrue (typed t)
  pub shallow : depth t ≤ 512
  pub whole : IsTrue (is_whole t)
  pub eager : IsTrue (is_eager t)
  pub named : IsTrue (named h t)
  pub texts : AllByRecursion IsEntry h.texts

-- its file is in the grammar of files and spells it, where the file's numbers have a spelling
abbrev pub FilesAreInGrammar : Type 0
FilesAreInGrammar = (h : Held) (t : Tree) → IsNamedScript h t → length (file h t) < 2 ^ 32 → InFile (file h t) h t
