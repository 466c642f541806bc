-- What holds of every answer.
use Rattle.std.specs.Prelude.{◌≡◌, ℕ, ◌<◌, ◌≤◌, List, [], length, Option, Ok}
use Rattle.std.specs.List.{All}
use Rattle.bast_schema.specs.Tree.{Tree}
use Rattle.binast_run.specs.declared.command.Command.{Command}
use Rattle.binast_run.specs.Answer.{Answer, most_bytes, output}
use Rattle.binast_run.specs.FileAnswers.{AnswersFile}
use Rattle.binast_run.specs.Result.{AnswersInput}
use Rattle.binast_run.specs.Sources.{AnswersSource}
use Rattle.js_parser.specs.Source.{IsSource}
use Rattle.scope_facts.specs.Exact.{exact}
use Rattle.scope_facts.specs.Renamed.{IsInjective, renamed}
use Rattle.tree_decoder.specs.FileLaws.{IsSoundFile}
use Rattle.tree_decoder.specs.SameTree.{IsSameTree}
use Rattle.tree_decoder.specs.WholeReading.{IsWhole, whole}
use Rattle.tree_encoder.specs.File.{texts_held}

-- an input has one answer of each command
abbrev pub InputsHaveOneAnswer : Type 0
InputsHaveOneAnswer = (command : Command) (input : List ℕ) (a b : Answer) → AnswersInput command input a → AnswersInput command input b → a ≡ b

-- and it has one, where it is not too long
abbrev pub InputsHaveAnAnswer : Type 0
InputsHaveAnAnswer = (command : Command) (input : List ℕ) → length input ≤ most_bytes → All (λ byte. byte < 256) input → (a : Answer) × AnswersInput command input a

-- The answer to a file is an output exactly where the file is in the grammar, and spells a tree without lazy functions in
-- which no rule fails: it is then the output of that tree.
pub record IsOutputExactly (bytes : List ℕ) (text : List (Option (List ℕ)) → Tree → List ℕ) (a : Answer) : Type 0 where
  pub of_tree : a.status ≡ 0 → (texts : List (Option (List ℕ))) × (t : Tree) × IsSoundFile bytes texts t × (a ≡ output (text texts t))
  pub only : (texts : List (Option (List ℕ))) (t : Tree) → IsSoundFile bytes texts t → a ≡ output (text texts t)

abbrev pub FilesAreAnsweredExactly : Type 0
FilesAreAnsweredExactly =
    (bytes : List ℕ) (text : List (Option (List ℕ)) → Tree → List ℕ) (a : Answer) → length bytes ≤ most_bytes → All (λ byte. byte < 256) bytes
    → AnswersFile bytes text a → IsOutputExactly bytes text a

-- The tree is the exact tree of a source's tree, with a file's numbers for its names: it is the same as the exact tree over
-- the source's own texts but for these numbers.
pub record IsExactTreeOf (input bytes : List ℕ) (strings : List (Option (List ℕ))) (u : Tree) : Type 0 where
  pub texts : List (Option (List ℕ))
  pub tree : Tree
  pub number : ℕ → ℕ
  pub source : IsSource input [] texts (Ok tree)
  pub apart : IsInjective number
  pub is : u ≡ exact strings (renamed number tree)
  pub same : IsSameTree (record { texts = strings; tape = bytes }) (texts_held texts) u (exact texts tree)

-- the file is read whole, as the exact tree of the source's tree: it breaks no rule, and its scopes say nothing untrue
pub record IsReadBack (input bytes : List ℕ) : Type 0 where
  pub strings : List (Option (List ℕ))
  pub read : Tree
  pub whole : IsWhole bytes (whole strings read)
  pub exact : IsExactTreeOf input bytes strings read

-- what a source is encoded to is read back
abbrev pub EncodedFilesAreReadBack : Type 0
EncodedFilesAreReadBack = (input bytes : List ℕ) → All (λ byte. byte < 256) bytes → AnswersSource input (output bytes) → IsReadBack input bytes
