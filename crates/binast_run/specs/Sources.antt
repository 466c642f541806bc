-- What the program answers to a source.
use Rattle.std.specs.Prelude.{◌≡◌, ℕ, nat_le, List, [], length, Option, Some, None, Ok, if◌then◌else◌}
use Rattle.std.specs.Str.{IsUtf8}
use Rattle.std.specs.Str.Lossy.{utf8_valid_len}
use Rattle.bast_schema.specs.Tree.{Tree}
use Rattle.binast_run.specs.Answer.{Answer, output, refusal, most_bytes}
use Rattle.binast_run.specs.Lines.{large_file_line}
use Rattle.binast_run.specs.SourceLines.{fault_text, not_utf8_text, source_line, violation_text}
use Rattle.container.specs.InFile.{InFile}
use Rattle.early_errors.specs.Early.{early, first}
use Rattle.js_parser.specs.Source.{IsRefused, IsSource}
use Rattle.js_parser.specs.declared.source.SourceFault.{SourceFault}
use Rattle.js_parser.specs.declared.source.SourceFault.TheVariants as source
use Rattle.scope_facts.specs.declared.context.Violation.{Violation}
use Rattle.scope_facts.specs.Exact.{exact}
use Rattle.tree_encoder.specs.File.{file, texts_held}
use Rattle.violations.specs.Violations.{name_in, script}

-- the file of the tree with exact scopes
abbrev pub source_file : List (Option (List ℕ)) → Tree → List ℕ
source_file texts t = file (texts_held texts) (exact texts t)

-- a file, unless it is too large
abbrev pub file_answer : List ℕ → Answer
file_answer bytes = if nat_le (length bytes) most_bytes then output bytes else refusal large_file_line

-- the first early error of a tree, or else its file
abbrev pub early_answer : List (Option (List ℕ)) → Tree → Option Violation → Answer
early_answer texts t (Some v) = refusal (source_line (violation_text v (name_in texts v)))
early_answer texts t None = file_answer (source_file texts t)

abbrev pub tree_answer : List (Option (List ℕ)) → Tree → Answer
tree_answer texts t = early_answer texts t (first (early texts script t))

-- a file that is answered is in the grammar of files, and spells the tree with exact scopes
abbrev pub IsSpelled : List (Option (List ℕ)) → Tree → Answer → Type 0
IsSpelled texts t a = a.status ≡ 0 → InFile (source_file texts t) (texts_held texts) (exact texts t)

-- The answer to a source: why it is no text, why the text has no tree, or what its tree comes to.
pub data AnswersSource (input : List ℕ) : Answer → Type 0 where
  no_text : (IsUtf8 input → ⊥) → AnswersSource input (refusal (source_line (not_utf8_text (utf8_valid_len input))))
  no_tree : (fault : SourceFault) (texts : List (Option (List ℕ))) → IsUtf8 input → (fault ≡ source.Memory → ⊥) → IsRefused input [] texts fault
      → AnswersSource input (refusal (source_line (fault_text fault)))
  has_tree : (texts : List (Option (List ℕ))) (t : Tree) → IsUtf8 input → IsSource input [] texts (Ok t) → IsSpelled texts t (tree_answer texts t)
      → AnswersSource input (tree_answer texts t)
