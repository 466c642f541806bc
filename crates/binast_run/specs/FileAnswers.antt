-- What the program answers to a file.
use Rattle.std.specs.Prelude.{◌≡◌, ℕ, List, ◌++◌, codes, Option}
use Rattle.bast_schema.specs.Tree.{Tree}
use Rattle.binast_run.specs.Answer.{Answer, output, refusal}
use Rattle.binast_run.specs.Lines.{fault_line, not_yet_line}
use Rattle.binast_run.specs.SourceLines.{violation_text}
use Rattle.binast_run.specs.Status.{line}
use Rattle.scope_facts.specs.declared.context.Violation.{Violation}
use Rattle.tree_decoder.specs.WholeReading.{Whole, faulty, not_yet, violated, whole, IsWhole}
use Rattle.tree_decoder.specs.declared.files.ReadRefusal.{ReadRefusal}
use Rattle.tree_decoder.specs.declared.files.ReadRefusal.TheVariants as refusals
use Rattle.violations.specs.Violations.{name_in}

-- the line of a file of whose tree a rule does not hold, with the text of the violation's name
abbrev pub file_violation_line : Violation → Option (List ℕ) → List ℕ
file_violation_line v name = line (codes "file: " ++ violation_text v name)

-- what a whole reading comes to, where `text` makes the output of a tree over its texts
abbrev pub answer_of : (List (Option (List ℕ)) → Tree → List ℕ) → Whole → Answer
answer_of text (faulty f) = refusal (fault_line f)
answer_of text (not_yet n) = refusal (not_yet_line n)
answer_of text (violated texts v) = refusal (file_violation_line v (name_in texts v))
answer_of text (whole texts t) = output (text texts t)

-- the answer to a file: what its whole reading comes to
abbrev pub AnswersFile : List ℕ → (List (Option (List ℕ)) → Tree → List ℕ) → Answer → Type 0
AnswersFile bytes text a = (w : Whole) × IsWhole bytes w × (a ≡ answer_of text w)

-- the line that tells a refusal; want of memory has none
abbrev pub RefusesFile : ReadRefusal → List ℕ → Type 0
RefusesFile refusals.Memory text = ⊥
RefusesFile (refusals.Format f) text = text ≡ fault_line f
RefusesFile (refusals.NotYet n) text = text ≡ not_yet_line n
RefusesFile (refusals.Check v name) text = text ≡ file_violation_line v name
