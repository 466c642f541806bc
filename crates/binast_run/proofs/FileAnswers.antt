-- The answers to a file, and that it has one.
use Rattle.std.proofs.Common.{◌≡◌, ℕ, ◌<◌, ◌≤◌, List, length, Option, Some, None, Result, Ok, Err, IfOk, refl, sym, ap, ◌∙◌, arith}
use Rattle.std.specs.List.{All}
use Rattle.bast_base.specs.declared.errors.FormatFault.{FormatFault}
use Rattle.bast_schema.specs.Tree.{Tree}
use Rattle.binast_run.specs.Answer.{Answer, most_bytes, output, refusal}
use Rattle.binast_run.specs.FileAnswers.{answer_of, AnswersFile, RefusesFile}
use Rattle.binast_run.specs.Laws.{IsOutputExactly}
use Rattle.scope_facts.specs.declared.context.Violation.{Violation}
use Rattle.tree_decoder.specs.FileLaws.{IsSoundFile}
use Rattle.tree_decoder.specs.LazyKinds.{first_lazy}
use Rattle.tree_decoder.specs.Reading.{first_fault, IsTreeOf}
use Rattle.tree_decoder.specs.WholeReading.{Whole, faulty, not_yet, violated, whole, IsWhole, Decodes}
use Rattle.tree_decoder.specs.declared.files.ReadRefusal.{ReadRefusal}
use Rattle.tree_decoder.specs.declared.files.ReadRefusal.TheVariants as refusals
use Rattle.tree_decoder.proofs.EveryFile.{sound_is_whole, whole_is_sound}
use Rattle.tree_decoder.proofs.WholeReadings.{one_whole}
use Rattle.violations.specs.Violations.{name_in}

-- the line of a refusal answers the file
pub refused_answer : (bytes : List ℕ) (text : List (Option (List ℕ)) → Tree → List ℕ) (r : ReadRefusal) (a : Answer) (line : List ℕ)
    → Decodes bytes (Err r) → RefusesFile r line → a ≡ refusal line → AnswersFile bytes text a
refused_answer bytes text refusals.Memory a line is told answer = absurd told
refused_answer bytes text (refusals.Format f) a line is told answer = (faulty f, is, answer ∙ ap refusal told)
refused_answer bytes text (refusals.NotYet n) a line is told answer = (not_yet n, is, answer ∙ ap refusal told)
refused_answer bytes text (refusals.Check v name) a line is told answer = (violated is.0 v, is.1, answer ∙ ap refusal (rw (sym is.2) told))

-- and so does the output of its tree
pub read_answer : (bytes : List ℕ) (text : List (Option (List ℕ)) → Tree → List ℕ) (texts : List (Option (List ℕ))) (t : Tree) (a : Answer) (made : List ℕ)
    → IsWhole bytes (whole texts t) → made ≡ text texts t → a ≡ output made → AnswersFile bytes text a
read_answer bytes text texts t a made is told answer = (whole texts t, is, answer ∙ ap output told)

pub one_file_answer : (bytes : List ℕ) (text : List (Option (List ℕ)) → Tree → List ℕ) (a b : Answer) → AnswersFile bytes text a → AnswersFile bytes text b → a ≡ b
one_file_answer bytes text a b p q = p.2 ∙ ap (answer_of text) (one_whole bytes p.0 q.0 p.1 q.1) ∙ sym q.2

-- an answer of status 0 is that of a tree
with_tree : (bytes : List ℕ) (text : List (Option (List ℕ)) → Tree → List ℕ) (w : Whole) → length bytes ≤ most_bytes → All (λ byte. byte < 256) bytes → IsWhole bytes w → (answer_of text w).status ≡ 0
    → (texts : List (Option (List ℕ))) × (t : Tree) × IsSoundFile bytes texts t × (answer_of text w ≡ output (text texts t))
with_tree bytes text (whole texts t) short small is zero = (texts, t, whole_is_sound bytes texts t short small is, refl)
with_tree bytes text _ short small is zero = absurd (omega (arith, zero))

pub answered_exactly : (bytes : List ℕ) (text : List (Option (List ℕ)) → Tree → List ℕ) (a : Answer) → length bytes ≤ most_bytes → All (λ byte. byte < 256) bytes → AnswersFile bytes text a → IsOutputExactly bytes text a
answered_exactly bytes text a short small answer = record {
  of_tree = λ zero. let found = with_tree bytes text answer.0 short small answer.1 (ap (λ (x : Answer). x.status) (sym answer.2) ∙ zero) in (found.0, found.1, found.2, answer.2 ∙ found.3);
  only = λ texts t sound. answer.2 ∙ ap (answer_of text) (one_whole bytes answer.0 (whole texts t) answer.1 (sound_is_whole bytes texts t short small sound));
}
