-- What the program answers to words and an input.
use Rattle.std.specs.Prelude.{◌≡◌, ℕ, ◌≤◌, List, [], length, Option, Some, None, IfSome, IsTrue, is_some, ◌⊎◌}
use Rattle.std.specs.Io.KnownBytes.{Appends}
use Rattle.js_printer.specs.Listing.{listed}
use Rattle.bast_base.specs.Causes.{Rose}
use Rattle.binast_run.specs.declared.command.Command.{Command}
use Rattle.binast_run.specs.declared.command.Command.TheVariants.{EncodeEager, Decode, Check}
use Rattle.binast_run.specs.declared.status.Fault.TheVariants.{BadWords}
use Rattle.binast_run.specs.Answer.{Answer, most_bytes, output, refusal}
use Rattle.binast_run.specs.FileAnswers.{AnswersFile}
use Rattle.binast_run.specs.Lines.{accepted_line}
use Rattle.binast_run.specs.Output.{AppendsFront}
use Rattle.binast_run.specs.Sources.{AnswersSource}
use Rattle.binast_run.specs.Status.{line_of}
use Rattle.binast_run.specs.Words.{command_in}

-- the answer of a command to its input
abbrev pub AnswersInput : Command → List ℕ → Answer → Type 0
AnswersInput EncodeEager input a = AnswersSource input a
AnswersInput Decode input a = AnswersFile input listed a
AnswersInput Check input a = AnswersFile input (λ texts t. accepted_line (length input)) a

-- the answer of words, which is one without a command too
abbrev pub AnswersWords : Option Command → List ℕ → Answer → Type 0
AnswersWords None input a = a ≡ record { status = 2; text = line_of BadWords }
AnswersWords (Some c) input a = AnswersInput c input a

-- how many bytes the command may look at
abbrev pub looked_by : Option Command → List ℕ → ℕ
looked_by None input = 0
looked_by (Some command) input = length input

abbrev pub looked : List (List ℕ) → List ℕ → ℕ
looked words input = looked_by (command_in words) input

-- The input is all that was left, nothing is left, and this is the answer of the words to it.
pub record Answers (words : List (List ℕ)) (input : List ℕ) (left' : Option (List ℕ)) (a : Answer) : Type 0 where
  pub answer : AnswersWords (command_in words) input a
  pub all : left' ≡ Some []
  pub within : length input ≤ most_bytes

-- notes has this line behind its old bytes, or only a front of it where its count rose
pub record Notes (old new : Option (List ℕ)) (before now : ℕ) (text : List ℕ) : Type 0 where
  pub front : AppendsFront old new text
  pub whole : (Rose before now → ⊥) → Appends old new text

-- the output is that of the answer, whole
abbrev pub Outputs : List (List ℕ) → Option (List ℕ) → Option (List ℕ) → Option (List ℕ) → Option (List ℕ) → Type 0
Outputs words left left' old new = IfSome left (λ input. (text : List ℕ) × Answers words input left' (output text) × Appends old new text)

-- or only a front of it
abbrev pub OutputsFront : List (List ℕ) → Option (List ℕ) → Option (List ℕ) → Option (List ℕ) → Option (List ℕ) → Type 0
OutputsFront words left left' old new = IfSome left (λ input. (text : List ℕ) × Answers words input left' (output text) × AppendsFront old new text)

-- the input is refused, and notes has the line that says why
abbrev pub Refuses : List (List ℕ) → Option (List ℕ) → Option (List ℕ) → Option (List ℕ) → Option (List ℕ) → ℕ → ℕ → Type 0
Refuses words left left' old new before now = IfSome left (λ input. (text : List ℕ) × Answers words input left' (refusal text) × Notes old new before now text)

-- the status is that of an answer of the words to the input, unless memory ran out
abbrev pub IsAnswered : List (List ℕ) → List ℕ → ℕ → Type 0
IsAnswered words input status = (status ≡ 5) ⊎ ((a : Answer) × AnswersWords (command_in words) input a × (status ≡ a.status))

-- A command whose input has no more bytes than it may is answered where neither count of faults rose.
abbrev pub IsComplete : List (List ℕ) → List ℕ → Type 0 → Type 0 → ℕ → Type 0
IsComplete words input source_rose sink_rose status =
    IsTrue (is_some (command_in words)) → length input ≤ most_bytes → (source_rose → ⊥) → (sink_rose → ⊥) → IsAnswered words input status

-- each output that answers the words takes no more bytes than these
abbrev pub FitsIn : List (List ℕ) → List ℕ → ℕ → Type 0
FitsIn words input spare = (text : List ℕ) → AnswersWords (command_in words) input (output text) → length text ≤ spare
