-- An input has an answer of each command, and one.
use Rattle.std.proofs.Common.{◌≡◌, ℕ, ◌<◌, ◌≤◌, List, Option, length, refl}
use Rattle.std.specs.List.{All}
use Rattle.bast_schema.specs.Tree.{Tree}
use Rattle.binast_run.specs.declared.command.Command.{Command}
use Rattle.binast_run.specs.declared.command.Command.TheVariants.{EncodeEager, Decode, Check}
use Rattle.binast_run.specs.Answer.{Answer, most_bytes}
use Rattle.binast_run.specs.FileAnswers.{answer_of, AnswersFile}
use Rattle.binast_run.specs.Lines.{accepted_line}
use Rattle.binast_run.specs.Result.{AnswersInput}
use Rattle.binast_run.proofs.FileAnswers.{one_file_answer}
use Rattle.binast_run.proofs.SourceAnswers.{one_answer}
use Rattle.binast_run.proofs.SourceThere.{source_there}
use Rattle.js_printer.specs.Listing.{listed}
use Rattle.tree_decoder.proofs.EveryFile.{file_is_read}

pub one_of_command : (command : Command) (input : List ℕ) (a b : Answer) → AnswersInput command input a → AnswersInput command input b → a ≡ b
one_of_command EncodeEager input a b p q = one_answer input a b p q
one_of_command Decode input a b p q = one_file_answer input _ a b p q
one_of_command Check input a b p q = one_file_answer input _ a b p q

file_answer : (input : List ℕ) (text : List (Option (List ℕ)) → Tree → List ℕ) → length input ≤ most_bytes → All (λ byte. byte < 256) input → (a : Answer) × AnswersFile input text a
file_answer input text short small = let read = file_is_read input short small in (answer_of text read.0, (read.0, read.1, refl))

pub some_of_command : (command : Command) (input : List ℕ) → length input ≤ most_bytes → All (λ byte. byte < 256) input → (a : Answer) × AnswersInput command input a
some_of_command EncodeEager input short small = source_there input short
some_of_command Decode input short small = file_answer input listed short small
some_of_command Check input short small = file_answer input (λ (texts : List (Option (List ℕ))) (t : Tree). accepted_line (length input)) short small
