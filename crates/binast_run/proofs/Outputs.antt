-- What was read and what was made of it, as the answer of the words to the input.
use Rattle.std.proofs.Common.{◌≡◌, ℕ, ◌≤◌, List, length, Option, Some, None, IfSome, inr, refl, subst, sym}
use Rattle.bast_base.specs.Source.{TakesAll}
use Rattle.binast_run.specs.declared.command.Command.{Command}
use Rattle.binast_run.specs.Output.{AppendsFront}
use Rattle.binast_run.specs.Answer.{Answer, output}
use Rattle.binast_run.specs.Result.{AnswersInput, AnswersWords, IsComplete, OutputsFront}
use Rattle.binast_run.specs.Words.{command_in}

answers_words : (o : Option Command) (c : Command) (input : List ℕ) (a : Answer) → o ≡ Some c → AnswersInput c input a → AnswersWords o input a
answers_words o c input a is answer = subst (λ (x : Option Command). AnswersWords x input a) (sym is) answer

-- a front of the output that was made of the input
pub outputs_front : (words : List (List ℕ)) (left left' old new : Option (List ℕ)) (tape text : List ℕ) (c : Command)
    → command_in words ≡ Some c → TakesAll left left' tape → length tape ≤ 8388608 → AnswersInput c tape (output text) → AppendsFront old new text
    → OutputsFront words left left' old new
outputs_front words None left' old new tape text c is takes small answer front = tt
outputs_front words (Some input) left' old new tape text c is takes small answer front = (
  text,
  record {
    answer = answers_words (command_in words) c input (output text) is (subst (λ (x : List ℕ). AnswersInput c x (output text)) takes.0 answer);
    all = takes.1;
    within = subst (λ (x : List ℕ). length x ≤ 8388608) takes.0 small;
  },
  front,
)

-- the status is that of what was made of the input
pub answered : (words : List (List ℕ)) (left left' : Option (List ℕ)) (tape : List ℕ) (c : Command) (a : Answer) (P Q : Type 0)
    → command_in words ≡ Some c → TakesAll left left' tape → AnswersInput c tape a → IfSome left (λ input. IsComplete words input P Q a.status)
answered words None left' tape c a P Q is takes answer = tt
answered words (Some input) left' tape c a P Q is takes answer =
    λ _ _ _ _. inr (a, answers_words (command_in words) c input a is (subst (λ (x : List ℕ). AnswersInput c x a) takes.0 answer), refl)
