-- An answer of the program.
use Rattle.std.specs.Prelude.{ℕ, List}

-- a status, and the output for 0 or the line for another
pub record Answer : Type 0 where
  pub status : ℕ
  pub text : List ℕ

abbrev pub output : List ℕ → Answer
output text = record { status = 0; text = text }

abbrev pub refusal : List ℕ → Answer
refusal text = record { status = 1; text = text }

-- how many bytes an input and an encoded file may have
abbrev pub most_bytes : ℕ
most_bytes = 8388608
