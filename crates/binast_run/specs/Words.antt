-- The words that the program understands.
use Rattle.std.specs.Prelude.{ℕ, List, [], ◌∷◌, ◌&&◌, nat_eq, codes, Option, Some, None, Bool, if◌then◌else◌}
use Rattle.std.specs.Cmp.Lexicographic.{pointwise}
use Rattle.binast_run.specs.declared.command.Command.{Command}
use Rattle.binast_run.specs.declared.command.Command.TheVariants.{EncodeEager, Decode, Check}

abbrev pub is_word : List ℕ → List ℕ → Bool
is_word word text = pointwise nat_eq word text

-- the command that words ask for: `encode eager`, `decode` or `check`
abbrev pub command_in : List (List ℕ) → Option Command
command_in (command ∷ policy ∷ []) = if is_word command (codes "encode") && is_word policy (codes "eager") then Some EncodeEager else None
command_in (command ∷ []) =
    if is_word command (codes "decode") then Some Decode
    else if is_word command (codes "check") then Some Check else None
command_in _ = None
