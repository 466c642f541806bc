-- An answer with a place, the step from one answer to the next, and what code answers that may find no memory.
use Rattle.std.specs.Prelude.{◌≡◌, ℕ, Result, Ok, Err}
use Rattle.bast_base.specs.declared.errors.FormatFault.{FormatFault}
use Rattle.bast_base.specs.declared.errors.Halt.{Halt}
use Rattle.bast_base.specs.declared.errors.Halt.TheVariants as halt
use Rattle.bast_base.specs.declared.errors.Why.{Why}

abbrev pub fault : ℕ → Why → FormatFault
fault at why = record { at = at; why = why }

-- the next answer from the value of the first, or the first fault
infixl 10 ◌>>=◌
abbrev pub ◌>>=◌ : {A B : Type 0} → Result A FormatFault → (A → Result B FormatFault) → Result B FormatFault
(Ok x) >>= f = f x
(Err e) >>= f = Err e

-- The answer is this one, unless memory ran out.
abbrev pub Answers : {A : Type 0} → Result A Halt → Result A FormatFault → Type 0
Answers (Ok x) wanted = wanted ≡ Ok x
Answers (Err (halt.Format f)) wanted = wanted ≡ Err f
Answers (Err halt.Memory) wanted = Unit {0}
