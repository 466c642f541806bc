-- What a reader of numbers tells of its range beside its answer.
use Rattle.std.specs.Prelude.{◌≡◌, ℕ, ◌+◌, ◌-◌, ◌^◌, ◌<◌, ◌≤◌, min, List, ◌++◌, length, slice_range, Result, Ok, Err}
use Rattle.bast_base.specs.declared.errors.FormatFault.{FormatFault}
use Rattle.var_numbers.specs.Varnum.{varnum}

-- the bytes from `at` to `next` are the spelling of n, and lie before `end`
pub record Spells (bytes : List ℕ) (at end n next : ℕ) : Type 0 where
  pub small : n < 2 ^ 32
  pub next_is : next ≡ at + length (varnum n)
  pub ahead : at < next
  pub within : next ≤ end
  pub front : slice_range bytes at end ≡ varnum n ++ slice_range bytes next end

-- how many bytes a reader passed: up to the next place, or the byte at fault with those before it
abbrev pub passed : ℕ → ℕ → Result (ℕ × ℕ) FormatFault → ℕ
passed at end (Ok read) = read.1 - at
passed at end (Err fault) = min (fault.at + 1 - at) (end - at)
