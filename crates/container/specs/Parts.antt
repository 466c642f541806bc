-- The parts of a container that are read alike in each section. Places are bytes of the whole list, from 0.
use Rattle.std.specs.Prelude.{ℕ, suc, ◌+◌, List, ◌∷◌, length, drop, slice_range, nat_lt, nat_eq, Result, Ok, Err, if◌then◌else◌}
use Rattle.bast_base.specs.declared.errors.FormatFault.{FormatFault}
use Rattle.bast_base.specs.declared.errors.Why.{Why}
use Rattle.bast_base.specs.declared.errors.Why.TheVariants.{BadVersion, Ended, Trailing}
use Rattle.var_numbers.specs.VarnumRead.{number_at}
use Rattle.container.specs.Answers.{fault, ◌>>=◌}

-- how many first bytes two lists share
abbrev pub agreeing : List ℕ → List ℕ → ℕ
agreeing (x ∷ xs) (y ∷ ys) = if nat_eq x y then suc (agreeing xs ys) else 0
agreeing _ _ = 0

-- the place behind `shared` of `count` bytes that are due, or the fault where fewer are shared
abbrev pub behind_shared : List ℕ → Why → ℕ → ℕ → ℕ → Result ℕ FormatFault
behind_shared bytes why at count shared =
    if nat_eq shared count then Ok (at + shared)
    else if nat_lt (at + shared) (length bytes) then Err (fault (at + shared) why)
    else Err (fault (length bytes) Ended)

-- the place behind bytes that are due
unfoldable pub fixed_at : List ℕ → List ℕ → Why → ℕ → Result ℕ FormatFault
fixed_at bytes due why at = behind_shared bytes why at (length due) (agreeing due (drop at bytes))

-- the number, and the place behind it, in the range up to `end`
abbrev pub number_from : List ℕ → ℕ → ℕ → Result (ℕ × ℕ) FormatFault
number_from bytes end at = number_at at (slice_range bytes at end)

-- the place behind the version, which is 1
unfoldable pub version_at : List ℕ → ℕ → Result ℕ FormatFault
version_at bytes at =
    number_from bytes (length bytes) at >>= λ n. if nat_eq n.0 1 then Ok n.1 else Err (fault at (BadVersion n.0))

-- where so many bytes from a place on begin and end
abbrev pub so_many : ℕ → ℕ × ℕ → Result (ℕ × ℕ) FormatFault
so_many end n = if nat_lt end (n.1 + n.0) then Err (fault end Ended) else Ok (n.1, n.1 + n.0)

-- where the bytes behind their length begin and end
unfoldable pub counted_at : List ℕ → ℕ → ℕ → Result (ℕ × ℕ) FormatFault
counted_at bytes end at = number_from bytes end at >>= so_many end

-- nothing is left before the end
abbrev pub done_at : ℕ → ℕ → Result (Unit {0}) FormatFault
done_at end at = if nat_lt at end then Err (fault at Trailing) else Ok tt
