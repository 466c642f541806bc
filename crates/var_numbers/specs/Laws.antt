-- What holds of every number's spelling and pattern.
use Rattle.std.specs.Prelude.{◌≡◌, ℕ, ◌+◌, ◌*◌, ◌^◌, ◌<◌, List, ◌++◌, length, drop, Ok}
use Rattle.std.specs.List.{All}
use Rattle.var_numbers.specs.Pattern.{pattern}
use Rattle.var_numbers.specs.Varnum.{varnum}
use Rattle.var_numbers.specs.VarnumRead.{number_in}

-- bytes begin with the spelling of at most one number, and in one way
abbrev pub IsPrefixFree : Type 0
IsPrefixFree = (m n : ℕ) (x y : List ℕ) → varnum m ++ x ≡ varnum n ++ y → (m ≡ n) × (x ≡ y)

-- a number of 32 bits is read from its spelling, whatever follows
abbrev pub IsReadBack : Type 0
IsReadBack = (n : ℕ) (more : List ℕ) → n < 2 ^ 32 → number_in (varnum n ++ more) ≡ Ok (n, length (varnum n))

-- what is read of bytes as a number has 32 bits and is spelled by as many bytes as were read
abbrev pub IsReadOnlyWhereSpelled : Type 0
IsReadOnlyWhereSpelled =
    (bytes : List ℕ) (n count : ℕ) → All (λ byte. byte < 256) bytes → number_in bytes ≡ Ok (n, count) → (n < 2 ^ 32) × (count ≡ length (varnum n)) × (bytes ≡ varnum n ++ drop count bytes)

-- a pattern is that of at most one whole number below 2^53
abbrev pub IsInjective : Type 0
IsInjective = (m n : ℕ) → m < 2 ^ 53 → n < 2 ^ 53 → pattern m ≡ pattern n → m ≡ n

-- The pattern of n above 0 is the biased exponent 1023 + e and the 52 bits f behind the leading one, where n is
-- 2^e (1 + f / 2^52), as IEEE 754-2008 has it in section 3.4.
abbrev pub IsBinary64 : Type 0
IsBinary64 =
    (n : ℕ) → 0 < n → n < 2 ^ 53 → (e : ℕ) × (f : ℕ) × (f < 2 ^ 52) × (pattern n ≡ (1023 + e) * 2 ^ 52 + f) × (n * 2 ^ 52 ≡ 2 ^ e * (2 ^ 52 + f))
