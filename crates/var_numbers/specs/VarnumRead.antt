-- The number that a list of bytes begins with, or why it begins with none.
use Rattle.std.specs.Prelude.{ℕ, ◌+◌, ◌*◌, ◌/◌, ◌%◌, Bool, ◌&&◌, ◌||◌, List, [], ◌∷◌, length, take, slice_index, nat_lt, nat_eq, Result, Ok, Err, if◌then◌else◌}
use Rattle.std.specs.List.{position_or_len}
use Rattle.bast_base.specs.declared.errors.FormatFault.{FormatFault}
use Rattle.bast_base.specs.declared.errors.Why.TheVariants.{Ended, Overlong, TooBig}

-- bit 0 is clear: no byte follows
abbrev pub is_last : ℕ → Bool
is_last byte = nat_eq (byte % 2) 0

-- the place of the first last byte, or the length where there is none
abbrev pub last_place : List ℕ → ℕ
last_place bytes = position_or_len is_last bytes

-- the groups of seven bits, each behind its bit 0, the least first
abbrev pub groups_sum : List ℕ → ℕ
groups_sum [] = 0
groups_sum (byte ∷ more) = byte / 2 + 128 * groups_sum more

-- fewer than five bytes, and each says that another follows
abbrev pub is_ended : List ℕ → Bool
is_ended bytes = nat_lt (length bytes) 5 && nat_eq (last_place bytes) (length bytes)

-- four bytes go on, and the fifth does too or has more than the four bits that are left of 32
abbrev pub is_too_big : List ℕ → Bool
is_too_big bytes = nat_lt 4 (last_place bytes) || (nat_eq (last_place bytes) 4 && nat_lt 0x1E (slice_index bytes 4))

-- the last byte isn't the first and has no bits
abbrev pub is_overlong : List ℕ → Bool
is_overlong bytes = nat_lt 0 (last_place bytes) && nat_eq (slice_index bytes (last_place bytes)) 0

-- The number and how many bytes spell it. A fault is at its place in the list.
unfoldable pub number_in : List ℕ → Result (ℕ × ℕ) FormatFault
number_in bytes =
    if is_ended bytes then Err (record { at = length bytes; why = Ended })
    else if is_too_big bytes then Err (record { at = 4; why = TooBig })
    else if is_overlong bytes then Err (record { at = last_place bytes; why = Overlong })
    else Ok (groups_sum (take (last_place bytes + 1) bytes), last_place bytes + 1)

-- the same answer, with each place `at` bytes later
abbrev pub moved : ℕ → Result (ℕ × ℕ) FormatFault → Result (ℕ × ℕ) FormatFault
moved at (Ok read) = Ok (read.0, at + read.1)
moved at (Err fault) = Err (record { at = at + fault.at; why = fault.why })

-- The answer at a place of a file, with places of the file.
abbrev pub number_at : ℕ → List ℕ → Result (ℕ × ℕ) FormatFault
number_at at bytes = moved at (number_in bytes)
