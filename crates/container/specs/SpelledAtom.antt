-- How an atom is spelled over two tables: one of kinds, one of texts.
use Rattle.std.specs.Prelude.{ℕ, List, [], ◌∷◌, ◌++◌, length, if◌then◌else◌}
use Rattle.std.specs.Int.{w64, to_be_bytes}
use Rattle.var_numbers.specs.Pattern.{pattern}
use Rattle.var_numbers.specs.Varnum.{varnum}
use Rattle.container.specs.Atoms.{Atom, kind, count, flag, index, whole, text, window}
use Rattle.container.specs.Tables.{Tables, kind_place, text_place}

-- the bytes of an atom
abbrev pub spelled_atom : Tables → Atom → List ℕ
spelled_atom s (kind k) = varnum (kind_place s k)
spelled_atom s (count n) = varnum n
spelled_atom s (flag b) = (if b then 1 else 0) ∷ []
spelled_atom s (index n) = varnum n
spelled_atom s (whole n) = to_be_bytes w64 (pattern n)
spelled_atom s (text entry) = varnum (text_place s entry)
spelled_atom s (window bytes) = varnum (length bytes) ++ bytes
