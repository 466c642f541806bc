-- What the names and windows of a tree stand for.
use Rattle.std.specs.Prelude.{ℕ, List, Option, None, get_or, slice_range}

-- the texts of a string table, where the absent entry is None, and the bytes of a file
pub record Held : Type 0 where
  pub texts : List (Option (List ℕ))
  pub tape : List ℕ

-- the text of a name
abbrev pub text_of : Held → ℕ → Option (List ℕ)
text_of h n = get_or h.texts n None

-- the bytes of a window
abbrev pub bytes_of : Held → ℕ → ℕ → List ℕ
bytes_of h from to = slice_range h.tape from to
