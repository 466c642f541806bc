-- Whether the names of a tree stand for texts.
use Rattle.std.specs.Prelude.{ℕ, Bool, is_some}
use Rattle.bast_schema.specs.Held.{Held, text_of}
use Rattle.bast_schema.specs.NamesHold.{names_hold, names_hold_at, names_hold_in}
use Rattle.bast_schema.specs.Tree.{Tree, Datum, Data}

abbrev pub is_named : Held → ℕ → Bool
is_named h n = is_some (text_of h n)

-- whether each name stands for a text
abbrev pub named : Held → Tree → Bool
named h t = names_hold (is_named h) t

abbrev pub named_at : Held → Datum → Bool
named_at h v = names_hold_at (is_named h) v

abbrev pub all_named : Held → Data → Bool
all_named h vs = names_hold_in (is_named h) vs
