-- The entries of a table, one after another.
use Rattle.std.specs.Prelude.{ℕ, zero, suc, ◌+◌, List, [], ◌∷◌, ◌++◌, slice_range, Option, Some, None, Result, Ok, Err, if◌then◌else◌}
use Rattle.std.specs.Str.{bytes_eq, is_utf8}
use Rattle.std.specs.Str.Lossy.{utf8_valid_len}
use Rattle.bast_base.specs.declared.errors.FormatFault.{FormatFault}
use Rattle.bast_base.specs.declared.errors.Why.TheVariants.{NotUtf8, Repeated, UnknownKind}
use Rattle.bast_schema.specs.declared.kind.Kind.{Kind}
use Rattle.bast_schema.specs.KindTable.{place_of}
use Rattle.bast_schema.specs.Kinds.{kind_of_name}
use Rattle.string_table.specs.Entries.{place_in}
use Rattle.container.specs.Answers.{fault, ◌>>=◌}
use Rattle.container.specs.Container.{entry_bytes}
use Rattle.container.specs.Parts.{counted_at, number_from}

-- these entries, and one more that isn't among them
abbrev pub new_entry : {A : Type 0} → List A → A → ℕ → Option ℕ → Result (List A) FormatFault
new_entry xs x at (Some first) = Err (fault at (Repeated first))
new_entry xs x at None = Ok (xs ++ x ∷ [])

-- the kind that a name is of
abbrev pub named : ℕ → Option Kind → Result Kind FormatFault
named at (Some k) = Ok k
named at None = Err (fault at UnknownKind)

-- kinds, and the one whose name lies at a place
unfoldable pub more_kinds : List Kind → List ℕ → ℕ → Result (List Kind) FormatFault
more_kinds ks name at = named at (kind_of_name name) >>= λ k. new_entry ks k at (place_of ks k)

-- the text of these bytes, or the absent string
abbrev pub entry_of : List ℕ → ℕ → Result (Option (List ℕ)) FormatFault
entry_of bytes at =
    if is_utf8 bytes then Ok (Some bytes)
    else if bytes_eq bytes (entry_bytes None) then Ok None
    else Err (fault (at + utf8_valid_len bytes) NotUtf8)

-- texts, and the one whose bytes lie at a place
unfoldable pub more_texts : List (Option (List ℕ)) → List ℕ → ℕ → Result (List (Option (List ℕ))) FormatFault
more_texts ts bytes at = entry_of bytes at >>= λ entry. new_entry ts entry at (place_in ts entry)

-- what `more` makes of a table, of the bytes of an entry and of their place
abbrev pub Judge : Type 0 → Type 0
Judge A = List A → List ℕ → ℕ → Result (List A) FormatFault

-- the table with the entry at a place, and the place behind it
abbrev pub entry_at : {A : Type 0} → Judge A → List ℕ → ℕ → List A → ℕ → Result (List A × ℕ) FormatFault
entry_at more bytes end xs at =
    counted_at bytes end at >>= λ r. more xs (slice_range bytes r.0 r.1) r.0 >>= λ ys. Ok (ys, r.1)

-- the table with so many entries, and the place behind them
abbrev pub entries_at : {A : Type 0} → Judge A → List ℕ → ℕ → ℕ → List A → ℕ → Result (List A × ℕ) FormatFault
entries_at more bytes end zero xs at = Ok (xs, at)
entries_at more bytes end (suc n) xs at = entry_at more bytes end xs at >>= λ e. entries_at more bytes end n e.0 e.1

-- the table that a section holds from its start on: a count and that many entries
unfoldable pub table_at : {A : Type 0} → Judge A → List ℕ → ℕ → ℕ → Result (List A × ℕ) FormatFault
table_at more bytes end at = number_from bytes end at >>= λ n. entries_at more bytes end n.0 [] n.1
