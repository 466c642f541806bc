-- A list of entries from a place on, as its first and those behind it.
use Rattle.std.proofs.Common.{◌≡◌, ℕ, ◌+◌, ◌<◌, ◌^◌, List, ◌++◌, length, drop, get_or, Option, None, drop-cons, add-one, refl, ap, ◌∙◌, arith, append_assoc, length-append}
use Rattle.std.specs.Prelude.{flat_map}
use Rattle.container.specs.Container.{counted, entry_bytes}

abbrev pub all_entries : List (Option (List ℕ)) → List ℕ
all_entries entries = flat_map (λ entry. counted (entry_bytes entry)) entries

pub entries_drop : (entries : List (Option (List ℕ))) (i : ℕ) → i < length entries
    → all_entries (drop i entries) ≡ counted (entry_bytes (get_or entries i None)) ++ all_entries (drop (i + 1) entries)
entries_drop entries i within = ap all_entries (drop-cons entries i None within) ∙ rw add-one refl

-- an entry is no longer than all
pub entry_small : (entries : List (Option (List ℕ))) (i : ℕ) → i < length entries → length (all_entries (drop i entries)) < 2 ^ 32
    → (length (entry_bytes (get_or entries i None)) < 2 ^ 32) × (length (all_entries (drop (i + 1) entries)) < 2 ^ 32)
entry_small entries i within small =
    let e = rw (entries_drop entries i within, length-append, length-append) at small
    in (omega arith, omega arith)

-- the next entry is put behind what stands, and those behind it are left
pub put_next : (put before start : List ℕ) (entries : List (Option (List ℕ))) (i : ℕ) → i < length entries
    → put ≡ before ++ counted (entry_bytes (get_or entries i None)) → before ++ all_entries (drop i entries) ≡ start ++ all_entries entries
    → put ++ all_entries (drop (i + 1) entries) ≡ start ++ all_entries entries
put_next put before start entries i within e whole =
    let whole' = rw (entries_drop entries i within) at whole
    in rw (e, append_assoc) whole'
