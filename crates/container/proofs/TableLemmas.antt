-- A table that is read entry by entry.
use Rattle.std.proofs.Common.{◌≡◌, ℕ, zero, suc, ◌+◌, ◌-◌, ◌<◌, ◌≤◌, List, [], refl, sym, ap, ◌∙◌, arith, Ok, Err}
use Rattle.bast_base.specs.declared.errors.FormatFault.{FormatFault}
use Rattle.bast_base.specs.declared.errors.Halt.{Halt}
use Rattle.bast_base.specs.declared.errors.Halt.TheVariants as halt
use Rattle.container.specs.Answers.{Answers, ◌>>=◌}
use Rattle.container.specs.Clauses.{Passes, whole_table}
use Rattle.container.specs.Entries.{Judge, entries_at, entry_at, table_at}
use Rattle.container.specs.Parts.{done_at, number_from}

pub table_start : {A : Type 0} (more : Judge A) (bytes : List ℕ) (end at count start : ℕ) → Ok (count, start) ≡ number_from bytes end at → entries_at more bytes end (count - 0) [] start ≡ table_at more bytes end at
unfolding table_at
table_start more bytes end at count start is = let all : count - 0 ≡ count = omega arith in rw (← is, all) refl

pub table_fails : {A : Type 0} (more : Judge A) (bytes : List ℕ) (end at : ℕ) (f : FormatFault) → Err f ≡ number_from bytes end at → whole_table more bytes end at ≡ Err f
unfolding table_at
table_fails more bytes end at f is = rw (← is) refl

pub entries_more : {A : Type 0} (more : Judge A) (bytes : List ℕ) (end count i : ℕ) (xs : List A) (at : ℕ) (ys : List A) (next : ℕ) → i < count → entry_at more bytes end xs at ≡ Ok (ys, next)
    → entries_at more bytes end (count - (i + 1)) ys next ≡ entries_at more bytes end (count - i) xs at
entries_more more bytes end count i xs at ys next some is =
    let left : count - i ≡ suc (count - (i + 1)) = omega arith in
    rw left (rw is refl)

entries_stop : {A : Type 0} (more : Judge A) (bytes : List ℕ) (end count i : ℕ) (xs : List A) (at : ℕ) (f : FormatFault) → i < count → entry_at more bytes end xs at ≡ Err f
    → entries_at more bytes end (count - i) xs at ≡ Err f
entries_stop more bytes end count i xs at f some is =
    let left : count - i ≡ suc (count - (i + 1)) = omega arith in
    rw left (rw is refl)

-- an entry that can't be read ends all
pub entry_fails : {A : Type 0} (more : Judge A) (bytes : List ℕ) (end from count i : ℕ) (xs new : List A) (at : ℕ) (e : Halt) → i < count → entries_at more bytes end (count - i) xs at ≡ table_at more bytes end from → Passes new (Err e) (entry_at more bytes end xs at)
    → Answers {A = List A} (Err e) (whole_table more bytes end from)
entry_fails more bytes end from count i xs new at halt.Memory some is fails = tt
entry_fails more bytes end from count i xs new at (halt.Format f) some is fails =
    let stops : table_at more bytes end from ≡ Err f = sym is ∙ entries_stop more bytes end count i xs at f some fails in
    ap (λ t. t >>= λ u. done_at end u.1 >>= λ done. Ok u.0) stops

-- behind the last entry
pub table_ends : {A : Type 0} (more : Judge A) (bytes : List ℕ) (end from count i : ℕ) (xs : List A) (at : ℕ) → count ≤ i → entries_at more bytes end (count - i) xs at ≡ table_at more bytes end from
    → whole_table more bytes end from ≡ (done_at end at >>= λ done. Ok xs)
table_ends more bytes end from count i xs at all is =
    let none : count - i ≡ zero = omega arith in
    let stands : table_at more bytes end from ≡ Ok (xs, at) = sym is ∙ ap (λ n. entries_at more bytes end n xs at) none in
    ap (λ t. t >>= λ u. done_at end u.1 >>= λ done. Ok u.0) stands

pub table_left : {A : Type 0} (more : Judge A) (bytes : List ℕ) (end from count i : ℕ) (xs : List A) (at : ℕ) (f : FormatFault) → count ≤ i → entries_at more bytes end (count - i) xs at ≡ table_at more bytes end from
    → Err f ≡ done_at end at → whole_table more bytes end from ≡ Err f
table_left more bytes end from count i xs at f all is left = table_ends more bytes end from count i xs at all is ∙ rw (← left) refl

pub table_whole : {A : Type 0} (more : Judge A) (bytes : List ℕ) (end from count i : ℕ) (xs : List A) (at : ℕ) → count ≤ i → entries_at more bytes end (count - i) xs at ≡ table_at more bytes end from
    → Ok tt ≡ done_at end at → whole_table more bytes end from ≡ Ok xs
table_whole more bytes end from count i xs at all is done = table_ends more bytes end from count i xs at all is ∙ rw (← done) refl
