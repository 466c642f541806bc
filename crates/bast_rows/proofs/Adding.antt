-- Rows that are added at the end.
use Rattle.std.proofs.Common.{ℕ, ◌+◌, ◌-◌, ◌≤◌, ◌≡◌, List, [], ◌∷◌, ◌++◌, length, refl, ap, ◌∙◌, arith, append_assoc}
use Rattle.std.proofs.lemmas.List.{length-append}
use Rattle.bast_schema.specs.Counts.{size_at, size_in}
use Rattle.bast_schema.specs.Tree.{Data, none, more, Datum, child, listed, absent, flag, index, whole, name, no_name, choice, window, branch, count}
use Rattle.bast_rows.specs.declared.row.Row.{Row}
use Rattle.bast_rows.specs.Room.{with_span, with_span_at}
use Rattle.bast_rows.specs.RowsOf.{rows_in}
use Rattle.bast_rows.proofs.Back.{length_rows_in}

pub span_set : (xs : List Row) (r : Row) (ys : List Row) (n : ℕ) → with_span_at (xs ++ r ∷ ys) (length xs) n ≡ xs ++ with_span n r ∷ ys
span_set [] r ys n = refl
span_set (x ∷ xs) r ys n = ap (λ s. x ∷ s) (span_set xs r ys n)

pub size_at_positive : (d : Datum) → 1 ≤ size_at d
size_at_positive (child (branch k ds)) = omega arith
size_at_positive (listed ds) = omega arith
size_at_positive _ = omega arith

pub count_size : (ds : Data) → count ds ≤ size_in ds
count_size none = omega arith
count_size (more d ds) = omega (arith, size_at_positive d, count_size ds)

-- what is added with its number of rows told at the end
pub closed : (r : Row) (old pushed mid new : List Row) (ds : Data) (at : ℕ) → pushed ≡ old ++ r ∷ [] → mid ≡ pushed ++ rows_in ds → at ≡ length old → new ≡ with_span_at mid at (length mid - at) → new ≡ old ++ with_span (1 + size_in ds) r ∷ rows_in ds
closed r old pushed mid new ds at p m a n =
    let whole : mid ≡ old ++ r ∷ rows_in ds = m ∙ ap (λ xs. xs ++ rows_in ds) p ∙ append_assoc old (r ∷ []) (rows_in ds)
    in let long : length mid ≡ length old + length (r ∷ rows_in ds) = ap length whole ∙ length-append old (r ∷ rows_in ds)
    in let more : length mid - at ≡ 1 + size_in ds = omega (arith, length_rows_in ds, long, a)
    in n ∙ ap (with_span_at mid at) more ∙ ap (λ xs. with_span_at xs at (1 + size_in ds)) whole ∙ ap (λ i. with_span_at (old ++ r ∷ rows_in ds) i (1 + size_in ds)) a ∙ span_set old r (rows_in ds) (1 + size_in ds)
