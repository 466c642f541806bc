-- A tree is spelled in at least as many bytes as it has values.
use Rattle.std.proofs.Common.{◌≡◌, ℕ, ◌+◌, ◌≤◌, Bool, true, false, None, refl, List, [], ◌∷◌, ◌++◌, length, length-append, arith}
use Rattle.bast_schema.specs.declared.kind.Union.{Union}
use Rattle.bast_schema.specs.declared.kind.Union.TheVariants.{Body}
use Rattle.bast_schema.specs.declared.kind.FieldType.{FieldType}
use Rattle.bast_schema.specs.declared.kind.FieldType.TheVariants as field
use Rattle.bast_schema.specs.Fields.{fields}
use Rattle.bast_schema.specs.Counts.{size, size_at, size_in}
use Rattle.bast_schema.specs.Held.{Held, bytes_of, text_of}
use Rattle.bast_schema.specs.Tree.{Tree, branch, Datum, child, absent, listed, flag, index, whole, name, no_name, choice, window, Data, none, more, count, typed, fits, fit, item_type, items_fit}
use Rattle.bast_schema.proofs.Both.{and_first, and_second}
use Rattle.var_numbers.specs.Varnum.{varnum}
use Rattle.var_numbers.proofs.VarnumLemmas.{varnum-nonempty}
use Rattle.container.specs.Spelled.{framed, spelled, spelled_at, spelled_fields, spelled_items}
use Rattle.container.specs.Atoms.{chosen}
use Rattle.container.specs.Tables.{Tables, kind_place, text_place}
use Rattle.bast_schema.specs.declared.kind.Kind.TheVariants.{Null}
use Rattle.std.specs.Int.{w64, to_be_bytes}
use Rattle.var_numbers.specs.Pattern.{pattern}
use Rattle.container.proofs.Values.{child_fits, is_window, item_window, listed_fits}

-- a frame only adds bytes
framed_more : (f : FieldType) (bytes : List ℕ) → length bytes ≤ length (framed f bytes)
framed_more (field.Lazy u) bytes = omega (arith, length-append (varnum (length bytes)) bytes)
framed_more _ bytes = omega arith

-- two parts of a spelling, with a value for each of some of their bytes
parts : (xs ys : List ℕ) (m n : ℕ) → m ≤ length xs → n ≤ length ys → m + n ≤ length (xs ++ ys)
parts xs ys m n first rest = omega (arith, length-append xs ys)

whole_bytes : (n : ℕ) → length (to_be_bytes w64 (pattern n)) ≡ 8
whole_bytes n = refl

-- a window stands in a lazy field alone, where its length takes a byte
framed_size : (s : Tables) (h : Held) (d : Datum) (f : FieldType) → fits f d ≡ true → (is_window d ≡ false → size_at d ≤ length (spelled_at s h f d)) → size_at d ≤ length (framed f (spelled_at s h f d))
framed_size s h (window from to) (field.Lazy u) is rest =
    omega (arith, length-append (varnum (length (bytes_of h from to))) (bytes_of h from to), varnum-nonempty (length (bytes_of h from to)))
framed_size s h (window from to) _ is rest = cc
framed_size s h d f is rest = omega (arith, rest refl, framed_more f (spelled_at s h f d))

mutual
  pub size_spelled : (s : Tables) (h : Held) (t : Tree) → typed t ≡ true → size t ≤ length (spelled s h t)
  size_spelled s h (branch k ds) is = parts (varnum (kind_place s k)) (spelled_fields s h (fields k) ds) 1 (size_in ds) (varnum-nonempty (kind_place s k)) (size_spelled_fields s h ds (fields k) is)

  -- what stands in a field: the type that it is spelled at plays no part
  size_spelled_at : (s : Tables) (h : Held) (d : Datum) (f g : FieldType) → fits f d ≡ true → is_window d ≡ false → size_at d ≤ length (spelled_at s h g d)
  size_spelled_at s h (child t) f g is other = size_spelled s h t (child_fits f t is)
  size_spelled_at s h (listed ds) f g is other =
      let items = listed_fits f ds is in
      let rest : size_in ds ≤ length (spelled_items s h ds) = size_spelled_items s h ds items.0 items.1 items.2 in
      omega (arith, rest, length-append (varnum (count ds)) (spelled_items s h ds), varnum-nonempty (count ds))
  size_spelled_at s h absent f g is other = varnum-nonempty (kind_place s Null)
  size_spelled_at s h (flag b) f g is other = omega arith
  size_spelled_at s h (index n) f g is other = varnum-nonempty n
  size_spelled_at s h (whole n) f g is other = omega (arith, whole_bytes n)
  size_spelled_at s h (name n) f g is other = varnum-nonempty (text_place s (text_of h n))
  size_spelled_at s h no_name f g is other = varnum-nonempty (text_place s None)
  size_spelled_at s h (choice n) f g is other = varnum-nonempty (text_place s (chosen g n))
  size_spelled_at s h (window from to) f g is other = cc

  size_spelled_fields : (s : Tables) (h : Held) (ds : Data) (fs : List FieldType) → fit fs ds ≡ true → size_in ds ≤ length (spelled_fields s h fs ds)
  size_spelled_fields s h none fs is = omega arith
  size_spelled_fields s h (more d ds) [] is = cc
  size_spelled_fields s h (more d ds) (f ∷ fs) is =
      parts (framed f (spelled_at s h f d)) (spelled_fields s h fs ds) (size_at d) (size_in ds)
      (framed_size s h d f (and_first (fits f d) (fit fs ds) is) (size_spelled_at s h d f f (and_first (fits f d) (fit fs ds) is)))
      (size_spelled_fields s h ds fs (and_second (fits f d) (fit fs ds) is))

  size_spelled_items : (s : Tables) (h : Held) (ds : Data) (u : Union) (holes : Bool) → items_fit u holes ds ≡ true → size_in ds ≤ length (spelled_items s h ds)
  size_spelled_items s h none u holes is = omega arith
  size_spelled_items s h (more d ds) u holes is =
      let fit_first = and_first (fits (item_type u holes) d) (items_fit u holes ds) is in
      parts (spelled_at s h (field.Optional Body) d) (spelled_items s h ds) (size_at d) (size_in ds)
      (size_spelled_at s h d (item_type u holes) (field.Optional Body) fit_first (item_window u holes d fit_first))
      (size_spelled_items s h ds u holes (and_second (fits (item_type u holes) d) (items_fit u holes ds) is))

some_values : (d : Datum) → 1 ≤ size_at d
some_values (child (branch k ds)) = omega arith
some_values (listed ds) = omega arith
some_values _ = omega arith

count_within : (ds : Data) → count ds ≤ size_in ds
count_within none = omega arith
count_within (more d ds) = omega (arith, some_values d, count_within ds)

-- items are spelled in at least as many bytes as there are
pub items_long : (s : Tables) (h : Held) (u : Union) (holes : Bool) (ds : Data) → items_fit u holes ds ≡ true → count ds ≤ length (spelled_items s h ds)
items_long s h u holes ds is = omega (arith, count_within ds, size_spelled_items s h ds u holes is)
