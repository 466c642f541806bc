-- A tree is spelled as its atoms, one after another.
use Rattle.std.proofs.Common.{◌≡◌, ℕ, Bool, true, false, not, ◌&&◌, ◌||◌, List, [], ◌∷◌, ◌++◌, append-nil, refl, sym, ap, ◌∙◌}
use Rattle.std.specs.Prelude.{flat_map}
use Rattle.std.specs.List.{list_any}
use Rattle.std.proofs.lemmas.Grind.{flat_map-append}
use Rattle.bast_schema.specs.declared.kind.FieldType.{FieldType}
use Rattle.bast_schema.specs.declared.kind.FieldType.TheVariants as field
use Rattle.bast_schema.specs.declared.kind.Union.{Union}
use Rattle.bast_schema.specs.declared.kind.Union.TheVariants.{Body}
use Rattle.bast_schema.specs.Eager.{is_eager, is_eager_at, are_eager}
use Rattle.bast_schema.specs.Fields.{fields, has_lazy, is_lazy_type}
use Rattle.bast_schema.specs.Held.{Held, bytes_of}
use Rattle.bast_schema.specs.Tree as tree
use Rattle.bast_schema.specs.Tree.{Tree, Datum, Data, branch, none, more, typed, fits, fit, item_type, items_fit}
use Rattle.bast_schema.proofs.Both.{and_first, and_second, both}
use Rattle.var_numbers.specs.Varnum.{varnum}
use Rattle.container.specs.Atoms.{Atom, window, atoms, atoms_of, atoms_of_fields, atoms_of_items}
use Rattle.container.specs.Folded.{is_folded, folded, folded_at, folded_fields, folded_items}
use Rattle.container.specs.InFile.{is_unnested, is_unnested_at, are_unnested, are_unnested_fields}
use Rattle.container.specs.Spelled.{framed, spelled, spelled_at, spelled_fields, spelled_items}
use Rattle.container.specs.SpelledAtom.{spelled_atom}
use Rattle.container.specs.Tables.{Tables, kind_place}
use Rattle.container.proofs.Fields.{unframed}
use Rattle.container.proofs.Values.{child_fits, folded_lazy, is_window, item_window, listed_fits}

abbrev spelled_atoms : Tables → List Atom → List ℕ
spelled_atoms s xs = flat_map (spelled_atom s) xs

alone : (s : Tables) (a : Atom) → spelled_atom s a ≡ spelled_atoms s (a ∷ [])
alone s a = sym (append-nil (spelled_atom s a))

one_by_one : (s : Tables) (a b : List ℕ) (xs ys : List Atom) → a ≡ spelled_atoms s xs → b ≡ spelled_atoms s ys → a ++ b ≡ spelled_atoms s (xs ++ ys)
one_by_one s a b xs ys first rest =
    ap (λ (x : List ℕ). x ++ b) first ∙ ap (λ (y : List ℕ). spelled_atoms s xs ++ y) rest ∙ sym (flat_map-append (spelled_atom s) xs ys)

-- a window has a frame, and no other value of a folded tree
framed_by_atoms : (s : Tables) (h : Held) (d : Datum) (f : FieldType) → fits f d ≡ true → is_folded f d ≡ true → (is_window d ≡ false → spelled_at s h f d ≡ spelled_atoms s (atoms_of h f d))
    → framed f (spelled_at s h f d) ≡ spelled_atoms s (atoms_of h f d)
framed_by_atoms s h d f is plain rest = by_window (is_window d) refl
  where
    shut : (d : Datum) (f : FieldType) → fits f d ≡ true → is_window d ≡ true → framed f (spelled_at s h f d) ≡ spelled_atoms s (atoms_of h f d)
    shut (tree.window from to) (field.Lazy u) is window' = alone s (window (bytes_of h from to))
    shut (tree.window from to) _ is window' = cc
    shut _ f is window' = cc

    by_window : (b : Bool) → is_window d ≡ b → framed f (spelled_at s h f d) ≡ spelled_atoms s (atoms_of h f d)
    by_window true e = shut d f is e
    by_window false e = unframed f (spelled_at s h f d) (folded_lazy f d is plain e) ∙ rest e

mutual
  pub tree_by_atoms : (s : Tables) (h : Held) (t : Tree) → typed t ≡ true → folded t ≡ true → spelled s h t ≡ spelled_atoms s (atoms h t)
  tree_by_atoms s h (branch k ds) is shut = ap (λ (rest : List ℕ). varnum (kind_place s k) ++ rest) (fields_by_atoms s h ds (fields k) is shut)

  fields_by_atoms : (s : Tables) (h : Held) (ds : Data) (fs : List FieldType) → fit fs ds ≡ true → folded_fields fs ds ≡ true → spelled_fields s h fs ds ≡ spelled_atoms s (atoms_of_fields h fs ds)
  fields_by_atoms s h none [] is shut = refl
  fields_by_atoms s h none (f ∷ fs) is shut = cc
  fields_by_atoms s h (more d ds) [] is shut = cc
  fields_by_atoms s h (more d ds) (f ∷ fs) is shut =
      let fit_first = and_first (fits f d) (fit fs ds) is in
      let rest = and_second (is_folded f d) (folded_at d && folded_fields fs ds) shut in
      one_by_one s (framed f (spelled_at s h f d)) (spelled_fields s h fs ds) (atoms_of h f d) (atoms_of_fields h fs ds)
      (framed_by_atoms s h d f fit_first (and_first (is_folded f d) (folded_at d && folded_fields fs ds) shut) (value_by_atoms s h d f f fit_first (and_first (folded_at d) (folded_fields fs ds) rest)))
      (fields_by_atoms s h ds fs (and_second (fits f d) (fit fs ds) is) (and_second (folded_at d) (folded_fields fs ds) rest))

  -- what stands in a field: the type that it is spelled at plays no part
  value_by_atoms : (s : Tables) (h : Held) (d : Datum) (f g : FieldType) → fits f d ≡ true → folded_at d ≡ true → is_window d ≡ false → spelled_at s h g d ≡ spelled_atoms s (atoms_of h g d)
  value_by_atoms s h (tree.child t) f g is shut other = tree_by_atoms s h t (child_fits f t is) shut
  value_by_atoms s h (tree.listed ds) f g is shut other =
      let items = listed_fits f ds is in
      ap (λ (rest : List ℕ). varnum (tree.count ds) ++ rest) (items_by_atoms s h ds items.0 items.1 items.2 shut)
  value_by_atoms s h (tree.window from to) f g is shut other = cc
  value_by_atoms s h _ f g is shut other = sym (append-nil _)

  items_by_atoms : (s : Tables) (h : Held) (ds : Data) (u : Union) (holes : Bool) → items_fit u holes ds ≡ true → folded_items ds ≡ true → spelled_items s h ds ≡ spelled_atoms s (atoms_of_items h ds)
  items_by_atoms s h none u holes is shut = refl
  items_by_atoms s h (more d ds) u holes is shut =
      let fit_first = and_first (fits (item_type u holes) d) (items_fit u holes ds) is in
      one_by_one s (spelled_at s h (field.Optional Body) d) (spelled_items s h ds) (atoms_of h (field.Optional Body) d) (atoms_of_items h ds)
      (value_by_atoms s h d (item_type u holes) (field.Optional Body) fit_first (and_first (folded_at d) (folded_items ds) shut) (item_window u holes d fit_first))
      (items_by_atoms s h ds u holes (and_second (fits (item_type u holes) d) (items_fit u holes ds) is) (and_second (folded_at d) (folded_items ds) shut))

-- where no kind is lazy, no lazy field holds a node

neither : (a b : Bool) → (a || b) ≡ false → (a ≡ false) × (b ≡ false)
neither true b is = cc
neither false b is = (refl, is)

not_true : (b : Bool) → not b ≡ true → b ≡ false
not_true true is = cc
not_true false is = refl

all_three : (a b c : Bool) → a ≡ true → b ≡ true → c ≡ true → (a && (b && c)) ≡ true
all_three a b c p q r = rw (p, q, r) refl

plain_folded : (f : FieldType) (d : Datum) → is_lazy_type f ≡ false → is_folded f d ≡ true
plain_folded (field.Lazy u) d plain = cc
plain_folded _ d plain = refl

mutual
  pub eager_is_folded : (t : Tree) → is_eager t ≡ true → folded t ≡ true
  eager_is_folded (branch k ds) eager =
      eager_fields ds (fields k) (not_true (has_lazy k) (and_first (not (has_lazy k)) (are_eager ds) eager)) (and_second (not (has_lazy k)) (are_eager ds) eager)

  eager_fields : (ds : Data) (fs : List FieldType) → list_any is_lazy_type fs ≡ false → are_eager ds ≡ true → folded_fields fs ds ≡ true
  eager_fields none [] plain eager = refl
  eager_fields none (f ∷ fs) plain eager = refl
  eager_fields (more d ds) [] plain eager = refl
  eager_fields (more d ds) (f ∷ fs) plain eager =
      let apart = neither (is_lazy_type f) (list_any is_lazy_type fs) plain in
      all_three (is_folded f d) (folded_at d) (folded_fields fs ds) (plain_folded f d apart.0) (eager_value d (and_first (is_eager_at d) (are_eager ds) eager)) (eager_fields ds fs apart.1 (and_second (is_eager_at d) (are_eager ds) eager))

  eager_value : (d : Datum) → is_eager_at d ≡ true → folded_at d ≡ true
  eager_value (tree.child t) eager = eager_is_folded t eager
  eager_value (tree.listed ds) eager = eager_items ds eager
  eager_value _ eager = refl

  eager_items : (ds : Data) → are_eager ds ≡ true → folded_items ds ≡ true
  eager_items none eager = refl
  eager_items (more d ds) eager = both (folded_at d) (folded_items ds) (eager_value d (and_first (is_eager_at d) (are_eager ds) eager)) (eager_items ds (and_second (is_eager_at d) (are_eager ds) eager))

-- and no lazy kind stands inside another
mutual
  pub eager_is_unnested : (t : Tree) → is_eager t ≡ true → is_unnested t ≡ true
  eager_is_unnested (branch k ds) e = unnested_fields (fields k) ds (and_second (not (has_lazy k)) (are_eager ds) e)

  unnested_at : (t : FieldType) (d : Datum) → is_eager_at d ≡ true → is_unnested_at t d ≡ true
  unnested_at (field.Lazy u) d e = e
  unnested_at t (tree.child c) e = eager_is_unnested c e
  unnested_at t (tree.listed ds) e = unnested_items ds e
  unnested_at t _ e = refl

  unnested_fields : (ts : List FieldType) (ds : Data) → are_eager ds ≡ true → are_unnested_fields ts ds ≡ true
  unnested_fields [] ds e = refl
  unnested_fields (t ∷ ts) none e = refl
  unnested_fields (t ∷ ts) (more d ds) e =
      both (is_unnested_at t d) (are_unnested_fields ts ds) (unnested_at t d (and_first (is_eager_at d) (are_eager ds) e)) (unnested_fields ts ds (and_second (is_eager_at d) (are_eager ds) e))

  unnested_items : (ds : Data) → are_eager ds ≡ true → are_unnested ds ≡ true
  unnested_items none e = refl
  unnested_items (more d ds) e =
      both (is_unnested_at (field.Optional Body) d) (are_unnested ds) (unnested_at (field.Optional Body) d (and_first (is_eager_at d) (are_eager ds) e)) (unnested_items ds (and_second (is_eager_at d) (are_eager ds) e))
