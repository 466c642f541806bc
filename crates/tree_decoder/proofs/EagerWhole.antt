-- A tree without lazy kinds has no window.
use Rattle.std.proofs.Common.{◌≡◌, ℕ, ◌+◌, Bool, true, false, not, ◌&&◌, ◌||◌, List, [], ◌∷◌, ◌++◌, Some, None, cond, refl, sym, ◌∙◌}
use Rattle.std.specs.List.{list_all, list_any, position_from}
use Rattle.std.proofs.lemmas.List.Folds.{list_all-append}
use Rattle.bast_schema.specs.declared.kind.Kind.{Kind}
use Rattle.bast_schema.specs.declared.kind.Union.{Union}
use Rattle.bast_schema.specs.declared.kind.FieldType.{FieldType}
use Rattle.bast_schema.specs.Counts.{is_whole, is_whole_at, is_whole_in}
use Rattle.bast_schema.specs.Fields.{fields, has_lazy, is_lazy_type}
use Rattle.bast_schema.specs.Tree.{Tree, branch, Datum, child, listed, window, Data, none, more, typed, fits, fit, item_type, items_fit}
use Rattle.bast_schema.proofs.Both.{and_first, and_second, both}
use Rattle.container.proofs.Values.{child_fits, item_eager, listed_fits, window_lazy}
use Rattle.tree_decoder.specs.LazyKinds.{is_eager_kind, first_lazy, kinds_of, kinds_at, kinds_in}

-- where no kind is lazy, each is eager
first_before : (b : Bool) (n : ℕ) (ks : List Kind) → cond (not b) (Some n) (position_from (λ k. not (is_eager_kind k)) (n + 1) ks) ≡ None → (position_from (λ k. not (is_eager_kind k)) (n + 1) ks ≡ None → list_all is_eager_kind ks ≡ true) → (b && list_all is_eager_kind ks) ≡ true
first_before true n ks is rest = rest is
first_before false n ks is rest = cc

pub all_eager : (n : ℕ) (ks : List Kind) → position_from (λ k. not (is_eager_kind k)) n ks ≡ None → list_all is_eager_kind ks ≡ true
all_eager n [] is = refl
all_eager n (k ∷ ks) is = first_before (is_eager_kind k) n ks is (all_eager (n + 1) ks)

-- an eager kind has no lazy field
pub not_true : (b : Bool) → not b ≡ true → b ≡ false
not_true true is = cc
not_true false is = refl

pub eager_kind : (k : Kind) → is_eager_kind k ≡ true → has_lazy k ≡ false
eager_kind k is = not_true (has_lazy k) is

pub neither : (a b : Bool) → (a || b) ≡ false → (a ≡ false) × (b ≡ false)
neither true b is = cc
neither false b is = (refl, is)

split_first : (d : Datum) (ds : Data) → list_all is_eager_kind (kinds_at d ++ kinds_in ds) ≡ true → (list_all is_eager_kind (kinds_at d) && list_all is_eager_kind (kinds_in ds)) ≡ true
split_first d ds all = sym (list_all-append is_eager_kind (kinds_at d) (kinds_in ds)) ∙ all

mutual
  pub whole_tree : (t : Tree) → typed t ≡ true → list_all is_eager_kind (kinds_of t) ≡ true → is_whole t ≡ true
  whole_tree (branch k ds) fit all =
      whole_fields ds (fields k) (eager_kind k (and_first (is_eager_kind k) (list_all is_eager_kind (kinds_in ds)) all)) fit (and_second (is_eager_kind k) (list_all is_eager_kind (kinds_in ds)) all)

  whole_value : (d : Datum) (f : FieldType) → is_lazy_type f ≡ false → fits f d ≡ true → list_all is_eager_kind (kinds_at d) ≡ true → is_whole_at d ≡ true
  whole_value (child t) f eager fit all = whole_tree t (child_fits f t fit) all
  whole_value (listed ds) f eager fit all = let items = listed_fits f ds fit in whole_items ds items.0 items.1 items.2 all
  whole_value (window from to) f eager fit all = window_lazy f from to eager fit
  whole_value _ f eager fit all = refl

  whole_fields : (ds : Data) (fs : List FieldType) → list_any is_lazy_type fs ≡ false → fit fs ds ≡ true → list_all is_eager_kind (kinds_in ds) ≡ true → is_whole_in ds ≡ true
  whole_fields none fs eager is all = refl
  whole_fields (more d ds) [] eager is all = cc
  whole_fields (more d ds) (f ∷ fs) eager is all =
      let apart = neither (is_lazy_type f) (list_any is_lazy_type fs) eager in
      let each = split_first d ds all in
      both (is_whole_at d) (is_whole_in ds)
      (whole_value d f apart.0 (and_first (fits f d) (fit fs ds) is) (and_first (list_all is_eager_kind (kinds_at d)) (list_all is_eager_kind (kinds_in ds)) each))
      (whole_fields ds fs apart.1 (and_second (fits f d) (fit fs ds) is) (and_second (list_all is_eager_kind (kinds_at d)) (list_all is_eager_kind (kinds_in ds)) each))

  whole_items : (ds : Data) (u : Union) (holes : Bool) → items_fit u holes ds ≡ true → list_all is_eager_kind (kinds_in ds) ≡ true → is_whole_in ds ≡ true
  whole_items none u holes is all = refl
  whole_items (more d ds) u holes is all =
      let each = split_first d ds all in
      both (is_whole_at d) (is_whole_in ds)
      (whole_value d (item_type u holes) (item_eager u holes) (and_first (fits (item_type u holes) d) (items_fit u holes ds) is) (and_first (list_all is_eager_kind (kinds_at d)) (list_all is_eager_kind (kinds_in ds)) each))
      (whole_items ds u holes (and_second (fits (item_type u holes) d) (items_fit u holes ds) is) (and_second (list_all is_eager_kind (kinds_at d)) (list_all is_eager_kind (kinds_in ds)) each))

-- a tree without lazy kinds is whole
pub eager_is_whole : (t : Tree) → typed t ≡ true → first_lazy t ≡ None → is_whole t ≡ true
eager_is_whole t fit is = whole_tree t fit (all_eager 0 (kinds_of t) is)
