-- What a tree that is well typed says of its values.
use Rattle.std.proofs.Common.{ℕ, List, [], ◌∷◌, ◌≡◌, ◌<◌, ◌≤◌, ◌+◌, Bool, true, false, refl, ap, ◌∙◌, None, Some, Ok, Err, ◌||◌, zero, suc, arith, drop, nat_lt, if◌then◌else◌}
use Rattle.std.specs.List.{slice_get}
use Rattle.std.proofs.lemmas.Bool.Decides.{nat_tests}
use Rattle.bast_schema.specs.declared.kind.Kind.{Kind}
use Rattle.bast_schema.specs.declared.kind.Union.{Union}
use Rattle.bast_schema.specs.declared.kind.Union.TheVariants.{One}
use Rattle.bast_schema.specs.declared.kind.FieldType.{FieldType}
use Rattle.bast_schema.specs.declared.kind.FieldType.TheVariants as field
use Rattle.bast_schema.specs.declared.node.NodeFault.TheVariants.{TooDeep}
use Rattle.bast_schema.specs.declared.node.Value.{Value}
use Rattle.bast_schema.specs.Fields.{fields}
use Rattle.bast_schema.specs.Kinds.{same_kind}
use Rattle.bast_schema.specs.Unions.{allowed}
use Rattle.bast_schema.specs.Made.{node_of, node_or}
use Rattle.bast_schema.specs.Tree.{Tree, branch, Datum, child, Data, none, more, kind_of, typed, fits, fit, count, value_at, item_type, items_fit, first_wrong, depth}
use Rattle.bast_schema.specs.View.{datum, data_of}
use Rattle.bast_schema.proofs.Both.{and_first, and_second}
use Rattle.bast_schema.proofs.EachKind.{same_kind_true}

-- a place that has a value is below the count, and a place below it has one
pub value_within : (ds : Data) (i : ℕ) (d : Datum) → value_at ds i ≡ Some d → i < count ds
value_within none i d h = cc
value_within (more e ds) zero d h = omega arith
value_within (more e ds) (suc i) d h = let r : i < count ds = value_within ds i d h in omega arith

pub value_there : (ds : Data) (i : ℕ) → i < count ds → (d : Datum) × (value_at ds i ≡ Some d)
value_there none i h = absurd (omega arith)
value_there (more d ds) zero h = (d, refl)
value_there (more d ds) (suc i) h = value_there ds i (omega arith)

-- the value at a place is of the type there
pub fits_at : (ts : List FieldType) (ds : Data) (i : ℕ) (t : FieldType) (d : Datum) → fit ts ds ≡ true → slice_get ts i ≡ Some t → value_at ds i ≡ Some d → fits t d ≡ true
fits_at [] none i t d h is there = cc
fits_at [] (more e ds) i t d h is there = cc
fits_at (u ∷ ts) none i t d h is there = cc
fits_at (u ∷ ts) (more e ds) zero t d h is there =
    let one : t ≡ u = cc
    in let other : d ≡ e = cc
    in ap (λ x. fits x d) one ∙ ap (fits u) other ∙ and_first (fits u e) (fit ts ds) h
fits_at (u ∷ ts) (more e ds) (suc i) t d h is there = fits_at ts ds i t d (and_second (fits u e) (fit ts ds) h) is there

pub item_fits_at : (u : Union) (holes : Bool) (ds : Data) (i : ℕ) (d : Datum) → items_fit u holes ds ≡ true → value_at ds i ≡ Some d → fits (item_type u holes) d ≡ true
item_fits_at u holes none i d h there = cc
item_fits_at u holes (more e ds) zero d h there =
    let same : d ≡ e = cc
    in ap (fits (item_type u holes)) same ∙ and_first (fits (item_type u holes) e) (items_fit u holes ds) h
item_fits_at u holes (more e ds) (suc i) d h there = item_fits_at u holes ds i d (and_second (fits (item_type u holes) e) (items_fit u holes ds) h) there

-- what is left of the values fits what is left of the types
pub fit_drop : (ts : List FieldType) (vs : List Value) (i : ℕ) → fit ts (data_of vs) ≡ true → fit (drop i ts) (data_of (drop i vs)) ≡ true
fit_drop ts vs zero h = h
fit_drop [] [] (suc i) h = refl
fit_drop [] (v ∷ vs) (suc i) h = cc
fit_drop (t ∷ ts) [] (suc i) h = cc
fit_drop (t ∷ ts) (v ∷ vs) (suc i) h = fit_drop ts vs i (and_second (fits t (datum v)) (fit ts (data_of vs)) h)

pub items_fit_drop : (u : Union) (holes : Bool) (vs : List Value) (i : ℕ) → items_fit u holes (data_of vs) ≡ true → items_fit u holes (data_of (drop i vs)) ≡ true
items_fit_drop u holes vs zero h = h
items_fit_drop u holes [] (suc i) h = refl
items_fit_drop u holes (v ∷ vs) (suc i) h = items_fit_drop u holes vs i (and_second (fits (item_type u holes) (datum v)) (items_fit u holes (data_of vs)) h)

-- a child that fits is well typed and of a kind of the union
pub child_allowed : (u : Union) (t : Tree) → fits (field.Node u) (child t) ≡ true → allowed u (kind_of t) ≡ true
child_allowed u t h = and_first (allowed u (kind_of t)) (typed t) h

pub child_typed : (u : Union) (t : Tree) → fits (field.Node u) (child t) ≡ true → typed t ≡ true
child_typed u t h = and_second (allowed u (kind_of t)) (typed t) h

or_false : (b : Bool) → (b || false) ≡ true → b ≡ true
or_false true h = refl
or_false false h = cc

pub allowed_one : (j k : Kind) → allowed (One j) k ≡ true → j ≡ k
allowed_one j k h = same_kind_true j k (or_false (same_kind j k) h)

-- fields that fit have no wrong place
pub none_wrong_where_fit : (i : ℕ) (ts : List FieldType) (ds : Data) → fit ts ds ≡ true → first_wrong i ts ds ≡ None
none_wrong_where_fit i [] none h = refl
none_wrong_where_fit i [] (more d ds) h = cc
none_wrong_where_fit i (t ∷ ts) none h = cc
none_wrong_where_fit i (t ∷ ts) (more d ds) h =
    ap (λ b. if b then first_wrong (i + 1) ts ds else Some i) (and_first (fits t d) (fit ts ds) h)
    ∙ none_wrong_where_fit (i + 1) ts ds (and_second (fits t d) (fit ts ds) h)

within_limit : (n : ℕ) → n ≤ 512 → nat_lt 512 n ≡ false
within_limit n h = grind (arith, nat_tests)

-- so they make a node, where it is not too deep
pub made_where_fit : (k : Kind) (ds : Data) → fit (fields k) ds ≡ true → depth (branch k ds) ≤ 512 → node_of k ds ≡ Ok (branch k ds)
made_where_fit k ds h less =
    ap (λ o. node_or o (branch k ds)) (none_wrong_where_fit 0 (fields k) ds h)
    ∙ ap (λ b. if b then Err TooDeep else Ok (branch k ds)) (within_limit (depth (branch k ds)) less)
