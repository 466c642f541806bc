-- What a walk over a list of values says of the data that the list stands for.
use Rattle.std.proofs.Common.{ℕ, List, [], ◌∷◌, ◌≡◌, ◌<◌, ◌+◌, Bool, true, refl, ap, sym, length, ◌==◌, false, None, Some, ◌&&◌, zero, suc, get_or, drop, arith, drop-cons, add-one, ◌∙◌}
use Rattle.std.specs.List.{list_all}
use Rattle.bast_schema.specs.declared.kind.Union.{Union}
use Rattle.bast_schema.specs.declared.kind.FieldType.{FieldType}
use Rattle.bast_schema.specs.Tree.{Datum, Data, none, more, fits, fit, count, value_at, item_type, items_fit, is_none, first_wrong, weight_in, weight_at}
use Rattle.bast_schema.specs.View.{datum, data_of}
use Rattle.bast_schema.specs.declared.node.Value.{Value}
use Rattle.bast_schema.proofs.Both.{and_second}

pub items_fit_data_of : (u : Union) (holes : Bool) (vs : List Value) → items_fit u holes (data_of vs) ≡ list_all (λ v. fits (item_type u holes) (datum v)) vs
items_fit_data_of u holes [] = refl
items_fit_data_of u holes (v ∷ vs) = ap (λ b. fits (item_type u holes) (datum v) && b) (items_fit_data_of u holes vs)

pub is_none_data_of : (vs : List Value) → is_none (data_of vs) ≡ (length vs == 0)
is_none_data_of [] = refl
is_none_data_of (v ∷ vs) = grind arith

-- the values from a place on, where it has one
pub data_of_drop : (vs : List Value) (i : ℕ) (v : Value) → v ≡ get_or vs i v → i < length vs → data_of (drop i vs) ≡ more (datum v) (data_of (drop (i + 1) vs))
data_of_drop vs i v is within =
    let e : drop i vs ≡ v ∷ drop (i + 1) vs = drop-cons vs i v within ∙ rw (sym is, add-one) refl
    in ap data_of e

-- a value in a list weighs less than the list
pub weight_member : (vs : List Value) (i : ℕ) (v : Value) → v ≡ get_or vs i v → i < length vs → weight_at (datum v) < weight_in (data_of vs)
weight_member [] i v is within = absurd (omega arith)
weight_member (w ∷ vs) zero v is within = rw is (omega arith)
weight_member (w ∷ vs) (suc i) v is within = let h : weight_at (datum v) < weight_in (data_of vs) = weight_member vs i v is (omega arith) in omega arith

pub wrong_goes_on : (at : ℕ) (t : FieldType) (ts : List FieldType) (d : Datum) (ds : Data) → fits t d ≡ true → first_wrong at (t ∷ ts) (more d ds) ≡ first_wrong (at + 1) ts ds
wrong_goes_on at t ts d ds e = rw e refl

-- the first wrong place, where the values before number i fit
pub wrong_missing : (at i : ℕ) (ts : List FieldType) (vs : List Value) → i < length ts → i ≡ length vs → first_wrong at (drop i ts) (data_of (drop i vs)) ≡ Some at
wrong_missing at zero [] vs less same = absurd (omega arith)
wrong_missing at zero (t ∷ ts) [] less same = refl
wrong_missing at zero (t ∷ ts) (v ∷ vs) less same = absurd (omega arith)
wrong_missing at (suc i) [] vs less same = absurd (omega arith)
wrong_missing at (suc i) (t ∷ ts) [] less same = absurd (omega arith)
wrong_missing at (suc i) (t ∷ ts) (v ∷ vs) less same = wrong_missing at i ts vs (omega arith) (omega arith)

pub wrong_here : (at i : ℕ) (ts : List FieldType) (vs : List Value) (t : FieldType) (v : Value) → i < length ts → i < length vs → v ≡ get_or vs i v → fits (get_or ts i t) (datum v) ≡ false → first_wrong at (drop i ts) (data_of (drop i vs)) ≡ Some at
wrong_here at i [] vs t v less within is bad = absurd (omega arith)
wrong_here at i (u ∷ ts) [] t v less within is bad = absurd (omega arith)
wrong_here at zero (u ∷ ts) (w ∷ vs) t v less within is bad = let e : fits u (datum w) ≡ false = ap (λ x. fits u (datum x)) (sym is) ∙ bad in rw e refl
wrong_here at (suc i) (u ∷ ts) (w ∷ vs) t v less within is bad = wrong_here at i ts vs t v (omega arith) (omega arith) is bad

pub wrong_many : (at i : ℕ) (ts : List FieldType) (vs : List Value) → i ≡ length ts → i < length vs → first_wrong at (drop i ts) (data_of (drop i vs)) ≡ Some at
wrong_many at zero [] [] same beyond = absurd (omega arith)
wrong_many at zero [] (v ∷ vs) same beyond = refl
wrong_many at zero (t ∷ ts) vs same beyond = absurd (omega arith)
wrong_many at (suc i) [] vs same beyond = absurd (omega arith)
wrong_many at (suc i) (t ∷ ts) [] same beyond = absurd (omega arith)
wrong_many at (suc i) (t ∷ ts) (v ∷ vs) same beyond = wrong_many at i ts vs (omega arith) (omega arith)

fit_more : (i : ℕ) (t : FieldType) (ts : List FieldType) (d : Datum) (ds : Data) (b : Bool) → fits t d ≡ b → first_wrong i (t ∷ ts) (more d ds) ≡ None → (first_wrong (i + 1) ts ds ≡ None → fit ts ds ≡ true) → (b && fit ts ds) ≡ true
fit_more i t ts d ds true is e rest = rest (rw is at e)
fit_more i t ts d ds false is e rest = let f : Some i ≡ None = (rw is at e) in cc

-- fields of which none is wrong fit
pub fit_where_none_wrong : (i : ℕ) (ts : List FieldType) (ds : Data) → first_wrong i ts ds ≡ None → fit ts ds ≡ true
fit_where_none_wrong i [] none e = refl
fit_where_none_wrong i [] (more d ds) e = cc
fit_where_none_wrong i (t ∷ ts) none e = cc
fit_where_none_wrong i (t ∷ ts) (more d ds) e = fit_more i t ts d ds (fits t d) refl e (fit_where_none_wrong (i + 1) ts ds)

pub count_data_of : (vs : List Value) → count (data_of vs) ≡ length vs
count_data_of [] = refl
count_data_of (v ∷ vs) = ap suc (count_data_of vs)

pub value_at_data_of : (vs : List Value) (i : ℕ) (v : Value) → v ≡ get_or vs i v → i < length vs → value_at (data_of vs) i ≡ Some (datum v)
value_at_data_of [] i v is within = absurd (omega arith)
value_at_data_of (w ∷ vs) zero v is within = ap (λ x. Some (datum x)) (sym is)
value_at_data_of (w ∷ vs) (suc i) v is within = value_at_data_of vs i v is (omega arith)

pub count_fit : (ts : List FieldType) (ds : Data) → fit ts ds ≡ true → count ds ≡ length ts
count_fit [] none e = refl
count_fit [] (more d ds) e = cc
count_fit (t ∷ ts) none e = cc
count_fit (t ∷ ts) (more d ds) e = ap suc (count_fit ts ds (and_second (fits t d) (fit ts ds) e))
