-- Walks over a list of values that take the list.
use Rattle.std.proofs.Common.{List, [], ◌∷◌, ◌++◌, ◌≡◌, ◌<◌, ◌≤◌, Bool, true, false, ◌||◌, refl, ap, sym, ◌∙◌, arith, subst, append_assoc}
use Rattle.bast_schema.specs.Tree.{Datum, Data, none, more, weight_at, weight_in, depth_at, depth_in}
use Rattle.bast_schema.specs.Counts.{size_at, size_in, join, is_whole_at, is_whole_in}
use Rattle.bast_schema.specs.View.{datum, data_of}
use Rattle.bast_schema.specs.declared.node.Value.{Value}
use Rattle.bast_schema.proofs.Both.{and_first, and_second}

data_of_last : (vs : List Value) (v : Value) → data_of (vs ++ v ∷ []) ≡ join (data_of vs) (more (datum v) none)
data_of_last [] v = refl
data_of_last (w ∷ vs) v = ap (more (datum w)) (data_of_last vs v)

-- a map of values one after the other: one more value

map_join : (F : Data → Data) (f : Datum → Datum) → F none ≡ none → ((d : Datum) (ds : Data) → F (more d ds) ≡ more (f d) (F ds)) → (ds : Data) (d : Datum) → F (join ds (more d none)) ≡ join (F ds) (more (f d) none)
map_join F f z g none d = rw (g d none, z) refl
map_join F f z g (more c ds) d = rw (g c (join ds (more d none)), map_join F f z g ds d, g c ds) refl

pub mapped_step : (F : Data → Data) (f : Datum → Datum) → F none ≡ none → ((d : Datum) (ds : Data) → F (more d ds) ≡ more (f d) (F ds)) → (ys done : List Value) (v r : Value)
    → data_of done ≡ F (data_of ys) → datum r ≡ f (datum v) → data_of (done ++ r ∷ []) ≡ F (data_of (ys ++ v ∷ []))
mapped_step F f z g ys done v r p q = data_of_last done r ∙ rw (p, q) (sym (map_join F f z g (data_of ys) (datum v))) ∙ sym (ap F (data_of_last ys v))

-- a test of one of the values: one more value

pub or_assoc : (a b c : Bool) → (a || (b || c)) ≡ ((a || b) || c)
or_assoc true b c = refl
or_assoc false b c = refl

or_end : (a : Bool) → (a || false) ≡ a
or_end true = refl
or_end false = refl

pub any_last : (F : Data → Bool) (f : Datum → Bool) → F none ≡ false → ((d : Datum) (ds : Data) → F (more d ds) ≡ (f d || F ds)) → (ys : List Value) (v : Value) → F (data_of (ys ++ v ∷ [])) ≡ (F (data_of ys) || f (datum v))
any_last F f z g [] v = rw (g (datum v) none, z) (or_end (f (datum v)))
any_last F f z g (w ∷ ys) v = rw (g (datum w) (data_of (ys ++ v ∷ [])), any_last F f z g ys v, g (datum w) (data_of ys)) (or_assoc (f (datum w)) (F (data_of ys)) (f (datum v)))

-- what is true of values that begin with a value, and stays true with more before them, is true where the value is reached

front : (P : Data → Type 0) (v : Value) → ((ds : Data) → P (more (datum v) ds)) → ((d : Datum) (ds : Data) → P ds → P (more d ds)) → (ys zs : List Value) → P (data_of (ys ++ v ∷ zs))
front P v here on [] zs = here (data_of zs)
front P v here on (w ∷ ys) zs = on (datum w) (data_of (ys ++ v ∷ zs)) (front P v here on ys zs)

reached : (P : Data → Type 0) (v : Value) → ((ds : Data) → P (more (datum v) ds)) → ((d : Datum) (ds : Data) → P ds → P (more d ds)) → (ys rest zs vs : List Value) → ys ++ rest ≡ vs → rest ≡ v ∷ zs → P (data_of vs)
reached P v here on ys rest zs vs e f = subst (λ us. P (data_of us)) (ap (λ r. ys ++ r) (sym f) ∙ e) (front P v here on ys zs)

pub item_weighs : (ys rest zs vs : List Value) (v : Value) → ys ++ rest ≡ vs → rest ≡ v ∷ zs → weight_at (datum v) < weight_in (data_of vs)
item_weighs ys rest zs vs v = reached (λ ds. weight_at (datum v) < weight_in ds) v (λ ds. omega arith) (λ d ds h. omega arith) ys rest zs vs

pub item_size : (ys rest zs vs : List Value) (v : Value) → ys ++ rest ≡ vs → rest ≡ v ∷ zs → size_at (datum v) ≤ size_in (data_of vs)
item_size ys rest zs vs v = reached (λ ds. size_at (datum v) ≤ size_in ds) v (λ ds. omega arith) (λ d ds h. omega arith) ys rest zs vs

pub item_depth : (ys rest zs vs : List Value) (v : Value) → ys ++ rest ≡ vs → rest ≡ v ∷ zs → depth_at (datum v) ≤ depth_in (data_of vs)
item_depth ys rest zs vs v = reached (λ ds. depth_at (datum v) ≤ depth_in ds) v (λ ds. omega arith) (λ d ds h. omega arith) ys rest zs vs

pub item_whole : (ys rest zs vs : List Value) (v : Value) → ys ++ rest ≡ vs → rest ≡ v ∷ zs → is_whole_in (data_of vs) ≡ true → is_whole_at (datum v) ≡ true
item_whole ys rest zs vs v = reached (λ ds. is_whole_in ds ≡ true → is_whole_at (datum v) ≡ true) v (λ ds. and_first (is_whole_at (datum v)) (is_whole_in ds)) (λ d ds h g. h (and_second (is_whole_at d) (is_whole_in ds) g)) ys rest zs vs

pub step_on : (ys rest zs vs : List Value) (v : Value) → ys ++ rest ≡ vs → rest ≡ v ∷ zs → (ys ++ v ∷ []) ++ zs ≡ vs
step_on ys rest zs vs v e f = append_assoc ys (v ∷ []) zs ∙ ap (λ r. ys ++ r) (sym f) ∙ e
