-- Why the tests on sorts mean what they say.
use Rattle.std.proofs.Common.{◌≡◌, ℕ, Bool, true, false, not, ◌&&◌, ◌||◌, ◌⊎◌, inl, inr, List, [], ◌∷◌, ◌++◌, Some, refl, ap, ◌∙◌, subst}
use Rattle.std.specs.List.{list_all, list_any}
use lib.Dec.{eqb}
use Rattle.std.proofs.lemmas.Bool.{eqb-true}
use Rattle.bast_schema.specs.declared.kind.EnumId.{EnumId}
use Rattle.bast_schema.specs.declared.kind.EnumId.TheVariants as sets
use Rattle.bast_schema.specs.declared.kind.FieldType.{FieldType}
use Rattle.bast_schema.specs.declared.kind.FieldType.TheVariants as field
use Rattle.bast_schema.specs.declared.kind.Kind.{Kind}
use Rattle.bast_schema.specs.declared.kind.Union.{Union}
use Rattle.bast_schema.specs.Counts.{join}
use Rattle.bast_schema.specs.Kinds.{number}
use Rattle.bast_schema.specs.Tree.{Datum, child, absent, listed, name, Data, none, more, kind_of, fits, fit, is_none, items_fit, item_type}
use Rattle.bast_schema.specs.Unions.{allowed, kinds_in}
use Rattle.js_tree_laws.proofs.Sorts.{Sort, Of, Missing, Empty, Fits, Rest, Nothing, Many, Maybe, Clauses, Parameters, RestIs, Holds, case, default, parameter, last_parameter, within, same_set, leads, suits, suit, rest_within, behind_within, shape_within, is_filled, all_suit, wrapped, wrapped_if, sorts_of}

pub and_left : (a b : Bool) → (a && b) ≡ true → a ≡ true
and_left true b e = refl
and_left false b e = e

pub and_right : (a b : Bool) → (a && b) ≡ true → b ≡ true
and_right true b e = e
and_right false true e = refl
and_right false false e = e

pub both : (a b : Bool) → a ≡ true → b ≡ true → (a && b) ≡ true
both true b e f = f
both false b e f = e

pub either : (a b : Bool) → (a || b) ≡ true → (a ≡ true) ⊎ (b ≡ true)
either true b e = inl refl
either false b e = inr e

pub three : (a b c : Bool) → (a && b && c) ≡ true → (a ≡ true) × (b ≡ true) × (c ≡ true)
three true true true e = (refl, refl, refl)
three _ _ _ e = cc

abbrev has_number : Union → ℕ → Bool
has_number u n = list_any (λ i. eqb (number i) n) (kinds_in u)

within_from : (js : List Kind) (u : Union) (n : ℕ) → list_all (λ j. has_number u (number j)) js ≡ true → list_any (λ i. eqb (number i) n) js ≡ true → has_number u n ≡ true
within_from [] u n all some = absurd (let e : false ≡ true = some in cc)
within_from (j ∷ js) u n all some =
    elim (either (eqb (number j) n) _ some) [
      | inl e ↦ subst (λ k. has_number u k ≡ true) (eqb-true (number j) n e) (and_left (has_number u (number j)) _ all)
      | inr e ↦ within_from js u n (and_right (has_number u (number j)) _ all) e
    ]

pub within_allowed : (v u : Union) (k : Kind) → within v u ≡ true → allowed v k ≡ true → allowed u k ≡ true
within_allowed v u k all some = within_from (kinds_in v) u (number k) all some

node_within : (v u : Union) (d : Datum) → within v u ≡ true → fits (field.Node v) d ≡ true → fits (field.Node u) d ≡ true
node_within v u (child t) w e = both _ _ (within_allowed v u (kind_of t) w (and_left (allowed v (kind_of t)) _ e)) (and_right (allowed v (kind_of t)) _ e)
node_within v u _ w e = cc

node_optional : (u : Union) (d : Datum) → fits (field.Node u) d ≡ true → fits (field.Optional u) d ≡ true
node_optional u (child t) e = e
node_optional u _ e = cc

optional_within : (v u : Union) (d : Datum) → within v u ≡ true → fits (field.Optional v) d ≡ true → fits (field.Optional u) d ≡ true
optional_within v u (child t) w e = node_within v u (child t) w e
optional_within v u absent w e = refl
optional_within v u _ w e = cc

item_within : (v u : Union) (h g : Bool) (d : Datum) → within v u ≡ true → leads h g ≡ true → fits (item_type v h) d ≡ true → fits (item_type u g) d ≡ true
item_within v u true true d w l e = optional_within v u d w e
item_within v u true false d w l e = cc
item_within v u false true d w l e = node_optional u d (node_within v u d w e)
item_within v u false false d w l e = node_within v u d w e

items_within : (v u : Union) (h g : Bool) (ds : Data) → within v u ≡ true → leads h g ≡ true → items_fit v h ds ≡ true → items_fit u g ds ≡ true
items_within v u h g none w l e = refl
items_within v u h g (more d ds) w l e = both _ _ (item_within v u h g d w l (and_left _ _ e)) (items_within v u h g ds w l (and_right (fits (item_type v h) d) _ e))

filled_within : (a b c : Bool) → leads b a ≡ true → (not a || c) ≡ true → (not b || c) ≡ true
filled_within true true c l e = e
filled_within a false c l e = refl
filled_within false true c l e = cc

list_within : (v u : Union) (h f g e : Bool) (d : Datum) → (within v u && leads h g && leads e f) ≡ true → fits (field.List v h f) d ≡ true → fits (field.List u g e) d ≡ true
list_within v u h f g e (listed ds) w is =
    both _ _ (filled_within f e (not (is_none ds)) (and_right (within v u && leads h g) _ w) (and_left _ _ is))
    (items_within v u h g ds (and_left (within v u) _ (and_left (within v u && leads h g) _ w)) (and_right (within v u) _ (and_left (within v u && leads h g) _ w)) (and_right (not f || not (is_none ds)) _ is))
list_within v u h f g e _ w is = cc

text_name : (d : Datum) → fits field.Text d ≡ true → fits field.Name d ≡ true
text_name (name n) e = refl
text_name _ e = cc

text_label : (d : Datum) → fits field.Text d ≡ true → fits field.Label d ≡ true
text_label (name n) e = refl
text_label _ e = cc

set_within : (e f : EnumId) (d : Datum) → same_set e f ≡ true → fits (field.Choice e) d ≡ true → fits (field.Choice f) d ≡ true
set_within sets.UnaryOperator sets.UnaryOperator d s is = is
set_within sets.UpdateOperator sets.UpdateOperator d s is = is
set_within sets.BinaryOperator sets.BinaryOperator d s is = is
set_within sets.CompoundOperator sets.CompoundOperator d s is = is
set_within sets.LexicalKind sets.LexicalKind d s is = is
set_within sets.ForKind sets.ForKind d s is = is
set_within _ _ d s is = cc

empty_list : (u : Union) (h f : Bool) → not f ≡ true → fits (field.List u h f) (listed none) ≡ true
empty_list u h true e = cc
empty_list u h false e = refl

-- what is of the sort is of the type
pub suits_sound : (s : Sort) (t : FieldType) (d : Datum) → suits s t ≡ true → Fits s d → fits t d ≡ true
suits_sound (Of (field.Node v)) (field.Node u) d w is = node_within v u d w is
suits_sound (Of (field.Node v)) (field.Optional u) d w is = node_optional u d (node_within v u d w is)
suits_sound (Of (field.Optional v)) (field.Optional u) d w is = optional_within v u d w is
suits_sound (Of (field.List v h f)) (field.List u g e) d w is = list_within v u h f g e d w is
suits_sound (Of field.Bool) field.Bool d w is = is
suits_sound (Of field.Whole) field.Whole d w is = is
suits_sound (Of field.Text) field.Text d w is = is
suits_sound (Of field.Text) field.Name d w is = text_name d is
suits_sound (Of field.Text) field.Label d w is = text_label d is
suits_sound (Of field.Label) field.Label d w is = is
suits_sound (Of (field.Choice e)) (field.Choice f) d w is = set_within e f d w is
suits_sound Missing (field.Optional u) d w is = ap (fits (field.Optional u)) is
suits_sound Empty (field.List u h f) d w is = ap (fits (field.List u h f)) is ∙ empty_list u h f w
suits_sound _ _ d w is = cc

-- values of these sorts fit as the fields of these types
pub suit_sound : (ss : List Sort) (ts : List FieldType) (ds : Data) → suit ss ts ≡ true → Holds ss Nothing ds → fit ts ds ≡ true
suit_sound [] [] none w is = refl
suit_sound [] [] (more d ds) w is = absurd is
suit_sound [] (t ∷ ts) ds w is = cc
suit_sound (s ∷ ss) [] ds w is = cc
suit_sound (s ∷ ss) (t ∷ ts) none w is = absurd is
suit_sound (s ∷ ss) (t ∷ ts) (more d ds) w is = both _ _ (suits_sound s t d (and_left _ _ w) is.0) (suit_sound ss ts ds (and_right (suits s t) _ w) is.1)

-- values behind others
pub joined : (ss ts : List Sort) (r : Rest) (ds es : Data) → Holds ss Nothing ds → Holds ts r es → Holds (ss ++ ts) r (join ds es)
joined [] ts r none es is more_is = more_is
joined [] ts r (more d ds) es is more_is = absurd is
joined (s ∷ ss) ts r none es is more_is = absurd is
joined (s ∷ ss) ts r (more d ds) es is more_is = (is.0, joined ss ts r ds es is.1 more_is)

many_within : (s t : FieldType) (ds : Data) → suits (Of s) t ≡ true → RestIs (Many s) ds → RestIs (Many t) ds
many_within s t none w is = tt
many_within s t (more d ds) w is = (suits_sound (Of s) t d w is.0, many_within s t ds w is.1)

rest_sound : (q r : Rest) (ds : Data) → rest_within q r ≡ true → RestIs q ds → RestIs r ds
rest_sound Nothing Nothing ds w is = is
rest_sound Nothing (Many t) none w is = tt
rest_sound Nothing (Many t) (more d ds) w is = absurd is
rest_sound Nothing (Maybe t) none w is = tt
rest_sound Nothing (Maybe t) (more d ds) w is = absurd is
rest_sound Nothing Clauses none w is = tt
rest_sound Nothing Clauses (more d ds) w is = absurd is
rest_sound (Many s) (Many t) ds w is = many_within s t ds w is
rest_sound (Maybe s) (Maybe t) none w is = tt
rest_sound (Maybe s) (Maybe t) (more d none) w is = suits_sound (Of s) t d w is
rest_sound (Maybe s) (Maybe t) (more d (more e ds)) w is = absurd is
rest_sound Clauses Clauses ds w is = is
rest_sound Parameters Parameters ds w is = is
rest_sound _ _ ds w is = cc

clause : (a b : Bool) (d : Datum) (ds : Data) → (a || b) ≡ true → (a ≡ true → (fits case d ≡ true) × RestIs Clauses ds) → (b ≡ true → (fits default d ≡ true) × RestIs (Many case) ds) → RestIs Clauses (more d ds)
clause true b d ds w left right = inl (left refl)
clause false b d ds w left right = inr (right w)

before_last : (d : Datum) (ds : Data) → fits parameter d ≡ true → RestIs Parameters ds → RestIs Parameters (more d ds)
before_last d none is rest = absurd rest
before_last d (more e es) is rest = (is, rest)

behind_sound : (ss : List Sort) (q r : Rest) (ds : Data) → behind_within ss q r ≡ true → Holds ss q ds → RestIs r ds
behind_sound [] q r ds w is = rest_sound q r ds w is
behind_sound (s ∷ ss) q r none w is = absurd is
behind_sound (s ∷ ss) q (Many t) (more d ds) w is = (suits_sound s t d (and_left _ _ w) is.0, behind_sound ss q (Many t) ds (and_right (suits s t) _ w) is.1)
behind_sound (s ∷ []) Nothing (Maybe t) (more d none) w is = suits_sound s t d w is.0
behind_sound (s ∷ []) Nothing (Maybe t) (more d (more e ds)) w is = absurd is.1
behind_sound (s ∷ ss) q Clauses (more d ds) w is =
    clause (suits s case && behind_within ss q Clauses) (suits s default && behind_within ss q (Many case)) d ds w
    (λ a. (suits_sound s case d (and_left _ _ a) is.0, behind_sound ss q Clauses ds (and_right (suits s case) _ a) is.1))
    (λ b. (suits_sound s default d (and_left _ _ b) is.0, behind_sound ss q (Many case) ds (and_right (suits s default) _ b) is.1))
behind_sound (s ∷ []) Nothing Parameters (more d none) w is = suits_sound s last_parameter d w is.0
behind_sound (s ∷ []) Nothing Parameters (more d (more e ds)) w is = absurd is.1
behind_sound (s ∷ ss) q Parameters (more d ds) w is = before_last d ds (suits_sound s parameter d (and_left _ _ w) is.0) (behind_sound ss q Parameters ds (and_right (suits s parameter) _ w) is.1)
behind_sound (s ∷ ss) q _ ds w is = cc

-- values of one shape are of another
pub shape_sound : (ss : List Sort) (q : Rest) (ts : List FieldType) (r : Rest) (ds : Data) → shape_within ss q ts r ≡ true → Holds ss q ds → Holds (sorts_of ts) r ds
shape_sound ss q [] r ds w is = behind_sound ss q r ds w is
shape_sound [] q (t ∷ ts) r ds w is = cc
shape_sound (s ∷ ss) q (t ∷ ts) r none w is = absurd is
shape_sound (s ∷ ss) q (t ∷ ts) r (more d ds) w is = (suits_sound s t d (and_left _ _ w) is.0, shape_sound ss q ts r ds (and_right (suits s t) _ w) is.1)

-- the list of such values
pub node_items : (u : Union) (ds : Data) → RestIs (Many (field.Node u)) ds → items_fit u false ds ≡ true
node_items u none is = refl
node_items u (more d ds) is = both _ _ is.0 (node_items u ds is.1)

optional_items : (u : Union) (ds : Data) → RestIs (Many (field.Optional u)) ds → items_fit u true ds ≡ true
optional_items u none is = refl
optional_items u (more d ds) is = both _ _ is.0 (optional_items u ds is.1)

all_many : (ts : List FieldType) (t : FieldType) (ds : Data) → all_suit ts t ≡ true → Holds (sorts_of ts) (Many t) ds → RestIs (Many t) ds
all_many [] t ds w is = is
all_many (s ∷ ts) t none w is = absurd is
all_many (s ∷ ts) t (more d ds) w is = (suits_sound (Of s) t d (and_left _ _ w) is.0, all_many ts t ds (and_right (suits (Of s) t) _ w) is.1)

filled_list : (ts : List FieldType) (r : Rest) (ds : Data) → Holds (sorts_of ts) r ds → (not (is_filled ts) || not (is_none ds)) ≡ true
filled_list [] r ds is = refl
filled_list (t ∷ ts) r none is = absurd is
filled_list (t ∷ ts) r (more d ds) is = refl

wrapped_node : (b : Bool) (ts : List FieldType) (u : Union) (ds : Data) (t : FieldType) → all_suit ts (field.Node u) ≡ b → wrapped_if b (field.List u false (is_filled ts)) ≡ Some t → Holds (sorts_of ts) (Many (field.Node u)) ds → fits t (listed ds) ≡ true
wrapped_node true ts u ds t w e is = let same : field.List u false (is_filled ts) ≡ t = cc in subst (λ t. fits t (listed ds) ≡ true) same (both _ _ (filled_list ts _ ds is) (node_items u ds (all_many ts (field.Node u) ds w is)))
wrapped_node false ts u ds t w e is = cc

wrapped_optional : (b : Bool) (ts : List FieldType) (u : Union) (ds : Data) (t : FieldType) → all_suit ts (field.Optional u) ≡ b → wrapped_if b (field.List u true (is_filled ts)) ≡ Some t → Holds (sorts_of ts) (Many (field.Optional u)) ds → fits t (listed ds) ≡ true
wrapped_optional true ts u ds t w e is = let same : field.List u true (is_filled ts) ≡ t = cc in subst (λ t. fits t (listed ds) ≡ true) same (both _ _ (filled_list ts _ ds is) (optional_items u ds (all_many ts (field.Optional u) ds w is)))
wrapped_optional false ts u ds t w e is = cc

pub wrapped_sound : (ts : List FieldType) (r : Rest) (ds : Data) (t : FieldType) → wrapped ts r ≡ Some t → Holds (sorts_of ts) r ds → fits t (listed ds) ≡ true
wrapped_sound ts (Many (field.Node u)) ds t e is = wrapped_node _ ts u ds t refl e is
wrapped_sound ts (Many (field.Optional u)) ds t e is = wrapped_optional _ ts u ds t refl e is
wrapped_sound ts _ ds t e is = cc
