-- What a value that fits its type is.
use Rattle.std.proofs.Common.{◌≡◌, ℕ, Bool, true, false, not, ◌||◌, refl}
use Rattle.bast_schema.specs.declared.kind.Union.{Union}
use Rattle.bast_schema.specs.declared.kind.FieldType.{FieldType}
use Rattle.bast_schema.specs.declared.kind.FieldType.TheVariants as field
use Rattle.bast_schema.specs.Fields.{is_lazy_type}
use Rattle.bast_schema.specs.Tree.{Tree, Datum, child, listed, window, Data, kind_of, is_none, typed, fits, item_type, items_fit}
use Rattle.bast_schema.specs.Unions.{allowed}
use Rattle.bast_schema.proofs.Both.{and_second}
use Rattle.container.specs.Folded.{is_folded}

-- a node that is a value of a fitting type is well typed
pub child_fits : (f : FieldType) (t : Tree) → fits f (child t) ≡ true → typed t ≡ true
child_fits (field.Node u) t is = and_second (allowed u (kind_of t)) (typed t) is
child_fits (field.Optional u) t is = and_second (allowed u (kind_of t)) (typed t) is
child_fits (field.Lazy u) t is = and_second (allowed u (kind_of t)) (typed t) is
child_fits _ t is = cc

-- where items stand, they are those of a list
pub listed_fits : (f : FieldType) (ds : Data) → fits f (listed ds) ≡ true → (u : Union) × (holes : Bool) × (items_fit u holes ds ≡ true)
listed_fits (field.List u holes filled) ds is = (u, holes, and_second (not filled || not (is_none ds)) (items_fit u holes ds) is)
listed_fits _ ds is = cc

abbrev pub is_window : Datum → Bool
is_window (window from to) = true
is_window _ = false

-- an item is no window
pub item_window : (u : Union) (holes : Bool) (d : Datum) → fits (item_type u holes) d ≡ true → is_window d ≡ false
item_window u true (window from to) is = cc
item_window u false (window from to) is = cc
item_window u holes _ is = refl

-- in a lazy field stands a window, or a node
pub folded_lazy : (f : FieldType) (d : Datum) → fits f d ≡ true → is_folded f d ≡ true → is_window d ≡ false → is_lazy_type f ≡ false
folded_lazy (field.Lazy u) (child t) is plain other = cc
folded_lazy (field.Lazy u) _ is plain other = cc
folded_lazy _ d is plain other = refl

-- an item is not lazy, and a window is
pub item_eager : (u : Union) (holes : Bool) → is_lazy_type (item_type u holes) ≡ false
item_eager u true = refl
item_eager u false = refl

pub window_lazy : (f : FieldType) (from to : ℕ) → is_lazy_type f ≡ false → fits f (window from to) ≡ true → false ≡ true
window_lazy (field.Lazy u) from to eager is = cc
window_lazy _ from to eager is = cc
