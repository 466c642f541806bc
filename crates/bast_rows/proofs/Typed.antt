-- The nodes among the values of a well-typed node are well typed.
use Rattle.std.proofs.Common.{◌≡◌, Bool, true, List, [], ◌∷◌, refl}
use Rattle.bast_schema.specs.declared.kind.FieldType.{FieldType}
use Rattle.bast_schema.specs.declared.kind.FieldType.TheVariants as field
use Rattle.bast_schema.specs.declared.kind.Union.{Union}
use Rattle.bast_schema.specs.Tree.{Tree, Datum, child, listed, Data, none, more, fits, fit, items_fit, item_type, typed, kind_of}
use Rattle.bast_schema.specs.Unions.{allowed}
use Rattle.bast_schema.proofs.Both.{and_first, and_second, both}
use Rattle.bast_rows.specs.Made.{made_at, all_made}

-- a node that fits is well typed, and the items of a list that fits fit
child_fits : (f : FieldType) (t : Tree) → fits f (child t) ≡ true → typed t ≡ true
child_fits (field.Node u) t h = and_second (allowed u (kind_of t)) (typed t) h
child_fits (field.Optional u) t h = and_second (allowed u (kind_of t)) (typed t) h
child_fits (field.Lazy u) t h = and_second (allowed u (kind_of t)) (typed t) h
child_fits _ t h = cc

record ItemsFit (ds : Data) : Type 0 where
  union : Union
  holes : Bool
  fit : items_fit union holes ds ≡ true

list_fits : (f : FieldType) (ds : Data) → fits f (listed ds) ≡ true → ItemsFit ds
list_fits (field.List u holes filled) ds h = record { union = u; holes = holes; fit = and_second _ _ h }
list_fits _ ds h = cc

mutual
  made_where_fits : (f : FieldType) (d : Datum) → fits f d ≡ true → made_at d ≡ true
  made_where_fits f (child t) h = child_fits f t h
  made_where_fits f (listed ds) h = let l : ItemsFit ds = list_fits f ds h in made_items l.union l.holes ds l.fit
  made_where_fits f _ h = refl

  made_items : (u : Union) (holes : Bool) (ds : Data) → items_fit u holes ds ≡ true → all_made ds ≡ true
  made_items u holes none h = refl
  made_items u holes (more d ds) h = both (made_at d) (all_made ds) (made_where_fits (item_type u holes) d (and_first _ _ h)) (made_items u holes ds (and_second (fits (item_type u holes) d) _ h))

pub made_fields : (ts : List FieldType) (ds : Data) → fit ts ds ≡ true → all_made ds ≡ true
made_fields [] none h = refl
made_fields [] (more d ds) h = cc
made_fields (t ∷ ts) none h = cc
made_fields (t ∷ ts) (more d ds) h = both (made_at d) (all_made ds) (made_where_fits t d (and_first (fits t d) (fit ts ds) h)) (made_fields ts ds (and_second (fits t d) (fit ts ds) h))
