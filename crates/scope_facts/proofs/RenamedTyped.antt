-- A renamed tree is as well typed as the tree.
use Rattle.std.proofs.Common.{ℕ, List, [], ◌∷◌, ◌≡◌, Bool, refl}
use Rattle.bast_schema.specs.declared.kind.Union.{Union}
use Rattle.bast_schema.specs.declared.kind.FieldType.{FieldType}
use Rattle.bast_schema.specs.declared.kind.FieldType.TheVariants as field
use Rattle.bast_schema.specs.Fields.{fields}
use Rattle.bast_schema.specs.Tree.{Tree, branch, Datum, child, listed, name, Data, none, more, typed, fits, fit, items_fit, item_type, is_none, kind_of}
use Rattle.scope_facts.specs.Renamed.{renamed, renamed_at, renamed_in}

pub kind_renamed : (r : ℕ → ℕ) (t : Tree) → kind_of (renamed r t) ≡ kind_of t
kind_renamed r (branch k ds) = refl

none_renamed : (r : ℕ → ℕ) (ds : Data) → is_none (renamed_in r ds) ≡ is_none ds
none_renamed r none = refl
none_renamed r (more d ds) = refl

mutual
  pub typed_renamed : (r : ℕ → ℕ) (t : Tree) → typed (renamed r t) ≡ typed t
  typed_renamed r (branch k ds) = fit_renamed r (fields k) ds

  pub fits_renamed : (r : ℕ → ℕ) (t : FieldType) (d : Datum) → fits t (renamed_at r d) ≡ fits t d
  fits_renamed r (field.Node u) (child t) = rw (kind_renamed r t, typed_renamed r t) refl
  fits_renamed r (field.Optional u) (child t) = rw (kind_renamed r t, typed_renamed r t) refl
  fits_renamed r (field.Lazy u) (child t) = rw (kind_renamed r t, typed_renamed r t) refl
  fits_renamed r (field.List u holes nonempty) (listed ds) = rw (none_renamed r ds, items_renamed r u holes ds) refl
  fits_renamed r _ (child t) = refl
  fits_renamed r _ (listed ds) = refl
  fits_renamed r _ (name n) = refl
  fits_renamed r _ _ = refl

  pub fit_renamed : (r : ℕ → ℕ) (ts : List FieldType) (ds : Data) → fit ts (renamed_in r ds) ≡ fit ts ds
  fit_renamed r [] none = refl
  fit_renamed r [] (more d ds) = refl
  fit_renamed r (t ∷ ts) none = refl
  fit_renamed r (t ∷ ts) (more d ds) = rw (fits_renamed r t d, fit_renamed r ts ds) refl

  pub items_renamed : (r : ℕ → ℕ) (u : Union) (holes : Bool) (ds : Data) → items_fit u holes (renamed_in r ds) ≡ items_fit u holes ds
  items_renamed r u holes none = refl
  items_renamed r u holes (more d ds) = rw (fits_renamed r (item_type u holes) d, items_renamed r u holes ds) refl
