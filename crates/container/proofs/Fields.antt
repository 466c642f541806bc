-- The atoms of fields and of items, one after another.
use Rattle.std.proofs.Common.{ℕ, List, [], ◌∷◌, ◌++◌, ◌≡◌, ◌<◌, ◌+◌, zero, suc, length, get_or, drop, refl, false, ap, sym, arith, add-one}
use Rattle.bast_schema.specs.declared.kind.FieldType.{FieldType}
use Rattle.bast_schema.specs.declared.kind.FieldType.TheVariants as field
use Rattle.bast_schema.specs.declared.kind.Union.TheVariants.{Body}
use Rattle.bast_schema.specs.Fields.{is_lazy_type}
use Rattle.bast_schema.specs.Held.{Held}
use Rattle.bast_schema.specs.View.{datum, data_of}
use Rattle.bast_schema.specs.declared.node.Value.{Value}
use Rattle.bast_schema.proofs.Lists.{data_of_drop}
use Rattle.container.specs.Spelled.{framed}
use Rattle.container.specs.Atoms.{atoms_of, atoms_of_fields, atoms_of_items}

atoms_step : (h : Held) (ts : List FieldType) (vs : List Value) (i : ℕ) (t : FieldType) (v : Value) → i < length ts → i < length vs → v ≡ get_or vs i v
    → atoms_of_fields h (drop i ts) (data_of (drop i vs)) ≡ atoms_of h (get_or ts i t) (datum v) ++ atoms_of_fields h (drop (suc i) ts) (data_of (drop (suc i) vs))
atoms_step h [] vs i t v lt within is = absurd (omega arith)
atoms_step h (u ∷ ts) [] i t v lt within is = absurd (omega arith)
atoms_step h (u ∷ ts) (w ∷ vs) zero t v lt within is = ap (λ x. atoms_of h u (datum x) ++ atoms_of_fields h ts (data_of vs)) (sym is)
atoms_step h (u ∷ ts) (w ∷ vs) (suc i) t v lt within is = atoms_step h ts vs i t v (omega arith) (omega arith) is

-- the atoms from a field on are those of the field and those behind it
pub atoms_of_fields_drop : (h : Held) (ts : List FieldType) (vs : List Value) (i : ℕ) (t : FieldType) (v : Value) → i < length ts → i < length vs → v ≡ get_or vs i v
    → atoms_of_fields h (drop i ts) (data_of (drop i vs)) ≡ atoms_of h (get_or ts i t) (datum v) ++ atoms_of_fields h (drop (i + 1) ts) (data_of (drop (i + 1) vs))
atoms_of_fields_drop h ts vs i t v lt within is = rw add-one (atoms_step h ts vs i t v lt within is)

no_atoms : (h : Held) (vs : List Value) → atoms_of_fields h [] (data_of vs) ≡ []
no_atoms h [] = refl
no_atoms h (v ∷ vs) = refl

-- behind the last value there are none
pub atoms_of_fields_past : (h : Held) (ts : List FieldType) (vs : List Value) (i : ℕ) → i ≡ length vs → atoms_of_fields h (drop i ts) (data_of (drop i vs)) ≡ []
atoms_of_fields_past h [] [] zero is = refl
atoms_of_fields_past h (t ∷ ts) [] zero is = refl
atoms_of_fields_past h ts (v ∷ vs) zero is = absurd (omega arith)
atoms_of_fields_past h ts [] (suc i) is = absurd (omega arith)
atoms_of_fields_past h [] (v ∷ vs) (suc i) is = no_atoms h (drop i vs)
atoms_of_fields_past h (t ∷ ts) (v ∷ vs) (suc i) is = atoms_of_fields_past h ts vs i (omega arith)

pub atoms_of_items_drop : (h : Held) (vs : List Value) (i : ℕ) (v : Value) → v ≡ get_or vs i v → i < length vs
    → atoms_of_items h (data_of (drop i vs)) ≡ atoms_of h (field.Optional Body) (datum v) ++ atoms_of_items h (data_of (drop (i + 1) vs))
atoms_of_items_drop h vs i v is within = ap (atoms_of_items h) (data_of_drop vs i v is within)

-- only what is lazy has the frame of a window
pub unframed : (t : FieldType) (bytes : List ℕ) → is_lazy_type t ≡ false → framed t bytes ≡ bytes
unframed (field.Lazy u) bytes e = cc
unframed _ bytes e = refl
