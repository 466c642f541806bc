-- What reading one value, or several, gives.
use Rattle.std.specs.Prelude.{ℕ, Bool, true, false, List, [], ◌∷◌, ◌++◌, ◌+◌, ◌-◌, ◌&&◌, ◌<◌, ◌≤◌, ◌≡◌, nat_le, slice_get, Option, Some, None, Result, Ok, Err, Vec}
use Rattle.std.specs.List.{list_all}
use Rattle.std.specs.declared.alloc.Global.{Global}
use Rattle.bast_base.specs.declared.errors.FormatFault.{FormatFault}
use Rattle.bast_base.specs.declared.errors.Halt.{Halt}
use Rattle.bast_base.specs.declared.errors.Halt.TheVariants.{Memory, Format}
use Rattle.bast_schema.specs.declared.kind.FieldType.{FieldType}
use Rattle.bast_schema.specs.declared.node.Value.{Value}
use Rattle.bast_schema.specs.Tree.{Tree, branch, Datum, child, listed, name, window, Data, none, more, fits, fit, depth_at, depth_in}
use Rattle.bast_schema.specs.View.{datum, data_of}
use Rattle.container.specs.Atoms.{atoms_of, atoms_of_fields}
use Rattle.container.specs.InFile.{has_atom}
use Rattle.container.specs.Spelled.{framed, spelled_at, spelled_fields}
use Rattle.tree_decoder.specs.Dues.{Due, due, dues}
use Rattle.container.specs.Folded.{is_folded, folded_at, folded_fields}
use Rattle.tree_decoder.specs.Outcome.{behind, outcome_from}
use Rattle.tree_decoder.specs.Range.{Range, held, left}
use Rattle.tree_decoder.specs.Windows.{windows_at, windows_in, skipped}

abbrev pub is_text : Option (Option (List ℕ)) → Bool
is_text (Some (Some text)) = true
is_text (Some None) = false
is_text None = false

-- whether each name is the place of a text, and each window a range of bytes there
abbrev mutual
  pub stands : Range → Tree → Bool
  stands r (branch k ds) = all_stand r ds

  pub stands_at : Range → Datum → Bool
  stands_at r (child t) = stands r t
  stands_at r (listed ds) = all_stand r ds
  stands_at r (name n) = is_text (slice_get r.tables.texts n)
  stands_at r (window from to) = nat_le from to && nat_le to r.end
  stands_at r _ = true

  pub all_stand : Range → Data → Bool
  all_stand r none = true
  all_stand r (more d ds) = stands_at r d && all_stand r ds

-- one value, whatever is due behind it
pub record Found (r : Range) (t : FieldType) (d : ℕ) (w : Bool) (at : ℕ) (v : Datum) (next : ℕ) : Type 0 where
  pub goes_on : (ds : List Due) → outcome_from r (due t d w ∷ ds) at ≡ behind (windows_at v) (outcome_from r ds next)
  pub spelled : left r at ≡ framed t (spelled_at r.tables (held r) t v) ++ left r next
  pub fits : fits t v ≡ true
  pub depth : depth_at v + d ≤ 513
  pub stands : stands_at r v ≡ true
  pub has_all : list_all (has_atom r.tables) (atoms_of (held r) t v) ≡ true
  pub folded : (is_folded t v && folded_at v) ≡ true
  pub forward : at < next
  pub within : next ≤ r.end

-- a value for each type
pub record Run (r : Range) (ts : List FieldType) (d : ℕ) (w : Bool) (at : ℕ) (vs : Data) (next : ℕ) : Type 0 where
  pub goes_on : (ds : List Due) → outcome_from r (dues ts d w ++ ds) at ≡ behind (windows_in vs) (outcome_from r ds next)
  pub spelled : left r at ≡ spelled_fields r.tables (held r) ts vs ++ left r next
  pub fits : fit ts vs ≡ true
  pub depth : depth_in vs + d ≤ 513
  pub stands : all_stand r vs ≡ true
  pub has_all : list_all (has_atom r.tables) (atoms_of_fields (held r) ts vs) ≡ true
  pub folded : folded_fields ts vs ≡ true
  pub forward : at ≤ next
  pub within : next ≤ r.end

-- unless memory runs out, a failure is the fault of what is due, whatever is due behind it
abbrev pub Fails : Range → List Due → ℕ → Halt → Type 0
Fails r xs at Memory = Unit {0}
Fails r xs at (Format f) = (ds : List Due) → (outcome_from r (xs ++ ds) at).fault ≡ Some f

abbrev pub Reads : Range → FieldType → ℕ → Bool → ℕ → Result (Value × ℕ) Halt → Type 0
Reads r t d w at (Ok x) = Found r t d w at (datum x.0) x.1
Reads r t d w at (Err e) = Fails r (due t d w ∷ []) at e

abbrev pub ReadsAll : Range → List FieldType → ℕ → Bool → ℕ → Result (Vec Value Global × ℕ) Halt → Type 0
ReadsAll r ts d w at (Ok x) = Run r ts d w at (data_of x.0.items) x.1
ReadsAll r ts d w at (Err e) = Fails r (dues ts d w) at e

-- a step at most for each byte from a place to the next, but none for the bytes of these windows
abbrev pub Spent : List (ℕ × ℕ) → ℕ → ℕ → ℕ → ℕ → Type 0
Spent ws at next old new = new + skipped ws ≤ old + (next - at)

-- the same of a reader, up to the range's end where it failed
abbrev pub SpentFails : Range → List Due → ℕ → ℕ → ℕ → Type 0
SpentFails r xs at old new = (ds : List Due) → Spent (outcome_from r (xs ++ ds) at).windows at r.end old new

abbrev pub Spends : Range → FieldType → ℕ → Bool → ℕ → ℕ → ℕ → Result (Value × ℕ) Halt → Type 0
Spends r t d w at old new (Ok x) = Spent (windows_at (datum x.0)) at x.1 old new
Spends r t d w at old new (Err e) = SpentFails r (due t d w ∷ []) at old new

abbrev pub SpendsAll : Range → List FieldType → ℕ → Bool → ℕ → ℕ → ℕ → Result (Vec Value Global × ℕ) Halt → Type 0
SpendsAll r ts d w at old new (Ok x) = Spent (windows_in (data_of x.0.items)) at x.1 old new
SpendsAll r ts d w at old new (Err e) = SpentFails r (dues ts d w) at old new

-- a value with no parts, or its fault
abbrev pub seen : Value × ℕ → Datum × ℕ
seen x = (datum x.0, x.1)

abbrev pub Gives : Result (Value × ℕ) FormatFault → Result (Datum × ℕ) FormatFault → Type 0
Gives (Ok x) read = read ≡ Ok (seen x)
Gives (Err e) read = read ≡ Err e

abbrev pub SpendsLeaf : Range → ℕ → ℕ → ℕ → Result (Value × ℕ) FormatFault → Type 0
SpendsLeaf r at old new (Ok x) = Spent (windows_at (datum x.0)) at x.1 old new
SpendsLeaf r at old new (Err e) = Spent [] at r.end old new

-- the same of a kind or a count
abbrev pub SpendsNumber : {A : Type 0} → Range → ℕ → ℕ → ℕ → Result (A × ℕ) FormatFault → Type 0
SpendsNumber r at old new (Ok x) = new ≤ old + (x.1 - at)
SpendsNumber r at old new (Err e) = new ≤ old + (r.end - at)
