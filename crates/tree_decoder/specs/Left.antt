-- What is due after a list of atoms, each of which has to be of the first due's type, whatever its depth.
use Rattle.std.specs.Prelude.{ℕ, Bool, true, ◌&&◌, ◌^◌, ◌≡◌, not, nat_eq, nat_lt, is_some, List, [], ◌∷◌, ◌++◌, Option, None, Some, IsTrue, if◌then◌else◌}
use Rattle.bast_schema.specs.declared.kind.FieldType.{FieldType}
use Rattle.bast_schema.specs.declared.kind.FieldType.TheVariants as field
use Rattle.bast_schema.specs.declared.kind.Kind.TheVariants.{Null}
use Rattle.bast_schema.specs.Choices.{choice_of_text}
use Rattle.bast_schema.specs.Fields.{fields, has_lazy}
use Rattle.bast_schema.specs.Held.{Held}
use Rattle.bast_schema.specs.Kinds.{same_kind}
use Rattle.bast_schema.specs.Tree.{Datum, fits, item_type}
use Rattle.bast_schema.specs.Unions.{allowed}
use Rattle.container.specs.Folded.{is_folded, folded_at}
use Rattle.container.specs.Atoms.{Atom, kind, count, flag, index, whole, text, window, atoms_of}
use Rattle.bast_schema.specs.Eager.{is_eager_at}
use Rattle.tree_decoder.specs.Dues.{Due, due, dues, times, below}
use Rattle.container.specs.Named.{named_at}

-- what an atom puts in place of its due, or none where it is of another type
abbrev pub puts : FieldType → ℕ → Bool → Atom → Option (List Due)
puts (field.Node u) d w (kind k) = if allowed u k && not (w && has_lazy k) then Some (dues (fields k) (below k d) w) else None
puts (field.Optional u) d w (kind k) =
    if same_kind k Null then Some []
    else if allowed u k && not (w && has_lazy k) then Some (dues (fields k) (below k d) w) else None
puts (field.List u holes filled) d w (count n) = if filled && nat_eq n 0 then None else Some (dues (times n (item_type u holes)) d w)
puts field.Bool d w (flag b) = Some []
puts field.Index d w (index n) = if nat_lt n (2 ^ 32) then Some [] else None
puts field.Whole d w (whole n) = if nat_lt n (2 ^ 53) then Some [] else None
puts field.Text d w (text entry) = if is_some entry then Some [] else None
puts field.Name d w (text entry) = if is_some entry then Some [] else None
puts field.Label d w (text entry) = Some []
puts (field.Choice set) d w (text (Some bytes)) = if is_some (choice_of_text set bytes) then Some [] else None
puts (field.Lazy u) d w (window bytes) = Some []
puts _ d w _ = None

abbrev pub then_left : (List Due → Option (List Due)) → List Due → Option (List Due) → Option (List Due)
then_left f ds None = None
then_left f ds (Some es) = f (es ++ ds)

-- what is due after these atoms, if each was due
abbrev pub dues_left : List Due → List Atom → Option (List Due)
dues_left ds [] = Some ds
dues_left [] (a ∷ others) = None
dues_left (x ∷ ds) (a ∷ others) = then_left (λ es. dues_left es others) ds (puts x.type x.depth x.inside a)

-- a value of a type, with windows for what is lazy, and no lazy kind inside a window
pub record IsOfDue (h : Held) (t : FieldType) (w : Bool) (v : Datum) : Type 0 where
  pub fits : IsTrue (fits t v)
  pub named : IsTrue (named_at h v)
  pub is_folded : IsTrue (is_folded t v)
  pub folded : IsTrue (folded_at v)
  pub eager : w ≡ true → IsTrue (is_eager_at v)

-- the atoms of a value are due one after another where it is due, and leave what is due behind it
abbrev pub AreDue : Type 0
AreDue =
    (h : Held) (t : FieldType) (d : ℕ) (w : Bool) (v : Datum) → IsOfDue h t w v → (ds : List Due) (others : List Atom)
    → dues_left (due t d w ∷ ds) (atoms_of h t v ++ others) ≡ dues_left ds others

-- atoms that leave nothing due are those of a value there, over some texts and bytes
abbrev pub AreOfTree : Type 0
AreOfTree =
    (t : FieldType) (d : ℕ) (w : Bool) (xs : List Atom) → dues_left (due t d w ∷ []) xs ≡ Some []
    → (h : Held) × (v : Datum) × IsOfDue h t w v × (atoms_of h t v ≡ xs)
