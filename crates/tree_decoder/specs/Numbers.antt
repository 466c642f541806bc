-- What is read as one: a number, a kind, a count, or a value with no parts; or why it can't be read.
use Rattle.std.specs.Prelude.{ℕ, zero, suc, ◌+◌, ◌^◌, ◌&&◌, ◌||◌, Bool, true, false, not, List, nat_lt, nat_eq, slice_get, slice_index, slice_range, if◌then◌else◌, Option, None, Some, Result, Ok, Err}
use Rattle.std.specs.Int.{from_be_bytes, w64}
use Rattle.bast_base.specs.declared.errors.FormatFault.{FormatFault}
use Rattle.bast_base.specs.declared.errors.Why.TheVariants.{Ended, BadKind, BadString, BadVariant, BadBool, BadWhole, EmptyList, TooDeep}
use Rattle.var_numbers.specs.Pattern.{pattern}
use Rattle.var_numbers.specs.VarnumRead.{number_at}
use Rattle.bast_schema.specs.declared.kind.EnumId.{EnumId}
use Rattle.bast_schema.specs.declared.kind.FieldType.{FieldType}
use Rattle.bast_schema.specs.declared.kind.FieldType.TheVariants as field
use Rattle.bast_schema.specs.declared.kind.Kind.{Kind}
use Rattle.bast_schema.specs.declared.kind.Kind.TheVariants.{Null}
use Rattle.bast_schema.specs.declared.kind.Union.{Union}
use Rattle.bast_schema.specs.Choices.{choice_of_text}
use Rattle.bast_schema.specs.Fields.{has_lazy}
use Rattle.bast_schema.specs.Kinds.{counted, same_kind}
use Rattle.bast_schema.specs.Tree.{Datum, flag, index, whole, name, no_name, choice, window}
use Rattle.bast_schema.specs.Unions.{allowed}
use Rattle.container.specs.Answers.{fault, ◌>>=◌}
use Rattle.tree_decoder.specs.Range.{Range, left}

-- a number, and the place after it
abbrev pub number_from : Range → ℕ → Result (ℕ × ℕ) FormatFault
number_from r at = number_at at (left r at)

-- the kind of the node that begins at a place, or none where it is absent
abbrev pub judged : Union → ℕ → Bool → ℕ → ℕ → Kind → Result (Option Kind × ℕ) FormatFault
judged u depth inside at next k =
    if not (allowed u k) || (inside && has_lazy k) then Err (fault at BadKind)
    else if counted k && nat_lt 512 depth then Err (fault at TooDeep) else Ok (Some k, next)

abbrev pub kind_of_number : Union → Bool → ℕ → Bool → ℕ → ℕ → Option Kind → Result (Option Kind × ℕ) FormatFault
kind_of_number u optional depth inside at next None = Err (fault at BadKind)
kind_of_number u optional depth inside at next (Some k) = if optional && same_kind k Null then Ok (None, next) else judged u depth inside at next k

unfoldable pub kind_at : Range → Union → Bool → ℕ → Bool → ℕ → Result (Option Kind × ℕ) FormatFault
kind_at r u optional depth inside at = number_from r at >>= λ n. kind_of_number u optional depth inside at n.1 (slice_get r.tables.kinds n.0)

unfoldable pub count_at : Range → Bool → ℕ → Result (ℕ × ℕ) FormatFault
count_at r filled at = number_from r at >>= λ n. if filled && nat_eq n.0 0 then Err (fault at EmptyList) else Ok n

-- ---- values with no parts

-- the number below a bound that passes, where just one does
unfoldable pub passing_below : (ℕ → Bool) → ℕ → Option ℕ
passing_below p zero = None
passing_below p (suc n) = if p n then Some n else passing_below p n

-- the whole number below 2^53 that has a pattern
unfoldable pub whole_with : ℕ → Option ℕ
whole_with bits = passing_below (λ n. nat_eq (pattern n) bits) (2 ^ 53)

abbrev pub whole_or : ℕ → Option ℕ → Result (Datum × ℕ) FormatFault
whole_or at (Some n) = Ok (whole n, at + 8)
whole_or at None = Err (fault at BadWhole)

unfoldable pub whole_at : Range → ℕ → Result (Datum × ℕ) FormatFault
whole_at r at = if nat_lt r.end (at + 8) then Err (fault r.end Ended) else whole_or at (whole_with (from_be_bytes w64 (slice_range r.tape at (at + 8))))

abbrev pub flag_of : ℕ → ℕ → Result (Datum × ℕ) FormatFault
flag_of at byte = if nat_eq byte 0 then Ok (flag false, at + 1) else if nat_eq byte 1 then Ok (flag true, at + 1) else Err (fault at BadBool)

unfoldable pub flag_at : Range → ℕ → Result (Datum × ℕ) FormatFault
flag_at r at = if nat_lt at r.end then flag_of at (slice_index r.tape at) else Err (fault r.end Ended)

-- a text or a name, whose number has an entry that is a text
abbrev pub name_of : ℕ → ℕ → ℕ → Option (Option (List ℕ)) → Result (Datum × ℕ) FormatFault
name_of at n next (Some (Some text)) = Ok (name n, next)
name_of at n next (Some None) = Err (fault at BadString)
name_of at n next None = Err (fault at BadString)

abbrev pub label_of : ℕ → ℕ → ℕ → Option (Option (List ℕ)) → Result (Datum × ℕ) FormatFault
label_of at n next (Some (Some text)) = Ok (name n, next)
label_of at n next (Some None) = Ok (no_name, next)
label_of at n next None = Err (fault at BadString)

abbrev pub variant_of : ℕ → ℕ → Option ℕ → Result (Datum × ℕ) FormatFault
variant_of at next (Some n) = Ok (choice n, next)
variant_of at next None = Err (fault at BadVariant)

abbrev pub choice_at : EnumId → ℕ → ℕ → Option (Option (List ℕ)) → Result (Datum × ℕ) FormatFault
choice_at set at next (Some (Some text)) = variant_of at next (choice_of_text set text)
choice_at set at next (Some None) = Err (fault at BadString)
choice_at set at next None = Err (fault at BadString)

abbrev pub window_of : Range → ℕ → ℕ → Result (Datum × ℕ) FormatFault
window_of r size from = if nat_lt r.end (from + size) then Err (fault r.end Ended) else Ok (window from (from + size), from + size)

-- a value that is told by the number n at a place
abbrev pub numbered : Range → FieldType → ℕ → ℕ → ℕ → Result (Datum × ℕ) FormatFault
numbered r field.Index at n next = Ok (index n, next)
numbered r field.Text at n next = name_of at n next (slice_get r.tables.texts n)
numbered r field.Name at n next = name_of at n next (slice_get r.tables.texts n)
numbered r field.Label at n next = label_of at n next (slice_get r.tables.texts n)
numbered r (field.Choice set) at n next = choice_at set at next (slice_get r.tables.texts n)
numbered r (field.Lazy u) at n next = window_of r n next
numbered r _ at n next = Err (fault at BadKind)

abbrev pub leaf_at : Range → FieldType → ℕ → Result (Datum × ℕ) FormatFault
leaf_at r field.Bool at = flag_at r at
leaf_at r field.Whole at = whole_at r at
leaf_at r t at = number_from r at >>= λ n. numbered r t at n.0 n.1

-- a type whose values have no parts
abbrev pub is_leaf : FieldType → Bool
is_leaf (field.Node u) = false
is_leaf (field.Optional u) = false
is_leaf (field.List u holes filled) = false
is_leaf _ = true
