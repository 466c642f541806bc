-- What a script that was read is, for those who ask of whole trees.
use Rattle.std.proofs.Common.{ℕ, ◌-◌, ◌≤◌, ◌≡◌, length, arith, Bool, true, false, not, ◌&&◌, ◌||◌, List, [], ◌∷◌, Option, Some, None, refl, sym, ap, ◌∙◌, slice_get, ◌+◌, ◌<◌, ◌++◌, take, drop, Result, Ok, Err, subst, append-nil}
use Rattle.std.specs.List.{list_any}
use Rattle.std.specs.Option.{is_some}
use Rattle.std.proofs.lemmas.Option.{get_or_from_slice_get}
use Rattle.bast_schema.specs.Counts.{is_whole, is_whole_at, is_whole_in, size}
use Rattle.bast_schema.specs.Eager.{is_eager, is_eager_at, are_eager}
use Rattle.bast_schema.specs.Held.{Held, text_of}
use Rattle.bast_schema.specs.Tree.{Tree, branch, Datum, child, absent, listed, name, window, Data, none, more, typed, fits, fit, items_fit, item_type, is_none, kind_of, depth, count}
use Rattle.bast_schema.specs.Unions.{allowed}
use Rattle.bast_schema.proofs.Both.{and_first, and_second, both}
use Rattle.container.specs.Atoms.{atoms}
use Rattle.container.specs.InFile.{is_unnested}
use Rattle.bast_schema.specs.declared.kind.FieldType.{FieldType}
use Rattle.bast_schema.specs.declared.kind.FieldType.TheVariants as field
use Rattle.bast_schema.specs.Fields.{fields, has_lazy, is_lazy_type}
use Rattle.container.specs.Folded.{is_folded, folded, folded_at, folded_fields}
use Rattle.tree_decoder.specs.Found.{is_text, stands, stands_at, all_stand, Found, Fails, Spent}
use Rattle.tree_decoder.specs.Range.{Range, IsSound, held, left}
use Rattle.tree_decoder.specs.SameTree.{IsSameTree}
use Rattle.tree_decoder.specs.Script.{IsScript, ReadsScript, script, script_outcome}
use Rattle.container.specs.Named.{named, named_at, all_named}
use Rattle.container.specs.Spelled.{spelled}
use Rattle.container.proofs.ByAtoms.{eager_is_unnested}
use Rattle.container.proofs.SizeSpelled.{size_spelled}
use Rattle.tree_decoder.specs.Spelt.{IsSpelt, NoFault}
use Rattle.tree_decoder.proofs.OneTree.{one_eager_tree, one_folded_tree}
use Rattle.tree_decoder.proofs.SameTree.{same_tree}
use Rattle.tree_decoder.proofs.Single.{left_length}
use Rattle.bast_base.specs.declared.errors.Halt.{Halt}
use Rattle.bast_base.specs.declared.errors.Halt.TheVariants.{Memory, Format}
use Rattle.bast_base.specs.declared.errors.Why.TheVariants.{Trailing}
use Rattle.bast_schema.specs.declared.kind.Kind.TheVariants.{Script}
use Rattle.bast_schema.specs.declared.kind.Union.TheVariants.{One}
use Rattle.bast_schema.proofs.Typed.{allowed_one}
use Rattle.tree_decoder.specs.Dues.{due, times}
use Rattle.container.specs.Answers.{fault}
use Rattle.tree_decoder.specs.Outcome.{Outcome, behind, outcome_from}
use Rattle.tree_decoder.specs.Windows.{windows, windows_at, skipped}
use Rattle.tree_decoder.proofs.Spelling.{fits_times, folded_times, tree_accepted}
use Rattle.tree_decoder.proofs.Machine.{trailing, all_read, skipped_both, skips_within}

some_text : (r : Range) (n : ℕ) (o : Option (Option (List ℕ))) → slice_get r.tables.texts n ≡ o → is_text o ≡ true → is_some (text_of (held r) n) ≡ true
some_text r n (Some (Some words)) is e = ap is_some (get_or_from_slice_get r.tables.texts n (Some words) None is)
some_text r n (Some None) is e = cc
some_text r n None is e = cc

-- names that are places of texts stand for texts
mutual
  pub named_where_stands : (r : Range) (t : Tree) → stands r t ≡ true → named (held r) t ≡ true
  named_where_stands r (branch k ds) e = all_named_where_stand r ds e

  pub named_at_where_stands : (r : Range) (d : Datum) → stands_at r d ≡ true → named_at (held r) d ≡ true
  named_at_where_stands r (child t) e = named_where_stands r t e
  named_at_where_stands r (listed ds) e = all_named_where_stand r ds e
  named_at_where_stands r (name n) e = some_text r n (slice_get r.tables.texts n) refl e
  named_at_where_stands r _ e = refl

  all_named_where_stand : (r : Range) (ds : Data) → all_stand r ds ≡ true → all_named (held r) ds ≡ true
  all_named_where_stand r none e = refl
  all_named_where_stand r (more d ds) e =
      both (named_at (held r) d) (all_named (held r) ds) (named_at_where_stands r d (and_first (stands_at r d) (all_stand r ds) e)) (all_named_where_stand r ds (and_second (stands_at r d) (all_stand r ds) e))

-- ---- no kind is lazy, where there are no contents but windows and no windows

neither : (a b : Bool) → not a ≡ true → not b ≡ true → not (a || b) ≡ true
neither true b p q = cc
neither false b p q = q

mutual
  pub eager_tree : (t : Tree) → typed t ≡ true → folded t ≡ true → is_whole t ≡ true → is_eager t ≡ true
  eager_tree (branch k ds) ok shut none_left = let parts = eager_fields ds (fields k) ok shut none_left in both (not (has_lazy k)) (are_eager ds) parts.0 parts.1

  eager_at : (d : Datum) (t : FieldType) → fits t d ≡ true → is_folded t d ≡ true → folded_at d ≡ true → is_whole_at d ≡ true → (not (is_lazy_type t) ≡ true) × (is_eager_at d ≡ true)
  eager_at (child c) (field.Node u) ok plain shut none_left = (refl, eager_tree c (and_second (allowed u (kind_of c)) (typed c) ok) shut none_left)
  eager_at (child c) (field.Optional u) ok plain shut none_left = (refl, eager_tree c (and_second (allowed u (kind_of c)) (typed c) ok) shut none_left)
  eager_at (child c) (field.Lazy u) ok plain shut none_left = absurd cc
  eager_at (window from to) (field.Lazy u) ok plain shut none_left = absurd cc
  eager_at absent (field.Optional u) ok plain shut none_left = (refl, refl)
  eager_at (listed ds) (field.List u holes filled) ok plain shut none_left =
      let items = fits_times u holes ds (and_second (not filled || not (is_none ds)) (items_fit u holes ds) ok) in
      (refl, (eager_fields ds (times (count ds) (item_type u holes)) items (folded_times u holes ds shut) none_left).1)
  eager_at (listed ds) _ ok plain shut none_left = absurd cc
  eager_at _ (field.Lazy u) ok plain shut none_left = absurd cc
  eager_at (child c) _ ok plain shut none_left = absurd cc
  eager_at _ _ ok plain shut none_left = (refl, refl)

  eager_fields : (ds : Data) (ts : List FieldType) → fit ts ds ≡ true → folded_fields ts ds ≡ true → is_whole_in ds ≡ true → (not (list_any is_lazy_type ts) ≡ true) × (are_eager ds ≡ true)
  eager_fields none [] ok shut none_left = (refl, refl)
  eager_fields none (t ∷ ts) ok shut none_left = absurd cc
  eager_fields (more d ds) [] ok shut none_left = absurd cc
  eager_fields (more d ds) (t ∷ ts) ok shut none_left =
      let others = and_second (is_folded t d) (folded_at d && folded_fields ts ds) shut in
      let first = eager_at d t (and_first (fits t d) (fit ts ds) ok) (and_first (is_folded t d) (folded_at d && folded_fields ts ds) shut) (and_first (folded_at d) (folded_fields ts ds) others) (and_first (is_whole_at d) (is_whole_in ds) none_left) in
      let rest = eager_fields ds ts (and_second (fits t d) (fit ts ds) ok) (and_second (folded_at d) (folded_fields ts ds) others) (and_second (is_whole_at d) (is_whole_in ds) none_left) in
      (neither (is_lazy_type t) (list_any is_lazy_type ts) first.0 rest.0, both (is_eager_at d) (are_eager ds) first.1 rest.1)

-- ---- so a whole script that is read is one of the grammar of files

pub unnested_script : (r : Range) (at : ℕ) (t : Tree) → IsScript r at t → is_whole t ≡ true → is_unnested t ≡ true
unnested_script r at t read none_left = eager_is_unnested t (eager_tree t read.typed read.folded none_left)

-- ---- a script that is read is the one that is spelled there

same_atoms : (r : Range) (at : ℕ) (h : Held) (t u : Tree) (b : Bool) → is_whole t ≡ b → (b || folded u) ≡ true → IsScript r at t → IsSpelt r at h u → atoms (held r) t ≡ atoms h u
same_atoms r at h t u true no_window e read spelt =
    one_eager_tree r.tables (held r) h t u read.has_all spelt.has_all read.typed spelt.typed no_window read.folded (sym read.spelled ∙ spelt.spelled)
same_atoms r at h t u false some e read spelt = one_folded_tree r.tables (held r) h t u read.has_all spelt.has_all read.typed spelt.typed read.folded e (sym read.spelled ∙ spelt.spelled)

pub one_script : (r : Range) (at : ℕ) (h : Held) (t u : Tree) → IsScript r at t → IsSpelt r at h u → (is_whole t || folded u) ≡ true → IsSameTree (held r) h t u
one_script r at h t u read spelt e = same_tree (held r) h t u read.typed spelt.typed (named_where_stands r t read.stands) spelt.named (same_atoms r at h t u (is_whole t) refl e read spelt)

-- so is a script that is read twice, or spelled by itself
pub spelt_by_itself : (r : Range) (at : ℕ) (t : Tree) → IsScript r at t → IsSpelt r at (held r) t
spelt_by_itself r at t read = record { spelled = read.spelled; has_all = read.has_all; named = named_where_stands r t read.stands; kind = read.kind; typed = read.typed; shallow = read.shallow }

-- a script has no more values than the range has bytes
pub script_size : (r : Range) (at : ℕ) (t : Tree) → IsSound r → at ≤ r.end → IsScript r at t → size t ≤ r.end - at
script_size r at t sound order read =
    let few : size t ≤ length (spelled r.tables (held r) t) = size_spelled r.tables (held r) t read.typed in
    let long : length (left r at) ≡ r.end - at = left_length r at sound order in
    let same : length (left r at) ≡ length (spelled r.tables (held r) t) = ap length read.spelled in
    omega arith

-- ---- a script is read from all of the bytes

none_left : (r : Range) (next : ℕ) → r.end ≤ next → left r next ≡ []
none_left r next le = let none : r.end - next ≡ 0 = omega arith in ap (λ (n : ℕ). take n (drop next r.tape)) none

pub script_stands : (r : Range) (at : ℕ) (t : Tree) (next : ℕ) → Found r script 1 false at (child t) next → r.end ≤ next → IsScript r at t
script_stands r at t next f le =
    let deep : depth t + 1 ≤ 513 = f.depth in
    let no_more : windows t ++ [] ≡ windows t = append-nil (windows t) in
    let as_outcome : List (ℕ × ℕ) → Outcome = λ ws. record { windows = ws; fault = None } in
    record {
      spelled = f.spelled ∙ ap (λ (b : List ℕ). spelled r.tables (held r) t ++ b) (none_left r next le) ∙ append-nil (spelled r.tables (held r) t);
      kind = sym (allowed_one Script (kind_of t) (and_first (allowed (One Script) (kind_of t)) (typed t) f.fits));
      typed = and_second (allowed (One Script) (kind_of t)) (typed t) f.fits;
      shallow = omega arith;
      stands = f.stands;
      has_all = f.has_all;
      folded = f.folded;
      outcome = f.goes_on [] ∙ ap (behind (windows t)) (all_read r next le) ∙ ap as_outcome no_more;
    }

pub bytes_left_over : (r : Range) (at : ℕ) (v : Datum) (next : ℕ) → Found r script 1 false at v next → next < r.end → (script_outcome r at).fault ≡ Some (fault next Trailing)
bytes_left_over r at v next f lt = ap (λ (o : Outcome). o.fault) (f.goes_on [] ∙ ap (behind (windows_at v)) (trailing r next lt))

pub script_spends : (r : Range) (at : ℕ) (v : Datum) (next old new : ℕ) → IsSound r → Found r script 1 false at v next → Spent (windows_at v) at next old new → Spent (script_outcome r at).windows at r.end old new
script_spends r at v next old new sound f s =
    let rest : Outcome = outcome_from r [] next in
    let others : skipped rest.windows ≤ r.end - next = skips_within r [] next sound f.within in
    let both : skipped (windows_at v ++ rest.windows) ≡ skipped (windows_at v) + skipped rest.windows = skipped_both (windows_at v) rest.windows in
    let ahead : at < next = f.forward in
    let within : next ≤ r.end = f.within in
    subst (λ (o : Outcome). Spent o.windows at r.end old new) (sym (f.goes_on [])) (let all : Spent (windows_at v ++ rest.windows) at r.end old new = omega arith in all)

-- the bytes of a script are read with no fault
pub script_accepted : (r : Range) (at : ℕ) (h : Held) (t : Tree) → IsSound r → at ≤ r.end → IsSpelt r at h t → (script_outcome r at).fault ≡ None
script_accepted r at h t sound order is =
    let ok : (allowed (One Script) (kind_of t) && typed t) ≡ true = rw (is.kind, is.typed) refl in
    tree_accepted r h t (One Script) at sound order ok is.has_all is.named is.shallow is.spelled

pub only_memory : (r : Range) (at : ℕ) (q : Result Tree Halt) → IsSound r → at ≤ r.end → ReadsScript r at q → (h : Held) (t : Tree) → IsSpelt r at h t → NoFault q
only_memory r at (Ok u) sound order reads h t is = tt
only_memory r at (Err Memory) sound order reads h t is = tt
only_memory r at (Err (Format f)) sound order reads h t is = let e : Some f ≡ None = sym reads ∙ script_accepted r at h t sound order is in absurd cc

pub only_failed : (r : Range) (at : ℕ) (e : Halt) → IsSound r → at ≤ r.end → Fails r (due script 1 false ∷ []) at e → (h : Held) (t : Tree) → IsSpelt r at h t → NoFault (Err e)
only_failed r at Memory sound order fails h t is = tt
only_failed r at (Format f) sound order fails h t is = only_memory r at (Err (Format f)) sound order (fails []) h t is
