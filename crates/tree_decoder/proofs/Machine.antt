-- What comes of reading, atom by atom: the bound on their number doesn't matter.
use Rattle.std.proofs.Common.{ℕ, zero, suc, ◌+◌, ◌-◌, ◌<◌, ◌≤◌, ◌≡◌, Bool, true, false, cond, ltb, List, [], ◌∷◌, ◌++◌, Some, None, Result, Ok, Err, refl, ap, ◌∙◌, arith, not, ◌&&◌, ◌||◌, eqb, Option, subst, slice_get, length, sym}
use Rattle.std.specs.Option.{unwrap_or}
use Rattle.std.proofs.lemmas.Bool.{lt-ltb, le-ltb}
use Rattle.bast_base.specs.declared.errors.FormatFault.{FormatFault}
use Rattle.bast_base.specs.declared.errors.Why.TheVariants.{Trailing, BadKind, EmptyList, TooDeep}
use Rattle.tree_decoder.specs.Dues.{Due, Taken, atom_at, taken, dues, times, children, atom_of}
use Rattle.container.specs.Answers.{fault}
use Rattle.tree_decoder.specs.Outcome.{Outcome, ends, behind, after, done, go, outcome_from}
use Rattle.tree_decoder.specs.Range.{Range, IsSound, left}
use Rattle.tree_decoder.specs.Windows.{skipped, windows_at}
use Rattle.bast_schema.specs.declared.kind.FieldType.{FieldType}
use Rattle.bast_schema.specs.declared.kind.FieldType.TheVariants as field
use Rattle.bast_schema.specs.declared.kind.Kind.{Kind}
use Rattle.bast_schema.specs.declared.kind.Kind.TheVariants.{Null}
use Rattle.bast_schema.specs.declared.kind.Union.{Union}
use Rattle.bast_schema.specs.Fields.{has_lazy}
use Rattle.bast_schema.specs.Kinds.{counted, same_kind}
use Rattle.bast_schema.specs.Tree.{Datum, item_type}
use Rattle.bast_schema.specs.Unions.{allowed}
use Rattle.tree_decoder.specs.Numbers.{number_from, judged, kind_of_number, kind_at, count_at, leaf_at, is_leaf}
use Rattle.bast_schema.proofs.Both.{and_first, and_second}
use Rattle.bast_schema.proofs.Distinct.{place_of_at}
use Rattle.bast_schema.proofs.EachKind.{same_kind_self, same_kind_true}
use Rattle.container.specs.Atoms as atom
use Rattle.container.specs.InFile.{has_atom}
use Rattle.container.specs.Tables.{kind_place}
use Rattle.var_numbers.specs.Varnum.{varnum}
use Rattle.tree_decoder.proofs.Single.{any_at, bind_ok, guard_ok, is_ok, ok_is, number_spells, leaf_stands}

-- ---- each atom goes forward within the range

pub record Moves (r : Range) (at next : ℕ) (ws : List (ℕ × ℕ)) : Type 0 where
  pub forward : at < next
  pub within : next ≤ r.end
  pub skips : skipped ws ≤ next - at

leaf_moves : (r : Range) (t : FieldType) (at : ℕ) (x : Datum × ℕ) → IsSound r → at ≤ r.end → is_leaf t ≡ true → leaf_at r t at ≡ Ok x → Moves r at x.1 (windows_at x.0)
leaf_moves r t at x sound order leaf e =
    let st = (leaf_stands r t at x sound order leaf e).1 in
    record { forward = omega (arith, st.ahead, st.skips); within = st.within; skips = omega (arith, st.ahead, st.skips) }

-- the kind of a node, and that of an absent one
abbrev pub or_null : Option Kind → Kind
or_null (Some k) = k
or_null None = Null

-- why a node of a kind may stand there, or none
abbrev pub MayStand : Union → Bool → ℕ → Bool → Option Kind → Type 0
MayStand u optional d w (Some k) = (allowed u k ≡ true) × ((w && has_lazy k) ≡ false) × ((counted k && ltb 512 d) ≡ false)
MayStand u optional d w None = optional ≡ true

record KindRead (u : Union) (optional : Bool) (d : ℕ) (w : Bool) (j : Kind) (next : ℕ) (x : Option Kind × ℕ) : Type 0 where
  pub same : j ≡ or_null x.0
  pub place : next ≡ x.1
  pub may : MayStand u optional d w x.0

neither : (a b : Bool) → (not a || b) ≡ false → (a ≡ true) × (b ≡ false)
neither true b e = (refl, e)
neither false b e = absurd cc

judged_is : (u : Union) (optional : Bool) (d : ℕ) (w : Bool) (at next : ℕ) (j : Kind) (x : Option Kind × ℕ) → judged u d w at next j ≡ Ok x → KindRead u optional d w j next x
judged_is u optional d w at next j x e =
    let g = guard_ok (not (allowed u j) || (w && has_lazy j)) (fault at BadKind) (cond (counted j && ltb 512 d) (Err (fault at TooDeep)) (Ok (Some j, next))) x e in
    let h = guard_ok (counted j && ltb 512 d) (fault at TooDeep) (Ok (Some j, next)) x g.1 in
    let fine = neither (allowed u j) (w && has_lazy j) g.0 in
    subst (λ (y : Option Kind × ℕ). KindRead u optional d w j next y) (ok_is _ _ h.1) (record { same = refl; place = refl; may = (fine.0, fine.1, h.0) })

chosen_is : (b : Bool) (u : Union) (optional : Bool) (d : ℕ) (w : Bool) (at next : ℕ) (j : Kind) (x : Option Kind × ℕ) → (optional && same_kind j Null) ≡ b → cond b (is_ok (None, next)) (judged u d w at next j) ≡ Ok x → KindRead u optional d w j next x
chosen_is true u optional d w at next j x is e =
    let null : j ≡ Null = same_kind_true j Null (and_second optional (same_kind j Null) is) in
    subst (λ (y : Option Kind × ℕ). KindRead u optional d w j next y) (ok_is _ _ e) (record { same = null; place = refl; may = and_first optional (same_kind j Null) is })
chosen_is false u optional d w at next j x is e = judged_is u optional d w at next j x e

number_is : (o : Option Kind) (u : Union) (optional : Bool) (d : ℕ) (w : Bool) (at next : ℕ) (x : Option Kind × ℕ) → kind_of_number u optional d w at next o ≡ Ok x → (j : Kind) × (o ≡ Some j) × KindRead u optional d w j next x
number_is None u optional d w at next x e = absurd cc
number_is (Some j) u optional d w at next x e = (j, refl, chosen_is (optional && same_kind j Null) u optional d w at next j x refl e)

-- a kind that is read is spelled by its number in the table
pub record KindStands (r : Range) (u : Union) (optional : Bool) (d : ℕ) (w : Bool) (at : ℕ) (x : Option Kind × ℕ) : Type 0 where
  pub forward : at < x.1
  pub within : x.1 ≤ r.end
  pub spelled : left r at ≡ varnum (kind_place r.tables (or_null x.0)) ++ left r x.1
  pub has : has_atom r.tables (atom.kind (or_null x.0)) ≡ true
  pub may : MayStand u optional d w x.0

pub kind_stands : (r : Range) (u : Union) (optional : Bool) (d : ℕ) (w : Bool) (at : ℕ) (x : Option Kind × ℕ) → IsSound r → at ≤ r.end → kind_at r u optional d w at ≡ Ok x → KindStands r u optional d w at x
unfolding kind_at
kind_stands r u optional d w at x sound order e =
    let b = bind_ok (number_from r at) (λ n. kind_of_number u optional d w at n.1 (slice_get r.tables.kinds n.0)) x e in
    let s = number_spells r at b.0 sound order b.1 in
    let j = number_is (slice_get r.tables.kinds b.0.0) u optional d w at b.0.1 x b.2 in
    let here : kind_place r.tables j.0 ≡ b.0.0 = ap (λ (o : Option ℕ). unwrap_or o (length r.tables.kinds)) (place_of_at r.tables.kinds j.0 b.0.0 sound.kinds j.1) in
    let number : b.0.0 ≡ kind_place r.tables (or_null x.0) = sym here ∙ ap (kind_place r.tables) j.2.same in
    record {
      forward = omega (arith, s.ahead, j.2.place);
      within = omega (arith, s.within, j.2.place);
      spelled = s.front ∙ ap (λ (k : ℕ). varnum k ++ left r b.0.1) number ∙ ap (λ (k : ℕ). varnum (kind_place r.tables (or_null x.0)) ++ left r k) j.2.place;
      has = ap (λ (i : Kind). has_atom r.tables (atom.kind i)) (sym j.2.same) ∙ any_at (λ i. same_kind i j.0) r.tables.kinds b.0.0 j.0 j.1 (same_kind_self j.0);
      may = j.2.may;
    }

pub record CountStands (r : Range) (filled : Bool) (at : ℕ) (x : ℕ × ℕ) : Type 0 where
  pub forward : at < x.1
  pub within : x.1 ≤ r.end
  pub spelled : left r at ≡ varnum x.0 ++ left r x.1
  pub enough : (filled && eqb x.0 0) ≡ false

pub count_stands : (r : Range) (filled : Bool) (at : ℕ) (x : ℕ × ℕ) → IsSound r → at ≤ r.end → count_at r filled at ≡ Ok x → CountStands r filled at x
unfolding count_at
count_stands r filled at x sound order e =
    let b = bind_ok (number_from r at) (λ n. cond (filled && eqb n.0 0) (Err (fault at EmptyList)) (Ok n)) x e in
    let g = guard_ok (filled && eqb b.0.0 0) (fault at EmptyList) (Ok b.0) x b.2 in
    let s = number_spells r at b.0 sound order b.1 in
    subst (λ (y : ℕ × ℕ). CountStands r filled at y) (ok_is _ _ g.1) (record { forward = s.ahead; within = s.within; spelled = s.front; enough = g.0 })

-- what is read of an atom is a kind, a count, or a value with no parts
pub atom_cases : (r : Range) (d : ℕ) (w : Bool) (at : ℕ) (P : FieldType → Taken → Type 0)
    → ((u : Union) (optional : Bool) (k : Option Kind) (m : ℕ) → kind_at r u optional d w at ≡ Ok (k, m) → P (item_type u optional) (taken (children k d w) [] m))
    → ((u : Union) (holes filled : Bool) (n m : ℕ) → count_at r filled at ≡ Ok (n, m) → P (field.List u holes filled) (taken (dues (times n (item_type u holes)) d w) [] m))
    → ((t : FieldType) (v : Datum) (m : ℕ) → is_leaf t ≡ true → leaf_at r t at ≡ Ok (v, m) → P t (taken [] (windows_at v) m))
    → (t : FieldType) (y : Taken) → atom_of r t d w at ≡ Ok y → P t y
atom_cases r d w at P nodes lists leaves (field.Node u) y e =
    let b = bind_ok (kind_at r u false d w at) (λ k. is_ok (taken (children k.0 d w) [] k.1)) y e in subst (λ (z : Taken). P (field.Node u) z) (ok_is _ _ b.2) (nodes u false b.0.0 b.0.1 b.1)
atom_cases r d w at P nodes lists leaves (field.Optional u) y e =
    let b = bind_ok (kind_at r u true d w at) (λ k. is_ok (taken (children k.0 d w) [] k.1)) y e in subst (λ (z : Taken). P (field.Optional u) z) (ok_is _ _ b.2) (nodes u true b.0.0 b.0.1 b.1)
atom_cases r d w at P nodes lists leaves (field.List u holes filled) y e =
    let b = bind_ok (count_at r filled at) (λ n. is_ok (taken (dues (times n.0 (item_type u holes)) d w) [] n.1)) y e in
    subst (λ (z : Taken). P (field.List u holes filled) z) (ok_is _ _ b.2) (lists u holes filled b.0.0 b.0.1 b.1)
atom_cases r d w at P nodes lists leaves t y e =
    let b = bind_ok (leaf_at r t at) (λ v. is_ok (taken [] (windows_at v.0) v.1)) y e in subst (λ (z : Taken). P t z) (ok_is _ _ b.2) (leaves t b.0.0 b.0.1 refl b.1)

pub atom_moves : (r : Range) (t : FieldType) (d : ℕ) (w : Bool) (at : ℕ) (y : Taken) → IsSound r → at ≤ r.end → atom_of r t d w at ≡ Ok y → Moves r at y.next y.windows
atom_moves r t d w at y sound order e =
    atom_cases r d w at (λ u z. Moves r at z.next z.windows)
    (λ u optional k m is. (let st = kind_stands r u optional d w at (k, m) sound order is in record { forward = st.forward; within = st.within; skips = omega arith }))
    (λ u holes filled n m is. (let st = count_stands r filled at (n, m) sound order is in record { forward = st.forward; within = st.within; skips = omega arith }))
    (λ u v m leaf is. leaf_moves r u at (v, m) sound order leaf is) t y e

-- ----

-- two bounds that are large enough give one outcome
next_bound : (r : Range) (n m : ℕ) (ds : List Due) (at : ℕ) (x : Due) (q : Result Taken FormatFault) → IsSound r → at ≤ r.end → atom_at r x at ≡ q → r.end + 1 ≤ suc n + at → r.end + 1 ≤ suc m + at → ((es : List Due) (to : ℕ) → to ≤ r.end → r.end + 1 ≤ n + to → r.end + 1 ≤ m + to → go r n es to ≡ go r m es to) → after (go r n) ds q ≡ after (go r m) ds q
next_bound r n m ds at x (Ok y) sound order e hn hm rest =
    let v = atom_moves r x.type x.depth x.inside at y sound order e in
    let f = v.forward in
    ap (behind y.windows) (rest (y.puts ++ ds) y.next v.within (omega arith) (omega arith))
next_bound r n m ds at x (Err f) sound order e hn hm rest = refl

pub go_bound : (r : Range) (n m : ℕ) (ds : List Due) (at : ℕ) → IsSound r → at ≤ r.end → r.end + 1 ≤ n + at → r.end + 1 ≤ m + at → go r n ds at ≡ go r m ds at
go_bound r zero m ds at sound h hn hm = absurd (omega arith)
go_bound r (suc n) zero ds at sound h hn hm = absurd (omega arith)
go_bound r (suc n) (suc m) [] at sound h hn hm = refl
go_bound r (suc n) (suc m) (x ∷ ds) at sound h hn hm = next_bound r n m ds at x (atom_at r x at) sound h refl hn hm (λ es to le. go_bound r n m es to sound le)

pub from_step : (r : Range) (x : Due) (ds : List Due) (at : ℕ) (y : Taken) → IsSound r → at ≤ r.end → atom_at r x at ≡ Ok y → outcome_from r (x ∷ ds) at ≡ behind y.windows (outcome_from r (y.puts ++ ds) y.next)
unfolding outcome_from
from_step r x ds at y sound h e =
    let v = atom_moves r x.type x.depth x.inside at y sound h e in
    let f = v.forward in
    let i = v.within in
    let k : r.end + 1 - at ≡ suc (r.end - at) = omega arith in
    ap (λ (n : ℕ). go r n (x ∷ ds) at) k
    ∙ ap (λ q. after (go r (r.end - at)) ds q) e
    ∙ ap (behind y.windows) (go_bound r (r.end - at) (r.end + 1 - y.next) (y.puts ++ ds) y.next sound i (omega arith) (omega arith))

pub from_fails : (r : Range) (x : Due) (ds : List Due) (at : ℕ) (f : FormatFault) → at ≤ r.end → atom_at r x at ≡ Err f → outcome_from r (x ∷ ds) at ≡ ends (Some f)
unfolding outcome_from
from_fails r x ds at f h e =
    let k : r.end + 1 - at ≡ suc (r.end - at) = omega arith in
    ap (λ (n : ℕ). go r n (x ∷ ds) at) k ∙ ap (λ q. after (go r (r.end - at)) ds q) e

-- ---- where nothing is due

nothing_due : (r : Range) (n at : ℕ) → go r n [] at ≡ done r at
nothing_due r zero at = refl
nothing_due r (suc n) at = refl

pub trailing : (r : Range) (at : ℕ) → at < r.end → outcome_from r [] at ≡ ends (Some (fault at Trailing))
unfolding outcome_from
trailing r at lt = nothing_due r (r.end + 1 - at) at ∙ rw (lt-ltb at r.end lt) refl

pub all_read : (r : Range) (at : ℕ) → r.end ≤ at → outcome_from r [] at ≡ ends None
unfolding outcome_from
all_read r at le = nothing_due r (r.end + 1 - at) at ∙ rw (le-ltb at r.end le) refl

-- ---- windows

pub skipped_both : (ws us : List (ℕ × ℕ)) → skipped (ws ++ us) ≡ skipped ws + skipped us
skipped_both [] us = omega arith
skipped_both (w ∷ ws) us = omega (arith, skipped_both ws us)

done_skips : (r : Range) (at : ℕ) (b : Bool) → skipped (cond b (ends (Some (fault at Trailing))) (ends None)).windows ≡ 0
done_skips r at true = refl
done_skips r at false = refl

-- ---- what holds of each outcome, atom by atom

pub record ByAtom (r : Range) (P : List Due → ℕ → Outcome → Type 0) : Type 0 where
  pub nothing : (at : ℕ) → at ≤ r.end → P [] at (done r at)
  pub fails : (x : Due) (ds : List Due) (at : ℕ) (f : FormatFault) → at ≤ r.end → atom_at r x at ≡ Err f → P (x ∷ ds) at (ends (Some f))
  pub goes : (x : Due) (ds : List Due) (at : ℕ) (y : Taken) (o : Outcome) → at ≤ r.end → atom_at r x at ≡ Ok y → P (y.puts ++ ds) y.next o → P (x ∷ ds) at (behind y.windows o)

go_next : (r : Range) (P : List Due → ℕ → Outcome → Type 0) → IsSound r → ByAtom r P → (n : ℕ) (x : Due) (ds : List Due) (at : ℕ) (q : Result Taken FormatFault) → atom_at r x at ≡ q → at ≤ r.end → r.end + 1 ≤ suc n + at
    → ((es : List Due) (to : ℕ) → to ≤ r.end → r.end + 1 ≤ n + to → P es to (go r n es to)) → P (x ∷ ds) at (after (go r n) ds q)
go_next r P sound by n x ds at (Err f) is order enough rest = by.fails x ds at f order is
go_next r P sound by n x ds at (Ok y) is order enough rest =
    let moves = atom_moves r x.type x.depth x.inside at y sound order is in
    by.goes x ds at y (go r n (y.puts ++ ds) y.next) order is (rest (y.puts ++ ds) y.next moves.within (omega (arith, moves.forward)))

go_by : (r : Range) (P : List Due → ℕ → Outcome → Type 0) → IsSound r → ByAtom r P → (n : ℕ) (ds : List Due) (at : ℕ) → at ≤ r.end → r.end + 1 ≤ n + at → P ds at (go r n ds at)
go_by r P sound by zero [] at order enough = by.nothing at order
go_by r P sound by (suc n) [] at order enough = by.nothing at order
go_by r P sound by zero (x ∷ ds) at order enough = absurd (omega arith)
go_by r P sound by (suc n) (x ∷ ds) at order enough = go_next r P sound by n x ds at (atom_at r x at) refl order enough (λ es to le far. go_by r P sound by n es to le far)

pub outcome_by : (r : Range) (P : List Due → ℕ → Outcome → Type 0) → IsSound r → ByAtom r P → (ds : List Due) (at : ℕ) → at ≤ r.end → P ds at (outcome_from r ds at)
unfolding outcome_from
outcome_by r P sound by ds at order = go_by r P sound by (r.end + 1 - at) ds at order (omega arith)

-- the windows that are passed are within the bytes
pub skips_within : (r : Range) (ds : List Due) (at : ℕ) → IsSound r → at ≤ r.end → skipped (outcome_from r ds at).windows ≤ r.end - at
skips_within r ds at sound order =
    outcome_by r (λ es to o. skipped o.windows ≤ r.end - to) sound
    (record {
      nothing = λ to le. omega (arith, done_skips r to (ltb to r.end));
      fails = λ x es to f le is. omega arith;
      goes = λ x es to y o le is rest. (let v = atom_moves r x.type x.depth x.inside to y sound le is in omega (arith, v.forward, v.within, v.skips, skipped_both y.windows o.windows, rest));
    }) ds at order
