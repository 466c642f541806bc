-- A spelling as a row of atoms, each for the first due. From it follow that the atoms of a tree are due, that one spelling is
-- that of one tree, and that what spells a tree is read with no fault.
use Rattle.std.proofs.Common.{ℕ, ◌+◌, ◌-◌, ◌≤◌, ◌≡◌, Bool, true, false, not, ◌&&◌, ◌||◌, cond, ltb, nat_lt, nat_eq, get_or, length, List, [], ◌∷◌, ◌++◌, Option, Some, None, refl, sym, ap, subst, ◌∙◌, arith, append_assoc, append-nil}
use Rattle.std.specs.List.{list_all}
use Rattle.std.specs.Option.{is_some}
use Rattle.std.proofs.lemmas.Bool.{ltb-true, le-ltb, and_from}
use Rattle.std.proofs.lemmas.List.{length-append}
use Rattle.std.proofs.lemmas.Option.{slice_get-get_or}
use Rattle.var_numbers.specs.Varnum.{varnum}
use Rattle.bast_schema.specs.declared.kind.EnumId.{EnumId}
use Rattle.bast_schema.specs.declared.kind.FieldType.{FieldType}
use Rattle.bast_schema.specs.declared.kind.FieldType.TheVariants as field
use Rattle.bast_schema.specs.declared.kind.Kind.{Kind}
use Rattle.bast_schema.specs.declared.kind.Kind.TheVariants.{Null}
use Rattle.bast_schema.specs.declared.kind.Union.{Union}
use Rattle.bast_schema.specs.Choices.{choice_texts, choice_of_text}
use Rattle.bast_schema.specs.Counts.{is_whole_at, is_whole_in}
use Rattle.bast_schema.specs.Eager.{is_eager_at, are_eager}
use Rattle.bast_schema.specs.Fields.{fields, has_lazy}
use Rattle.bast_schema.specs.Held.{Held, text_of, bytes_of}
use Rattle.bast_schema.specs.Kinds.{counted, same_kind}
use Rattle.bast_schema.specs.Tree.{Tree, branch, Datum, child, absent, listed, flag, index, whole, name, no_name, choice, window, Data, none, more, fits, fit, items_fit, item_type, is_none, count, depth_at, depth_in, typed, kind_of}
use Rattle.bast_schema.specs.Unions.{allowed}
use Rattle.bast_schema.proofs.Both.{and_first, and_second, both}
use Rattle.bast_schema.proofs.ChoiceTexts.{choice_of_its_text}
use Rattle.bast_schema.proofs.EachKind.{same_kind_true}
use Rattle.container.specs.Atoms as atom
use Rattle.container.specs.Atoms.{Atom, atoms, atoms_of, atoms_of_fields, atoms_of_items}
use Rattle.container.specs.Folded.{is_folded, folded_at, folded_fields, folded_items}
use Rattle.container.specs.InFile.{has_atom}
use Rattle.container.specs.Named.{named_at, all_named}
use Rattle.container.specs.Spelled.{framed, spelled, spelled_at, spelled_fields, spelled_items}
use Rattle.container.specs.SpelledAtom.{spelled_atom}
use Rattle.container.specs.Tables.{Tables, kind_place}
use Rattle.container.proofs.SizeSpelled.{items_long}
use Rattle.container.proofs.Values.{child_fits}
use Rattle.tree_decoder.specs.Dues.{Due, due, dues, times, below, taken}
use Rattle.tree_decoder.specs.Left.{puts, then_left, dues_left}
use Rattle.tree_decoder.specs.Outcome.{Outcome, fault_from}
use Rattle.tree_decoder.specs.Range.{Range, IsSound, left}
use Rattle.tree_decoder.proofs.Accepts.{again, back_atoms, first_atom, other_atoms, part_rest, part_within, sits}
use Rattle.tree_decoder.proofs.Machine.{all_read, from_step}
use Rattle.tree_decoder.proofs.Nodes.{plain_item, spelled_times, times_atoms}
use Rattle.tree_decoder.proofs.Single.{is_le, left_length}

-- how deep a counted node may stand, whether a name may stand for the absent string, and whether a lazy field may hold a node
-- and a window
pub record Terms : Type 0 where
  pub limit : ℕ
  pub lax : Bool
  pub nodes : Bool
  pub windows : Bool

-- what an atom puts in place of its due, where a name may also stand for the absent string
abbrev pub put : FieldType → ℕ → Bool → Atom → Option (List Due)
put field.Text d w (atom.text entry) = Some []
put field.Name d w (atom.text entry) = Some []
put t d w a = puts t d w a

-- From these dues on the bytes spell these atoms, each for the first due, or for the first due in the node of a lazy field.
-- Behind them other dues are left.
pub data Spelling (s : Tables) (c : Terms) : List Due → List ℕ → List Atom → List Due → Type 0 where
  ends : (ds : List Due) → Spelling s c ds [] [] ds
  atom_then : (x : Due) (ds : List Due) (a : Atom) (es : List Due) (bytes : List ℕ) (others : List Atom) (rest : List Due)
      → put x.type x.depth x.inside a ≡ Some es → (c.lax ≡ false → puts x.type x.depth x.inside a ≡ Some es) → sits c.limit c.windows x.depth (length bytes) a ≡ true
      → Spelling s c (es ++ ds) bytes others rest → Spelling s c (x ∷ ds) (spelled_atom s a ++ bytes) (a ∷ others) rest
  node_then : (x : Due) (u : Union) (ds : List Due) (inner bytes : List ℕ) (within others : List Atom) (rest : List Due)
      → x.type ≡ field.Lazy u → c.nodes ≡ true → Spelling s c (due (field.Node u) x.depth x.inside ∷ []) inner within []
      → Spelling s c ds bytes others rest → Spelling s c (x ∷ ds) ((varnum (length inner) ++ inner) ++ bytes) (within ++ others) rest

respelled : (s : Tables) (c : Terms) (ds : List Due) (a b : List ℕ) (as1 bs : List Atom) (rest : List Due) → a ≡ b → as1 ≡ bs → Spelling s c ds a as1 rest → Spelling s c ds b bs rest
respelled s c ds a b as1 bs rest p q row = subst (λ (xs : List Atom). Spelling s c ds b xs rest) q (subst (λ (bytes : List ℕ). Spelling s c ds bytes as1 rest) p row)

pub trimmed : (s : Tables) (c : Terms) (ds : List Due) (a : List ℕ) (as1 : List Atom) (rest : List Due) → Spelling s c ds (a ++ []) (as1 ++ []) rest → Spelling s c ds a as1 rest
trimmed s c ds a as1 rest row = respelled s c ds (a ++ []) a (as1 ++ []) as1 rest (append-nil a) (append-nil as1) row

-- ---- what is known of a value, and of the values of several types

record Known (c : Terms) (h : Held) (t : FieldType) (d : ℕ) (w : Bool) (v : Datum) : Type 0 where
  pub fits : fits t v ≡ true
  pub named : c.lax ≡ false → named_at h v ≡ true
  pub eager : w ≡ true → is_eager_at v ≡ true
  pub deep : depth_at v + d ≤ c.limit + 1
  pub folded : c.nodes ≡ false → (is_folded t v && folded_at v) ≡ true
  pub whole : c.windows ≡ false → is_whole_at v ≡ true

pub record KnownIn (c : Terms) (h : Held) (ts : List FieldType) (d : ℕ) (w : Bool) (vs : Data) : Type 0 where
  pub fits : fit ts vs ≡ true
  pub named : c.lax ≡ false → all_named h vs ≡ true
  pub eager : w ≡ true → are_eager vs ≡ true
  pub deep : depth_in vs + d ≤ c.limit + 1
  pub folded : c.nodes ≡ false → folded_fields ts vs ≡ true
  pub whole : c.windows ≡ false → is_whole_in vs ≡ true

first_folded : (t : FieldType) (v : Datum) (rest : Bool) → (is_folded t v && (folded_at v && rest)) ≡ true → ((is_folded t v && folded_at v) ≡ true) × (rest ≡ true)
first_folded t v rest e =
    let parts = and_second (is_folded t v) (folded_at v && rest) e in
    (and_from (is_folded t v) (folded_at v) (and_first (is_folded t v) (folded_at v && rest) e) (and_first (folded_at v) rest parts), and_second (folded_at v) rest parts)

known_first : (c : Terms) (h : Held) (t : FieldType) (ts : List FieldType) (d : ℕ) (w : Bool) (v : Datum) (vs : Data) → KnownIn c h (t ∷ ts) d w (more v vs) → Known c h t d w v
known_first c h t ts d w v vs known = record {
  fits = and_first (fits t v) (fit ts vs) known.fits;
  named = λ e. and_first (named_at h v) (all_named h vs) (known.named e);
  eager = λ e. and_first (is_eager_at v) (are_eager vs) (known.eager e);
  deep = omega (arith, known.deep);
  folded = λ e. (first_folded t v (folded_fields ts vs) (known.folded e)).0;
  whole = λ e. and_first (is_whole_at v) (is_whole_in vs) (known.whole e);
}

known_rest : (c : Terms) (h : Held) (t : FieldType) (ts : List FieldType) (d : ℕ) (w : Bool) (v : Datum) (vs : Data) → KnownIn c h (t ∷ ts) d w (more v vs) → KnownIn c h ts d w vs
known_rest c h t ts d w v vs known = record {
  fits = and_second (fits t v) (fit ts vs) known.fits;
  named = λ e. and_second (named_at h v) (all_named h vs) (known.named e);
  eager = λ e. and_second (is_eager_at v) (are_eager vs) (known.eager e);
  deep = omega (arith, known.deep);
  folded = λ e. (first_folded t v (folded_fields ts vs) (known.folded e)).1;
  whole = λ e. and_second (is_whole_at v) (is_whole_in vs) (known.whole e);
}

shallow_of : (b : Bool) (x d limit : ℕ) → cond b 1 0 + x + d ≤ limit + 1 → (not (b && ltb limit d) ≡ true) × (x + cond b (d + 1) d ≤ limit + 1)
shallow_of true x d limit h = (ap not (le-ltb limit d (omega arith)), omega arith)
shallow_of false x d limit h = (refl, omega arith)

known_fields : (c : Terms) (h : Held) (t : FieldType) (d : ℕ) (w : Bool) (k : Kind) (vs : Data) → Known c h t d w (child (branch k vs)) → KnownIn c h (fields k) (below k d) w vs
known_fields c h t d w k vs known = record {
  fits = child_fits t (branch k vs) known.fits;
  named = known.named;
  eager = λ e. and_second (not (has_lazy k)) (are_eager vs) (known.eager e);
  deep = (shallow_of (counted k) (depth_in vs) d c.limit known.deep).1;
  folded = λ e. and_second (is_folded t (child (branch k vs))) (folded_fields (fields k) vs) (known.folded e);
  whole = known.whole;
}

-- items are values of one type a number of times
pub fits_times : (u : Union) (holes : Bool) (vs : Data) → items_fit u holes vs ≡ true → fit (times (count vs) (item_type u holes)) vs ≡ true
fits_times u holes none e = refl
fits_times u holes (more v vs) e =
    both (fits (item_type u holes) v) (fit (times (count vs) (item_type u holes)) vs) (and_first (fits (item_type u holes) v) (items_fit u holes vs) e) (fits_times u holes vs (and_second (fits (item_type u holes) v) (items_fit u holes vs) e))

pub folded_times : (u : Union) (holes : Bool) (vs : Data) → folded_items vs ≡ true → folded_fields (times (count vs) (item_type u holes)) vs ≡ true
folded_times u holes none e = refl
folded_times u holes (more v vs) e =
    both (is_folded (item_type u holes) v) (folded_at v && folded_fields (times (count vs) (item_type u holes)) vs) (plain_item u holes v)
    (both (folded_at v) (folded_fields (times (count vs) (item_type u holes)) vs) (and_first (folded_at v) (folded_items vs) e) (folded_times u holes vs (and_second (folded_at v) (folded_items vs) e)))

known_items : (c : Terms) (h : Held) (u : Union) (holes filled : Bool) (d : ℕ) (w : Bool) (vs : Data) → Known c h (field.List u holes filled) d w (listed vs) → KnownIn c h (times (count vs) (item_type u holes)) d w vs
known_items c h u holes filled d w vs known = record {
  fits = fits_times u holes vs (and_second (not filled || not (is_none vs)) (items_fit u holes vs) known.fits);
  named = known.named;
  eager = known.eager;
  deep = known.deep;
  folded = λ e. folded_times u holes vs (known.folded e);
  whole = known.whole;
}

lazy_known : (c : Terms) (h : Held) (u : Union) (d : ℕ) (w : Bool) (t : Tree) → Known c h (field.Lazy u) d w (child t) → Known c h (field.Node u) d w (child t)
lazy_known c h u d w t known = record { fits = known.fits; named = known.named; eager = known.eager; deep = known.deep; folded = λ e. (let bad : false ≡ true = known.folded e in absurd cc); whole = known.whole }

-- ---- the atoms of a value go before those of what is due behind it

must_hold : (b : Bool) → (b ≡ false → false ≡ true) → b ≡ true
must_hold true e = refl
must_hold false e = e refl

pub if_yes : (b : Bool) (ds : List Due) → b ≡ true → cond b (Some ds) None ≡ Some ds
if_yes b ds e = rw e refl

pub not_lazy : (w b c : Bool) → (w ≡ true → (not b && c) ≡ true) → (w && b) ≡ false
not_lazy false b c eager = refl
not_lazy true true c eager = let h = eager refl in cc
not_lazy true false c eager = refl

pub enough_of : (filled : Bool) (vs : Data) → (not filled || not (is_none vs)) ≡ true → (filled && nat_eq (count vs) 0) ≡ false
enough_of false vs e = refl
enough_of true none e = cc
enough_of true (more v vs) e = grind arith

-- the text of a choice
pub choice_text_of : (set : EnumId) (c : ℕ) → nat_lt c (length (choice_texts set)) ≡ true → choice_of_text set (get_or (choice_texts set) c []) ≡ Some c
choice_text_of set c lt = choice_of_its_text set c (get_or (choice_texts set) c []) (slice_get-get_or (choice_texts set) c [] (ltb-true _ _ lt))

puts_null : (u : Union) (k : Kind) (d : ℕ) (w : Bool) (b : Bool) → same_kind k Null ≡ b → (allowed u k && not (w && has_lazy k)) ≡ true → cond b (Some []) (puts (field.Node u) d w (atom.kind k)) ≡ Some (dues (fields k) (below k d) w)
puts_null u k d w true is may = ap (λ (j : Kind). Some (dues (fields j) (below j d) w)) (sym (same_kind_true k Null is))
puts_null u k d w false is may = if_yes (allowed u k && not (w && has_lazy k)) (dues (fields k) (below k d) w) may

-- a kind that may stand there puts its fields; that of an absent node has none
pub puts_kind : (u : Union) (optional : Bool) (k : Kind) (d : ℕ) (w : Bool) → allowed u k ≡ true → (w && has_lazy k) ≡ false → puts (item_type u optional) d w (atom.kind k) ≡ Some (dues (fields k) (below k d) w)
puts_kind u true k d w allow eager = puts_null u k d w (same_kind k Null) refl (both (allowed u k) (not (w && has_lazy k)) allow (ap not eager))
puts_kind u false k d w allow eager = if_yes (allowed u k && not (w && has_lazy k)) (dues (fields k) (below k d) w) (both (allowed u k) (not (w && has_lazy k)) allow (ap not eager))

put_item : (u : Union) (optional : Bool) (d : ℕ) (w : Bool) (a : Atom) → put (item_type u optional) d w a ≡ puts (item_type u optional) d w a
put_item u true d w a = refl
put_item u false d w a = refl

mutual
  row_tree : (s : Tables) (c : Terms) (h : Held) (t : Tree) (u : Union) (optional : Bool) (d : ℕ) (w : Bool) → Known c h (item_type u optional) d w (child t) → allowed u (kind_of t) ≡ true
      → (ds : List Due) (bytes : List ℕ) (others : List Atom) (rest : List Due) → Spelling s c ds bytes others rest → Spelling s c (due (item_type u optional) d w ∷ ds) (spelled s h t ++ bytes) (atoms h t ++ others) rest
  row_tree s c h (branch k vs) u optional d w known may ds bytes others rest on =
      let inside = spelled_fields s h (fields k) vs in
      let is = puts_kind u optional k d w may (not_lazy w (has_lazy k) (are_eager vs) known.eager) in
      let row = row_fields s c h vs (fields k) (below k d) w (known_fields c h (item_type u optional) d w k vs known) ds bytes others rest on in
      respelled s c (due (item_type u optional) d w ∷ ds) _ _ _ _ rest (sym (append_assoc (varnum (kind_place s k)) inside bytes)) refl
      (atom_then (due (item_type u optional) d w) ds (atom.kind k) (dues (fields k) (below k d) w) (inside ++ bytes) (atoms_of_fields h (fields k) vs ++ others) rest
      (put_item u optional d w (atom.kind k) ∙ is) (λ e. is) (shallow_of (counted k) (depth_in vs) d c.limit known.deep).0 row)

  row_at : (s : Tables) (c : Terms) (h : Held) (v : Datum) (t : FieldType) (d : ℕ) (w : Bool) → Known c h t d w v
      → (ds : List Due) (bytes : List ℕ) (others : List Atom) (rest : List Due) → Spelling s c ds bytes others rest → Spelling s c (due t d w ∷ ds) (framed t (spelled_at s h t v) ++ bytes) (atoms_of h t v ++ others) rest
  row_at s c h (child t) (field.Node u) d w known ds bytes others rest on = row_tree s c h t u false d w known (and_first (allowed u (kind_of t)) (typed t) known.fits) ds bytes others rest on
  row_at s c h (child t) (field.Optional u) d w known ds bytes others rest on = row_tree s c h t u true d w known (and_first (allowed u (kind_of t)) (typed t) known.fits) ds bytes others rest on
  row_at s c h (child t) (field.Lazy u) d w known ds bytes others rest on =
      let inner = row_tree s c h t u false d w (lazy_known c h u d w t known) (and_first (allowed u (kind_of t)) (typed t) known.fits) [] [] [] [] (ends []) in
      node_then (due (field.Lazy u) d w) u ds (spelled s h t) bytes (atoms h t) others rest refl (must_hold c.nodes known.folded) (trimmed s c (due (field.Node u) d w ∷ []) (spelled s h t) (atoms h t) [] inner) on
  row_at s c h (window from to) (field.Lazy u) d w known ds bytes others rest on =
      atom_then (due (field.Lazy u) d w) ds (atom.window (bytes_of h from to)) [] bytes others rest refl (λ e. refl) (must_hold c.windows known.whole) on
  row_at s c h absent (field.Optional u) d w known ds bytes others rest on = atom_then (due (field.Optional u) d w) ds (atom.kind Null) [] bytes others rest refl (λ e. refl) refl on
  row_at s c h (listed vs) (field.List u holes filled) d w known ds bytes others rest on =
      let ts = times (count vs) (item_type u holes) in
      let inside = known_items c h u holes filled d w vs known in
      let row = respelled s c (dues ts d w ++ ds) _ _ _ _ rest (ap (λ (b : List ℕ). b ++ bytes) (spelled_times s h (count vs) u holes vs inside.fits)) (ap (λ (xs : List Atom). xs ++ others) (times_atoms h (count vs) u holes vs inside.fits)) (row_fields s c h vs ts d w inside ds bytes others rest on) in
      let is : puts (field.List u holes filled) d w (atom.count (count vs)) ≡ Some (dues (times (count vs) (item_type u holes)) d w) = rw (enough_of filled vs (and_first (not filled || not (is_none vs)) (items_fit u holes vs) known.fits)) refl in
      let many : count vs ≤ length (spelled_items s h vs) = items_long s h u holes vs (and_second (not filled || not (is_none vs)) (items_fit u holes vs) known.fits) in
      respelled s c (due (field.List u holes filled) d w ∷ ds) _ _ _ _ rest (sym (append_assoc (varnum (count vs)) (spelled_items s h vs) bytes)) refl
      (atom_then (due (field.List u holes filled) d w) ds (atom.count (count vs)) (dues ts d w) (spelled_items s h vs ++ bytes) (atoms_of_items h vs ++ others) rest is (λ e. is)
      (is_le (count vs) (length (spelled_items s h vs ++ bytes)) (omega (arith, length-append (spelled_items s h vs) bytes))) row)
  row_at s c h (flag b) field.Bool d w known ds bytes others rest on = atom_then (due field.Bool d w) ds (atom.flag b) [] bytes others rest refl (λ e. refl) refl on
  row_at s c h (index n) field.Index d w known ds bytes others rest on = let is = if_yes (nat_lt n 4294967296) [] known.fits in atom_then (due field.Index d w) ds (atom.index n) [] bytes others rest is (λ e. is) refl on
  row_at s c h (whole n) field.Whole d w known ds bytes others rest on = let is = if_yes (nat_lt n 9007199254740992) [] known.fits in atom_then (due field.Whole d w) ds (atom.whole n) [] bytes others rest is (λ e. is) refl on
  row_at s c h (name n) field.Text d w known ds bytes others rest on = atom_then (due field.Text d w) ds (atom.text (text_of h n)) [] bytes others rest refl (λ e. if_yes (is_some (text_of h n)) [] (known.named e)) refl on
  row_at s c h (name n) field.Name d w known ds bytes others rest on = atom_then (due field.Name d w) ds (atom.text (text_of h n)) [] bytes others rest refl (λ e. if_yes (is_some (text_of h n)) [] (known.named e)) refl on
  row_at s c h (name n) field.Label d w known ds bytes others rest on = atom_then (due field.Label d w) ds (atom.text (text_of h n)) [] bytes others rest refl (λ e. refl) refl on
  row_at s c h no_name field.Label d w known ds bytes others rest on = atom_then (due field.Label d w) ds (atom.text None) [] bytes others rest refl (λ e. refl) refl on
  row_at s c h (choice n) (field.Choice set) d w known ds bytes others rest on =
      let is = if_yes (is_some (choice_of_text set (get_or (choice_texts set) n []))) [] (ap is_some (choice_text_of set n known.fits)) in
      atom_then (due (field.Choice set) d w) ds (atom.text (atom.chosen (field.Choice set) n)) [] bytes others rest is (λ e. is) refl on
  row_at s c h _ _ d w known ds bytes others rest on = let bad : false ≡ true = known.fits in absurd cc

  pub row_fields : (s : Tables) (c : Terms) (h : Held) (vs : Data) (ts : List FieldType) (d : ℕ) (w : Bool) → KnownIn c h ts d w vs
      → (ds : List Due) (bytes : List ℕ) (others : List Atom) (rest : List Due) → Spelling s c ds bytes others rest → Spelling s c (dues ts d w ++ ds) (spelled_fields s h ts vs ++ bytes) (atoms_of_fields h ts vs ++ others) rest
  row_fields s c h none [] d w known ds bytes others rest on = on
  row_fields s c h none (t ∷ ts) d w known ds bytes others rest on = let bad : false ≡ true = known.fits in absurd cc
  row_fields s c h (more v vs) [] d w known ds bytes others rest on = let bad : false ≡ true = known.fits in absurd cc
  row_fields s c h (more v vs) (t ∷ ts) d w known ds bytes others rest on =
      let back = spelled_fields s h ts vs in
      respelled s c (dues (t ∷ ts) d w ++ ds) _ _ _ _ rest (sym (append_assoc (framed t (spelled_at s h t v)) back bytes)) (sym (append_assoc (atoms_of h t v) (atoms_of_fields h ts vs) others))
      (row_at s c h v t d w (known_first c h t ts d w v vs known) (dues ts d w ++ ds) (back ++ bytes) (atoms_of_fields h ts vs ++ others) rest
      (row_fields s c h vs ts d w (known_rest c h t ts d w v vs known) ds bytes others rest on))

-- ---- the atoms of a value are due where it is, and leave what is due behind it

strict : (s : Tables) (c : Terms) → c.lax ≡ false → c.nodes ≡ false → (ds : List Due) (bytes : List ℕ) (xs : List Atom) (rest : List Due) → Spelling s c ds bytes xs rest → (others : List Atom) → dues_left ds (xs ++ others) ≡ dues_left rest others
strict s c named windows _ _ _ _ (ends ds) others = refl
strict s c named windows _ _ _ rest (atom_then x ds a es bytes xs _ put_is puts_is fine on) others = ap (then_left (λ fs. dues_left fs (xs ++ others)) ds) (puts_is named) ∙ strict s c named windows (es ++ ds) bytes xs rest on others
strict s c named windows _ _ _ rest (node_then x u ds inner bytes within xs _ is opens row on) others = let bad : true ≡ false = sym opens ∙ windows in absurd cc

abbrev windows_only : ℕ → Terms
windows_only n = record { limit = n; lax = false; nodes = false; windows = true }

pub left_at : (h : Held) (v : Datum) (t : FieldType) (d : ℕ) (w : Bool) → fits t v ≡ true → named_at h v ≡ true → is_folded t v ≡ true → folded_at v ≡ true → (w ≡ true → is_eager_at v ≡ true) → (ds : List Due) (others : List Atom) → dues_left (due t d w ∷ ds) (atoms_of h t v ++ others) ≡ dues_left ds others
left_at h v t d w ok names plain closed eager ds others =
    let s : Tables = record { kinds = []; texts = [] } in
    let known : Known (windows_only (depth_at v + d)) h t d w v = record { fits = ok; named = λ e. names; eager = eager; deep = omega arith; folded = λ e. both (is_folded t v) (folded_at v) plain closed; whole = λ e. absurd cc } in
    ap (λ (xs : List Atom). dues_left (due t d w ∷ ds) (xs ++ others)) (sym (append-nil (atoms_of h t v)))
    ∙ strict s (windows_only (depth_at v + d)) refl refl (due t d w ∷ ds) _ _ ds (row_at s (windows_only (depth_at v + d)) h v t d w known ds [] [] ds (ends ds)) others

-- ---- what is spelled so is read with no fault

abbrev read_terms : Terms
read_terms = record { limit = 512; lax = false; nodes = true; windows = true }

-- where what stands behind an atom has no fault, the atom and what stands behind it have none
step_accepted : (r : Range) (x : Due) (ds : List Due) (at : ℕ) (a : Atom) (es : List Due) (bytes : List ℕ) → IsSound r → at ≤ r.end → puts x.type x.depth x.inside a ≡ Some es → sits 512 true x.depth (length bytes) a ≡ true → has_atom r.tables a ≡ true
    → left r at ≡ spelled_atom r.tables a ++ bytes → ((to : ℕ) → to ≤ r.end → left r to ≡ bytes → fault_from r (es ++ ds) to ≡ None) → fault_from r (x ∷ ds) at ≡ None
step_accepted r x ds at a es bytes sound order is fine has e rest =
    let next = at + length (spelled_atom r.tables a) in
    let read = again r x.type x.depth x.inside at a es bytes sound order is fine has e in
    ap (λ (o : Outcome). o.fault) (from_step r x ds at (taken es read.0 next) sound order read.1)
    ∙ rest next (part_within r (spelled_atom r.tables a) bytes at sound order e) (part_rest r (spelled_atom r.tables a) bytes at sound order e)

accepted : (r : Range) → IsSound r → (ds : List Due) (bytes : List ℕ) (xs : List Atom) → Spelling r.tables read_terms ds bytes xs [] → list_all (has_atom r.tables) xs ≡ true → (at : ℕ) → at ≤ r.end → left r at ≡ bytes → fault_from r ds at ≡ None
accepted r sound _ _ _ (ends _) has at order e =
    let nothing : length (left r at) ≡ 0 = ap length e in
    let whole : length (left r at) ≡ r.end - at = left_length r at sound order in
    ap (λ (o : Outcome). o.fault) (all_read r at (omega arith))
accepted r sound _ _ _ (atom_then x ds a es bytes xs _ put_is puts_is fine on) has at order e =
    step_accepted r x ds at a es bytes sound order (puts_is refl) fine (first_atom r.tables a xs has) e (λ to far is. accepted r sound (es ++ ds) bytes xs on (other_atoms r.tables a xs has) to far is)
accepted r sound _ _ _ (node_then x u ds inner bytes within xs _ is opens row on) has at order e =
    step_accepted r x ds at (atom.window inner) [] bytes sound order (ap (λ (t : FieldType). puts t x.depth x.inside (atom.window inner)) is) refl refl e
    (λ to far there. accepted r sound ds bytes xs on (back_atoms r.tables within xs has) to far there)

pub tree_accepted : (r : Range) (h : Held) (t : Tree) (u : Union) (at : ℕ) → IsSound r → at ≤ r.end → (allowed u (kind_of t) && typed t) ≡ true → list_all (has_atom r.tables) (atoms h t) ≡ true → named_at h (child t) ≡ true → depth_at (child t) ≤ 512 → left r at ≡ spelled r.tables h t → fault_from r (due (field.Node u) 1 false ∷ []) at ≡ None
tree_accepted r h t u at sound order ok has names shallow e =
    let known : Known read_terms h (field.Node u) 1 false (child t) = record { fits = ok; named = λ n. names; eager = λ n. absurd cc; deep = omega arith; folded = λ n. absurd cc; whole = λ n. absurd cc } in
    let row = row_at r.tables read_terms h (child t) (field.Node u) 1 false known [] [] [] [] (ends []) in
    accepted r sound (due (field.Node u) 1 false ∷ []) (spelled r.tables h t) (atoms h t) (trimmed r.tables read_terms (due (field.Node u) 1 false ∷ []) (spelled r.tables h t) (atoms h t) [] row) has at order e
