-- Atoms that leave nothing due are those of a tree.
use Rattle.std.proofs.Common.{ℕ, zero, suc, ◌+◌, ◌-◌, ◌≤◌, ◌≡◌, Bool, true, false, not, ◌&&◌, ◌||◌, cond, eqb, nat_lt, length, take, drop, slice_range, List, [], ◌∷◌, ◌++◌, Option, Some, None, refl, sym, ap, ◌∙◌, append_assoc, append-nil, arith}
use Rattle.std.specs.Option.{is_some}
use Rattle.std.proofs.lemmas.Bool.{lt-ltb}
use Rattle.std.proofs.lemmas.List.{drop-drop, drop_at, take_at}
use Rattle.std.proofs.lemmas.Option.{slice_get_within, get_or_from_slice_get}
use Rattle.bast_schema.specs.declared.kind.EnumId.{EnumId}
use Rattle.bast_schema.specs.declared.kind.FieldType.{FieldType}
use Rattle.bast_schema.specs.declared.kind.FieldType.TheVariants as field
use Rattle.bast_schema.specs.declared.kind.Kind.{Kind}
use Rattle.bast_schema.specs.declared.kind.Kind.TheVariants.{Null}
use Rattle.bast_schema.specs.declared.kind.Union.{Union}
use Rattle.bast_schema.specs.Choices.{choice_texts, choice_of_text}
use Rattle.bast_schema.specs.Fields.{fields, has_lazy}
use Rattle.bast_schema.specs.Held.{Held, text_of, bytes_of}
use Rattle.bast_schema.specs.Kinds.{same_kind}
use Rattle.bast_schema.specs.Tree.{branch, Datum, child, absent, listed, no_name, choice, Data, none, more, fits, fit, items_fit, item_type, is_none}
use Rattle.bast_schema.specs.Tree as tree
use Rattle.bast_schema.specs.Unions.{allowed}
use Rattle.bast_schema.proofs.Both.{and_first, and_second, both}
use Rattle.bast_schema.proofs.ChoiceTexts.{text_of_choice}
use Rattle.bast_schema.proofs.EachKind.{same_kind_true}
use Rattle.bast_schema.proofs.Lists.{count_fit}
use Rattle.container.specs.Atoms.{Atom, kind, count, flag, index, whole, text, window, atoms_of, atoms_of_fields, atoms_of_items}
use Rattle.bast_schema.specs.Eager.{is_eager_at, are_eager}
use Rattle.tree_decoder.specs.Dues.{Due, due, dues, times, below}
use Rattle.container.specs.Folded.{is_folded, folded_at, folded_fields}
use Rattle.tree_decoder.specs.Left.{puts, then_left, dues_left, IsOfDue}
use Rattle.container.specs.Named.{named_at, all_named}
use Rattle.tree_decoder.proofs.Nodes.{items_fit_times, length_times, times_atoms, times_folded, plain_item, fits_child, list_fits}

-- ---- texts and bytes for the atoms

abbrev Covered : Held → Atom → Type 0
Covered h (text (Some bytes)) = (n : ℕ) × (text_of h n ≡ Some bytes)
Covered h (window bytes) = (from : ℕ) × (to : ℕ) × (bytes_of h from to ≡ bytes)
Covered h _ = Unit {0}

abbrev Covers : Held → List Atom → Type 0
Covers h [] = Unit {0}
Covers h (a ∷ xs) = Covered h a × Covers h xs

abbrev with_text : List ℕ → Held → Held
with_text bytes h = record { texts = Some bytes ∷ h.texts; tape = h.tape }

abbrev with_bytes : List ℕ → Held → Held
with_bytes bytes h = record { texts = h.texts; tape = bytes ++ h.tape }

moved_bytes : (bytes tape : List ℕ) (from to : ℕ) → slice_range (bytes ++ tape) (length bytes + from) (length bytes + to) ≡ slice_range tape from to
moved_bytes bytes tape from to =
    let size : length bytes + to - (length bytes + from) ≡ to - from = omega arith in
    ap (λ (n : ℕ). take n (drop (length bytes + from) (bytes ++ tape))) size
    ∙ ap (take (to - from)) (sym (drop-drop from (length bytes) (bytes ++ tape)) ∙ ap (drop from) (drop_at bytes tape (length bytes) refl))

covered_text : (bytes : List ℕ) (h : Held) (a : Atom) → Covered h a → Covered (with_text bytes h) a
covered_text bytes h (text (Some other)) c = (suc c.0, c.1)
covered_text bytes h (window other) c = c
covered_text bytes h _ c = tt

covered_bytes : (bytes : List ℕ) (h : Held) (a : Atom) → Covered h a → Covered (with_bytes bytes h) a
covered_bytes bytes h (text (Some other)) c = c
covered_bytes bytes h (window other) c = (length bytes + c.0, length bytes + c.1, moved_bytes bytes h.tape c.0 c.1 ∙ c.2)
covered_bytes bytes h _ c = tt

covers_by : (h g : Held) → ((a : Atom) → Covered h a → Covered g a) → (xs : List Atom) → Covers h xs → Covers g xs
covers_by h g wider [] c = tt
covers_by h g wider (a ∷ xs) c = (wider a c.0, covers_by h g wider xs c.1)

first_bytes : (bytes tape : List ℕ) → slice_range (bytes ++ tape) 0 (length bytes) ≡ bytes
first_bytes bytes tape = let size : length bytes - 0 ≡ length bytes = omega arith in ap (λ (n : ℕ). take n (bytes ++ tape)) size ∙ take_at bytes tape (length bytes) refl

-- there are texts and bytes for all atoms
held_over : (xs : List Atom) → (h : Held) × Covers h xs
held_over [] = (record { texts = []; tape = [] }, tt)
held_over (text (Some bytes) ∷ xs) = let o = held_over xs in (with_text bytes o.0, ((0, refl), covers_by o.0 (with_text bytes o.0) (covered_text bytes o.0) xs o.1))
held_over (window bytes ∷ xs) = let o = held_over xs in (with_bytes bytes o.0, ((0, length bytes, first_bytes bytes o.0.tape), covers_by o.0 (with_bytes bytes o.0) (covered_bytes bytes o.0) xs o.1))
held_over (_ ∷ xs) = let o = held_over xs in (o.0, (tt, o.1))

-- ---- a value for a due, and values for several

record One (h : Held) (t : FieldType) (w : Bool) (ds : List Due) (xs : List Atom) : Type 0 where
  pub value : Datum
  pub others : List Atom
  pub atoms : xs ≡ atoms_of h t value ++ others
  pub of_due : IsOfDue h t w value
  pub rest : dues_left ds others ≡ Some []
  pub covers : Covers h others
  pub shorter : length others ≤ length xs

record Several (h : Held) (ts : List FieldType) (w : Bool) (ds : List Due) (xs : List Atom) : Type 0 where
  pub values : Data
  pub others : List Atom
  pub atoms : xs ≡ atoms_of_fields h ts values ++ others
  pub fit : fit ts values ≡ true
  pub named : all_named h values ≡ true
  pub folded : folded_fields ts values ≡ true
  pub eager : w ≡ true → are_eager values ≡ true
  pub rest : dues_left ds others ≡ Some []
  pub covers : Covers h others
  pub shorter : length others ≤ length xs

abbrev OneAt : ℕ → Held → Type 0
OneAt n h = (t : FieldType) (d : ℕ) (w : Bool) (ds : List Due) (xs : List Atom) → length xs ≤ n → Covers h xs → dues_left (due t d w ∷ ds) xs ≡ Some [] → One h t w ds xs

abbrev SeveralAt : ℕ → Held → Type 0
SeveralAt n h = (ts : List FieldType) (d : ℕ) (w : Bool) (ds : List Due) (xs : List Atom) → length xs ≤ n → Covers h xs → dues_left (dues ts d w ++ ds) xs ≡ Some [] → Several h ts w ds xs

several_at : (n : ℕ) (h : Held) (ts : List FieldType) → OneAt n h → (d : ℕ) (w : Bool) (ds : List Due) (xs : List Atom) → length xs ≤ n → Covers h xs → dues_left (dues ts d w ++ ds) xs ≡ Some [] → Several h ts w ds xs
several_at n h [] one d w ds xs few c e = record { values = none; others = xs; atoms = refl; fit = refl; named = refl; folded = refl; eager = λ yes. refl; rest = e; covers = c; shorter = omega arith }
several_at n h (t ∷ ts) one d w ds xs few c e =
    let o = one t d w (dues ts d w ++ ds) xs few c e in
    let less : length o.others ≤ length xs = o.shorter in
    let r = several_at n h ts one d w ds o.others (omega arith) o.covers o.rest in
    let shorter : length r.others ≤ length o.others = r.shorter in
    record {
      values = more o.value r.values;
      others = r.others;
      atoms = o.atoms ∙ ap (λ (z : List Atom). atoms_of h t o.value ++ z) r.atoms ∙ sym (append_assoc (atoms_of h t o.value) (atoms_of_fields h ts r.values) r.others);
      fit = both (fits t o.value) (fit ts r.values) o.of_due.fits r.fit;
      named = both (named_at h o.value) (all_named h r.values) o.of_due.named r.named;
      folded = both (is_folded t o.value) (folded_at o.value && folded_fields ts r.values) o.of_due.is_folded (both (folded_at o.value) (folded_fields ts r.values) o.of_due.folded r.folded);
      eager = λ yes. both (is_eager_at o.value) (are_eager r.values) (o.of_due.eager yes) (r.eager yes);
      rest = r.rest;
      covers = r.covers;
      shorter = omega arith;
    }

-- ---- by the first due and the first atom

if_some : (b : Bool) (es ds : List Due) (others : List Atom) → then_left (λ fs. dues_left fs others) ds (cond b (Some es) None) ≡ Some [] → (b ≡ true) × (dues_left (es ++ ds) others ≡ Some [])
if_some true es ds others e = (refl, e)
if_some false es ds others e = absurd cc

if_none : (b : Bool) (es ds : List Due) (others : List Atom) → then_left (λ fs. dues_left fs others) ds (cond b None (Some es)) ≡ Some [] → (b ≡ false) × (dues_left (es ++ ds) others ≡ Some [])
if_none true es ds others e = absurd cc
if_none false es ds others e = (refl, e)

no_lazy : (w b : Bool) → not (w && b) ≡ true → w ≡ true → not b ≡ true
no_lazy true b e in_window = e
no_lazy false b e in_window = absurd cc

one_node : (n : ℕ) (h : Held) (u : Union) (optional : Bool) (d : ℕ) (w : Bool) (ds : List Due) (k : Kind) (xs : List Atom) → SeveralAt n h → length xs ≤ n → Covers h xs → (allowed u k && not (w && has_lazy k)) ≡ true → dues_left (dues (fields k) (below k d) w ++ ds) xs ≡ Some [] → One h (item_type u optional) w ds (kind k ∷ xs)
one_node n h u optional d w ds k xs several few c ok e =
    let r = several (fields k) (below k d) w ds xs few c e in
    let less : length r.others ≤ length xs = r.shorter in
    record {
      value = child (branch k r.values);
      others = r.others;
      atoms = ap (λ (z : List Atom). kind k ∷ z) r.atoms;
      of_due = record {
        fits = fits_child u optional (branch k r.values) (and_first (allowed u k) (not (w && has_lazy k)) ok) r.fit;
        named = r.named;
        is_folded = plain_item u optional (child (branch k r.values));
        folded = r.folded;
        eager = λ yes. both (not (has_lazy k)) (are_eager r.values) (no_lazy w (has_lazy k) (and_second (allowed u k) (not (w && has_lazy k)) ok) yes) (r.eager yes);
      };
      rest = r.rest;
      covers = r.covers;
      shorter = omega arith;
    }

one_optional : (n : ℕ) (h : Held) (u : Union) (d : ℕ) (w : Bool) (ds : List Due) (k : Kind) (xs : List Atom) (b : Bool) → same_kind k Null ≡ b → SeveralAt n h → length xs ≤ n → Covers h xs → then_left (λ fs. dues_left fs xs) ds (cond b (Some []) (cond (allowed u k && not (w && has_lazy k)) (Some (dues (fields k) (below k d) w)) None)) ≡ Some [] → One h (field.Optional u) w ds (kind k ∷ xs)
one_optional n h u d w ds k xs true is several few c e =
    record {
      value = absent;
      others = xs;
      atoms = ap (λ (j : Kind). kind j ∷ xs) (same_kind_true k Null is);
      of_due = record { fits = refl; named = refl; is_folded = refl; folded = refl; eager = λ yes. refl };
      rest = e;
      covers = c;
      shorter = omega arith;
    }
one_optional n h u d w ds k xs false is several few c e =
    let g = if_some (allowed u k && not (w && has_lazy k)) (dues (fields k) (below k d) w) ds xs e in
    one_node n h u true d w ds k xs several few c g.0 g.1

one_list : (n : ℕ) (h : Held) (u : Union) (holes filled : Bool) (d : ℕ) (w : Bool) (ds : List Due) (m : ℕ) (xs : List Atom) → SeveralAt n h → length xs ≤ n → Covers h xs → (filled && eqb m 0) ≡ false → dues_left (dues (times m (item_type u holes)) d w ++ ds) xs ≡ Some [] → One h (field.List u holes filled) w ds (count m ∷ xs)
one_list n h u holes filled d w ds m xs several few c enough e =
    let r = several (times m (item_type u holes)) d w ds xs few c e in
    let less : length r.others ≤ length xs = r.shorter in
    let many : tree.count r.values ≡ m = count_fit (times m (item_type u holes)) r.values r.fit ∙ length_times m (item_type u holes) in
    record {
      value = listed r.values;
      others = r.others;
      atoms = ap (λ (z : List Atom). count m ∷ z) (r.atoms ∙ ap (λ (z : List Atom). z ++ r.others) (times_atoms h m u holes r.values r.fit)) ∙ ap (λ (k : ℕ). count k ∷ (atoms_of_items h r.values ++ r.others)) (sym many);
      of_due = record {
        fits = both (not filled || not (is_none r.values)) (items_fit u holes r.values) (list_fits filled m (item_type u holes) r.values enough r.fit) (items_fit_times m u holes r.values r.fit);
        named = r.named;
        is_folded = refl;
        folded = times_folded m (item_type u holes) r.values r.fit r.folded;
        eager = r.eager;
      };
      rest = r.rest;
      covers = r.covers;
      shorter = omega arith;
    }

-- a value with no parts
one_leaf : (h : Held) (t : FieldType) (w : Bool) (ds : List Due) (a : Atom) (xs : List Atom) (v : Datum) → Covers h xs → dues_left ds xs ≡ Some [] → atoms_of h t v ≡ a ∷ [] → fits t v ≡ true → named_at h v ≡ true → is_folded t v ≡ true → folded_at v ≡ true → is_eager_at v ≡ true → One h t w ds (a ∷ xs)
one_leaf h t w ds a xs v c e is f nm fo fd eg =
    record {
      value = v;
      others = xs;
      atoms = ap (λ (z : List Atom). z ++ xs) (sym is);
      of_due = record { fits = f; named = nm; is_folded = fo; folded = fd; eager = λ yes. eg };
      rest = e;
      covers = c;
      shorter = omega arith;
    }

one_choice : (h : Held) (set : EnumId) (w : Bool) (ds : List Due) (bytes : List ℕ) (xs : List Atom) (o : Option ℕ) → choice_of_text set bytes ≡ o → Covers h xs → then_left (λ fs. dues_left fs xs) ds (cond (is_some o) (Some []) None) ≡ Some [] → One h (field.Choice set) w ds (text (Some bytes) ∷ xs)
one_choice h set w ds bytes xs (Some c) found cov e =
    let there = text_of_choice set bytes c found in
    one_leaf h (field.Choice set) w ds (text (Some bytes)) xs (choice c) cov e (ap (λ (b : List ℕ). text (Some b) ∷ []) (get_or_from_slice_get (choice_texts set) c bytes [] there)) (lt-ltb _ _ (slice_get_within (choice_texts set) c bytes there)) refl refl refl refl
one_choice h set w ds bytes xs None found cov e = absurd cc

one_first : (n : ℕ) (h : Held) (t : FieldType) (d : ℕ) (w : Bool) (ds : List Due) (a : Atom) (xs : List Atom) → SeveralAt n h → length xs ≤ n → Covered h a → Covers h xs → then_left (λ fs. dues_left fs xs) ds (puts t d w a) ≡ Some [] → One h t w ds (a ∷ xs)
one_first n h (field.Node u) d w ds (kind k) xs several few ca c e = let g = if_some (allowed u k && not (w && has_lazy k)) (dues (fields k) (below k d) w) ds xs e in one_node n h u false d w ds k xs several few c g.0 g.1
one_first n h (field.Optional u) d w ds (kind k) xs several few ca c e = one_optional n h u d w ds k xs (same_kind k Null) refl several few c e
one_first n h (field.List u holes filled) d w ds (count m) xs several few ca c e = let g = if_none (filled && eqb m 0) (dues (times m (item_type u holes)) d w) ds xs e in one_list n h u holes filled d w ds m xs several few c g.0 g.1
one_first n h field.Bool d w ds (flag b) xs several few ca c e = one_leaf h field.Bool w ds (flag b) xs (tree.flag b) c e refl refl refl refl refl refl
one_first n h field.Index d w ds (index m) xs several few ca c e = let g = if_some (nat_lt m 4294967296) [] ds xs e in one_leaf h field.Index w ds (index m) xs (tree.index m) c g.1 refl g.0 refl refl refl refl
one_first n h field.Whole d w ds (whole m) xs several few ca c e = let g = if_some (nat_lt m 9007199254740992) [] ds xs e in one_leaf h field.Whole w ds (whole m) xs (tree.whole m) c g.1 refl g.0 refl refl refl refl
one_first n h field.Text d w ds (text (Some bytes)) xs several few ca c e = one_leaf h field.Text w ds (text (Some bytes)) xs (tree.name ca.0) c e (ap (λ (o : Option (List ℕ)). text o ∷ []) ca.1) refl (ap is_some ca.1) refl refl refl
one_first n h field.Name d w ds (text (Some bytes)) xs several few ca c e = one_leaf h field.Name w ds (text (Some bytes)) xs (tree.name ca.0) c e (ap (λ (o : Option (List ℕ)). text o ∷ []) ca.1) refl (ap is_some ca.1) refl refl refl
one_first n h field.Label d w ds (text (Some bytes)) xs several few ca c e = one_leaf h field.Label w ds (text (Some bytes)) xs (tree.name ca.0) c e (ap (λ (o : Option (List ℕ)). text o ∷ []) ca.1) refl (ap is_some ca.1) refl refl refl
one_first n h field.Label d w ds (text None) xs several few ca c e = one_leaf h field.Label w ds (text None) xs no_name c e refl refl refl refl refl refl
one_first n h (field.Choice set) d w ds (text (Some bytes)) xs several few ca c e = one_choice h set w ds bytes xs (choice_of_text set bytes) refl c e
one_first n h (field.Lazy u) d w ds (window bytes) xs several few ca c e = one_leaf h (field.Lazy u) w ds (window bytes) xs (tree.window ca.0 ca.1) c e (ap (λ (b : List ℕ). window b ∷ []) ca.2) refl refl refl refl refl
one_first n h _ d w ds _ xs several few ca c e = absurd cc

one_at : (n : ℕ) (h : Held) (t : FieldType) (d : ℕ) (w : Bool) (ds : List Due) (xs : List Atom) → length xs ≤ n → Covers h xs → dues_left (due t d w ∷ ds) xs ≡ Some [] → One h t w ds xs
one_at n h t d w ds [] few c e = absurd cc
one_at zero h t d w ds (a ∷ xs) few c e = absurd (omega arith)
one_at (suc n) h t d w ds (a ∷ xs) few c e =
    one_first n h t d w ds a xs (λ ts e2 w2 ds2 ys few2 c2 left. several_at n h ts (one_at n h) e2 w2 ds2 ys few2 c2 left) (omega arith) c.0 c.1 e

none_over : (others : List Atom) → dues_left [] others ≡ Some [] → others ≡ []
none_over [] e = refl
none_over (a ∷ xs) e = absurd cc

pub of_tree : (t : FieldType) (d : ℕ) (w : Bool) (xs : List Atom) → dues_left (due t d w ∷ []) xs ≡ Some [] → (h : Held) × (v : Datum) × IsOfDue h t w v × (atoms_of h t v ≡ xs)
of_tree t d w xs e =
    let o = held_over xs in
    let r = one_at (length xs) o.0 t d w [] xs (omega arith) o.1 e in
    (o.0, r.value, r.of_due, sym (r.atoms ∙ ap (λ (z : List Atom). atoms_of o.0 t r.value ++ z) (none_over r.others r.rest) ∙ append-nil (atoms_of o.0 t r.value)))
