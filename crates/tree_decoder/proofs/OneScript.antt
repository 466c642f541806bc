-- A script is the only one that is read at its place.
use Rattle.std.proofs.Common.{ℕ, ◌≡◌, true, List, [], ◌∷◌, ◌++◌, refl, sym, ap, ◌∙◌, append_assoc, zero, suc, Option, Some, None, is_some, get_or, slice_get}
use Rattle.bast_schema.specs.declared.kind.Kind.{Kind}
use Rattle.bast_schema.specs.Tree.{Tree, branch, Datum, child, absent, listed, flag, index, whole, name, no_name, choice, window, Data, none, more}
use Rattle.bast_schema.proofs.Both.{and_first, and_second}
use Rattle.string_table.specs.Entries.{AreDistinct, place_in}
use Rattle.tree_decoder.specs.Found.{stands, stands_at, all_stand}
use Rattle.tree_decoder.specs.Outcome.{Outcome}
use Rattle.tree_decoder.specs.Range.{Range, held}
use Rattle.tree_decoder.specs.SameTree.{IsSameTree, IsSame, AreSame}
use Rattle.tree_decoder.specs.Script.{IsScript}
use Rattle.tree_decoder.specs.Windows.{windows, windows_at, windows_in}
use Rattle.tree_decoder.proofs.OneTree.{one_folded_tree}
use Rattle.tree_decoder.proofs.SameTree.{same_tree}
use Rattle.tree_decoder.proofs.Whole.{named_at_where_stands, named_where_stands}
use Rattle.bast_schema.specs.Counts.{is_whole, is_whole_at, is_whole_in}
use Rattle.bast_schema.specs.Held.{Held}
use Rattle.container.specs.Named.{named, named_at, all_named}
use Rattle.string_table.proofs.Laws.{place_in-own}

-- ---- trees that are the same but for the numbers of their names are equal over one table in which no text stands twice

text_there : (texts : List (Option (List ℕ))) (n : ℕ) → is_some (get_or texts n None) ≡ true → slice_get texts n ≡ Some (get_or texts n None)
text_there [] n is = cc
text_there (entry ∷ texts) zero is = refl
text_there (entry ∷ texts) (suc n) is = text_there texts n is

pub one_name : (texts : List (Option (List ℕ))) (n m : ℕ) → AreDistinct texts → is_some (get_or texts n None) ≡ true → get_or texts n None ≡ get_or texts m None → n ≡ m
one_name texts n m apart is same =
    let a = place_in-own texts (get_or texts n None) n apart (text_there texts n is) in
    let b = place_in-own texts (get_or texts m None) m apart (text_there texts m (ap is_some (sym same) ∙ is)) in
    let both : Some n ≡ Some m = sym a ∙ ap (place_in texts) same ∙ b in
    cc

mutual
  pub one_over : (h : Held) → AreDistinct h.texts → (t u : Tree) → named h t ≡ true → is_whole t ≡ true → IsSameTree h h t u → t ≡ u
  one_over h apart (branch k ds) (branch j es) a w same =
      ap (λ i. branch i ds) same.0 ∙ ap (branch j) (one_data h apart ds es a w same.1)

  one_value : (h : Held) → AreDistinct h.texts → (v o : Datum) → named_at h v ≡ true → is_whole_at v ≡ true → IsSame h h v o → v ≡ o
  one_value h apart (child t) (child u) a w same = ap child (one_over h apart t u a w same)
  one_value h apart (listed ds) (listed es) a w same = ap listed (one_data h apart ds es a w same)
  one_value h apart (name n) (name m) a w same = ap name (one_name h.texts n m apart a same)
  one_value h apart (window i j) o a w same = absurd cc
  one_value h apart v o a w same = same

  one_data : (h : Held) → AreDistinct h.texts → (ds es : Data) → all_named h ds ≡ true → is_whole_in ds ≡ true → AreSame h h ds es → ds ≡ es
  one_data h apart none none a w same = refl
  one_data h apart none (more o es) a w same = absurd same
  one_data h apart (more v ds) none a w same = absurd same
  one_data h apart (more v ds) (more o es) a w same =
      ap (λ x. more x ds) (one_value h apart v o (and_first (named_at h v) (all_named h ds) a) (and_first (is_whole_at v) (is_whole_in ds) w) same.0)
      ∙ ap (more o) (one_data h apart ds es (and_second (named_at h v) (all_named h ds) a) (and_second (is_whole_at v) (is_whole_in ds) w) same.1)

-- ---- trees over one table, where no text stands twice, whose windows have the same places

-- places of windows
first_pair : (p q : ℕ × ℕ) (w z : List (ℕ × ℕ)) → p ∷ w ≡ q ∷ z → (p ≡ q) × (w ≡ z)
first_pair p q w z e = (cc, cc)

one_window : (a b c d : ℕ) (w z : List (ℕ × ℕ)) → (a, b) ∷ w ≡ (c, d) ∷ z → (window a b ≡ window c d) × (w ≡ z)
one_window a b c d w z e = let one = first_pair (a, b) (c, d) w z e in (ap (λ (p : ℕ × ℕ). window p.0 p.1) one.0, one.1)

mutual
  tree_one : (r : Range) (t u : Tree) (w z : List (ℕ × ℕ)) → AreDistinct r.tables.texts → stands r t ≡ true → stands r u ≡ true → IsSameTree (held r) (held r) t u → windows t ++ w ≡ windows u ++ z → (t ≡ u) × (w ≡ z)
  tree_one r (branch k ds) (branch j es) w z apart p q same e =
      let inner = data_one r ds es w z apart p q same.1 e in
      (ap (λ (i : Kind). branch i ds) same.0 ∙ ap (branch j) inner.0, inner.1)

  value_one : (r : Range) (v o : Datum) (w z : List (ℕ × ℕ)) → AreDistinct r.tables.texts → stands_at r v ≡ true → stands_at r o ≡ true → IsSame (held r) (held r) v o → windows_at v ++ w ≡ windows_at o ++ z → (v ≡ o) × (w ≡ z)
  value_one r (child t) (child u) w z apart p q same e = let inner = tree_one r t u w z apart p q same e in (ap child inner.0, inner.1)
  value_one r (listed ds) (listed es) w z apart p q same e = let inner = data_one r ds es w z apart p q same e in (ap listed inner.0, inner.1)
  value_one r (name n) (name m) w z apart p q same e = (ap name (one_name r.tables.texts n m apart (named_at_where_stands r (name n) p) same), e)
  value_one r (window a b) (window c d) w z apart p q same e = one_window a b c d w z e
  value_one r absent absent w z apart p q same e = (refl, e)
  value_one r no_name no_name w z apart p q same e = (refl, e)
  value_one r (flag b) (flag c) w z apart p q same e = (same, e)
  value_one r (index n) (index m) w z apart p q same e = (same, e)
  value_one r (whole n) (whole m) w z apart p q same e = (same, e)
  value_one r (choice n) (choice m) w z apart p q same e = (same, e)
  value_one r _ _ w z apart p q same e = absurd cc

  data_one : (r : Range) (ds es : Data) (w z : List (ℕ × ℕ)) → AreDistinct r.tables.texts → all_stand r ds ≡ true → all_stand r es ≡ true → AreSame (held r) (held r) ds es → windows_in ds ++ w ≡ windows_in es ++ z → (ds ≡ es) × (w ≡ z)
  data_one r none none w z apart p q same e = (refl, e)
  data_one r none (more o es) w z apart p q same e = absurd same
  data_one r (more v ds) none w z apart p q same e = absurd same
  data_one r (more v ds) (more o es) w z apart p q same e =
      let parts = sym (append_assoc (windows_at v) (windows_in ds) w) ∙ e ∙ append_assoc (windows_at o) (windows_in es) z in
      let first = value_one r v o (windows_in ds ++ w) (windows_in es ++ z) apart (and_first (stands_at r v) (all_stand r ds) p) (and_first (stands_at r o) (all_stand r es) q) same.0 parts in
      let rest = data_one r ds es w z apart (and_second (stands_at r v) (all_stand r ds) p) (and_second (stands_at r o) (all_stand r es) q) same.1 first.1 in
      (ap (λ (c : Datum). more c ds) first.0 ∙ ap (more o) rest.0, rest.1)

-- scripts at one place have the same bytes, so the same atoms
pub one_script : (r : Range) (at : ℕ) (t u : Tree) → AreDistinct r.tables.texts → IsScript r at t → IsScript r at u → t ≡ u
one_script r at t u apart p q =
    let h = held r in
    let found : windows t ≡ windows u = ap (λ (o : Outcome). o.windows) (sym p.outcome ∙ q.outcome) in
    let same_atoms = one_folded_tree r.tables h h t u p.has_all q.has_all p.typed q.typed p.folded q.folded (sym p.spelled ∙ q.spelled) in
    let same = same_tree h h t u p.typed q.typed (named_where_stands r t p.stands) (named_where_stands r u q.stands) same_atoms in
    (tree_one r t u [] [] apart p.stands q.stands same (ap (λ (ws : List (ℕ × ℕ)). ws ++ []) found)).0
