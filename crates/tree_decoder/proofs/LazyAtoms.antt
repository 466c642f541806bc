-- The kinds of a tree are told by its atoms, and a tree without lazy kinds is the only one that its file spells.
use Rattle.std.proofs.Common.{◌≡◌, ℕ, ◌+◌, Bool, true, not, ◌&&◌, List, [], ◌∷◌, ◌++◌, None, ◌<◌, refl, sym, ap, subst, ◌∙◌}
use Rattle.std.specs.List.{All, list_all, position_from}
use Rattle.std.specs.Prelude.{slice_range}
use Rattle.std.proofs.lemmas.List.Folds.{list_all-append}
use Rattle.bast_schema.specs.declared.kind.Kind.{Kind}
use Rattle.bast_schema.specs.Counts.{is_whole}
use Rattle.bast_schema.specs.Fields.{has_lazy}
use Rattle.bast_schema.specs.Held.{Held}
use Rattle.bast_schema.specs.Tree.{Tree, branch, Datum, child, listed, name, window, Data, none, more, typed}
use Rattle.bast_schema.proofs.Both.{and_first, and_second, both}
use Rattle.container.specs.declared.layout.Layout.{Layout}
use Rattle.container.specs.Atoms.{atoms}
use Rattle.bast_schema.specs.Eager.{is_eager, is_eager_at, are_eager}
use Rattle.container.specs.InFile.{InFile, has_atom, is_unnested}
use Rattle.container.specs.IsContainer.{IsFileOf, tables}
use Rattle.container.specs.Spelled.{spelled}
use Rattle.container.specs.Tables.{Tables}
use Rattle.container.proofs.ByAtoms.{eager_is_folded}
use Rattle.container.proofs.LayoutSpelled.{layout_is_container}
use Rattle.container.proofs.ReadBack.{one_reading}
use Rattle.tree_decoder.specs.Outer.{tree_range}
use Rattle.tree_decoder.specs.Range.{held}
use Rattle.tree_decoder.specs.SameTree.{IsSameTree, IsSame, AreSame}
use Rattle.tree_decoder.proofs.OneTree.{one_eager_tree}
use Rattle.tree_decoder.proofs.SameTree.{same_tree}
use Rattle.tree_decoder.proofs.Whole.{named_where_stands}
use Rattle.tree_decoder.specs.LazyKinds.{is_eager_kind, first_lazy, kinds_of, kinds_at, kinds_in}
use Rattle.tree_decoder.specs.Reading.{IsFileOfScript}
use Rattle.tree_decoder.proofs.EagerWhole.{all_eager}
use Rattle.tree_decoder.proofs.InGrammar.{file_of}

pub joined : {X : Type 0} (p : X → Bool) (xs ys : List X) → list_all p xs ≡ true → list_all p ys ≡ true → list_all p (xs ++ ys) ≡ true
joined p xs ys a b = list_all-append p xs ys ∙ both (list_all p xs) (list_all p ys) a b

-- trees that are the same have the same kinds
mutual
  kinds_same : (h g : Held) (t u : Tree) → IsSameTree h g t u → kinds_of t ≡ kinds_of u
  kinds_same h g (branch k ds) (branch j es) same = ap (λ i. i ∷ kinds_in ds) same.0 ∙ ap (λ z. j ∷ z) (kinds_same_in h g ds es same.1)

  kinds_same_at : (h g : Held) (v o : Datum) → IsSame h g v o → kinds_at v ≡ kinds_at o
  kinds_same_at h g (child t) (child u) same = kinds_same h g t u same
  kinds_same_at h g (listed ds) (listed es) same = kinds_same_in h g ds es same
  kinds_same_at h g (name n) (name m) same = refl
  kinds_same_at h g (window a b) (window c d) same = refl
  kinds_same_at h g v o same = ap kinds_at same

  kinds_same_in : (h g : Held) (ds es : Data) → AreSame h g ds es → kinds_in ds ≡ kinds_in es
  kinds_same_in h g none none same = refl
  kinds_same_in h g none (more o es) same = absurd same
  kinds_same_in h g (more v ds) none same = absurd same
  kinds_same_in h g (more v ds) (more o es) same = ap (λ z. z ++ kinds_in ds) (kinds_same_at h g v o same.0) ∙ ap (λ z. kinds_at o ++ z) (kinds_same_in h g ds es same.1)

-- a tree is eager where its kinds are
mutual
  eager_tree : (t : Tree) → is_eager t ≡ list_all is_eager_kind (kinds_of t)
  eager_tree (branch k ds) = ap (λ b. not (has_lazy k) && b) (eager_data ds)

  eager_value : (d : Datum) → is_eager_at d ≡ list_all is_eager_kind (kinds_at d)
  eager_value (child t) = eager_tree t
  eager_value (listed ds) = eager_data ds
  eager_value _ = refl

  eager_data : (ds : Data) → are_eager ds ≡ list_all is_eager_kind (kinds_in ds)
  eager_data none = refl
  eager_data (more d ds) = rw (eager_value d, eager_data ds) (sym (list_all-append is_eager_kind (kinds_at d) (kinds_in ds)))

pub none_other : (n : ℕ) (ks : List Kind) → list_all is_eager_kind ks ≡ true → position_from (λ k. not (is_eager_kind k)) n ks ≡ None
none_other n [] all = refl
none_other n (k ∷ ks) all =
    rw (and_first (is_eager_kind k) (list_all is_eager_kind ks) all) (none_other (n + 1) ks (and_second (is_eager_kind k) (list_all is_eager_kind ks) all))

-- a tree without lazy kinds in a file is read as one without them
pub eager_read : (bytes : List ℕ) (h : Held) (t : Tree) (l : Layout) (u : Tree) → All (λ byte. byte < 256) bytes → InFile bytes h t → first_lazy t ≡ None → IsFileOfScript bytes l u → first_lazy u ≡ None
eager_read bytes h t l u small file first read =
    let container = layout_is_container bytes l small read.container
    in let r = tree_range bytes l
    in let slice = slice_range bytes l.from l.to
    in let made : IsFileOf (tables l) slice bytes = record {
      distinct_kinds = container.distinct_kinds;
      distinct_texts = container.distinct_texts;
      entries = container.entries;
      spelling = container.spelling;
    }
    in let same = one_reading file.tables (tables l) (spelled file.tables h t) slice bytes (file_of bytes h t file) made file.small
    in let all = all_eager 0 (kinds_of t) first
    in let ok = and_first (typed t && is_whole t) (is_unnested t) file.typed_whole
    in let has : list_all (has_atom (tables l)) (atoms h t) ≡ true = subst (λ (s : Tables). list_all (has_atom s) (atoms h t) ≡ true) same.0 file.has_all
    in let spelling : spelled (tables l) h t ≡ spelled (tables l) (held r) u = ap (λ (s : Tables). spelled s h t) (sym same.0) ∙ same.1 ∙ read.script.spelled
    in let one = one_eager_tree (tables l) h (held r) t u has read.script.has_all (and_first (typed t) (is_whole t) ok) read.script.typed (and_second (typed t) (is_whole t) ok) (eager_is_folded t (eager_tree t ∙ all)) spelling
    in let same_tree_there = same_tree h (held r) t u (and_first (typed t) (is_whole t) ok) read.script.typed file.named (named_where_stands r u read.script.stands) one
    in ap (position_from (λ k. not (is_eager_kind k)) 0) (sym (kinds_same h (held r) t u same_tree_there)) ∙ first
