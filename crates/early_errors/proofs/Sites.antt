-- The sites of a tree are its nodes in preorder, with numbers that go on by one.
use Rattle.std.proofs.Common.{ℕ, List, [], ◌∷◌, ◌++◌, ◌+◌, ◌≡◌, refl, ap, sym, ◌∙◌, map, zero, suc, arith}
use Rattle.std.proofs.lemmas.List.{map-append}
use Rattle.bast_schema.specs.Tree.{Tree, branch, Datum, child, absent, listed, flag, index, whole, name, no_name, choice, window, Data, none, more, nodes, nodes_at, nodes_in}
use Rattle.early_errors.specs.declared.kinds.Place.{Place}
use Rattle.early_errors.specs.Kinds.{role, places}
use Rattle.early_errors.specs.Strict.{Texts}
use Rattle.early_errors.specs.Around.{Around, Site, sites, sites_at, sites_in, parts_around, placed, place_first, place_rest}
use Rattle.early_errors.specs.Preorder.{preorder, preorder_at, preorder_in, numbers_from}

mutual
  pub trees_are : (s : Texts) (a : Around) (n : ℕ) (t : Tree) → map (λ (x : Site). x.tree) (sites s a n t) ≡ preorder t
  trees_are s a n (branch k ds) = ap (λ ts. branch k ds ∷ ts) (trees_in s (places k) (parts_around s (role k) ds a) (n + 1) ds)

  trees_at : (s : Texts) (a : Around) (n : ℕ) (d : Datum) → map (λ (x : Site). x.tree) (sites_at s a n d) ≡ preorder_at d
  trees_at s a n (child t) = trees_are s a n t
  trees_at s a n (listed ds) = trees_in s [] a n ds
  trees_at s a n absent = refl
  trees_at s a n (flag b) = refl
  trees_at s a n (index i) = refl
  trees_at s a n (whole i) = refl
  trees_at s a n (name i) = refl
  trees_at s a n no_name = refl
  trees_at s a n (choice i) = refl
  trees_at s a n (window i j) = refl

  trees_in : (s : Texts) (ps : List Place) (a : Around) (n : ℕ) (ds : Data) → map (λ (x : Site). x.tree) (sites_in s ps a n ds) ≡ preorder_in ds
  trees_in s ps a n none = refl
  trees_in s ps a n (more d ds) =
      map-append (λ (x : Site). x.tree) (sites_at s (placed (place_first ps) a) n d) (sites_in s (place_rest ps) a (n + nodes_at d) ds)
      ∙ ap (λ ts. ts ++ map (λ (x : Site). x.tree) (sites_in s (place_rest ps) a (n + nodes_at d) ds)) (trees_at s (placed (place_first ps) a) n d)
      ∙ ap (λ ts. preorder_at d ++ ts) (trees_in s (place_rest ps) a (n + nodes_at d) ds)

numbers_add : (n i j : ℕ) → numbers_from n (i + j) ≡ numbers_from n i ++ numbers_from (n + i) j
numbers_add n zero j =
    ap (numbers_from n) (let e : zero + j ≡ j = omega arith in e)
    ∙ ap (λ m. numbers_from m j) (let e : n ≡ n + zero = omega arith in e)
numbers_add n (suc i) j =
    ap (numbers_from n) (let e : suc i + j ≡ suc (i + j) = omega arith in e)
    ∙ ap (λ ns. n ∷ ns) (numbers_add (n + 1) i j)
    ∙ ap (λ m. n ∷ (numbers_from (n + 1) i ++ numbers_from m j)) (let e : n + 1 + i ≡ n + suc i = omega arith in e)

mutual
  pub numbers_are : (s : Texts) (a : Around) (n : ℕ) (t : Tree) → map (λ (x : Site). x.number) (sites s a n t) ≡ numbers_from n (nodes t)
  numbers_are s a n (branch k ds) =
      ap (λ ns. n ∷ ns) (numbers_in s (places k) (parts_around s (role k) ds a) (n + 1) ds)
      ∙ ap (numbers_from n) (let e : suc (nodes_in ds) ≡ 1 + nodes_in ds = omega arith in e)

  numbers_at : (s : Texts) (a : Around) (n : ℕ) (d : Datum) → map (λ (x : Site). x.number) (sites_at s a n d) ≡ numbers_from n (nodes_at d)
  numbers_at s a n (child t) = numbers_are s a n t
  numbers_at s a n (listed ds) = numbers_in s [] a n ds
  numbers_at s a n absent = refl
  numbers_at s a n (flag b) = refl
  numbers_at s a n (index i) = refl
  numbers_at s a n (whole i) = refl
  numbers_at s a n (name i) = refl
  numbers_at s a n no_name = refl
  numbers_at s a n (choice i) = refl
  numbers_at s a n (window i j) = refl

  numbers_in : (s : Texts) (ps : List Place) (a : Around) (n : ℕ) (ds : Data) → map (λ (x : Site). x.number) (sites_in s ps a n ds) ≡ numbers_from n (nodes_in ds)
  numbers_in s ps a n none = refl
  numbers_in s ps a n (more d ds) =
      map-append (λ (x : Site). x.number) (sites_at s (placed (place_first ps) a) n d) (sites_in s (place_rest ps) a (n + nodes_at d) ds)
      ∙ ap (λ ns. ns ++ map (λ (x : Site). x.number) (sites_in s (place_rest ps) a (n + nodes_at d) ds)) (numbers_at s (placed (place_first ps) a) n d)
      ∙ ap (λ ns. numbers_from n (nodes_at d) ++ ns) (numbers_in s (place_rest ps) a (n + nodes_at d) ds)
      ∙ sym (numbers_add n (nodes_at d) (nodes_in ds))
