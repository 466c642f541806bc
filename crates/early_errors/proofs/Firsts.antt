-- The first violation by one recursion is the first of the list.
use Rattle.std.proofs.Common.{ℕ, List, [], ◌∷◌, ◌++◌, ◌+◌, ◌≡◌, ◌≤◌, refl, Option, None, Some, ap, sym, ◌∙◌, flat_map, filter_map, append_assoc, arith, true, false}
use Rattle.bast_schema.specs.declared.kind.Kind.{Kind}
use Rattle.bast_schema.specs.Counts.{size, size_at, size_in}
use Rattle.bast_schema.specs.Tree.{Tree, branch, Datum, child, absent, listed, flag, index, whole, name, no_name, choice, window, Data, none, more, nodes, nodes_at, nodes_in}
use Rattle.scope_facts.specs.Uses.{first_name}
use Rattle.scope_facts.specs.declared.context.Ctx.{Ctx}
use Rattle.scope_facts.specs.declared.context.Violation.{Violation}
use Rattle.early_errors.specs.declared.walk.Step.{Step}
use Rattle.early_errors.specs.declared.walk.Step.TheVariants.{Found, Next}
use Rattle.early_errors.specs.declared.kinds.Place.{Place}
use Rattle.early_errors.specs.declared.kinds.Role.{Role}
use Rattle.early_errors.specs.declared.around.Flags.{Flags}
use Rattle.early_errors.specs.declared.around.Label.{Label}
use Rattle.early_errors.specs.Kinds.{role, places}
use Rattle.early_errors.specs.Strict.{Texts}
use Rattle.early_errors.specs.Around.{Around, sites, sites_at, sites_in, parts_around, placed, place_first, place_rest, flags_in, labels_in, is_labelled, with_label, loop_in, flags_at, labels_at, start}
use Rattle.early_errors.specs.Early.{early_rules, early, broken, found_at, first}
use Rattle.early_errors.specs.Least.{or_else, least, least_at, least_in, told}

-- nodes are values
mutual
  pub nodes_size : (t : Tree) → nodes t ≤ size t
  nodes_size (branch k ds) = let h : nodes_in ds ≤ size_in ds = nodes_size_in ds in omega arith

  nodes_size_at : (d : Datum) → nodes_at d ≤ size_at d
  nodes_size_at (child t) = nodes_size t
  nodes_size_at (listed ds) = let h : nodes_in ds ≤ size_in ds = nodes_size_in ds in omega arith
  nodes_size_at absent = omega arith
  nodes_size_at (flag b) = omega arith
  nodes_size_at (index i) = omega arith
  nodes_size_at (whole i) = omega arith
  nodes_size_at (name i) = omega arith
  nodes_size_at no_name = omega arith
  nodes_size_at (choice i) = omega arith
  nodes_size_at (window i j) = omega arith

  nodes_size_in : (ds : Data) → nodes_in ds ≤ size_in ds
  nodes_size_in none = omega arith
  nodes_size_in (more d ds) = let h : nodes_at d ≤ size_at d = nodes_size_at d in let i : nodes_in ds ≤ size_in ds = nodes_size_in ds in omega arith

first_append : {A : Type 0} (xs ys : List A) → first (xs ++ ys) ≡ or_else (first xs) (first ys)
first_append [] ys = refl
first_append (x ∷ xs) ys = refl

pub flat_map_append : {A B : Type 0} (f : A → List B) (xs ys : List A) → flat_map f (xs ++ ys) ≡ flat_map f xs ++ flat_map f ys
flat_map_append f [] ys = refl
flat_map_append f (x ∷ xs) ys = ap (λ zs. f x ++ zs) (flat_map_append f xs ys) ∙ sym (append_assoc (f x) (flat_map f xs) (flat_map f ys))

mutual
  pub least_is : (s : Texts) (a : Around) (n : ℕ) (t : Tree) → least s a n t ≡ first (flat_map (found_at s) (sites s a n t))
  least_is s a n (branch k ds) =
      ap (or_else (first (filter_map (broken s n a (branch k ds)) early_rules))) (least_in_is s (places k) (parts_around s (role k) ds a) (n + 1) ds)
      ∙ sym (first_append (filter_map (broken s n a (branch k ds)) early_rules) (flat_map (found_at s) (sites_in s (places k) (parts_around s (role k) ds a) (n + 1) ds)))

  pub least_at_is : (s : Texts) (a : Around) (n : ℕ) (d : Datum) → least_at s a n d ≡ first (flat_map (found_at s) (sites_at s a n d))
  least_at_is s a n (child t) = least_is s a n t
  least_at_is s a n (listed ds) = least_in_is s [] a n ds
  least_at_is s a n absent = refl
  least_at_is s a n (flag b) = refl
  least_at_is s a n (index i) = refl
  least_at_is s a n (whole i) = refl
  least_at_is s a n (name i) = refl
  least_at_is s a n no_name = refl
  least_at_is s a n (choice i) = refl
  least_at_is s a n (window i j) = refl

  pub least_in_is : (s : Texts) (ps : List Place) (a : Around) (n : ℕ) (ds : Data) → least_in s ps a n ds ≡ first (flat_map (found_at s) (sites_in s ps a n ds))
  least_in_is s ps a n none = refl
  least_in_is s ps a n (more d ds) =
      ap (λ o. or_else o (least_in s (place_rest ps) a (n + nodes_at d) ds)) (least_at_is s (placed (place_first ps) a) n d)
      ∙ ap (or_else (first (flat_map (found_at s) (sites_at s (placed (place_first ps) a) n d)))) (least_in_is s (place_rest ps) a (n + nodes_at d) ds)
      ∙ sym (first_append (flat_map (found_at s) (sites_at s (placed (place_first ps) a) n d)) (flat_map (found_at s) (sites_in s (place_rest ps) a (n + nodes_at d) ds)))
      ∙ ap first (sym (flat_map_append (found_at s) (sites_at s (placed (place_first ps) a) n d) (sites_in s (place_rest ps) a (n + nodes_at d) ds)))

-- what a walk over the front of a list leaves to do
pub record Walked (s : Texts) (a : Around) (left : List Place) (next : ℕ) (rest : Data) (ps : List Place) (n : ℕ) (ds : Data) : Type 0 where
  pub number : next + nodes_in rest ≡ n + nodes_in ds
  pub first : told (least_in s left a next rest) (next + nodes_in rest) ≡ told (least_in s ps a n ds) (n + nodes_in ds)

pub found_is : (o : Option Violation) (v : Violation) (n : ℕ) → Found v ≡ told o n → o ≡ Some v
found_is (Some w) v n e = cc
found_is None v n e = cc

pub next_none : (o : Option Violation) (m n : ℕ) → Next m ≡ told o n → o ≡ None
next_none (Some w) m n e = cc
next_none None m n e = refl

pub next_is : (o : Option Violation) (m n : ℕ) → Next m ≡ told o n → m ≡ n
next_is (Some w) m n e = cc
next_is None m n e = cc

walked_by : (o : Option Violation) (s : Texts) (a : Around) (ps : List Place) (n m x y : ℕ) (ds : Data) → Next m ≡ told o x
    → told (least_in s ps a m ds) (m + y) ≡ told (or_else o (least_in s ps a x ds)) (x + y)
walked_by (Some w) s a ps n m x y ds e = cc
walked_by None s a ps n m x y ds e = rw (next_is None m x e) refl

pub walked_more : (s : Texts) (a : Around) (left : List Place) (next m : ℕ) (d : Datum) (rest : Data) (ps : List Place) (n : ℕ) (ds : Data)
    → Walked s a left next (more d rest) ps n ds → Next m ≡ told (least_at s (placed (place_first left) a) next d) (next + nodes_at d)
    → Walked s a (place_rest left) m rest ps n ds
walked_more s a left next m d rest ps n ds w e = record {
  number = let i : m ≡ next + nodes_at d = next_is (least_at s (placed (place_first left) a) next d) m (next + nodes_at d) e in let j : next + (nodes_at d + nodes_in rest) ≡ n + nodes_in ds = w.number in omega arith;
  first = walked_by (least_at s (placed (place_first left) a) next d) s a (place_rest left) n m (next + nodes_at d) (nodes_in rest) rest e
      ∙ ap (told (or_else (least_at s (placed (place_first left) a) next d) (least_in s (place_rest left) a (next + nodes_at d) rest))) (let g : (next + nodes_at d) + nodes_in rest ≡ next + (nodes_at d + nodes_in rest) = omega arith in g)
      ∙ w.first;
}

pub walked_found : (s : Texts) (a : Around) (left : List Place) (next : ℕ) (d : Datum) (rest : Data) (ps : List Place) (n : ℕ) (ds : Data) (v : Violation)
    → Walked s a left next (more d rest) ps n ds → Found v ≡ told (least_at s (placed (place_first left) a) next d) (next + nodes_at d)
    → Found v ≡ told (least_in s ps a n ds) (n + nodes_in ds)
walked_found s a left next d rest ps n ds v w e =
    sym (ap (λ o. told (or_else o (least_in s (place_rest left) a (next + nodes_at d) rest)) (next + (nodes_at d + nodes_in rest))) (found_is (least_at s (placed (place_first left) a) next d) v (next + nodes_at d) e))
    ∙ w.first

-- a node without a violation of its own
by_parts : (o : Option Violation) (rest : Option Violation) (m n : ℕ) → None ≡ o → m ≡ n → told rest m ≡ told (or_else o rest) n
by_parts o rest m n e i = rw (sym e, i) refl

pub node_more : (s : Texts) (a : Around) (n : ℕ) (t : Tree) (k : Kind) (ds : Data) (fl : Flags) (ls : List Label) (ps : List Place) (own : Option Violation)
    → branch k ds ≡ t → own ≡ None → own ≡ first (filter_map (broken s n a t) early_rules) → ps ≡ places k → fl ≡ flags_in s (role k) ds a.flags → ls ≡ labels_in (role k) ds a.labels
    → told (least_in s ps (record { flags = fl; labels = ls }) (n + 1) ds) (n + 1 + nodes_in ds) ≡ told (least s a n t) (n + nodes t)
node_more s a n t k ds fl ls ps own same nothing own_is place flags_eq labels_eq =
    ap (λ p. told (least_in s p (record { flags = fl; labels = ls }) (n + 1) ds) (n + 1 + nodes_in ds)) place
    ∙ ap (λ f. told (least_in s (places k) (record { flags = f; labels = ls }) (n + 1) ds) (n + 1 + nodes_in ds)) flags_eq
    ∙ ap (λ l. told (least_in s (places k) (record { flags = flags_in s (role k) ds a.flags; labels = l }) (n + 1) ds) (n + 1 + nodes_in ds)) labels_eq
    ∙ by_parts (first (filter_map (broken s n a (branch k ds)) early_rules)) (least_in s (places k) (parts_around s (role k) ds a) (n + 1) ds) (n + 1 + nodes_in ds) (n + (1 + nodes_in ds)) (sym nothing ∙ own_is ∙ ap (λ u. first (filter_map (broken s n a u) early_rules)) (sym same)) (omega arith)
    ∙ ap (λ u. told (least s a n u) (n + nodes u)) same

-- a node with one
found_first : (o : Option Violation) (rest : Option Violation) (v : Violation) (n : ℕ) → Some v ≡ o → Found v ≡ told (or_else o rest) n
found_first o rest v n e = rw (sym e) refl

pub node_found : (s : Texts) (a : Around) (n m : ℕ) (t : Tree) (v : Violation) → Some v ≡ first (filter_map (broken s n a t) early_rules) → Found v ≡ told (least s a n t) m
node_found s a n m (branch k ds) v e = found_first (first (filter_map (broken s n a (branch k ds)) early_rules)) (least_in s (places k) (parts_around s (role k) ds a) (n + 1) ds) v m e

pub labels_same : (r : Role) (ds : Data) (ls : List Label) → is_labelled r ≡ false → ls ≡ labels_in r ds ls
labels_same r ds ls e = rw e refl

pub labels_new : (r : Role) (ds : Data) (ls : List Label) → is_labelled r ≡ true → with_label (first_name ds) (loop_in ds) ls ≡ labels_in r ds ls
labels_new r ds ls e = rw e refl

pub walked_step : (s : Texts) (a : Around) (left behind : List Place) (p : Place) (next m : ℕ) (d : Datum) (rest all : Data) (ps : List Place) (n : ℕ) (ds : Data) (fl : Flags) (ls : List Label) (st : Step)
    → all ≡ more d rest → Walked s a left next all ps n ds → p ≡ place_first left → behind ≡ place_rest left
    → fl ≡ flags_at p a.flags → ls ≡ labels_at p a.labels → st ≡ told (least_at s (record { flags = fl; labels = ls }) next d) (next + nodes_at d) → st ≡ Next m
    → Walked s a behind m rest ps n ds
walked_step s a left behind p next m d rest all ps n ds fl ls st is w first_is rest_is flags_is labels_is told_is next_eq =
    let e : told (least_at s (record { flags = fl; labels = ls }) next d) (next + nodes_at d) ≡ told (least_at s (placed (place_first left) a) next d) (next + nodes_at d)
    = ap (λ f. told (least_at s (record { flags = f; labels = ls }) next d) (next + nodes_at d)) (flags_is ∙ ap (λ q. flags_at q a.flags) first_is)
    ∙ ap (λ l. told (least_at s (record { flags = flags_at (place_first left) a.flags; labels = l }) next d) (next + nodes_at d)) (labels_is ∙ ap (λ q. labels_at q a.labels) first_is)
    in let v : Walked s a left next (more d rest) ps n ds = rw (sym is) w
    in rw rest_is (walked_more s a left next m d rest ps n ds v (sym next_eq ∙ told_is ∙ e))

pub first_found : (s : Texts) (c : Ctx) (t : Tree) (fl : Flags) (m : ℕ) (st : Step) (v : Violation) → fl ≡ (start c).flags
    → st ≡ told (least s (record { flags = fl; labels = [] }) 0 t) m → st ≡ Found v → Some v ≡ first (early s c t)
first_found s c t fl m st v flags_is told_is found_eq =
    sym (found_is (least s (start c) 0 t) v m (sym found_eq ∙ told_is ∙ ap (λ f. told (least s (record { flags = f; labels = [] }) 0 t) m) flags_is))
    ∙ least_is s (start c) 0 t

pub first_none : (s : Texts) (c : Ctx) (t : Tree) (fl : Flags) (m : ℕ) (st : Step) (i : ℕ) → fl ≡ (start c).flags
    → st ≡ told (least s (record { flags = fl; labels = [] }) 0 t) m → st ≡ Next i → None ≡ first (early s c t)
first_none s c t fl m st i flags_is told_is next_eq =
    sym (next_none (least s (start c) 0 t) i m (sym next_eq ∙ told_is ∙ ap (λ f. told (least s (record { flags = f; labels = [] }) 0 t) m) flags_is))
    ∙ least_is s (start c) 0 t
