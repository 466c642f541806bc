-- A tree as a list of marks that gives it back, by which proofs tell trees apart.
use Rattle.std.specs.Prelude.{ℕ, true, false, List, [], ◌∷◌, ◌++◌, ◌≡◌, ◌⊎◌, refl, nat_eq, if◌then◌else◌}
use Rattle.std.proofs.Common.{append_assoc, append-nil, ap, sym, ◌∙◌, inl, inr}
use Rattle.std.specs.Coded.{Coded, code_by, coded×, coded⊎, coded_ℕ, coded_list}
use Rattle.bast_schema.specs.declared.kind.Kind.{Kind}
use Rattle.bast_schema.specs.contracts.kind.Kind as kind
use Rattle.bast_schema.specs.Tree.{Tree, branch, Datum, child, absent, listed, flag, index, whole, name, no_name, choice, window, Data, none, more}

-- a kind closes a node, and three numbers are a value or open or close a list
abbrev pub Mark : Type 0
Mark = Kind ⊎ (ℕ × (ℕ × ℕ))

abbrev pub leaf : ℕ → ℕ → ℕ → List Mark
leaf tag a b = inr (tag, (a, b)) ∷ []

abbrev mutual
  pub marks_tree : Tree → List Mark
  marks_tree (branch k ds) = marks ds ++ inl k ∷ []

  pub marks_at : Datum → List Mark
  marks_at (child t) = marks_tree t
  marks_at (listed ds) = marks ds ++ leaf 1 0 0
  marks_at absent = leaf 2 0 0
  marks_at (flag true) = leaf 3 0 0
  marks_at (flag false) = leaf 4 0 0
  marks_at (index n) = leaf 5 n 0
  marks_at (whole n) = leaf 6 n 0
  marks_at (name n) = leaf 7 n 0
  marks_at no_name = leaf 8 0 0
  marks_at (choice n) = leaf 9 n 0
  marks_at (window from to) = leaf 10 from to

  pub marks : Data → List Mark
  marks none = leaf 0 0 0
  marks (more d ds) = marks ds ++ marks_at d

abbrev pub on_top : Datum → List Data → List Data
on_top d [] = []
on_top d (ds ∷ s) = more d ds ∷ s

abbrev pub close_list : List Data → List Data
close_list [] = []
close_list (ds ∷ s) = on_top (listed ds) s

abbrev pub close_node : Kind → List Data → List Data
close_node k [] = []
close_node k (ds ∷ s) = on_top (child (branch k ds)) s

-- the value with these numbers
abbrev pub leaf_of : ℕ → ℕ → ℕ → Datum
leaf_of tag a b =
    if nat_eq tag 2 then absent else if nat_eq tag 3 then flag true else if nat_eq tag 4 then flag false
    else if nat_eq tag 5 then index a else if nat_eq tag 6 then whole a else if nat_eq tag 7 then name a
    else if nat_eq tag 8 then no_name else if nat_eq tag 9 then choice a else window a b

abbrev pub put : ℕ → ℕ → ℕ → List Data → List Data
put tag a b s = if nat_eq tag 0 then none ∷ s else if nat_eq tag 1 then close_list s else on_top (leaf_of tag a b) s

abbrev pub step : Mark → List Data → List Data
step (inl k) s = close_node k s
step (inr m) s = put m.0 m.1.0 m.1.1 s

abbrev pub run : List Mark → List Data → List Data
run [] s = s
run (m ∷ ms) s = run ms (step m s)

mutual
  pub run-marks_tree : (t : Tree) (rest : List Mark) (ds : Data) (s : List Data) → run (marks_tree t ++ rest) (ds ∷ s) ≡ run rest (more (child t) ds ∷ s)
  run-marks_tree (branch k inner) rest ds s = ap (λ ms. run ms (ds ∷ s)) (append_assoc (marks inner) (inl k ∷ []) rest) ∙ run-marks inner (inl k ∷ rest) (ds ∷ s)

  pub run-marks_at : (d : Datum) (rest : List Mark) (ds : Data) (s : List Data) → run (marks_at d ++ rest) (ds ∷ s) ≡ run rest (more d ds ∷ s)
  run-marks_at (child t) rest ds s = run-marks_tree t rest ds s
  run-marks_at (listed inner) rest ds s = ap (λ ms. run ms (ds ∷ s)) (append_assoc (marks inner) (leaf 1 0 0) rest) ∙ run-marks inner (leaf 1 0 0 ++ rest) (ds ∷ s)
  run-marks_at absent rest ds s = refl
  run-marks_at (flag true) rest ds s = refl
  run-marks_at (flag false) rest ds s = refl
  run-marks_at (index n) rest ds s = refl
  run-marks_at (whole n) rest ds s = refl
  run-marks_at (name n) rest ds s = refl
  run-marks_at no_name rest ds s = refl
  run-marks_at (choice n) rest ds s = refl
  run-marks_at (window from to) rest ds s = refl

  pub run-marks : (ds : Data) (rest : List Mark) (s : List Data) → run (marks ds ++ rest) s ≡ run rest (ds ∷ s)
  run-marks none rest s = refl
  run-marks (more d ds) rest s = ap (λ ms. run ms s) (append_assoc (marks ds) (marks_at d) rest) ∙ run-marks ds (marks_at d ++ rest) s ∙ run-marks_at d rest ds s

abbrev pub first : List Data → Data
first [] = none
first (ds ∷ s) = ds

abbrev pub data_from : List Mark → Data
data_from ms = first (run ms [])

pub data_from-marks : (ds : Data) → data_from (marks ds) ≡ ds
data_from-marks ds = ap (λ ms. first (run ms [])) (sym (append-nil (marks ds))) ∙ ap first (run-marks ds [] [])

abbrev pub data_code : Coded Data
data_code = code_by (List Mark) (coded_list (coded⊎ kind.the_row.coded (coded× coded_ℕ (coded× coded_ℕ coded_ℕ)))) marks data_from data_from-marks

abbrev parts : Tree → Kind × Data
parts (branch k ds) = (k, ds)

pub whole_parts : (t : Tree) → branch (parts t).0 (parts t).1 ≡ t
whole_parts (branch k ds) = refl

abbrev pub tree_code : Coded Tree
tree_code = code_by (Kind × Data) (coded× kind.the_row.coded data_code) parts (λ p. branch p.0 p.1) whole_parts
