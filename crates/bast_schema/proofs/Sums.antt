-- How counts over a list of values go along a walk over it.
use Rattle.std.proofs.Common.{ℕ, List, [], ◌∷◌, ◌++◌, ◌≡◌, ◌<◌, ◌≤◌, ◌+◌, refl, ap, Some, max, zero, suc, get_or, drop, length, arith}
use Rattle.bast_schema.specs.declared.node.Value.{Value}
use Rattle.bast_schema.specs.Tree.{Tree, branch, Datum, child, absent, listed, flag, index, whole, name, no_name, choice, window, Data, none, more, count, value_at, nodes, nodes_at, nodes_in, depth_at, depth_in, weight_at, weight_in}
use Rattle.bast_schema.specs.Counts.{size, size_at, size_in, join}
use Rattle.bast_schema.specs.View.{datum, data_of}
use Rattle.bast_schema.proofs.Lists.{data_of_drop}

pub data_of_append : (vs ws : List Value) → data_of (vs ++ ws) ≡ join (data_of vs) (data_of ws)
data_of_append [] ws = refl
data_of_append (v ∷ vs) ws = ap (more (datum v)) (data_of_append vs ws)

pub join_none : (ds : Data) → join ds none ≡ ds
join_none none = refl
join_none (more d ds) = ap (more d) (join_none ds)

pub join_assoc : (ds es fs : Data) → join (join ds es) fs ≡ join ds (join es fs)
join_assoc none es fs = refl
join_assoc (more d ds) es fs = ap (more d) (join_assoc ds es fs)

pub count_join : (ds es : Data) → count (join ds es) ≡ count ds + count es
count_join none es = omega arith
count_join (more d ds) es = omega (arith, count_join ds es)

pub nodes_join : (ds es : Data) → nodes_in (join ds es) ≡ nodes_in ds + nodes_in es
nodes_join none es = omega arith
nodes_join (more d ds) es = omega (arith, nodes_join ds es)

pub size_join : (ds es : Data) → size_in (join ds es) ≡ size_in ds + size_in es
size_join none es = omega arith
size_join (more d ds) es = omega (arith, size_join ds es)

pub depth_join : (ds es : Data) → depth_in (join ds es) ≡ max (depth_in ds) (depth_in es)
depth_join none es = omega arith
depth_join (more d ds) es = omega (arith, depth_join ds es)

-- the nodes and the size of what is left, where there is one more value
pub nodes_drop : (vs : List Value) (i : ℕ) (v : Value) → v ≡ get_or vs i v → i < length vs → nodes_in (data_of (drop i vs)) ≡ nodes_at (datum v) + nodes_in (data_of (drop (i + 1) vs))
nodes_drop vs i v is within = ap nodes_in (data_of_drop vs i v is within)

pub size_drop : (vs : List Value) (i : ℕ) (v : Value) → v ≡ get_or vs i v → i < length vs → size_in (data_of (drop i vs)) ≡ size_at (datum v) + size_in (data_of (drop (i + 1) vs))
size_drop vs i v is within = ap size_in (data_of_drop vs i v is within)

pub depth_drop : (vs : List Value) (i : ℕ) (v : Value) → v ≡ get_or vs i v → i < length vs → depth_in (data_of (drop i vs)) ≡ max (depth_at (datum v)) (depth_in (data_of (drop (i + 1) vs)))
depth_drop vs i v is within = ap depth_in (data_of_drop vs i v is within)

-- a value of a list has no more than the list
pub depth_member : (vs : List Value) (i : ℕ) (v : Value) → v ≡ get_or vs i v → i < length vs → depth_at (datum v) ≤ depth_in (data_of vs)
depth_member [] i v is within = absurd (omega arith)
depth_member (w ∷ vs) zero v is within = rw is (omega arith)
depth_member (w ∷ vs) (suc i) v is within = let h : depth_at (datum v) ≤ depth_in (data_of vs) = depth_member vs i v is (omega arith) in omega arith

pub size_member : (vs : List Value) (i : ℕ) (v : Value) → v ≡ get_or vs i v → i < length vs → size_at (datum v) ≤ size_in (data_of vs)
size_member [] i v is within = absurd (omega arith)
size_member (w ∷ vs) zero v is within = rw is (omega arith)
size_member (w ∷ vs) (suc i) v is within = let h : size_at (datum v) ≤ size_in (data_of vs) = size_member vs i v is (omega arith) in omega arith

pub depth_value : (ds : Data) (i : ℕ) (d : Datum) → value_at ds i ≡ Some d → depth_at d ≤ depth_in ds
depth_value none i d h = cc
depth_value (more e ds) zero d h = let same : depth_at d ≡ depth_at e = (let is : d ≡ e = cc in ap depth_at is) in omega arith
depth_value (more e ds) (suc i) d h = let r : depth_at d ≤ depth_in ds = depth_value ds i d h in omega arith

pub weight_value : (ds : Data) (i : ℕ) (d : Datum) → value_at ds i ≡ Some d → weight_at d < weight_in ds
weight_value none i d h = cc
weight_value (more e ds) zero d h = let same : weight_at d ≡ weight_at e = (let is : d ≡ e = cc in ap weight_at is) in omega arith
weight_value (more e ds) (suc i) d h = let r : weight_at d < weight_in ds = weight_value ds i d h in omega arith

pub size_value : (ds : Data) (i : ℕ) (d : Datum) → value_at ds i ≡ Some d → size_at d ≤ size_in ds
size_value none i d h = cc
size_value (more e ds) zero d h = let same : size_at d ≡ size_at e = (let is : d ≡ e = cc in ap size_at is) in omega arith
size_value (more e ds) (suc i) d h = let r : size_at d ≤ size_in ds = size_value ds i d h in omega arith

-- nodes are among the values
mutual
  pub nodes_within : (t : Tree) → nodes t ≤ size t
  nodes_within (branch k ds) = let r : nodes_in ds ≤ size_in ds = nodes_within_in ds in omega arith

  pub nodes_within_at : (d : Datum) → nodes_at d ≤ size_at d
  nodes_within_at (child t) = nodes_within t
  nodes_within_at (listed ds) = let r : nodes_in ds ≤ size_in ds = nodes_within_in ds in omega arith
  nodes_within_at _ = omega arith

  pub nodes_within_in : (ds : Data) → nodes_in ds ≤ size_in ds
  nodes_within_in none = omega arith
  nodes_within_in (more d ds) = let a : nodes_at d ≤ size_at d = nodes_within_at d in let b : nodes_in ds ≤ size_in ds = nodes_within_in ds in omega arith

pub size_positive : (t : Tree) → 0 < size t
size_positive (branch k ds) = omega arith

-- a list with one more value at its end, before others
pub join_last : (vs : List Value) (v : Value) (ds : Data) → join (data_of (vs ++ v ∷ [])) ds ≡ join (data_of vs) (more (datum v) ds)
join_last [] v ds = refl
join_last (w ∷ vs) v ds = ap (more (datum w)) (join_last vs v ds)
