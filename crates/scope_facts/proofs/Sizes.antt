-- How many values there are at most.
use Rattle.std.proofs.Common.{ℕ, List, [], ◌∷◌, ◌≤◌, ◌≡◌, arith, subst, get_or, length}
use Rattle.bast_schema.specs.declared.node.Value.{Value}
use Rattle.bast_schema.specs.declared.node.Value.TheVariants as value
use Rattle.bast_schema.specs.View.{datum, data_of}
use Rattle.bast_schema.specs.Tree.{branch, Datum, child, absent, listed, flag, index, whole, name, no_name, choice, window, Data, none, more, count}
use Rattle.bast_schema.specs.Counts.{size_at, size_in}

pub size_at_positive : (d : Datum) → 1 ≤ size_at d
size_at_positive (child (branch k ds)) = omega arith
size_at_positive (listed ds) = omega arith
size_at_positive _ = omega arith

-- at most as many values as the size says
pub count_le-size : (ds : Data) → count ds ≤ size_in ds
count_le-size none = omega arith
count_le-size (more d ds) = let h : count ds ≤ size_in ds = count_le-size ds in let g : 1 ≤ size_at d = size_at_positive d in omega arith

-- the items of a list that is the first of some values
pub items_bounded : (items ds : Data) (n : ℕ) → size_in (more (listed items) ds) ≤ n → count items ≤ n
items_bounded items ds n h = let g : count items ≤ size_in items = count_le-size items in omega arith

pub first_list_bounded : (vs : List Value) (v : Value) (items : Data) (n : ℕ) → get_or vs 0 v ≡ value.List items → 1 ≤ length vs → size_in (data_of vs) ≤ n → count items ≤ n
first_list_bounded [] v items n e l h = absurd (omega arith)
first_list_bounded (w ∷ vs) v items n e l h = items_bounded items (data_of vs) n (subst (λ x. size_in (more (datum x) (data_of vs)) ≤ n) e h)
