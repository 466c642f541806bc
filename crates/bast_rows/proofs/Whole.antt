-- Rows of a well-typed tree give it back.
use Rattle.std.proofs.Common.{ℕ, ◌<◌, ◌^◌, ◌≡◌, true, List, [], ◌∷◌, length, sym, ap, subst, ◌∙◌, arith}
use Rattle.bast_schema.specs.declared.kind.Kind.{Kind}
use Rattle.bast_schema.specs.Fields.{fields}
use Rattle.bast_schema.specs.Tree.{Tree, branch, Data, typed}
use Rattle.bast_rows.specs.declared.row.Row.{Row}
use Rattle.bast_rows.specs.declared.row.Row.TheVariants as row
use Rattle.bast_rows.specs.Made.{all_made}
use Rattle.bast_rows.specs.Room.{AreWhole}
use Rattle.bast_rows.specs.RowsOf.{rows_of, rows_in, tree_from, data_from, AreOf, AreRows, AreSiblings}
use Rattle.bast_rows.proofs.Back.{tree_from_rows_of, data_from_rows_in}
use Rattle.bast_rows.proofs.Typed.{made_fields}
use Rattle.bast_rows.proofs.Stepping.{siblings_are, inside_node}

pub tree_back : (rs : List Row) (t : Tree) → AreOf rs t → tree_from rs ≡ t
tree_back rs t a = ap tree_from a.rows ∙ tree_from_rows_of t a.typed

pub are_rows : (rs : List Row) → AreWhole rs → length rs < 2 ^ 32 → AreRows rs
are_rows rs w few = record { are = subst (AreOf rs) (sym (tree_back rs w.tree w.are)) w.are; few = few }

-- trees with the same rows are the same
pub rows_once : (t u : Tree) → typed t ≡ true → typed u ≡ true → rows_of t ≡ rows_of u → t ≡ u
rows_once t u ht hu e = sym (tree_from_rows_of t ht) ∙ ap tree_from e ∙ tree_from_rows_of u hu

abbrev tail_of : List Row → List Row
tail_of [] = []
tail_of (r ∷ rs) = rs

-- what stands behind the first row
pub record Behind (k : Kind) (rest ws : List Row) : Type 0 where
  pub parts : AreSiblings rest
  pub tree : branch k (data_from rest) ≡ tree_from ws

behind_first : (k : Kind) (n : ℕ) (rest : List Row) → AreRows (row.Node k n ∷ rest) → Behind k rest (row.Node k n ∷ rest)
behind_first k n rest a =
    let es : Data = inside_node k rest
    in let tail : rest ≡ rows_in es = ap tail_of a.are.rows
    in let f : all_made es ≡ true = made_fields (fields k) es a.are.typed
    in let few : length (row.Node k n ∷ rest) < 2 ^ 32 = a.few
    in let same : length rest ≡ length (rows_in es) = ap length tail
    in record {
      parts = subst AreSiblings (sym tail) (siblings_are es f (omega arith));
      tree = ap (λ x. branch k (data_from x)) tail ∙ ap (branch k) (data_from_rows_in es f);
    }

pub behind_root : (k : Kind) (n : ℕ) (rest ws : List Row) → ws ≡ row.Node k n ∷ rest → AreRows ws → Behind k rest ws
behind_root k n rest ws e a = subst (Behind k rest) (sym e) (behind_first k n rest (subst AreRows e a))
