-- What stands behind the first of some rows.
use Rattle.std.proofs.Common.{ℕ, ◌+◌, ◌-◌, ◌≤◌, ◌<◌, ◌^◌, ◌≡◌, Bool, true, false, List, [], ◌∷◌, ◌++◌, length, take, drop, sym, ap, subst, ◌∙◌, arith}
use Rattle.std.proofs.lemmas.List.{length-append}
use Rattle.std.proofs.Math.Seq.{take-append_seam, drop-append_seam}
use Rattle.bast_schema.specs.declared.kind.Kind.{Kind}
use Rattle.bast_schema.specs.Counts.{size_in}
use Rattle.bast_schema.specs.Fields.{fields}
use Rattle.bast_schema.specs.Tree.{branch, Datum, child, listed, Data, more, count, typed, fit}
use Rattle.bast_schema.proofs.Both.{and_first, and_second}
use Rattle.bast_rows.specs.declared.row.Row.{Row}
use Rattle.bast_rows.specs.declared.row.Row.TheVariants as row
use Rattle.bast_rows.specs.Made.{all_made}
use Rattle.bast_rows.proofs.Typed.{made_fields}
use Rattle.bast_rows.specs.RowsOf.{rows_in, first, all_of, values, data_from, AreSiblings}
use Rattle.bast_rows.proofs.Back.{length_rows_in, data_from_rows_in}

pub siblings_are : (ds : Data) → all_made ds ≡ true → length (rows_in ds) < 2 ^ 32 → AreSiblings (rows_in ds)
siblings_are ds h few = record {
  rows = ap rows_in (sym (data_from_rows_in ds h));
  made = ap all_made (data_from_rows_in ds h) ∙ h;
  few = few;
}

-- rows that stand inside the first row's value, and behind it
pub record Split (rs : List Row) (inside behind : ℕ) (es ds : Data) : Type 0 where
  pub inside_is : take inside rs ≡ rows_in es
  pub behind_is : drop inside rs ≡ rows_in ds
  pub within : inside ≤ length rs
  pub whole : AreSiblings (take inside rs)
  pub rest : AreSiblings (drop inside rs)
  pub seen : data_from (take inside rs) ≡ es
  pub left : data_from (drop inside rs) ≡ ds

split_at : (rs : List Row) (n : ℕ) (es ds : Data) → rs ≡ rows_in es ++ rows_in ds → n ≡ size_in es → all_made es ≡ true → all_made ds ≡ true → length rs < 2 ^ 32 → Split rs n n es ds
split_at rs n es ds is same he hd few =
    let at : n ≡ length (rows_in es) = same ∙ sym (length_rows_in es)
    in let a : take n rs ≡ rows_in es = ap (λ m. take m rs) at ∙ ap (take (length (rows_in es))) is ∙ take-append_seam (rows_in es) (rows_in ds)
    in let b : drop n rs ≡ rows_in ds = ap (λ m. drop m rs) at ∙ ap (drop (length (rows_in es))) is ∙ drop-append_seam (rows_in es) (rows_in ds)
    in let l : length rs ≡ length (rows_in es) + length (rows_in ds) = ap length is ∙ length-append (rows_in es) (rows_in ds)
    in record {
      inside_is = a;
      behind_is = b;
      within = omega arith;
      whole = subst AreSiblings (sym a) (siblings_are es he (omega arith));
      rest = subst AreSiblings (sym b) (siblings_are ds hd (omega arith));
      seen = ap data_from a ∙ data_from_rows_in es he;
      left = ap data_from b ∙ data_from_rows_in ds hd;
    }

abbrev span_of : Row → ℕ
span_of (row.Node k n) = n
span_of (row.List c n) = n
span_of _ = 1

abbrev head_span : List Row → ℕ
head_span [] = 0
head_span (r ∷ rs) = span_of r

abbrev tail_of : List Row → List Row
tail_of [] = []
tail_of (r ∷ rs) = rs

-- what a row with a span says
pub record Opens (n : ℕ) (rs : List Row) (es ds : Data) : Type 0 where
  pub positive : 1 ≤ n
  pub split : Split rs (n - 1) (n - 1) es ds

abbrev pub inside_node : Kind → List Row → Data
inside_node k rs = first (length (fields k)) (values rs)

abbrev pub behind_node : Kind → List Row → Data
behind_node k rs = all_of (drop (length (fields k)) (values rs))

pub opens_node : (k : Kind) (n : ℕ) (rs : List Row) → AreSiblings (row.Node k n ∷ rs) → Opens n rs (inside_node k rs) (behind_node k rs)
opens_node k n rs p =
    let es : Data = inside_node k rs
    in let ds : Data = behind_node k rs
    in let span : n ≡ 1 + size_in es = ap head_span p.rows
    in let tail : rs ≡ rows_in es ++ rows_in ds = ap tail_of p.rows
    in let f : typed (branch k es) ≡ true = and_first (typed (branch k es)) (all_made ds) p.made
    in record {
      positive = omega arith;
      split = split_at rs (n - 1) es ds tail (omega arith) (made_fields (fields k) es f) (and_second (typed (branch k es)) (all_made ds) p.made) (let few : length (row.Node k n ∷ rs) < 2 ^ 32 = p.few in omega arith);
    }

abbrev pub inside_list : ℕ → List Row → Data
inside_list c rs = first c (values rs)

abbrev pub behind_list : ℕ → List Row → Data
behind_list c rs = all_of (drop c (values rs))

pub opens_list : (c n : ℕ) (rs : List Row) → AreSiblings (row.List c n ∷ rs) → Opens n rs (inside_list c rs) (behind_list c rs)
opens_list c n rs p =
    let es : Data = inside_list c rs
    in let ds : Data = behind_list c rs
    in let span : n ≡ 1 + size_in es = ap head_span p.rows
    in let tail : rs ≡ rows_in es ++ rows_in ds = ap tail_of p.rows
    in record {
      positive = omega arith;
      split = split_at rs (n - 1) es ds tail (omega arith) (and_first (all_made es) (all_made ds) p.made) (and_second (all_made es) (all_made ds) p.made) (let few : length (row.List c n ∷ rs) < 2 ^ 32 = p.few in omega arith);
    }

-- behind a row with no parts
abbrev pub is_leaf : Row → Bool
is_leaf (row.Node k n) = false
is_leaf (row.List c n) = false
is_leaf _ = true

after_leaf : (r : Row) (rs : List Row) → tail_of (r ∷ rs) ≡ rows_in (data_from rs) → all_made (data_from rs) ≡ true → length (r ∷ rs) < 2 ^ 32 → AreSiblings rs
after_leaf r rs e f few = record { rows = e; made = f; few = (let less : length (r ∷ rs) < 2 ^ 32 = few in omega arith) }

apart : false ≡ true → ⊥
apart h = cc

pub leaf_rest : (r : Row) (rs : List Row) → is_leaf r ≡ true → AreSiblings (r ∷ rs) → AreSiblings rs
leaf_rest (row.Node k n) rs h p = absurd (apart h)
leaf_rest (row.List c n) rs h p = absurd (apart h)
leaf_rest row.Absent rs h p = after_leaf row.Absent rs (ap tail_of p.rows) p.made p.few
leaf_rest r rs h p = after_leaf r rs (ap tail_of p.rows) p.made p.few

pub within_node : (k : Kind) (n : ℕ) (rs ws : List Row) (r : Row) → r ≡ row.Node k n → ws ≡ r ∷ rs → AreSiblings ws → n - 1 ≤ length rs
within_node k n rs ws r e is p = (opens_node k n rs (subst AreSiblings (is ∙ ap (λ x. x ∷ rs) e) p)).split.within

pub within_list : (c n : ℕ) (rs ws : List Row) (r : Row) → r ≡ row.List c n → ws ≡ r ∷ rs → AreSiblings ws → n - 1 ≤ length rs
within_list c n rs ws r e is p = (opens_list c n rs (subst AreSiblings (is ∙ ap (λ x. x ∷ rs) e) p)).split.within

-- what a step gives, and what it leaves
pub record Steps (ws front back : List Row) (value : Data → Datum) : Type 0 where
  pub inside : AreSiblings front
  pub behind : AreSiblings back
  pub seen : data_from ws ≡ more (value (data_from front)) (data_from back)

pub steps_node : (k : Kind) (n : ℕ) (rs ws front back : List Row) (r : Row) → r ≡ row.Node k n → ws ≡ r ∷ rs → AreSiblings ws → front ≡ take (n - 1) rs → back ≡ drop (n - 1) rs → Steps ws front back (λ ds. child (branch k ds))
steps_node k n rs ws front back r e is p f b =
    let all : ws ≡ row.Node k n ∷ rs = is ∙ ap (λ x. x ∷ rs) e
    in let s : Split rs (n - 1) (n - 1) (inside_node k rs) (behind_node k rs) = (opens_node k n rs (subst AreSiblings all p)).split
    in record {
      inside = subst AreSiblings (sym f) s.whole;
      behind = subst AreSiblings (sym b) s.rest;
      seen = ap data_from all ∙ ap (λ x. more (child (branch k x)) (behind_node k rs)) (sym (ap data_from f ∙ s.seen)) ∙ ap (more (child (branch k (data_from front)))) (sym (ap data_from b ∙ s.left));
    }

pub steps_list : (c n : ℕ) (rs ws front back : List Row) (r : Row) → r ≡ row.List c n → ws ≡ r ∷ rs → AreSiblings ws → front ≡ take (n - 1) rs → back ≡ drop (n - 1) rs → Steps ws front back listed
steps_list c n rs ws front back r e is p f b =
    let all : ws ≡ row.List c n ∷ rs = is ∙ ap (λ x. x ∷ rs) e
    in let s : Split rs (n - 1) (n - 1) (inside_list c rs) (behind_list c rs) = (opens_list c n rs (subst AreSiblings all p)).split
    in record {
      inside = subst AreSiblings (sym f) s.whole;
      behind = subst AreSiblings (sym b) s.rest;
      seen = ap data_from all ∙ ap (λ x. more (listed x) (behind_list c rs)) (sym (ap data_from f ∙ s.seen)) ∙ ap (more (listed (data_from front))) (sym (ap data_from b ∙ s.left));
    }

abbrev head_count : List Row → ℕ
head_count [] = 0
head_count (row.List c n ∷ rs) = c
head_count (r ∷ rs) = 0

-- a node's values fit its fields
pub typed_node : (k : Kind) (n : ℕ) (rs ws front : List Row) (r : Row) → r ≡ row.Node k n → ws ≡ r ∷ rs → AreSiblings ws → front ≡ take (n - 1) rs → fit (fields k) (data_from front) ≡ true
typed_node k n rs ws front r e is p f =
    let q : AreSiblings (row.Node k n ∷ rs) = subst AreSiblings (is ∙ ap (λ x. x ∷ rs) e) p
    in ap (fit (fields k)) (ap data_from f ∙ (opens_node k n rs q).split.seen) ∙ and_first (typed (branch k (inside_node k rs))) (all_made (behind_node k rs)) q.made

-- a list's row tells how many values stand inside it
pub counts_list : (c n : ℕ) (rs ws front : List Row) (r : Row) → r ≡ row.List c n → ws ≡ r ∷ rs → AreSiblings ws → front ≡ take (n - 1) rs → c ≡ count (data_from front)
counts_list c n rs ws front r e is p f =
    let all : ws ≡ row.List c n ∷ rs = is ∙ ap (λ x. x ∷ rs) e
    in let q : AreSiblings (row.List c n ∷ rs) = subst AreSiblings all p
    in let s : Split rs (n - 1) (n - 1) (inside_list c rs) (behind_list c rs) = (opens_list c n rs q).split
    in ap head_count q.rows ∙ sym (ap count (ap data_from f ∙ s.seen))
