-- Lists of values that are kept with the last value first.
use Rattle.std.proofs.Common.{List, [], ◌∷◌, ◌++◌, ◌≡◌, ◌==◌, refl, ap, sym, ◌∙◌, length, reverse, Ok}
use Rattle.std.proofs.lemmas.List.{reverse-append, length-reverse}
use Rattle.std.specs.Prelude.{slice_index_or, false}
use Rattle.std.specs.List.{remove}
use Rattle.bast_schema.specs.declared.node.Value.{Value}
use Rattle.bast_schema.specs.Tree.{Datum, Data, none, more, count, is_none}
use Rattle.bast_schema.specs.Counts.{join}
use Rattle.bast_schema.specs.View.{datum, data_of}
use Rattle.bast_schema.proofs.Sums.{data_of_append}
use Rattle.bast_schema.proofs.Lists.{count_data_of, is_none_data_of}
use Rattle.js_tree.specs.declared.parts.Ending.{Ending}
use Rattle.js_tree.specs.Parts.{last_behind, last_value}

pub joined : (b s : List Value) → data_of (reverse (b ++ s)) ≡ join (data_of (reverse s)) (data_of (reverse b))
joined b s = ap data_of (reverse-append b s) ∙ data_of_append (reverse s) (reverse b)

pub added : (v : Value) (xs : List Value) → data_of (reverse (v ∷ xs)) ≡ join (data_of (reverse xs)) (more (datum v) none)
added v xs = joined (v ∷ []) xs

pub is_none_reverse : (xs : List Value) → is_none (data_of (reverse xs)) ≡ (length xs == 0)
is_none_reverse xs = is_none_data_of (reverse xs) ∙ ap (λ n. n == 0) (length-reverse xs)

behind_join : (e : Datum) (ds : Data) (d : Datum) → last_behind e (join ds (more d none)) ≡ (more e ds, d)
behind_join e none d = refl
behind_join e (more f ds) d = ap (λ r. (more e r.0, r.1)) (behind_join f ds d)

last_join : (ds : Data) (d : Datum) → last_value (join ds (more d none)) ≡ Ok (ds, d)
last_join none d = refl
last_join (more e ds) d = ap Ok (behind_join e ds d)

pub last_reverse : (v : Value) (xs : List Value) → last_value (data_of (reverse (v ∷ xs))) ≡ Ok (data_of (reverse xs), datum v)
last_reverse v xs = ap last_value (added v xs) ∙ last_join (data_of (reverse xs)) (datum v)

pub last_removed : (xs : List Value) (v d : Value) → (length xs == 0) ≡ false → v ≡ slice_index_or xs 0 d → last_value (data_of (reverse xs)) ≡ Ok (data_of (reverse (remove xs 0)), datum v)
last_removed [] v d some is = absurd cc
last_removed (x ∷ xs) v d some is = last_reverse x xs ∙ ap (λ w. Ok (data_of (reverse xs), datum w)) (sym is)

pub joined_endings : (b s : List Ending) → reverse (b ++ s) ≡ reverse s ++ reverse b
joined_endings b s = reverse-append b s

pub count_reverse : (xs : List Value) → count (data_of (reverse xs)) ≡ length xs
count_reverse xs = count_data_of (reverse xs) ∙ length-reverse xs
