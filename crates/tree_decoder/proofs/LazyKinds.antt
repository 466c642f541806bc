-- What a walk over the kinds of a tree comes to.
use Rattle.std.proofs.Common.{◌≡◌, ℕ, suc, ◌+◌, ◌<◌, Bool, true, false, not, List, [], ◌∷◌, ◌++◌, length, get_or, drop, Option, Some, None, Result, Ok, Err, if◌then◌else◌, cond, refl, sym, ap, ◌∙◌, arith, add-zero, length-append}
use Rattle.std.specs.List.{position_from}
use Rattle.bast_schema.specs.declared.kind.Kind.{Kind}
use Rattle.bast_schema.specs.declared.node.Value.{Value}
use Rattle.bast_schema.specs.Tree.{Tree, branch, Datum, child, listed, Data, none, more, nodes, nodes_at, nodes_in}
use Rattle.bast_schema.specs.View.{datum, data_of}
use Rattle.bast_schema.proofs.Lists.{data_of_drop}
use Rattle.tree_decoder.specs.LazyKinds.{is_eager_kind, kinds_of, kinds_at, kinds_in, walked}

-- as many kinds as nodes
mutual
  pub kinds_nodes : (t : Tree) → length (kinds_of t) ≡ nodes t
  kinds_nodes (branch k ds) = omega (arith, kinds_nodes_in ds)

  pub kinds_nodes_at : (d : Datum) → length (kinds_at d) ≡ nodes_at d
  kinds_nodes_at (child t) = kinds_nodes t
  kinds_nodes_at (listed ds) = kinds_nodes_in ds
  kinds_nodes_at _ = refl

  pub kinds_nodes_in : (ds : Data) → length (kinds_in ds) ≡ nodes_in ds
  kinds_nodes_in none = refl
  kinds_nodes_in (more d ds) = omega (arith, length-append (kinds_at d) (kinds_in ds), kinds_nodes_at d, kinds_nodes_in ds)

-- a walk over all goes on behind one that ended, and stops where one did
abbrev then_walked : Result ℕ ℕ → List Kind → Result ℕ ℕ
then_walked (Ok m) ls = walked m ls
then_walked (Err e) ls = Err e

goes_on : (b : Bool) (n : ℕ) (ks ls : List Kind) → walked (n + 1) (ks ++ ls) ≡ then_walked (walked (n + 1) ks) ls → (if b then walked (n + 1) (ks ++ ls) else Err n) ≡ then_walked (if b then walked (n + 1) ks else Err n) ls
goes_on true n ks ls rest = rest
goes_on false n ks ls rest = refl

walked_both : (n : ℕ) (ks ls : List Kind) → walked n (ks ++ ls) ≡ then_walked (walked n ks) ls
walked_both n [] ls = refl
walked_both n (k ∷ ks) ls = goes_on (is_eager_kind k) n ks ls (walked_both (n + 1) ks ls)

-- a walk ends behind as many nodes as there are where no kind is lazy, and else at the first of a lazy kind
abbrev answer_of : ℕ → Option ℕ → Result ℕ ℕ
answer_of n None = Ok n
answer_of n (Some e) = Err e

answers : (b : Bool) (n size : ℕ) (r : Result ℕ ℕ) (o : Option ℕ) → r ≡ answer_of (n + 1 + size) o → (if b then r else Err n) ≡ answer_of (n + suc size) (cond (not b) (Some n) o)
answers true n size r o is = let same : n + 1 + size ≡ n + suc size = omega arith in is ∙ ap (λ (m : ℕ). answer_of m o) same
answers false n size r o is = refl

walked_is : (n : ℕ) (ks : List Kind) → walked n ks ≡ answer_of (n + length ks) (position_from (λ k. not (is_eager_kind k)) n ks)
walked_is n [] = ap (λ (m : ℕ). answer_of m None) (sym (add-zero n))
walked_is n (k ∷ ks) = answers (is_eager_kind k) n (length ks) (walked (n + 1) ks) (position_from (λ k. not (is_eager_kind k)) (n + 1) ks) (walked_is (n + 1) ks)

ended : (n m : ℕ) (o : Option ℕ) → answer_of n o ≡ Ok m → (o ≡ None) × (m ≡ n)
ended n m None e = (refl, cc)
ended n m (Some x) e = absurd cc

stopped : (n e : ℕ) (o : Option ℕ) → answer_of n o ≡ Err e → o ≡ Some e
stopped n e None is = absurd cc
stopped n e (Some x) is = let same : x ≡ e = cc in ap Some same

pub walked_none : (n m : ℕ) (ks : List Kind) → walked n ks ≡ Ok m → position_from (λ k. not (is_eager_kind k)) n ks ≡ None
walked_none n m ks is = (ended (n + length ks) m _ (sym (walked_is n ks) ∙ is)).0

pub walked_some : (n e : ℕ) (ks : List Kind) → walked n ks ≡ Err e → position_from (λ k. not (is_eager_kind k)) n ks ≡ Some e
walked_some n e ks is = stopped (n + length ks) e _ (sym (walked_is n ks) ∙ is)

-- what is left of a walk over values, where one of them was walked
pub values_on : (vs : List Value) (i : ℕ) (v : Value) (n m : ℕ) → v ≡ get_or vs i v → i < length vs → walked n (kinds_at (datum v)) ≡ Ok m → walked n (kinds_in (data_of (drop i vs))) ≡ walked m (kinds_in (data_of (drop (i + 1) vs)))
values_on vs i v n m at within is = rw (data_of_drop vs i v at within) (walked_both n (kinds_at (datum v)) (kinds_in (data_of (drop (i + 1) vs))) ∙ ap (λ r. then_walked r (kinds_in (data_of (drop (i + 1) vs)))) is)

pub values_no_further : (vs : List Value) (i : ℕ) (v : Value) (n e : ℕ) → v ≡ get_or vs i v → i < length vs → walked n (kinds_at (datum v)) ≡ Err e → walked n (kinds_in (data_of (drop i vs))) ≡ Err e
values_no_further vs i v n e at within is = rw (data_of_drop vs i v at within) (walked_both n (kinds_at (datum v)) (kinds_in (data_of (drop (i + 1) vs))) ∙ ap (λ r. then_walked r (kinds_in (data_of (drop (i + 1) vs)))) is)

pub value_count : (v : Value) (n m : ℕ) → walked n (kinds_at (datum v)) ≡ Ok m → m ≡ n + nodes_at (datum v)
value_count v n m is = omega (arith, (ended (n + length (kinds_at (datum v))) m _ (sym (walked_is n (kinds_at (datum v))) ∙ is)).1, kinds_nodes_at (datum v))
