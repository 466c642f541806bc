-- Atoms that are written one after another.
use Rattle.std.proofs.Common.{get_or, drop, ◌≡◌, ℕ, ◌+◌, ◌<◌, ◌≤◌, List, [], ◌∷◌, ◌++◌, length, length-append, Result, Ok, Err, refl, sym, ap, subst, ◌∙◌, arith}
use Rattle.bast_schema.specs.declared.kind.Kind.{Kind}
use Rattle.bast_schema.specs.declared.kind.FieldType.{FieldType}
use Rattle.bast_schema.specs.Fields.{fields}
use Rattle.bast_schema.specs.Held.{Held}
use Rattle.bast_schema.specs.Tree as schema
use Rattle.bast_schema.specs.Tree.{Tree, branch, Datum, Data, none, more, kind_of, values_of}
use Rattle.container.specs.Atoms.{Atom, kind, count, flag, index, whole, text, window, atoms, atoms_of, atoms_of_fields, atoms_of_items}
use Rattle.bast_schema.specs.declared.kind.FieldType.TheVariants as field
use Rattle.bast_schema.specs.declared.kind.Union.TheVariants.{Body}
use Rattle.bast_schema.specs.View.{datum, data_of}
use Rattle.bast_schema.specs.declared.node.Value.{Value}
use Rattle.container.proofs.Fields.{atoms_of_fields_drop, atoms_of_items_drop}
use Rattle.container.specs.Tables.{Tables, kind_place, text_place}
use Rattle.var_numbers.proofs.VarnumLemmas.{varnum-nonempty}
use Rattle.var_numbers.specs.Varnum.{varnum}
use Rattle.tree_encoder.specs.declared.fault.EncodeFault.{EncodeFault}
use Rattle.tree_encoder.specs.declared.fault.EncodeFault.TheVariants.{Memory, TooLarge}
use Rattle.container.specs.SpelledAtom.{spelled_atom}
use Rattle.tree_encoder.specs.File.{most_bytes, with_atom}
use Rattle.tree_encoder.specs.Writing.{AllPlain, Puts, Written, list_atoms, with_next, written}

pub written-append : (w : Written) (a b : List Atom) → written w (a ++ b) ≡ written (written w a) b
written-append w [] b = refl
written-append w (x ∷ a) b = written-append (with_next w x) a b

pub plain_parts : (a b : List Atom) → AllPlain (a ++ b) → AllPlain a × AllPlain b
plain_parts [] b plain = (tt, plain)
plain_parts (x ∷ a) b plain = let parts = plain_parts a b plain.1 in ((plain.0, parts.0), parts.1)

-- the next atoms, and those behind them
pub record Split (next rest all : List Atom) : Type 0 where
  pub is : all ≡ next ++ rest

pub fields_split : (h : Held) (ts : List FieldType) (vs : List Value) (i : ℕ) (t : FieldType) (v : Value) → i < length ts → i < length vs → v ≡ get_or vs i v
    → Split (atoms_of h (get_or ts i t) (datum v)) (atoms_of_fields h (drop (i + 1) ts) (data_of (drop (i + 1) vs))) (atoms_of_fields h (drop i ts) (data_of (drop i vs)))
fields_split h ts vs i t v lt within is = record { is = atoms_of_fields_drop h ts vs i t v lt within is }

pub items_split : (h : Held) (vs : List Value) (i : ℕ) (v : Value) → v ≡ get_or vs i v → i < length vs
    → Split (atoms_of h (field.Optional Body) (datum v)) (atoms_of_items h (data_of (drop (i + 1) vs))) (atoms_of_items h (data_of (drop i vs)))
items_split h vs i v is within = record { is = atoms_of_items_drop h vs i v is within }

pub plain_next : {next rest all : List Atom} → Split next rest all → AllPlain all → AllPlain next × AllPlain rest
plain_next {next} {rest} split plain = plain_parts next rest (subst (λ (x : List Atom). AllPlain x) split.is plain)

-- an atom takes a byte at least
atom_takes : (s : Tables) (a : Atom) → 1 ≤ length (spelled_atom s a)
atom_takes s (kind k) = varnum-nonempty (kind_place s k)
atom_takes s (count n) = varnum-nonempty n
atom_takes s (flag b) = omega arith
atom_takes s (index n) = varnum-nonempty n
atom_takes s (whole n) = omega arith
atom_takes s (text entry) = varnum-nonempty (text_place s entry)
atom_takes s (window bytes) = omega (arith, length-append (varnum (length bytes)) bytes, varnum-nonempty (length bytes))

pub written_longer : (w : Written) (as' : List Atom) → length w.bytes + length as' ≤ length (written w as').bytes
written_longer w [] = omega arith
written_longer w (a ∷ as') =
    let rest : length (with_next w a).bytes + length as' ≤ length (written (with_next w a) as').bytes = written_longer (with_next w a) as' in
    let s = with_atom w.tables a in
    omega (arith, atom_takes s a, length-append w.bytes (spelled_atom s a))

-- what is too large stays so behind more atoms
pub larger : (w : Written) (next rest all : List Atom) → all ≡ next ++ rest → most_bytes < length (written w next).bytes → most_bytes < length (written w all).bytes
larger w next rest all split large =
    let e : written w all ≡ written (written w next) rest = ap (written w) split ∙ written-append w next rest in
    let longer = written_longer (written w next) rest in
    let same : length (written w all).bytes ≡ length (written (written w next) rest).bytes = ap (λ (x : Written). length x.bytes) e in
    omega (arith, large)

-- what is left, where the next atoms were written
pub puts_next : {next rest all : List Atom} (new old end : Written) → Split next rest all → new ≡ written old next → written old all ≡ end → written new rest ≡ end
puts_next {next} {rest} {all} new old end split is before = ap (λ (x : Written). written x rest) is ∙ sym (written-append old next rest) ∙ ap (written old) (sym split.is) ∙ before

-- the next atoms are too large, and so are all
pub puts_fail : {next rest all : List Atom} (fault : EncodeFault) (first old new end : Written) (tree : List Atom) → Split next rest all → written old all ≡ written first tree → Puts old next new (Err fault) → Puts first tree end (Err fault)
puts_fail Memory first old new end tree split before puts = tt
puts_fail {next} {rest} {all} TooLarge first old new end tree split before puts =
    let large = larger old next rest all split.is puts in
    let same : length (written old all).bytes ≡ length (written first tree).bytes = ap (λ (x : Written). length x.bytes) before in
    omega (arith, large)

-- behind the first atoms the others were put
pub puts_more : (r : Result (Unit {0}) EncodeFault) (old mid new : Written) (a b : List Atom) → mid ≡ written old a → Puts mid b new r → Puts old (a ++ b) new r
puts_more (Ok u) old mid new a b first puts = puts ∙ ap (λ (x : Written). written x b) first ∙ sym (written-append old a b)
puts_more (Err Memory) old mid new a b first puts = tt
puts_more (Err TooLarge) old mid new a b first puts =
    let e : written mid b ≡ written old (a ++ b) = ap (λ (x : Written). written x b) first ∙ sym (written-append old a b) in
    let same : length (written mid b).bytes ≡ length (written old (a ++ b)).bytes = ap (λ (x : Written). length x.bytes) e in
    omega (arith, puts)

-- each value has an atom at least
has_atom : (h : Held) (t : FieldType) (d : Datum) → 1 ≤ length (atoms_of h t d)
has_atom h t (schema.child (branch k ds)) = omega arith
has_atom h t _ = omega arith

items_atoms : (h : Held) (ds : Data) → schema.count ds ≤ length (atoms_of_items h ds)
items_atoms h none = omega arith
items_atoms h (more d ds) =
    let rest : schema.count ds ≤ length (atoms_of_items h ds) = items_atoms h ds in
    omega (arith, has_atom h (field.Optional Body) d, length-append (atoms_of h (field.Optional Body) d) (atoms_of_items h ds))

-- so a list of more items than a file may have bytes is too large
pub long_list : (w : Written) (h : Held) (ds : Data) → most_bytes < schema.count ds → most_bytes < length (written w (list_atoms h ds)).bytes
long_list w h ds long =
    let longer : length w.bytes + length (list_atoms h ds) ≤ length (written w (list_atoms h ds)).bytes = written_longer w (list_atoms h ds) in
    omega (arith, longer, items_atoms h ds, long)

-- a list's number of items is too large already, and so is the list
pub list_fails : (fault : EncodeFault) (r : Result (Unit {0}) EncodeFault) (old new : Written) (h : Held) (ds : Data) (n : ℕ) → r ≡ Err fault → n ≡ schema.count ds → (r ≡ Err TooLarge → most_bytes < length (old.bytes ++ varnum n)) → Puts old (list_atoms h ds) new (Err fault)
list_fails Memory r old new h ds n is same large = tt
list_fails TooLarge r old new h ds n is same large =
    larger old (count (schema.count ds) ∷ []) (atoms_of_items h ds) (list_atoms h ds) refl (subst (λ (m : ℕ). most_bytes < length (old.bytes ++ varnum m)) same (large is))

-- behind its number of items the items were put
pub list_more : (r : Result (Unit {0}) EncodeFault) (old mid new : Written) (h : Held) (ds : Data) (n : ℕ) → n ≡ schema.count ds → mid ≡ record { tables = old.tables; bytes = old.bytes ++ varnum n } → Puts mid (atoms_of_items h ds) new r → Puts old (list_atoms h ds) new r
list_more r old mid new h ds n same first puts =
    puts_more r old mid new (count (schema.count ds) ∷ []) (atoms_of_items h ds) (first ∙ ap (λ (m : ℕ). record { tables = old.tables; bytes = old.bytes ++ varnum m }) same) puts

atoms_split : (h : Held) (t : Tree) → atoms h t ≡ kind (kind_of t) ∷ atoms_of_fields h (fields (kind_of t)) (values_of t)
atoms_split h (branch k ds) = refl

-- a node's kind is too large already, and so is the node
pub node_fails : (fault : EncodeFault) (old new end : Written) (h : Held) (t : Tree) (k : Kind) → k ≡ kind_of t → Puts old (kind k ∷ []) new (Err fault) → Puts old (atoms h t) end (Err fault)
node_fails fault old new end h t k same puts =
    let split : Split (kind k ∷ []) (atoms_of_fields h (fields (kind_of t)) (values_of t)) (atoms h t) =
    record { is = atoms_split h t ∙ ap (λ (j : Kind). kind j ∷ atoms_of_fields h (fields (kind_of t)) (values_of t)) (sym same) } in
    puts_fail fault old old new end (atoms h t) split refl puts

pub plain_join : (a b : List Atom) → AllPlain a → AllPlain b → AllPlain (a ++ b)
plain_join [] b first rest = rest
plain_join (x ∷ a) b first rest = (first.0, plain_join a b first.1 rest)
