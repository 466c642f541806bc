-- The machine takes the longest row of atoms, and answers the cause for the first due behind it.
use Rattle.std.proofs.Common.{ℕ, ◌≤◌, ◌≡◌, Bool, true, false, get_or, List, [], ◌∷◌, ◌++◌, Option, Some, None, Ok, refl, sym, ap, ◌∙◌, append-nil, ◌+◌, ◌&&◌, cond, ltb, arith}
use Rattle.bast_schema.specs.declared.kind.FieldType.{FieldType}
use Rattle.bast_schema.specs.declared.kind.FieldType.TheVariants as field
use Rattle.bast_schema.specs.declared.kind.Kind.{Kind}
use Rattle.bast_schema.specs.declared.kind.Kind.TheVariants.{Null}
use Rattle.bast_schema.specs.declared.kind.Union.{Union}
use Rattle.bast_schema.specs.Choices.{choice_texts}
use Rattle.bast_schema.specs.Held.{Held, text_of, bytes_of}
use Rattle.bast_schema.specs.Tree.{Datum, flag, index, whole, name, no_name, choice, window, fits, item_type, Tree, branch, child, absent, listed, Data, none, more}
use Rattle.bast_schema.proofs.Both.{and_first, and_second}
use Rattle.container.specs.Atoms as atom
use Rattle.container.specs.Atoms.{Atom, atoms_of}
use Rattle.bast_schema.specs.Eager.{is_eager_at}
use Rattle.container.specs.Spelled.{framed, spelled_at}
use Rattle.container.specs.Tables.{Tables}
use Rattle.tree_decoder.specs.Dues.{Due, due, dues, times, children, Taken, taken, atom_of, below}
use Rattle.container.specs.Folded.{is_folded, folded_at}
use Rattle.tree_decoder.specs.Left.{puts, then_left, dues_left}
use Rattle.tree_decoder.specs.Numbers.{kind_at, count_at, leaf_at, is_leaf}
use Rattle.tree_decoder.specs.Outcome.{outcome_from, ends}
use Rattle.tree_decoder.specs.Range.{Range, IsSound, held, left}
use Rattle.container.specs.SpelledAtom.{spelled_atom}
use Rattle.tree_decoder.specs.Row.{Longest, here, and_then}
use Rattle.tree_decoder.specs.Windows.{windows_at}
use Rattle.tree_decoder.proofs.Spelling.{left_at, puts_kind}
use Rattle.tree_decoder.proofs.Machine.{atom_cases, count_stands, kind_stands, outcome_by}
use Rattle.tree_decoder.proofs.Single.{leaf_stands}
use Rattle.tree_decoder.proofs.Whole.{named_at_where_stands, script_stands}
use Rattle.std.proofs.lemmas.Bool.{ltb-false}
use Rattle.bast_base.specs.declared.errors.Why.TheVariants.{Trailing}
use Rattle.bast_schema.specs.Fields.{fields}
use Rattle.bast_schema.specs.Kinds.{counted}
use Rattle.container.specs.Answers.{fault}
use Rattle.tree_decoder.specs.Found.{Found, Run}
use Rattle.tree_decoder.specs.Script.{IsScript, script, script_outcome}
use Rattle.tree_decoder.proofs.Nodes.{node_found, absent_found, leaf_found, list_found, run_none, run_cons}

-- ---- one atom

-- the atom of a due, and what it puts
record Step (r : Range) (t : FieldType) (d : ℕ) (w : Bool) (at : ℕ) (y : Taken) : Type 0 where
  pub atom : Atom
  pub spelled : left r at ≡ spelled_atom r.tables atom ++ left r y.next
  pub puts : puts t d w atom ≡ Some y.puts

absent_puts : (u : Union) (optional : Bool) (d : ℕ) (w : Bool) → optional ≡ true → puts (item_type u optional) d w (atom.kind Null) ≡ Some []
absent_puts u true d w is = refl
absent_puts u false d w is = absurd cc

node_step : (r : Range) (u : Union) (optional : Bool) (d : ℕ) (w : Bool) (at : ℕ) (o : Option Kind) (m : ℕ) → IsSound r → at ≤ r.end → kind_at r u optional d w at ≡ Ok (o, m) → Step r (item_type u optional) d w at (taken (children o d w) [] m)
node_step r u optional d w at (Some k) m sound order e =
    let k-stands = kind_stands r u optional d w at (Some k, m) sound order e in
    record { atom = atom.kind k; spelled = k-stands.spelled; puts = puts_kind u optional k d w k-stands.may.0 k-stands.may.1 }
node_step r u optional d w at None m sound order e =
    let none-stands = kind_stands r u optional d w at (None, m) sound order e in
    record { atom = atom.kind Null; spelled = none-stands.spelled; puts = absent_puts u optional d w none-stands.may }

list_step : (r : Range) (u : Union) (holes filled : Bool) (d : ℕ) (w : Bool) (at n m : ℕ) → IsSound r → at ≤ r.end → count_at r filled at ≡ Ok (n, m) → Step r (field.List u holes filled) d w at (taken (dues (times n (item_type u holes)) d w) [] m)
list_step r u holes filled d w at n m sound order e =
    let n-stands = count_stands r filled at (n, m) sound order e in
    record { atom = atom.count n; spelled = n-stands.spelled; puts = rw n-stands.enough refl }

nothing_put : (o : Option (List Due)) → then_left (λ es. dues_left es []) [] o ≡ Some [] → o ≡ Some []
nothing_put None e = absurd cc
nothing_put (Some es) e = ap (λ (ds : List Due). Some ds) (sym (append-nil es)) ∙ e

-- a value with no parts is one atom
record OneAtom (s : Tables) (h : Held) (t : FieldType) (v : Datum) : Type 0 where
  pub atom : Atom
  pub is : atoms_of h t v ≡ atom ∷ []
  pub spelled : framed t (spelled_at s h t v) ≡ spelled_atom s atom
  pub eager : is_eager_at v ≡ true

one_atom : (s : Tables) (h : Held) (t : FieldType) (v : Datum) → is_leaf t ≡ true → fits t v ≡ true → is_folded t v ≡ true → OneAtom s h t v
one_atom s h field.Bool (flag b) leaf ok folded = record { atom = atom.flag b; is = refl; spelled = refl; eager = refl }
one_atom s h field.Index (index n) leaf ok folded = record { atom = atom.index n; is = refl; spelled = refl; eager = refl }
one_atom s h field.Whole (whole n) leaf ok folded = record { atom = atom.whole n; is = refl; spelled = refl; eager = refl }
one_atom s h field.Text (name n) leaf ok folded = record { atom = atom.text (text_of h n); is = refl; spelled = refl; eager = refl }
one_atom s h field.Name (name n) leaf ok folded = record { atom = atom.text (text_of h n); is = refl; spelled = refl; eager = refl }
one_atom s h field.Label (name n) leaf ok folded = record { atom = atom.text (text_of h n); is = refl; spelled = refl; eager = refl }
one_atom s h field.Label no_name leaf ok folded = record { atom = atom.text None; is = refl; spelled = refl; eager = refl }
one_atom s h (field.Choice set) (choice n) leaf ok folded = record { atom = atom.text (Some (get_or (choice_texts set) n [])); is = refl; spelled = refl; eager = refl }
one_atom s h (field.Lazy u) (window from to) leaf ok folded = record { atom = atom.window (bytes_of h from to); is = refl; spelled = refl; eager = refl }
one_atom s h _ _ leaf ok folded = absurd cc

leaf_step : (r : Range) (t : FieldType) (d : ℕ) (w : Bool) (at : ℕ) (x : Datum × ℕ) → IsSound r → at ≤ r.end → is_leaf t ≡ true → leaf_at r t at ≡ Ok x → Step r t d w at (taken [] (windows_at x.0) x.1)
leaf_step r t d w at x sound order leaf e =
    let st = (leaf_stands r t at x sound order leaf e).1 in
    let plain = and_first (is_folded t x.0) (folded_at x.0) st.folded in
    let a = one_atom r.tables (held r) t x.0 leaf st.fits plain in
    let gone = left_at (held r) x.0 t d w st.fits (named_at_where_stands r x.0 st.stands) plain (and_second (is_folded t x.0) (folded_at x.0) st.folded) (λ inside. a.eager) [] [] in
    record {
      atom = a.atom;
      spelled = st.spelled ∙ ap (λ (b : List ℕ). b ++ left r x.1) a.spelled;
      puts = nothing_put (puts t d w a.atom) (sym (ap (λ (xs : List Atom). dues_left (due t d w ∷ []) (xs ++ [])) a.is) ∙ gone);
    }

atom_step : (r : Range) (t : FieldType) (d : ℕ) (w : Bool) (at : ℕ) (y : Taken) → IsSound r → at ≤ r.end → atom_of r t d w at ≡ Ok y → Step r t d w at y
atom_step r t d w at y sound order e =
    atom_cases r d w at (λ u z. Step r u d w at z)
    (λ u optional k m is. node_step r u optional d w at k m sound order is) (λ u holes filled n m is. list_step r u holes filled d w at n m sound order is)
    (λ u v m leaf is. leaf_step r u d w at (v, m) sound order leaf is) t y e

-- ---- the row

pub first_behind_row : (r : Range) (ds : List Due) (at : ℕ) → IsSound r → at ≤ r.end → Longest r ds at (outcome_from r ds at).fault
first_behind_row r ds at sound order =
    outcome_by r (λ es to o. Longest r es to o.fault) sound
    (record {
      nothing = λ to le. record { atoms = []; rest = []; place = to; row = here [] to; due = refl; stops = refl };
      fails = λ x es to f le is. record { atoms = []; rest = x ∷ es; place = to; row = here (x ∷ es) to; due = refl; stops = (f, is, refl) };
      goes = λ x es to y o le is others.
          (let step = atom_step r x.type x.depth x.inside to y sound le is in
          record {
            atoms = step.atom ∷ others.atoms;
            rest = others.rest;
            place = others.place;
            row = and_then x es to step.atom y others.atoms others.rest others.place (record { taken = is; spelled = step.spelled; puts = step.puts }) others.row;
            due = ap (then_left (λ ds. dues_left ds others.atoms) es) step.puts ∙ others.due;
            stops = others.stops;
          });
    }) ds at order

-- ---- where no fault is found, there is a value for each due

-- a value for each due, one after another, and nothing after them
abbrev Each : Range → List Due → ℕ → Type 0
Each r [] at = r.end ≤ at
Each r (x ∷ ds) at = (v : Datum) × (next : ℕ) × Found r x.type x.depth x.inside at v next × Each r ds next

-- no due is deeper than the place under the deepest node
abbrev Shallow : List Due → Type 0
Shallow [] = Unit {0}
Shallow (x ∷ ds) = (x.depth ≤ 513) × Shallow ds

shallow_dues : (ts : List FieldType) (d : ℕ) (w : Bool) (ds : List Due) → d ≤ 513 → Shallow ds → Shallow (dues ts d w ++ ds)
shallow_dues [] d w ds small rest = rest
shallow_dues (t ∷ ts) d w ds small rest = (small, shallow_dues ts d w ds small rest)

-- the values of the first types, and those of the dues after them
record Split (r : Range) (ts : List FieldType) (d : ℕ) (w : Bool) (ds : List Due) (at : ℕ) : Type 0 where
  pub values : Data
  pub next : ℕ
  pub run : Run r ts d w at values next
  pub rest : Each r ds next

split : (r : Range) (ts : List FieldType) (d : ℕ) (w : Bool) (ds : List Due) (at : ℕ) → d ≤ 513 → at ≤ r.end → Each r (dues ts d w ++ ds) at → Split r ts d w ds at
split r [] d w ds at small order each = record { values = none; next = at; run = run_none r d w at small order; rest = each }
split r (t ∷ ts) d w ds at small order each =
    let found : Found r t d w at each.0 each.1 = each.2 in
    let others = split r ts d w ds each.1 small found.within each.3 in
    record { values = more each.0 others.values; next = others.next; run = run_cons r t ts d w at each.1 others.next each.0 others.values found others.run; rest = others.rest }

-- ---- by the first atom

-- a due of this depth stands before these at a place
record Here (r : Range) (d : ℕ) (ds : List Due) (at : ℕ) : Type 0 where
  pub sound : IsSound r
  pub order : at ≤ r.end
  pub small : d ≤ 513
  pub shallow : Shallow ds

-- there are values where no due is too deep
abbrev Ahead : Range → List Due → ℕ → Type 0
Ahead r ds at = Shallow ds → Each r ds at

below_small : (c b : Bool) (d : ℕ) → d ≤ 513 → (c && b) ≡ false → (b ≡ false → d ≤ 512) → cond c (d + 1) d ≤ 513
below_small true b d small e h = let k : d ≤ 512 = h e in omega arith
below_small false b d small e h = small

node_value : (r : Range) (u : Union) (optional : Bool) (d : ℕ) (w : Bool) (ds : List Due) (at : ℕ) (o : Option Kind) (m : ℕ) → Here r d ds at → kind_at r u optional d w at ≡ Ok (o, m) → Ahead r (children o d w ++ ds) m → Each r (due (item_type u optional) d w ∷ ds) at
node_value r u optional d w ds at (Some k) m known e ahead =
    let stands = kind_stands r u optional d w at (Some k, m) known.sound known.order e in
    let small : below k d ≤ 513 = below_small (counted k) (ltb 512 d) d known.small stands.may.2 (λ b. ltb-false _ _ b) in
    let parts = split r (fields k) (below k d) w ds m small stands.within (ahead (shallow_dues (fields k) (below k d) w ds small known.shallow)) in
    (child (branch k parts.values), parts.next, node_found r u optional d w at k m parts.values parts.next known.sound known.order known.small e parts.run, parts.rest)
node_value r u optional d w ds at None m known e ahead = (absent, m, absent_found r u optional d w at m known.sound known.order known.small e, ahead known.shallow)

list_value : (r : Range) (u : Union) (holes filled : Bool) (d : ℕ) (w : Bool) (ds : List Due) (at i m : ℕ) → Here r d ds at → count_at r filled at ≡ Ok (i, m) → Ahead r (dues (times i (item_type u holes)) d w ++ ds) m → Each r (due (field.List u holes filled) d w ∷ ds) at
list_value r u holes filled d w ds at i m known e ahead =
    let stands = count_stands r filled at (i, m) known.sound known.order e in
    let parts = split r (times i (item_type u holes)) d w ds m known.small stands.within (ahead (shallow_dues (times i (item_type u holes)) d w ds known.small known.shallow)) in
    (listed parts.values, parts.next, list_found r u holes filled d w at i m parts.values parts.next known.sound known.order e parts.run, parts.rest)

by_type : (r : Range) (t : FieldType) (d : ℕ) (w : Bool) (ds : List Due) (at : ℕ) (y : Taken) → Here r d ds at → atom_of r t d w at ≡ Ok y → Ahead r (y.puts ++ ds) y.next → Each r (due t d w ∷ ds) at
by_type r t d w ds at y known e ahead =
    atom_cases r d w at (λ u z. Ahead r (z.puts ++ ds) z.next → Each r (due u d w ∷ ds) at)
    (λ u optional k m is on. node_value r u optional d w ds at k m known is on) (λ u holes filled i m is on. list_value r u holes filled d w ds at i m known is on)
    (λ u v m leaf is on. (v, m, leaf_found r u d w at (v, m) known.sound known.order known.small leaf is, on known.shallow)) t y e ahead

all_passed : (r : Range) (at : ℕ) (b : Bool) → ltb at r.end ≡ b → (cond b (ends (Some (fault at Trailing))) (ends None)).fault ≡ None → r.end ≤ at
all_passed r at true is clear = absurd cc
all_passed r at false is clear = ltb-false _ _ is

each : (r : Range) (ds : List Due) (at : ℕ) → IsSound r → at ≤ r.end → (outcome_from r ds at).fault ≡ None → Ahead r ds at
each r ds at sound order =
    outcome_by r (λ es to o. o.fault ≡ None → Ahead r es to) sound
    (record {
      nothing = λ to le clear shallow. all_passed r to (ltb to r.end) refl clear;
      fails = λ x es to f le is clear shallow. absurd cc;
      goes = λ x es to y o le is rest clear shallow. by_type r x.type x.depth x.inside es to y (record { sound = sound; order = le; small = shallow.0; shallow = shallow.1 }) is (rest clear);
    }) ds at order

-- ---- a script

one_node : (r : Range) (at : ℕ) (v : Datum) (next : ℕ) → Found r script 1 false at v next → r.end ≤ next → (t : Tree) × IsScript r at t
one_node r at (child t) next found all = (t, script_stands r at t next found all)
one_node r at _ next found all = let bad : false ≡ true = found.fits in absurd cc

pub script_there : (r : Range) (at : ℕ) → IsSound r → at ≤ r.end → (script_outcome r at).fault ≡ None → (t : Tree) × IsScript r at t
script_there r at sound order clear =
    let one = each r (due script 1 false ∷ []) at sound order clear (omega arith, tt) in
    one_node r at one.0 one.1 one.2 one.3
