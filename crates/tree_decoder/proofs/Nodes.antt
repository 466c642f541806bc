-- What is read of a node and of a list.
use Rattle.std.proofs.Common.{ℕ, zero, suc, ◌+◌, ◌-◌, ◌≤◌, ◌≡◌, Bool, true, false, not, ◌&&◌, ◌||◌, cond, ltb, eqb, List, [], ◌∷◌, ◌++◌, length, Option, Some, None, Result, Ok, Err, refl, sym, ap, subst, ◌∙◌, arith, append_assoc, ◌<◌, take, drop, get_or, append-nil, drop-cons, add-one, zero-add}
use Rattle.std.specs.List.{list_all}
use Rattle.std.proofs.lemmas.Bool.{ltb-false}
use Rattle.bast_base.specs.declared.errors.FormatFault.{FormatFault}
use Rattle.bast_base.specs.declared.errors.Halt.{Halt}
use Rattle.bast_base.specs.declared.errors.Halt.TheVariants.{Memory, Format}
use Rattle.var_numbers.specs.Varnum.{varnum}
use Rattle.bast_schema.specs.declared.kind.FieldType.{FieldType}
use Rattle.bast_schema.specs.declared.kind.FieldType.TheVariants as field
use Rattle.bast_schema.specs.declared.kind.Kind.{Kind}
use Rattle.bast_schema.specs.declared.kind.Kind.TheVariants.{Null}
use Rattle.bast_schema.specs.declared.kind.Union.{Union}
use Rattle.bast_schema.specs.declared.kind.Union.TheVariants.{Body}
use Rattle.bast_schema.specs.declared.node.NodeFault.{NodeFault}
use Rattle.bast_schema.specs.Fields.{fields}
use Rattle.bast_schema.specs.Held.{Held}
use Rattle.bast_schema.specs.Kinds.{counted}
use Rattle.bast_schema.specs.Made.{node_of}
use Rattle.bast_schema.specs.Tree.{Tree, branch, Datum, child, absent, listed, choice, Data, none, more, fits, fit, items_fit, item_type, is_none, count, depth, depth_in, typed, kind_of}
use Rattle.bast_schema.specs.Unions.{allowed}
use Rattle.bast_schema.proofs.Both.{and_first, and_second, both}
use Rattle.bast_schema.proofs.Lists.{count_fit}
use Rattle.bast_schema.proofs.Typed.{made_where_fit}
use Rattle.container.specs.Atoms as atom
use Rattle.container.specs.Atoms.{Atom, atoms_of, atoms_of_fields, atoms_of_items}
use Rattle.container.specs.InFile.{has_atom}
use Rattle.container.specs.Spelled.{framed, spelled, spelled_at, spelled_items, spelled_fields}
use Rattle.container.specs.Tables.{Tables, kind_place}
use Rattle.tree_decoder.specs.Dues.{Due, due, dues, times, below, children, taken, atom_of}
use Rattle.tree_decoder.specs.Found.{Found, Run, Fails, Spent, SpentFails, stands_at, all_stand}
use Rattle.container.specs.Folded.{is_folded, folded_at, folded_fields, folded_items}
use Rattle.container.specs.Answers.{◌>>=◌}
use Rattle.tree_decoder.specs.Numbers.{kind_at, count_at, leaf_at, is_leaf}
use Rattle.tree_decoder.specs.Outcome.{Outcome, outcome_from, behind}
use Rattle.tree_decoder.specs.Range.{Range, IsSound, held, left}
use Rattle.tree_decoder.specs.Windows.{windows_at, windows_in, skipped}
use Rattle.tree_decoder.proofs.Machine.{from_step, from_fails, atom_moves, count_stands, kind_stands, skipped_both, skips_within}
use Rattle.tree_decoder.proofs.Single.{leaf_atom, leaf_stands, is_ok}
use Rattle.std.proofs.lemmas.List.{take-append-drop}
use Rattle.std.proofs.lemmas.List.Folds.{list_all-append}
use Rattle.bast_schema.specs.declared.node.Value.{Value}
use Rattle.bast_schema.specs.Counts.{join}
use Rattle.bast_schema.specs.View.{datum, data_of}
use Rattle.bast_schema.proofs.Sums.{data_of_append}

-- ---- what is read, value after value

pub behind_both : (ws us : List (ℕ × ℕ)) (o : Outcome) → behind ws (behind us o) ≡ behind (ws ++ us) o
behind_both ws us o = let as_outcome : List (ℕ × ℕ) → Outcome = λ xs. record { windows = xs; fault = o.fault } in ap as_outcome (sym (append_assoc ws us o.windows))

dues_both : (front back : List FieldType) (d : ℕ) (w : Bool) (ds : List Due) → dues (front ++ back) d w ++ ds ≡ dues front d w ++ (dues back d w ++ ds)
dues_both [] back d w ds = refl
dues_both (u ∷ front) back d w ds = ap (λ es. due u d w ∷ es) (dues_both front back d w ds)

windows_both : (vs ws : Data) → windows_in (join vs ws) ≡ windows_in vs ++ windows_in ws
windows_both none ws = refl
windows_both (more v vs) ws = ap (λ us. windows_at v ++ us) (windows_both vs ws) ∙ sym (append_assoc (windows_at v) (windows_in vs) (windows_in ws))

pub run_none : (r : Range) (d : ℕ) (w : Bool) (at : ℕ) → d ≤ 513 → at ≤ r.end → Run r [] d w at none at
run_none r d w at h k = record { goes_on = λ ds. refl; spelled = refl; fits = refl; depth = omega arith; stands = refl; has_all = refl; folded = refl; forward = omega arith; within = k }

-- one value, and those of the types after it
pub run_cons : (r : Range) (t : FieldType) (ts : List FieldType) (d : ℕ) (w : Bool) (a b c : ℕ) (v : Datum) (vs : Data) → Found r t d w a v b → Run r ts d w b vs c → Run r (t ∷ ts) d w a (more v vs) c
run_cons r t ts d w a b c v vs f run =
    let first = framed t (spelled_at r.tables (held r) t v) in
    record {
      goes_on = λ ds. f.goes_on (dues ts d w ++ ds) ∙ ap (behind (windows_at v)) (run.goes_on ds) ∙ behind_both (windows_at v) (windows_in vs) (outcome_from r ds c);
      spelled = f.spelled ∙ ap (λ x. first ++ x) run.spelled ∙ sym (append_assoc first (spelled_fields r.tables (held r) ts vs) (left r c));
      fits = both (fits t v) (fit ts vs) f.fits run.fits;
      depth = omega (arith, f.depth, run.depth);
      stands = both (stands_at r v) (all_stand r vs) f.stands run.stands;
      has_all = list_all-append (has_atom r.tables) (atoms_of (held r) t v) (atoms_of_fields (held r) ts vs) ∙ both _ _ f.has_all run.has_all;
      folded = both (is_folded t v) (folded_at v && folded_fields ts vs) (and_first (is_folded t v) (folded_at v) f.folded) (both (folded_at v) (folded_fields ts vs) (and_second (is_folded t v) (folded_at v) f.folded) run.folded);
      forward = omega (arith, f.forward, run.forward);
      within = run.within;
    }

-- values one after another, each found where the one before it ended
abbrev pub Chain : Range → List FieldType → ℕ → Bool → ℕ → Data → ℕ → Type 0
Chain r [] d w at none next = at ≡ next
Chain r (t ∷ ts) d w at (more v vs) next = (mid : ℕ) × Found r t d w at v mid × Chain r ts d w mid vs next
Chain r _ d w at _ next = ⊥

pub chain_run : (r : Range) (ts : List FieldType) (d : ℕ) (w : Bool) (a c : ℕ) (vs : Data) → d ≤ 513 → a ≤ r.end → Chain r ts d w a vs c → Run r ts d w a vs c
chain_run r [] d w a c none small order chain = subst (λ (n : ℕ). Run r [] d w a none n) chain (run_none r d w a small order)
chain_run r (t ∷ ts) d w a c (more v vs) small order chain = run_cons r t ts d w a chain.0 c v vs chain.1 (chain_run r ts d w chain.0 c vs small chain.1.within chain.2)
chain_run r _ d w a c _ small order chain = absurd chain

chain_push : (r : Range) (ts : List FieldType) (t : FieldType) (d : ℕ) (w : Bool) (a b c : ℕ) (vs : Data) (v : Datum) → Chain r ts d w a vs b → Found r t d w b v c → Chain r (ts ++ t ∷ []) d w a (join vs (more v none)) c
chain_push r [] t d w a b c none v chain f = (c, subst (λ (n : ℕ). Found r t d w n v c) (sym chain) f, refl)
chain_push r (u ∷ ts) t d w a b c (more o os) v chain f = (chain.0, chain.1, chain_push r ts t d w chain.0 b c os v chain.2 f)
chain_push r _ t d w a b c _ v chain f = absurd chain

-- one value after those of several types
pub chain_more : (r : Range) (ts : List FieldType) (t : FieldType) (d : ℕ) (w : Bool) (a b c : ℕ) (vs : List Value) (v : Value) → Chain r ts d w a (data_of vs) b → Found r t d w b (datum v) c → Chain r (ts ++ t ∷ []) d w a (data_of (vs ++ v ∷ [])) c
chain_more r ts t d w a b c vs v chain f = subst (λ (us : Data). Chain r (ts ++ t ∷ []) d w a us c) (sym (data_of_append vs (v ∷ []))) (chain_push r ts t d w a b c (data_of vs) (datum v) chain f)

pub windows_more : (vs : List Value) (v : Value) → windows_in (data_of (vs ++ v ∷ [])) ≡ windows_in (data_of vs) ++ windows_at (datum v)
windows_more vs v = ap windows_in (data_of_append vs (v ∷ [])) ∙ windows_both (data_of vs) (more (datum v) none) ∙ ap (λ ws. windows_in (data_of vs) ++ ws) (append-nil (windows_at (datum v)))

pub spent_more : (vs : List Value) (v : Value) (a b c old mid new : ℕ) → a ≤ b → b ≤ c → Spent (windows_in (data_of vs)) a b old mid → Spent (windows_at (datum v)) b c mid new → Spent (windows_in (data_of (vs ++ v ∷ []))) a c old new
spent_more vs v a b c old mid new h k s t =
    let more : skipped (windows_in (data_of (vs ++ v ∷ []))) ≡ skipped (windows_in (data_of vs)) + skipped (windows_at (datum v)) = ap skipped (windows_more vs v) ∙ skipped_both (windows_in (data_of vs)) (windows_at (datum v)) in
    omega arith

-- ---- a failure after some values

-- what comes of several types, after the first of them were found
pub run_goes : (r : Range) (front back : List FieldType) (d : ℕ) (w : Bool) (a b : ℕ) (vs : Data) (ds : List Due) → Run r front d w a vs b → outcome_from r (dues (front ++ back) d w ++ ds) a ≡ behind (windows_in vs) (outcome_from r (dues back d w ++ ds) b)
run_goes r front back d w a b vs ds run = ap (λ es. outcome_from r es a) (dues_both front back d w ds) ∙ run.goes_on (dues back d w ++ ds)

pub run_fails : (r : Range) (front : List FieldType) (t : FieldType) (back : List FieldType) (d : ℕ) (w : Bool) (a b : ℕ) (vs : Data) (e : Halt) → Run r front d w a vs b → Fails r (due t d w ∷ []) b e → Fails r (dues (front ++ t ∷ back) d w) a e
run_fails r front t back d w a b vs Memory run f = tt
run_fails r front t back d w a b vs (Format x) run f = λ ds. ap (λ (o : Outcome). o.fault) (run_goes r front (t ∷ back) d w a b vs ds run) ∙ f (dues back d w ++ ds)

spent_behind : (ws : List (ℕ × ℕ)) (o : Outcome) (a b end old mid new : ℕ) → a ≤ b → b ≤ end → Spent ws a b old mid → Spent o.windows b end mid new → Spent (behind ws o).windows a end old new
spent_behind ws o a b end old mid new h k s t = let both : skipped (ws ++ o.windows) ≡ skipped ws + skipped o.windows = skipped_both ws o.windows in omega arith

pub run_spends : (r : Range) (front : List FieldType) (t : FieldType) (back : List FieldType) (d : ℕ) (w : Bool) (a b : ℕ) (vs : Data) (old mid new : ℕ) → Run r front d w a vs b → Spent (windows_in vs) a b old mid → SpentFails r (due t d w ∷ []) b mid new → SpentFails r (dues (front ++ t ∷ back) d w) a old new
run_spends r front t back d w a b vs old mid new run s f = λ ds.
    subst (λ (o : Outcome). Spent o.windows a r.end old new) (sym (run_goes r front (t ∷ back) d w a b vs ds run))
    (spent_behind (windows_in vs) (outcome_from r (due t d w ∷ (dues back d w ++ ds)) b) a b r.end old mid new run.forward run.within s (f (dues back d w ++ ds)))

-- a run that is given up with no fault
pub run_stops : (r : Range) (front back : List FieldType) (d : ℕ) (w : Bool) (a b : ℕ) (vs : Data) (old new : ℕ) → IsSound r → Run r front d w a vs b → Spent (windows_in vs) a b old new → SpentFails r (dues (front ++ back) d w) a old new
run_stops r front back d w a b vs old new sound run s = λ ds.
    let others : skipped (outcome_from r (dues back d w ++ ds) b).windows ≤ r.end - b = skips_within r (dues back d w ++ ds) b sound run.within in
    let rest : Spent (outcome_from r (dues back d w ++ ds) b).windows b r.end new new = omega arith in
    subst (λ (o : Outcome). Spent o.windows a r.end old new) (sym (run_goes r front back d w a b vs ds run))
    (spent_behind (windows_in vs) (outcome_from r (dues back d w ++ ds) b) a b r.end old new new run.forward run.within s rest)

-- ---- the types of fields, up to a place

pub take_split : (ts : List FieldType) (i : ℕ) (t : FieldType) → i < length ts → take i ts ++ get_or ts i t ∷ drop (i + 1) ts ≡ ts
take_split ts i t lt = ap (λ back. take i ts ++ back) (sym (rw add-one (drop-cons ts i t lt))) ∙ take-append-drop i ts

pub fails_at : (r : Range) (ts front : List FieldType) (t : FieldType) (back : List FieldType) (d : ℕ) (w : Bool) (a b : ℕ) (vs : Data) (e : Halt) → front ++ t ∷ back ≡ ts → d ≤ 513 → a ≤ r.end → Chain r front d w a vs b → Fails r (due t d w ∷ []) b e → Fails r (dues ts d w) a e
fails_at r ts front t back d w a b vs e split small order chain f = subst (λ (us : List FieldType). Fails r (dues us d w) a e) split (run_fails r front t back d w a b vs e (chain_run r front d w a b vs small order chain) f)

pub spends_at : (r : Range) (ts front : List FieldType) (t : FieldType) (back : List FieldType) (d : ℕ) (w : Bool) (a b : ℕ) (vs : Data) (old mid new : ℕ) → front ++ t ∷ back ≡ ts → d ≤ 513 → a ≤ r.end → Chain r front d w a vs b → Spent (windows_in vs) a b old mid → SpentFails r (due t d w ∷ []) b mid new → SpentFails r (dues ts d w) a old new
spends_at r ts front t back d w a b vs old mid new split small order chain s f = subst (λ (us : List FieldType). SpentFails r (dues us d w) a old new) split (run_spends r front t back d w a b vs old mid new (chain_run r front d w a b vs small order chain) s f)

pub stops_at : (r : Range) (ts front : List FieldType) (t : FieldType) (back : List FieldType) (d : ℕ) (w : Bool) (a b c : ℕ) (vs : List Value) (v : Value) (old mid new : ℕ) → IsSound r → front ++ t ∷ back ≡ ts → d ≤ 513 → a ≤ r.end → Chain r front d w a (data_of vs) b → Spent (windows_in (data_of vs)) a b old mid → Found r t d w b (datum v) c → Spent (windows_at (datum v)) b c mid new → SpentFails r (dues ts d w) a old new
stops_at r ts front t back d w a b c vs v old mid new sound split small order chain s f g =
    let on = (chain_run r front d w a b (data_of vs) small order chain).forward in
    let all = chain_run r (front ++ t ∷ []) d w a c (data_of (vs ++ v ∷ [])) small order (chain_more r front t d w a b c vs v chain f) in
    let spent = spent_more vs v a b c old mid new on (omega (arith, f.forward)) s g in
    subst (λ (us : List FieldType). SpentFails r (dues us d w) a old new) (append_assoc front (t ∷ []) back ∙ split) (run_stops r (front ++ t ∷ []) back d w a c (data_of (vs ++ v ∷ [])) old new sound all spent)

-- ---- a type a number of times

times_more : (n : ℕ) (t : FieldType) → times (suc n) t ≡ times n t ++ t ∷ []
times_more zero t = refl
times_more (suc n) t = ap (λ ts. t ∷ ts) (times_more n t)

-- one more value of a type that was read a number of times
pub chain_times : (r : Range) (i : ℕ) (t : FieldType) (d : ℕ) (w : Bool) (a b c : ℕ) (vs : List Value) (v : Value) → Chain r (times i t) d w a (data_of vs) b → Found r t d w b (datum v) c → Chain r (times (i + 1) t) d w a (data_of (vs ++ v ∷ [])) c
chain_times r i t d w a b c vs v chain f =
    let next : suc i ≡ i + 1 = omega arith in
    subst (λ (ts : List FieldType). Chain r ts d w a (data_of (vs ++ v ∷ [])) c) (sym (times_more i t) ∙ ap (λ n. times n t) next) (chain_more r (times i t) t d w a b c vs v chain f)

suc_plus : (n m : ℕ) → suc n + m ≡ suc (n + m)
suc_plus n m = omega arith

times_split : (n m : ℕ) (t : FieldType) → times (n + suc m) t ≡ times n t ++ t ∷ times m t
times_split zero m t = ap (λ k. times k t) (zero-add (suc m))
times_split (suc n) m t = ap (λ k. times k t) (suc_plus n (suc m)) ∙ ap (λ ts. t ∷ ts) (times_split n m t)

pub times_at : (n i : ℕ) (t : FieldType) → i < n → times i t ++ t ∷ times (n - suc i) t ≡ times n t
times_at n i t lt = let m : i + suc (n - suc i) ≡ n = omega arith in sym (times_split i (n - suc i) t) ∙ ap (λ k. times k t) m

-- ---- nodes

pub kind_atom : (r : Range) (u : Union) (optional : Bool) (d : ℕ) (w : Bool) (at : ℕ) (q : Result (Option Kind × ℕ) FormatFault) → kind_at r u optional d w at ≡ q → atom_of r (item_type u optional) d w at ≡ (q >>= λ k. is_ok (taken (children k.0 d w) [] k.1))
kind_atom r u true d w at q e = ap (λ p. p >>= λ k. is_ok (taken (children k.0 d w) [] k.1)) e
kind_atom r u false d w at q e = ap (λ p. p >>= λ k. is_ok (taken (children k.0 d w) [] k.1)) e

pub framed_item : (u : Union) (holes : Bool) (bytes : List ℕ) → framed (item_type u holes) bytes ≡ bytes
framed_item u true bytes = refl
framed_item u false bytes = refl

pub fits_child : (u : Union) (optional : Bool) (t : Tree) → allowed u (kind_of t) ≡ true → typed t ≡ true → fits (item_type u optional) (child t) ≡ true
fits_child u true t a e = rw (a, e) refl
fits_child u false t a e = rw (a, e) refl

pub plain_item : (u : Union) (optional : Bool) (v : Datum) → is_folded (item_type u optional) v ≡ true
plain_item u true v = refl
plain_item u false v = refl

fits_absent : (u : Union) (optional : Bool) → optional ≡ true → fits (item_type u optional) absent ≡ true
fits_absent u true e = refl
fits_absent u false e = cc

depth_of_node : (c b : Bool) (d x : ℕ) → (c && b) ≡ false → (b ≡ false → d ≤ 512) → d ≤ 513 → x + cond c (d + 1) d ≤ 513 → cond c 1 0 + x + d ≤ 513
depth_of_node true b d x e h k l = let less : d ≤ 512 = h e in omega arith
depth_of_node false b d x e h k l = omega arith

-- what comes of a node, after its kind
pub node_goes : (r : Range) (u : Union) (optional : Bool) (d : ℕ) (w : Bool) (at : ℕ) (k : Option Kind) (m : ℕ) (ds : List Due) → IsSound r → at ≤ r.end → kind_at r u optional d w at ≡ Ok (k, m) → outcome_from r (due (item_type u optional) d w ∷ ds) at ≡ outcome_from r (children k d w ++ ds) m
node_goes r u optional d w at k m ds sound order e = from_step r (due (item_type u optional) d w) ds at (taken (children k d w) [] m) sound order (kind_atom r u optional d w at (Ok (k, m)) e)

pub node_found : (r : Range) (u : Union) (optional : Bool) (d : ℕ) (w : Bool) (at : ℕ) (k : Kind) (m : ℕ) (ds : Data) (next : ℕ) → IsSound r → at ≤ r.end → d ≤ 513 → kind_at r u optional d w at ≡ Ok (Some k, m) → Run r (fields k) (below k d) w m ds next → Found r (item_type u optional) d w at (child (branch k ds)) next
node_found r u optional d w at k m ds next sound order small e run =
    let st = kind_stands r u optional d w at (Some k, m) sound order e in
    let p = st.forward in let q = run.forward in
    record {
      goes_on = λ es. node_goes r u optional d w at (Some k) m es sound order e ∙ run.goes_on es;
      spelled =
          st.spelled
          ∙ ap (λ (b : List ℕ). varnum (kind_place r.tables k) ++ b) run.spelled
          ∙ sym (append_assoc (varnum (kind_place r.tables k)) (spelled_fields r.tables (held r) (fields k) ds) (left r next))
          ∙ ap (λ (b : List ℕ). b ++ left r next) (sym (framed_item u optional (spelled r.tables (held r) (branch k ds))));
      fits = fits_child u optional (branch k ds) st.may.0 run.fits;
      depth = depth_of_node (counted k) (ltb 512 d) d (depth_in ds) st.may.2 (λ b. ltb-false _ _ b) small run.depth;
      stands = run.stands;
      has_all = both (has_atom r.tables (atom.kind k)) (list_all (has_atom r.tables) (atoms_of_fields (held r) (fields k) ds)) st.has run.has_all;
      folded = both (is_folded (item_type u optional) (child (branch k ds))) (folded_fields (fields k) ds) (plain_item u optional (child (branch k ds))) run.folded;
      forward = omega arith;
      within = run.within;
    }

pub absent_found : (r : Range) (u : Union) (optional : Bool) (d : ℕ) (w : Bool) (at m : ℕ) → IsSound r → at ≤ r.end → d ≤ 513 → kind_at r u optional d w at ≡ Ok (None, m) → Found r (item_type u optional) d w at absent m
absent_found r u optional d w at m sound order small e =
    let st = kind_stands r u optional d w at (None, m) sound order e in
    record {
      goes_on = λ es. node_goes r u optional d w at None m es sound order e;
      spelled = st.spelled ∙ ap (λ (b : List ℕ). b ++ left r m) (sym (framed_item u optional (varnum (kind_place r.tables Null))));
      fits = fits_absent u optional st.may;
      depth = omega arith;
      stands = refl;
      has_all = both (has_atom r.tables (atom.kind Null)) true st.has refl;
      folded = both (is_folded (item_type u optional) absent) true (plain_item u optional absent) refl;
      forward = st.forward;
      within = st.within;
    }

-- the node of fields that fit and are not too deep is made
pub node_made : (r : Range) (u : Union) (optional : Bool) (d : ℕ) (w : Bool) (at : ℕ) (k : Kind) (m : ℕ) (ds : Data) (next : ℕ) → IsSound r → at ≤ r.end → 1 ≤ d → d ≤ 513 → kind_at r u optional d w at ≡ Ok (Some k, m) → Run r (fields k) (below k d) w m ds next → node_of k ds ≡ Ok (branch k ds)
node_made r u optional d w at k m ds next sound order one small e run =
    let f = node_found r u optional d w at k m ds next sound order small e run in
    let deep : depth (branch k ds) + d ≤ 513 = f.depth in
    made_where_fit k ds run.fits (omega arith)

-- ---- where an atom fails, and where something behind it does

pub atom_fails : (r : Range) (t : FieldType) (d : ℕ) (w : Bool) (at : ℕ) (f : FormatFault) → at ≤ r.end → atom_of r t d w at ≡ Err f → Fails r (due t d w ∷ []) at (Format f)
atom_fails r t d w at f order e = λ ds. ap (λ (o : Outcome). o.fault) (from_fails r (due t d w) ds at f order e)

pub atom_spends : (r : Range) (t : FieldType) (d : ℕ) (w : Bool) (at : ℕ) (f : FormatFault) (old new : ℕ) → at ≤ r.end → atom_of r t d w at ≡ Err f → new ≤ old + (r.end - at) → SpentFails r (due t d w ∷ []) at old new
atom_spends r t d w at f old new order e s = λ ds. subst (λ (o : Outcome). Spent o.windows at r.end old new) (sym (from_fails r (due t d w) ds at f order e)) (let none : Spent [] at r.end old new = omega arith in none)

pub rest_fails : (r : Range) (t : FieldType) (d : ℕ) (w : Bool) (at : ℕ) (xs : List Due) (m : ℕ) (e : Halt) → IsSound r → at ≤ r.end → atom_of r t d w at ≡ Ok (taken xs [] m) → Fails r xs m e → Fails r (due t d w ∷ []) at e
rest_fails r t d w at xs m Memory sound order e f = tt
rest_fails r t d w at xs m (Format x) sound order e f = λ ds. ap (λ (o : Outcome). o.fault) (from_step r (due t d w) ds at (taken xs [] m) sound order e) ∙ f ds

pub rest_spends : (r : Range) (t : FieldType) (d : ℕ) (w : Bool) (at : ℕ) (xs : List Due) (m : ℕ) (old mid new : ℕ) → IsSound r → at ≤ r.end → atom_of r t d w at ≡ Ok (taken xs [] m) → mid ≤ old + (m - at) → SpentFails r xs m mid new → SpentFails r (due t d w ∷ []) at old new
rest_spends r t d w at xs m old mid new sound order e s f = λ ds.
    let mv = atom_moves r t d w at (taken xs [] m) sound order e in
    let spent : Spent (outcome_from r (xs ++ ds) m).windows at r.end old new = omega (arith, mv.forward, mv.within, f ds) in
    subst (λ (o : Outcome). Spent o.windows at r.end old new) (sym (from_step r (due t d w) ds at (taken xs [] m) sound order e)) spent

pub spent_node : (ws : List (ℕ × ℕ)) (at m next old mid new : ℕ) → at ≤ m → m ≤ next → mid ≤ old + (m - at) → Spent ws m next mid new → Spent ws at next old new
spent_node ws at m next old mid new h k s t = omega arith

-- ---- lists

pub count_atom : (r : Range) (u : Union) (holes filled : Bool) (d : ℕ) (w : Bool) (at : ℕ) (q : Result (ℕ × ℕ) FormatFault) → count_at r filled at ≡ q → atom_of r (field.List u holes filled) d w at ≡ (q >>= λ n. is_ok (taken (dues (times n.0 (item_type u holes)) d w) [] n.1))
count_atom r u holes filled d w at q e = ap (λ p. p >>= λ x. is_ok (taken (dues (times x.0 (item_type u holes)) d w) [] x.1)) e

pub list_goes : (r : Range) (u : Union) (holes filled : Bool) (d : ℕ) (w : Bool) (at n m : ℕ) (ds : List Due) → IsSound r → at ≤ r.end → count_at r filled at ≡ Ok (n, m) → outcome_from r (due (field.List u holes filled) d w ∷ ds) at ≡ outcome_from r (dues (times n (item_type u holes)) d w ++ ds) m
list_goes r u holes filled d w at n m ds sound order e = from_step r (due (field.List u holes filled) d w) ds at (taken (dues (times n (item_type u holes)) d w) [] m) sound order (count_atom r u holes filled d w at (Ok (n, m)) e)

-- items are spelled as nodes that may be absent
pub item_spelled : (s : Tables) (h : Held) (u : Union) (holes : Bool) (d : Datum) → fits (item_type u holes) d ≡ true → spelled_at s h (item_type u holes) d ≡ spelled_at s h (field.Optional Body) d
item_spelled s h u true (choice n) e = cc
item_spelled s h u false (choice n) e = cc
item_spelled s h u holes _ e = refl

pub item_atoms : (h : Held) (u : Union) (holes : Bool) (d : Datum) → fits (item_type u holes) d ≡ true → atoms_of h (field.Optional Body) d ≡ atoms_of h (item_type u holes) d
item_atoms h u true (choice n) e = cc
item_atoms h u false (choice n) e = cc
item_atoms h u holes _ e = refl

pub times_atoms : (h : Held) (n : ℕ) (u : Union) (holes : Bool) (vs : Data) → fit (times n (item_type u holes)) vs ≡ true → atoms_of_fields h (times n (item_type u holes)) vs ≡ atoms_of_items h vs
times_atoms h zero u holes none e = refl
times_atoms h zero u holes (more v vs) e = cc
times_atoms h (suc n) u holes none e = cc
times_atoms h (suc n) u holes (more v vs) e =
    let ok = and_first (fits (item_type u holes) v) (fit (times n (item_type u holes)) vs) e in
    ap (λ (z : List Atom). z ++ atoms_of_fields h (times n (item_type u holes)) vs) (sym (item_atoms h u holes v ok))
    ∙ ap (λ (z : List Atom). atoms_of h (field.Optional Body) v ++ z) (times_atoms h n u holes vs (and_second (fits (item_type u holes) v) (fit (times n (item_type u holes)) vs) e))

pub times_folded : (n : ℕ) (t : FieldType) (vs : Data) → fit (times n t) vs ≡ true → folded_fields (times n t) vs ≡ true → folded_items vs ≡ true
times_folded zero t none f e = refl
times_folded zero t (more v vs) f e = cc
times_folded (suc n) t none f e = cc
times_folded (suc n) t (more v vs) f e =
    let rest = and_second (is_folded t v) (folded_at v && folded_fields (times n t) vs) e in
    both (folded_at v) (folded_items vs) (and_first (folded_at v) (folded_fields (times n t) vs) rest) (times_folded n t vs (and_second (fits t v) (fit (times n t) vs) f) (and_second (folded_at v) (folded_fields (times n t) vs) rest))

both_items : (s : Tables) (h : Held) (u : Union) (holes : Bool) (d : Datum) (xs ys : List ℕ) → fits (item_type u holes) d ≡ true → xs ≡ ys → framed (item_type u holes) (spelled_at s h (item_type u holes) d) ++ xs ≡ spelled_at s h (field.Optional Body) d ++ ys
both_items s h u holes d xs ys e is = ap (λ (b : List ℕ). b ++ xs) (framed_item u holes (spelled_at s h (item_type u holes) d) ∙ item_spelled s h u holes d e) ∙ ap (λ (b : List ℕ). spelled_at s h (field.Optional Body) d ++ b) is

pub spelled_times : (s : Tables) (h : Held) (n : ℕ) (u : Union) (holes : Bool) (ds : Data) → fit (times n (item_type u holes)) ds ≡ true → spelled_fields s h (times n (item_type u holes)) ds ≡ spelled_items s h ds
spelled_times s h zero u holes none e = refl
spelled_times s h zero u holes (more d ds) e = cc
spelled_times s h (suc n) u holes none e = cc
spelled_times s h (suc n) u holes (more d ds) e =
    both_items s h u holes d _ _ (and_first (fits (item_type u holes) d) (fit (times n (item_type u holes)) ds) e) (spelled_times s h n u holes ds (and_second (fits (item_type u holes) d) (fit (times n (item_type u holes)) ds) e))

both_fit : (a b c : Bool) → (a && b) ≡ true → (b ≡ true → c ≡ true) → (a && c) ≡ true
both_fit true b c e f = f e
both_fit false b c e f = cc

pub items_fit_times : (n : ℕ) (u : Union) (holes : Bool) (ds : Data) → fit (times n (item_type u holes)) ds ≡ true → items_fit u holes ds ≡ true
items_fit_times zero u holes none e = refl
items_fit_times zero u holes (more d ds) e = cc
items_fit_times (suc n) u holes none e = cc
items_fit_times (suc n) u holes (more d ds) e = both_fit (fits (item_type u holes) d) (fit (times n (item_type u holes)) ds) (items_fit u holes ds) e (items_fit_times n u holes ds)

pub length_times : (n : ℕ) (t : FieldType) → length (times n t) ≡ n
length_times zero t = refl
length_times (suc n) t = ap suc (length_times n t)

pub list_fits : (filled : Bool) (n : ℕ) (t : FieldType) (ds : Data) → (filled && eqb n 0) ≡ false → fit (times n t) ds ≡ true → (not filled || not (is_none ds)) ≡ true
list_fits false n t ds e f = refl
list_fits true n t (more d ds) e f = refl
list_fits true zero t none e f = cc
list_fits true (suc n) t none e f = cc

pub list_found : (r : Range) (u : Union) (holes filled : Bool) (d : ℕ) (w : Bool) (at n m : ℕ) (ds : Data) (next : ℕ) → IsSound r → at ≤ r.end → count_at r filled at ≡ Ok (n, m) → Run r (times n (item_type u holes)) d w m ds next → Found r (field.List u holes filled) d w at (listed ds) next
list_found r u holes filled d w at n m ds next sound order e run =
    let st = count_stands r filled at (n, m) sound order e in
    let p = st.forward in let q = run.forward in
    let many : count ds ≡ n = count_fit (times n (item_type u holes)) ds run.fits ∙ length_times n (item_type u holes) in
    let bytes : spelled_fields r.tables (held r) (times n (item_type u holes)) ds ≡ spelled_items r.tables (held r) ds = spelled_times r.tables (held r) n u holes ds run.fits in
    record {
      goes_on = λ es. list_goes r u holes filled d w at n m es sound order e ∙ run.goes_on es;
      spelled =
          st.spelled
          ∙ ap (λ (b : List ℕ). varnum n ++ b) run.spelled
          ∙ sym (append_assoc (varnum n) (spelled_fields r.tables (held r) (times n (item_type u holes)) ds) (left r next))
          ∙ ap (λ (b : List ℕ). (varnum n ++ b) ++ left r next) bytes
          ∙ ap (λ (k : ℕ). (varnum k ++ spelled_items r.tables (held r) ds) ++ left r next) (sym many);
      fits = rw (list_fits filled n (item_type u holes) ds st.enough run.fits, items_fit_times n u holes ds run.fits) refl;
      depth = run.depth;
      stands = run.stands;
      has_all = ap (list_all (has_atom r.tables)) (sym (times_atoms (held r) n u holes ds run.fits)) ∙ run.has_all;
      folded = times_folded n (item_type u holes) ds run.fits run.folded;
      forward = omega arith;
      within = run.within;
    }

-- ---- values with no parts

pub leaf_found : (r : Range) (t : FieldType) (d : ℕ) (w : Bool) (at : ℕ) (x : Datum × ℕ) → IsSound r → at ≤ r.end → d ≤ 513 → is_leaf t ≡ true → leaf_at r t at ≡ Ok x → Found r t d w at x.0 x.1
leaf_found r t d w at x sound order small leaf e =
    let st = (leaf_stands r t at x sound order leaf e).1 in
    record {
      goes_on = λ ds. from_step r (due t d w) ds at (taken [] (windows_at x.0) x.1) sound order (leaf_atom r t d w at (Ok x) leaf e);
      spelled = st.spelled;
      fits = st.fits;
      depth = omega (arith, st.flat);
      stands = st.stands;
      has_all = st.has_all;
      folded = st.folded;
      forward = omega (arith, st.ahead, st.skips);
      within = st.within;
    }

-- ---- what the code makes of a node

pub kind_read : (q : Result (Option Kind × ℕ) FormatFault) (x : Option Kind × ℕ) (o : Option Kind) → is_ok x ≡ q → x.0 ≡ o → q ≡ is_ok (o, x.1)
kind_read q x o read is = sym read ∙ ap (λ (p : Option Kind). is_ok (p, x.1)) is

bounds_of : (c b : Bool) (d : ℕ) → 1 ≤ d → d ≤ 513 → (c && b) ≡ false → (b ≡ false → d ≤ 512) → (1 ≤ cond c (d + 1) d) × (cond c (d + 1) d ≤ 513)
bounds_of true b d one small e h = let k : d ≤ 512 = h e in (omega arith, omega arith)
bounds_of false b d one small e h = (one, small)

pub below_bounds : (k : Kind) (d : ℕ) → 1 ≤ d → d ≤ 513 → (counted k && ltb 512 d) ≡ false → (1 ≤ below k d) × (below k d ≤ 513)
below_bounds k d one small shallow = bounds_of (counted k) (ltb 512 d) d one small shallow (λ b. ltb-false _ _ b)

abbrev pub made_as : Tree → Result Tree NodeFault
made_as t = Ok t

abbrev pub fault_as : NodeFault → Result Tree NodeFault
fault_as f = Err f

pub node_is : (t u : Tree) (q : Result Tree NodeFault) → made_as t ≡ q → q ≡ made_as u → t ≡ u
node_is t u q p e = let both : made_as t ≡ made_as u = p ∙ e in cc

pub no_fault : (f : NodeFault) (u : Tree) (q : Result Tree NodeFault) → fault_as f ≡ q → q ≡ made_as u → ⊥
no_fault f u q p e = let both : fault_as f ≡ made_as u = p ∙ e in cc
