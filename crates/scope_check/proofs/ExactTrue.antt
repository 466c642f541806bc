-- What exact scopes say of a well-typed tree is true.
use Rattle.std.proofs.Common.{ℕ, List, [], ◌∷◌, ◌+◌, ◌≡◌, Bool, true, false, refl, ap, ◌∙◌, ◌&&◌, ◌||◌, not, if◌then◌else◌, Option}
use Rattle.bast_schema.specs.declared.kind.Kind.{Kind}
use Rattle.bast_schema.specs.declared.kind.Kind.TheVariants.{AssertedBoundNamesScope}
use Rattle.bast_schema.specs.declared.kind.Union.{Union}
use Rattle.bast_schema.specs.declared.kind.FieldType.{FieldType}
use Rattle.bast_schema.specs.declared.kind.FieldType.TheVariants as field
use Rattle.bast_schema.specs.Fields.{fields}
use Rattle.bast_schema.specs.Tree.{Tree, branch, Datum, child, listed, Data, none, more, typed, fits, fit, items_fit, item_type, is_none, nodes_at}
use Rattle.bast_schema.proofs.Both.{and_first, and_second}
use Rattle.scope_facts.specs.declared.context.Ctx.{Ctx}
use Rattle.scope_facts.specs.declared.context.ScopeFacts.{ScopeFacts}
use Rattle.scope_facts.specs.declared.roles.Shape.{Shape}
use Rattle.scope_facts.specs.declared.roles.Shape.TheVariants as shape
use Rattle.scope_facts.specs.Roles.{part, shape_of}
use Rattle.scope_facts.specs.Uses.{is_scope, is_eval, crossed_in, evals_in}
use Rattle.scope_facts.specs.Names.{bound}
use Rattle.scope_facts.specs.Entries.{entries, flags_by, is_simple}
use Rattle.scope_facts.specs.Exact.{exact, eval_name}
use Rattle.scope_facts.specs.Filled.{filled_scope, filled, filled_at, filled_in, filled_among}
use Rattle.scope_facts.specs.Flagged.{with_flag, entries_by, flagged_scope, flagged, flagged_at, flagged_in, flagged_among}
use Rattle.scope_facts.specs.Frames.{Frame, frame, fine_use, inside, respects, respects_at, respects_in, respects_among}
use Rattle.scope_facts.specs.Reading.{says_eval, evals_told, evals_told_at, evals_told_in, evals_told_among}
use Rattle.scope_facts.proofs.Clean.{item_plain, takes_scope, is_plain_list, all_plain_lists, plain_lists, child_typed, clean_in, fit_clean}
use Rattle.scope_facts.proofs.ExactNames.{is_filled_scope, is_filled, bound_exact, entries_exact, is_simple_exact}
use Rattle.scope_facts.proofs.Kept.{is_flagged_scope, is_flagged, uses_captured, evals_are_told}
use Rattle.scope_check.specs.declared.finding.Finding.TheVariants.{Fine}
use Rattle.scope_check.specs.Entries.{keys, differing, flags_agree, judged_flag, judged, says_by}
use Rattle.scope_check.specs.Untrue.{entries_rule, found, untrue_scope, untrue_from, untrue_at, untrue_in, untrue_among, frames_inside, all_tell, untrue}
use Rattle.scope_check.proofs.Differing.{apart, differ_nowhere, or_right}
use Rattle.scope_check.proofs.Apart.{at_most_one, keys_flag, entries_apart}
use Rattle.scope_check.proofs.OneName.{takes, has_bound_scope, names_once, holds_bound_scope, one_rest_fits}

-- a scope

flags_same : (b : Bool) → flags_agree b b ≡ Fine
flags_same true = refl
flags_same false = refl

flag_agrees : (s : Shape) (es : Data) (b simple : Bool) (after : Data) → is_simple after ≡ simple → judged_flag s (more (listed es) (with_flag b (flags_by s simple))) after ≡ Fine
flag_agrees shape.Parameters es b simple after e = rw (e) (flags_same simple)
flag_agrees shape.Statements es b simple after e = refl
flag_agrees shape.Lexical es b simple after e = refl
flag_agrees shape.BoundName es b simple after e = refl
flag_agrees shape.Nothing es b simple after e = refl

judged_fine : (s : Shape) (c : ℕ → Bool) (b : Bool) (ns : List ℕ) (after later : Data) → entries s ns later ≡ entries s ns after → is_simple later ≡ is_simple after → apart (λ a. false) (keys (entries s ns after)) ≡ true
    → judged (differing (keys (entries_by c (entries s ns after))) (keys (entries s ns later))) (judged_flag s (more (listed (entries_by c (entries s ns after))) (with_flag b (flags_by s (is_simple after)))) later) ≡ Fine
judged_fine s c b ns after later e f a = rw (e, keys_flag c (entries s ns after), differ_nowhere (keys (entries s ns after)) a) (flag_agrees s (entries_by c (entries s ns after)) b (is_simple after) later f)

says_fine : (s : Shape) (c : ℕ → Bool) (b : Bool) (ns : List ℕ) (after later : Data) → entries s ns later ≡ entries s ns after → is_simple later ≡ is_simple after → apart (λ a. false) (keys (entries s ns after)) ≡ true
    → says_by s ns (more (listed (entries_by c (entries s ns after))) (with_flag b (flags_by s (is_simple after)))) later ≡ Fine
says_fine shape.Parameters c b ns after later e f a = judged_fine shape.Parameters c b ns after later e f a
says_fine shape.Statements c b ns after later e f a = judged_fine shape.Statements c b ns after later e f a
says_fine shape.Lexical c b ns after later e f a = judged_fine shape.Lexical c b ns after later e f a
says_fine shape.BoundName c b ns after later e f a = judged_fine shape.BoundName c b ns after later e f a
says_fine shape.Nothing c b ns after later e f a = refl

-- the values behind a scope: `after` as they were, and with exact scopes
scope_true : (e : Option ℕ) (n : ℕ) (ns : List ℕ) (d : Datum) (after : Data) (t : FieldType) (ts : List FieldType) → (has_bound_scope (t ∷ ts) ≡ true → at_most_one ns ≡ true) → fits t d ≡ true → fit ts after ≡ true
    → clean_in after ≡ true → untrue_scope n ns (flagged_scope e (filled_scope ns d after) (filled_in ns after)) (flagged_in e (filled_in ns after)) ≡ []
scope_true e n ns (child (branch k ds)) after t ts once f g c =
    ap (found n (entries_rule (shape_of k))) (says_fine (shape_of k) (λ x. crossed_in x (filled_in ns after)) (evals_in e (filled_in ns after)) ns after (flagged_in e (filled_in ns after))
    (entries_exact (shape_of k) ns e ns after c) (is_simple_exact e ns after c)
    (entries_apart (shape_of k) ns after (λ s. once (holds_bound_scope k t ts ds s f)) (one_rest_fits ts after g)))
scope_true e n ns _ after t ts once f g c = refl

-- a field

abbrev filled_field : List ℕ → Bool → Datum → Data → Datum
filled_field ns b d after = if b then filled_scope ns d after else filled_at d

abbrev flagged_field : Option ℕ → Datum → Data → Datum
flagged_field e d after = if is_scope d then flagged_scope e d after else flagged_at e d

as_scope : (e : Option ℕ) (ns : List ℕ) (d : Datum) (after behind : Data) → is_scope d ≡ true → flagged_field e (filled_field ns true d after) behind ≡ flagged_scope e (filled_scope ns d after) behind
as_scope e ns d after behind s = rw (is_filled_scope ns d after, s) refl

as_other : (e : Option ℕ) (ns : List ℕ) (d : Datum) (after behind : Data) → is_scope d ≡ false → flagged_field e (filled_field ns false d after) behind ≡ flagged_at e (filled_at d)
as_other e ns d after behind s = rw (is_filled d, s) refl

if_true : (b p q : Bool) → b ≡ true → (if b then p else q) ≡ true → p ≡ true
if_true true p q e h = h
if_true false p q e h = cc

if_false : (b p q : Bool) → b ≡ false → (if b then p else q) ≡ true → q ≡ true
if_false true p q e h = cc
if_false false p q e h = h

scope_step : (e : Option ℕ) (fs : List Frame) (told : Bool) (ns : List ℕ) (n : ℕ) (z : Datum) (after : Data) → is_scope z ≡ true → untrue_scope n ns z after ≡ []
    → ((gs : List Frame) (b : Bool) (m : ℕ) → respects_in gs after ≡ true → evals_told_in e b after ≡ true → untrue_in e gs b ns m after ≡ [])
    → respects_in fs (more z after) ≡ true → evals_told_in e told (more z after) ≡ true → untrue_in e fs told ns n (more z after) ≡ []
scope_step e fs told ns n z after s u h r v = rw (s, u)
    (h (frame z ∷ fs) (told && says_eval z) (n + nodes_at z) (if_true (is_scope z) (respects_in (frame z ∷ fs) after) (respects_at fs z && respects_in fs after) s r)
    (if_true (is_scope z) (evals_told_in e (told && says_eval z) after) (evals_told_at e told z && evals_told_in e told after) s v))

other_step : (e : Option ℕ) (fs : List Frame) (told : Bool) (ns : List ℕ) (n : ℕ) (z : Datum) (after : Data) → is_scope z ≡ false → (respects_at fs z ≡ true → evals_told_at e told z ≡ true → untrue_at e fs told n z ≡ [])
    → ((gs : List Frame) (b : Bool) (m : ℕ) → respects_in gs after ≡ true → evals_told_in e b after ≡ true → untrue_in e gs b ns m after ≡ [])
    → respects_in fs (more z after) ≡ true → evals_told_in e told (more z after) ≡ true → untrue_in e fs told ns n (more z after) ≡ []
other_step e fs told ns n z after s u h r v =
    let r2 : (respects_at fs z && respects_in fs after) ≡ true = if_false (is_scope z) (respects_in (frame z ∷ fs) after) (respects_at fs z && respects_in fs after) s r
    in let v2 : (evals_told_at e told z && evals_told_in e told after) ≡ true = if_false (is_scope z) (evals_told_in e (told && says_eval z) after) (evals_told_at e told z && evals_told_in e told after) s v
    in rw (
      s,
      u (and_first (respects_at fs z) (respects_in fs after) r2) (and_first (evals_told_at e told z) (evals_told_in e told after) v2),
      h fs told (n + nodes_at z) (and_second (respects_at fs z) (respects_in fs after) r2) (and_second (evals_told_at e told z) (evals_told_in e told after) v2),
    ) refl

field_true : (e : Option ℕ) (fs : List Frame) (told : Bool) (ns : List ℕ) (n : ℕ) (d : Datum) (after : Data) (b : Bool) → is_scope d ≡ b
    → (is_scope d ≡ true → untrue_scope n ns (flagged_scope e (filled_scope ns d after) (filled_in ns after)) (flagged_in e (filled_in ns after)) ≡ [])
    → (respects_at fs (flagged_at e (filled_at d)) ≡ true → evals_told_at e told (flagged_at e (filled_at d)) ≡ true → untrue_at e fs told n (flagged_at e (filled_at d)) ≡ [])
    → ((gs : List Frame) (c : Bool) (m : ℕ) → respects_in gs (flagged_in e (filled_in ns after)) ≡ true → evals_told_in e c (flagged_in e (filled_in ns after)) ≡ true → untrue_in e gs c ns m (flagged_in e (filled_in ns after)) ≡ [])
    → respects_in fs (more (flagged_field e (filled_field ns b d after) (filled_in ns after)) (flagged_in e (filled_in ns after))) ≡ true
    → evals_told_in e told (more (flagged_field e (filled_field ns b d after) (filled_in ns after)) (flagged_in e (filled_in ns after))) ≡ true
    → untrue_in e fs told ns n (more (flagged_field e (filled_field ns b d after) (filled_in ns after)) (flagged_in e (filled_in ns after))) ≡ []
field_true e fs told ns n d after true s u w h = rw (as_scope e ns d after (filled_in ns after) s)
    (scope_step e fs told ns n (flagged_scope e (filled_scope ns d after) (filled_in ns after)) (flagged_in e (filled_in ns after)) (is_flagged_scope e (filled_scope ns d after) (filled_in ns after) ∙ is_filled_scope ns d after ∙ s) (u s) h)
field_true e fs told ns n d after false s u w h = rw (as_other e ns d after (filled_in ns after) s)
    (other_step e fs told ns n (flagged_at e (filled_at d)) (flagged_in e (filled_in ns after)) (is_flagged e (filled_at d) ∙ is_filled d ∙ s) w h)

-- the node itself

eval_told : (b told : Bool) → (not b || told) ≡ true → (b && not told) ≡ false
eval_told true true h = refl
eval_told true false h = cc
eval_told false told h = refl

node_true : (e : Option ℕ) (fs : List Frame) (told : Bool) (n : ℕ) (k : Kind) (ds : Data)
    → ((gs : List Frame) → respects_in gs ds ≡ true → evals_told_in e told ds ≡ true → untrue_in e gs told (bound ds) (n + 1) ds ≡ [])
    → respects fs (branch k ds) ≡ true → evals_told e told (branch k ds) ≡ true → untrue_from e fs told n (branch k ds) ≡ []
node_true e fs told n k ds h r v = rw (
  and_first (fine_use fs (part k) ds) (respects_in (inside (part k) fs) ds) r,
  eval_told (is_eval e (part k) ds) told (and_first (not (is_eval e (part k) ds) || told) (evals_told_in e told ds) v),
)
    (h (inside (part k) fs) (and_second (fine_use fs (part k) ds) (respects_in (inside (part k) fs) ds) r) (and_second (not (is_eval e (part k) ds) || told) (evals_told_in e told ds) v))

-- what stands around the names of a node: they are those that its values bind with exact scopes too
bound_true : (e : Option ℕ) (fs : List Frame) (told : Bool) (n : ℕ) (ns : List ℕ) (ds : Data) → clean_in ds ≡ true → bound ds ≡ ns
    → (respects_in fs (flagged_in e (filled_in ns ds)) ≡ true → evals_told_in e told (flagged_in e (filled_in ns ds)) ≡ true → untrue_in e fs told ns n (flagged_in e (filled_in ns ds)) ≡ [])
    → respects_in fs (flagged_in e (filled_in ns ds)) ≡ true → evals_told_in e told (flagged_in e (filled_in ns ds)) ≡ true → untrue_in e fs told (bound (flagged_in e (filled_in ns ds))) n (flagged_in e (filled_in ns ds)) ≡ []
bound_true e fs told n ns ds c b h = rw (bound_exact e ns ds c, b) h

mutual
  pub true_from : (e : Option ℕ) (fs : List Frame) (told : Bool) (n : ℕ) (t : Tree) → typed t ≡ true → respects fs (flagged e (filled t)) ≡ true → evals_told e told (flagged e (filled t)) ≡ true
      → untrue_from e fs told n (flagged e (filled t)) ≡ []
  true_from e fs told n (branch k ds) f = node_true e fs told n k (flagged_in e (filled_in (bound ds) ds))
      (λ gs. bound_true e gs told (n + 1) (bound ds) ds (fit_clean ds (fields k) (plain_lists k) f) refl (true_in e gs told (bound ds) (n + 1) ds (fields k) (plain_lists k) f (names_once k ds f)))

  pub true_at : (e : Option ℕ) (fs : List Frame) (told : Bool) (n : ℕ) (d : Datum) (t : FieldType) → is_plain_list t ≡ true → fits t d ≡ true → respects_at fs (flagged_at e (filled_at d)) ≡ true
      → evals_told_at e told (flagged_at e (filled_at d)) ≡ true → untrue_at e fs told n (flagged_at e (filled_at d)) ≡ []
  true_at e fs told n (child u) t p f r v = true_from e fs told n u (child_typed t u f) r v
  true_at e fs told n (listed ds) (field.List u holes nonempty) p f r v = true_among e fs told n ds u holes p (and_second (not nonempty || not (is_none ds)) (items_fit u holes ds) f) r v
  true_at e fs told n (listed ds) _ p f r v = cc
  true_at e fs told n _ t p f r v = refl

  pub true_in : (e : Option ℕ) (fs : List Frame) (told : Bool) (ns : List ℕ) (n : ℕ) (ds : Data) (ts : List FieldType) → all_plain_lists ts ≡ true → fit ts ds ≡ true → (has_bound_scope ts ≡ true → at_most_one ns ≡ true)
      → respects_in fs (flagged_in e (filled_in ns ds)) ≡ true → evals_told_in e told (flagged_in e (filled_in ns ds)) ≡ true → untrue_in e fs told ns n (flagged_in e (filled_in ns ds)) ≡ []
  true_in e fs told ns n none ts p f once r v = refl
  true_in e fs told ns n (more d ds) [] p f once r v = cc
  true_in e fs told ns n (more d ds) (t ∷ ts) p f once r v =
      let f1 : fits t d ≡ true = and_first (fits t d) (fit ts ds) f
      in let f2 : fit ts ds ≡ true = and_second (fits t d) (fit ts ds) f
      in let p2 : all_plain_lists ts ≡ true = and_second (is_plain_list t) (all_plain_lists ts) p
      in field_true e fs told ns n d ds (is_scope d) refl
      (λ s. scope_true e n ns d ds t ts once f1 f2 (fit_clean ds ts p2 f2))
      (true_at e fs told n d t (and_first (is_plain_list t) (all_plain_lists ts) p) f1)
      (λ gs c m. true_in e gs c ns m ds ts p2 f2 (λ b. once (or_right (takes AssertedBoundNamesScope t) (has_bound_scope ts) b))) r v

  pub true_among : (e : Option ℕ) (fs : List Frame) (told : Bool) (n : ℕ) (ds : Data) (u : Union) (holes : Bool) → not (takes_scope u) ≡ true → items_fit u holes ds ≡ true
      → respects_among fs (flagged_among e (filled_among ds)) ≡ true → evals_told_among e told (flagged_among e (filled_among ds)) ≡ true → untrue_among e fs told n (flagged_among e (filled_among ds)) ≡ []
  true_among e fs told n none u holes p f r v = refl
  true_among e fs told n (more d ds) u holes p f r v =
      rw (true_at e fs told n d (item_type u holes) (item_plain u holes) (and_first (fits (item_type u holes) d) (items_fit u holes ds) f)
      (and_first (respects_at fs (flagged_at e (filled_at d))) (respects_among fs (flagged_among e (filled_among ds))) r)
      (and_first (evals_told_at e told (flagged_at e (filled_at d))) (evals_told_among e told (flagged_among e (filled_among ds))) v))
      (true_among e fs told (n + nodes_at (flagged_at e (filled_at d))) ds u holes p (and_second (fits (item_type u holes) d) (items_fit u holes ds) f)
      (and_second (respects_at fs (flagged_at e (filled_at d))) (respects_among fs (flagged_among e (filled_among ds))) r)
      (and_second (evals_told_at e told (flagged_at e (filled_at d))) (evals_told_among e told (flagged_among e (filled_among ds))) v))

no_frames : (ss : List ScopeFacts) → ss ≡ [] → frames_inside [] ss ≡ []
no_frames [] e = refl
no_frames (s ∷ ss) e = cc

no_scopes : (ss : List ScopeFacts) → ss ≡ [] → all_tell ss ≡ true
no_scopes [] e = refl
no_scopes (s ∷ ss) e = cc

pub exact_is_true : (texts : List (Option (List ℕ))) (c : Ctx) (t : Tree) → c.scopes ≡ [] → typed t ≡ true → untrue texts c (exact texts t) ≡ []
exact_is_true texts c t e f = rw (no_frames c.scopes e, no_scopes c.scopes e) (true_from (eval_name texts) [] true 0 t f (uses_captured texts t) (evals_are_told texts t))
