-- The exact tree of a renamed tree is the renamed exact tree.
use Rattle.std.proofs.Common.{ℕ, List, ◌≡◌, Bool, true, false, refl, ap, sym, ◌∙◌, if◌then◌else◌, map, Option, None, Some, option_to_list}
use Rattle.std.specs.List.{list_all}
use Rattle.std.specs.Option.{option_map}
use Rattle.bast_schema.specs.declared.kind.Kind.{Kind}
use Rattle.bast_schema.specs.NamesHold.{names_hold, names_hold_at, names_hold_in}
use Rattle.bast_schema.specs.Tree.{Tree, branch, Datum, child, absent, listed, flag, index, whole, name, no_name, choice, window, Data, none, more}
use Rattle.bast_schema.proofs.Both.{and_first, and_second}
use Rattle.scope_facts.specs.declared.roles.Part.{Part}
use Rattle.scope_facts.specs.declared.roles.Part.TheVariants.{Scope, Use, Call, Function, Other}
use Rattle.scope_facts.specs.declared.roles.Shape.{Shape}
use Rattle.scope_facts.specs.declared.roles.Shape.TheVariants as shape
use Rattle.scope_facts.specs.Roles.{part, shape_of}
use Rattle.scope_facts.specs.Uses.{is_scope, first_name, is_name, is_entry, has_entry, declares, is_use_named, is_use_of, used, used_at, used_in, used_among, crossed, crossed_at, crossed_in, crossed_among, is_use_of_text, is_eval, evals, evals_at, evals_in, evals_among}
use Rattle.scope_facts.specs.Names.{bound}
use Rattle.scope_facts.specs.Entries.{flags_by, is_simple}
use Rattle.scope_facts.specs.Filled.{filled_scope, filled, filled_at, filled_in, filled_among}
use Rattle.scope_facts.specs.Flagged.{with_flag, holds_of, entry_by, entries_by, fields_by, flagged_scope, flagged, flagged_at, flagged_in, flagged_among}
use Rattle.scope_facts.specs.Exact.{exact, eval_name}
use Rattle.scope_facts.specs.Renamed.{IsInjective, KeepsEval, is_eval_name, renamed, renamed_at, renamed_in}
use Rattle.scope_facts.proofs.NamesKept.{filled_names}
use Rattle.scope_facts.proofs.LikeNames.{first_name_like, bound_like, entries_like, is_simple_like}
use Rattle.scope_facts.proofs.Maps.{renaming, renamed_quiet, renamed_like, any_renamed}
use Rattle.scope_facts.proofs.LikeUses.{Open, crossed_like, evals_like}

pub is_scope_renamed : (r : ℕ → ℕ) (d : Datum) → is_scope (renamed_at r d) ≡ is_scope d
is_scope_renamed r (child (branch k ds)) = refl
is_scope_renamed r _ = refl

if_at : (r : ℕ → ℕ) (b : Bool) (d c : Datum) → (if b then renamed_at r d else renamed_at r c) ≡ renamed_at r (if b then d else c)
if_at r true d c = refl
if_at r false d c = refl

-- filled

flags_renamed : (r : ℕ → ℕ) (s : Shape) (b : Bool) → renamed_in r (flags_by s b) ≡ flags_by s b
flags_renamed r shape.Parameters b = refl
flags_renamed r _ b = refl

filled_scope_renamed : (r : ℕ → ℕ) → IsInjective r → (ns : List ℕ) (d : Datum) (after : Data) → filled_scope (map r ns) (renamed_at r d) (renamed_in r after) ≡ renamed_at r (filled_scope ns d after)
filled_scope_renamed r i ns (child (branch k ds)) after = rw (entries_like (renamed_quiet r (λ n. true)) i (shape_of k) ns (any_renamed r after), is_simple_like (any_renamed r after), flags_renamed r (shape_of k) (is_simple after)) refl
filled_scope_renamed r i ns _ after = refl

mutual
  pub filled_renamed : (r : ℕ → ℕ) → IsInjective r → (t : Tree) → filled (renamed r t) ≡ renamed r (filled t)
  filled_renamed r i (branch k ds) = rw (bound_like (any_renamed r ds), filled_in_renamed r i (bound ds) ds) refl

  pub filled_at_renamed : (r : ℕ → ℕ) → IsInjective r → (d : Datum) → filled_at (renamed_at r d) ≡ renamed_at r (filled_at d)
  filled_at_renamed r i (child t) = ap child (filled_renamed r i t)
  filled_at_renamed r i (listed ds) = ap listed (filled_among_renamed r i ds)
  filled_at_renamed r i _ = refl

  pub filled_in_renamed : (r : ℕ → ℕ) → IsInjective r → (ns : List ℕ) (ds : Data) → filled_in (map r ns) (renamed_in r ds) ≡ renamed_in r (filled_in ns ds)
  filled_in_renamed r i ns none = refl
  filled_in_renamed r i ns (more d ds) = rw (is_scope_renamed r d, filled_scope_renamed r i ns d ds, filled_at_renamed r i d, filled_in_renamed r i ns ds)
      (ap (λ x. more x (renamed_in r (filled_in ns ds))) (if_at r (is_scope d) (filled_scope ns d ds) (filled_at d)))

  pub filled_among_renamed : (r : ℕ → ℕ) → IsInjective r → (ds : Data) → filled_among (renamed_in r ds) ≡ renamed_in r (filled_among ds)
  filled_among_renamed r i none = refl
  filled_among_renamed r i (more d ds) = rw (filled_at_renamed r i d, filled_among_renamed r i ds) refl

pub renaming_open : (r : ℕ → ℕ) → IsInjective r → (p : ℕ → Bool) → Open (renaming r p)
renaming_open r i p = record { lazily = refl; inside = λ k ds es o. o; injective = i }

-- flagged

with_flag_renamed : (r : ℕ → ℕ) (b : Bool) (ds : Data) → with_flag b (renamed_in r ds) ≡ renamed_in r (with_flag b ds)
with_flag_renamed r b none = refl
with_flag_renamed r b (more (flag c) ds) = refl
with_flag_renamed r b (more d ds) = ap (more (renamed_at r d)) (with_flag_renamed r b ds)

holds_renamed : (r : ℕ → ℕ) (c b : ℕ → Bool) → ((n : ℕ) → b (r n) ≡ c n) → (o : Option ℕ) → holds_of b (option_map r o) ≡ holds_of c o
holds_renamed r c b h None = refl
holds_renamed r c b h (Some n) = h n

entry_renamed : (r : ℕ → ℕ) (c b : ℕ → Bool) → ((n : ℕ) → b (r n) ≡ c n) → (d : Datum) → entry_by b (renamed_at r d) ≡ renamed_at r (entry_by c d)
entry_renamed r c b h (child (branch k ds)) = rw (first_name_like (any_renamed r ds), holds_renamed r c b h (first_name ds), with_flag_renamed r (holds_of c (first_name ds)) ds) refl
entry_renamed r c b h _ = refl

entries_by_renamed : (r : ℕ → ℕ) (c b : ℕ → Bool) → ((n : ℕ) → b (r n) ≡ c n) → (es : Data) → entries_by b (renamed_in r es) ≡ renamed_in r (entries_by c es)
entries_by_renamed r c b h none = refl
entries_by_renamed r c b h (more d es) = rw (entry_renamed r c b h d, entries_by_renamed r c b h es) refl

fields_by_renamed : (r : ℕ → ℕ) (c b : ℕ → Bool) → ((n : ℕ) → b (r n) ≡ c n) → (v : Bool) (ds : Data) → fields_by b v (renamed_in r ds) ≡ renamed_in r (fields_by c v ds)
fields_by_renamed r c b h v none = refl
fields_by_renamed r c b h v (more (listed es) ds) = rw (entries_by_renamed r c b h es, with_flag_renamed r v ds) refl
fields_by_renamed r c b h v (more _ ds) = refl

flagged_scope_renamed : (r : ℕ → ℕ) → IsInjective r → (p : ℕ → Bool) (e f : Option ℕ) → KeepsEval r p e f → (d : Datum) (after : Data) → names_hold_in p after ≡ true → flagged_scope f (renamed_at r d) (renamed_in r after) ≡ renamed_at r (flagged_scope e d after)
flagged_scope_renamed r i p e f h (child (branch k ds)) after a = rw (evals_like (renaming_open r i p) e f h (renamed_like r p after a))
    (ap (λ x. child (branch k x)) (fields_by_renamed r (λ x. crossed_in x after) (λ x. crossed_in x (renamed_in r after)) (λ n. crossed_like (renaming_open r i p) n (renamed_like r p after a)) (evals_in e after) ds))
flagged_scope_renamed r i p e f h _ after a = refl

mutual
  pub flagged_renamed : (r : ℕ → ℕ) → IsInjective r → (p : ℕ → Bool) (e f : Option ℕ) → KeepsEval r p e f → (t : Tree) → names_hold p t ≡ true → flagged f (renamed r t) ≡ renamed r (flagged e t)
  flagged_renamed r i p e f h (branch k ds) a = ap (branch k) (flagged_in_renamed r i p e f h ds a)

  pub flagged_at_renamed : (r : ℕ → ℕ) → IsInjective r → (p : ℕ → Bool) (e f : Option ℕ) → KeepsEval r p e f → (d : Datum) → names_hold_at p d ≡ true → flagged_at f (renamed_at r d) ≡ renamed_at r (flagged_at e d)
  flagged_at_renamed r i p e f h (child t) a = ap child (flagged_renamed r i p e f h t a)
  flagged_at_renamed r i p e f h (listed ds) a = ap listed (flagged_among_renamed r i p e f h ds a)
  flagged_at_renamed r i p e f h _ a = refl

  pub flagged_in_renamed : (r : ℕ → ℕ) → IsInjective r → (p : ℕ → Bool) (e f : Option ℕ) → KeepsEval r p e f → (ds : Data) → names_hold_in p ds ≡ true → flagged_in f (renamed_in r ds) ≡ renamed_in r (flagged_in e ds)
  flagged_in_renamed r i p e f h none a = refl
  flagged_in_renamed r i p e f h (more d ds) a = rw (
    is_scope_renamed r d,
    flagged_scope_renamed r i p e f h d ds (and_second (names_hold_at p d) (names_hold_in p ds) a),
    flagged_at_renamed r i p e f h d (and_first (names_hold_at p d) (names_hold_in p ds) a),
    flagged_in_renamed r i p e f h ds (and_second (names_hold_at p d) (names_hold_in p ds) a),
  )
      (ap (λ x. more x (renamed_in r (flagged_in e ds))) (if_at r (is_scope d) (flagged_scope e d ds) (flagged_at e d)))

  pub flagged_among_renamed : (r : ℕ → ℕ) → IsInjective r → (p : ℕ → Bool) (e f : Option ℕ) → KeepsEval r p e f → (ds : Data) → names_hold_in p ds ≡ true → flagged_among f (renamed_in r ds) ≡ renamed_in r (flagged_among e ds)
  flagged_among_renamed r i p e f h none a = refl
  flagged_among_renamed r i p e f h (more d ds) a = rw (flagged_at_renamed r i p e f h d (and_first (names_hold_at p d) (names_hold_in p ds) a), flagged_among_renamed r i p e f h ds (and_second (names_hold_at p d) (names_hold_in p ds) a)) refl

pub exact_renamed : (r : ℕ → ℕ) → IsInjective r → (p : ℕ → Bool) (texts strings : List (Option (List ℕ))) → KeepsEval r p (eval_name texts) (eval_name strings) → (t : Tree) → names_hold p t ≡ true
    → exact strings (renamed r t) ≡ renamed r (exact texts t)
exact_renamed r i p texts strings h t a = ap (flagged (eval_name strings)) (filled_renamed r i t) ∙ flagged_renamed r i p (eval_name texts) (eval_name strings) h (filled t) (filled_names p t a)
