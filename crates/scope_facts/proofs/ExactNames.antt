-- What a clean tree declares is what it declares with exact scopes, and without any.
use Rattle.std.proofs.Common.{ℕ, List, [], ◌∷◌, ◌≡◌, Bool, true, false, refl, ap, sym, ◌∙◌, ◌&&◌, not, if◌then◌else◌, Option, map, subst}
use Rattle.bast_schema.specs.declared.kind.Kind.{Kind}
use Rattle.bast_schema.specs.Counts.{size_in}
use Rattle.bast_schema.specs.Tree.{Tree, branch, Datum, child, listed, flag, name, Data, none, more, typed}
use Rattle.bast_schema.proofs.Both.{and_first, and_second, both}
use Rattle.scope_facts.specs.declared.names.Declared.{Declared}
use Rattle.scope_facts.specs.declared.roles.Shape.{Shape}
use Rattle.scope_facts.specs.declared.roles.Shape.TheVariants as shape
use Rattle.scope_facts.specs.Roles.{part, is_scope_part, shape_of}
use Rattle.scope_facts.specs.Uses.{is_scope, crossed_in, evals_in}
use Rattle.scope_facts.specs.Bare.{empty_fields, bare_in}
use Rattle.scope_facts.specs.Entries.{entries, flags_by, is_simple}
use Rattle.scope_facts.specs.Exact.{exact, eval_name}
use Rattle.scope_facts.specs.Filled.{filled_scope, filled, filled_at, filled_in, filled_among}
use Rattle.scope_facts.specs.Flagged.{with_flag, entries_by, fields_by, flagged_scope, flagged, flagged_at, flagged_in, flagged_among}
use Rattle.scope_facts.specs.Laws.{SameNames}
use Rattle.scope_facts.specs.Names.{bound, vars, lexicals, tops}
use Rattle.scope_facts.specs.Renamed.{IsInjective, renamed_at, renamed_in}
use Rattle.scope_facts.proofs.Clean.{are_entries, only_entries, clean_scope, clean, clean_at, clean_in, clean_among, typed_clean, not_true}
use Rattle.scope_facts.proofs.Like.{Change, LikeAt, in_scope, in_node, in_list, a_name, a_flag, LikeIn, end, next, leaf_like}
use Rattle.scope_facts.proofs.LikeNames.{Quiet, renamed_declared, bound_like, vars_at_like, lexicals_at_like, tops_at_like, entries_like, is_simple_like}
use Rattle.scope_facts.proofs.Maps.{Emptied, emptying, bare_like}
use Rattle.scope_facts.proofs.NamesKept.{Entered, all_entered}

-- a map that changes what stands in scopes, where nothing but entries was and is

pub record Entries (k : Kind) (ds es : Data) : Type 0 where
  pub before : only_entries ds ≡ true
  pub after : only_entries es ≡ true

abbrev pub exacting : Change
exacting = record { eagerly = false; holds = λ n. true; number = λ n. n; scopes = Entries; flags = λ b c. b ≡ c }

pub exact_quiet : Quiet exacting
exact_quiet = record { before = λ k ds es o. o.before; after = λ k ds es o. o.after }

empty_only : (s : Shape) → only_entries (empty_fields s) ≡ true
empty_only shape.Parameters = refl
empty_only _ = refl

pub bare_quiet : Quiet emptying
bare_quiet = record { before = λ k ds es o. o.before; after = λ k ds es o. rw o.is (empty_only (shape_of k)) }

are_entered : (c : ℕ → Bool) (n : ℕ) → Entered n (λ m. true) (λ s es. are_entries (entries_by c es) ≡ true)
are_entered c n = record { nothing = λ s. refl; statement = λ a es q h. h; lexical = λ a es q h. h; bound = λ m es q h. h; rest = λ m es q h. h; positional = λ i m es l q h. h }

flags_are : (b : Bool) (s : Shape) (simple : Bool) → only_entries (with_flag b (flags_by s simple)) ≡ true
flags_are b shape.Parameters simple = refl
flags_are b _ simple = refl

pub is_filled_scope : (names : List ℕ) (d : Datum) (after : Data) → is_scope (filled_scope names d after) ≡ is_scope d
is_filled_scope names (child (branch k ds)) after = refl
is_filled_scope names _ after = refl

pub is_filled : (d : Datum) → is_scope (filled_at d) ≡ is_scope d
is_filled (child (branch k ds)) = refl
is_filled _ = refl

exact_field : (e : Option ℕ) (ns : List ℕ) (d : Datum) (ds behind : Data) (b : Bool) → is_scope d ≡ b → (if b then clean_scope d else clean_at d) ≡ true → (clean_at d ≡ true → LikeAt exacting d (flagged_at e (filled_at d)))
    → LikeAt exacting d (if is_scope (if b then filled_scope ns d ds else filled_at d) then flagged_scope e (if b then filled_scope ns d ds else filled_at d) behind else flagged_at e (if b then filled_scope ns d ds else filled_at d))
exact_field e ns (child (branch k fs)) ds behind true s h f = rw s (in_scope k fs (fields_by (λ x. crossed_in x behind) (evals_in e behind) (more (listed (entries (shape_of k) ns ds)) (flags_by (shape_of k) (is_simple ds)))) s (record {
  before = h;
  after = rw (all_entered ds (are_entered (λ x. crossed_in x behind) (size_in ds)) (shape_of k) ns, flags_are (evals_in e behind) (shape_of k) (is_simple ds)) refl;
}))
exact_field e ns _ ds behind true s h f = cc
exact_field e ns d ds behind false s h f = rw (is_filled d, s) (f h)

mutual
  pub exact_like_at : (e : Option ℕ) (d : Datum) → clean_at d ≡ true → LikeAt exacting d (flagged_at e (filled_at d))
  exact_like_at e (child (branch k ds)) h = in_node k ds (flagged_in e (filled_in (bound ds) ds)) (exact_like e (bound ds) ds h)
  exact_like_at e (listed ds) h = in_list ds (flagged_among e (filled_among ds)) (exact_like_among e ds h)
  exact_like_at e (name n) h = a_name n refl
  exact_like_at e (flag b) h = a_flag b b refl
  exact_like_at e d h = leaf_like d refl

  pub exact_like : (e : Option ℕ) (ns : List ℕ) (ds : Data) → clean_in ds ≡ true → LikeIn exacting ds (flagged_in e (filled_in ns ds))
  exact_like e ns none h = end
  exact_like e ns (more d ds) h = next d _ ds (flagged_in e (filled_in ns ds)) (exact_field e ns d ds (filled_in ns ds) (is_scope d) refl (and_first (if is_scope d then clean_scope d else clean_at d) (clean_in ds) h) (exact_like_at e d))
      (exact_like e ns ds (and_second (if is_scope d then clean_scope d else clean_at d) (clean_in ds) h))

  exact_like_among : (e : Option ℕ) (ds : Data) → clean_among ds ≡ true → LikeIn exacting ds (flagged_among e (filled_among ds))
  exact_like_among e none h = end
  exact_like_among e (more d ds) h = let g : (clean_at d && clean_among ds) ≡ true = and_second (not (is_scope d)) (clean_at d && clean_among ds) h
      in next d (flagged_at e (filled_at d)) ds (flagged_among e (filled_among ds)) (exact_like_at e d (and_first (clean_at d) (clean_among ds) g)) (exact_like_among e ds (and_second (clean_at d) (clean_among ds) g))

-- where no number changes

pub map_same : {X : Type 0} (f : X → X) → ((x : X) → f x ≡ x) → (xs : List X) → map f xs ≡ xs
map_same f h [] = refl
map_same f h (x ∷ xs) = rw (h x, map_same f h xs) refl

pub declared_same : (xs : List Declared) → map (renamed_declared (λ n. n)) xs ≡ xs
declared_same = map_same (renamed_declared (λ n. n)) (λ a. refl)

mutual
  renamed_same_at : (d : Datum) → renamed_at (λ n. n) d ≡ d
  renamed_same_at (child (branch k ds)) = ap (λ es. child (branch k es)) (renamed_same ds)
  renamed_same_at (listed ds) = ap listed (renamed_same ds)
  renamed_same_at _ = refl

  renamed_same : (ds : Data) → renamed_in (λ n. n) ds ≡ ds
  renamed_same none = refl
  renamed_same (more d ds) = rw (renamed_same_at d, renamed_same ds) refl

pub same_names : (ns : List ℕ) → map (λ n. n) ns ≡ ns
same_names = map_same (λ n. n) (λ n. refl)

-- the entries of a scope before values, where no number changes
entries_same : {m : Change} → Quiet m → m.number ≡ (λ n. n) → (s : Shape) (ns : List ℕ) {ds es : Data} → LikeIn m ds es → entries s ns es ≡ entries s ns ds
entries_same {m} q e s ns {ds = ds} {es = es} l =
    ap (λ ms. entries s ms es) (sym (same_names ns) ∙ ap (λ r. map r ns) (sym e))
    ∙ entries_like q (subst (λ r. IsInjective r) (sym e) (λ a b. refl)) s ns l
    ∙ ap (λ r. renamed_in r (entries s ns ds)) e ∙ renamed_same (entries s ns ds)

pub bound_exact : (e : Option ℕ) (names : List ℕ) (ds : Data) → clean_in ds ≡ true → bound (flagged_in e (filled_in names ds)) ≡ bound ds
bound_exact e names ds h = bound_like (exact_like e names ds h) ∙ same_names (bound ds)

pub bound_bare : (ds : Data) → clean_in ds ≡ true → bound (bare_in ds) ≡ bound ds
bound_bare ds h = bound_like (bare_like ds h) ∙ same_names (bound ds)

-- the entries and the flag of simple parameters that a scope before these values has to have
pub entries_exact : (s : Shape) (bounds : List ℕ) (e : Option ℕ) (names : List ℕ) (ds : Data) → clean_in ds ≡ true → entries s bounds (flagged_in e (filled_in names ds)) ≡ entries s bounds ds
entries_exact s bounds e names ds h = entries_same exact_quiet refl s bounds (exact_like e names ds h)

pub entries_bare : (s : Shape) (names : List ℕ) (ds : Data) → clean_in ds ≡ true → entries s names (bare_in ds) ≡ entries s names ds
entries_bare s names ds h = entries_same bare_quiet refl s names (bare_like ds h)

pub is_simple_exact : (e : Option ℕ) (names : List ℕ) (ds : Data) → clean_in ds ≡ true → is_simple (flagged_in e (filled_in names ds)) ≡ is_simple ds
is_simple_exact e names ds h = is_simple_like (exact_like e names ds h)

pub scopes_declare_nothing : (texts : List (Option (List ℕ))) (t : Tree) → typed t ≡ true → SameNames (exact texts t) t
scopes_declare_nothing texts t h =
    let l : LikeAt exacting (child t) (child (exact texts t)) = exact_like_at (eval_name texts) (child t) (typed_clean t h)
    in record {
      vars = vars_at_like exact_quiet l ∙ same_names (vars t);
      lexicals = lexicals_at_like exact_quiet l ∙ declared_same (lexicals t);
      tops = tops_at_like exact_quiet l ∙ declared_same (tops t);
    }
