-- The maps of this crate, as changes of trees.
use Rattle.std.proofs.Common.{ℕ, List, Option, ◌≡◌, ◌≤◌, Bool, true, false, refl, ◌&&◌, not, if◌then◌else◌, arith}
use Rattle.std.specs.List.{list_all}
use Rattle.bast_schema.specs.declared.kind.Kind.{Kind}
use Rattle.bast_schema.specs.Counts.{size, size_at, size_in}
use Rattle.bast_schema.specs.NamesHold.{names_hold, names_hold_at, names_hold_in}
use Rattle.bast_schema.specs.Tree.{Tree, branch, Datum, child, listed, flag, name, Data, none, more}
use Rattle.bast_schema.proofs.Both.{and_first, and_second, both}
use Rattle.scope_facts.specs.declared.roles.Shape.{Shape}
use Rattle.scope_facts.specs.declared.roles.Shape.TheVariants as shape
use Rattle.scope_facts.specs.Roles.{part, is_scope_part, shape_of}
use Rattle.scope_facts.specs.Uses.{is_scope, first_name, crossed_in, evals_in}
use Rattle.scope_facts.specs.Names.{bound}
use Rattle.scope_facts.specs.Entries.{entries, flags}
use Rattle.scope_facts.specs.Bare.{empty_fields, bare_scope, bare, bare_at, bare_in}
use Rattle.scope_facts.specs.Filled.{filled_scope, filled, filled_at, filled_in, filled_among}
use Rattle.scope_facts.specs.Flagged.{with_flag, holds_of, entry_by, entries_by, fields_by, flagged_scope, flagged, flagged_at, flagged_in, flagged_among}
use Rattle.scope_facts.specs.Renamed.{renamed, renamed_at, renamed_in}
use Rattle.scope_facts.proofs.Clean.{only_entries, clean_scope, clean, clean_at, clean_in, clean_among}
use Rattle.scope_facts.proofs.Like.{Change, LikeAt, LikeIn, in_scope, in_node, in_list, a_name, a_flag, end, next, leaf_like}
use Rattle.scope_facts.proofs.LikeNames.{Quiet}

-- other numbers for names with a property

abbrev pub renaming : (ℕ → ℕ) → (ℕ → Bool) → Change
renaming r p = record { eagerly = false; holds = p; number = r; scopes = λ k ds es. ⊥; flags = λ b c. b ≡ c }

pub renamed_quiet : (r : ℕ → ℕ) (p : ℕ → Bool) → Quiet (renaming r p)
renamed_quiet r p = record { before = λ k ds es o. absurd o; after = λ k ds es o. absurd o }

mutual
  pub renamed_like_at : (r : ℕ → ℕ) (p : ℕ → Bool) (d : Datum) → names_hold_at p d ≡ true → LikeAt (renaming r p) d (renamed_at r d)
  renamed_like_at r p (child (branch k ds)) h = in_node k ds (renamed_in r ds) (renamed_like r p ds h)
  renamed_like_at r p (listed ds) h = in_list ds (renamed_in r ds) (renamed_like r p ds h)
  renamed_like_at r p (name n) h = a_name n h
  renamed_like_at r p (flag b) h = a_flag b b refl
  renamed_like_at r p d h = leaf_like d refl

  pub renamed_like : (r : ℕ → ℕ) (p : ℕ → Bool) (ds : Data) → names_hold_in p ds ≡ true → LikeIn (renaming r p) ds (renamed_in r ds)
  renamed_like r p none h = end
  renamed_like r p (more d ds) h = next d (renamed_at r d) ds (renamed_in r ds) (renamed_like_at r p d (and_first (names_hold_at p d) (names_hold_in p ds) h)) (renamed_like r p ds (and_second (names_hold_at p d) (names_hold_in p ds) h))

-- where any name will do

mutual
  pub any_names : (t : Tree) → names_hold (λ n. true) t ≡ true
  any_names (branch k ds) = any_names_in ds

  any_names_at : (d : Datum) → names_hold_at (λ n. true) d ≡ true
  any_names_at (child t) = any_names t
  any_names_at (listed ds) = any_names_in ds
  any_names_at _ = refl

  pub any_names_in : (ds : Data) → names_hold_in (λ n. true) ds ≡ true
  any_names_in none = refl
  any_names_in (more d ds) = both (names_hold_at (λ n. true) d) (names_hold_in (λ n. true) ds) (any_names_at d) (any_names_in ds)

pub any_renamed : (r : ℕ → ℕ) (ds : Data) → LikeIn (renaming r (λ n. true)) ds (renamed_in r ds)
any_renamed r ds = renamed_like r (λ n. true) ds (any_names_in ds)

-- scopes that say nothing

pub record Emptied (k : Kind) (ds es : Data) : Type 0 where
  pub before : only_entries ds ≡ true
  pub is : es ≡ empty_fields (shape_of k)

abbrev pub emptying : Change
emptying = record { eagerly = true; holds = λ n. true; number = λ n. n; scopes = Emptied; flags = λ b c. b ≡ c }

bare_field : (d : Datum) (b : Bool) → is_scope d ≡ b → (if b then clean_scope d else clean_at d) ≡ true → (clean_at d ≡ true → LikeAt emptying d (bare_at d)) → LikeAt emptying d (if b then bare_scope d else bare_at d)
bare_field (child (branch k ds)) true s h f = in_scope k ds (empty_fields (shape_of k)) s (record { before = h; is = refl })
bare_field _ true s h f = cc
bare_field d false s h f = f h

no_scope : (b p q : Bool) → not b ≡ true → q ≡ true → (if b then p else q) ≡ true
no_scope true p q n h = cc
no_scope false p q n h = h

among_clean : (ds : Data) → clean_among ds ≡ true → clean_in ds ≡ true
among_clean none h = refl
among_clean (more d ds) h = let g : (clean_at d && clean_among ds) ≡ true = and_second (not (is_scope d)) (clean_at d && clean_among ds) h
    in both (if is_scope d then clean_scope d else clean_at d) (clean_in ds) (no_scope (is_scope d) (clean_scope d) (clean_at d) (and_first (not (is_scope d)) (clean_at d && clean_among ds) h) (and_first (clean_at d) (clean_among ds) g))
    (among_clean ds (and_second (clean_at d) (clean_among ds) g))

mutual
  pub bare_like_at : (d : Datum) → clean_at d ≡ true → LikeAt emptying d (bare_at d)
  bare_like_at (child (branch k ds)) h = in_node k ds (bare_in ds) (bare_like ds h)
  bare_like_at (listed ds) h = in_list ds (bare_in ds) (bare_like ds (among_clean ds h))
  bare_like_at (name n) h = a_name n refl
  bare_like_at (flag b) h = a_flag b b refl
  bare_like_at d h = leaf_like d refl

  pub bare_like : (ds : Data) → clean_in ds ≡ true → LikeIn emptying ds (bare_in ds)
  bare_like none h = end
  bare_like (more d ds) h = next d (if is_scope d then bare_scope d else bare_at d) ds (bare_in ds)
      (bare_field d (is_scope d) refl (and_first (if is_scope d then clean_scope d else clean_at d) (clean_in ds) h) (bare_like_at d)) (bare_like ds (and_second (if is_scope d then clean_scope d else clean_at d) (clean_in ds) h))
