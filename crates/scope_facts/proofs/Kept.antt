-- Exact flags are what the uses and the direct evals below need.
use Rattle.std.proofs.Common.{ℕ, List, [], ◌≡◌, Bool, true, false, refl, ap, sym, ◌&&◌, ◌||◌, not, if◌then◌else◌, Option, None, Some, ◌∙◌}
use Rattle.bast_schema.specs.declared.kind.Kind.{Kind}
use Rattle.bast_schema.specs.Tree.{Tree, branch, Datum, child, absent, listed, flag, index, whole, name, no_name, choice, window, Data, none, more}
use Rattle.bast_schema.proofs.Both.{both}
use Rattle.scope_facts.specs.declared.roles.Part.{Part}
use Rattle.scope_facts.specs.declared.roles.Part.TheVariants.{Scope, Use, Call, Function, Other}
use Rattle.scope_facts.specs.Roles.{part, is_scope_part}
use Rattle.scope_facts.specs.Uses.{is_scope, is_use_named, is_use_of_text, is_eval, is_name, is_entry, has_entry, declares, first_name, used, used_at, used_in, used_among, crossed, crossed_at, crossed_in, crossed_among, evals, evals_at, evals_in, evals_among}
use Rattle.scope_facts.specs.Frames.{is_captured, kept, kept_at, kept_in, kept_among, kept_scope, kept_entry, kept_entries, needed, respects}
use Rattle.scope_facts.specs.Flagged.{with_flag, holds_of, entry_by, entries_by, fields_by, scope_by, flagged_scope, flagged, flagged_at, flagged_in, flagged_among}
use Rattle.scope_facts.specs.Filled.{filled}
use Rattle.scope_facts.specs.Exact.{exact, eval_name}
use Rattle.scope_facts.specs.Reading.{says_eval, evals_told, evals_told_at, evals_told_in, evals_told_among}
use Rattle.scope_facts.proofs.LikeUses.{Open, crossed_like, eval_like}
use Rattle.scope_facts.proofs.NamesKept.{flags_alone, only_flags}
use Rattle.scope_facts.proofs.Nearest.{or_left, or_right, uses_respect}

pub first_name_flag : (b : Bool) (ds : Data) → first_name (with_flag b ds) ≡ first_name ds
first_name_flag b none = refl
first_name_flag b (more (name n) ds) = refl
first_name_flag b (more (flag c) ds) = refl
first_name_flag b (more d ds) = first_name_flag b ds

pub is_flagged_scope : (e : Option ℕ) (d : Datum) (after : Data) → is_scope (flagged_scope e d after) ≡ is_scope d
is_flagged_scope e (child (branch k ds)) after = refl
is_flagged_scope e _ after = refl

pub is_flagged : (e : Option ℕ) (d : Datum) → is_scope (flagged_at e d) ≡ is_scope d
is_flagged e (child (branch k ds)) = refl
is_flagged e _ = refl

flags_open : Open flags_alone
flags_open = record { lazily = refl; inside = λ k ds es o. o; injective = λ n m. refl }

-- the uses below are as before

needed_same : (o : Option ℕ) (e : Option ℕ) (after : Data) → needed o (flagged_in e after) ≡ needed o after
needed_same None e after = refl
needed_same (Some n) e after = crossed_like flags_open n (only_flags e after)

or_not : (b : Bool) → (b || not b) ≡ true
or_not true = refl
or_not false = refl

captured_with : (b : Bool) (ds : Data) → (is_captured (with_flag b ds) || not b) ≡ true
captured_with b none = refl
captured_with b (more (flag c) ds) = or_not b
captured_with b (more d ds) = captured_with b ds

kept_entry_by : (e : Option ℕ) (d : Datum) (after : Data) → kept_entry (entry_by (λ x. crossed_in x after) d) (flagged_in e after) ≡ true
kept_entry_by e (child (branch k ds)) after = rw (first_name_flag (needed (first_name ds) after) ds, needed_same (first_name ds) e after) (captured_with (needed (first_name ds) after) ds)
kept_entry_by e _ after = refl

kept_entries_by : (e : Option ℕ) (es after : Data) → kept_entries (entries_by (λ x. crossed_in x after) es) (flagged_in e after) ≡ true
kept_entries_by e none after = refl
kept_entries_by e (more d es) after = rw (kept_entry_by e d after, kept_entries_by e es after) refl

kept_scope_flagged : (e : Option ℕ) (d : Datum) (after : Data) → kept_scope (flagged_scope e d after) (flagged_in e after) ≡ true
kept_scope_flagged e (child (branch k (more (listed es) ds))) after = kept_entries_by e es after
kept_scope_flagged e _ after = refl

kept_field : (e : Option ℕ) (d : Datum) (after : Data) (b v : Bool) → is_scope d ≡ b → kept_at (flagged_at e d) ≡ true → v ≡ true
    → ((if is_scope (if b then flagged_scope e d after else flagged_at e d) then kept_scope (if b then flagged_scope e d after else flagged_at e d) (flagged_in e after) else kept_at (if b then flagged_scope e d after else flagged_at e d)) && v) ≡ true
kept_field e d after true v is at rest = rw (is_flagged_scope e d after, is, kept_scope_flagged e d after, rest) refl
kept_field e d after false v is at rest = rw (is_flagged e d, is, at, rest) refl

mutual
  pub kept_flagged : (e : Option ℕ) (t : Tree) → kept (flagged e t) ≡ true
  kept_flagged e (branch k ds) = kept_flagged_in e ds

  pub kept_flagged_at : (e : Option ℕ) (d : Datum) → kept_at (flagged_at e d) ≡ true
  kept_flagged_at e (child t) = kept_flagged e t
  kept_flagged_at e (listed ds) = kept_flagged_among e ds
  kept_flagged_at e _ = refl

  pub kept_flagged_in : (e : Option ℕ) (ds : Data) → kept_in (flagged_in e ds) ≡ true
  kept_flagged_in e none = refl
  kept_flagged_in e (more d ds) = kept_field e d ds (is_scope d) (kept_in (flagged_in e ds)) refl (kept_flagged_at e d) (kept_flagged_in e ds)

  pub kept_flagged_among : (e : Option ℕ) (ds : Data) → kept_among (flagged_among e ds) ≡ true
  kept_flagged_among e none = refl
  kept_flagged_among e (more d ds) = rw (kept_flagged_at e d, kept_flagged_among e ds) refl

-- in an exact tree no use is without a captured entry that it needs
pub uses_captured : (texts : List (Option (List ℕ))) (t : Tree) → respects [] (exact texts t) ≡ true
uses_captured texts t = uses_respect (exact texts t) [] (kept_flagged (eval_name texts) (filled t)) (λ x u. refl) (λ x c. refl)

-- direct evals

says_with : (b : Bool) (ds : Data) → b ≡ true → is_captured (with_flag b ds) ≡ true
says_with b none h = refl
says_with b (more (flag c) ds) h = h
says_with b (more d ds) h = says_with b ds h

says_flagged : (e : Option ℕ) (d : Datum) (after : Data) → evals_in e after ≡ true → says_eval (flagged_scope e d after) ≡ true
says_flagged e (child (branch k (more (listed es) ds))) after h = says_with (evals_in e after) ds h
says_flagged e _ after h = refl

told_here : (a b : Bool) → (a ≡ true → b ≡ true) → (not a || b) ≡ true
told_here true b h = h refl
told_here false b h = refl

told_field : (e : Option ℕ) (b s : Bool) (d : Datum) (ds : Data) → is_scope d ≡ s
    → ((c : Bool) → (evals_in e ds ≡ true → c ≡ true) → evals_told_in e c (flagged_in e ds) ≡ true)
    → ((evals_at e d ≡ true → b ≡ true) → evals_told_at e b (flagged_at e d) ≡ true)
    → ((if s then evals_in e ds else evals_at e d || evals_in e ds) ≡ true → b ≡ true)
    → (if is_scope (if s then flagged_scope e d ds else flagged_at e d) then evals_told_in e (b && says_eval (if s then flagged_scope e d ds else flagged_at e d)) (flagged_in e ds)
    else evals_told_at e b (if s then flagged_scope e d ds else flagged_at e d) && evals_told_in e b (flagged_in e ds)) ≡ true
told_field e b true d ds is ih at h = rw (is_flagged_scope e d ds, is) (ih (b && says_eval (flagged_scope e d ds)) (λ v. both b (says_eval (flagged_scope e d ds)) (h v) (says_flagged e d ds v)))
told_field e b false d ds is ih at h = rw (is_flagged e d, is) (both (evals_told_at e b (flagged_at e d)) (evals_told_in e b (flagged_in e ds)) (at (λ v. h (or_left (evals_at e d) (evals_in e ds) v))) (ih b (λ v. h (or_right (evals_at e d) (evals_in e ds) v))))

mutual
  pub told : (e : Option ℕ) (t : Tree) (b : Bool) → (evals e t ≡ true → b ≡ true) → evals_told e b (flagged e t) ≡ true
  told e (branch k ds) b h = both (not (is_eval e (part k) (flagged_in e ds)) || b) (evals_told_in e b (flagged_in e ds))
      (ap (λ v. not v || b) (eval_like flags_open e e (λ n h. refl) (part k) (only_flags e ds)) ∙ told_here (is_eval e (part k) ds) b (λ v. h (or_left (is_eval e (part k) ds) (evals_in e ds) v)))
      (told_in e ds b (λ v. h (or_right (is_eval e (part k) ds) (evals_in e ds) v)))

  pub told_at : (e : Option ℕ) (d : Datum) (b : Bool) → (evals_at e d ≡ true → b ≡ true) → evals_told_at e b (flagged_at e d) ≡ true
  told_at e (child t) b h = told e t b h
  told_at e (listed ds) b h = told_among e ds b h
  told_at e _ b h = refl

  pub told_in : (e : Option ℕ) (ds : Data) (b : Bool) → (evals_in e ds ≡ true → b ≡ true) → evals_told_in e b (flagged_in e ds) ≡ true
  told_in e none b h = refl
  told_in e (more d ds) b h = told_field e b (is_scope d) d ds refl (told_in e ds) (told_at e d b) h

  pub told_among : (e : Option ℕ) (ds : Data) (b : Bool) → (evals_among e ds ≡ true → b ≡ true) → evals_told_among e b (flagged_among e ds) ≡ true
  told_among e none b h = refl
  told_among e (more d ds) b h = both (evals_told_at e b (flagged_at e d)) (evals_told_among e b (flagged_among e ds))
      (told_at e d b (λ v. h (or_left (evals_at e d) (evals_among e ds) v)))
      (told_among e ds b (λ v. h (or_right (evals_at e d) (evals_among e ds) v)))

pub evals_are_told : (texts : List (Option (List ℕ))) (t : Tree) → evals_told (eval_name texts) true (exact texts t) ≡ true
evals_are_told texts t = told (eval_name texts) (filled t) true (λ v. refl)
