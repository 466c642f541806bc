-- The bare tree does not see entries and flags.
use Rattle.std.proofs.Common.{ℕ, List, ◌≡◌, Bool, true, false, refl, ap, if◌then◌else◌, ◌∙◌, Option}
use Rattle.bast_schema.specs.declared.kind.Kind.{Kind}
use Rattle.bast_schema.specs.Tree.{Tree, branch, Datum, child, listed, flag, name, Data, none, more}
use Rattle.scope_facts.specs.Roles.{part, is_scope_part, shape_of}
use Rattle.scope_facts.specs.Uses.{is_scope}
use Rattle.scope_facts.specs.Names.{bound}
use Rattle.scope_facts.specs.Filled.{filled, filled_in}
use Rattle.scope_facts.specs.Flagged.{flagged, flagged_in, fields_by}
use Rattle.scope_facts.specs.Exact.{exact, eval_name}
use Rattle.scope_facts.specs.Bare.{eager, empty_fields, bare_scope, bare, bare_at, bare_in}
use Rattle.scope_facts.proofs.Like.{Change, LikeAt, in_scope, in_node, in_list, a_name, a_flag, LikeIn, end, next}
use Rattle.scope_facts.proofs.NamesKept.{le_self, any_filled_in, flagging, flagged_like}
use Rattle.bast_schema.specs.Counts.{size_in}

-- a map that changes scopes alone
record Aside (m : Change) : Type 0 where
  lazily : m.eagerly ≡ false
  same : (n : ℕ) → m.number n ≡ n
  flags : (b c : Bool) → m.flags b c → b ≡ c

node_same : (b : Bool) (k : Kind) (ds es : Data) → bare_in es ≡ bare_in ds
    → (if b then child (branch k (empty_fields (shape_of k))) else child (branch (eager k) (bare_in es))) ≡ (if b then child (branch k (empty_fields (shape_of k))) else child (branch (eager k) (bare_in ds)))
node_same b k ds es h = rw h refl

scope_same : (b : Bool) (k : Kind) (ds es : Data) → b ≡ true
    → (if b then child (branch k (empty_fields (shape_of k))) else child (branch (eager k) (bare_in es))) ≡ (if b then child (branch k (empty_fields (shape_of k))) else child (branch (eager k) (bare_in ds)))
scope_same b k ds es h = rw h refl

mutual
  same_at : {m : Change} → Aside m → {c d : Datum} → LikeAt m c d → (if is_scope d then bare_scope d else bare_at d) ≡ (if is_scope c then bare_scope c else bare_at c)
  same_at p (in_scope k ds es s o) = scope_same (is_scope_part (part k)) k ds es s
  same_at p (in_node k ds es l) = rw p.lazily (node_same (is_scope_part (part k)) k ds es (same_in p l))
  same_at p (in_list ds es l) = ap listed (same_in p l)
  same_at p (a_name n h) = ap name (p.same n)
  same_at p (a_flag b c h) = rw (p.flags b c h) refl
  same_at p _ = refl

  same_in : {m : Change} → Aside m → {ds es : Data} → LikeIn m ds es → bare_in es ≡ bare_in ds
  same_in p end = refl
  same_in p (next c d cs ds h l) = rw (same_at p h, same_in p l) refl

filled_same_in : (ns : List ℕ) (ds : Data) → bare_in (filled_in ns ds) ≡ bare_in ds
filled_same_in ns ds = same_in (record { lazily = refl; same = λ n. refl; flags = λ b c e. e }) (any_filled_in ns ds (size_in ds) (le_self (size_in ds)))

flagged_same_in : (e : Option ℕ) (ds : Data) → bare_in (flagged_in e ds) ≡ bare_in ds
flagged_same_in e ds = same_in (record { lazily = refl; same = λ n. refl; flags = λ b c q. q }) (flagged_like (λ k ds es. Unit) (λ b c. b ≡ c) (λ k fs c b s. in_scope k fs (fields_by c b fs) s tt) (λ b. refl) e ds)

pub bare_of_exact : (texts : List (Option (List ℕ))) (t : Tree) → bare (exact texts t) ≡ bare t
bare_of_exact texts (branch k ds) = ap (branch (eager k)) (flagged_same_in (eval_name texts) (filled_in (bound ds) ds) ∙ filled_same_in (bound ds) ds)
