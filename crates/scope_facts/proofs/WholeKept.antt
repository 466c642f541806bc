-- Exact scopes bring no window and no lazy function.
use Rattle.std.proofs.Common.{ℕ, List, ◌≡◌, Bool, true, refl, not, Option}
use Rattle.bast_schema.specs.Fields.{has_lazy}
use Rattle.bast_schema.specs.Eager.{is_eager, is_eager_at, are_eager}
use Rattle.bast_schema.specs.Counts.{size_in, is_whole, is_whole_at, is_whole_in}
use Rattle.bast_schema.specs.Tree.{Tree, child}
use Rattle.scope_facts.specs.declared.roles.Shape.{Shape}
use Rattle.scope_facts.specs.declared.roles.Shape.TheVariants as shape
use Rattle.scope_facts.specs.Roles.{shape_of}
use Rattle.scope_facts.specs.Entries.{flags_by, is_simple}
use Rattle.scope_facts.specs.Filled.{filled}
use Rattle.scope_facts.specs.Exact.{exact, eval_name}
use Rattle.scope_facts.proofs.NamesKept.{Test, Entered, all_entered, filling, any_filled, any_flagged, Passes, passes_at, flags_pass}

-- a test that entries and flags pass
record Passed (q : Test) : Type 0 where
  entries : (n : ℕ) → Entered n (λ m. true) (λ s es. q.in_all es ≡ true)
  flags : (s : Shape) (b : Bool) → q.in_all (flags_by s b) ≡ true

exact_passes : (q : Test) → Passed q → (texts : List (Option (List ℕ))) (t : Tree) → q.at (child t) ≡ true → q.at (child (exact texts t)) ≡ true
exact_passes q p texts t h = passes_at {q = q} (flags_pass q) (any_flagged (eval_name texts) (filled t)) (passes_at {q = q} (record {
  lazily = refl;
  same = λ n. refl;
  scopes = λ k ds es o g. rw (o.is, q.first, q.list, all_entered o.behind (p.entries (size_in o.behind)) (shape_of k) o.names, p.flags (shape_of k) (is_simple o.behind)) refl;
}) (any_filled t) h)

abbrev whole_test : Test
whole_test = record { at = is_whole_at; in_all = is_whole_in; kind = λ k. true; nothing = refl; first = λ d ds. refl; node = λ k ds. refl; list = λ ds. refl; flags = λ b c. refl }

flags_whole : (s : Shape) (b : Bool) → is_whole_in (flags_by s b) ≡ true
flags_whole shape.Parameters b = refl
flags_whole _ b = refl

pub exact_whole : (texts : List (Option (List ℕ))) (t : Tree) → is_whole t ≡ true → is_whole (exact texts t) ≡ true
exact_whole = exact_passes whole_test (record {
  entries = λ n. record { nothing = λ s. refl; statement = λ a es q h. h; lexical = λ a es q h. h; bound = λ m es q h. h; rest = λ m es q h. h; positional = λ i m es l q h. h };
  flags = flags_whole;
})

abbrev eager_test : Test
eager_test = record { at = is_eager_at; in_all = are_eager; kind = λ k. not (has_lazy k); nothing = refl; first = λ d ds. refl; node = λ k ds. refl; list = λ ds. refl; flags = λ b c. refl }

flags_eager : (s : Shape) (b : Bool) → are_eager (flags_by s b) ≡ true
flags_eager shape.Parameters b = refl
flags_eager _ b = refl

pub exact_eager : (texts : List (Option (List ℕ))) (t : Tree) → is_eager t ≡ true → is_eager (exact texts t) ≡ true
exact_eager = exact_passes eager_test (record {
  entries = λ n. record { nothing = λ s. refl; statement = λ a es q h. h; lexical = λ a es q h. h; bound = λ m es q h. h; rest = λ m es q h. h; positional = λ i m es l q h. h };
  flags = flags_eager;
})
