-- The exact scopes of a well-typed tree don't depend on the scopes that it has.
use Rattle.std.proofs.Common.{ℕ, List, Option, [], ◌∷◌, ◌≡◌, Bool, true, false, refl, ap, ◌∙◌, ◌&&◌, not, if◌then◌else◌}
use Rattle.bast_schema.specs.declared.kind.Kind.{Kind}
use Rattle.bast_schema.specs.declared.kind.Kind.TheVariants.{LazyFunctionDeclaration, LazyMethod, LazyGetter, LazySetter, LazyFunctionExpression}
use Rattle.bast_schema.specs.Eager.{is_eager, is_eager_at, are_eager}
use Rattle.bast_schema.specs.Fields.{has_lazy}
use Rattle.bast_schema.specs.Tree.{Tree, branch, Datum, child, listed, Data, none, more, typed}
use Rattle.bast_schema.proofs.Both.{and_first, and_second}
use Rattle.scope_facts.specs.Roles.{part, is_scope_part, shape_of}
use Rattle.scope_facts.specs.Uses.{is_scope}
use Rattle.scope_facts.specs.Names.{bound}
use Rattle.scope_facts.specs.Bare.{eager, bare_scope, bare, bare_at, bare_in}
use Rattle.scope_facts.specs.Filled.{filled_scope, filled, filled_at, filled_in, filled_among}
use Rattle.scope_facts.specs.Flagged.{flagged}
use Rattle.scope_facts.specs.Exact.{exact, eval_name}
use Rattle.scope_facts.proofs.Clean.{clean_scope, clean, clean_at, clean_in, clean_among, typed_clean, not_true}
use Rattle.scope_facts.proofs.LikeNames.{is_simple_like}
use Rattle.scope_facts.proofs.Maps.{bare_like}
use Rattle.scope_facts.proofs.ExactNames.{bound_bare, entries_bare}

pub eager_is : (k : Kind) → not (has_lazy k) ≡ true → eager k ≡ k
eager_is LazyFunctionDeclaration h = cc
eager_is LazyMethod h = cc
eager_is LazyGetter h = cc
eager_is LazySetter h = cc
eager_is LazyFunctionExpression h = cc
eager_is _ h = refl

not_scope_bare : (d : Datum) → is_eager_at d ≡ true → is_scope d ≡ false → is_scope (bare_at d) ≡ false
not_scope_bare (child (branch k ds)) e s = ap (λ j. is_scope_part (part j)) (eager_is k (and_first (not (has_lazy k)) (are_eager ds) e)) ∙ s
not_scope_bare _ e s = s

field_of_bare : (ns : List ℕ) (d : Datum) (after : Data) (b : Bool) → is_scope d ≡ b → is_eager_at d ≡ true → (if b then clean_scope d else clean_at d) ≡ true → clean_in after ≡ true → (clean_at d ≡ true → filled_at (bare_at d) ≡ filled_at d)
    → (if is_scope (if b then bare_scope d else bare_at d) then filled_scope ns (if b then bare_scope d else bare_at d) (bare_in after) else filled_at (if b then bare_scope d else bare_at d))
    ≡ (if b then filled_scope ns d after else filled_at d)
field_of_bare ns (child (branch k ds)) after true s e c h g = rw (s, entries_bare (shape_of k) ns after h, is_simple_like (bare_like after h)) refl
field_of_bare ns _ after true s e c h g = cc
field_of_bare ns d after false s e c h g = rw (not_scope_bare d e s) (g c)

mutual
  filled_of_bare : (t : Tree) → clean t ≡ true → is_eager t ≡ true → filled (bare t) ≡ filled t
  filled_of_bare (branch k ds) c e = rw (eager_is k (and_first (not (has_lazy k)) (are_eager ds) e), bound_bare ds c) (ap (branch k) (filled_of_bare_in (bound ds) ds c (and_second (not (has_lazy k)) (are_eager ds) e)))

  filled_of_bare_at : (d : Datum) → clean_at d ≡ true → is_eager_at d ≡ true → filled_at (bare_at d) ≡ filled_at d
  filled_of_bare_at (child u) c e = ap child (filled_of_bare u c e)
  filled_of_bare_at (listed ds) c e = ap listed (filled_of_bare_among ds c e)
  filled_of_bare_at _ c e = refl

  filled_of_bare_in : (ns : List ℕ) (ds : Data) → clean_in ds ≡ true → are_eager ds ≡ true → filled_in ns (bare_in ds) ≡ filled_in ns ds
  filled_of_bare_in ns none c e = refl
  filled_of_bare_in ns (more d ds) c e =
      let f : is_eager_at d ≡ true = and_first (is_eager_at d) (are_eager ds) e
      in let h : clean_in ds ≡ true = and_second (if is_scope d then clean_scope d else clean_at d) (clean_in ds) c
      in rw (
        field_of_bare ns d ds (is_scope d) refl f (and_first (if is_scope d then clean_scope d else clean_at d) (clean_in ds) c) h (λ g. filled_of_bare_at d g f),
        filled_of_bare_in ns ds h (and_second (is_eager_at d) (are_eager ds) e),
      ) refl

  filled_of_bare_among : (ds : Data) → clean_among ds ≡ true → are_eager ds ≡ true → filled_among (bare_in ds) ≡ filled_among ds
  filled_of_bare_among none c e = refl
  filled_of_bare_among (more d ds) c e =
      let g : (clean_at d && clean_among ds) ≡ true = and_second (not (is_scope d)) (clean_at d && clean_among ds) c
      in rw (
        not_true (is_scope d) (and_first (not (is_scope d)) (clean_at d && clean_among ds) c),
        filled_of_bare_at d (and_first (clean_at d) (clean_among ds) g) (and_first (is_eager_at d) (are_eager ds) e),
        filled_of_bare_among ds (and_second (clean_at d) (clean_among ds) g) (and_second (is_eager_at d) (are_eager ds) e),
      ) refl

pub exact_of_bare : (texts : List (Option (List ℕ))) (t : Tree) → typed t ≡ true → is_eager t ≡ true → exact texts (bare t) ≡ exact texts t
exact_of_bare texts t f e = ap (flagged (eval_name texts)) (filled_of_bare t (typed_clean t f) e)
