-- A well-typed node with a scope of a bound name binds at most one, and parameters have at most one rest.
use Rattle.std.proofs.Common.{ℕ, List, [], ◌∷◌, ◌++◌, ◌+◌, ◌≤◌, ◌≡◌, Bool, true, false, refl, ◌||◌, not, if◌then◌else◌, nat_lt, length, Option, None, Some, option_to_list, arith}
use Rattle.std.proofs.lemmas.Bool.Decides.{nat_tests}
use Rattle.bast_schema.specs.declared.kind.Kind.{Kind}
use Rattle.bast_schema.specs.declared.kind.Kind.TheVariants.{Null, BindingIdentifier, FormalParameters, AssertedBoundNamesScope}
use Rattle.bast_schema.specs.declared.kind.Union.TheVariants.{Parameter, One}
use Rattle.bast_schema.specs.declared.kind.FieldType.{FieldType}
use Rattle.bast_schema.specs.declared.kind.FieldType.TheVariants as field
use Rattle.bast_schema.specs.Fields.{fields}
use Rattle.bast_schema.specs.Unions.{allowed}
use Rattle.bast_schema.specs.Tree.{Tree, branch, Datum, child, Data, none, more, typed, fits, fit, kind_of}
use Rattle.bast_schema.proofs.Both.{and_first, and_second}
use Rattle.scope_facts.specs.declared.roles.Shape.TheVariants as shape
use Rattle.scope_facts.specs.Roles.{form, shape_of}
use Rattle.scope_facts.specs.Names.{bound_at, bound}
use Rattle.scope_facts.proofs.Clean.{child_typed}
use Rattle.scope_check.proofs.Apart.{at_most_one, one_rest, one_rest_first}

-- whether a field of the type may hold a node of the kind
abbrev pub takes : Kind → FieldType → Bool
takes k (field.Node u) = allowed u k
takes k (field.Optional u) = allowed u k
takes k (field.Lazy u) = allowed u k
takes k _ = false

taken : (t : FieldType) (u : Tree) → fits t (child u) ≡ true → takes (kind_of u) t ≡ true
taken (field.Node v) u f = and_first (allowed v (kind_of u)) (typed u) f
taken (field.Optional v) u f = and_first (allowed v (kind_of u)) (typed u) f
taken (field.Lazy v) u f = and_first (allowed v (kind_of u)) (typed u) f
taken _ u f = cc

-- how many fields may hold a binding
abbrev pub bindings : List FieldType → ℕ
bindings [] = 0
bindings (t ∷ ts) = (if takes BindingIdentifier t then 1 else 0) + bindings ts

not_taken : (b : Bool) (o : Option ℕ) → b ≡ true → b ≡ false → o ≡ None
not_taken true o e f = cc
not_taken false o e f = cc

nothing_bound : (t : FieldType) (d : Datum) → fits t d ≡ true → takes BindingIdentifier t ≡ false → bound_at d ≡ None
nothing_bound t (child (branch BindingIdentifier ds)) f n = not_taken (takes BindingIdentifier t) (bound_at (child (branch BindingIdentifier ds))) (taken t (branch BindingIdentifier ds) f) n
nothing_bound t (child (branch _ ds)) f n = refl
nothing_bound t _ f n = refl

one_more : (o : Option ℕ) (ns : List ℕ) (n : ℕ) → length ns ≤ n → length (option_to_list o ++ ns) ≤ 1 + n
one_more None ns n h = omega arith
one_more (Some x) ns n h = omega arith

no_more : (o : Option ℕ) (ns : List ℕ) (n : ℕ) → o ≡ None → length ns ≤ n → length (option_to_list o ++ ns) ≤ 0 + n
no_more None ns n e h = omega arith
no_more (Some x) ns n e h = cc

bound_step : (b : Bool) (t : FieldType) (d : Datum) (ns : List ℕ) (n : ℕ) → takes BindingIdentifier t ≡ b → fits t d ≡ true → length ns ≤ n → length (option_to_list (bound_at d) ++ ns) ≤ (if b then 1 else 0) + n
bound_step true t d ns n e f h = one_more (bound_at d) ns n h
bound_step false t d ns n e f h = no_more (bound_at d) ns n (nothing_bound t d f e) h

none_bound : (ts : List FieldType) → length (bound none) ≤ bindings ts
none_bound ts = omega arith

bound_most : (ts : List FieldType) (ds : Data) → fit ts ds ≡ true → length (bound ds) ≤ bindings ts
bound_most ts none f = none_bound ts
bound_most [] (more d ds) f = cc
bound_most (t ∷ ts) (more d ds) f = bound_step (takes BindingIdentifier t) t d (bound ds) (bindings ts) refl (and_first (fits t d) (fit ts ds) f) (bound_most ts ds (and_second (fits t d) (fit ts ds) f))

one_at_most : (ns : List ℕ) (n : ℕ) → length ns ≤ n → nat_lt n 2 ≡ true → at_most_one ns ≡ true
one_at_most [] n h l = refl
one_at_most (x ∷ []) n h l = refl
one_at_most (x ∷ y ∷ ns) n h l = grind (arith, nat_tests)

-- whether one of the fields may hold a scope of a bound name
abbrev pub has_bound_scope : List FieldType → Bool
has_bound_scope [] = false
has_bound_scope (t ∷ ts) = takes AssertedBoundNamesScope t || has_bound_scope ts

binds_once : (k : Kind) → (not (has_bound_scope (fields k)) || nat_lt (bindings (fields k)) 2) ≡ true
binds_once Null = refl
binds_once _ = refl

or_second : (a b : Bool) → (not a || b) ≡ true → a ≡ true → b ≡ true
or_second true b e f = e
or_second false b e f = cc

pub names_once : (k : Kind) (ds : Data) → fit (fields k) ds ≡ true → has_bound_scope (fields k) ≡ true → at_most_one (bound ds) ≡ true
names_once k ds f h = one_at_most (bound ds) (bindings (fields k)) (bound_most (fields k) ds f) (or_second (has_bound_scope (fields k)) (nat_lt (bindings (fields k)) 2) (binds_once k) h)

bound_shape : (k : Kind) (t : FieldType) (ds : Data) → shape_of k ≡ shape.BoundName → fits t (child (branch k ds)) ≡ true → takes AssertedBoundNamesScope t ≡ true
bound_shape AssertedBoundNamesScope t ds s f = taken t (branch AssertedBoundNamesScope ds) f
bound_shape _ t ds s f = cc

or_left : (a b : Bool) → a ≡ true → (a || b) ≡ true
or_left a b e = rw (e) refl

pub holds_bound_scope : (k : Kind) (t : FieldType) (ts : List FieldType) (ds : Data) → shape_of k ≡ shape.BoundName → fits t (child (branch k ds)) ≡ true → has_bound_scope (t ∷ ts) ≡ true
holds_bound_scope k t ts ds s f = or_left (takes AssertedBoundNamesScope t) (has_bound_scope ts) (bound_shape k t ds s f)

-- parameters

typed_one_rest : (k : Kind) (fs : Data) → fit (fields k) fs ≡ true → one_rest (form k) fs ≡ true
typed_one_rest FormalParameters none f = refl
typed_one_rest FormalParameters (more d rest) f = one_at_most (bound rest) 1 (bound_most (field.Optional (One BindingIdentifier) ∷ []) rest (and_second (fits (field.List Parameter false false) d) (fit (field.Optional (One BindingIdentifier) ∷ []) rest) f)) refl
typed_one_rest _ fs f = refl

pub one_rest_fits : (ts : List FieldType) (after : Data) → fit ts after ≡ true → one_rest_first after ≡ true
one_rest_fits ts none f = refl
one_rest_fits [] (more d ds) f = cc
one_rest_fits (t ∷ ts) (more (child (branch k fs)) ds) f = typed_one_rest k fs (child_typed t (branch k fs) (and_first (fits t (child (branch k fs))) (fit ts ds) f))
one_rest_fits (t ∷ ts) (more _ ds) f = refl
