-- The uses of a name below a node, and the direct evals there. A scope covers what stands after it in its node.
use Rattle.std.specs.Prelude.{ℕ, Bool, false, ◌&&◌, ◌||◌, not, nat_eq, if◌then◌else◌, Option, None, Some}
use Rattle.bast_schema.specs.Tree.{Tree, branch, Datum, child, listed, name, Data, none, more}
use Rattle.scope_facts.specs.declared.roles.Part.{Part}
use Rattle.scope_facts.specs.declared.roles.Part.TheVariants.{Use, Call}
use Rattle.scope_facts.specs.Roles.{part, is_scope_part, is_function}

abbrev pub is_scope : Datum → Bool
is_scope (child (branch k ds)) = is_scope_part (part k)
is_scope _ = false

-- the first name among values: that of a use, of a binding and of an entry
abbrev pub first_name : Data → Option ℕ
first_name none = None
first_name (more (name n) ds) = Some n
first_name (more d ds) = first_name ds

abbrev pub is_name : ℕ → Option ℕ → Bool
is_name x None = false
is_name x (Some n) = nat_eq n x

abbrev pub is_entry : ℕ → Datum → Bool
is_entry x (child (branch k ds)) = is_name x (first_name ds)
is_entry x _ = false

-- whether one of a scope's entries is of the name
abbrev pub has_entry : ℕ → Data → Bool
has_entry x none = false
has_entry x (more d ds) = is_entry x d || has_entry x ds

-- whether a scope has an entry of the name
abbrev pub declares : ℕ → Datum → Bool
declares x (child (branch k (more (listed es) ds))) = has_entry x es
declares x _ = false

abbrev pub is_use_named : ℕ → Part → Option ℕ → Bool
is_use_named x Use o = is_name x o
is_use_named x _ o = false

-- whether a node is a use of the name
abbrev pub is_use_of : ℕ → Part → Data → Bool
is_use_of x p ds = is_use_named x p (first_name ds)

-- whether a name is used below a node, where no scope on the way has an entry of it
abbrev mutual
  pub used : ℕ → Tree → Bool
  used x (branch k ds) = is_use_of x (part k) ds || used_in x ds

  pub used_at : ℕ → Datum → Bool
  used_at x (child t) = used x t
  used_at x (listed ds) = used_among x ds
  used_at x _ = false

  -- in the fields of a node
  pub used_in : ℕ → Data → Bool
  used_in x none = false
  used_in x (more d ds) = if is_scope d then not (declares x d) && used_in x ds else used_at x d || used_in x ds

  -- in the items of a list
  pub used_among : ℕ → Data → Bool
  used_among x none = false
  used_among x (more d ds) = used_at x d || used_among x ds

-- the same of the uses inside a function that begins below
abbrev mutual
  pub crossed : ℕ → Tree → Bool
  crossed x (branch k ds) = if is_function (part k) then used_in x ds else crossed_in x ds

  pub crossed_at : ℕ → Datum → Bool
  crossed_at x (child t) = crossed x t
  crossed_at x (listed ds) = crossed_among x ds
  crossed_at x _ = false

  pub crossed_in : ℕ → Data → Bool
  crossed_in x none = false
  crossed_in x (more d ds) = if is_scope d then not (declares x d) && crossed_in x ds else crossed_at x d || crossed_in x ds

  pub crossed_among : ℕ → Data → Bool
  crossed_among x none = false
  crossed_among x (more d ds) = crossed_at x d || crossed_among x ds

abbrev pub is_use_of_text : Option ℕ → Part → Data → Bool
is_use_of_text None p ds = false
is_use_of_text (Some e) p ds = is_use_of e p ds

-- whether a node is a direct eval (section 12.3.4.1 of ECMA-262): a call whose callee is a reference to the name of
-- the text eval, where some name has that text
abbrev pub is_eval : Option ℕ → Part → Data → Bool
is_eval e Call (more (child (branch k ms)) ds) = is_use_of_text e (part k) ms
is_eval e _ ds = false

-- whether a direct eval is below
abbrev mutual
  pub evals : Option ℕ → Tree → Bool
  evals e (branch k ds) = is_eval e (part k) ds || evals_in e ds

  pub evals_at : Option ℕ → Datum → Bool
  evals_at e (child t) = evals e t
  evals_at e (listed ds) = evals_among e ds
  evals_at e _ = false

  pub evals_in : Option ℕ → Data → Bool
  evals_in e none = false
  evals_in e (more d ds) = if is_scope d then evals_in e ds else evals_at e d || evals_in e ds

  pub evals_among : Option ℕ → Data → Bool
  evals_among e none = false
  evals_among e (more d ds) = evals_at e d || evals_among e ds
