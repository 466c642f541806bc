-- No entry comes twice among those that a scope has to have.
use Rattle.std.proofs.Common.{ℕ, List, [], ◌∷◌, ◌+◌, ◌≤◌, ◌≡◌, Bool, true, false, refl, ap, ◌&&◌, ◌||◌, if◌then◌else◌, nat_eq, Option, None, Some, arith}
use Rattle.std.proofs.lemmas.Bool.Decides.{nat_tests}
use Rattle.std.specs.List.{list_any}
use Rattle.bast_schema.specs.declared.kind.Kind.{Kind}
use Rattle.bast_schema.specs.Tree.{branch, Datum, child, listed, flag, index, choice, Data, none, more}
use Rattle.scope_facts.specs.declared.names.Declared.{Declared}
use Rattle.scope_facts.specs.declared.roles.Form.{Form}
use Rattle.scope_facts.specs.declared.roles.Form.TheVariants as form
use Rattle.scope_facts.specs.declared.roles.Shape.{Shape}
use Rattle.scope_facts.specs.declared.roles.Shape.TheVariants as shape
use Rattle.scope_facts.specs.Roles as roles
use Rattle.scope_facts.specs.Uses.{first_name}
use Rattle.scope_facts.specs.Names as names
use Rattle.scope_facts.specs.Names.{kind_choice, once, bound, tops_in, lexicals_in}
use Rattle.scope_facts.specs.Entries.{declared_entries, bound_entries, rest_entries, place_entry, parameter_name, item_entries, list_entries, parameter_entries_by, parameter_entries_at, parameter_entries, entries}
use Rattle.scope_facts.specs.Flagged.{with_flag, holds_of, entry_by, entries_by}
use Rattle.scope_facts.proofs.Kept.{first_name_flag}
use Rattle.scope_check.specs.declared.entries.Key.{Key}
use Rattle.scope_check.specs.Entries.{entry_number, key_named, key_at, keys, same}
use Rattle.scope_check.proofs.Differing.{apart}

-- whether an entry's name is captured is no part of its key

number_flag : (b : Bool) (ds : Data) → entry_number (with_flag b ds) ≡ entry_number ds
number_flag b none = refl
number_flag b (more (flag c) ds) = refl
number_flag b (more (index i) ds) = refl
number_flag b (more (choice i) ds) = refl
number_flag b (more _ ds) = number_flag b ds

named_flag : (k : Kind) (b : Bool) (ds : Data) (o : Option ℕ) → key_named k (with_flag b ds) o ≡ key_named k ds o
named_flag k b ds None = refl
named_flag k b ds (Some n) = rw (number_flag b ds) refl

key_flag : (c : ℕ → Bool) (d : Datum) → key_at (entry_by c d) ≡ key_at d
key_flag c (child (branch k ds)) = rw (first_name_flag (holds_of c (first_name ds)) ds) (named_flag k (holds_of c (first_name ds)) ds (first_name ds))
key_flag c _ = refl

pub keys_flag : (c : ℕ → Bool) (es : Data) → keys (entries_by c es) ≡ keys es
keys_flag c none = refl
keys_flag c (more d es) = rw (key_flag c d, keys_flag c es) refl

-- declared names

abbrev declared_key : Declared → Key
declared_key a = record { sort = 0; name = a.name; number = kind_choice a.kind }

once_step : (b : Bool) (seen : Key → Bool) (before : List Declared) (a : Declared) (others : List Declared) → list_any (names.same a) before ≡ b → seen (declared_key a) ≡ list_any (names.same a) before
    → apart seen (keys (declared_entries (once before others))) ≡ true → apart (λ k. same k (declared_key a) || seen k) (keys (declared_entries (once (a ∷ before) others))) ≡ true
    → apart seen (keys (declared_entries (if b then once before others else a ∷ once (a ∷ before) others))) ≡ true
once_step true seen before a others is seen_is h g = h
once_step false seen before a others is seen_is h g = rw (seen_is, is) g

once_apart : (seen : Key → Bool) (before others : List Declared) → ((a : Declared) → seen (declared_key a) ≡ list_any (names.same a) before) → apart seen (keys (declared_entries (once before others))) ≡ true
once_apart seen before [] h = refl
once_apart seen before (a ∷ others) h = once_step (list_any (names.same a) before) seen before a others refl (h a) (once_apart seen before others h)
    (once_apart (λ k. same k (declared_key a) || seen k) (a ∷ before) others (λ b. ap (λ t. names.same b a || t) (h b)))

-- the one name of a function expression or of a catch clause

abbrev pub at_most_one : List ℕ → Bool
at_most_one [] = true
at_most_one (n ∷ []) = true
at_most_one (n ∷ m ∷ ns) = false

bound_apart : (ns : List ℕ) → at_most_one ns ≡ true → apart (λ a. false) (keys (bound_entries ns)) ≡ true
bound_apart [] h = refl
bound_apart (n ∷ []) h = refl
bound_apart (n ∷ m ∷ ns) h = cc

-- parameters

abbrev rest_key : ℕ → Key
rest_key n = record { sort = 2; name = n; number = 0 }

abbrev place_key : ℕ → ℕ → Key
place_key i n = record { sort = 1; name = n; number = i }

rest_apart : (seen : Key → Bool) (ns : List ℕ) → at_most_one ns ≡ true → ((n : ℕ) → seen (rest_key n) ≡ false) → apart seen (keys (rest_entries ns)) ≡ true
rest_apart seen [] h g = refl
rest_apart seen (n ∷ []) h g = rw (g n) refl
rest_apart seen (n ∷ m ∷ ns) h g = cc

place_apart : (seen : Key → Bool) (i : ℕ) (o : Option ℕ) (others : Data) → ((n : ℕ) → seen (place_key i n) ≡ false) → apart seen (keys others) ≡ true
    → ((n : ℕ) → apart (λ k. same k (place_key i n) || seen k) (keys others) ≡ true) → apart seen (keys (place_entry i o others)) ≡ true
place_apart seen i None others s h g = h
place_apart seen i (Some n) others s h g = rw (s n) (g n)

later : (i j : ℕ) → i + 1 ≤ j → nat_eq j i ≡ false
later i j h = grind (arith, nat_tests)

or_more : (i j : ℕ) → i + 1 ≤ j → i ≤ j
or_more i j h = omega arith

and_false : (a : Bool) → (a && false) ≡ false
and_false true = refl
and_false false = refl

unseen : (i j n m : ℕ) (b : Bool) → i + 1 ≤ j → b ≡ false → (same (place_key j m) (place_key i n) || b) ≡ false
unseen i j n m b h e = rw (later i j h, and_false (nat_eq m n), e) refl

items_apart : (seen : Key → Bool) (i : ℕ) (items others : Data) → ((n j : ℕ) → i ≤ j → seen (place_key j n) ≡ false) → ((n : ℕ) → seen (rest_key n) ≡ false)
    → ((before : Key → Bool) → ((n : ℕ) → before (rest_key n) ≡ false) → apart before (keys others) ≡ true) → apart seen (keys (item_entries i items others)) ≡ true
items_apart seen i none others p r h = h seen r
items_apart seen i (more d items) others p r h = place_apart seen i (parameter_name d) (item_entries (i + 1) items others) (λ n. p n i (omega arith))
    (items_apart seen (i + 1) items others (λ n j l. p n j (or_more i j l)) r h)
    (λ n. items_apart (λ k. same k (place_key i n) || seen k) (i + 1) items others (λ m j l. unseen i j n m (seen (place_key j m)) l (p m j (or_more i j l))) (λ m. r m) h)

-- whether what stands behind the list of parameters binds at most one name
abbrev one_behind : Data → Bool
one_behind none = true
one_behind (more d rest) = at_most_one (bound rest)

abbrev pub one_rest : Form → Data → Bool
one_rest form.Parameters fs = one_behind fs
one_rest _ fs = true

abbrev one_rest_at : Datum → Bool
one_rest_at (child (branch k fs)) = one_rest (roles.form k) fs
one_rest_at _ = true

abbrev pub one_rest_first : Data → Bool
one_rest_first none = true
one_rest_first (more d ds) = one_rest_at d

list_apart : (fs : Data) → one_behind fs ≡ true → apart (λ a. false) (keys (list_entries fs)) ≡ true
list_apart none h = refl
list_apart (more (listed items) rest) h = items_apart (λ a. false) 0 items (rest_entries (bound rest)) (λ n j l. refl) (λ n. refl) (λ before r. rest_apart before (bound rest) h r)
list_apart (more _ rest) h = refl

by_apart : (f : Form) (fs : Data) (d : Datum) → one_rest f fs ≡ true → apart (λ a. false) (keys (parameter_entries_by f fs d)) ≡ true
by_apart form.Parameters fs d h = list_apart fs h
by_apart _ fs d h = place_apart (λ a. false) 0 (parameter_name d) none (λ n. refl) refl (λ n. refl)

at_apart : (d : Datum) → one_rest_at d ≡ true → apart (λ a. false) (keys (parameter_entries_at d)) ≡ true
at_apart (child (branch k fs)) h = by_apart (roles.form k) fs (child (branch k fs)) h
at_apart _ h = refl

parameters_apart : (after : Data) → one_rest_first after ≡ true → apart (λ a. false) (keys (parameter_entries after)) ≡ true
parameters_apart none h = refl
parameters_apart (more d ds) h = at_apart d h

-- where a scope of a bound name has at most one, and parameters have at most one rest
pub entries_apart : (s : Shape) (ns : List ℕ) (after : Data) → (s ≡ shape.BoundName → at_most_one ns ≡ true) → one_rest_first after ≡ true → apart (λ a. false) (keys (entries s ns after)) ≡ true
entries_apart shape.Statements ns after h g = once_apart (λ a. false) [] (tops_in after) (λ a. refl)
entries_apart shape.Lexical ns after h g = once_apart (λ a. false) [] (lexicals_in after) (λ a. refl)
entries_apart shape.Parameters ns after h g = parameters_apart after g
entries_apart shape.BoundName ns after h g = bound_apart ns (h refl)
entries_apart shape.Nothing ns after h g = refl
