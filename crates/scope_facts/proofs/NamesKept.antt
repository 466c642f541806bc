-- Exact scopes name nothing that the tree does not name.
use Rattle.std.proofs.Common.{arith, ℕ, List, [], ◌∷◌, ◌≡◌, ◌≤◌, ◌<◌, Bool, true, false, refl, ap, sym, ◌∙◌, ◌&&◌, ◌+◌, if◌then◌else◌, map, Option, option_to_list}
use Rattle.std.specs.List.{list_all, list_any, slice_get}
use Rattle.bast_schema.specs.declared.kind.Kind.{Kind}
use Rattle.bast_schema.specs.Counts.{size, size_at, size_in}
use Rattle.bast_schema.specs.NamesHold.{names_hold, names_hold_at, names_hold_in}
use Rattle.bast_schema.specs.Tree.{Tree, branch, Datum, child, listed, flag, name, Data, none, more, count}
use Rattle.bast_schema.proofs.Both.{and_first, and_second, both}
use Rattle.scope_facts.specs.declared.names.Declared.{Declared}
use Rattle.scope_facts.specs.declared.roles.Form.{Form}
use Rattle.scope_facts.specs.declared.roles.Form.TheVariants.{Parameters}
use Rattle.scope_facts.specs.declared.roles.Shape.{Shape}
use Rattle.scope_facts.specs.declared.roles.Shape.TheVariants as shape
use Rattle.scope_facts.specs.Roles as roles
use Rattle.scope_facts.specs.Roles.{part, is_scope_part, shape_of}
use Rattle.scope_facts.specs.Uses.{is_scope, first_name, crossed_in, evals_in}
use Rattle.scope_facts.specs.Names.{bound, bound_below_at, lexicals_in, tops_in, same, once}
use Rattle.scope_facts.specs.Entries.{declared_entry, bound_entry, rest_entry, positional_entry, declared_entries, bound_entries, rest_entries, place_entry, item_entries, list_entries, parameter_entries_by, parameter_entries, entries, flags, flags_by, is_simple}
use Rattle.scope_facts.specs.Exact.{exact, eval_name}
use Rattle.scope_facts.specs.Filled.{filled_scope, filled, filled_at, filled_in, filled_among}
use Rattle.scope_facts.specs.Flagged.{with_flag, holds_of, entry_by, entries_by, fields_by, flagged_scope, flagged, flagged_at, flagged_in, flagged_among}
use Rattle.scope_facts.specs.Renamed.{renamed_at, renamed_in}
use Rattle.scope_facts.proofs.Sizes.{count_le-size}
use Rattle.scope_facts.proofs.Like.{Change, LikeAt, LikeIn, in_scope, in_node, in_list, a_name, a_flag, end, next, leaf_like}
use Rattle.scope_facts.proofs.LikeNames.{Quiet, renamed_declared, bound_like, below_at_like, lexicals_like, tops_like}
use Rattle.scope_facts.proofs.Maps.{any_names, any_names_in, renamed_like_at, renamed_like, renamed_quiet}

-- A number that is changed where a property does not hold of it. A tree of which it holds stays the same, and so do the
-- names that it declares: the property holds of them.
abbrev moved : (ℕ → Bool) → ℕ → ℕ
moved p n = if p n then n else n + 1

stays : (b : Bool) (n : ℕ) → b ≡ true → (if b then n else n + 1) ≡ n
stays true n h = refl
stays false n h = cc

stayed : (b : Bool) (n : ℕ) → (if b then n else n + 1) ≡ n → b ≡ true
stayed true n h = refl
stayed false n h = absurd (omega arith)

mutual
  at_stays : (p : ℕ → Bool) (d : Datum) → names_hold_at p d ≡ true → renamed_at (moved p) d ≡ d
  at_stays p (child (branch k ds)) h = ap (λ es. child (branch k es)) (in_stays p ds h)
  at_stays p (listed ds) h = ap listed (in_stays p ds h)
  at_stays p (name n) h = ap name (stays (p n) n h)
  at_stays p _ h = refl

  in_stays : (p : ℕ → Bool) (ds : Data) → names_hold_in p ds ≡ true → renamed_in (moved p) ds ≡ ds
  in_stays p none h = refl
  in_stays p (more d ds) h = rw (at_stays p d (and_first (names_hold_at p d) (names_hold_in p ds) h), in_stays p ds (and_second (names_hold_at p d) (names_hold_in p ds) h)) refl

all_stay : {X : Type 0} (q : X → Bool) (f : X → X) → ((x : X) → f x ≡ x → q x ≡ true) → (xs ys : List X) → xs ≡ ys → ys ≡ map f xs → list_all q xs ≡ true
all_stay q f h [] ys e g = refl
all_stay q f h (x ∷ xs) ys e g = let first : f x ≡ x = cc in let others : xs ≡ map f xs = cc in both (q x) (list_all q xs) (h x first) (all_stay q f h xs xs refl others)

names_stay : (p : ℕ → Bool) (xs ys : List ℕ) → xs ≡ ys → ys ≡ map (moved p) xs → list_all p xs ≡ true
names_stay p = all_stay p (moved p) (λ n. stayed (p n) n)

declared_stay : (p : ℕ → Bool) (xs ys : List Declared) → xs ≡ ys → ys ≡ map (renamed_declared (moved p)) xs → list_all (λ a. p a.name) xs ≡ true
declared_stay p = all_stay (λ a. p a.name) (renamed_declared (moved p)) (λ a h. stayed (p a.name) a.name (ap (λ b. b.name) h))

bound_holds : (p : ℕ → Bool) (ds : Data) → names_hold_in p ds ≡ true → list_all p (bound ds) ≡ true
bound_holds p ds h = names_stay p (bound ds) (bound (renamed_in (moved p) ds)) (ap bound (sym (in_stays p ds h))) (bound_like (renamed_like (moved p) p ds h))

below_holds : (p : ℕ → Bool) (d : Datum) → names_hold_at p d ≡ true → list_all p (bound_below_at d) ≡ true
below_holds p d h = names_stay p (bound_below_at d) (bound_below_at (renamed_at (moved p) d)) (ap bound_below_at (sym (at_stays p d h))) (below_at_like (renamed_quiet (moved p) p) (renamed_like_at (moved p) p d h))

lexicals_hold : (p : ℕ → Bool) (ds : Data) → names_hold_in p ds ≡ true → list_all (λ a. p a.name) (lexicals_in ds) ≡ true
lexicals_hold p ds h = declared_stay p (lexicals_in ds) (lexicals_in (renamed_in (moved p) ds)) (ap lexicals_in (sym (in_stays p ds h))) (lexicals_like (renamed_quiet (moved p) p) (renamed_like (moved p) p ds h))

tops_hold : (p : ℕ → Bool) (ds : Data) → names_hold_in p ds ≡ true → list_all (λ a. p a.name) (tops_in ds) ≡ true
tops_hold p ds h = declared_stay p (tops_in ds) (tops_in (renamed_in (moved p) ds)) (ap tops_in (sym (in_stays p ds h))) (tops_like (renamed_quiet (moved p) p) (renamed_like (moved p) p ds h))

pub first_holds : (p : ℕ → Bool) (ds : Data) → names_hold_in p ds ≡ true → list_all p (option_to_list (first_name ds)) ≡ true
first_holds p none h = refl
first_holds p (more (name n) ds) h = both (p n) true (and_first (p n) (names_hold_in p ds) h) refl
first_holds p (more d ds) h = first_holds p ds (and_second (names_hold_at p d) (names_hold_in p ds) h)

once_step : (q : Declared → Bool) (b : Bool) (a : Declared) (xs ys : List Declared) → q a ≡ true → list_all q xs ≡ true → list_all q ys ≡ true → list_all q (if b then xs else a ∷ ys) ≡ true
once_step q true a xs ys h g f = g
once_step q false a xs ys h g f = both (q a) (list_all q ys) h f

once_holds : (q : Declared → Bool) (xs seen : List Declared) → list_all q xs ≡ true → list_all q (once seen xs) ≡ true
once_holds q [] seen h = refl
once_holds q (a ∷ xs) seen h = once_step q (list_any (same a) seen) a (once seen xs) (once (a ∷ seen) xs) (and_first (q a) (list_all q xs) h) (once_holds q xs seen (and_second (q a) (list_all q xs) h)) (once_holds q xs (a ∷ seen) (and_second (q a) (list_all q xs) h))

-- what may be said of the entries of scopes of each shape, to which entries of these names may be added one after the other,
-- those of parameters with places below a number
pub record Entered (n : ℕ) (q : ℕ → Bool) (P : Shape → Data → Type 0) : Type 0 where
  pub nothing : (s : Shape) → P s none
  pub statement : (a : Declared) (es : Data) → q a.name ≡ true → P shape.Statements es → P shape.Statements (more (child (declared_entry a)) es)
  pub lexical : (a : Declared) (es : Data) → q a.name ≡ true → P shape.Lexical es → P shape.Lexical (more (child (declared_entry a)) es)
  pub bound : (m : ℕ) (es : Data) → q m ≡ true → P shape.BoundName es → P shape.BoundName (more (child (bound_entry m)) es)
  pub rest : (m : ℕ) (es : Data) → q m ≡ true → P shape.Parameters es → P shape.Parameters (more (child (rest_entry m)) es)
  pub positional : (i m : ℕ) (es : Data) → i < n → q m ≡ true → P shape.Parameters es → P shape.Parameters (more (child (positional_entry i m)) es)

declared_entered : {P : Data → Type 0} (q : ℕ → Bool) → P none → ((a : Declared) (es : Data) → q a.name ≡ true → P es → P (more (child (declared_entry a)) es)) → (xs : List Declared) → list_all (λ a. q a.name) xs ≡ true → P (declared_entries xs)
declared_entered q z c [] h = z
declared_entered q z c (a ∷ xs) h = c a (declared_entries xs) (and_first (q a.name) (list_all (λ b. q b.name) xs) h) (declared_entered q z c xs (and_second (q a.name) (list_all (λ b. q b.name) xs) h))

bound_entered : {n : ℕ} {q : ℕ → Bool} {P : Shape → Data → Type 0} → Entered n q P → (xs : List ℕ) → list_all q xs ≡ true → P shape.BoundName (bound_entries xs)
bound_entered c [] h = c.nothing shape.BoundName
bound_entered {q = q} c (m ∷ xs) h = c.bound m (bound_entries xs) (and_first (q m) (list_all q xs) h) (bound_entered c xs (and_second (q m) (list_all q xs) h))

rest_entered : {n : ℕ} {q : ℕ → Bool} {P : Shape → Data → Type 0} → Entered n q P → (xs : List ℕ) → list_all q xs ≡ true → P shape.Parameters (rest_entries xs)
rest_entered c [] h = c.nothing shape.Parameters
rest_entered {q = q} c (m ∷ xs) h = c.rest m (rest_entries xs) (and_first (q m) (list_all q xs) h) (rest_entered c xs (and_second (q m) (list_all q xs) h))

place_entered : {n : ℕ} {q : ℕ → Bool} {P : Shape → Data → Type 0} → Entered n q P → (i : ℕ) (xs : List ℕ) (others : Data) → i < n → list_all q xs ≡ true → P shape.Parameters others → P shape.Parameters (place_entry i (slice_get xs 0) others)
place_entered c i [] others l h g = g
place_entered {q = q} c i (m ∷ xs) others l h g = c.positional i m others l (and_first (q m) (list_all q xs) h) g

items_entered : {n : ℕ} {q : ℕ → Bool} {P : Shape → Data → Type 0} → Entered n q P → (i : ℕ) (items others : Data) → i + count items ≤ n → names_hold_in q items ≡ true → P shape.Parameters others → P shape.Parameters (item_entries i items others)
items_entered c i none others l h g = g
items_entered {q = q} c i (more d items) others l h g = place_entered c i (bound_below_at d) (item_entries (i + 1) items others) (omega arith)
    (below_holds q d (and_first (names_hold_at q d) (names_hold_in q items) h)) (items_entered c (i + 1) items others (omega arith) (and_second (names_hold_at q d) (names_hold_in q items) h) g)

list_entered : {n : ℕ} {q : ℕ → Bool} {P : Shape → Data → Type 0} → Entered n q P → (fs : Data) → size_in fs ≤ n → names_hold_in q fs ≡ true → P shape.Parameters (list_entries fs)
list_entered c none l h = c.nothing shape.Parameters
list_entered {q = q} c (more (listed items) rest) l h = items_entered c 0 items (rest_entries (bound rest)) (omega (arith, count_le-size items)) (and_first (names_hold_in q items) (names_hold_in q rest) h)
    (rest_entered c (bound rest) (bound_holds q rest (and_second (names_hold_in q items) (names_hold_in q rest) h)))
list_entered c (more _ rest) l h = c.nothing shape.Parameters

by_entered : {n : ℕ} {q : ℕ → Bool} {P : Shape → Data → Type 0} → Entered n q P → (f : Form) (fs : Data) (d : Datum) → 1 + size_in fs ≤ n → names_hold_in q fs ≡ true → names_hold_at q d ≡ true → P shape.Parameters (parameter_entries_by f fs d)
by_entered c Parameters fs d l h g = list_entered c fs (omega arith) h
by_entered {q = q} c _ fs d l h g = place_entered c 0 (bound_below_at d) none (omega arith) (below_holds q d g) (c.nothing shape.Parameters)

parameters_entered : {n : ℕ} {q : ℕ → Bool} {P : Shape → Data → Type 0} → Entered n q P → (after : Data) → size_in after ≤ n → names_hold_in q after ≡ true → P shape.Parameters (parameter_entries after)
parameters_entered c none l h = c.nothing shape.Parameters
parameters_entered {q = q} c (more (child (branch k fs)) ds) l h = let g : names_hold_in q fs ≡ true = and_first (names_hold_in q fs) (names_hold_in q ds) h in by_entered c (roles.form k) fs (child (branch k fs)) (omega arith) g g
parameters_entered c (more _ ds) l h = c.nothing shape.Parameters

-- what each entry keeps holds of the entries of each scope
pub entries_entered : {n : ℕ} {q : ℕ → Bool} {P : Shape → Data → Type 0} → Entered n q P → (s : Shape) (names : List ℕ) (after : Data) → size_in after ≤ n → list_all q names ≡ true → names_hold_in q after ≡ true → P s (entries s names after)
entries_entered {q = q} c shape.Statements names after l n h = declared_entered q (c.nothing shape.Statements) c.statement (once [] (tops_in after)) (once_holds (λ a. q a.name) (tops_in after) [] (tops_hold q after h))
entries_entered {q = q} c shape.Lexical names after l n h = declared_entered q (c.nothing shape.Lexical) c.lexical (once [] (lexicals_in after)) (once_holds (λ a. q a.name) (lexicals_in after) [] (lexicals_hold q after h))
entries_entered c shape.Parameters names after l n h = parameters_entered c after l h
entries_entered c shape.BoundName names after l n h = bound_entered c names n
entries_entered c shape.Nothing names after l n h = c.nothing shape.Nothing

-- where any name will do

any_list : (ns : List ℕ) → list_all (λ n. true) ns ≡ true
any_list [] = refl
any_list (n ∷ ns) = any_list ns

pub le_self : (n : ℕ) → n ≤ n
le_self n = omega arith

pub all_entered : {P : Shape → Data → Type 0} (after : Data) → Entered (size_in after) (λ n. true) P → (s : Shape) (names : List ℕ) → P s (entries s names after)
all_entered after c s names = entries_entered c s names after (le_self (size_in after)) (any_list names) (any_names_in after)

-- filled: the scopes get entries of names with a property, from values that are not too many

pub record Filled (n : ℕ) (p : ℕ → Bool) (k : Kind) (ds es : Data) : Type 0 where
  pub names : List ℕ
  pub behind : Data
  pub small : size_in behind ≤ n
  pub named : list_all p names ≡ true
  pub held : names_hold_in p behind ≡ true
  pub is : es ≡ more (listed (entries (shape_of k) names behind)) (flags (shape_of k) behind)

abbrev pub filling : ℕ → (ℕ → Bool) → Change
filling n p = record { eagerly = false; holds = p; number = λ m. m; scopes = Filled n p; flags = λ b c. b ≡ c }

filled_field : (n : ℕ) (p : ℕ → Bool) (ns : List ℕ) (d : Datum) (ds : Data) (b : Bool) → is_scope d ≡ b → size_in ds ≤ n → list_all p ns ≡ true → names_hold_in p ds ≡ true
    → LikeAt (filling n p) d (filled_at d) → LikeAt (filling n p) d (if b then filled_scope ns d ds else filled_at d)
filled_field n p ns (child (branch k fs)) ds true i l a h f = in_scope k fs (more (listed (entries (shape_of k) ns ds)) (flags (shape_of k) ds)) i (record { names = ns; behind = ds; small = l; named = a; held = h; is = refl })
filled_field n p ns _ ds true i l a h f = cc
filled_field n p ns d ds false i l a h f = f

mutual
  filled_like_at : (n : ℕ) (p : ℕ → Bool) (d : Datum) → size_at d ≤ n → names_hold_at p d ≡ true → LikeAt (filling n p) d (filled_at d)
  filled_like_at n p (child (branch k ds)) l h = in_node k ds (filled_in (bound ds) ds) (filled_like n p (bound ds) ds (omega arith) (bound_holds p ds h) h)
  filled_like_at n p (listed ds) l h = in_list ds (filled_among ds) (filled_like_among n p ds (omega arith) h)
  filled_like_at n p (name m) l h = a_name m h
  filled_like_at n p (flag b) l h = a_flag b b refl
  filled_like_at n p d l h = leaf_like d refl

  filled_like : (n : ℕ) (p : ℕ → Bool) (ns : List ℕ) (ds : Data) → size_in ds ≤ n → list_all p ns ≡ true → names_hold_in p ds ≡ true → LikeIn (filling n p) ds (filled_in ns ds)
  filled_like n p ns none l a h = end
  filled_like n p ns (more d ds) l a h = next d (if is_scope d then filled_scope ns d ds else filled_at d) ds (filled_in ns ds)
      (filled_field n p ns d ds (is_scope d) refl (omega arith) a (and_second (names_hold_at p d) (names_hold_in p ds) h) (filled_like_at n p d (omega arith) (and_first (names_hold_at p d) (names_hold_in p ds) h)))
      (filled_like n p ns ds (omega arith) a (and_second (names_hold_at p d) (names_hold_in p ds) h))

  filled_like_among : (n : ℕ) (p : ℕ → Bool) (ds : Data) → size_in ds ≤ n → names_hold_in p ds ≡ true → LikeIn (filling n p) ds (filled_among ds)
  filled_like_among n p none l h = end
  filled_like_among n p (more d ds) l h = next d (filled_at d) ds (filled_among ds)
      (filled_like_at n p d (omega arith) (and_first (names_hold_at p d) (names_hold_in p ds) h)) (filled_like_among n p ds (omega arith) (and_second (names_hold_at p d) (names_hold_in p ds) h))

pub any_filled_in : (ns : List ℕ) (ds : Data) (n : ℕ) → size_in ds ≤ n → LikeIn (filling n (λ m. true)) ds (filled_in ns ds)
any_filled_in ns ds n l = filled_like n (λ m. true) ns ds l (any_list ns) (any_names_in ds)

pub any_filled : (t : Tree) → LikeAt (filling (size t) (λ n. true)) (child t) (child (filled t))
any_filled t = filled_like_at (size t) (λ n. true) (child t) (le_self (size t)) (any_names t)

-- flagged: the fields of scopes that change as a whole, or flags alone that change anywhere

abbrev pub flagging : (Kind → Data → Data → Type 0) → (Bool → Bool → Type 0) → Change
flagging s f = record { eagerly = false; holds = λ n. true; number = λ n. n; scopes = s; flags = f }

abbrev pub flags_alone : Change
flags_alone = flagging (λ k ds es. ⊥) (λ b c. Unit)

-- what is said of each scope with its flags set
abbrev pub FlaggedScopes : Change → Type 0
FlaggedScopes m = (k : Kind) (ds : Data) (c : ℕ → Bool) (b : Bool) → is_scope_part (part k) ≡ true → LikeAt m (child (branch k ds)) (child (branch k (fields_by c b ds)))

mutual
  self_at : (d : Datum) → LikeAt flags_alone d d
  self_at (child (branch k ds)) = in_node k ds ds (self_in ds)
  self_at (listed ds) = in_list ds ds (self_in ds)
  self_at (name n) = a_name n refl
  self_at (flag b) = a_flag b b tt
  self_at d = leaf_like d refl

  self_in : (ds : Data) → LikeIn flags_alone ds ds
  self_in none = end
  self_in (more d ds) = next d d ds ds (self_at d) (self_in ds)

pub with_flag_like : (b : Bool) (ds : Data) → LikeIn flags_alone ds (with_flag b ds)
with_flag_like b none = end
with_flag_like b (more (flag c) ds) = next (flag c) (flag b) ds ds (a_flag c b tt) (self_in ds)
with_flag_like b (more d ds) = next d d ds (with_flag b ds) (self_at d) (with_flag_like b ds)

entry_like : (c : ℕ → Bool) (d : Datum) → LikeAt flags_alone d (entry_by c d)
entry_like c (child (branch k ds)) = in_node k ds (with_flag (holds_of c (first_name ds)) ds) (with_flag_like (holds_of c (first_name ds)) ds)
entry_like c d = self_at d

entries_by_like : (c : ℕ → Bool) (es : Data) → LikeIn flags_alone es (entries_by c es)
entries_by_like c none = end
entries_by_like c (more d es) = next d (entry_by c d) es (entries_by c es) (entry_like c d) (entries_by_like c es)

pub fields_by_like : (c : ℕ → Bool) (b : Bool) (ds : Data) → LikeIn flags_alone ds (fields_by c b ds)
fields_by_like c b (more (listed es) ds) = next (listed es) (listed (entries_by c es)) ds (with_flag b ds) (in_list es (entries_by c es) (entries_by_like c es)) (with_flag_like b ds)
fields_by_like c b ds = self_in ds

flagged_field : {m : Change} (e : Option ℕ) (d : Datum) (ds : Data) (b : Bool) → FlaggedScopes m → is_scope d ≡ b → LikeAt m d (flagged_at e d) → LikeAt m d (if b then flagged_scope e d ds else flagged_at e d)
flagged_field e (child (branch k fs)) ds true s i h = s k fs (λ x. crossed_in x ds) (evals_in e ds) i
flagged_field e _ ds true s i h = cc
flagged_field e d ds false s i h = h

mutual
  flagged_like_at : (s : Kind → Data → Data → Type 0) (f : Bool → Bool → Type 0) → FlaggedScopes (flagging s f) → ((b : Bool) → f b b) → (e : Option ℕ) (d : Datum) → LikeAt (flagging s f) d (flagged_at e d)
  flagged_like_at s f w g e (child (branch k ds)) = in_node k ds (flagged_in e ds) (flagged_like s f w g e ds)
  flagged_like_at s f w g e (listed ds) = in_list ds (flagged_among e ds) (flagged_like_among s f w g e ds)
  flagged_like_at s f w g e (name n) = a_name n refl
  flagged_like_at s f w g e (flag b) = a_flag b b (g b)
  flagged_like_at s f w g e d = leaf_like d refl

  pub flagged_like : (s : Kind → Data → Data → Type 0) (f : Bool → Bool → Type 0) → FlaggedScopes (flagging s f) → ((b : Bool) → f b b) → (e : Option ℕ) (ds : Data) → LikeIn (flagging s f) ds (flagged_in e ds)
  flagged_like s f w g e none = end
  flagged_like s f w g e (more d ds) = next d (if is_scope d then flagged_scope e d ds else flagged_at e d) ds (flagged_in e ds) (flagged_field e d ds (is_scope d) w refl (flagged_like_at s f w g e d)) (flagged_like s f w g e ds)

  flagged_like_among : (s : Kind → Data → Data → Type 0) (f : Bool → Bool → Type 0) → FlaggedScopes (flagging s f) → ((b : Bool) → f b b) → (e : Option ℕ) (ds : Data) → LikeIn (flagging s f) ds (flagged_among e ds)
  flagged_like_among s f w g e none = end
  flagged_like_among s f w g e (more d ds) = next d (flagged_at e d) ds (flagged_among e ds) (flagged_like_at s f w g e d) (flagged_like_among s f w g e ds)

pub only_flags : (e : Option ℕ) (ds : Data) → LikeIn flags_alone ds (flagged_in e ds)
only_flags = flagged_like (λ k ds es. ⊥) (λ b c. Unit) (λ k ds c b s. in_node k ds (fields_by c b ds) (fields_by_like c b ds)) (λ b. tt)

pub any_flagged : (e : Option ℕ) (t : Tree) → LikeAt flags_alone (child t) (child (flagged e t))
any_flagged e (branch k ds) = in_node k ds (flagged_in e ds) (only_flags e ds)

-- a test of trees that asks each kind and each leaf, and no flag
pub record Test : Type 0 where
  pub at : Datum → Bool
  pub in_all : Data → Bool
  pub kind : Kind → Bool
  pub nothing : in_all none ≡ true
  pub first : (d : Datum) (ds : Data) → in_all (more d ds) ≡ (at d && in_all ds)
  pub node : (k : Kind) (ds : Data) → at (child (branch k ds)) ≡ (kind k && in_all ds)
  pub list : (ds : Data) → at (listed ds) ≡ in_all ds
  pub flags : (b c : Bool) → at (flag b) ≡ at (flag c)

-- of two tests, that the parts stay true
pub implied : (a b c d : Bool) → (a ≡ true → c ≡ true) → (b ≡ true → d ≡ true) → (a && b) ≡ true → (c && d) ≡ true
implied a b c d f g h = both c d (f (and_first a b h)) (g (and_second a b h))

-- a map that makes no kind eager and changes no number, and whose scopes pass a test where they passed it before
pub record Passes (q : Test) (m : Change) : Type 0 where
  pub lazily : m.eagerly ≡ false
  pub same : (n : ℕ) → m.number n ≡ n
  pub scopes : (k : Kind) (ds es : Data) → m.scopes k ds es → q.in_all ds ≡ true → q.in_all es ≡ true

mutual
  pub passes_at : {q : Test} {m : Change} → Passes q m → {c d : Datum} → LikeAt m c d → q.at c ≡ true → q.at d ≡ true
  passes_at {q} p (in_scope k ds es i o) h = q.node k es ∙ implied (q.kind k) (q.in_all ds) (q.kind k) (q.in_all es) (λ a. a) (p.scopes k ds es o) (sym (q.node k ds) ∙ h)
  passes_at {q} p (in_node k ds es l) h = rw p.lazily (q.node k es ∙ implied (q.kind k) (q.in_all ds) (q.kind k) (q.in_all es) (λ a. a) (passes_in p l) (sym (q.node k ds) ∙ h))
  passes_at {q} p (in_list ds es l) h = q.list es ∙ passes_in p l (sym (q.list ds) ∙ h)
  passes_at {q} p (a_name n i) h = ap (λ m. q.at (name m)) (p.same n) ∙ h
  passes_at {q} p (a_flag b c i) h = q.flags c b ∙ h
  passes_at p _ h = h

  pub passes_in : {q : Test} {m : Change} → Passes q m → {ds es : Data} → LikeIn m ds es → q.in_all ds ≡ true → q.in_all es ≡ true
  passes_in p end h = h
  passes_in {q} p (next c d cs ds f l) h = q.first d ds ∙ implied (q.at c) (q.in_all cs) (q.at d) (q.in_all ds) (passes_at p f) (passes_in p l) (sym (q.first c cs) ∙ h)

-- the names of a tree with exact scopes

abbrev names_test : (ℕ → Bool) → Test
names_test p = record { at = names_hold_at p; in_all = names_hold_in p; kind = λ k. true; nothing = refl; first = λ d ds. refl; node = λ k ds. refl; list = λ ds. refl; flags = λ b c. refl }

name_passes : (a b : Bool) → a ≡ true → b ≡ true → ((a && true) && b) ≡ true
name_passes true b h g = g
name_passes false b h g = cc

names_entered : (n : ℕ) (p : ℕ → Bool) → Entered n p (λ s es. names_hold_in p es ≡ true)
names_entered n p = record {
  nothing = λ s. refl;
  statement = λ a es q h. name_passes (p a.name) (names_hold_in p es) q h;
  lexical = λ a es q h. name_passes (p a.name) (names_hold_in p es) q h;
  bound = λ m es q h. name_passes (p m) (names_hold_in p es) q h;
  rest = λ m es q h. name_passes (p m) (names_hold_in p es) q h;
  positional = λ i m es l q h. name_passes (p m) (names_hold_in p es) q h;
}

flags_hold : (p : ℕ → Bool) (s : Shape) (b : Bool) → names_hold_in p (flags_by s b) ≡ true
flags_hold p shape.Parameters b = refl
flags_hold p _ b = refl

-- flags alone change no test's answer
pub flags_pass : (q : Test) → Passes q flags_alone
flags_pass q = record { lazily = refl; same = λ n. refl; scopes = λ k ds es o. absurd o }

pub filled_names : (p : ℕ → Bool) (t : Tree) → names_hold p t ≡ true → names_hold p (filled t) ≡ true
filled_names p t h = passes_at {q = names_test p} (record {
  lazily = refl;
  same = λ n. refl;
  scopes = λ k ds es o g. rw (o.is, entries_entered (names_entered (size t) p) (shape_of k) o.names o.behind o.small o.named o.held, flags_hold p (shape_of k) (is_simple o.behind)) refl;
}) (filled_like_at (size t) p (child t) (le_self (size t)) h) h

pub exact_names : (texts : List (Option (List ℕ))) (t : Tree) (p : ℕ → Bool) → names_hold p t ≡ true → names_hold p (exact texts t) ≡ true
exact_names texts t p h = passes_at (flags_pass (names_test p)) (any_flagged (eval_name texts) (filled t)) (filled_names p t h)
