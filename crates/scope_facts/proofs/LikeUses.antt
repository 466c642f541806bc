-- The uses of names and the direct evals in trees that are alike but for the numbers of names and for flags.
use Rattle.std.proofs.Common.{ℕ, ◌≡◌, Bool, true, false, refl, ap, sym, ◌∙◌, ◌||◌, ◌&&◌, not, nat_eq, if◌then◌else◌, Option, None, Some}
use Rattle.std.specs.Option.{option_map}
use Rattle.bast_schema.specs.declared.kind.Kind.{Kind}
use Rattle.bast_schema.specs.Tree.{branch, Datum, child, name, Data, none, more}
use Rattle.scope_facts.specs.declared.roles.Part.{Part}
use Rattle.scope_facts.specs.declared.roles.Part.TheVariants.{Scope, Use, Call, Function, Other}
use Rattle.scope_facts.specs.Roles.{part, is_function}
use Rattle.scope_facts.specs.Uses.{is_scope, first_name, is_name, is_entry, has_entry, declares, is_use_named, is_use_of, used_at, used_in, used_among, crossed_at, crossed_in, crossed_among, is_use_of_text, is_eval, evals_at, evals_in, evals_among}
use Rattle.scope_facts.specs.Renamed.{IsInjective, KeepsEval, is_eval_name}
use Rattle.scope_facts.proofs.Like.{Change, kind_by, LikeAt, in_scope, in_node, in_list, a_name, LikeIn, end, next}
use Rattle.scope_facts.proofs.LikeNames.{first_name_like}

-- a map that leaves kinds, changes no scope as a whole and keeps different numbers different
pub record Open (m : Change) : Type 0 where
  pub lazily : m.eagerly ≡ false
  pub inside : (k : Kind) (ds es : Data) → m.scopes k ds es → ⊥
  pub injective : IsInjective m.number

is_scope_like : {m : Change} {c d : Datum} → Open m → LikeAt m c d → is_scope d ≡ is_scope c
is_scope_like p (in_node k ds es l) = rw p.lazily refl
is_scope_like p (in_scope k ds es s o) = refl
is_scope_like p _ = refl

is_name_like : (r : ℕ → ℕ) → IsInjective r → (x : ℕ) (o : Option ℕ) → is_name (r x) (option_map r o) ≡ is_name x o
is_name_like r i x None = refl
is_name_like r i x (Some n) = i n x

is_entry_like : {m : Change} {c d : Datum} → Open m → (x : ℕ) → LikeAt m c d → is_entry (m.number x) d ≡ is_entry x c
is_entry_like {m} p x (in_node k ds es l) = rw (first_name_like l) (is_name_like m.number p.injective x (first_name ds))
is_entry_like p x (in_scope k ds es s o) = absurd (p.inside k ds es o)
is_entry_like p x _ = refl

has_entry_like : {m : Change} {ds es : Data} → Open m → (x : ℕ) → LikeIn m ds es → has_entry (m.number x) es ≡ has_entry x ds
has_entry_like p x end = refl
has_entry_like p x (next c d cs ds h l) = rw (is_entry_like p x h, has_entry_like p x l) refl

fields_declare : {m : Change} {ds es : Data} → Open m → (x : ℕ) (j k : Kind) → LikeIn m ds es → declares (m.number x) (child (branch j es)) ≡ declares x (child (branch k ds))
fields_declare p x j k end = refl
fields_declare p x j k (next _ _ cs ds (in_list xs ys i) l) = has_entry_like p x i
fields_declare p x j k (next _ _ cs ds _ l) = refl

declares_like : {m : Change} {c d : Datum} → Open m → (x : ℕ) → LikeAt m c d → declares (m.number x) d ≡ declares x c
declares_like {m} p x (in_node k ds es l) = fields_declare p x (kind_by m.eagerly k) k l
declares_like p x (in_scope k ds es s o) = absurd (p.inside k ds es o)
declares_like p x _ = refl

use_like : {m : Change} {ds es : Data} → Open m → (x : ℕ) (q : Part) → LikeIn m ds es → is_use_of (m.number x) q es ≡ is_use_of x q ds
use_like {m} {ds} p x Use l = rw (first_name_like l) (is_name_like m.number p.injective x (first_name ds))
use_like p x _ l = refl

mutual
  used_at_like : {m : Change} → Open m → (x : ℕ) {c d : Datum} → LikeAt m c d → used_at (m.number x) d ≡ used_at x c
  used_at_like p x (in_node k ds es l) = rw (p.lazily, use_like p x (part k) l, used_like p x l) refl
  used_at_like p x (in_scope k ds es s o) = absurd (p.inside k ds es o)
  used_at_like p x (in_list ds es l) = used_among_like p x l
  used_at_like p x _ = refl

  pub used_like : {m : Change} → Open m → (x : ℕ) {ds es : Data} → LikeIn m ds es → used_in (m.number x) es ≡ used_in x ds
  used_like p x end = refl
  used_like p x (next c d cs ds h l) = rw (is_scope_like p h, declares_like p x h, used_at_like p x h, used_like p x l) refl

  used_among_like : {m : Change} → Open m → (x : ℕ) {ds es : Data} → LikeIn m ds es → used_among (m.number x) es ≡ used_among x ds
  used_among_like p x end = refl
  used_among_like p x (next c d cs ds h l) = rw (used_at_like p x h, used_among_like p x l) refl

mutual
  crossed_at_like : {m : Change} → Open m → (x : ℕ) {c d : Datum} → LikeAt m c d → crossed_at (m.number x) d ≡ crossed_at x c
  crossed_at_like p x (in_node k ds es l) = rw (p.lazily, used_like p x l, crossed_like p x l) refl
  crossed_at_like p x (in_scope k ds es s o) = absurd (p.inside k ds es o)
  crossed_at_like p x (in_list ds es l) = crossed_among_like p x l
  crossed_at_like p x _ = refl

  pub crossed_like : {m : Change} → Open m → (x : ℕ) {ds es : Data} → LikeIn m ds es → crossed_in (m.number x) es ≡ crossed_in x ds
  crossed_like p x end = refl
  crossed_like p x (next c d cs ds h l) = rw (is_scope_like p h, declares_like p x h, crossed_at_like p x h, crossed_like p x l) refl

  crossed_among_like : {m : Change} → Open m → (x : ℕ) {ds es : Data} → LikeIn m ds es → crossed_among (m.number x) es ≡ crossed_among x ds
  crossed_among_like p x end = refl
  crossed_among_like p x (next c d cs ds h l) = rw (crossed_at_like p x h, crossed_among_like p x l) refl

-- direct evals, where f is the name of the text eval after the map, and e before

text_named : (e : Option ℕ) (n : ℕ) (ds : Data) → is_use_of_text e Use (more (name n) ds) ≡ is_eval_name e n
text_named None n ds = refl
text_named (Some e) n ds = refl

text_passed : (e : Option ℕ) (ds es : Data) → first_name es ≡ first_name ds → is_use_of_text e Use es ≡ is_use_of_text e Use ds
text_passed None ds es h = refl
text_passed (Some e) ds es h = ap (is_name e) h

nothing_used : (e : Option ℕ) → is_use_of_text e Use none ≡ false
nothing_used None = refl
nothing_used (Some e) = refl

use_named : {m : Change} (e f : Option ℕ) → KeepsEval m.number m.holds e f → {ds es : Data} → LikeIn m ds es → is_use_of_text f Use es ≡ is_use_of_text e Use ds
use_named e f h end = nothing_used f ∙ sym (nothing_used e)
use_named {m} e f h (next _ _ cs ds (a_name n i) l) = text_named f (m.number n) ds ∙ h n i ∙ sym (text_named e n cs)
use_named e f h (next c d cs ds _ l) = text_passed f ds (more d ds) refl ∙ use_named e f h l ∙ sym (text_passed e cs (more c cs) refl)

no_use : (e : Option ℕ) (q : Part) (ds : Data) → is_use_named 0 q (Some 0) ≡ false → is_use_of_text e q ds ≡ false
no_use None q ds h = refl
no_use (Some e) Use ds h = cc
no_use (Some e) _ ds h = refl

text_use_like : {m : Change} (e f : Option ℕ) → KeepsEval m.number m.holds e f → (q : Part) {ds es : Data} → LikeIn m ds es → is_use_of_text f q es ≡ is_use_of_text e q ds
text_use_like e f h Use l = use_named e f h l
text_use_like e f h q {ds = ds} {es = es} l = no_use f q es refl ∙ sym (no_use e q ds refl)

pub eval_like : {m : Change} → Open m → (e f : Option ℕ) → KeepsEval m.number m.holds e f → (q : Part) {ds es : Data} → LikeIn m ds es → is_eval f q es ≡ is_eval e q ds
eval_like p e f h Call end = refl
eval_like p e f h Call (next _ _ cs ds (in_node k ms ns l) r) = rw p.lazily (text_use_like e f h (part k) l)
eval_like p e f h Call (next _ _ cs ds (in_scope k ms ns s o) r) = absurd (p.inside k ms ns o)
eval_like p e f h Call (next _ _ cs ds _ r) = refl
eval_like p e f h _ l = refl

mutual
  evals_at_like : {m : Change} → Open m → (e f : Option ℕ) → KeepsEval m.number m.holds e f → {c d : Datum} → LikeAt m c d → evals_at f d ≡ evals_at e c
  evals_at_like p e f h (in_node k ds es l) = rw (p.lazily, eval_like p e f h (part k) l, evals_like p e f h l) refl
  evals_at_like p e f h (in_scope k ds es s o) = absurd (p.inside k ds es o)
  evals_at_like p e f h (in_list ds es l) = evals_among_like p e f h l
  evals_at_like p e f h _ = refl

  pub evals_like : {m : Change} → Open m → (e f : Option ℕ) → KeepsEval m.number m.holds e f → {ds es : Data} → LikeIn m ds es → evals_in f es ≡ evals_in e ds
  evals_like p e f h end = refl
  evals_like p e f h (next c d cs ds i l) = rw (is_scope_like p i, evals_at_like p e f h i, evals_like p e f h l) refl

  evals_among_like : {m : Change} → Open m → (e f : Option ℕ) → KeepsEval m.number m.holds e f → {ds es : Data} → LikeIn m ds es → evals_among f es ≡ evals_among e ds
  evals_among_like p e f h end = refl
  evals_among_like p e f h (next c d cs ds i l) = rw (evals_at_like p e f h i, evals_among_like p e f h l) refl
