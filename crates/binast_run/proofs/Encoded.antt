-- What a source is encoded to is read whole, as the tree of the source with exact scopes.
use Rattle.std.proofs.Common.{◌≡◌, ℕ, zero, suc, ◌<◌, ◌≤◌, ◌&&◌, not, Bool, true, false, List, [], ◌∷◌, map, length, nat_le, get_or, slice_get, Option, Some, None, Ok, refl, subst, sym, ap, ◌∙◌, if◌then◌else◌, arith}
use Rattle.std.proofs.lemmas.Bool.Decides.{nat_tests}
use Rattle.std.specs.List.{All, list_all}
use Rattle.bast_schema.specs.Counts.{is_whole}
use Rattle.bast_schema.specs.Eager.{is_eager, is_eager_at, are_eager}
use Rattle.bast_schema.specs.Fields.{has_lazy}
use Rattle.bast_schema.specs.Held.{Held}
use Rattle.bast_schema.specs.NamesHold.{names_hold, names_hold_at, names_hold_in}
use Rattle.bast_schema.specs.Tree.{Tree, branch, Datum, child, listed, Data, none, more, typed}
use Rattle.bast_schema.proofs.Both.{and_first, and_second, both}
use Rattle.container.specs.Atoms.{Atom, atoms}
use Rattle.container.specs.InFile.{InFile, has_atom, is_unnested}
use Rattle.container.specs.Layout.{layout_of}
use Rattle.container.specs.IsContainer.{layout_in}
use Rattle.container.specs.Spelled.{spelled}
use Rattle.container.specs.Tables.{Tables}
use Rattle.container.specs.declared.layout.Layout.{Layout}
use Rattle.container.proofs.LayoutSpelled.{layout_is_container}
use Rattle.container.proofs.ReadBack.{layout_read}
use Rattle.early_errors.specs.Early.{early, first}
use Rattle.early_errors.specs.Laws.{unnumbered, KeepsTexts, renamed_violation}
use Rattle.early_errors.specs.Strict.{text_among}
use Rattle.early_errors.proofs.BareEarly.{own_scopes_break_no_rule, early_of_exact}
use Rattle.early_errors.proofs.RenamedEarly.{numbers_break_no_rule}
use Rattle.scope_check.specs.Untrue.{untrue}
use Rattle.scope_check.proofs.ExactTrue.{exact_is_true}
use Rattle.scope_facts.specs.declared.context.Violation.{Violation}
use Rattle.scope_facts.specs.Bare.{bare, bare_at, bare_in, bare_scope, empty_fields}
use Rattle.scope_facts.specs.Exact.{exact}
use Rattle.scope_facts.specs.Renamed.{renamed}
use Rattle.scope_facts.specs.Roles.{shape_of}
use Rattle.scope_facts.specs.Uses.{is_scope}
use Rattle.scope_facts.specs.declared.roles.Shape.{Shape}
use Rattle.scope_facts.specs.declared.roles.Shape.TheVariants as shape
use Rattle.scope_facts.proofs.BareSame.{bare_of_exact}
use Rattle.scope_facts.proofs.RenamedExact.{exact_renamed}
use Rattle.scope_facts.proofs.RenamedTyped.{typed_renamed}
use Rattle.tree_decoder.specs.LazyKinds.{is_eager_kind, first_lazy, kinds_of, kinds_at, kinds_in}
use Rattle.tree_decoder.specs.Outer.{tree_range}
use Rattle.tree_decoder.specs.SameTree.{IsSameTree}
use Rattle.tree_decoder.specs.Reading.{fault_in, first_fault, tree_fault, IsFileOfScript}
use Rattle.tree_decoder.specs.WholeReading.{IsWhole, whole}
use Rattle.tree_decoder.proofs.EagerWhole.{eager_is_whole}
use Rattle.tree_decoder.proofs.EveryFile.{file_there}
use Rattle.tree_decoder.proofs.InGrammar.{file_of, in_grammar-accepted, one_tree_in_file, read-in_grammar}
use Rattle.tree_decoder.proofs.LazyAtoms.{eager_read, joined, none_other}
use Rattle.tree_decoder.proofs.OneScript.{one_over}
use Rattle.tree_decoder.proofs.SameTree.{atoms_same, same_tree}
use Rattle.tree_decoder.proofs.WholeReadings.{one_whole}
use Rattle.tree_encoder.specs.File.{texts_held}
use Rattle.violations.specs.Violations.{first_violation, name_in, script}
use Rattle.binast_run.specs.Answer.{Answer, output, refusal, most_bytes}
use Rattle.binast_run.specs.FileAnswers.{answer_of, AnswersFile}
use Rattle.binast_run.specs.Laws.{IsExactTreeOf, IsReadBack}
use Rattle.binast_run.specs.Lines.{large_file_line}
use Rattle.binast_run.specs.SourceLines.{source_line, violation_text}
use Rattle.binast_run.specs.Sources.{AnswersSource, no_text, no_tree, has_tree, source_file, early_answer}
use Rattle.scope_facts.proofs.WholeKept.{exact_eager}
use Rattle.binast_run.proofs.Matching.{matched, matched_apart, is_matched_text, matched_texts, matched_there, matched_eval}
use Rattle.binast_run.proofs.RenamedTree.{SameTexts, same_renamed, named_renamed, whole_renamed, matched_tree}
use Rattle.binast_run.proofs.SourceFacts.{SourceFacts, source_facts}
use Rattle.js_parser.specs.Source.{IsSource}

-- the answer to a source that is a file

first_none : {A : Type 0} (xs : List A) → first xs ≡ None → xs ≡ []
first_none [] e = refl
first_none (x ∷ xs) e = absurd cc

record FileOf (texts : List (Option (List ℕ))) (t : Tree) (bytes : List ℕ) : Type 0 where
  early : early texts script t ≡ []
  bytes_are : bytes ≡ source_file texts t
  small : nat_le (length bytes) most_bytes ≡ true

refused : {A : Type 0} (line bytes : List ℕ) → refusal line ≡ output bytes → A
refused line bytes e = let one : 1 ≡ 0 = ap (λ (a : Answer). a.status) e in absurd (omega (arith, one))

file_bytes : (b : Bool) (made bytes : List ℕ) → nat_le (length made) most_bytes ≡ b → (if b then output made else refusal large_file_line) ≡ output bytes → (bytes ≡ made) × (nat_le (length bytes) most_bytes ≡ true)
file_bytes true made bytes s e = let same : bytes ≡ made = sym (ap (λ (a : Answer). a.text) e) in (same, ap (λ (b : List ℕ). nat_le (length b) most_bytes) same ∙ s)
file_bytes false made bytes s e = refused large_file_line bytes e

file_in : (texts : List (Option (List ℕ))) (t : Tree) (o : Option Violation) (bytes : List ℕ) → first (early texts script t) ≡ o → early_answer texts t o ≡ output bytes → FileOf texts t bytes
file_in texts t (Some v) bytes f e = refused (source_line (violation_text v (name_in texts v))) bytes e
file_in texts t None bytes f e =
    let b = file_bytes (nat_le (length (source_file texts t)) most_bytes) (source_file texts t) bytes refl e
    in record { early = first_none (early texts script t) f; bytes_are = b.0; small = b.1 }

record Encoded (input bytes : List ℕ) : Type 0 where
  texts : List (Option (List ℕ))
  tree : Tree
  source : IsSource input [] texts (Ok tree)
  file : FileOf texts tree bytes
  spelled : InFile bytes (texts_held texts) (exact texts tree)

encoded : (input bytes : List ℕ) (a : Answer) → AnswersSource input a → a ≡ output bytes → Encoded input bytes
encoded input bytes _ (no_text p) e = refused _ bytes e
encoded input bytes _ (no_tree f texts is no_memory p) e = refused _ bytes e
encoded input bytes _ (has_tree texts t is p s) e =
    let file = file_in texts t (first (early texts script t)) bytes refl e
    in record {
      texts = texts;
      tree = t;
      source = p;
      file = file;
      spelled = subst (λ (b : List ℕ). InFile b (texts_held texts) (exact texts t)) (sym file.bytes_are) (s (ap (λ (a : Answer). a.status) e));
    }

-- a tree without lazy kinds has no first one

mutual
  eager_kinds : (t : Tree) → is_eager t ≡ true → list_all is_eager_kind (kinds_of t) ≡ true
  eager_kinds (branch k ds) e = both (is_eager_kind k) (list_all is_eager_kind (kinds_in ds)) (and_first (not (has_lazy k)) (are_eager ds) e) (eager_kinds_in ds (and_second (not (has_lazy k)) (are_eager ds) e))

  eager_kinds_at : (d : Datum) → is_eager_at d ≡ true → list_all is_eager_kind (kinds_at d) ≡ true
  eager_kinds_at (child t) e = eager_kinds t e
  eager_kinds_at (listed ds) e = eager_kinds_in ds e
  eager_kinds_at _ e = refl

  eager_kinds_in : (ds : Data) → are_eager ds ≡ true → list_all is_eager_kind (kinds_in ds) ≡ true
  eager_kinds_in none e = refl
  eager_kinds_in (more d ds) e = joined is_eager_kind (kinds_at d) (kinds_in ds) (eager_kinds_at d (and_first (is_eager_at d) (are_eager ds) e)) (eager_kinds_in ds (and_second (is_eager_at d) (are_eager ds) e))

-- the plain tree has fewer names

names_of_empty : (p : ℕ → Bool) (s : Shape) → names_hold_in p (empty_fields s) ≡ true
names_of_empty p shape.Parameters = refl
names_of_empty p _ = refl

scope_names : (p : ℕ → Bool) (d : Datum) → names_hold_at p d ≡ true → names_hold_at p (bare_scope d) ≡ true
scope_names p (child (branch k ds)) a = names_of_empty p (shape_of k)
scope_names p _ a = a

field_names : (p : ℕ → Bool) (d : Datum) (b : Bool) → names_hold_at p d ≡ true → names_hold_at p (bare_at d) ≡ true → names_hold_at p (if b then bare_scope d else bare_at d) ≡ true
field_names p d true a h = scope_names p d a
field_names p d false a h = h

mutual
  names_of_bare : (p : ℕ → Bool) (t : Tree) → names_hold p t ≡ true → names_hold p (bare t) ≡ true
  names_of_bare p (branch k ds) a = names_of_bare_in p ds a

  names_of_bare_at : (p : ℕ → Bool) (d : Datum) → names_hold_at p d ≡ true → names_hold_at p (bare_at d) ≡ true
  names_of_bare_at p (child t) a = names_of_bare p t a
  names_of_bare_at p (listed ds) a = names_of_bare_in p ds a
  names_of_bare_at p _ a = a

  names_of_bare_in : (p : ℕ → Bool) (ds : Data) → names_hold_in p ds ≡ true → names_hold_in p (bare_in ds) ≡ true
  names_of_bare_in p none a = refl
  names_of_bare_in p (more d ds) a = both (names_hold_at p (if is_scope d then bare_scope d else bare_at d)) (names_hold_in p (bare_in ds))
      (field_names p d (is_scope d) (and_first (names_hold_at p d) (names_hold_in p ds) a) (names_of_bare_at p d (and_first (names_hold_at p d) (names_hold_in p ds) a)))
      (names_of_bare_in p ds (and_second (names_hold_at p d) (names_hold_in p ds) a))

-- what a table holds at a place, by either way to say it

abbrev entry_or : Option (Option (List ℕ)) → Option (List ℕ)
entry_or (Some entry) = entry
entry_or None = None

get_is : (xs : List (Option (List ℕ))) (n : ℕ) → get_or xs n None ≡ entry_or (slice_get xs n)
get_is [] n = refl
get_is (x ∷ xs) zero = refl
get_is (x ∷ xs) (suc n) = get_is xs n

-- the texts of matched names

same_texts : (texts strings : List (Option (List ℕ))) (n : ℕ) → is_matched_text texts strings n ≡ true → get_or strings (matched texts strings n) None ≡ get_or texts n None
same_texts texts strings n h = get_is strings (matched texts strings n) ∙ ap entry_or (matched_texts texts strings n h) ∙ sym (get_is texts n)

-- what the file of a source is read as

record ReadAs (texts : List (Option (List ℕ))) (t : Tree) (l : Layout) (bytes : List ℕ) (u : Tree) : Type 0 where
  is : u ≡ exact l.strings (renamed (matched texts l.strings) t)
  first : first_lazy u ≡ None
  names : names_hold (is_matched_text texts l.strings) t ≡ true
  same : IsSameTree (record { texts = l.strings; tape = bytes }) (texts_held texts) u (exact texts t)

read_as : (texts : List (Option (List ℕ))) (t : Tree) (bytes : List ℕ) (l : Layout) (u : Tree) → All (λ byte. byte < 256) bytes → SourceFacts texts t → InFile bytes (texts_held texts) (exact texts t) → IsFileOfScript bytes l u → ReadAs texts t l bytes u
read_as texts t bytes l u bytes_small facts file was =
    let x = exact texts t
    in let h = texts_held texts
    in let g : Held = record { texts = l.strings; tape = bytes }
    in let strings = l.strings
    in let number = matched texts strings
    in let p = is_matched_text texts strings
    in let made = layout_is_container bytes l bytes_small was.container
    in let both_typed = and_first (typed x && is_whole x) (is_unnested x) file.typed_whole
    in let typed_x = and_first (typed x) (is_whole x) both_typed
    in let whole_x = and_second (typed x) (is_whole x) both_typed
    in let lazy_x : first_lazy x ≡ None = none_other 0 (kinds_of x) (eager_kinds x (exact_eager texts t facts.eager))
    in let lazy_u : first_lazy u ≡ None = eager_read bytes h x l u bytes_small file lazy_x was
    in let in_file = read-in_grammar bytes l u file.small bytes_small was (eager_is_whole u was.script.typed lazy_u)
    in let atoms_u : atoms g u ≡ atoms h x = sym (one_tree_in_file bytes h g x u file in_file.0)
    in let has : list_all (has_atom in_file.0.tables) (atoms h x) ≡ true = subst (λ (as1 : List Atom). list_all (has_atom in_file.0.tables) as1 ≡ true) atoms_u in_file.0.has_all
    in let names_x : names_hold p x ≡ true = subst (λ (ts : List (Option (List ℕ))). names_hold (is_matched_text texts ts) x ≡ true) in_file.1 (matched_tree in_file.0.tables texts x typed_x file.named has)
    in let same_text : SameTexts number p h g = same_texts texts strings
    in let atoms_x : atoms g (renamed number x) ≡ atoms h x = atoms_same g h (renamed number x) x (same_renamed number p h g same_text x names_x whole_x)
    in let named_x = named_renamed number p h g same_text x names_x file.named
    in let u_is : renamed number x ≡ u =
    one_over g made.distinct_texts (renamed number x) u named_x (whole_renamed number x ∙ whole_x)
    (same_tree g g (renamed number x) u (typed_renamed number x ∙ typed_x) was.script.typed named_x in_file.0.named (atoms_x ∙ sym atoms_u))
    in let names : names_hold p t ≡ true = subst (λ (v : Tree). names_hold p v ≡ true) (bare_of_exact texts t ∙ facts.plain) (names_of_bare p x names_x)
    in let apart = matched_apart texts strings facts.distinct
    in record {
      is = sym u_is ∙ sym (exact_renamed number apart p texts strings (matched_eval texts strings facts.distinct made.distinct_texts) t names);
      first = lazy_u;
      names = names;
      same = same_tree g h u x was.script.typed typed_x in_file.0.named file.named atoms_u;
    }

-- and no rule is broken there

no_more : (xs ys : List Violation) → unnumbered xs ≡ unnumbered ys → xs ≡ [] → ys ≡ []
no_more [] [] e f = refl
no_more [] (y ∷ ys) e f = absurd cc
no_more (x ∷ xs) ys e f = absurd cc

none_found : (strings : List (Option (List ℕ))) (u : Tree) → early strings script u ≡ [] → untrue strings script u ≡ [] → first_violation strings script u ≡ None
none_found strings u e f = rw (e, f) refl

sound : (texts strings : List (Option (List ℕ))) (t : Tree) → SourceFacts texts t → names_hold (is_matched_text texts strings) t ≡ true → early texts script t ≡ []
    → first_violation strings script (exact strings (renamed (matched texts strings) t)) ≡ None
sound texts strings t facts names none_early =
    let number = matched texts strings
    in let plain = renamed number t
    in let typed_plain : typed plain ≡ true = typed_renamed number t ∙ facts.typed
    in let keeps : KeepsTexts number (is_matched_text texts strings) texts strings = λ n h. ap text_among (matched_texts texts strings n h)
    in let plain_early : early strings script plain ≡ [] =
    numbers_break_no_rule number (matched_apart texts strings facts.distinct) (is_matched_text texts strings) texts strings keeps script t names ∙ ap (map (renamed_violation number)) none_early
    in let bare_plain : early strings script (bare plain) ≡ [] = no_more (early strings script plain) (early strings script (bare plain)) (own_scopes_break_no_rule strings script plain typed_plain) plain_early
    in none_found strings (exact strings plain) ((early_of_exact strings script plain typed_plain).there bare_plain) (exact_is_true strings script plain refl typed_plain)

from_test : (n m : ℕ) → nat_le n m ≡ true → n ≤ m
from_test n m e = grind (arith, nat_tests)

-- the law

read_back : (input bytes : List ℕ) → All (λ byte. byte < 256) bytes → Encoded input bytes → IsReadBack input bytes
read_back input bytes small e =
    let facts = source_facts input e.texts e.tree e.source
    in let x = exact e.texts e.tree
    in let h = texts_held e.texts
    in let short = from_test (length bytes) most_bytes e.file.small
    in let none : first_fault bytes ≡ None = in_grammar-accepted bytes h x short small e.spelled
    in let tree = spelled e.spelled.tables h x
    in let l = layout_in e.spelled.tables tree bytes
    in let at : layout_of bytes ≡ Ok l = (layout_read e.spelled.tables tree bytes (file_of bytes h x e.spelled) e.spelled.small).0
    in let there = file_there bytes l short small at (sym (ap (fault_in bytes) at) ∙ none)
    in let as1 = read_as e.texts e.tree bytes l there.0 small facts e.spelled there.1
    in let found : first_violation l.strings script there.0 ≡ None = ap (first_violation l.strings script) as1.is ∙ sound e.texts l.strings e.tree facts as1.names e.file.early
    in record {
      strings = l.strings;
      read = there.0;
      whole = (record { layout = l; file = there.1; texts_are = refl }, as1.first, found);
      exact = record {
        texts = e.texts;
        tree = e.tree;
        number = matched e.texts l.strings;
        source = e.source;
        apart = matched_apart e.texts l.strings facts.distinct;
        is = as1.is;
        same = as1.same;
      };
    }

pub is_read_back : (input bytes : List ℕ) → All (λ byte. byte < 256) bytes → AnswersSource input (output bytes) → IsReadBack input bytes
is_read_back input bytes small source = read_back input bytes small (encoded input bytes (output bytes) source refl)
