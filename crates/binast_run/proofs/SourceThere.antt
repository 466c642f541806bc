-- Each source has an answer.
use Rattle.std.proofs.Common.{◌≡◌, ℕ, ◌+◌, ◌≤◌, ◌^◌, Bool, true, false, List, [], ◌∷◌, Option, Some, None, Ok, Err, refl, sym, subst, ◌∙◌, length, true≢false, arith, if◌then◌else◌}
use Rattle.std.specs.Prelude.{nat_le}
use Rattle.std.specs.List.{AllByRecursion}
use Rattle.std.specs.Str.{IsUtf8, is_utf8}
use Rattle.std.specs.Str.Lossy.{utf8_valid_len}
use Rattle.std.proofs.lemmas.Bool.{leb-true}
use Rattle.std.proofs.lemmas.Str.{IsUtf8-from_is_utf8, is_utf8-from_IsUtf8}
use Rattle.bast_schema.specs.Counts.{size}
use Rattle.bast_schema.specs.Tree.{Tree, depth, typed}
use Rattle.binast_run.specs.Answer.{Answer as Outcome, most_bytes, output, refusal}
use Rattle.binast_run.specs.Lines.{large_file_line}
use Rattle.binast_run.specs.SourceLines.{fault_text, not_utf8_text, source_line}
use Rattle.binast_run.specs.Sources.{AnswersSource, IsSpelled, early_answer, has_tree, no_text, no_tree, source_file, tree_answer}
use Rattle.scope_facts.proofs.WholeKept.{exact_eager}
use Rattle.binast_run.proofs.ExactNamed.{exact_kind, names_are}
use Rattle.binast_run.proofs.SourceFacts.{source_facts}
use Rattle.container.specs.InFile.{IsEntry}
use Rattle.early_errors.specs.Early.{early, first}
use Rattle.js_machine.specs.declared.stops.Stop.TheVariants.{Syntax, NotHere, TooDeep}
use Rattle.js_parser.specs.Laws.{Answer, uncut, stopped, made, IsAnswer}
use Rattle.js_parser.specs.Source.{IsSource}
use Rattle.js_parser.specs.Texts.{IsText, is_text}
use Rattle.js_parser.specs.declared.source.SourceFault.TheVariants as source
use Rattle.js_parser.proofs.AnswerThere.{answer_there, refused_for_depth}
use Rattle.js_parser.proofs.TextEntries.{entries_are_texts}
use Rattle.js_tokens.specs.declared.kinds.Token.{Token}
use Rattle.js_tokens.proofs.Whole.{heads-few}
use Rattle.js_tree_laws.proofs.Payments.{trees_are_small}
use Rattle.js_tree_laws.proofs.TreesHold.{trees_are_shallow}
use Rattle.scope_facts.specs.declared.context.Violation.{Violation}
use Rattle.scope_facts.specs.Exact.{eval_name, exact}
use Rattle.scope_facts.specs.Filled.{filled}
use Rattle.scope_facts.proofs.NamesKept.{exact_names}
use Rattle.scope_facts.proofs.Typed.{filled_depth, filled_typed, depth_same, typed_same}
use Rattle.scope_facts.proofs.WholeKept.{exact_whole}
use Rattle.tree_encoder.specs.File.{texts_held}
use Rattle.tree_encoder.specs.Laws.{IsNamedScript}
use Rattle.tree_encoder.proofs.InGrammar.{script_in_grammar}
use Rattle.violations.specs.Violations.{script}

-- the tree of a source, with exact scopes, is a script as the files of the encoder spell them
exact_typed : (texts : List (Option (List ℕ))) (t : Tree) → size t ≤ 2 ^ 28 → typed t ≡ true → typed (exact texts t) ≡ true
exact_typed texts t small is = typed_same (eval_name texts) (filled t) (filled_typed t small is)

exact_shallow : (texts : List (Option (List ℕ))) (t : Tree) → depth t ≤ 512 → depth (exact texts t) ≤ 512
exact_shallow texts t shallow = omega (arith, shallow, depth_same (eval_name texts) (filled t), filled_depth t)

small_source : (input : List ℕ) (texts : List (Option (List ℕ))) (t : Tree) → IsUtf8 input → length input ≤ most_bytes → IsSource input [] texts (Ok t) → size t ≤ 2 ^ 28
small_source input texts t utf8 short s =
    let few : length s.tokens ≤ length input + 1 = subst (λ (ts : List Token). length ts ≤ length input + 1) (sym s.are_tokens.1.1) (heads-few input s.are_tokens.0 utf8 s.are_tokens.1.0)
    in omega (arith, few, short, trees_are_small input s.tokens s.leaves s.events t s.accepted s.image)

entries_are : (texts : List (Option (List ℕ))) → AllByRecursion IsText texts → AllByRecursion IsEntry texts
entries_are [] all = tt
entries_are (None ∷ texts) all = (tt, entries_are texts all.1)
entries_are (Some bytes ∷ texts) all = (is_utf8-from_IsUtf8 bytes all.0, entries_are texts all.1)

named_script : (input : List ℕ) (texts : List (Option (List ℕ))) (t : Tree) → IsUtf8 input → length input ≤ most_bytes → IsSource input [] texts (Ok t) → IsNamedScript (texts_held texts) (exact texts t)
named_script input texts t utf8 short s =
    let facts = source_facts input texts t s
    in record {
      script = exact_kind texts t ∙ facts.script;
      typed = exact_typed texts t (small_source input texts t utf8 short s) facts.typed;
      shallow = exact_shallow texts t (trees_are_shallow s.leaves s.events t s.image);
      whole = exact_whole texts t facts.whole;
      eager = exact_eager texts t facts.eager;
      named = names_are texts (exact texts t) ∙ exact_names texts t (is_text texts) facts.named;
      texts = entries_are texts (entries_are_texts input [] texts (Ok t) utf8 (omega (arith, short)) s tt);
    }

-- so its file is spelled where it is answered
file_spelled : (texts : List (Option (List ℕ))) (t : Tree) (fits : Bool) → nat_le (length (source_file texts t)) most_bytes ≡ fits → IsNamedScript (texts_held texts) (exact texts t)
    → IsSpelled texts t (if fits then output (source_file texts t) else refusal large_file_line)
file_spelled texts t true e is = λ answered. script_in_grammar (texts_held texts) (exact texts t) is (omega (arith, leb-true (length (source_file texts t)) most_bytes e))
file_spelled texts t false e is = λ answered. absurd cc

spelled : (texts : List (Option (List ℕ))) (t : Tree) (o : Option Violation) → IsNamedScript (texts_held texts) (exact texts t) → IsSpelled texts t (early_answer texts t o)
spelled texts t (Some v) is = λ answered. absurd cc
spelled texts t None is = file_spelled texts t (nat_le (length (source_file texts t)) most_bytes) refl is

-- and what the parser answers to the source is an answer of the program
answer_of : (input : List ℕ) (a : Answer) → IsUtf8 input → length input ≤ most_bytes → IsAnswer input [] a → (b : Outcome) × AnswersSource input b
answer_of input (uncut fault) utf8 short is = (refusal (source_line (fault_text (source.Token fault))), no_tree (source.Token fault) [] utf8 (λ e. cc) is)
answer_of input (stopped (Syntax at)) utf8 short is = (refusal (source_line (fault_text (source.Syntax at))), no_tree (source.Syntax at) [] utf8 (λ e. cc) is)
answer_of input (stopped (NotHere at what)) utf8 short is = (refusal (source_line (fault_text (source.NotHere at what))), no_tree (source.NotHere at what) [] utf8 (λ e. cc) is)
answer_of input (stopped (TooDeep at)) utf8 short is = (refusal (source_line (fault_text (source.TooDeep at))), no_tree (source.TooDeep at) [] utf8 (λ e. cc) is)
answer_of input (made texts (Ok t)) utf8 short is = (tree_answer texts t, has_tree texts t utf8 is (spelled texts t (first (early texts script t)) (named_script input texts t utf8 short is)))
answer_of input (made texts (Err f)) utf8 short is =
    (refusal (source_line (fault_text source.DeepTree)), no_tree source.DeepTree texts utf8 (λ e. cc) (subst (λ f. IsSource input [] texts (Err f)) (refused_for_depth input [] texts f is) is))

by_utf8 : (input : List ℕ) (b : Bool) → is_utf8 input ≡ b → length input ≤ most_bytes → (a : Outcome) × AnswersSource input a
by_utf8 input true is short = let a = answer_there input [] in answer_of input a.0 (IsUtf8-from_is_utf8 input is) short a.1
by_utf8 input false is short =
    (refusal (source_line (not_utf8_text (utf8_valid_len input))), no_text (λ utf8. true≢false (sym (is_utf8-from_IsUtf8 input utf8) ∙ is)))

pub source_there : (input : List ℕ) → length input ≤ most_bytes → (a : Outcome) × AnswersSource input a
source_there input short = by_utf8 input (is_utf8 input) refl short
