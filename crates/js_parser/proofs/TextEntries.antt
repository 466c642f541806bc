-- What is added to a table is a text.
use Rattle.std.proofs.Common.{◌≡◌, ℕ, suc, ◌≤◌, ◌^◌, Bool, true, false, List, [], ◌∷◌, ◌++◌, Option, Some, None, Result, sym, subst, length, arith, if◌then◌else◌}
use Rattle.std.specs.Prelude.{is_some, decimal}
use Rattle.std.specs.List.{All, AllByRecursion}
use Rattle.std.specs.Str.{IsUtf8}
use Rattle.std.proofs.lemmas.Bool.{ltb-true}
use Rattle.std.proofs.lemmas.Fmt.{IsAscii-decimal}
use Rattle.std.proofs.lemmas.Str.{IsUtf8-between, IsUtf8-drop, IsUtf8-from_ascii}
use Rattle.bast_schema.specs.Tree.{Tree}
use Rattle.js_parser.specs.Leaves.{raw_by, raw_of, text_by, text_of, with_text, with_texts, with_texts_of}
use Rattle.js_parser.specs.Source.{IsSource}
use Rattle.js_parser.specs.Texts.{IsText}
use Rattle.js_tokens.specs.Values.{IsTokenOf}
use Rattle.js_tokens.specs.declared.kinds.Token.{Token}
use Rattle.js_tokens.specs.declared.kinds.TokenKind.{TokenKind}
use Rattle.js_tokens.specs.declared.kinds.TokenKind.TheVariants as kinds
use Rattle.js_tokens.proofs.Scalars.{raw_is_text, value_is_text}
use Rattle.js_tokens.proofs.Whole.{each_of, heads-each, stands_whole}
use Rattle.js_tree_laws.proofs.Small.{AreSmall, is_small, tokens_small}
use Rattle.js_tree.specs.declared.fault.Fault.{Fault}
use Rattle.string_table.specs.Entries.{place_in}

-- the texts of a token of a text
text_is : (text : List ℕ) (t : Token) (k : TokenKind) → IsUtf8 text → IsTokenOf text t → is_small k ≡ true → IsText (text_by text t k)
text_is text t (kinds.Punctuator m) utf8 is small = tt
text_is text t (kinds.Number n) utf8 is small = IsUtf8-from_ascii (decimal n) (IsAscii-decimal n (omega (arith, ltb-true n (2 ^ 53) small)))
text_is text t kinds.Text utf8 is small = value_is_text text t.from (IsUtf8-drop text t.from utf8 is.within.start)
text_is text t (kinds.Template p) utf8 is small = raw_is_text text t (IsUtf8-drop text t.from utf8 is.within.start)
text_is text t kinds.End utf8 is small = tt
text_is text t _ utf8 is small = IsUtf8-between text t.from t.to utf8 is.within.ordered is.within.start is.within.stop

raw_is : (text : List ℕ) (t : Token) (k : TokenKind) → IsUtf8 text → IsTokenOf text t → IsText (raw_by text t k)
raw_is text t kinds.Text utf8 is = raw_is_text text t (IsUtf8-drop text t.from utf8 is.within.start)
raw_is text t _ utf8 is = tt

-- so the entries of a table that has grown by them are texts
with_last : (entries : List (Option (List ℕ))) (entry : Option (List ℕ)) → AllByRecursion IsText entries → IsText entry → AllByRecursion IsText (entries ++ entry ∷ [])
with_last [] entry all one = (one, tt)
with_last (e ∷ entries) entry all one = (all.0, with_last entries entry all.1 one)

unless_there : (b : Bool) (entries : List (Option (List ℕ))) (entry : Option (List ℕ)) → AllByRecursion IsText entries → IsText entry → AllByRecursion IsText (if b then entries else entries ++ entry ∷ [])
unless_there true entries entry all one = all
unless_there false entries entry all one = with_last entries entry all one

with_one : (entries : List (Option (List ℕ))) (o : Option (List ℕ)) → IsText o → AllByRecursion IsText entries → AllByRecursion IsText (with_text entries o)
with_one entries None is all = all
with_one entries (Some bytes) is all = unless_there (is_some (place_in entries (Some bytes))) entries (Some bytes) all is

with_each : (text : List ℕ) (entries : List (Option (List ℕ))) (ts : List Token) → IsUtf8 text → All (IsTokenOf text) ts → AreSmall ts → AllByRecursion IsText entries → AllByRecursion IsText (with_texts text entries ts)
with_each text entries [] utf8 are small all = all
with_each text entries (t ∷ ts) utf8 are small all =
    let is : IsTokenOf text t = are 0 t (omega arith)
    in with_each text (with_texts_of text entries t) ts utf8 (λ k d l. are (suc k) d (omega (arith, l))) small.1
    (with_one (with_text entries (text_of text t)) (raw_of text t) (raw_is text t t.kind utf8 is) (with_one entries (text_of text t) (text_is text t t.kind utf8 is small.0) all))

pub entries_are_texts : (text : List ℕ) (old new : List (Option (List ℕ))) (made : Result Tree Fault) → IsUtf8 text → length text ≤ 2 ^ 31 → IsSource text old new made
    → AllByRecursion IsText old → AllByRecursion IsText new
entries_are_texts text old new made utf8 short s all =
    let cut = s.are_tokens.0
    in let are = subst (All (IsTokenOf text)) (sym s.are_tokens.1.1) (heads-each text cut (each_of text short (stands_whole text utf8) s.are_tokens.1.0))
    in let small = subst AreSmall (sym s.are_tokens.1.1) (tokens_small text cut s.are_tokens.1.0)
    in subst (AllByRecursion IsText) (sym s.table) (with_each text old s.tokens utf8 are small all)
