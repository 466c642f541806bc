-- A text and a table have an answer.
use Rattle.std.proofs.Common.{ℕ, Bool, true, false, List, [], ◌∷◌, ◌++◌, Option, Some, None, Result, Ok, Err, ◌≡◌, ◌<◌, ◌≤◌, inl, inr, refl, length, if◌then◌else◌}
use Rattle.std.specs.Prelude.{is_some}
use Rattle.std.specs.Str.{chars}
use Rattle.std.proofs.lemmas.Bool.{cases_lt}
use Rattle.bast_schema.specs.Tree.{Tree, depth}
use Rattle.bast_base.specs.declared.errors.NameId.{NameId}
use Rattle.js_machine.specs.Lookahead.{seen}
use Rattle.js_machine.specs.Machine.{Outcome, Accepted, Stopped, Ends, start}
use Rattle.js_machine.proofs.Ended.{ends_from}
use Rattle.js_parser.specs.Laws.{Answer, uncut, stopped, made, IsAnswer}
use Rattle.js_parser.specs.Leaves.{AreLeaves, Grows, IsLeafOf, Stands, raw_of, text_of, with_text, with_texts, with_texts_of}
use Rattle.js_parser.specs.Source.{IsSource}
use Rattle.js_parser.proofs.OneAnswer.{has_tree}
use Rattle.js_parser.proofs.LeafLists.{grown, grown_leaf, grows_none, grows_on}
use Rattle.js_tokens.specs.Cut.{CutOf}
use Rattle.js_tokens.specs.Heads.{with_heads}
use Rattle.js_tokens.specs.Tokens.{AreTokens}
use Rattle.js_tokens.specs.declared.kinds.Token.{Token}
use Rattle.js_tokens.proofs.Faults.{no_memory}
use Rattle.js_tokens.proofs.OneCut.{either}
use Rattle.js_tree.specs.Image.{tree_of}
use Rattle.js_tree.specs.Nodes.{limited}
use Rattle.js_tree.specs.declared.fault.Fault.{Fault}
use Rattle.js_tree.specs.declared.fault.Fault.TheVariants as faults
use Rattle.js_tree.specs.declared.leaf.Leaf.{Leaf}
use Rattle.string_table.specs.Entries.{added_name, place_in, place_of}
use Rattle.string_table.proofs.Laws.{place_in-added}

-- the table grows
grows_if : (b : Bool) (entries others : List (Option (List ℕ))) → Grows entries (if b then entries else entries ++ others)
grows_if true entries others = grows_none entries
grows_if false entries others = (others, refl)

text_grows : (entries : List (Option (List ℕ))) (o : Option (List ℕ)) → Grows entries (with_text entries o)
text_grows entries None = grows_none entries
text_grows entries (Some bytes) = grows_if (is_some (place_in entries (Some bytes))) entries (Some bytes ∷ [])

texts_grow : (text : List ℕ) (entries : List (Option (List ℕ))) (ts : List Token) → Grows entries (with_texts text entries ts)
texts_grow text entries [] = grows_none entries
texts_grow text entries (t ∷ ts) =
    let first = with_text entries (text_of text t)
    in let both = with_texts_of text entries t
    in grows_on entries first (with_texts text both ts) (text_grows entries (text_of text t)) (grows_on first both (with_texts text both ts) (text_grows first (raw_of text t)) (texts_grow text both ts))

-- and each token has a leaf over it
place_there : (entries : List (Option (List ℕ))) (o : Option (List ℕ)) → (n : Option NameId) × Stands (with_text entries o) o n
place_there entries None = (None, tt)
place_there entries (Some bytes) = (Some (record { 0 = place_of (added_name entries (Some bytes)) }), place_in-added entries (Some bytes))

leaf_there : (text : List ℕ) (entries : List (Option (List ℕ))) (t : Token) → (l : Leaf) × IsLeafOf text (with_texts_of text entries t) t l
leaf_there text entries t =
    let first = with_text entries (text_of text t)
    in let n = place_there entries (text_of text t)
    in let raw = place_there first (raw_of text t)
    in (
      record { kind = t.kind; text = n.0; raw = raw.0 },
      record { kind = refl; text_stands = grown first (with_texts_of text entries t) (text_of text t) n.0 (text_grows first (raw_of text t)) n.1; raw_stands = raw.1 },
    )

leaves_there : (text : List ℕ) (entries : List (Option (List ℕ))) (ts : List Token) → (ls : List Leaf) × AreLeaves text (with_texts text entries ts) ts ls
leaves_there text entries [] = ([], tt)
leaves_there text entries (t ∷ ts) =
    let both = with_texts_of text entries t
    in let l = leaf_there text entries t
    in let rest = leaves_there text both ts
    in (l.0 ∷ rest.0, (grown_leaf text both (with_texts text both ts) t l.0 (texts_grow text both ts) l.1, rest.1))

-- so a text has an answer by the end of the machine's run over its tokens, or else by its first fault
by_end : (text : List ℕ) (old : List (Option (List ℕ))) (ts : List Token) (end : Outcome) → AreTokens text ts → Ends text ts end → (a : Answer) × IsAnswer text old a
by_end text old ts (Stopped stop) are ends = (stopped stop, record { tokens = ts; are_tokens = are; stopped = ends })
by_end text old ts (Accepted events) are ends =
    let ls = leaves_there text old ts
    in (
      made (with_texts text old ts) (tree_of limited ls.0 events),
      record { tokens = ts; events = events; leaves = ls.0; are_tokens = are; accepted = ends; table = refl; are_leaves = ls.1; image = refl },
    )

by_cut : (text : List ℕ) (old : List (Option (List ℕ))) (cut : List Token) → CutOf text cut → (a : Answer) × IsAnswer text old a
by_cut text old cut is =
    let end = ends_from (length text) (seen text (with_heads cut)) start
    in by_end text old (with_heads cut) end.0 (cut, (is, refl)) (end.1, end.2)

pub answer_there : (text : List ℕ) (old : List (Option (List ℕ))) → (a : Answer) × IsAnswer text old a
answer_there text old =
    elim (either (chars text)) [ inl x ↦ by_cut text old x.0 x.1 | inr x ↦ (uncut x.0, record { first = x.1; no_memory = no_memory x.1 }) ]

-- and what it is refused for, where the machine accepts it, is its depth
not_refused : {A : Type 0} (r : Result Tree Fault) (t : Tree) (f : Fault) → r ≡ Ok t → r ≡ Err f → A
not_refused r t f fine refused = absurd cc

one_refusal : (r : Result Tree Fault) (f g : Fault) → r ≡ Err f → r ≡ Err g → f ≡ g
one_refusal r f g p q = cc

pub refused_for_depth : (text : List ℕ) (old new : List (Option (List ℕ))) (f : Fault) → IsSource text old new (Err f) → f ≡ faults.TooDeep
refused_for_depth text old new f s =
    let has = has_tree limited text old new (Err f) s in
    elim (cases_lt 512 (depth has.tree)) [
      | inl deep ↦ one_refusal (tree_of limited s.leaves s.events) f faults.TooDeep s.image (has.deep deep)
      | inr shallow ↦ not_refused (tree_of limited s.leaves s.events) has.tree f (has.shallow shallow) s.image
    ]
