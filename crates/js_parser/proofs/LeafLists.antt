-- Leaves stay what they are while the table grows.
use Rattle.std.proofs.Common.{ℕ, List, [], ◌∷◌, ◌++◌, Option, Some, None, sym, ap, ◌∙◌, append_assoc, take, drop, drop-cons, add-one, length, get_or, ◌<◌, ◌+◌, ◌≡◌}
use Rattle.std.proofs.lemmas.List.{append-nil, take_more}
use Rattle.bast_base.specs.declared.errors.NameId.{NameId}
use Rattle.js_parser.specs.Leaves.{AreLeaves, Grows, IsLeafOf, Stands, raw_of, text_of, with_texts, with_texts_of}
use Rattle.js_tokens.specs.declared.kinds.Token.{Token}
use Rattle.js_tree.specs.declared.leaf.Leaf.{Leaf}
use Rattle.string_table.proofs.Laws.{place_in-append}

pub grown : (old new : List (Option (List ℕ))) (text : Option (List ℕ)) (n : Option NameId) → Grows old new → Stands old text n → Stands new text n
grown old new None None grows stands = tt
grown old new None (Some n) grows stands = absurd stands
grown old new (Some bytes) None grows stands = absurd stands
grown old new (Some bytes) (Some n) grows stands = rw (grows.1) (place_in-append old grows.0 (Some bytes) n.0 stands)

pub grown_leaf : (text : List ℕ) (old new : List (Option (List ℕ))) (t : Token) (l : Leaf) → Grows old new → IsLeafOf text old t l → IsLeafOf text new t l
grown_leaf text old new t l grows is = record {
  kind = is.kind;
  text_stands = grown old new (text_of text t) l.text grows is.text_stands;
  raw_stands = grown old new (raw_of text t) l.raw grows is.raw_stands;
}

pub grown_leaves : (text : List ℕ) (old new : List (Option (List ℕ))) (ts : List Token) (ls : List Leaf) → Grows old new → AreLeaves text old ts ls → AreLeaves text new ts ls
grown_leaves text old new [] [] grows are = tt
grown_leaves text old new (t ∷ ts) (l ∷ ls) grows are = (grown_leaf text old new t l grows are.0, grown_leaves text old new ts ls grows are.1)
grown_leaves text old new [] (l ∷ ls) grows are = absurd are
grown_leaves text old new (t ∷ ts) [] grows are = absurd are

pub one_more : (text : List ℕ) (entries : List (Option (List ℕ))) (ts : List Token) (ls : List Leaf) (t : Token) (l : Leaf) → AreLeaves text entries ts ls → IsLeafOf text entries t l → AreLeaves text entries (ts ++ t ∷ []) (ls ++ l ∷ [])
one_more text entries [] [] t l are is = (is, tt)
one_more text entries (u ∷ ts) (m ∷ ls) t l are is = (are.0, one_more text entries ts ls t l are.1 is)
one_more text entries [] (m ∷ ls) t l are is = absurd are
one_more text entries (u ∷ ts) [] t l are is = absurd are

pub grows_none : (es : List (Option (List ℕ))) → Grows es es
grows_none es = ([], sym (append-nil es))

pub grows_on : (a b c : List (Option (List ℕ))) → Grows a b → Grows b c → Grows a c
grows_on a b c first second = (first.0 ++ second.0, second.1 ∙ ap (λ x. x ++ second.0) first.1 ∙ append_assoc a first.0 second.0)

-- the leaf of the token at a place is added to those of the tokens before it
pub next_leaf : (text : List ℕ) (old new : List (Option (List ℕ))) (ts : List Token) (i : ℕ) (d : Token) (ls : List Leaf) (l : Leaf)
    → i < length ts → Grows old new → AreLeaves text old (take i ts) ls → IsLeafOf text new (get_or ts i d) l → AreLeaves text new (take (i + 1) ts) (ls ++ l ∷ [])
next_leaf text old new ts i d ls l below grows are is =
    rw (take_more ts i d below) (one_more text new (take i ts) ls (get_or ts i d) l (grown_leaves text old new (take i ts) ls grows are) is)

-- the texts of the tokens from a place on are those of the token there and of the tokens behind it
pub next_table : (text : List ℕ) (old new first : List (Option (List ℕ))) (ts : List Token) (i : ℕ) (d : Token)
    → i < length ts → new ≡ with_texts_of text old (get_or ts i d) → with_texts text old (drop i ts) ≡ with_texts text first ts → with_texts text new (drop (i + 1) ts) ≡ with_texts text first ts
next_table text old new first ts i d below made before =
    ap (λ es. with_texts text es (drop (i + 1) ts)) made ∙ ap (λ j. with_texts text (with_texts_of text old (get_or ts i d)) (drop j ts)) (add-one i)
    ∙ sym (ap (with_texts text old) (drop-cons ts i d below)) ∙ before
