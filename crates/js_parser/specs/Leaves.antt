-- What the tree needs of the tokens of a text, with the texts as places in a table.
use Rattle.std.specs.Prelude.{◌≡◌, ℕ, List, [], ◌∷◌, ◌++◌, Option, Some, None, decimal}
use Rattle.bast_base.specs.declared.errors.NameId.{NameId}
use Rattle.js_grammar.specs.TokenClasses.{bytes_between}
use Rattle.js_tokens.specs.Values.{value_at, raw_at}
use Rattle.js_tokens.specs.declared.kinds.Token.{Token}
use Rattle.js_tokens.specs.declared.kinds.TokenKind.{TokenKind}
use Rattle.js_tokens.specs.declared.kinds.TokenKind.TheVariants as kinds
use Rattle.js_tree.specs.declared.leaf.Leaf.{Leaf}
use Rattle.string_table.specs.Entries.{added, place_in}

-- the text of a token: of a name as it is spelled, of a number in decimal, the value of a string (11.8.4.2), the raw text of
-- a piece of a template (11.8.6.1)
abbrev pub text_by : List ℕ → Token → TokenKind → Option (List ℕ)
text_by text t kinds.Identifier = Some (bytes_between text t.from t.to)
text_by text t (kinds.Reserved word) = Some (bytes_between text t.from t.to)
text_by text t (kinds.Punctuator mark) = None
text_by text t (kinds.Number n) = Some (decimal n)
text_by text t kinds.Text = Some (value_at text t.from)
text_by text t (kinds.Template piece) = Some (raw_at text t)
text_by text t kinds.End = None

abbrev pub text_of : List ℕ → Token → Option (List ℕ)
text_of text t = text_by text t t.kind

-- the raw text of a string (14.1.1)
abbrev pub raw_by : List ℕ → Token → TokenKind → Option (List ℕ)
raw_by text t kinds.Text = Some (raw_at text t)
raw_by text t kinds.Identifier = None
raw_by text t (kinds.Reserved word) = None
raw_by text t (kinds.Punctuator mark) = None
raw_by text t (kinds.Number n) = None
raw_by text t (kinds.Template piece) = None
raw_by text t kinds.End = None

abbrev pub raw_of : List ℕ → Token → Option (List ℕ)
raw_of text t = raw_by text t t.kind

-- the place of a text in the table, where there is a text
abbrev pub Stands : List (Option (List ℕ)) → Option (List ℕ) → Option NameId → Type 0
Stands entries None None = Unit {0}
Stands entries None (Some n) = ⊥
Stands entries (Some bytes) None = ⊥
Stands entries (Some bytes) (Some n) = place_in entries (Some bytes) ≡ Some n.0

pub record IsLeafOf (text : List ℕ) (entries : List (Option (List ℕ))) (t : Token) (l : Leaf) : Type 0 where
  pub kind : l.kind ≡ t.kind
  pub text_stands : Stands entries (text_of text t) l.text
  pub raw_stands : Stands entries (raw_of text t) l.raw

-- one for each token, in their order
abbrev pub AreLeaves : List ℕ → List (Option (List ℕ)) → List Token → List Leaf → Type 0
AreLeaves text entries [] [] = Unit {0}
AreLeaves text entries (t ∷ ts) (l ∷ ls) = IsLeafOf text entries t l × AreLeaves text entries ts ls
AreLeaves text entries [] (l ∷ ls) = ⊥
AreLeaves text entries (t ∷ ts) [] = ⊥

-- entries were added at the end
abbrev pub Grows : List (Option (List ℕ)) → List (Option (List ℕ)) → Type 0
Grows old new = (added : List (Option (List ℕ))) × (new ≡ old ++ added)

-- the entries with a text, where there is one
abbrev pub with_text : List (Option (List ℕ)) → Option (List ℕ) → List (Option (List ℕ))
with_text entries None = entries
with_text entries (Some bytes) = added entries (Some bytes)

-- the entries with the text of a token, and then with its raw text
abbrev pub with_texts_of : List ℕ → List (Option (List ℕ)) → Token → List (Option (List ℕ))
with_texts_of text entries t = with_text (with_text entries (text_of text t)) (raw_of text t)

-- the entries with the texts of all tokens, in the order of the tokens
abbrev pub with_texts : List ℕ → List (Option (List ℕ)) → List Token → List (Option (List ℕ))
with_texts text entries [] = entries
with_texts text entries (t ∷ ts) = with_texts text (with_texts_of text entries t) ts
