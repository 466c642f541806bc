-- Laws of the cut of a text.
use Rattle.std.specs.Prelude.{◌≡◌, ℕ, ◌^◌, ◌<◌, ◌≤◌, Bool, true, ◌⊎◌, List, [], ◌∷◌, length, drop, take, Some, Ok}
use Rattle.std.specs.Str.{IsUtf8, chars}
use Rattle.std.specs.List.{All}
use Rattle.js_tokens.specs.Place.{Place}
use Rattle.js_tokens.specs.Classes.{is_start, ends_number}
use Rattle.js_tokens.specs.Words.{is_name}
use Rattle.js_tokens.specs.Numbers.{number_at}
use Rattle.js_tokens.specs.Marks.{punctuators, mark_among, begins_with}
use Rattle.js_tokens.specs.Scan.{scan_at}
use Rattle.js_tokens.specs.Cut.{FirstFault, name_at}
use Rattle.js_tokens.specs.Span.{Passes}
use Rattle.js_tokens.specs.Tokens.{AreTokens}
use Rattle.js_tokens.specs.Values.{value_at, raw_at}
use Rattle.js_tokens.specs.declared.kinds.Mark.{Mark}
use Rattle.js_tokens.specs.declared.kinds.Token.{Token}
use Rattle.js_tokens.specs.declared.kinds.TokenFault.{TokenFault}
use Rattle.js_tokens.specs.declared.kinds.TokenFault.TheVariants as faults
use Rattle.js_tokens.specs.declared.scan.Item.TheVariants as items

-- a text has at most one list of tokens, and at most one first fault
abbrev pub HasOneCut : Type 0
HasOneCut = (text : List ℕ) (ts us : List Token) → AreTokens text ts → AreTokens text us → ts ≡ us

abbrev pub HasOneFault : Type 0
HasOneFault = (text : List ℕ) (e f : TokenFault) → FirstFault text e → FirstFault text f → e ≡ f

-- it has never both, and always one of them
abbrev pub HasNotBoth : Type 0
HasNotBoth = (text : List ℕ) (ts : List Token) (f : TokenFault) → AreTokens text ts → FirstFault text f → ⊥

abbrev pub HasEither : Type 0
HasEither = (text : List ℕ) → ((ts : List Token) × AreTokens text ts) ⊎ ((f : TokenFault) × FirstFault text f)

-- a first fault is no want of memory
abbrev pub FaultsAreOfTheText : Type 0
FaultsAreOfTheText = (text : List ℕ) (f : TokenFault) → FirstFault text f → f ≡ faults.Memory → ⊥

-- from a place on the text is made of gaps and these tokens: nothing is left out, and nothing stands in two of them
pub data Tiles : List ℕ → ℕ → List Token → Type 0 where
  end : {at : ℕ} {t : Token} → t.from ≡ at → t.to ≡ at → Tiles [] at (t ∷ [])
  gap : {cs : List ℕ} {at : ℕ} {p : Place} {ts : List Token} (inside newline : Bool) → scan_at inside cs at ≡ Ok (items.Gap newline, p) → Passes cs at p.chars p.at → Tiles p.chars p.at ts → Tiles cs at ts
  token : {cs ds : List ℕ} {at : ℕ} {t : Token} {ts : List Token} → t.from ≡ at → Passes cs at ds t.to → Tiles ds t.to ts → Tiles cs at (t ∷ ts)

abbrev pub AreTheText : Type 0
AreTheText = (text : List ℕ) (ts : List Token) → AreTokens text ts → Tiles (chars text) 0 ts

-- no longer name begins where a name stands, and what stands there is a name
abbrev pub IsLongestName : Type 0
IsLongestName = (c : ℕ) (cs : List ℕ) → is_start c ≡ true → (is_name (name_at (c ∷ cs)) ≡ true) × ((n : ℕ) → n ≤ length (c ∷ cs) → is_name (take n (c ∷ cs)) ≡ true → n ≤ length (name_at (c ∷ cs)))

-- no longer punctuator begins where one stands
abbrev pub IsLongestMark : Type 0
IsLongestMark = (cs : List ℕ) (found : List ℕ × Mark) → mark_among punctuators cs ≡ Some found → (begins_with found.0 cs ≡ true) × All (λ m. begins_with m.0 cs ≡ true → length m.0 ≤ length found.0) punctuators

-- what could go on with a number does not follow one, and its value is below 2^53
abbrev pub IsWholeNumber : Type 0
IsWholeNumber = (c : ℕ) (p q : Place) (start value : ℕ) → number_at c p start ≡ Ok (value, q) → (ends_number q.chars ≡ true) × (value < 2 ^ 53)

-- the value of a string that begins within a text is a text, and so is the raw text of a token
abbrev pub ValuesAreTexts : Type 0
ValuesAreTexts = (text : List ℕ) (from : ℕ) → IsUtf8 (drop from text) → IsUtf8 (value_at text from)

abbrev pub RawTextsAreTexts : Type 0
RawTextsAreTexts = (text : List ℕ) (t : Token) → IsUtf8 (drop t.from text) → IsUtf8 (raw_at text t)
