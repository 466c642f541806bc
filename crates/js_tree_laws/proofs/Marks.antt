-- The tokens of a text tell what the stack waits for, and their leaves what the recipes ask of them.
use Rattle.std.proofs.Common.{◌≡◌, ℕ, zero, suc, Bool, true, false, not, ◌&&◌, ◌||◌, cond, List, [], ◌∷◌, refl, ap, ◌∙◌, sym}
use Rattle.js_tokens.specs.declared.kinds.Token.{Token}
use Rattle.js_tokens.specs.declared.kinds.TokenKind.{TokenKind}
use Rattle.js_tokens.specs.declared.kinds.TokenKind.TheVariants as tokens
use Rattle.js_tokens.specs.declared.kinds.Word.TheVariants as words
use Rattle.js_tokens.specs.declared.kinds.Mark.{Mark}
use Rattle.js_tokens.specs.declared.kinds.Mark.TheVariants as marks
use Rattle.js_tokens.specs.declared.kinds.Piece.TheVariants as pieces
use Rattle.js_tokens.specs.declared.heads.Role.{Role}
use Rattle.js_tokens.specs.declared.heads.Role.TheVariants.{Opens, Closes as Closing, Arrow, Other}
use Rattle.js_tokens.specs.Heads.{at_role, is_opening, is_arrow, role_of, arrow_next, arrow_behind, with_heads, is_head as is_head_of}
use Rattle.js_grammar.specs.declared.class.Class.{Class}
use Rattle.js_grammar.specs.declared.class.Class.TheVariants as classes
use Rattle.js_grammar.specs.Classes.{is_among}
use Rattle.js_grammar.specs.TokenClasses.{class_of_kind, class_of_identifier, class_of_mark, bytes_between}
use Rattle.js_machine.specs.Lookahead.{seen}
use Rattle.js_tree_laws.proofs.Shapes.{and_right}
use Rattle.js_tree_laws.proofs.Suits.{is_head}
use Rattle.js_tree_laws.proofs.Heads.{role_of_class, arrow_at, behind, Marked, is_other, other_is, not_not}
use Rattle.std.specs.List.{list_all}
use Rattle.js_tree_laws.proofs.Sorts.{name_classes, word_classes}
use Rattle.js_tree_laws.proofs.Safe.{among_all}

-- one of four classes
of_four : (P : Class → Type 0) (a b d : Bool) → P classes.Of → P classes.Get → P classes.Set → P classes.Identifier → P (cond a classes.Of (cond b classes.Get (cond d classes.Set classes.Identifier)))
of_four P true b d p q r s = p
of_four P false true d p q r s = q
of_four P false false true p q r s = r
of_four P false false false p q r s = s

pub identifier_class : (P : Class → Type 0) (name : List ℕ) → P classes.Of → P classes.Get → P classes.Set → P classes.Identifier → P (class_of_identifier name)
identifier_class P name p q r s = of_four P _ _ _ p q r s

abbrev pub is_mark : TokenKind → Bool
is_mark (tokens.Punctuator m) = true
is_mark _ = false

-- the classes of the tokens of a kind
abbrev pub kind_classes : TokenKind → List Class
kind_classes (tokens.Reserved w) = word_classes
kind_classes (tokens.Number n) = classes.Number ∷ []
kind_classes _ = classes.End ∷ name_classes

kind_class : (text : List ℕ) (t : Token) (k : TokenKind) → is_mark k ≡ false → is_among (class_of_kind text t k) (kind_classes k) ≡ true
kind_class text t tokens.Identifier e = identifier_class (λ c. is_among c (classes.End ∷ name_classes) ≡ true) (bytes_between text t.from t.to) refl refl refl refl
kind_class text t (tokens.Reserved words.Break) e = refl
kind_class text t (tokens.Reserved _) e = refl
kind_class text t (tokens.Punctuator m) e = cc
kind_class text t (tokens.Template pieces.Whole) e = refl
kind_class text t (tokens.Template _) e = refl
kind_class text t _ e = refl

-- what is so of these classes is so of the token
pub by_kind : (p : Class → Bool) (text : List ℕ) (t : Token) (k : TokenKind) → list_all p (kind_classes k) ≡ true → is_mark k ≡ false → p (class_of_kind text t k) ≡ true
by_kind p text t k all e = among_all p (kind_classes k) (class_of_kind text t k) (kind_class text t k e) all

abbrev SameRole : Role → Role → Type 0
SameRole a b = (d : ℕ) (here : Bool) (on : ℕ → Bool) → at_role a d here on ≡ at_role b d here on

mark_role : (m : Mark) (h : Bool) → SameRole (role_of_class (class_of_mark m h)) (role_of (tokens.Punctuator m))
mark_role marks.OpenParen true d here on = refl
mark_role marks.OpenParen false d here on = refl
mark_role _ h d here on = refl

class_role : (text : List ℕ) (t : Token) (k : TokenKind) → SameRole (role_of_class (class_of_kind text t k)) (role_of k)
class_role text t (tokens.Punctuator m) d here on = mark_role m t.head d here on
class_role text t k d here on = ap (λ r. at_role r d here on) (sym (other_is (role_of_class (class_of_kind text t k)) (by_kind (λ c. is_other (role_of_class c)) text t k refl refl)))

abbrev is_arrow_class : Class → Bool
is_arrow_class c = is_among c (classes.Arrow ∷ [])

mark_arrow : (m : Mark) (h : Bool) → is_arrow_class (class_of_mark m h) ≡ is_arrow (role_of (tokens.Punctuator m))
mark_arrow marks.OpenParen true = refl
mark_arrow marks.OpenParen false = refl
mark_arrow _ h = refl

class_arrow : (text : List ℕ) (t : Token) (k : TokenKind) → is_arrow_class (class_of_kind text t k) ≡ is_arrow (role_of k)
class_arrow text t (tokens.Punctuator m) = mark_arrow m t.head
class_arrow text t k = not_not (is_arrow_class (class_of_kind text t k)) (by_kind (λ c. not (is_arrow_class c)) text t k refl refl)

not_or : (a b : Bool) → not (not a || b) ≡ (a && not b)
not_or true b = refl
not_or false b = refl

arrow_same : (text : List ℕ) (us : List Token) → arrow_at (seen text (with_heads us)) ≡ arrow_next us
arrow_same text [] = refl
arrow_same text (u ∷ us) =
    not_or (is_arrow_class (class_of_kind text (record u { head = is_head_of u us }) u.kind)) u.newline_before ∙ ap (λ b. b && not u.newline_before) (class_arrow text (record u { head = is_head_of u us }) u.kind)

at_both : (r : Role) (d : ℕ) (here there : Bool) (on off : ℕ → Bool) → here ≡ there → ((e : ℕ) → on e ≡ off e) → at_role r d here on ≡ at_role r d there off
at_both Opens d here there on off e same = same (suc d)
at_both Closing zero here there on off e same = e
at_both Closing (suc d) here there on off e same = same d
at_both Arrow d here there on off e same = same d
at_both Other d here there on off e same = same d

behind_same : (text : List ℕ) (us : List Token) (d : ℕ) → behind d (seen text (with_heads us)) ≡ arrow_behind d us
behind_same text [] d = refl
behind_same text (u ∷ us) d =
    class_role text (record u { head = is_head_of u us }) u.kind d (arrow_at (seen text (with_heads us))) (λ e. behind e (seen text (with_heads us)))
    ∙ at_both (role_of u.kind) d (arrow_at (seen text (with_heads us))) (arrow_next us) (λ e. behind e (seen text (with_heads us))) (λ e. arrow_behind e us) (arrow_same text us) (behind_same text us)

mark_head : (m : Mark) (h : Bool) → is_head (class_of_mark m h) ≡ true → h ≡ true
mark_head marks.OpenParen true e = refl
mark_head marks.OpenParen false e = cc
mark_head _ h e = cc

marked_head : (text : List ℕ) (t : Token) (k : TokenKind) → is_head (class_of_kind text t k) ≡ true → t.head ≡ true
marked_head text t (tokens.Punctuator m) e = mark_head m t.head e
marked_head text t k e = let other : is_head (class_of_kind text t k) ≡ false = not_not (is_head (class_of_kind text t k)) (by_kind (λ c. not (is_head c)) text t k refl refl) in cc

-- the heads among the tokens of a text are marked
pub tokens_marked : (text : List ℕ) (us : List Token) → Marked (seen text (with_heads us))
tokens_marked text [] = tt
tokens_marked text (u ∷ us) =
    (λ e. behind_same text us 0 ∙ and_right (is_opening (role_of u.kind)) (arrow_behind zero us) (marked_head text (record u { head = is_head_of u us }) u.kind e), tokens_marked text us)
