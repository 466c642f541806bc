-- An operand with nothing behind it stays as it is.
use Rattle.std.proofs.Common.{◌≡◌, Bool, true, false, ◌&&◌, List, [], ◌∷◌, Result, Ok, refl, ap, sym, ◌∙◌, if◌then◌else◌, length, ◌==◌, arith}
use Rattle.std.proofs.lemmas.Bool.{eqb-true}
use Rattle.js_grammar.specs.declared.symbols.RowId.{RowId}
use Rattle.js_tree.specs.Finishes.{finish_on, folds}
use Rattle.js_tree.specs.Image.{row_part}
use Rattle.js_tree.specs.Nodes.{Maker}
use Rattle.js_tree.specs.Parts.{behind_top, ends_nothing, is_values, without_no_endings}
use Rattle.js_tree.specs.Recipes.{no_endings, one_symbol, operand_with_tail, recipe}
use Rattle.js_tree.specs.Results.{◌>>=◌}
use Rattle.js_tree.specs.Steps.{gathered, no_work, operand, tail}
use Rattle.js_tree.specs.declared.fault.Fault.{Fault}
use Rattle.js_tree.specs.declared.parts.Ending.{Ending}
use Rattle.js_tree.specs.declared.parts.Part.{Part}
use Rattle.js_tree.specs.declared.parts.Part.TheVariants as parts

not_false : false ≡ true → ⊥
not_false is = cc

none_left : (e : Ending) (es : List Ending) → length (e ∷ es) ≡ 0 → ⊥
none_left e es is = omega arith

first_of : (b : Bool) (x y : Bool × List Part) → x.0 ≡ true → y.0 ≡ false → (if b then x else y).0 ≡ b
first_of true x y p q = p
first_of false x y p q = q

stays : (m : Maker) (ps : List Part) → (without_no_endings ps).0 ≡ true → (gathered m operand_with_tail.0 no_work ps >>= λ g. finish_on m operand_with_tail.1 g.0 g.1) ≡ Ok (without_no_endings ps).1
unfolding operand tail folds
stays m (parts.Values ds raw ∷ parts.Endings [] ∷ ps) is = refl
stays m (parts.Values ds raw ∷ parts.Endings (e ∷ es) ∷ ps) is = absurd (none_left e es (eqb-true (length (e ∷ es)) 0 (sym (first_of (length (e ∷ es) == 0) (true, parts.Values ds raw ∷ ps) (false, parts.Values ds raw ∷ parts.Endings (e ∷ es) ∷ ps) refl refl) ∙ is)))
stays m (parts.Values ds raw ∷ parts.Token l ∷ ps) is = absurd (not_false is)
stays m (parts.Values ds raw ∷ parts.Counted ∷ ps) is = absurd (not_false is)
stays m (parts.Values ds raw ∷ parts.Values es o ∷ ps) is = absurd (not_false is)
stays m (parts.Values ds raw ∷ parts.Items i ∷ ps) is = absurd (not_false is)
stays m (parts.Values ds raw ∷ []) is = absurd (not_false is)
stays m (parts.Token l ∷ ps) is = absurd (not_false is)
stays m (parts.Counted ∷ ps) is = absurd (not_false is)
stays m (parts.Endings es ∷ ps) is = absurd (not_false is)
stays m (parts.Items i ∷ ps) is = absurd (not_false is)
stays m [] is = absurd (not_false is)

abbrev same_result : Bool × List Part → Bool × List Part → Type 0
same_result x y = ◌≡◌ {A = Result (Bool × List Part) Fault} (Ok x) (Ok y)

the_same : (x y : Bool × List Part) → same_result x y → x ≡ y
the_same x y made = cc

pub nothing_folds : (m : Maker) (r : RowId) (ps : List Part) (b : Bool) (qs : List Part) → recipe r ≡ operand_with_tail → same_result (without_no_endings ps) (b, qs) → b ≡ true → row_part m r ps ≡ Ok qs
unfolding row_part
nothing_folds m r ps b qs is made some = ap (λ x. gathered m x.0 no_work ps >>= λ g. finish_on m x.1 g.0 g.1) is ∙ stays m ps (ap (λ x. x.0) (the_same (without_no_endings ps) (b, qs) made) ∙ some) ∙ ap (λ x. Ok x.1) (the_same (without_no_endings ps) (b, qs) made)

pub none_put : (m : Maker) (r : RowId) (ps : List Part) → recipe r ≡ no_endings → row_part m r ps ≡ Ok (parts.Endings [] ∷ ps)
unfolding row_part
none_put m r ps is = ap (λ x. gathered m x.0 no_work ps >>= λ g. finish_on m x.1 g.0 g.1) is

pub symbol_stays : (m : Maker) (r : RowId) (ps : List Part) → recipe r ≡ one_symbol → row_part m r ps ≡ Ok ps
unfolding row_part
symbol_stays m r ps is = ap (λ x. gathered m x.0 no_work ps >>= λ g. finish_on m x.1 g.0 g.1) is

kept : (b : Bool) (p : Part) (ps qs : List Part) → ◌≡◌ {A = Bool × List Part} (if b then (true, p ∷ behind_top ps) else (false, p ∷ ps)) (false, qs) → p ∷ ps ≡ qs
kept true p ps qs is = absurd (not_false (sym (ap (λ x. x.0) is)))
kept false p ps qs is = ap (λ x. x.1) is

pub something_stays : (ps : List Part) (b : Bool) (qs : List Part) → same_result (without_no_endings ps) (b, qs) → b ≡ false → ps ≡ qs
something_stays [] b qs made none = ap (λ x. x.1) (the_same (false, []) (b, qs) made)
something_stays (p ∷ ps) b qs made none = kept (is_values p && ends_nothing ps) p ps qs (the_same (without_no_endings (p ∷ ps)) (b, qs) made ∙ ap (λ c. (c, qs)) none)
