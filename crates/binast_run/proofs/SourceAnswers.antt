-- The answers to a source, and that it has one.
use Rattle.std.proofs.Common.{◌≡◌, ℕ, List, [], Option, Some, None, Result, Ok, Err, IfOk, refl, subst, sym, ap, ◌∙◌}
use Rattle.std.specs.Str.{IsUtf8}
use Rattle.std.specs.Str.Lossy.{utf8_valid_len}
use Rattle.bast_schema.specs.Tree.{Tree}
use Rattle.binast_run.specs.Answer.{Answer as Outcome, refusal}
use Rattle.binast_run.specs.SourceLines.{fault_text, not_utf8_text, source_line}
use Rattle.binast_run.specs.Sources.{AnswersSource, IsSpelled, no_text, no_tree, has_tree, tree_answer}
use Rattle.js_parser.specs.Laws.{Answer, uncut, stopped, made, IsAnswer}
use Rattle.js_parser.specs.Source.{IsRefused, IsSource, fault_of}
use Rattle.js_parser.specs.declared.source.SourceFault.{SourceFault}
use Rattle.js_parser.specs.declared.source.SourceFault.TheVariants as source
use Rattle.js_parser.proofs.OneAnswer.{one_answer as one_of_text, one_tree}
use Rattle.js_machine.specs.declared.stops.Stop.TheVariants.{Syntax, NotHere, TooDeep}
use Rattle.js_tree.specs.declared.fault.Fault.{Fault}
use Rattle.js_tree.specs.declared.fault.Fault.TheVariants as faults
use Rattle.bast_base.specs.declared.errors.Memory.{Memory}
use Rattle.binast_run.specs.declared.outcome.Outcome.{Outcome as Made}
use Rattle.binast_run.specs.Outcome.{answer_in}

pub text_answer : (input : List ℕ) (at : ℕ) (a : Outcome) (line : List ℕ) → (IsUtf8 input → ⊥) → at ≡ utf8_valid_len input → a ≡ refusal line → line ≡ source_line (not_utf8_text at)
    → AnswersSource input a
text_answer input at a line not_utf8 is answer told =
    subst (λ (x : Outcome). AnswersSource input x) (sym (answer ∙ ap refusal (told ∙ ap (λ (n : ℕ). source_line (not_utf8_text n)) is))) (no_text not_utf8)

fault_answer : (input text : List ℕ) (none texts : List (Option (List ℕ))) (fault : SourceFault) (a : Outcome) → text ≡ input → none ≡ [] → IsUtf8 input
    → IsRefused text none texts fault → (fault ≡ source.Memory → ⊥) × (a ≡ refusal (source_line (fault_text fault))) → AnswersSource input a
fault_answer input text none texts fault a same is_none is refused answer =
    subst (λ (x : Outcome). AnswersSource input x) (sym answer.1) (no_tree fault texts is answer.0 (rw (same, is_none) at refused))

made_answer : (input text : List ℕ) (none texts : List (Option (List ℕ))) (t : Tree) (a : Outcome) → text ≡ input → none ≡ [] → IsUtf8 input → IsSource text none texts (Ok t)
    → a ≡ tree_answer texts t → IsSpelled texts t a → AnswersSource input a
made_answer input text none texts t a same is_none is source answer spelled =
    subst (λ (x : Outcome). AnswersSource input x) (sym answer) (has_tree texts t is (rw (same, is_none) at source) (rw answer at spelled))

-- what was made of the tree of a text answers the source, where memory did not run out
pub made_answers : (input text : List ℕ) (none texts : List (Option (List ℕ))) (t : Tree) (r : Result Made Memory) → text ≡ input → none ≡ [] → IsUtf8 input → IsSource text none texts (Ok t)
    → IfOk r (λ outcome. answer_in outcome ≡ tree_answer texts t) → IfOk r (λ outcome. IsSpelled texts t (answer_in outcome))
    → IfOk r (λ outcome. AnswersSource input (answer_in outcome))
made_answers input text none texts t (Ok outcome) same is_none is source answer spelled = made_answer input text none texts t (answer_in outcome) same is_none is source answer spelled
made_answers input text none texts t (Err e) same is_none is source answer spelled = tt

-- and so does the line of its refusal
pub fault_answers : (input text : List ℕ) (none texts : List (Option (List ℕ))) (fault : SourceFault) (r : Result Made Memory) → text ≡ input → none ≡ [] → IsUtf8 input
    → IsRefused text none texts fault → IfOk r (λ outcome. (fault ≡ source.Memory → ⊥) × (answer_in outcome ≡ refusal (source_line (fault_text fault))))
    → IfOk r (λ outcome. AnswersSource input (answer_in outcome))
fault_answers input text none texts fault (Ok outcome) same is_none is refused answer = fault_answer input text none texts fault (answer_in outcome) same is_none is refused answer
fault_answers input text none texts fault (Err e) same is_none is refused answer = tt

-- the refusal that an answer of the parser is
abbrev fault_in : Answer → Option SourceFault
fault_in (uncut fault) = Some (source.Token fault)
fault_in (stopped stop) = Some (fault_of stop)
fault_in (made texts (Ok t)) = None
fault_in (made texts (Err faults.Memory)) = None
fault_in (made texts (Err faults.TooDeep)) = Some source.DeepTree
fault_in (made texts (Err faults.Broken)) = None

record Refusing (text : List ℕ) (fault : SourceFault) : Type 0 where
  answer : Answer
  is : IsAnswer text [] answer
  fault_is : fault_in answer ≡ Some fault

refusing : (text : List ℕ) (texts : List (Option (List ℕ))) (fault : SourceFault) → (fault ≡ source.Memory → ⊥) → IsRefused text [] texts fault → Refusing text fault
refusing text texts source.Memory no_memory refused = absurd (no_memory refl)
refusing text texts (source.Token fault) no_memory refused = record { answer = uncut fault; is = refused; fault_is = refl }
refusing text texts (source.Syntax at) no_memory refused = record { answer = stopped (Syntax at); is = refused; fault_is = refl }
refusing text texts (source.NotHere at what) no_memory refused = record { answer = stopped (NotHere at what); is = refused; fault_is = refl }
refusing text texts (source.TooDeep at) no_memory refused = record { answer = stopped (TooDeep at); is = refused; fault_is = refl }
refusing text texts source.DeepTree no_memory refused = record { answer = made texts (Err faults.TooDeep); is = refused; fault_is = refl }

same_some : (f g : SourceFault) → Some f ≡ Some g → f ≡ g
same_some f g e = cc

no_some : (f : SourceFault) → Some f ≡ None → ⊥
no_some f e = cc

one_fault : (text : List ℕ) (f g : SourceFault) → Refusing text f → Refusing text g → f ≡ g
one_fault text f g p q = same_some f g (sym p.fault_is ∙ ap fault_in (one_of_text text [] p.answer q.answer p.is q.is) ∙ q.fault_is)

no_fault : (text : List ℕ) (texts : List (Option (List ℕ))) (t : Tree) (f : SourceFault) → Refusing text f → IsSource text [] texts (Ok t) → ⊥
no_fault text texts t f p source = no_some f (sym p.fault_is ∙ ap fault_in (one_of_text text [] p.answer (made texts (Ok t)) p.is source))

same_tree : (r s : Result Tree Fault) (t u : Tree) → r ≡ Ok t → s ≡ Ok u → r ≡ s → t ≡ u
same_tree r s t u p q e = cc

pub one_answer : (input : List ℕ) (a b : Outcome) → AnswersSource input a → AnswersSource input b → a ≡ b
one_answer input _ _ (no_text p) (no_text q) = refl
one_answer input _ _ (no_text p) (no_tree f texts is no_memory q) = absurd (p is)
one_answer input _ _ (no_text p) (has_tree texts t is q s) = absurd (p is)
one_answer input _ _ (no_tree f texts is no_memory p) (no_text q) = absurd (q is)
one_answer input _ _ (no_tree f texts is no_memory p) (no_tree g more is' no_memory' q) =
    ap (λ (x : SourceFault). refusal (source_line (fault_text x))) (one_fault input f g (refusing input texts f no_memory p) (refusing input more g no_memory' q))
one_answer input _ _ (no_tree f texts is no_memory p) (has_tree more t is' q s) = absurd (no_fault input more t f (refusing input texts f no_memory p) q)
one_answer input _ _ (has_tree texts t is p s) (no_text q) = absurd (q is)
one_answer input _ _ (has_tree texts t is p s) (no_tree f more is' no_memory q) = absurd (no_fault input texts t f (refusing input more f no_memory q) p)
one_answer input _ _ (has_tree texts t is p s) (has_tree more u is' q r) =
    let same = one_tree input [] texts more (Ok t) (Ok u) p q
    in ap (λ (x : List (Option (List ℕ))). tree_answer x t) same.0 ∙ ap (λ (x : Tree). tree_answer more x) (same_tree (Ok t) (Ok u) t u refl refl same.1)
