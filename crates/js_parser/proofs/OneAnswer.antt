-- Why a text comes to one thing alone.
use Rattle.std.proofs.Common.{◌≡◌, ◌↔◌, ℕ, List, [], ◌∷◌, Option, Some, None, Result, Ok, Err, ◌≤◌, ◌<◌, refl, sym, ap, ◌∙◌, subst, length}
use Rattle.bast_base.specs.declared.errors.NameId.{NameId}
use Rattle.bast_schema.specs.Tree.{Tree, depth}
use Rattle.js_machine.specs.Lookahead.{seen}
use Rattle.js_machine.specs.Machine.{Outcome, Accepted, Stopped, Ends, start}
use Rattle.js_machine.specs.declared.events.Event.{Event}
use Rattle.js_machine.specs.declared.stops.Stop.{Stop}
use Rattle.js_machine.proofs.Ended.{one_end}
use Rattle.js_parser.proofs.Accepted.{leaves_tell}
use Rattle.js_parser.specs.Laws.{Answer, uncut, stopped, made, IsAnswer}
use Rattle.js_parser.specs.Leaves.{AreLeaves, IsLeafOf, Stands, raw_of, text_of, with_texts}
use Rattle.js_parser.specs.Source.{IsImage, IsSource, IsTokenFault, StopsAt}
use Rattle.js_tokens.specs.Heads.{with_heads}
use Rattle.js_tokens.specs.Tokens.{AreTokens}
use Rattle.js_tokens.specs.declared.kinds.Token.{Token}
use Rattle.js_tokens.specs.declared.kinds.TokenFault.{TokenFault}
use Rattle.js_tokens.proofs.OneCut.{one_cut, one_fault, not_both}
use Rattle.js_tree.specs.Image.{tree_of}
use Rattle.js_tree.specs.Nodes.{Maker, limited, unlimited}
use Rattle.js_tree.specs.Tells.{HasTree}
use Rattle.js_tree.specs.declared.fault.Fault.{Fault}
use Rattle.js_tree.specs.declared.fault.Fault.TheVariants.{TooDeep}
use Rattle.js_tree.specs.declared.leaf.Leaf.{Leaf}
use Rattle.js_tree_laws.proofs.FollowImage.{deep_trees, trees_are_same}
use Rattle.js_tree_laws.proofs.Told.{accepted_have_trees}
use Rattle.js_tree_laws.proofs.TreesHold.{trees_are_shallow}

same_tokens : (text : List ℕ) (ts us : List Token) → AreTokens text ts → AreTokens text us → ts ≡ us
same_tokens text ts us h k = h.1.1 ∙ ap with_heads (one_cut h.1.0 k.1.0) ∙ sym k.1.1

same_end : (text : List ℕ) (ts us : List Token) (one other : Outcome) → us ≡ ts → Ends text ts one → Ends text us other → one ≡ other
same_end text ts us one other same p q =
    let r = subst (λ ts. Ends text ts other) same q in one_end p.0 r.0 (length text) (seen text ts) start one other p.1 r.1

same_events : {es fs : List Event} → Accepted es ≡ Accepted fs → es ≡ fs
same_events e = cc

same_stop : {p q : Stop} → Stopped p ≡ Stopped q → p ≡ q
same_stop e = cc

not_stopped : {A : Type 0} {es : List Event} {p : Stop} → Accepted es ≡ Stopped p → A
not_stopped e = cc

same_name : (n m : NameId) → Some n.0 ≡ Some m.0 → n ≡ m
same_name n m e = let f : n.0 ≡ m.0 = cc in ap (λ k. record { 0 = k }) f

same_place : (entries : List (Option (List ℕ))) (text : Option (List ℕ)) (n m : Option NameId) → Stands entries text n → Stands entries text m → n ≡ m
same_place entries None None None p q = refl
same_place entries None (Some n) m p q = absurd p
same_place entries None None (Some m) p q = absurd q
same_place entries (Some bytes) None m p q = absurd p
same_place entries (Some bytes) (Some n) None p q = absurd q
same_place entries (Some bytes) (Some n) (Some m) p q = ap Some (same_name n m (sym p ∙ q))

same_leaf : (text : List ℕ) (entries : List (Option (List ℕ))) (t : Token) (l m : Leaf) → IsLeafOf text entries t l → IsLeafOf text entries t m → l ≡ m
same_leaf text entries t l m p q =
    let k = p.kind ∙ sym q.kind
    in let a = same_place entries (text_of text t) l.text m.text p.text_stands q.text_stands
    in let b = same_place entries (raw_of text t) l.raw m.raw p.raw_stands q.raw_stands
    in ap (λ k. record { kind = k; text = l.text; raw = l.raw }) k ∙ ap (λ a. record { kind = m.kind; text = a; raw = l.raw }) a ∙ ap (λ b. record { kind = m.kind; text = m.text; raw = b }) b

same_leaves : (text : List ℕ) (entries : List (Option (List ℕ))) (ts : List Token) (ls ms : List Leaf) → AreLeaves text entries ts ls → AreLeaves text entries ts ms → ls ≡ ms
same_leaves text entries [] [] [] p q = refl
same_leaves text entries [] (l ∷ ls) ms p q = absurd p
same_leaves text entries [] [] (m ∷ ms) p q = absurd q
same_leaves text entries (t ∷ ts) [] ms p q = absurd p
same_leaves text entries (t ∷ ts) (l ∷ ls) [] p q = absurd q
same_leaves text entries (t ∷ ts) (l ∷ ls) (m ∷ ms) p q = ap (λ x. x ∷ ls) (same_leaf text entries t l m p.0 q.0) ∙ ap (λ xs. m ∷ xs) (same_leaves text entries ts ls ms p.1 q.1)

-- two images of one text are images of the same steps and the same tokens, over the same table
record AreSame (text : List ℕ) (old new fresh : List (Option (List ℕ))) (es fs : List Event) (ls ms : List Leaf) : Type 0 where
  table : new ≡ fresh
  events : es ≡ fs
  leaves : ls ≡ ms

same_steps : (m n : Maker) (text : List ℕ) (old new fresh : List (Option (List ℕ))) (one other : Result Tree Fault) (p : IsImage m text old new one) (q : IsImage n text old fresh other)
    → AreSame text old new fresh p.events q.events p.leaves q.leaves
same_steps m n text old new fresh one other p q =
    let ts = same_tokens text q.tokens p.tokens q.are_tokens p.are_tokens
    in let es = same_events (same_end text p.tokens q.tokens (Accepted p.events) (Accepted q.events) ts p.accepted q.accepted)
    in let table : new ≡ fresh = p.table ∙ ap (with_texts text old) (sym ts) ∙ sym q.table
    in let moved = subst (λ ts. AreLeaves text new ts q.leaves) ts (subst (λ es. AreLeaves text es q.tokens q.leaves) (sym table) q.are_leaves)
    in record { table = table; events = es; leaves = same_leaves text new p.tokens p.leaves q.leaves p.are_leaves moved }

-- the image of the same steps and tokens by another maker
by_maker : (m n : Maker) (text : List ℕ) (old new : List (Option (List ℕ))) (one other : Result Tree Fault) (p : IsImage m text old new one) → tree_of n p.leaves p.events ≡ other → IsImage n text old new other
by_maker m n text old new one other p image = record { tokens = p.tokens; events = p.events; leaves = p.leaves; are_tokens = p.are_tokens; accepted = p.accepted; table = p.table; are_leaves = p.are_leaves; image = image }

pub has_tree : (m : Maker) (text : List ℕ) (old new : List (Option (List ℕ))) (one : Result Tree Fault) (p : IsImage m text old new one) → HasTree p.leaves p.events
has_tree m text old new one p = accepted_have_trees text p.tokens p.leaves p.events p.are_tokens (leaves_tell text new p.tokens p.leaves p.are_leaves) p.accepted

same_image : (r : Result Tree Fault) (t u : Tree) → r ≡ Ok t → r ≡ Ok u → t ≡ u
same_image r t u e f = cc

pub shallow_source : (text : List ℕ) (old new : List (Option (List ℕ))) (t : Tree) → IsSource text old new (Ok t) ↔ (IsImage unlimited text old new (Ok t) × (depth t ≤ 512))
shallow_source text old new t = (
  λ p. (by_maker limited unlimited text old new (Ok t) (Ok t) p (trees_are_same text p.tokens p.leaves p.events t p.accepted p.image), trees_are_shallow p.leaves p.events t p.image),
  λ p. let has = has_tree unlimited text old new (Ok t) p.0
      in let same = same_image (tree_of unlimited p.0.leaves p.0.events) has.tree t has.image p.0.image
      in by_maker unlimited limited text old new (Ok t) (Ok t) p.0 (has.shallow (subst (λ t. depth t ≤ 512) (sym same) p.1) ∙ ap Ok same),
)

pub deep_source : (text : List ℕ) (old new : List (Option (List ℕ))) → IsSource text old new (Err TooDeep) ↔ ((t : Tree) × IsImage unlimited text old new (Ok t) × (512 < depth t))
deep_source text old new = (
  λ p. let has = has_tree limited text old new (Err TooDeep) p
      in (has.tree, by_maker limited unlimited text old new (Err TooDeep) (Ok has.tree) p has.image, deep_trees text p.tokens p.leaves p.events has.tree p.accepted p.image has.image),
  λ p. let has = has_tree unlimited text old new (Ok p.0) p.1
      in let same = same_image (tree_of unlimited p.1.leaves p.1.events) has.tree p.0 has.image p.1.image
      in by_maker unlimited limited text old new (Ok p.0) (Err TooDeep) p.1 (has.deep (subst (λ t. 512 < depth t) (sym same) p.2)),
)

pub one_tree : (text : List ℕ) (old new fresh : List (Option (List ℕ))) (one other : Result Tree Fault)
    → IsSource text old new one → IsSource text old fresh other → (new ≡ fresh) × (one ≡ other)
one_tree text old new fresh one other p q =
    let s = same_steps limited limited text old new fresh one other p q
    in (s.table, sym p.image ∙ ap (λ ls. tree_of limited ls p.events) s.leaves ∙ ap (tree_of limited q.leaves) s.events ∙ q.image)

cut_has_no_fault : (text : List ℕ) (ts : List Token) (fault : TokenFault) → AreTokens text ts → IsTokenFault text fault → ⊥
cut_has_no_fault text ts fault h k = not_both h.1.0 k.first

source_has_no_stop : (text : List ℕ) (old new : List (Option (List ℕ))) (tree : Result Tree Fault) (stop : Stop) → IsSource text old new tree → StopsAt text stop → ⊥
source_has_no_stop text old new tree stop p q =
    not_stopped (same_end text p.tokens q.tokens (Accepted p.events) (Stopped stop) (same_tokens text q.tokens p.tokens q.are_tokens p.are_tokens) p.accepted q.stopped)

one_stop : (text : List ℕ) (one other : Stop) → StopsAt text one → StopsAt text other → one ≡ other
one_stop text one other p q =
    same_stop (same_end text p.tokens q.tokens (Stopped one) (Stopped other) (same_tokens text q.tokens p.tokens q.are_tokens p.are_tokens) p.stopped q.stopped)

both_same : (new fresh : List (Option (List ℕ))) (one other : Result Tree Fault) → (new ≡ fresh) × (one ≡ other) → made new one ≡ made fresh other
both_same new fresh one other e = ap (λ n. made n one) e.0 ∙ ap (made fresh) e.1

pub one_answer : (text : List ℕ) (old : List (Option (List ℕ))) (one other : Answer) → IsAnswer text old one → IsAnswer text old other → one ≡ other
one_answer text old (uncut f) (uncut g) p q = ap uncut (one_fault p.first q.first)
one_answer text old (uncut f) (stopped s) p q = absurd (cut_has_no_fault text q.tokens f q.are_tokens p)
one_answer text old (uncut f) (made new tree) p q = absurd (cut_has_no_fault text q.tokens f q.are_tokens p)
one_answer text old (stopped s) (uncut g) p q = absurd (cut_has_no_fault text p.tokens g p.are_tokens q)
one_answer text old (stopped s) (stopped r) p q = ap stopped (one_stop text s r p q)
one_answer text old (stopped s) (made new tree) p q = absurd (source_has_no_stop text old new tree s q p)
one_answer text old (made new tree) (uncut g) p q = absurd (cut_has_no_fault text p.tokens g p.are_tokens q)
one_answer text old (made new tree) (stopped r) p q = absurd (source_has_no_stop text old new tree r p q)
one_answer text old (made new tree) (made fresh other) p q = both_same new fresh tree other (one_tree text old new fresh tree other p q)
