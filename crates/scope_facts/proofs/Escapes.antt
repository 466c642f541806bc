-- What is captured, from below and from above.
use Rattle.std.proofs.Common.{ℕ, List, [], ◌∷◌, ◌≡◌, Bool, true, false, refl, sym, ◌&&◌, ◌||◌, not, if◌then◌else◌, ◌∙◌}
use Rattle.bast_schema.specs.Tree.{Tree, branch, Datum, child, listed, Data, none, more}
use Rattle.scope_facts.specs.declared.roles.Part.{Part}
use Rattle.scope_facts.specs.declared.roles.Part.TheVariants.{Scope, Use, Call, Function, Other}
use Rattle.scope_facts.specs.Roles.{part, is_function}
use Rattle.scope_facts.specs.Uses.{is_scope, is_name, first_name, has_entry, declares, is_use_of, used, used_at, used_in, used_among, crossed, crossed_at, crossed_in, crossed_among}
use Rattle.scope_facts.specs.Frames.{Frame, scope, begins, frame, inside}
use Rattle.scope_facts.specs.Reading.{leaves, escapes, escapes_at, escapes_in, escapes_among}
use Rattle.scope_facts.proofs.Nearest.{crossed_used_in}

-- a scope without the name is passed, one with it is not
frame_leaves : (d : Datum) (fs : List Frame) (x : ℕ) (out : Bool) → leaves x (frame d ∷ fs) out ≡ (if declares x d then false else leaves x fs out)
frame_leaves (child (branch k (more (listed es) ds))) fs x out = refl
frame_leaves _ fs x out = refl

weaker_step : (b p q : Bool) → (p ≡ true → q ≡ true) → (if b then false else p) ≡ true → (if b then false else q) ≡ true
weaker_step true p q h e = cc
weaker_step false p q h e = h e

-- leaving without a function before is leaving with one
leaves_weaker : (x : ℕ) (fs : List Frame) → leaves x fs false ≡ true → leaves x fs true ≡ true
leaves_weaker x [] h = refl
leaves_weaker x (begins ∷ fs) h = h
leaves_weaker x (scope es ∷ fs) h = weaker_step (has_entry x es) (leaves x fs false) (leaves x fs true) (leaves_weaker x fs) h

-- what is used, or crossed, below and leaves the frames around
four_swap : (a b c d : Bool) → ((a || b) || (c || d)) ≡ ((a || c) || (b || d))
four_swap true b c d = refl
four_swap false true true d = refl
four_swap false true false d = refl
four_swap false false c d = refl

both_or : (u v l : Bool) → ((u && l) || (v && l)) ≡ ((u || v) && l)
both_or true v true = refl
both_or true true false = refl
both_or true false false = refl
both_or false v l = refl

met_or : (l m u c v d : Bool) → (((u && l) || (c && m)) || ((v && l) || (d && m))) ≡ (((u || v) && l) || ((c || d) && m))
met_or l m u c v d = four_swap (u && l) (c && m) (v && l) (d && m) ∙ rw (both_or u v l, both_or c d m) refl

scope_met : (b l m u c : Bool) → ((u && (if b then false else l)) || (c && (if b then false else m))) ≡ (((not b && u) && l) || ((not b && c) && m))
scope_met true l m true true = refl
scope_met true l m true false = refl
scope_met true l m false true = refl
scope_met true l m false false = refl
scope_met false l m u c = refl

-- a function: both what is used and what is crossed in it has left one
function_met : (l m u c : Bool) → (c ≡ true → u ≡ true) → (l ≡ true → m ≡ true) → ((u && m) || (c && m)) ≡ ((u && l) || (u && m))
function_met true true true true h g = refl
function_met true true true false h g = refl
function_met false true true true h g = refl
function_met false true true false h g = refl
function_met true false u c h g = let e : false ≡ true = g refl in cc
function_met false false true true h g = refl
function_met false false true false h g = refl
function_met l m false true h g = let e : false ≡ true = h refl in cc
function_met true true false false h g = refl
function_met false true false false h g = refl
function_met false false false false h g = refl

use_met : (v l m u c e : Bool) → e ≡ ((u && l) || (c && m)) → ((v && l) || e) ≡ (((v || u) && l) || (c && m))
use_met true true m u c e h = refl
use_met true false m true c e h = h
use_met true false m false c e h = h
use_met false l m u c e h = h

node_met : (x : ℕ) (p : Part) (ds : Data) (fs : List Frame)
    → ((gs : List Frame) → escapes_in x gs ds ≡ ((used_in x ds && leaves x gs false) || (crossed_in x ds && leaves x gs true)))
    → ((is_use_of x p ds && leaves x fs false) || escapes_in x (inside p fs) ds)
    ≡ (((is_use_of x p ds || used_in x ds) && leaves x fs false) || ((if is_function p then used_in x ds else crossed_in x ds) && leaves x fs true))
node_met x Use ds fs ih = use_met (is_name x (first_name ds)) (leaves x fs false) (leaves x fs true) (used_in x ds) (crossed_in x ds) (escapes_in x fs ds) (ih fs)
node_met x Function ds fs ih = ih (begins ∷ fs) ∙ function_met (leaves x fs false) (leaves x fs true) (used_in x ds) (crossed_in x ds) (crossed_used_in x ds) (leaves_weaker x fs)
node_met x Scope ds fs ih = ih fs
node_met x Call ds fs ih = ih fs
node_met x Other ds fs ih = ih fs

field_met : (x : ℕ) (d : Datum) (ds : Data) (fs : List Frame) (b : Bool)
    → ((gs : List Frame) → escapes_in x gs ds ≡ ((used_in x ds && leaves x gs false) || (crossed_in x ds && leaves x gs true)))
    → escapes_at x fs d ≡ ((used_at x d && leaves x fs false) || (crossed_at x d && leaves x fs true))
    → (if b then escapes_in x (frame d ∷ fs) ds else escapes_at x fs d || escapes_in x fs ds)
    ≡ (((if b then not (declares x d) && used_in x ds else used_at x d || used_in x ds) && leaves x fs false) || ((if b then not (declares x d) && crossed_in x ds else crossed_at x d || crossed_in x ds) && leaves x fs true))
field_met x d ds fs true ih h = ih (frame d ∷ fs) ∙ rw (frame_leaves d fs x false, frame_leaves d fs x true) (scope_met (declares x d) (leaves x fs false) (leaves x fs true) (used_in x ds) (crossed_in x ds))
field_met x d ds fs false ih h = rw (h, ih fs) (met_or (leaves x fs false) (leaves x fs true) (used_at x d) (crossed_at x d) (used_in x ds) (crossed_in x ds))

mutual
  pub escapes_is : (x : ℕ) (t : Tree) (fs : List Frame) → escapes x fs t ≡ ((used x t && leaves x fs false) || (crossed x t && leaves x fs true))
  escapes_is x (branch k ds) fs = node_met x (part k) ds fs (escapes_in_is x ds)

  pub escapes_at_is : (x : ℕ) (d : Datum) (fs : List Frame) → escapes_at x fs d ≡ ((used_at x d && leaves x fs false) || (crossed_at x d && leaves x fs true))
  escapes_at_is x (child t) fs = escapes_is x t fs
  escapes_at_is x (listed ds) fs = escapes_among_is x ds fs
  escapes_at_is x _ fs = refl

  pub escapes_in_is : (x : ℕ) (ds : Data) (fs : List Frame) → escapes_in x fs ds ≡ ((used_in x ds && leaves x fs false) || (crossed_in x ds && leaves x fs true))
  escapes_in_is x none fs = refl
  escapes_in_is x (more d ds) fs = field_met x d ds fs (is_scope d) (escapes_in_is x ds) (escapes_at_is x d fs)

  pub escapes_among_is : (x : ℕ) (ds : Data) (fs : List Frame) → escapes_among x fs ds ≡ ((used_among x ds && leaves x fs false) || (crossed_among x ds && leaves x fs true))
  escapes_among_is x none fs = refl
  escapes_among_is x (more d ds) fs = rw (escapes_at_is x d fs, escapes_among_is x ds fs) (met_or (leaves x fs false) (leaves x fs true) (used_at x d) (crossed_at x d) (used_among x ds) (crossed_among x ds))

at_end : (u c : Bool) → ((u && false) || (c && true)) ≡ c
at_end true true = refl
at_end true false = refl
at_end false true = refl
at_end false false = refl

pub captured_exactly : (x : ℕ) (after : Data) → crossed_in x after ≡ escapes_in x [] after
captured_exactly x after = sym (escapes_in_is x after [] ∙ at_end (used_in x after) (crossed_in x after))
