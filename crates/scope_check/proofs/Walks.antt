-- The walk finds the first violation.
use Rattle.std.proofs.Common.{ℕ, List, [], ◌∷◌, ◌+◌, ◌≡◌, ◌≤◌, refl, Bool, true, false, ◌&&◌, if◌then◌else◌, Option, None, Some, ap, sym, ◌∙◌, arith, get_or, length, take, drop, ◌<◌, ◌-◌}
use Rattle.std.proofs.lemmas.List.{take_all}
use Rattle.bast_schema.proofs.Lists.{data_of_drop}
use Rattle.bast_schema.specs.View.{datum, data_of}
use Rattle.bast_schema.specs.declared.node.Value.{Value}
use Rattle.bast_schema.specs.declared.kind.Kind.{Kind}
use Rattle.bast_schema.specs.Counts.{size, size_at, size_in}
use Rattle.bast_schema.specs.Tree.{Tree, branch, Datum, child, absent, listed, flag, index, whole, name, no_name, choice, window, Data, none, more, nodes, nodes_at, nodes_in, kind_of, values_of}
use Rattle.scope_facts.specs.declared.context.Violation.{Violation}
use Rattle.scope_facts.specs.declared.context.Rule.TheVariants.{A2}
use Rattle.scope_facts.specs.declared.roles.Part.{Part}
use Rattle.scope_facts.specs.declared.roles.Part.TheVariants.{Scope, Use, Call, Function, Other}
use Rattle.scope_facts.specs.Covers.{inside_now}
use Rattle.scope_facts.specs.Names.{bound}
use Rattle.scope_facts.specs.Reading.{says_eval}
use Rattle.scope_facts.specs.Roles.{part}
use Rattle.scope_facts.specs.Uses.{is_scope, first_name}
use Rattle.scope_facts.specs.declared.covers.Cover.{Cover}
use Rattle.scope_check.specs.declared.walk.Step.{Step}
use Rattle.scope_check.specs.declared.walk.Step.TheVariants.{Found, Next}
use Rattle.scope_check.specs.Covers.{is_fine, entered, facts_of}
use Rattle.scope_check.specs.Least.{or_else, is_fine_name, is_fine_use, least_own, least, least_at, least_in, least_among, told_step}
use Rattle.scope_check.specs.Untrue.{first, violation, untrue_eval, untrue_scope}

-- nodes are values
mutual
  pub nodes_size : (t : Tree) → nodes t ≤ size t
  nodes_size (branch k ds) = let h : nodes_in ds ≤ size_in ds = nodes_size_in ds in omega arith

  nodes_size_at : (d : Datum) → nodes_at d ≤ size_at d
  nodes_size_at (child t) = nodes_size t
  nodes_size_at (listed ds) = let h : nodes_in ds ≤ size_in ds = nodes_size_in ds in omega arith
  nodes_size_at absent = omega arith
  nodes_size_at (flag b) = omega arith
  nodes_size_at (index i) = omega arith
  nodes_size_at (whole i) = omega arith
  nodes_size_at (name i) = omega arith
  nodes_size_at no_name = omega arith
  nodes_size_at (choice i) = omega arith
  nodes_size_at (window i j) = omega arith

  nodes_size_in : (ds : Data) → nodes_in ds ≤ size_in ds
  nodes_size_in none = omega arith
  nodes_size_in (more d ds) = let h : nodes_at d ≤ size_at d = nodes_size_at d in let i : nodes_in ds ≤ size_in ds = nodes_size_in ds in omega arith

-- equal covers of all names find the same

name_same : (b c : ℕ → Option Cover) (now : ℕ) (x : Option ℕ) → ((y : ℕ) → b y ≡ c y) → is_fine_name b now x ≡ is_fine_name c now x
name_same b c now None h = refl
name_same b c now (Some x) h = ap (is_fine now) (h x)

use_same : (b c : ℕ → Option Cover) (now : ℕ) (p : Part) (x : Option ℕ) → ((y : ℕ) → b y ≡ c y) → is_fine_use b now p x ≡ is_fine_use c now p x
use_same b c now Use x h = name_same b c now x h
use_same b c now Scope x h = refl
use_same b c now Call x h = refl
use_same b c now Function x h = refl
use_same b c now Other x h = refl

own_same : (e : Option ℕ) (b c : ℕ → Option Cover) (now : ℕ) (told : Bool) (n : ℕ) (k : Kind) (ds : Data) → ((y : ℕ) → b y ≡ c y) → least_own e b now told n k ds ≡ least_own e c now told n k ds
own_same e b c now told n k ds h = ap (λ f. or_else (if f then None else Some (violation n A2 (first_name ds))) (first (untrue_eval e told n k ds))) (use_same b c now (part k) (first_name ds) h)

field_same : (b : Bool) (o p q r s t : Option Violation) → p ≡ q → r ≡ s → o ≡ t → (u v : Option Violation) → u ≡ v → (if b then or_else o p else or_else r u) ≡ (if b then or_else t q else or_else s v)
field_same true o p q r s t e f g u v h = rw (e, g) refl
field_same false o p q r s t e f g u v h = rw (f, h) refl

mutual
  pub least_same : (e : Option ℕ) (b c : ℕ → Option Cover) (now : ℕ) (told : Bool) (n : ℕ) (t : Tree) → ((y : ℕ) → b y ≡ c y) → least e b now told n t ≡ least e c now told n t
  least_same e b c now told n (branch k ds) h = rw (own_same e b c now told n k ds h, least_in_same e b c (inside_now (part k) now) told (bound ds) (n + 1) ds h) refl

  pub least_at_same : (e : Option ℕ) (b c : ℕ → Option Cover) (now : ℕ) (told : Bool) (n : ℕ) (d : Datum) → ((y : ℕ) → b y ≡ c y) → least_at e b now told n d ≡ least_at e c now told n d
  least_at_same e b c now told n (child t) h = least_same e b c now told n t h
  least_at_same e b c now told n (listed ds) h = least_among_same e b c now told n ds h
  least_at_same e b c now told n absent h = refl
  least_at_same e b c now told n (flag f) h = refl
  least_at_same e b c now told n (index i) h = refl
  least_at_same e b c now told n (whole i) h = refl
  least_at_same e b c now told n (name i) h = refl
  least_at_same e b c now told n no_name h = refl
  least_at_same e b c now told n (choice i) h = refl
  least_at_same e b c now told n (window i j) h = refl

  pub least_in_same : (e : Option ℕ) (b c : ℕ → Option Cover) (now : ℕ) (told : Bool) (names : List ℕ) (n : ℕ) (ds : Data) → ((y : ℕ) → b y ≡ c y) → least_in e b now told names n ds ≡ least_in e c now told names n ds
  least_in_same e b c now told names n none h = refl
  least_in_same e b c now told names n (more d ds) h = field_same (is_scope d) (first (untrue_scope n names d ds))
      (least_in e (λ x. entered now (facts_of d) x (b x)) now (told && says_eval d) names (n + nodes_at d) ds)
      (least_in e (λ x. entered now (facts_of d) x (c x)) now (told && says_eval d) names (n + nodes_at d) ds)
      (least_at e b now told n d) (least_at e c now told n d) (first (untrue_scope n names d ds))
      (least_in_same e (λ x. entered now (facts_of d) x (b x)) (λ x. entered now (facts_of d) x (c x)) now (told && says_eval d) names (n + nodes_at d) ds (λ x. ap (entered now (facts_of d) x) (h x)))
      (least_at_same e b c now told n d h) refl
      (least_in e b now told names (n + nodes_at d) ds) (least_in e c now told names (n + nodes_at d) ds) (least_in_same e b c now told names (n + nodes_at d) ds h)

  pub least_among_same : (e : Option ℕ) (b c : ℕ → Option Cover) (now : ℕ) (told : Bool) (n : ℕ) (ds : Data) → ((y : ℕ) → b y ≡ c y) → least_among e b now told n ds ≡ least_among e c now told n ds
  least_among_same e b c now told n none h = refl
  least_among_same e b c now told n (more d ds) h = rw (least_at_same e b c now told n d h, least_among_same e b c now told (n + nodes_at d) ds h) refl

-- what a step tells

pub found_is : (o : Option Violation) (v : Violation) (n : ℕ) → Found v ≡ told_step o n → o ≡ Some v
found_is (Some w) v n e = cc
found_is None v n e = cc

pub next_none : (o : Option Violation) (m n : ℕ) → Next m ≡ told_step o n → o ≡ None
next_none (Some w) m n e = cc
next_none None m n e = refl

pub next_is : (o : Option Violation) (m n : ℕ) → Next m ≡ told_step o n → m ≡ n
next_is (Some w) m n e = cc
next_is None m n e = cc

rest_short : (vs : List Value) → length (drop 1 vs) ≤ length vs - 1
rest_short [] = omega arith
rest_short (v ∷ vs) = omega arith

-- the first of a list of values, and the rest
pub fields_are : (vs : List Value) (v : Value) → v ≡ get_or vs 0 v → 0 < length vs → data_of vs ≡ more (datum v) (data_of (take (length vs - 1) (drop 1 vs)))
fields_are vs v e h = data_of_drop vs 0 v e h ∙ ap (λ ws. more (datum v) (data_of ws)) (sym (take_all (length vs - 1) (drop 1 vs) (rest_short vs)))

-- a node without a violation of its own, and one with one

by_parts : (o rest : Option Violation) (m n : ℕ) → None ≡ o → m ≡ n → told_step rest m ≡ told_step (or_else o rest) n
by_parts o rest m n e i = rw (sym e, i) refl

pub node_more : (e : Option ℕ) (c : ℕ → Option Cover) (now inside : ℕ) (told : Bool) (n : ℕ) (t : Tree) (k : Kind) (ds : Data) (p : Part) (names : List ℕ) (own : Option Violation) (st : Step)
    → branch k ds ≡ t → own ≡ None → own ≡ least_own e c now told n (kind_of t) (values_of t) → inside ≡ inside_now p now → p ≡ part (kind_of t) → names ≡ bound ds
    → st ≡ told_step (least_in e c inside told names (n + 1) ds) (n + 1 + nodes_in ds) → st ≡ told_step (least e c now told n t) (n + nodes t)
node_more e c now inside told n t k ds p names own st same nothing own_is inside_is part_is names_is is =
    is
    ∙ ap (λ i. told_step (least_in e c i told names (n + 1) ds) (n + 1 + nodes_in ds)) (inside_is ∙ ap (λ q. inside_now q now) (part_is ∙ ap (λ u. part (kind_of u)) (sym same)))
    ∙ ap (λ ns. told_step (least_in e c (inside_now (part k) now) told ns (n + 1) ds) (n + 1 + nodes_in ds)) names_is
    ∙ by_parts (least_own e c now told n k ds) (least_in e c (inside_now (part k) now) told (bound ds) (n + 1) ds) (n + 1 + nodes_in ds) (n + (1 + nodes_in ds))
    (sym nothing ∙ own_is ∙ ap (λ u. least_own e c now told n (kind_of u) (values_of u)) (sym same)) (omega arith)
    ∙ ap (λ u. told_step (least e c now told n u) (n + nodes u)) same

found_first : (o rest : Option Violation) (v : Violation) (n : ℕ) → Some v ≡ o → Found v ≡ told_step (or_else o rest) n
found_first o rest v n e = rw (sym e) refl

pub node_found : (e : Option ℕ) (c : ℕ → Option Cover) (now : ℕ) (told : Bool) (n m : ℕ) (t : Tree) (v : Violation)
    → Some v ≡ least_own e c now told n (kind_of t) (values_of t) → Found v ≡ told_step (least e c now told n t) m
node_found e c now told n m (branch k ds) v is = found_first (least_own e c now told n k ds) (least_in e c (inside_now (part k) now) told (bound ds) (n + 1) ds) v m is

-- a field that is no scope

in_field : (e : Option ℕ) (c : ℕ → Option Cover) (now : ℕ) (told : Bool) (names : List ℕ) (n : ℕ) (d : Datum) (ds : Data) → is_scope d ≡ false
    → least_in e c now told names n (more d ds) ≡ or_else (least_at e c now told n d) (least_in e c now told names (n + nodes_at d) ds)
in_field e c now told names n d ds s = rw s refl

pub field_more : (e : Option ℕ) (b c : ℕ → Option Cover) (now : ℕ) (told : Bool) (names : List ℕ) (n m : ℕ) (d : Datum) (ds all : Data) (st : Step) → all ≡ more d ds → is_scope d ≡ false
    → st ≡ told_step (least_at e c now told n d) (n + nodes_at d) → st ≡ Next m → ((x : ℕ) → b x ≡ c x)
    → told_step (least_in e b now told names m ds) (m + nodes_in ds) ≡ told_step (least_in e c now told names n all) (n + nodes_in all)
field_more e b c now told names n m d ds all st is s at_is st_is same =
    ap (λ o. told_step o (m + nodes_in ds)) (least_in_same e b c now told names m ds same)
    ∙ ap (λ i. told_step (least_in e c now told names i ds) (i + nodes_in ds)) (next_is (least_at e c now told n d) m (n + nodes_at d) (sym st_is ∙ at_is))
    ∙ by_parts (least_at e c now told n d) (least_in e c now told names (n + nodes_at d) ds) (n + nodes_at d + nodes_in ds) (n + (nodes_at d + nodes_in ds)) (sym (next_none (least_at e c now told n d) m (n + nodes_at d) (sym st_is ∙ at_is))) (omega arith)
    ∙ ap (λ o. told_step o (n + nodes_in (more d ds))) (sym (in_field e c now told names n d ds s))
    ∙ ap (λ q. told_step (least_in e c now told names n q) (n + nodes_in q)) (sym is)

-- a scope

in_scope : (e : Option ℕ) (c : ℕ → Option Cover) (now : ℕ) (told : Bool) (names : List ℕ) (n : ℕ) (d : Datum) (ds : Data) → is_scope d ≡ true
    → least_in e c now told names n (more d ds) ≡ or_else (first (untrue_scope n names d ds)) (least_in e (λ x. entered now (facts_of d) x (c x)) now (told && says_eval d) names (n + nodes_at d) ds)
in_scope e c now told names n d ds s = rw s refl

pub scope_more : (e : Option ℕ) (b c : ℕ → Option Cover) (now : ℕ) (told inner : Bool) (names : List ℕ) (n m : ℕ) (d : Datum) (ds : Data) (st : Step) → is_scope d ≡ true
    → None ≡ first (untrue_scope n names d ds) → m ≡ n + nodes_at d → inner ≡ (told && says_eval d) → ((x : ℕ) → b x ≡ entered now (facts_of d) x (c x))
    → st ≡ told_step (least_in e b now inner names m ds) (m + nodes_in ds) → st ≡ told_step (least_in e c now told names n (more d ds)) (n + nodes_at d + nodes_in ds)
scope_more e b c now told inner names n m d ds st s nothing number inner_is same is =
    is
    ∙ ap (λ o. told_step o (m + nodes_in ds)) (least_in_same e b (λ x. entered now (facts_of d) x (c x)) now inner names m ds same)
    ∙ ap (λ i. told_step (least_in e (λ x. entered now (facts_of d) x (c x)) now inner names i ds) (i + nodes_in ds)) number
    ∙ ap (λ i. told_step (least_in e (λ x. entered now (facts_of d) x (c x)) now i names (n + nodes_at d) ds) (n + nodes_at d + nodes_in ds)) inner_is
    ∙ by_parts (first (untrue_scope n names d ds)) (least_in e (λ x. entered now (facts_of d) x (c x)) now (told && says_eval d) names (n + nodes_at d) ds) (n + nodes_at d + nodes_in ds) (n + nodes_at d + nodes_in ds) nothing refl
    ∙ ap (λ o. told_step o (n + nodes_at d + nodes_in ds)) (sym (in_scope e c now told names n d ds s))

pub scope_whole : (e : Option ℕ) (c : ℕ → Option Cover) (now : ℕ) (told : Bool) (names : List ℕ) (n : ℕ) (d : Datum) (ds all : Data) → all ≡ more d ds
    → told_step (least_in e c now told names n (more d ds)) (n + nodes_at d + nodes_in ds) ≡ told_step (least_in e c now told names n all) (n + nodes_in all)
scope_whole e c now told names n d ds all is =
    ap (told_step (least_in e c now told names n (more d ds))) (let i : n + nodes_at d + nodes_in ds ≡ n + (nodes_at d + nodes_in ds) = omega arith in i)
    ∙ ap (λ q. told_step (least_in e c now told names n q) (n + nodes_in q)) (sym is)

-- the items of a list

pub record Walked (e : Option ℕ) (c : ℕ → Option Cover) (now : ℕ) (told : Bool) (next : ℕ) (rest : Data) (n : ℕ) (ds : Data) : Type 0 where
  pub number : next + nodes_in rest ≡ n + nodes_in ds
  pub first : told_step (least_among e c now told next rest) (next + nodes_in rest) ≡ told_step (least_among e c now told n ds) (n + nodes_in ds)

pub item_found : (e : Option ℕ) (b c : ℕ → Option Cover) (now : ℕ) (told : Bool) (next : ℕ) (d : Datum) (rest all : Data) (n : ℕ) (ds : Data) (v : Violation) (st : Step) → all ≡ more d rest
    → Walked e c now told next all n ds → ((x : ℕ) → b x ≡ c x) → st ≡ told_step (least_at e b now told next d) (next + nodes_at d) → st ≡ Found v
    → Found v ≡ told_step (least_among e c now told n ds) (n + nodes_in ds)
item_found e b c now told next d rest all n ds v st is w same at_is st_is =
    found_first (least_at e c now told next d) (least_among e c now told (next + nodes_at d) rest) v (next + nodes_in (more d rest))
    (sym (found_is (least_at e c now told next d) v (next + nodes_at d) (sym st_is ∙ at_is ∙ ap (λ o. told_step o (next + nodes_at d)) (least_at_same e b c now told next d same))))
    ∙ ap (λ q. told_step (least_among e c now told next q) (next + nodes_in q)) (sym is)
    ∙ w.first

pub item_more : (e : Option ℕ) (b c : ℕ → Option Cover) (now : ℕ) (told : Bool) (next m : ℕ) (d : Datum) (rest all : Data) (n : ℕ) (ds : Data) (st : Step) → all ≡ more d rest
    → Walked e c now told next all n ds → ((x : ℕ) → b x ≡ c x) → st ≡ told_step (least_at e b now told next d) (next + nodes_at d) → st ≡ Next m
    → Walked e c now told m rest n ds
item_more e b c now told next m d rest all n ds st is w same at_is st_is =
    let f : Next m ≡ told_step (least_at e c now told next d) (next + nodes_at d) = sym st_is ∙ at_is ∙ ap (λ o. told_step o (next + nodes_at d)) (least_at_same e b c now told next d same)
    in let i : m ≡ next + nodes_at d = next_is (least_at e c now told next d) m (next + nodes_at d) f
    in let j : next + (nodes_at d + nodes_in rest) ≡ n + nodes_in ds = ap (λ q. next + nodes_in q) (sym is) ∙ w.number
    in record {
      number = omega arith;
      first = ap (λ i. told_step (least_among e c now told i rest) (i + nodes_in rest)) i
          ∙ by_parts (least_at e c now told next d) (least_among e c now told (next + nodes_at d) rest) (next + nodes_at d + nodes_in rest) (next + (nodes_at d + nodes_in rest)) (sym (next_none (least_at e c now told next d) m (next + nodes_at d) f)) (omega arith)
          ∙ ap (λ q. told_step (least_among e c now told next q) (next + nodes_in q)) (sym is)
          ∙ w.first;
    }
