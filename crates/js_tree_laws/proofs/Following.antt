-- What is made with the limit follows what is made without it: it is the same, or the other is too deep, and nothing deep is lost.
use Rattle.std.proofs.Common.{◌≡◌, ◌≤◌, ◌<◌, ℕ, max, cond, Bool, true, false, List, [], ◌∷◌, Option, Some, None, Result, Ok, Err, refl, sym, subst, arith}
use Rattle.std.specs.Prelude.{nat_lt}
use Rattle.std.proofs.lemmas.Bool.{ltb-true}
use Rattle.bast_schema.specs.declared.kind.Kind.{Kind}
use Rattle.bast_schema.specs.declared.node.NodeFault.TheVariants.{TooDeep}
use Rattle.bast_schema.specs.Fields.{fields}
use Rattle.bast_schema.specs.Made.{node_or}
use Rattle.bast_schema.specs.Tree.{Tree, branch, Data, depth, depth_in, first_wrong}
use Rattle.js_tree.specs.Nodes.{limited, unlimited, of_node}
use Rattle.js_tree.specs.Results.{◌>>=◌, broken, there}
use Rattle.js_tree.specs.declared.fault.Fault.{Fault}
use Rattle.js_tree.specs.declared.fault.Fault.TheVariants as faults
use Rattle.js_tree.specs.declared.parts.Part.{Part}
use Rattle.js_tree.specs.declared.parts.Part.TheVariants as parts
use Rattle.js_tree.specs.declared.parts.Form.{Form}
use Rattle.js_tree.specs.declared.parts.Form.TheVariants as forms
use Rattle.js_tree.specs.declared.parts.Ending.{Ending}
use Rattle.js_tree.specs.declared.parts.Ending.TheVariants as endings
use Rattle.js_tree.specs.declared.parts.Item.{Item}
use Rattle.js_tree.specs.declared.work.Work.{Work}
use Rattle.js_tree_laws.proofs.Holding.{Holds}

-- how deep the deepest tree is that stands there
abbrev pub deep_form : Form → ℕ
deep_form (forms.Contents body) = depth_in body
deep_form (forms.Declared ds) = depth_in ds
deep_form _ = 0

abbrev pub deep_ending : Ending → ℕ
deep_ending (endings.Around k form before behind) = max (deep_form form) (max (depth_in before) (depth_in behind))
deep_ending (endings.Instead t) = depth t

abbrev pub deep_endings : List Ending → ℕ
deep_endings [] = 0
deep_endings (e ∷ es) = max (deep_ending e) (deep_endings es)

abbrev pub deep_items : List Item → ℕ
deep_items [] = 0
deep_items (i ∷ is) = max (depth i.statement) (deep_items is)

abbrev pub deep_part : Part → ℕ
deep_part (parts.Values ds raw) = depth_in ds
deep_part (parts.Endings es) = deep_endings es
deep_part (parts.Items is) = deep_items is
deep_part _ = 0

abbrev pub deep_parts : List Part → ℕ
deep_parts [] = 0
deep_parts (p ∷ ps) = max (deep_part p) (deep_parts ps)

abbrev pub deep_work : Work → ℕ
deep_work w = max (depth_in w.values) (max (depth_in w.held) (max (depth_in w.directives) (max (deep_endings w.endings) (deep_items w.items))))

abbrev pub deep_got : Work × List Part → ℕ
deep_got r = max (deep_work r.0) (deep_parts r.1)

-- it is too deep, if it is there
abbrev pub Deep : {A : Type 0} → (A → ℕ) → Result A Fault → Type 0
Deep d (Ok x) = 512 < d x
Deep d (Err faults.TooDeep) = ⊥
Deep d _ = Unit {0}

-- it is not refused for its depth
abbrev pub Unrefused : {A : Type 0} → Result A Fault → Type 0
Unrefused (Err faults.TooDeep) = ⊥
Unrefused _ = Unit {0}

-- the same result, or one that is too deep
abbrev pub Agrees : {A : Type 0} → (A → ℕ) → Result A Fault → Result A Fault → Type 0
Agrees d (Ok x) q = q ≡ Ok x
Agrees d (Err faults.TooDeep) q = Deep d q
Agrees d _ q = Unrefused q

-- a tree that is too deep and went in is still there, and this is known of the result
abbrev Keeps : {A : Type 0} → ℕ → (A → ℕ) → (A → Type 0) → Result A Fault → Type 0
Keeps n d K q = Holds (λ z. (n ≤ max 512 (d z)) × K z) q

pub record Follows {A : Type 0} (n : ℕ) (d : A → ℕ) (K : A → Type 0) (r q : Result A Fault) : Type 0 where
  pub agrees : Agrees d r q
  pub keeps : Keeps n d K q

pub done : {A : Type 0} {n : ℕ} {d : A → ℕ} {K : A → Type 0} {z : A} → n ≤ max 512 (d z) → K z → Follows n d K (Ok z) (Ok z)
done below fact = record { agrees = refl; keeps = (below, fact) }

pub failed : {A : Type 0} {n : ℕ} {d : A → ℕ} {K : A → Type 0} → Follows {A = A} n d K broken broken
failed = record { agrees = tt; keeps = tt }

raised : {A : Type 0} (n m : ℕ) (d : A → ℕ) (K : A → Type 0) (q : Result A Fault) → n ≤ max 512 m → Keeps m d K q → Keeps n d K q
raised n m d K (Ok z) below h = (omega (arith, below, h.0), h.1)
raised n m d K (Err e) below h = tt

pub weaker : {A : Type 0} {n m : ℕ} {d : A → ℕ} {K : A → Type 0} {r q : Result A Fault} → n ≤ max 512 m → Follows m d K r q → Follows n d K r q
weaker {n = n} {m = m} {d = d} {K = K} {q = q} below h = record { agrees = h.agrees; keeps = raised n m d K q below h.keeps }

pub unrefused_of : {A : Type 0} (d : A → ℕ) (r q : Result A Fault) → Agrees d r q → Unrefused q
unrefused_of d (Ok x) q is = subst Unrefused (sym is) tt
unrefused_of d (Err faults.TooDeep) (Ok y) is = tt
unrefused_of d (Err faults.TooDeep) (Err faults.TooDeep) is = is
unrefused_of d (Err faults.TooDeep) _ is = tt
unrefused_of d _ q is = is

deeper : {A : Type 0} (n : ℕ) (d : A → ℕ) (K : A → Type 0) (q : Result A Fault) → 512 < n → Keeps n d K q → Unrefused q → Deep d q
deeper n d K (Ok z) deep h u = omega (arith, deep, h.0)
deeper n d K (Err faults.TooDeep) deep h u = u
deeper n d K _ deep h u = tt

-- one behind the other
module _ {A B : Type 0} (n : ℕ) (d : A → ℕ) (J : A → Type 0) (e : B → ℕ) (K : B → Type 0) (f g : A → Result B Fault) (next : (x : A) → J x → Follows (d x) e K (f x) (g x)) where
  keeps_on : (q : Result A Fault) → Keeps n d J q → Keeps n e K (q >>= g)
  keeps_on (Ok x) h = raised n (d x) e K (g x) h.0 (next x h.1).keeps
  keeps_on (Err _) h = tt

  deep_on : (q : Result A Fault) → Keeps n d J q → Deep d q → Deep e (q >>= g)
  deep_on (Ok x) h deep = let s = next x h.1 in deeper (d x) e K (g x) deep s.keeps (unrefused_of e (f x) (g x) s.agrees)
  deep_on (Err faults.TooDeep) h deep = deep
  deep_on _ h deep = tt

  unrefused_on : (q : Result A Fault) → Keeps n d J q → Unrefused q → Unrefused (q >>= g)
  unrefused_on (Ok x) h u = unrefused_of e (f x) (g x) (next x h.1).agrees
  unrefused_on (Err faults.TooDeep) h u = u
  unrefused_on _ h u = tt

  agree_on : (r q : Result A Fault) → Keeps n d J q → Agrees d r q → Agrees e (r >>= f) (q >>= g)
  agree_on (Ok x) q h is = subst (λ q. Keeps n d J q → Agrees e (f x) (q >>= g)) (sym is) (λ h. (next x h.1).agrees) h
  agree_on (Err faults.TooDeep) q h is = deep_on q h is
  agree_on _ q h is = unrefused_on q h is

pub andthen : {A B : Type 0} {n : ℕ} {d : A → ℕ} {J : A → Type 0} {e : B → ℕ} {K : B → Type 0} {r q : Result A Fault} {f g : A → Result B Fault}
    → Follows n d J r q → ((x : A) → J x → Follows (d x) e K (f x) (g x)) → Follows n e K (r >>= f) (q >>= g)
andthen {n = n} {d = d} {J = J} {e = e} {K = K} {r = r} {q = q} {f = f} {g = g} h next =
    record { agrees = agree_on n d J e K f g next r q h.keeps h.agrees; keeps = keeps_on n d J e K f g next q h.keeps }

known_of : {A : Type 0} (n : ℕ) (d : A → ℕ) (K L : A → Type 0) (q : Result A Fault) → Keeps n d K q → Holds L q → Keeps n d (λ z. K z × L z) q
known_of n d K L (Ok z) h l = (h.0, (h.1, l))
known_of n d K L (Err e) h l = tt

-- what is known of the result besides
pub known : {A : Type 0} {n : ℕ} {d : A → ℕ} {K L : A → Type 0} {r q : Result A Fault} → Holds L q → Follows n d K r q → Follows n d (λ z. K z × L z) r q
known {n = n} {d = d} {K = K} {L = L} {q = q} l h = record { agrees = h.agrees; keeps = known_of n d K L q h.keeps l }

pub follows_there : {A : Type 0} {n : ℕ} (o : Option A) → Follows n (λ x. n) (λ x. Unit {0}) (there o) (there o)
follows_there None = failed
follows_there (Some x) = done (omega arith) tt

pub either_follows : {A : Type 0} {n : ℕ} {d : A → ℕ} {K : A → Type 0} {r q s u : Result A Fault} (b : Bool) → (b ≡ true → Follows n d K r q) → (b ≡ false → Follows n d K s u) → Follows n d K (cond b r s) (cond b q u)
either_follows true h k = h refl
either_follows false h k = k refl

-- a node with the limit follows one without it
agree_within : (c : ℕ) (b : Bool) (t : Tree) → nat_lt 512 (depth t) ≡ b → Agrees (λ u. max c (depth u)) (of_node (cond b (Err TooDeep) (Ok t))) (Ok t)
agree_within c true t e = let deep = ltb-true 512 (depth t) e in omega (arith, deep)
agree_within c false t e = refl

agree_typed : (c : ℕ) (o : Option ℕ) (t : Tree) → Agrees (λ u. max c (depth u)) (of_node (node_or o t)) (Ok t)
agree_typed c (Some field) t = tt
agree_typed c None t = agree_within c (nat_lt 512 (depth t)) t refl

-- as the last step, beside what is as deep as c, and as one with steps behind it
pub node : {n : ℕ} {K : Tree → Type 0} (c : ℕ) (k : Kind) (ds : Data) → n ≤ max 512 (max c (depth (branch k ds))) → K (branch k ds) → Follows n (λ t. max c (depth t)) K (limited k ds) (unlimited k ds)
node c k ds below fact = record { agrees = agree_typed c (first_wrong 0 (fields k) ds) (branch k ds); keeps = (below, fact) }

pub made : {n : ℕ} (k : Kind) (ds : Data) → Follows n (λ t. max n (depth t)) (λ t. (branch k ds ≡ t) × (depth (branch k ds) ≡ depth t)) (limited k ds) (unlimited k ds)
made {n = n} k ds = node n k ds (omega arith) (refl, refl)
