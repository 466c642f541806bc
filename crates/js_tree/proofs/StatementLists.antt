-- How statements and directives are collected from a list of items.
use Rattle.std.proofs.Common.{List, [], ◌∷◌, ◌++◌, ◌≡◌, refl, ap, sym, ◌∙◌, Option, Some, None, Result, Ok, Err}
use Rattle.bast_base.specs.declared.errors.NameId.{NameId}
use Rattle.bast_schema.specs.declared.node.Value.{Value}
use Rattle.bast_schema.specs.declared.kind.Kind.TheVariants as kinds
use Rattle.bast_schema.specs.Tree.{Tree, child, name, Data, none, more}
use Rattle.bast_schema.specs.Counts.{join}
use Rattle.bast_schema.specs.View.{datum, data_of}
use Rattle.bast_schema.proofs.Sums.{data_of_append, join_none, join_assoc}
use Rattle.js_tree.specs.Nodes.{directives, directives_from, behind_directive, behind_directives, limited, one, parted, with_directive}
use Rattle.js_tree.specs.Results.{◌>>=◌}
use Rattle.js_tree.specs.Statements.{first_directive, front_of}
use Rattle.js_tree.specs.declared.fault.Fault.{Fault}
use Rattle.js_tree.specs.declared.parts.Item.{Item}

pub pushed : (xs : List Value) (v : Value) (ds : Data) → join (data_of (xs ++ v ∷ [])) ds ≡ join (data_of xs) (more (datum v) ds)
pushed xs v ds = ap (λ es. join es ds) (data_of_append xs (v ∷ [])) ∙ join_assoc (data_of xs) (more (datum v) none) ds

pub all_joined : (xs : List Value) → join (data_of xs) none ≡ data_of xs
all_joined xs = join_none (data_of xs)

pub appended : (xs : List Value) (v : Value) → data_of (xs ++ v ∷ []) ≡ join (data_of xs) (more (datum v) none)
appended xs v = data_of_append xs (v ∷ [])

-- what is collected, with the directives that are still in front
abbrev pub collected : Data → Result Data Fault → Result Data Fault
collected found rest = rest >>= λ ds. Ok (join found ds)

collect : (made : Result Tree Fault) (found new : Data) (rest : Result Data Fault) → (made >>= λ t. Ok (join found (one (child t)))) ≡ Ok new
    → collected new rest ≡ collected found (made >>= λ t. rest >>= λ ds. Ok (more (child t) ds))
collect (Err e) found new rest is = absurd cc
collect (Ok t) found new (Err e) is = refl
collect (Ok t) found new (Ok ds) is = let e : new ≡ join found (one (child t)) = cc in ap Ok (rw e (join_assoc found (one (child t)) ds))

turn : (r : Option NameId) (i : Item) (is new : List Item) (raw : NameId) (found next : Data) → r ≡ Some raw → new ≡ is
    → with_directive limited raw found ≡ Ok next → collected next (directives limited new) ≡ collected found (directives_from limited r (directives limited is))
turn r i is new raw found next same left made = rw (same, left) (collect (limited kinds.Directive (one (name raw.0))) found next (directives limited is) made)

front_raw : (r : Option NameId) (here rest : List Item) → (front_of r here rest).0 ≡ r
front_raw None here rest = refl
front_raw (Some raw) here rest = refl

front_rest : (r : Option NameId) (here rest : List Item) (raw : NameId) → r ≡ Some raw → (front_of r here rest).1 ≡ rest
front_rest r here rest raw is = rw is refl

front_here : (r : Option NameId) (here rest : List Item) → r ≡ None → (front_of r here rest).1 ≡ here
front_here r here rest is = rw is refl

raw_of : (i : Item) (is : List Item) (r : Option NameId) → r ≡ (first_directive (i ∷ is)).0 → i.raw ≡ r
raw_of i is r first = sym (first ∙ front_raw i.raw (i ∷ is) is)

-- a directive that is taken off and collected leaves the same result
pub turn_directive : (is new : List Item) (raw : NameId) (found next : Data) → Some raw ≡ (first_directive is).0 → new ≡ (first_directive is).1
    → with_directive limited raw found ≡ Ok next → collected next (directives limited new) ≡ collected found (directives limited is)
turn_directive [] new raw found next first behind made = absurd cc
turn_directive (i ∷ is) new raw found next first behind made =
    let r = raw_of i is (Some raw) first
    in turn i.raw i is new raw found next r (behind ∙ front_rest i.raw (i ∷ is) is raw r) made

pub turn_behind : (is new : List Item) (raw : NameId) → Some raw ≡ (first_directive is).0 → new ≡ (first_directive is).1 → behind_directives new ≡ behind_directives is
turn_behind [] new raw first behind = absurd cc
turn_behind (i ∷ is) new raw first behind =
    let r = raw_of i is (Some raw) first
    in let e = behind ∙ front_rest i.raw (i ∷ is) is raw r
    in ap behind_directives e ∙ ap (λ x. behind_directive x (i ∷ is) (behind_directives is)) (sym r)

-- where there is no directive in front, there is none
pub parted_of : (all is : List Item) (found : Data) (new : List Item) → collected found (directives limited is) ≡ directives limited all
    → behind_directives is ≡ behind_directives all → None ≡ (first_directive is).0 → new ≡ (first_directive is).1 → parted limited all ≡ Ok (found, new)
parted_of all [] found new is_collected behind none_first left = rw (sym is_collected, sym behind, join_none found, left) refl
parted_of all (i ∷ is) found new is_collected behind none_first left =
    let r = raw_of i is None none_first
    in let e : new ≡ i ∷ is = left ∙ front_here i.raw (i ∷ is) is r
    in let d : directives limited (i ∷ is) ≡ Ok none = ap (λ x. directives_from limited x (directives limited is)) r
    in let b : behind_directives (i ∷ is) ≡ i ∷ is = ap (λ x. behind_directive x (i ∷ is) (behind_directives is)) r
    in let a : directives limited all ≡ Ok found = sym is_collected ∙ ap (collected found) d ∙ ap Ok (join_none found)
    in ap (λ x. x >>= λ ds. Ok (ds, behind_directives all)) a ∙ ap (λ x. Ok (found, x)) (sym behind ∙ b ∙ sym e)
