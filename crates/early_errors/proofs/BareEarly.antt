-- A clean tree breaks the rules that its plain tree breaks.
use Rattle.std.proofs.Common.{ℕ, List, [], ◌∷◌, ◌++◌, ◌+◌, ◌≡◌, Bool, true, false, refl, ap, sym, if◌then◌else◌, ◌∙◌, flat_map, filter_map, map, Option, None, Some}
use Rattle.std.proofs.lemmas.List.{map-append}
use Rattle.std.specs.Option.{option_map}
use Rattle.bast_schema.specs.declared.kind.Kind.{Kind}
use Rattle.bast_schema.specs.Tree.{Tree, branch, Datum, child, listed, Data, none, more, nodes_at, typed}
use Rattle.scope_facts.specs.declared.context.Ctx.{Ctx}
use Rattle.scope_facts.specs.declared.context.Rule.{Rule}
use Rattle.scope_facts.specs.declared.context.Violation.{Violation}
use Rattle.scope_facts.specs.Bare.{bare}
use Rattle.scope_facts.specs.Exact.{exact, eval_name}
use Rattle.scope_facts.proofs.Clean.{typed_clean}
use Rattle.scope_facts.proofs.Like.{Change, LikeAt, in_scope, in_node, in_list, LikeIn, end, next}
use Rattle.scope_facts.proofs.LikeNames.{Quiet}
use Rattle.scope_facts.proofs.Maps.{bare_like_at}
use Rattle.scope_facts.proofs.ExactNames.{exact_quiet, exact_like_at, bare_quiet, map_same}
use Rattle.early_errors.specs.declared.around.Label.{Label}
use Rattle.early_errors.specs.declared.kinds.Place.{Place}
use Rattle.early_errors.specs.declared.kinds.Role.{Role}
use Rattle.early_errors.specs.declared.rules.Finding.{Finding}
use Rattle.early_errors.specs.declared.rules.Finding.TheVariants.{Holds, Broken}
use Rattle.early_errors.specs.Kinds.{role, places}
use Rattle.early_errors.specs.Strict.{Texts, text_of}
use Rattle.early_errors.specs.Around.{Around, Site, sites, sites_at, sites_in, parts_around, placed, place_first, place_rest, start}
use Rattle.early_errors.specs.Early.{early, early_rules, found_at, violation}
use Rattle.early_errors.specs.Laws.{unnumbered, BothSound, KeepsTexts}
use Rattle.early_errors.specs.Reading.{Reading, reading_by}
use Rattle.early_errors.specs.Rules.{says}
use Rattle.early_errors.proofs.Firsts.{flat_map_append}
use Rattle.early_errors.proofs.QuietScopes.{found_in_tree, found_in_value, found_in, scope_same}
use Rattle.early_errors.proofs.LikeReading.{renamed_label, renamed_around, renamed_reading, role_by, places_by, parts_like, reading_like}

-- the violations without their numbers are those of the recursion

violation_unnumbered : (n : ℕ) (r : Rule) (f : Finding) (rs : List Rule) (x : Reading)
    → unnumbered (filter_map (λ q. violation n q (says q x)) rs) ≡ filter_map (λ q. violation 0 q (says q x)) rs → says r x ≡ f
    → unnumbered (filter_map (λ q. violation n q (says q x)) (r ∷ rs)) ≡ filter_map (λ q. violation 0 q (says q x)) (r ∷ rs)
violation_unnumbered n r Holds rs x h e = rw e h
violation_unnumbered n r (Broken name) rs x h e = rw (e, h) refl

rules_unnumbered : (n : ℕ) (x : Reading) (rs : List Rule) → unnumbered (filter_map (λ r. violation n r (says r x)) rs) ≡ filter_map (λ r. violation 0 r (says r x)) rs
rules_unnumbered n x [] = refl
rules_unnumbered n x (r ∷ rs) = violation_unnumbered n r (says r x) rs x (rules_unnumbered n x rs) refl

unnumbered_append : (s : Texts) (xs ys : List Site) (us vs : List Violation) → unnumbered (flat_map (found_at s) xs) ≡ us → unnumbered (flat_map (found_at s) ys) ≡ vs
    → unnumbered (flat_map (found_at s) (xs ++ ys)) ≡ us ++ vs
unnumbered_append s xs ys us vs e f =
    ap unnumbered (flat_map_append (found_at s) xs ys)
    ∙ map-append (λ v. record { node = 0; rule = v.rule; name = v.name }) (flat_map (found_at s) xs) (flat_map (found_at s) ys)
    ∙ rw (e, f) refl

mutual
  tree_unnumbered : (s : Texts) (a : Around) (n : ℕ) (t : Tree) → unnumbered (flat_map (found_at s) (sites s a n t)) ≡ found_in_tree s a t
  tree_unnumbered s a n (branch k ds) =
      map-append (λ v. record { node = 0; rule = v.rule; name = v.name }) (filter_map (λ r. violation n r (says r (reading_by s a (role k) ds))) early_rules) (flat_map (found_at s) (sites_in s (places k) (parts_around s (role k) ds a) (n + 1) ds))
      ∙ rw (rules_unnumbered n (reading_by s a (role k) ds) early_rules, in_unnumbered s (places k) (parts_around s (role k) ds a) (n + 1) ds) refl

  value_unnumbered : (s : Texts) (a : Around) (n : ℕ) (d : Datum) → unnumbered (flat_map (found_at s) (sites_at s a n d)) ≡ found_in_value s a d
  value_unnumbered s a n (child t) = tree_unnumbered s a n t
  value_unnumbered s a n (listed ds) = in_unnumbered s [] a n ds
  value_unnumbered s a n _ = refl

  in_unnumbered : (s : Texts) (ps : List Place) (a : Around) (n : ℕ) (ds : Data) → unnumbered (flat_map (found_at s) (sites_in s ps a n ds)) ≡ found_in s ps a ds
  in_unnumbered s ps a n none = refl
  in_unnumbered s ps a n (more d ds) = unnumbered_append s (sites_at s (placed (place_first ps) a) n d) (sites_in s (place_rest ps) a (n + nodes_at d) ds)
      (found_in_value s (placed (place_first ps) a) d) (found_in s (place_rest ps) a ds)
      (value_unnumbered s (placed (place_first ps) a) n d) (in_unnumbered s (place_rest ps) a (n + nodes_at d) ds)

-- what is found in trees that are alike, where no number changes

record Still (m : Change) : Type 0 where
  quiet : Quiet m
  same : (n : ℕ) → m.number n ≡ n

option_same : (r : ℕ → ℕ) → ((n : ℕ) → r n ≡ n) → (o : Option ℕ) → option_map r o ≡ o
option_same r h None = refl
option_same r h (Some n) = ap Some (h n)

labels_same : (r : ℕ → ℕ) → ((n : ℕ) → r n ≡ n) → (ls : List Label) → map (renamed_label r) ls ≡ ls
labels_same r h = map_same (renamed_label r) (λ l. ap (λ n. record { name = n; looped = l.looped }) (h l.name))

around_same : (r : ℕ → ℕ) → ((n : ℕ) → r n ≡ n) → (a : Around) → renamed_around r a ≡ a
around_same r h a = rw (labels_same r h a.labels) refl

reading_same : (r : ℕ → ℕ) → ((n : ℕ) → r n ≡ n) → (x : Reading) → renamed_reading r x ≡ x
reading_same r h x = rw (labels_same r h x.labels, option_same r h x.name, map_same r h x.lexicals, map_same r h x.vars, map_same r h x.parameters, map_same r h x.caught, map_same r h x.block, option_same r h x.bare, option_same r h x.deleted) refl

texts_same : {m : Change} → Still m → (s : Texts) → KeepsTexts m.number m.holds s s
texts_same p s n h = ap (λ k. text_of s (Some k)) (p.same n)

same_reading : {m : Change} → Still m → (s : Texts) (a : Around) (ro : Role) {ds es : Data} → LikeIn m ds es → reading_by s a ro es ≡ reading_by s a ro ds
same_reading {m} p s a ro {ds = ds} {es = es} l =
    ap (λ (x : Around). reading_by s x ro es) (sym (around_same m.number p.same a)) ∙ reading_like {m = m} p.quiet s s (texts_same p s) a ro l ∙ reading_same m.number p.same (reading_by s a ro ds)

same_parts : {m : Change} → Still m → (s : Texts) (a : Around) (ro : Role) {ds es : Data} → LikeIn m ds es → parts_around s ro es a ≡ parts_around s ro ds a
same_parts {m} p s a ro {ds = ds} {es = es} l =
    ap (λ (x : Around). parts_around s ro es x) (sym (around_same m.number p.same a)) ∙ parts_like {m = m} s s (texts_same p s) ro a l ∙ around_same m.number p.same (parts_around s ro ds a)

mutual
  found_at_like : {m : Change} → Still m → (s : Texts) (a : Around) {c d : Datum} → LikeAt m c d → found_in_value s a d ≡ found_in_value s a c
  found_at_like {m} p s a (in_node k ds es l) = rw (role_by m.eagerly k, places_by m.eagerly k, same_reading p s a (role k) l, same_parts p s a (role k) l, found_like p s (places k) (parts_around s (role k) ds a) l) refl
  found_at_like p s a (in_scope k ds es e h) = scope_same s a k ds es e (p.quiet.before k ds es h) (p.quiet.after k ds es h)
  found_at_like p s a (in_list ds es l) = found_like p s [] a l
  found_at_like p s a _ = refl

  found_like : {m : Change} → Still m → (s : Texts) (ps : List Place) (a : Around) {ds es : Data} → LikeIn m ds es → found_in s ps a es ≡ found_in s ps a ds
  found_like p s ps a end = refl
  found_like p s ps a (next c d cs ds h l) = rw (found_at_like p s (placed (place_first ps) a) h, found_like p s (place_rest ps) a l) refl

bare_found : (s : Texts) (a : Around) (t : Tree) → typed t ≡ true → found_in_tree s a (bare t) ≡ found_in_tree s a t
bare_found s a (branch k ds) h = found_at_like (record { quiet = bare_quiet; same = λ n. refl }) s a (bare_like_at (child (branch k ds)) (typed_clean (branch k ds) h))

pub own_scopes_break_no_rule : (s : Texts) (c : Ctx) (t : Tree) → typed t ≡ true → unnumbered (early s c t) ≡ unnumbered (early s c (bare t))
own_scopes_break_no_rule s c t h = tree_unnumbered s (start c) 0 t ∙ sym (bare_found s (start c) t h) ∙ sym (tree_unnumbered s (start c) 0 (bare t))

pub scopes_break_no_rule : (s : Texts) (c : Ctx) (t : Tree) → typed t ≡ true → unnumbered (early s c (exact s t)) ≡ unnumbered (early s c (bare t))
scopes_break_no_rule s c t h =
    tree_unnumbered s (start c) 0 (exact s t)
    ∙ found_at_like (record { quiet = exact_quiet; same = λ n. refl }) s (start c) (exact_like_at (eval_name s) (child t) (typed_clean t h))
    ∙ sym (tree_unnumbered s (start c) 0 t)
    ∙ own_scopes_break_no_rule s c t h

-- no violation under any numbers
none_there : (us vs : List Violation) → unnumbered us ≡ unnumbered vs → us ≡ [] → vs ≡ []
none_there us [] e z = refl
none_there [] (v ∷ vs) e z = cc
none_there (u ∷ us) (v ∷ vs) e z = cc

pub early_of_exact : (s : Texts) (c : Ctx) (t : Tree) → typed t ≡ true → BothSound s c (bare t) (exact s t)
early_of_exact s c t h = record {
  there = none_there (early s c (bare t)) (early s c (exact s t)) (sym (scopes_break_no_rule s c t h));
  back = none_there (early s c (exact s t)) (early s c (bare t)) (scopes_break_no_rule s c t h);
}
