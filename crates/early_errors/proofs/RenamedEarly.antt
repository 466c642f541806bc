-- A tree with other numbers for its names breaks the same rules at the same nodes.
use Rattle.std.proofs.Common.{ℕ, List, [], ◌∷◌, ◌++◌, ◌+◌, ◌≡◌, Bool, true, refl, sym, map, None, Some, flat_map, filter_map}
use Rattle.std.proofs.lemmas.List.{map-append}
use Rattle.bast_schema.specs.Tree.{Tree, branch, Datum, child, listed, Data, none, more, nodes, nodes_at, nodes_in}
use Rattle.scope_facts.specs.declared.context.Rule.{Rule}
use Rattle.scope_facts.specs.Renamed.{IsInjective}
use Rattle.scope_facts.proofs.Like.{Change, LikeAt, in_scope, in_node, in_list, LikeIn, end, next}
use Rattle.scope_facts.proofs.LikeNames.{Quiet}
use Rattle.scope_facts.proofs.LikeUses.{Open}
use Rattle.scope_facts.proofs.Maps.{renamed_like_at}
use Rattle.scope_facts.proofs.RenamedExact.{renaming_open}
use Rattle.early_errors.specs.declared.kinds.Place.{Place}
use Rattle.early_errors.specs.declared.kinds.Place.TheVariants.{Inside}
use Rattle.early_errors.specs.declared.kinds.Role.{Role}
use Rattle.early_errors.specs.declared.rules.Finding.{Finding}
use Rattle.early_errors.specs.declared.rules.Finding.TheVariants.{Holds, Broken}
use Rattle.early_errors.specs.Kinds.{role, places}
use Rattle.early_errors.specs.Strict.{Texts}
use Rattle.early_errors.specs.Around.{Around, Site, sites, sites_at, sites_in, parts_around, placed, place_first, place_rest, start}
use Rattle.early_errors.specs.Early.{early_rules, found_at, violation}
use Rattle.early_errors.specs.Laws.{renamed_violation, KeepsTexts, NumbersBreakNoRule}
use Rattle.early_errors.specs.Reading.{Reading, reading_by}
use Rattle.early_errors.specs.Rules.{says}
use Rattle.early_errors.proofs.Firsts.{flat_map_append}
use Rattle.early_errors.proofs.LikeReading.{renamed_around, renamed_reading, parts_like, reading_like}
use Rattle.early_errors.proofs.RenamedRules.{renamed_finding, says_renamed}

-- the violations at a node

rule_renamed : (r : ℕ → ℕ) (n : ℕ) (q : Rule) (f : Finding) (x : Reading) (qs : List Rule) → says q (renamed_reading r x) ≡ renamed_finding r f → says q x ≡ f
    → filter_map (λ rule. violation n rule (says rule (renamed_reading r x))) qs ≡ map (renamed_violation r) (filter_map (λ rule. violation n rule (says rule x)) qs)
    → filter_map (λ rule. violation n rule (says rule (renamed_reading r x))) (q ∷ qs) ≡ map (renamed_violation r) (filter_map (λ rule. violation n rule (says rule x)) (q ∷ qs))
rule_renamed r n q Holds x qs e f h = rw (e, f) h
rule_renamed r n q (Broken None) x qs e f h = rw (e, f, h) refl
rule_renamed r n q (Broken (Some m)) x qs e f h = rw (e, f, h) refl

rules_renamed : (r : ℕ → ℕ) → IsInjective r → (n : ℕ) (x : Reading) (qs : List Rule) → filter_map (λ rule. violation n rule (says rule (renamed_reading r x))) qs ≡ map (renamed_violation r) (filter_map (λ rule. violation n rule (says rule x)) qs)
rules_renamed r i n x [] = refl
rules_renamed r i n x (q ∷ qs) = rule_renamed r n q (says q x) x qs (says_renamed r i q x) refl (rules_renamed r i n x qs)

-- numbers of nodes and places stay

mutual
  nodes_at_like : {m : Change} → Open m → {c d : Datum} → LikeAt m c d → nodes_at d ≡ nodes_at c
  nodes_at_like p (in_scope k ds es s o) = absurd (p.inside k ds es o)
  nodes_at_like p (in_node k ds es l) = rw (nodes_like p l) refl
  nodes_at_like p (in_list ds es l) = nodes_like p l
  nodes_at_like p _ = refl

  nodes_like : {m : Change} → Open m → {ds es : Data} → LikeIn m ds es → nodes_in es ≡ nodes_in ds
  nodes_like p end = refl
  nodes_like p (next c d cs ds h l) = rw (nodes_at_like p h, nodes_like p l) refl

open_quiet : {m : Change} → Open m → Quiet m
open_quiet p = record { before = λ k ds es o. absurd (p.inside k ds es o); after = λ k ds es o. absurd (p.inside k ds es o) }

node_like : {m : Change} → Open m → (texts strings : Texts) → KeepsTexts m.number m.holds texts strings → (a : Around) (n : ℕ) (ro : Role) {ds es : Data} → LikeIn m ds es
    → filter_map (λ rule. violation n rule (says rule (reading_by strings (renamed_around m.number a) ro es))) early_rules ≡ map (renamed_violation m.number) (filter_map (λ rule. violation n rule (says rule (reading_by texts a ro ds))) early_rules)
node_like {m} p texts strings k a n ro {ds = ds} l = rw (reading_like (open_quiet p) texts strings k a ro l) (rules_renamed m.number p.injective n (reading_by texts a ro ds) early_rules)

placed_renamed : (r : ℕ → ℕ) (p : Place) (a : Around) → placed p (renamed_around r a) ≡ renamed_around r (placed p a)
placed_renamed r Inside a = refl
placed_renamed r _ a = refl

-- the violations of a tree

append_renamed : (r : ℕ → ℕ) (texts strings : Texts) (xs ys us vs : List Site)
    → flat_map (found_at strings) xs ≡ map (renamed_violation r) (flat_map (found_at texts) us) → flat_map (found_at strings) ys ≡ map (renamed_violation r) (flat_map (found_at texts) vs)
    → flat_map (found_at strings) (xs ++ ys) ≡ map (renamed_violation r) (flat_map (found_at texts) (us ++ vs))
append_renamed r texts strings xs ys us vs e f =
    rw (flat_map_append (found_at strings) xs ys, flat_map_append (found_at texts) us vs, e, f)
    (sym (map-append (renamed_violation r) (flat_map (found_at texts) us) (flat_map (found_at texts) vs)))

mutual
  value_renamed : {m : Change} → Open m → (texts strings : Texts) → KeepsTexts m.number m.holds texts strings → (a : Around) (n : ℕ) {c d : Datum} → LikeAt m c d
      → flat_map (found_at strings) (sites_at strings (renamed_around m.number a) n d) ≡ map (renamed_violation m.number) (flat_map (found_at texts) (sites_at texts a n c))
  value_renamed {m} p texts strings k a n (in_scope j ds es s o) = absurd (p.inside j ds es o)
  value_renamed {m} p texts strings k a n (in_node j ds es l) =
      rw (
        p.lazily,
        node_like p texts strings k a n (role j) l,
        parts_like texts strings k (role j) a l,
        in_renamed p texts strings k (places j) (parts_around texts (role j) ds a) (n + 1) l,
      )
      (sym (map-append (renamed_violation m.number) (filter_map (λ rule. violation n rule (says rule (reading_by texts a (role j) ds))) early_rules) (flat_map (found_at texts) (sites_in texts (places j) (parts_around texts (role j) ds a) (n + 1) ds))))
  value_renamed {m} p texts strings k a n (in_list ds es l) = in_renamed p texts strings k [] a n l
  value_renamed p texts strings k a n _ = refl

  in_renamed : {m : Change} → Open m → (texts strings : Texts) → KeepsTexts m.number m.holds texts strings → (ps : List Place) (a : Around) (n : ℕ) {ds es : Data} → LikeIn m ds es
      → flat_map (found_at strings) (sites_in strings ps (renamed_around m.number a) n es) ≡ map (renamed_violation m.number) (flat_map (found_at texts) (sites_in texts ps a n ds))
  in_renamed p texts strings k ps a n end = refl
  in_renamed {m} p texts strings k ps a n (next c d cs ds h l) =
      rw (placed_renamed m.number (place_first ps) a, nodes_at_like p h)
      (append_renamed m.number texts strings
      (sites_at strings (renamed_around m.number (placed (place_first ps) a)) n d) (sites_in strings (place_rest ps) (renamed_around m.number a) (n + nodes_at c) ds)
      (sites_at texts (placed (place_first ps) a) n c) (sites_in texts (place_rest ps) a (n + nodes_at c) cs)
      (value_renamed p texts strings k (placed (place_first ps) a) n h) (in_renamed p texts strings k (place_rest ps) a (n + nodes_at c) l))

pub numbers_break_no_rule : NumbersBreakNoRule
numbers_break_no_rule r i p texts strings k c (branch j ds) h = value_renamed (renaming_open r i p) texts strings k (start c) 0 (renamed_like_at r p (child (branch j ds)) h)
