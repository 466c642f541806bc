-- The inside of a scope breaks no rule, and a scope breaks the same rules whatever stands inside.
use Rattle.std.proofs.Common.{List, [], ◌++◌, ◌≡◌, true, refl, sym, ◌∙◌, filter_map}
use Rattle.bast_schema.specs.declared.kind.Kind.{Kind}
use Rattle.bast_schema.specs.declared.kind.Kind.TheVariants.{AssertedScriptGlobalScope, AssertedVarScope, AssertedBlockScope, AssertedParameterScope, AssertedBoundNamesScope, AssertedDeclaredName, AssertedPositionalParameterName, AssertedRestParameterName, AssertedBoundName}
use Rattle.bast_schema.specs.Tree.{Tree, branch, Datum, child, listed, Data, none, more}
use Rattle.bast_schema.proofs.Both.{and_first, and_second}
use Rattle.scope_facts.specs.declared.context.Violation.{Violation}
use Rattle.scope_facts.specs.Roles.{part, is_scope_part}
use Rattle.scope_facts.proofs.Clean.{are_leaves, is_entry_kind, is_entry_node, are_entries, only_entries}
use Rattle.early_errors.specs.declared.kinds.Place.{Place}
use Rattle.early_errors.specs.declared.kinds.Place.TheVariants as place
use Rattle.early_errors.specs.declared.kinds.Role.TheVariants.{Plain}
use Rattle.early_errors.specs.Kinds.{role, places}
use Rattle.early_errors.specs.Strict.{Texts}
use Rattle.early_errors.specs.Around.{Around, parts_around, placed, place_first, place_rest}
use Rattle.early_errors.specs.Early.{early_rules, violation}
use Rattle.early_errors.specs.Reading.{Reading, reading_by}
use Rattle.early_errors.specs.Rules.{says}
use Rattle.early_errors.proofs.LikeReading.{scope_role}

-- what the rules find where they read this, under the number 0
abbrev pub found_by : Reading → List Violation
found_by x = filter_map (λ r. violation 0 r (says r x)) early_rules

-- what they find in a tree, by one recursion
abbrev mutual
  pub found_in_tree : Texts → Around → Tree → List Violation
  found_in_tree s a (branch k ds) = found_by (reading_by s a (role k) ds) ++ found_in s (places k) (parts_around s (role k) ds a) ds

  pub found_in_value : Texts → Around → Datum → List Violation
  found_in_value s a (child t) = found_in_tree s a t
  found_in_value s a (listed ds) = found_in s [] a ds
  found_in_value s a _ = []

  pub found_in : Texts → List Place → Around → Data → List Violation
  found_in s ps a none = []
  found_in s ps a (more d ds) = found_in_value s (placed (place_first ps) a) d ++ found_in s (place_rest ps) a ds

-- a plain node breaks the same rules whatever stands inside
plain_same : (s : Texts) (a : Around) (ds es : Data) → found_by (reading_by s a Plain ds) ≡ found_by (reading_by s a Plain es)
unfolding early_rules
plain_same s a ds es = refl

-- a plain node that is no target breaks no rule
plain_quiet : (s : Texts) (a : Around) (ds : Data) → found_by (reading_by s (placed place.Plain a) Plain ds) ≡ []
unfolding early_rules
plain_quiet s a ds = refl

leaves_quiet : (s : Texts) (a : Around) (fs : Data) → are_leaves fs ≡ true → found_in s [] a fs ≡ []
leaves_quiet s a none h = refl
leaves_quiet s a (more (child t) fs) h = cc
leaves_quiet s a (more (listed es) fs) h = cc
leaves_quiet s a (more _ fs) h = leaves_quiet s a fs h

entry_plain : (k : Kind) → is_entry_kind k ≡ true → (role k ≡ Plain) × (places k ≡ [])
entry_plain AssertedDeclaredName h = (refl, refl)
entry_plain AssertedPositionalParameterName h = (refl, refl)
entry_plain AssertedRestParameterName h = (refl, refl)
entry_plain AssertedBoundName h = (refl, refl)
entry_plain _ h = cc

entry_quiet : (s : Texts) (a : Around) (d : Datum) → is_entry_node d ≡ true → found_in_value s (placed place.Plain a) d ≡ []
entry_quiet s a (child (branch k fs)) h =
    let plain : (role k ≡ Plain) × (places k ≡ []) = entry_plain k (and_first (is_entry_kind k) (are_leaves fs) h)
    in rw (plain.0, plain.1, plain_quiet s a fs) (leaves_quiet s (placed place.Plain a) fs (and_second (is_entry_kind k) (are_leaves fs) h))
entry_quiet s a _ h = cc

entries_quiet : (s : Texts) (a : Around) (es : Data) → are_entries es ≡ true → found_in s [] a es ≡ []
entries_quiet s a none h = refl
entries_quiet s a (more d es) h = rw (entry_quiet s a d (and_first (is_entry_node d) (are_entries es) h)) (entries_quiet s a es (and_second (is_entry_node d) (are_entries es) h))

fields_quiet : (s : Texts) (a : Around) (ds : Data) → only_entries ds ≡ true → found_in s [] a ds ≡ []
fields_quiet s a none h = refl
fields_quiet s a (more (child t) ds) h = cc
fields_quiet s a (more (listed es) ds) h = rw (entries_quiet s (placed place.Plain a) es (and_first (are_entries es) (only_entries ds) h)) (fields_quiet s a ds (and_second (are_entries es) (only_entries ds) h))
fields_quiet s a (more _ ds) h = fields_quiet s a ds h

-- the fields of a scope are plain
scope_places : (k : Kind) → is_scope_part (part k) ≡ true → places k ≡ []
scope_places AssertedScriptGlobalScope s = refl
scope_places AssertedVarScope s = refl
scope_places AssertedBlockScope s = refl
scope_places AssertedParameterScope s = refl
scope_places AssertedBoundNamesScope s = refl
scope_places _ s = cc

-- what a scope breaks, it breaks by itself
scope_alone : (s : Texts) (a : Around) (k : Kind) (ds : Data) → is_scope_part (part k) ≡ true → only_entries ds ≡ true → found_in_tree s a (branch k ds) ≡ found_by (reading_by s a Plain none) ++ []
scope_alone s a k ds e h = rw (scope_role k e, scope_places k e, plain_same s a ds none, fields_quiet s (parts_around s Plain ds a) ds h) refl

pub scope_same : (s : Texts) (a : Around) (k : Kind) (ds es : Data) → is_scope_part (part k) ≡ true → only_entries ds ≡ true → only_entries es ≡ true → found_in_tree s a (branch k es) ≡ found_in_tree s a (branch k ds)
scope_same s a k ds es e h g = scope_alone s a k es e g ∙ sym (scope_alone s a k ds e h)
