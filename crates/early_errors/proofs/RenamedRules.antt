-- What a rule finds in a renamed reading is what it finds in the reading, by the renamed name.
use Rattle.std.proofs.Common.{ℕ, List, [], ◌∷◌, ◌≡◌, Bool, true, false, ◌||◌, ◌&&◌, not, nat_eq, is_some, refl, map, Option, None, Some}
use Rattle.std.specs.Option.{option_map}
use Rattle.scope_facts.specs.declared.context.Rule.{Rule}
use Rattle.scope_facts.specs.declared.context.Rule.TheVariants.{E1, E2, E3, E4, E5, E6, E7, E8, E9, E10, E11, E12, E13, E14, E15, E16, E17, E18}
use Rattle.scope_facts.specs.Renamed.{IsInjective}
use Rattle.early_errors.specs.declared.kinds.Role.{Role}
use Rattle.early_errors.specs.declared.kinds.Role.TheVariants as roles
use Rattle.early_errors.specs.declared.around.Label.{Label}
use Rattle.early_errors.specs.declared.rules.Finding.{Finding}
use Rattle.early_errors.specs.declared.rules.Finding.TheVariants.{Holds, Broken}
use Rattle.early_errors.specs.Strict.{has_text}
use Rattle.early_errors.specs.Repeats.{repeat_from, repeated, is_among, shared}
use Rattle.early_errors.specs.Reading.{Reading}
use Rattle.early_errors.specs.Rules.{where_so, by_name, if_so, not_for, at_contents, is_arrow, is_assigned, is_restricted, is_word, is_strict_word, is_return, is_stray, is_around, unknown, unknown_by, nested, nested_by, at_for, is_target, misnamed, is_unspelled, says}
use Rattle.early_errors.proofs.LikeReading.{renamed_label, renamed_reading, if_option}

-- what is found, with another number for its name
abbrev pub renamed_finding : (ℕ → ℕ) → Finding → Finding
renamed_finding r Holds = Holds
renamed_finding r (Broken name) = Broken (option_map r name)

where_renamed : (r : ℕ → ℕ) (b : Bool) (o : Option ℕ) → where_so b (option_map r o) ≡ renamed_finding r (where_so b o)
where_renamed r true o = refl
where_renamed r false o = refl

by_name_renamed : (r : ℕ → ℕ) (o : Option ℕ) → by_name (option_map r o) ≡ renamed_finding r (by_name o)
by_name_renamed r (Some n) = refl
by_name_renamed r None = refl

if_so_renamed : (r : ℕ → ℕ) (b : Bool) (f : Finding) → if_so b (renamed_finding r f) ≡ renamed_finding r (if_so b f)
if_so_renamed r b Holds = refl
if_so_renamed r b (Broken name) = where_renamed r b name

not_for_renamed : (r : ℕ → ℕ) (ro : Role) (f : Finding) → not_for ro (renamed_finding r f) ≡ renamed_finding r (not_for ro f)
not_for_renamed r roles.For f = refl
not_for_renamed r _ f = refl

contents_renamed : (r : ℕ → ℕ) (ro : Role) (f : Finding) → at_contents ro (renamed_finding r f) ≡ renamed_finding r (at_contents ro f)
contents_renamed r roles.Contents f = refl
contents_renamed r _ f = refl

at_for_renamed : (r : ℕ → ℕ) (ro : Role) (f : Finding) → at_for ro (renamed_finding r f) ≡ renamed_finding r (at_for ro f)
at_for_renamed r roles.For f = refl
at_for_renamed r _ f = refl

is_some_renamed : (r : ℕ → ℕ) (o : Option ℕ) → is_some (option_map r o) ≡ is_some o
is_some_renamed r (Some n) = refl
is_some_renamed r None = refl

-- names that come again

repeat_renamed : (r : ℕ → ℕ) → IsInjective r → (f g : ℕ → Bool) → ((n : ℕ) → g (r n) ≡ f n) → (ns : List ℕ) → repeat_from g (map r ns) ≡ option_map r (repeat_from f ns)
repeat_renamed r i f g h [] = refl
repeat_renamed r i f g h (n ∷ ns) = rw (h n, repeat_renamed r i (λ m. nat_eq n m || f m) (λ m. nat_eq (r n) m || g m) (λ m. rw (i n m, h m) refl) ns) (if_option r (f n) (Some n) (repeat_from (λ m. nat_eq n m || f m) ns))

repeated_renamed : (r : ℕ → ℕ) → IsInjective r → (ns : List ℕ) → repeated (map r ns) ≡ option_map r (repeated ns)
repeated_renamed r i ns = repeat_renamed r i (λ m. false) (λ m. false) (λ m. refl) ns

among_renamed : (r : ℕ → ℕ) → IsInjective r → (ms : List ℕ) (n : ℕ) → is_among (map r ms) (r n) ≡ is_among ms n
among_renamed r i [] n = refl
among_renamed r i (m ∷ ms) n = rw (i m n, among_renamed r i ms n) refl

shared_renamed : (r : ℕ → ℕ) → IsInjective r → (ns ms : List ℕ) → shared (map r ns) (map r ms) ≡ option_map r (shared ns ms)
shared_renamed r i [] ms = refl
shared_renamed r i (n ∷ ns) ms = rw (among_renamed r i ms n, shared_renamed r i ns ms) (if_option r (is_among ms n) (Some n) (shared ns ms))

-- labels

around_renamed : (r : ℕ → ℕ) → IsInjective r → (n : ℕ) (loop : Bool) (ls : List Label) → is_around (r n) loop (map (renamed_label r) ls) ≡ is_around n loop ls
around_renamed r i n loop [] = refl
around_renamed r i n loop (l ∷ ls) = rw (i l.name n, around_renamed r i n loop ls) refl

unknown_renamed : (r : ℕ → ℕ) → IsInjective r → (o : Option ℕ) (loop : Bool) (ls : List Label) → unknown (option_map r o) loop (map (renamed_label r) ls) ≡ renamed_finding r (unknown o loop ls)
unknown_renamed r i (Some n) loop ls = rw (around_renamed r i n loop ls) (where_renamed r (not (is_around n loop ls)) (Some n))
unknown_renamed r i None loop ls = refl

unknown_by_renamed : (r : ℕ → ℕ) → IsInjective r → (ro : Role) (o : Option ℕ) (ls : List Label) → unknown_by ro (option_map r o) (map (renamed_label r) ls) ≡ renamed_finding r (unknown_by ro o ls)
unknown_by_renamed r i roles.Break o ls = unknown_renamed r i o false ls
unknown_by_renamed r i roles.Continue o ls = unknown_renamed r i o true ls
unknown_by_renamed r i _ o ls = refl

nested_renamed : (r : ℕ → ℕ) → IsInjective r → (o : Option ℕ) (ls : List Label) → nested (option_map r o) (map (renamed_label r) ls) ≡ renamed_finding r (nested o ls)
nested_renamed r i (Some n) ls = rw (around_renamed r i n false ls) (where_renamed r (is_around n false ls) (Some n))
nested_renamed r i None ls = refl

nested_by_renamed : (r : ℕ → ℕ) → IsInjective r → (ro : Role) (o : Option ℕ) (ls : List Label) → nested_by ro (option_map r o) (map (renamed_label r) ls) ≡ renamed_finding r (nested_by ro o ls)
nested_by_renamed r i roles.Labelled o ls = nested_renamed r i o ls
nested_by_renamed r i _ o ls = refl

-- the rules

pub says_renamed : (r : ℕ → ℕ) → IsInjective r → (q : Rule) (x : Reading) → says q (renamed_reading r x) ≡ renamed_finding r (says q x)
says_renamed r i E1 x = rw (repeated_renamed r i x.lexicals) (by_name_renamed r (repeated x.lexicals))
says_renamed r i E2 x = rw (shared_renamed r i x.lexicals x.vars, by_name_renamed r (shared x.lexicals x.vars)) (not_for_renamed r x.role (by_name (shared x.lexicals x.vars)))
says_renamed r i E3 x = rw (shared_renamed r i x.lexicals x.parameters, by_name_renamed r (shared x.lexicals x.parameters)) (contents_renamed r x.role (by_name (shared x.lexicals x.parameters)))
says_renamed r i E4 x = rw (repeated_renamed r i x.parameters, by_name_renamed r (repeated x.parameters)) (if_so_renamed r (x.flags.strict || (not x.simple || (x.flags.unique || is_arrow x.role))) (by_name (repeated x.parameters)))
says_renamed r i E5 x = where_renamed r (not x.simple && x.flags.own_strict) None
says_renamed r i E6 x = where_renamed r (is_assigned x.role x.flags.target && (x.flags.strict && has_text is_restricted x.text)) x.name
says_renamed r i E7 x = rw (by_name_renamed r x.deleted) (if_so_renamed r x.flags.strict (by_name x.deleted))
says_renamed r i E8 x = where_renamed r (is_word x.role && (x.flags.strict && has_text is_strict_word x.text)) x.name
says_renamed r i E9 x = rw (by_name_renamed r x.bare) (if_so_renamed r x.flags.constant (by_name x.bare))
says_renamed r i E10 x = where_renamed r (is_return x.role && not x.flags.function) None
says_renamed r i E11 x = rw (is_some_renamed r x.name) (where_renamed r (is_stray x.role x.flags.looped x.flags.breakable && not (is_some x.name)) None)
says_renamed r i E12 x = unknown_by_renamed r i x.role x.name x.labels
says_renamed r i E13 x = nested_by_renamed r i x.role x.name x.labels
says_renamed r i E14 x = rw (shared_renamed r i x.caught x.block) (by_name_renamed r (shared x.caught x.block))
says_renamed r i E15 x = rw (shared_renamed r i x.lexicals x.vars, by_name_renamed r (shared x.lexicals x.vars)) (at_for_renamed r x.role (by_name (shared x.lexicals x.vars)))
says_renamed r i E16 x = where_renamed r (not (is_target x.role) && x.flags.target) None
says_renamed r i E17 x = rw (is_some_renamed r x.name) (where_renamed r (misnamed x.role (is_some x.name) x.text) x.name)
says_renamed r i E18 x = where_renamed r (is_unspelled x.role x.text) None
says_renamed r i _ x = refl
