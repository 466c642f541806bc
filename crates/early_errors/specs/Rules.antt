-- The early errors, each with its sections of ECMA-262, 6th edition.
use Rattle.std.specs.Prelude.{ℕ, Bool, true, false, Option, Some, None, List, [], ◌∷◌, ◌||◌, ◌&&◌, not, nat_eq, is_some, codes}
use Rattle.std.specs.List.{list_any}
use Rattle.std.specs.Str.{bytes_eq, chars}
use Rattle.js_tokens.specs.Words.{is_name, word_named}
use Rattle.js_tokens.specs.Spelled.{quote_of, is_one_template}
use Rattle.scope_facts.specs.declared.context.Rule.{Rule}
use Rattle.scope_facts.specs.declared.context.Rule.TheVariants.{E1, E2, E3, E4, E5, E6, E7, E8, E9, E10, E11, E12, E13, E14, E15, E16, E17, E18}
use Rattle.early_errors.specs.declared.kinds.Role.{Role}
use Rattle.early_errors.specs.declared.kinds.Role.TheVariants as roles
use Rattle.early_errors.specs.declared.around.Label.{Label}
use Rattle.early_errors.specs.declared.rules.Finding.{Finding}
use Rattle.early_errors.specs.declared.rules.Finding.TheVariants.{Holds, Broken}
use Rattle.early_errors.specs.Strict.{has_text}
use Rattle.early_errors.specs.Repeats.{repeated, shared}
use Rattle.early_errors.specs.Reading.{Reading}

-- a rule that is broken where this is so, by this name or by none
abbrev pub where_so : Bool → Option ℕ → Finding
where_so true name = Broken name
where_so false name = Holds

-- a rule that is broken where there is such a name, by it
abbrev pub by_name : Option ℕ → Finding
by_name (Some n) = Broken (Some n)
by_name None = Holds

-- what was found, where this is so
abbrev pub if_so : Bool → Finding → Finding
if_so asked Holds = Holds
if_so asked (Broken name) = where_so asked name

-- two lexical names of a list of statements, or of a for head, are equal (13.2.1, 13.12.1, 14.1.2, 15.1.1, 13.7.4.1)
abbrev pub e1 : Reading → Finding
e1 x = by_name (repeated x.lexicals)

-- what is found at a holder, not at a for statement
abbrev pub not_for : Role → Finding → Finding
not_for roles.For found = Holds
not_for _ found = found

-- a lexical name of a list of statements is a var name there (13.2.1, 13.12.1, 14.1.2, 15.1.1)
abbrev pub e2 : Reading → Finding
e2 x = not_for x.role (by_name (shared x.lexicals x.vars))

-- what is found at the contents of a function
abbrev pub at_contents : Role → Finding → Finding
at_contents roles.Contents found = found
at_contents _ found = Holds

-- a parameter name is a lexical name of the body (14.1.2, 14.2.1, 14.3.1)
abbrev pub e3 : Reading → Finding
e3 x = at_contents x.role (by_name (shared x.lexicals x.parameters))

abbrev pub is_arrow : Role → Bool
is_arrow roles.Arrow = true
is_arrow _ = false

-- two parameters have one name in strict code, in a list that is not simple, in an arrow or in a method (14.1.2, 14.2.1,
-- 14.3.1)
abbrev pub e4 : Reading → Finding
e4 x = if_so (x.flags.strict || (not x.simple || (x.flags.unique || is_arrow x.role))) (by_name (repeated x.parameters))

-- a function whose own directives say `use strict` has parameters that are not simple (14.1.2 of the 7th edition)
abbrev pub e5 : Reading → Finding
e5 x = where_so (not x.simple && x.flags.own_strict) None

-- whether a node is bound, or is assigned to
abbrev pub is_assigned : Role → Bool → Bool
is_assigned roles.Binding target = true
is_assigned roles.Use target = target
is_assigned _ target = false

abbrev pub is_restricted : List ℕ → Bool
is_restricted t = bytes_eq t (codes "eval") || bytes_eq t (codes "arguments")

-- `eval` or `arguments` is bound or assigned to in strict code (12.1.1, 12.4.1, 12.5.1, 12.14.1, 13.7.5.1)
abbrev pub e6 : Reading → Finding
e6 x = where_so (is_assigned x.role x.flags.target && (x.flags.strict && has_text is_restricted x.text)) x.name

-- `delete` of a name in strict code (12.5.4.1)
abbrev pub e7 : Reading → Finding
e7 x = if_so x.flags.strict (by_name x.deleted)

-- the words that strict code reserves, but `let` and `yield`, which are reserved everywhere here
abbrev pub strict_words : List (List ℕ)
strict_words = codes "implements" ∷ codes "interface" ∷ codes "package" ∷ codes "private" ∷ codes "protected" ∷ codes "public" ∷ codes "static" ∷ []

abbrev pub is_strict_word : List ℕ → Bool
is_strict_word t = list_any (λ w. bytes_eq w t) strict_words

-- the nodes in which an identifier stands
abbrev pub is_word : Role → Bool
is_word roles.Binding = true
is_word roles.Use = true
is_word roles.Labelled = true
is_word roles.Break = true
is_word roles.Continue = true
is_word _ = false

-- a word that strict code reserves, as a binding, a use or a label (12.1.1)
abbrev pub e8 : Reading → Finding
e8 x = where_so (is_word x.role && (x.flags.strict && has_text is_strict_word x.text)) x.name

-- a `const` declarator without initializer (13.3.1.1)
abbrev pub e9 : Reading → Finding
e9 x = if_so x.flags.constant (by_name x.bare)

abbrev pub is_return : Role → Bool
is_return roles.Return = true
is_return _ = false

-- a `return` outside any function (13.10, 15.1)
abbrev pub e10 : Reading → Finding
e10 x = where_so (is_return x.role && not x.flags.function) None

-- whether a `break` or `continue` stands outside of what it may leave
abbrev pub is_stray : Role → Bool → Bool → Bool
is_stray roles.Break looped breakable = not breakable
is_stray roles.Continue looped breakable = not looped
is_stray _ looped breakable = false

-- a `break` without label outside loop and switch (13.9.1), a `continue` without label outside a loop (13.8.1)
abbrev pub e11 : Reading → Finding
e11 x = where_so (is_stray x.role x.flags.looped x.flags.breakable && not (is_some x.name)) None

-- whether a statement around, or a loop, has the label
abbrev pub is_around : ℕ → Bool → List Label → Bool
is_around n loop labels = list_any (λ l. nat_eq l.name n && (l.looped || not loop)) labels

abbrev pub unknown : Option ℕ → Bool → List Label → Finding
unknown (Some n) loop labels = where_so (not (is_around n loop labels)) (Some n)
unknown None loop labels = Holds

abbrev pub unknown_by : Role → Option ℕ → List Label → Finding
unknown_by roles.Break name labels = unknown name false labels
unknown_by roles.Continue name labels = unknown name true labels
unknown_by _ name labels = Holds

-- a label of `break` that no statement around has (13.1.2), a label of `continue` that no loop around has (13.1.3)
abbrev pub e12 : Reading → Finding
e12 x = unknown_by x.role x.name x.labels

abbrev pub nested : Option ℕ → List Label → Finding
nested (Some n) labels = where_so (is_around n false labels) (Some n)
nested None labels = Holds

abbrev pub nested_by : Role → Option ℕ → List Label → Finding
nested_by roles.Labelled name labels = nested name labels
nested_by _ name labels = Holds

-- a label inside a statement of the same label (13.1.1)
abbrev pub e13 : Reading → Finding
e13 x = nested_by x.role x.name x.labels

-- the name of a catch clause is a lexical or var name of its block (13.15.1)
abbrev pub e14 : Reading → Finding
e14 x = by_name (shared x.caught x.block)

-- what is found at a for statement
abbrev pub at_for : Role → Finding → Finding
at_for roles.For found = found
at_for _ found = Holds

-- a name that the head of a for statement declares is a var name of its body (13.7.4.1, 13.7.5.1)
abbrev pub e15 : Reading → Finding
e15 x = at_for x.role (by_name (shared x.lexicals x.vars))

-- whether a node may be assigned to
abbrev pub is_target : Role → Bool
is_target roles.Use = true
is_target roles.Property = true
is_target roles.Member = true
is_target roles.Head = true
is_target _ = false

-- a target is neither a name nor a member (12.4.1, 12.5.1, 12.14.1, 13.7.5.1)
abbrev pub e16 : Reading → Finding
e16 x = where_so (not (is_target x.role) && x.flags.target) None

abbrev pub is_identifier : List ℕ → Bool
is_identifier t = not (is_some (word_named t)) && is_name (chars t)

abbrev pub is_member_name : List ℕ → Bool
is_member_name t = is_name (chars t)

-- whether the name in a node is none for it, where there is one
abbrev pub misnamed : Role → Bool → Option (List ℕ) → Bool
misnamed roles.Property there text = not (has_text is_member_name text)
misnamed r there text = is_word r && (there && not (has_text is_identifier text))

-- a binding, a use or a label is no identifier, or is reserved everywhere (11.6.2, 12.1); the name of a member is no
-- identifier name (11.6, 12.3)
abbrev pub e17 : Reading → Finding
e17 x = where_so (misnamed x.role (is_some x.name) x.text) x.name

abbrev pub is_quoted : List ℕ → Bool
is_quoted t = is_some (quote_of t)

-- whether the raw text in a node can't be spelled
abbrev pub is_unspelled : Role → Option (List ℕ) → Bool
is_unspelled roles.Directive text = not (has_text is_quoted text)
is_unspelled roles.Template text = not (has_text is_one_template text)
is_unspelled _ text = false

-- the raw text of a directive stands between no quotes (11.8.4), that of a template between no backticks (11.8.6)
abbrev pub e18 : Reading → Finding
e18 x = where_so (is_unspelled x.role x.text) None

-- what a rule finds; those on scopes are none of these
abbrev pub says : Rule → Reading → Finding
says E1 x = e1 x
says E2 x = e2 x
says E3 x = e3 x
says E4 x = e4 x
says E5 x = e5 x
says E6 x = e6 x
says E7 x = e7 x
says E8 x = e8 x
says E9 x = e9 x
says E10 x = e10 x
says E11 x = e11 x
says E12 x = e12 x
says E13 x = e13 x
says E14 x = e14 x
says E15 x = e15 x
says E16 x = e16 x
says E17 x = e17 x
says E18 x = e18 x
says _ x = Holds
