-- What is wrong with small scopes.
use Rattle.std.proofs.Common.{ℕ, Bool, true, false, Some, None, [], ◌∷◌, ◌≡◌, refl}
use Rattle.bast_schema.specs.declared.kind.Kind.{Kind}
use Rattle.bast_schema.specs.declared.kind.Kind.TheVariants.{AssertedVarScope, AssertedBlockScope, AssertedParameterScope, AssertedBoundNamesScope, AssertedDeclaredName, AssertedPositionalParameterName, AssertedRestParameterName, AssertedBoundName, BindingIdentifier, BindingWithInitializer, FormalParameters, VariableDeclarator, VarDeclaration, LexicalDeclaration, ThisExpression}
use Rattle.bast_schema.specs.Choices.{declared_var, declared_lexical, declared_const, lexical_let, lexical_const}
use Rattle.bast_schema.specs.Tree.{Tree, branch, Datum, child, absent, listed, flag, index, name, choice, Data, none, more}
use Rattle.scope_check.specs.declared.finding.Finding.TheVariants.{Fine, Wrong}
use Rattle.scope_check.specs.Entries.{scope_says}

abbrev one : Datum → Data
one d = more d none

abbrev two : Datum → Datum → Data
two d e = more d (one e)

abbrev binding : ℕ → Datum
binding n = child (branch BindingIdentifier (one (name n)))

abbrev declarator : ℕ → Datum
declarator n = child (branch VariableDeclarator (two (binding n) absent))

-- `var n;`
abbrev var : ℕ → Datum
var n = child (branch VarDeclaration (one (listed (one (declarator n)))))

-- `let n;` or `const n;`
abbrev lexical : ℕ → ℕ → Datum
lexical c n = child (branch LexicalDeclaration (two (choice c) (listed (one (declarator n)))))

abbrev declared : ℕ → ℕ → Bool → Datum
declared n c captured = child (branch AssertedDeclaredName (more (name n) (two (choice c) (flag captured))))

abbrev scope : Kind → Data → Tree
scope k es = branch k (two (listed es) (flag false))

-- `var 7; let 8; var 7;`
abbrev body : Data
body = one (listed (more (var 7) (two (lexical lexical_let 8) (var 7))))

says_all : scope_says [] (scope AssertedVarScope (two (declared 7 declared_var false) (declared 8 declared_lexical false))) body ≡ Fine
says_all = refl

in_another_order : scope_says [] (scope AssertedVarScope (two (declared 8 declared_lexical false) (declared 7 declared_var false))) body ≡ Fine
in_another_order = refl

captured_or_not : scope_says [] (scope AssertedVarScope (two (declared 7 declared_var true) (declared 8 declared_lexical false))) body ≡ Fine
captured_or_not = refl

leaves_one_out : scope_says [] (scope AssertedVarScope (one (declared 7 declared_var false))) body ≡ Wrong (Some 8)
leaves_one_out = refl

leaves_all_out : scope_says [] (scope AssertedVarScope none) body ≡ Wrong (Some 7)
leaves_all_out = refl

repeats_one : scope_says [] (scope AssertedVarScope (more (declared 8 declared_lexical false) (two (declared 7 declared_var false) (declared 8 declared_lexical true)))) body ≡ Wrong (Some 8)
repeats_one = refl

repeats_and_leaves_out : scope_says [] (scope AssertedVarScope (two (declared 8 declared_lexical false) (declared 8 declared_lexical false))) body ≡ Wrong (Some 8)
repeats_and_leaves_out = refl

of_another_kind : scope_says [] (scope AssertedVarScope (two (declared 7 declared_var false) (declared 8 declared_const false))) body ≡ Wrong (Some 8)
of_another_kind = refl

strange_before_missing : scope_says [] (scope AssertedVarScope (two (declared 8 declared_lexical false) (declared 9 declared_var false))) body ≡ Wrong (Some 9)
strange_before_missing = refl

lexical_of_a_block : scope_says [] (scope AssertedBlockScope (one (declared 8 declared_lexical false))) body ≡ Fine
lexical_of_a_block = refl

var_of_a_block : scope_says [] (scope AssertedBlockScope (two (declared 8 declared_lexical false) (declared 7 declared_var false))) body ≡ Wrong (Some 7)
var_of_a_block = refl

constant_of_a_block : scope_says [] (scope AssertedBlockScope (one (declared 8 declared_const false))) (one (listed (one (lexical lexical_const 8)))) ≡ Fine
constant_of_a_block = refl

-- a name of two kinds is two declared names
two_kinds : scope_says [] (scope AssertedVarScope (one (declared 7 declared_var false))) (one (listed (two (var 7) (lexical lexical_let 7)))) ≡ Wrong (Some 7)
two_kinds = refl

abbrev bound_entry : ℕ → Datum
bound_entry n = child (branch AssertedBoundName (two (name n) (flag false)))

bound_name : scope_says (7 ∷ []) (scope AssertedBoundNamesScope (one (bound_entry 7))) none ≡ Fine
bound_name = refl

another_bound_name : scope_says (7 ∷ []) (scope AssertedBoundNamesScope (one (bound_entry 8))) none ≡ Wrong (Some 8)
another_bound_name = refl

no_bound_name : scope_says (7 ∷ []) (scope AssertedBoundNamesScope none) none ≡ Wrong (Some 7)
no_bound_name = refl

bound_twice : scope_says (7 ∷ []) (scope AssertedBoundNamesScope (two (bound_entry 7) (bound_entry 7))) none ≡ Wrong (Some 7)
bound_twice = refl

nothing_bound : scope_says [] (scope AssertedBoundNamesScope (one (bound_entry 7))) none ≡ Wrong (Some 7)
nothing_bound = refl

abbrev place : ℕ → ℕ → Datum
place i n = child (branch AssertedPositionalParameterName (more (index i) (two (name n) (flag false))))

abbrev rest : ℕ → Datum
rest n = child (branch AssertedRestParameterName (two (name n) (flag false)))

abbrev parameters : Bool → Data → Tree
parameters simple es = branch AssertedParameterScope (more (listed es) (two (flag false) (flag simple)))

-- `(7, 8)`, `(7, 7)`, `(7, 8 = this)` and `(7, ...8)`
abbrev plain : Data
plain = one (child (branch FormalParameters (two (listed (two (binding 7) (binding 8))) absent)))

abbrev alike : Data
alike = one (child (branch FormalParameters (two (listed (two (binding 7) (binding 7))) absent)))

abbrev with_initializer : Data
with_initializer = one (child (branch FormalParameters (two (listed (two (binding 7) (child (branch BindingWithInitializer (two (binding 8) (child (branch ThisExpression none))))))) absent)))

abbrev with_rest : Data
with_rest = one (child (branch FormalParameters (two (listed (one (binding 7))) (binding 8))))

simple_parameters : scope_says [] (parameters true (two (place 0 7) (place 1 8))) plain ≡ Fine
simple_parameters = refl

not_said_simple : scope_says [] (parameters false (two (place 0 7) (place 1 8))) plain ≡ Wrong None
not_said_simple = refl

parameters_in_another_order : scope_says [] (parameters true (two (place 1 8) (place 0 7))) plain ≡ Fine
parameters_in_another_order = refl

another_place : scope_says [] (parameters true (two (place 0 7) (place 2 8))) plain ≡ Wrong (Some 8)
another_place = refl

places_swapped : scope_says [] (parameters false (two (place 0 8) (place 1 7))) plain ≡ Wrong (Some 8)
places_swapped = refl

alike_in_two_places : scope_says [] (parameters true (two (place 0 7) (place 1 7))) alike ≡ Fine
alike_in_two_places = refl

alike_but_one_left_out : scope_says [] (parameters true (one (place 0 7))) alike ≡ Wrong (Some 7)
alike_but_one_left_out = refl

initializer : scope_says [] (parameters false (two (place 0 7) (place 1 8))) with_initializer ≡ Fine
initializer = refl

initializer_said_simple : scope_says [] (parameters true (two (place 0 7) (place 1 8))) with_initializer ≡ Wrong None
initializer_said_simple = refl

rest_parameter : scope_says [] (parameters false (two (place 0 7) (rest 8))) with_rest ≡ Fine
rest_parameter = refl

rest_said_simple : scope_says [] (parameters true (two (place 0 7) (rest 8))) with_rest ≡ Wrong None
rest_said_simple = refl

rest_as_a_place : scope_says [] (parameters false (two (place 0 7) (place 1 8))) with_rest ≡ Wrong (Some 8)
rest_as_a_place = refl

place_as_a_rest : scope_says [] (parameters true (two (place 0 7) (rest 8))) plain ≡ Wrong (Some 8)
place_as_a_rest = refl

-- the one parameter of a setter
of_a_setter : scope_says [] (parameters true (one (place 0 7))) (one (binding 7)) ≡ Fine
of_a_setter = refl

no_scope : scope_says [] (branch ThisExpression none) plain ≡ Fine
no_scope = refl
