-- The sets of choices with their texts.
use Rattle.std.specs.Prelude.{ℕ, List, [], ◌∷◌, length, codes, Option}
use Rattle.std.specs.List.{position_from}
use Rattle.std.specs.Option.{unwrap_or}
use Rattle.std.specs.Str.{bytes_eq}
use Rattle.bast_schema.specs.declared.kind.EnumId.{EnumId}
use Rattle.bast_schema.specs.declared.kind.EnumId.TheVariants.{DeclaredKind, LexicalKind, ForKind, UnaryOperator, UpdateOperator, BinaryOperator, CompoundOperator}

-- the texts of a set of choices
abbrev pub choice_texts : EnumId → List (List ℕ)
choice_texts DeclaredKind = codes "var" ∷ codes "non-const lexical" ∷ codes "const lexical" ∷ []
choice_texts LexicalKind = codes "let" ∷ codes "const" ∷ []
choice_texts ForKind = codes "var" ∷ codes "let" ∷ codes "const" ∷ []
choice_texts UnaryOperator = codes "+" ∷ codes "-" ∷ codes "~" ∷ codes "!" ∷ codes "typeof" ∷ codes "void" ∷ codes "delete" ∷ []
choice_texts UpdateOperator = codes "++" ∷ codes "--" ∷ []
choice_texts BinaryOperator = codes "||" ∷ codes "&&" ∷ codes "|" ∷ codes "^" ∷ codes "&" ∷ codes "==" ∷ codes "!=" ∷ codes "===" ∷ codes "!==" ∷ codes "<" ∷ codes ">" ∷ codes "<=" ∷ codes ">=" ∷ codes "instanceof" ∷ codes "in" ∷ codes "<<" ∷ codes ">>" ∷ codes ">>>" ∷ codes "+" ∷ codes "-" ∷ codes "*" ∷ codes "/" ∷ codes "%" ∷ []
choice_texts CompoundOperator = codes "+=" ∷ codes "-=" ∷ codes "*=" ∷ codes "/=" ∷ codes "%=" ∷ codes "<<=" ∷ codes ">>=" ∷ codes ">>>=" ∷ codes "&=" ∷ codes "^=" ∷ codes "|=" ∷ []

-- the number of a text among the choices
abbrev pub choice_of_text : EnumId → List ℕ → Option ℕ
choice_of_text e t = position_from (λ c. bytes_eq c t) 0 (choice_texts e)

-- the same for a text that the set has; for any other text the number that no choice has
abbrev pub chosen_as : EnumId → List ℕ → ℕ
chosen_as e t = unwrap_or (choice_of_text e t) (length (choice_texts e))

-- the choices with names of their own: how a scope says that a name is declared
abbrev pub declared_var : ℕ
declared_var = chosen_as DeclaredKind (codes "var")

abbrev pub declared_lexical : ℕ
declared_lexical = chosen_as DeclaredKind (codes "non-const lexical")

abbrev pub declared_const : ℕ
declared_const = chosen_as DeclaredKind (codes "const lexical")

-- the words of lexical declarations
abbrev pub lexical_let : ℕ
lexical_let = chosen_as LexicalKind (codes "let")

abbrev pub lexical_const : ℕ
lexical_const = chosen_as LexicalKind (codes "const")

-- the words in the heads of for loops
abbrev pub for_var : ℕ
for_var = chosen_as ForKind (codes "var")

abbrev pub for_let : ℕ
for_let = chosen_as ForKind (codes "let")

abbrev pub for_const : ℕ
for_const = chosen_as ForKind (codes "const")

-- the operator delete
abbrev pub unary_delete : ℕ
unary_delete = chosen_as UnaryOperator (codes "delete")
