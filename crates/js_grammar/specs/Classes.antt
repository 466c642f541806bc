-- The classes of tokens, and which of them a terminal takes.
use Rattle.std.specs.Prelude.{ℕ, Bool, List, [], ◌∷◌, ◌==◌, ◌++◌}
use Rattle.std.specs.List.{list_any}
use denote.Enum.Declared.{tag_of}
use Rattle.js_grammar.specs.contracts.class.Class as class
use Rattle.js_grammar.specs.declared.class.Class.{Class}
use Rattle.js_grammar.specs.declared.class.Class.TheVariants as classes
use Rattle.js_grammar.specs.declared.symbols.Mode.TheVariants as modes
use Rattle.js_grammar.specs.declared.symbols.Level.TheVariants as levels
use Rattle.js_grammar.specs.declared.symbols.Mode.{Mode}
use Rattle.js_grammar.specs.declared.symbols.Level.{Level}
use Rattle.js_grammar.specs.declared.symbols.Terminal.{Terminal}
use Rattle.js_grammar.specs.declared.symbols.Terminal.TheVariants as terminals

-- the place of a class in the enum
abbrev pub number_of : Class → ℕ
number_of c = tag_of class.the_type c

abbrev pub same_class : Class → Class → Bool
same_class a b = number_of a == number_of b

-- whether the class is one of these
abbrev pub is_among : Class → List Class → Bool
is_among c ks = list_any (same_class c) ks

-- identifiers
abbrev pub identifiers : List Class
identifiers = classes.Identifier ∷ classes.Of ∷ classes.Get ∷ classes.Set ∷ []

-- reserved words
abbrev pub reserved_words : List Class
reserved_words = classes.Instanceof ∷ classes.In ∷ classes.UnaryWord ∷ classes.This ∷ classes.Null ∷ classes.True ∷ classes.False ∷ classes.New ∷ classes.Function ∷ classes.Let ∷ classes.Const ∷ classes.Var ∷ classes.Debugger ∷ classes.If ∷ classes.Else ∷ classes.For ∷ classes.While ∷ classes.Do ∷ classes.Continue ∷ classes.Break ∷ classes.Return ∷ classes.Throw ∷ classes.Switch ∷ classes.Case ∷ classes.Default ∷ classes.Try ∷ classes.Catch ∷ classes.Finally ∷ classes.OtherWord ∷ []

-- the operators of a level
abbrev pub operators : Level → Mode → List Class
operators levels.LogicalOr m = classes.LogicalOr ∷ []
operators levels.LogicalAnd m = classes.LogicalAnd ∷ []
operators levels.BitwiseOr m = classes.BitwiseOr ∷ []
operators levels.BitwiseXor m = classes.BitwiseXor ∷ []
operators levels.BitwiseAnd m = classes.BitwiseAnd ∷ []
operators levels.Equality m = classes.Equality ∷ []
operators levels.Relational modes.WithIn = classes.Relational ∷ classes.Instanceof ∷ classes.In ∷ []
operators levels.Relational modes.NoIn = classes.Relational ∷ classes.Instanceof ∷ []
operators levels.Shift m = classes.Shift ∷ []
operators levels.Additive m = classes.Sign ∷ []
operators levels.Multiplicative m = classes.Multiplicative ∷ []

-- the classes of tokens that a terminal takes
abbrev pub classes_of : Terminal → List Class
classes_of (terminals.One c) = c ∷ []
classes_of terminals.OpenParen = classes.OpenParen ∷ classes.HeadParen ∷ []
classes_of terminals.Ident = identifiers
classes_of terminals.Bind = identifiers
classes_of terminals.Name = identifiers ++ reserved_words
classes_of terminals.UnaryOperator = classes.Sign ∷ classes.Complement ∷ classes.UnaryWord ∷ []
classes_of (terminals.Operator n m) = operators n m

-- whether a terminal takes a token of the class
abbrev pub takes_class : Terminal → Class → Bool
takes_class t c = is_among c (classes_of t)
