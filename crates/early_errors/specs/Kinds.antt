-- What kinds of node and their fields are for the rules.
use Rattle.std.specs.Prelude.{List, [], ◌∷◌}
use Rattle.bast_schema.specs.declared.kind.Kind.{Kind}
use Rattle.bast_schema.specs.declared.kind.Kind.TheVariants as kind
use Rattle.early_errors.specs.declared.kinds.Role.{Role}
use Rattle.early_errors.specs.declared.kinds.Role.TheVariants as roles
use Rattle.early_errors.specs.declared.kinds.Place.{Place}
use Rattle.early_errors.specs.declared.kinds.Place.TheVariants.{Plain, Target, Body, Cases, Name, Inside}

-- what a kind is for the rules; a lazy function is what the eager one is
abbrev pub role : Kind → Role
role kind.Script = roles.Script
role kind.EagerFunctionDeclaration = roles.Function
role kind.LazyFunctionDeclaration = roles.Function
role kind.EagerFunctionExpression = roles.Function
role kind.LazyFunctionExpression = roles.Function
role kind.EagerGetter = roles.Function
role kind.LazyGetter = roles.Function
role kind.EagerSetter = roles.Function
role kind.LazySetter = roles.Function
role kind.EagerMethod = roles.Method
role kind.LazyMethod = roles.Method
role kind.EagerArrowExpressionWithFunctionBody = roles.Method
role kind.EagerArrowExpressionWithExpression = roles.Arrow
role kind.FunctionContents = roles.Contents
role kind.GetterContents = roles.Contents
role kind.SetterContents = roles.Contents
role kind.Block = roles.Block
role kind.SwitchStatement = roles.Block
role kind.SwitchStatementWithDefault = roles.Block
role kind.ForStatement = roles.For
role kind.ForInStatement = roles.For
role kind.ForOfStatement = roles.For
role kind.WhileStatement = roles.Loop
role kind.DoWhileStatement = roles.Loop
role kind.CatchClause = roles.Catch
role kind.Directive = roles.Directive
role kind.TemplateExpression = roles.Template
role kind.TemplatePart = roles.Template
role kind.LexicalDeclaration = roles.Lexical
role kind.VarDeclaration = roles.Variables
role kind.VariableDeclarator = roles.Declarator
role kind.LabelledStatement = roles.Labelled
role kind.ReturnStatement = roles.Return
role kind.BreakStatement = roles.Break
role kind.ContinueStatement = roles.Continue
role kind.UnaryExpression = roles.Unary
role kind.IdentifierExpression = roles.Use
role kind.BindingIdentifier = roles.Binding
role kind.ForInOfBinding = roles.Head
role kind.StaticMemberExpression = roles.Property
role kind.ComputedMemberExpression = roles.Member
role _ = roles.Plain

-- what the fields of a kind are, in order; those behind the list are plain
abbrev pub places : Kind → List Place
places kind.EagerFunctionDeclaration = Name ∷ Plain ∷ Inside ∷ []
places kind.LazyFunctionDeclaration = Name ∷ Plain ∷ Inside ∷ []
places kind.EagerFunctionExpression = Name ∷ Plain ∷ Plain ∷ Inside ∷ []
places kind.LazyFunctionExpression = Name ∷ Plain ∷ Plain ∷ Inside ∷ []
places kind.EagerMethod = Plain ∷ Plain ∷ Inside ∷ []
places kind.LazyMethod = Plain ∷ Plain ∷ Inside ∷ []
places kind.EagerGetter = Plain ∷ Plain ∷ Inside ∷ []
places kind.LazyGetter = Plain ∷ Plain ∷ Inside ∷ []
places kind.EagerSetter = Plain ∷ Plain ∷ Inside ∷ []
places kind.LazySetter = Plain ∷ Plain ∷ Inside ∷ []
places kind.EagerArrowExpressionWithFunctionBody = Plain ∷ Inside ∷ []
places kind.EagerArrowExpressionWithExpression = Inside ∷ Inside ∷ Inside ∷ []
places kind.WhileStatement = Plain ∷ Body ∷ []
places kind.DoWhileStatement = Body ∷ []
places kind.ForStatement = Plain ∷ Plain ∷ Plain ∷ Plain ∷ Body ∷ []
places kind.ForInStatement = Plain ∷ Target ∷ Plain ∷ Body ∷ []
places kind.ForOfStatement = Plain ∷ Target ∷ Plain ∷ Body ∷ []
places kind.SwitchStatement = Plain ∷ Plain ∷ Cases ∷ []
places kind.SwitchStatementWithDefault = Plain ∷ Plain ∷ Cases ∷ Cases ∷ Cases ∷ []
places kind.UpdateExpression = Plain ∷ Plain ∷ Target ∷ []
places kind.AssignmentExpression = Target ∷ []
places kind.CompoundAssignmentExpression = Plain ∷ Target ∷ []
places _ = []
