-- Each row is the one that the symbol's own function gives, whether or not the token stands behind a newline.
use Rattle.js_grammar.proofs.rows.row.Goals as goal

pub returns-in-Items : goal.returns-in-Items
returns-in-Items c = rw c.in-Items.is (c.items.ensures c.args.newline)

pub returns-in-Item : goal.returns-in-Item
returns-in-Item c = rw c.in-Item.is (c.item.ensures c.args.newline)

pub returns-in-Lexical : goal.returns-in-Lexical
returns-in-Lexical c = rw c.in-Lexical.is (c.lexical.ensures c.args.newline)

pub returns-in-DeclTail : goal.returns-in-DeclTail
returns-in-DeclTail c = rw c.in-DeclTail.is (c.declarations_tail.ensures c.args.newline)

pub returns-in-Init : goal.returns-in-Init
returns-in-Init c = rw c.in-Init.is (c.initializer.ensures c.args.newline)

pub returns-in-Params : goal.returns-in-Params
returns-in-Params c = rw c.in-Params.is (c.parameters.ensures c.args.newline)

pub returns-in-ParamTail : goal.returns-in-ParamTail
returns-in-ParamTail c = rw c.in-ParamTail.is (c.parameters_tail.ensures c.args.newline)

pub returns-in-ParamNext : goal.returns-in-ParamNext
returns-in-ParamNext c = rw c.in-ParamNext.is (c.next_parameter.ensures c.args.newline)

pub returns-in-Stat : goal.returns-in-Stat
returns-in-Stat c = rw c.in-Stat.is (c.statement.ensures c.args.newline)

pub returns-in-Else : goal.returns-in-Else
returns-in-Else c = rw c.in-Else.is (c.else_part.ensures c.args.newline)

pub returns-in-DoEnd : goal.returns-in-DoEnd
returns-in-DoEnd c = rw c.in-DoEnd.is (c.do_end.ensures c.args.newline)

pub returns-in-Label : goal.returns-in-Label
returns-in-Label c = rw c.in-Label.is (c.label.ensures c.args.newline)

pub returns-in-ForHead : goal.returns-in-ForHead
returns-in-ForHead c = rw c.in-ForHead.is (c.for_head.ensures c.args.newline)

pub returns-in-ForBind : goal.returns-in-ForBind
returns-in-ForBind c = rw c.in-ForBind.is (c.for_binding.ensures c.args.newline)

pub returns-in-ForExpr : goal.returns-in-ForExpr
returns-in-ForExpr c = rw c.in-ForExpr.is (c.for_expression.ensures c.args.newline)

pub returns-in-ExprOpt : goal.returns-in-ExprOpt
returns-in-ExprOpt c = rw c.in-ExprOpt.is (c.optional_expression.ensures c.args.newline)

pub returns-in-Cases : goal.returns-in-Cases
returns-in-Cases c = rw c.in-Cases.is (c.cases.ensures c.args.newline)

pub returns-in-CasesD : goal.returns-in-CasesD
returns-in-CasesD c = rw c.in-CasesD.is (c.cases_after_default.ensures c.args.newline)

pub returns-in-TryRest : goal.returns-in-TryRest
returns-in-TryRest c = rw c.in-TryRest.is (c.try_rest.ensures c.args.newline)

pub returns-in-Fin : goal.returns-in-Fin
returns-in-Fin c = rw c.in-Fin.is (c.finally_part.ensures c.args.newline)

pub returns-in-Comma : goal.returns-in-Comma
returns-in-Comma c = rw c.in-Comma.is (c.comma.ensures c.args.newline)

pub returns-in-Arrow : goal.returns-in-Arrow
returns-in-Arrow c = rw c.in-Arrow.is (c.arrow_body.ensures c.args.newline)

pub returns-in-CondTail : goal.returns-in-CondTail
returns-in-CondTail c = rw c.in-CondTail.is (c.conditional_tail.ensures c.args.newline)

pub returns-in-LevelTail : goal.returns-in-LevelTail
returns-in-LevelTail c = rw c.in-LevelTail.is (c.level_tail.ensures c.args.newline)

pub returns-in-Unary : goal.returns-in-Unary
returns-in-Unary c = rw c.in-Unary.is (c.unary.ensures c.args.newline)

pub returns-in-Lhs : goal.returns-in-Lhs
returns-in-Lhs c = rw c.in-Lhs.is (c.left_hand_side.ensures c.args.newline)

pub returns-in-LhsTail : goal.returns-in-LhsTail
returns-in-LhsTail c = rw c.in-LhsTail.is (c.calls.ensures c.args.newline)

pub returns-in-Access : goal.returns-in-Access
returns-in-Access c = rw c.in-Access.is (c.access.ensures c.args.newline)

pub returns-in-Callee : goal.returns-in-Callee
returns-in-Callee c = rw c.in-Callee.is (c.callee.ensures c.args.newline)

pub returns-in-MemberTail : goal.returns-in-MemberTail
returns-in-MemberTail c = rw c.in-MemberTail.is (c.members.ensures c.args.newline)

pub returns-in-NewArgs : goal.returns-in-NewArgs
returns-in-NewArgs c = rw c.in-NewArgs.is (c.arguments_of_new.ensures c.args.newline)

pub returns-in-Args : goal.returns-in-Args
returns-in-Args c = rw c.in-Args.is (c.arguments.ensures c.args.newline)

pub returns-in-ArgMore : goal.returns-in-ArgMore
returns-in-ArgMore c = rw c.in-ArgMore.is (c.more_arguments.ensures c.args.newline)

pub returns-in-Arg : goal.returns-in-Arg
returns-in-Arg c = rw c.in-Arg.is (c.argument.ensures c.args.newline)

pub returns-in-Primary : goal.returns-in-Primary
returns-in-Primary c = rw c.in-Primary.is (c.primary.ensures c.args.newline)

pub returns-in-FuncName : goal.returns-in-FuncName
returns-in-FuncName c = rw c.in-FuncName.is (c.function_name.ensures c.args.newline)

pub returns-in-Elems : goal.returns-in-Elems
returns-in-Elems c = rw c.in-Elems.is (c.elements.ensures c.args.newline)

pub returns-in-ElemMore : goal.returns-in-ElemMore
returns-in-ElemMore c = rw c.in-ElemMore.is (c.more_elements.ensures c.args.newline)

pub returns-in-Props : goal.returns-in-Props
returns-in-Props c = rw c.in-Props.is (c.properties.ensures c.args.newline)

pub returns-in-PropMore : goal.returns-in-PropMore
returns-in-PropMore c = rw c.in-PropMore.is (c.more_properties.ensures c.args.newline)

pub returns-in-Prop : goal.returns-in-Prop
returns-in-Prop c = rw c.in-Prop.is (c.property.ensures c.args.newline)

pub returns-in-Long : goal.returns-in-Long
returns-in-Long c = rw c.in-Long.is (c.value_or_method.ensures c.args.newline)

pub returns-in-Short : goal.returns-in-Short
returns-in-Short c = rw c.in-Short.is (c.shorthand.ensures c.args.newline)

pub returns-in-GetRest : goal.returns-in-GetRest
returns-in-GetRest c = rw c.in-GetRest.is (c.after_get.ensures c.args.newline)

pub returns-in-SetRest : goal.returns-in-SetRest
returns-in-SetRest c = rw c.in-SetRest.is (c.after_set.ensures c.args.newline)

pub returns-in-PropName : goal.returns-in-PropName
returns-in-PropName c = rw c.in-PropName.is (c.property_name.ensures c.args.newline)

pub returns-in-TplMore : goal.returns-in-TplMore
returns-in-TplMore c = rw c.in-TplMore.is (c.template_tail.ensures c.args.newline)
