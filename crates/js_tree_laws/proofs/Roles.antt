-- What each symbol is by its role.
use Rattle.std.proofs.Common.{◌≡◌, Bool, true, false, refl, sym, ap, ◌∙◌}
use Rattle.bast_schema.specs.declared.kind.FieldType.TheVariants as field
use Rattle.bast_schema.specs.declared.kind.Union.TheVariants as unions
use Rattle.js_grammar.specs.declared.symbols.Symbol.{Symbol}
use Rattle.js_grammar.specs.declared.symbols.Symbol.TheVariants as symbols
use Rattle.js_machine.proofs.Work.{vanishes}
use Rattle.js_tree_laws.proofs.Sorts.{NoTail, PartSort, Token, Endings, leads}
use Rattle.js_tree_laws.proofs.Table.{part_of, one_node, operators, many}
use Rattle.js_tree_laws.proofs.Suits.{Role, IsToken, Passes, PassesAny, Commas, Arrows, Labels, Operand, HeadOperand, Plain, role_of, is_late}

pub leads_true : (a b : Bool) → leads a b ≡ true → a ≡ true → b ≡ true
leads_true true b e f = e
leads_true false b e f = cc

-- what puts something around an operand may stand for nothing
abbrev pub turns_on : Role → Bool
turns_on Passes = true
turns_on PassesAny = true
turns_on Commas = true
turns_on Arrows = true
turns_on _ = false

may_vanish : (s : Symbol) → leads (turns_on (role_of s)) (vanishes s) ≡ true
may_vanish symbols.Script = refl
may_vanish _ = refl

pub vanishing : (s : Symbol) (r : Role) → role_of s ≡ r → turns_on r ≡ true → vanishes s ≡ true
vanishing s r e on = leads_true (turns_on (role_of s)) (vanishes s) (may_vanish s) (ap turns_on e ∙ on)

-- what asks for an operand of its own is late
abbrev pub asks : Role → Bool
asks Arrows = true
asks Labels = true
asks _ = false

may_ask : (s : Symbol) → leads (asks (role_of s)) (is_late s) ≡ true
may_ask symbols.Script = refl
may_ask _ = refl

pub asking : (s : Symbol) (r : Role) → role_of s ≡ r → asks r ≡ true → is_late s ≡ true
asking s r e on = leads_true (asks (role_of s)) (is_late s) (may_ask s) (ap asks e ∙ on)

-- the part of a symbol of a role
abbrev pub part_at : Role → PartSort → PartSort
part_at (IsToken t) other = Token t
part_at Commas other = many (field.Node unions.Expression)
part_at Labels other = Endings NoTail
part_at Operand other = one_node unions.Expression
part_at HeadOperand other = one_node unions.Expression
part_at Plain other = other
part_at _ other = operators

part_is : (s : Symbol) → part_at (role_of s) (part_of s) ≡ part_of s
part_is symbols.Script = refl
part_is _ = refl

pub part_by : (s : Symbol) (r : Role) → role_of s ≡ r → part_at r (part_of s) ≡ part_of s
part_by s r e = ap (λ r. part_at r (part_of s)) (sym e) ∙ part_is s
