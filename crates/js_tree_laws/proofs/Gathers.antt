-- What the steps of a row gather, found from what its symbols' parts may be.
use Rattle.std.proofs.Common.{◌≡◌, Bool, true, false, ◌&&◌, List, [], ◌∷◌, ◌++◌, Option, Some, None, nat_lt}
use Rattle.std.specs.List.{list_all}
use Rattle.bast_schema.specs.declared.kind.EnumId.TheVariants as sets
use Rattle.bast_schema.specs.declared.kind.FieldType.{FieldType}
use Rattle.bast_schema.specs.declared.kind.FieldType.TheVariants as field
use Rattle.bast_schema.specs.declared.kind.Kind.{Kind}
use Rattle.bast_schema.specs.declared.kind.Kind.TheVariants as kinds
use Rattle.bast_schema.specs.declared.kind.Union.TheVariants as unions
use Rattle.bast_schema.specs.Fields.{fields}
use Rattle.bast_schema.specs.Tree.{items_fit}
use Rattle.js_grammar.specs.declared.class.Class.{Class}
use Rattle.js_grammar.specs.declared.symbols.Terminal.{Terminal}
use Rattle.js_grammar.specs.Classes.{classes_of}
use Rattle.js_tree.specs.Nodes.{Maker}
use Rattle.js_tree.specs.declared.parts.Part.{Part}
use Rattle.js_tree.specs.declared.recipe.Step.{Step}
use Rattle.js_tree.specs.declared.recipe.Step.TheVariants as steps
use Rattle.js_tree.specs.declared.work.Work.{Work}
use Rattle.js_tree_laws.proofs.Sorts.{Sort, Of, Missing, Empty, Rest, Nothing, Holds, Tail, NoTail, Turns, Any, PartSort, Token, Values, Endings, Items, PartIs, AreEndings, AreItems, within, suits, suit, wrapped, sorts_of, tells_text, is_number, is_operator}

-- what a row has gathered: the values, those held before them, and what is put around the operand
pub record Shape : Type 0 where
  pub front : List Sort
  pub rest : Rest
  pub held : List Sort
  pub tail : Tail

abbrev pub no_shape : Shape
no_shape = record { front = []; rest = Nothing; held = []; tail = NoTail }

pub record WorkIs (m : Maker) (a : Shape) (w : Work) : Type 0 where
  pub values : Holds a.front a.rest w.values
  pub held : Holds a.held Nothing w.held
  pub directives : items_fit (unions.One kinds.Directive) false w.directives ≡ true
  pub endings : AreEndings m a.tail w.endings
  pub items : AreItems w.items

-- the first parts are of these sorts, and those are behind them
abbrev pub PartsAre : Maker → List PartSort → List Part → List Part → Type 0
PartsAre m [] ps qs = ps ≡ qs
PartsAre m (s ∷ ss) [] qs = ⊥
PartsAre m (s ∷ ss) (p ∷ ps) qs = PartIs m s p × PartsAre m ss ps qs

-- what is gathered, and what is left
abbrev pub Checked : Type 0
Checked = Option (Shape × List PartSort)

abbrev pub guard : {A : Type 0} → Bool → Option A → Option A
guard true o = o
guard false o = None

-- values behind the others
abbrev pub add_on : Rest → List Sort → Rest → Shape → List PartSort → Checked
add_on Nothing ts r a ss = Some (record a { front = a.front ++ ts; rest = r }, ss)
add_on _ ts r a ss = None

abbrev pub add : List Sort → Rest → Shape → List PartSort → Checked
add ts r a ss = add_on a.rest ts r a ss

abbrev pub add_one : FieldType → Shape → List PartSort → Checked
add_one t a ss = add (Of t ∷ []) Nothing a ss

abbrev pub a_node : Kind → FieldType
a_node k = field.Node (unions.One k)

abbrev pub skips : Shape → List PartSort → Checked
skips a [] = None
skips a (s ∷ ss) = Some (a, ss)

-- the part on top, where it is of that sort
abbrev pub on_values : List PartSort → (List FieldType → Rest → List PartSort → Checked) → Checked
on_values (Values ts r ∷ ss) f = f ts r ss
on_values _ f = None

abbrev pub on_one : List PartSort → (FieldType → List PartSort → Checked) → Checked
on_one (Values (s ∷ []) Nothing ∷ ss) f = f s ss
on_one _ f = None

abbrev pub on_token : List PartSort → (Terminal → List PartSort → Checked) → Checked
on_token (Token t ∷ ss) f = f t ss
on_token _ f = None

abbrev pub on_endings : List PartSort → (Tail → List PartSort → Checked) → Checked
on_endings (Endings e ∷ ss) f = f e ss
on_endings _ f = None

abbrev pub on_items : List PartSort → (List PartSort → Checked) → Checked
on_items (Items ∷ ss) f = f ss
on_items _ f = None

abbrev pub puts : Shape → List PartSort → Checked
puts a ss = on_values ss (λ ts r ss. add (sorts_of ts) r a ss)

abbrev pub wraps_to : Option FieldType → Shape → List PartSort → Checked
wraps_to None a ss = None
wraps_to (Some t) a ss = add_one t a ss

abbrev pub wraps : Shape → List PartSort → Checked
wraps a ss = on_values ss (λ ts r ss. wraps_to (wrapped ts r) a ss)

abbrev pub takes_token : (Class → Bool) → FieldType → Shape → List PartSort → Checked
takes_token p u a ss = on_token ss (λ t ss. guard (list_all p (classes_of t)) (add_one u a ss))

abbrev pub bound : Shape → List PartSort → Checked
bound a ss = on_token ss (λ t ss. guard (list_all tells_text (classes_of t)) (on_one ss (λ s ss. guard (suits (Of s) (field.Optional unions.Expression)) (add_one (field.Node unions.Parameter) a ss))))

abbrev pub pieces_to : FieldType → List FieldType → Rest → Shape → List PartSort → Checked
pieces_to s [] r a ss = None
pieces_to s (t ∷ ts) r a ss = guard (suits (Of s) (field.Node unions.Expression) && suits (Of t) field.Text) (add (Of (a_node kinds.TemplatePart) ∷ sorts_of ts) r a ss)

abbrev pub pieces : Shape → List PartSort → Checked
pieces a ss = on_one ss (λ s ss. on_values ss (λ ts r ss. pieces_to s ts r a ss))

abbrev pub join_tail : Tail → Tail → Option Tail
join_tail NoTail e = Some e
join_tail (Turns o v) (Turns (Any u) w) = guard (within v u) (Some (Turns o w))
join_tail _ _ = None

abbrev pub tails_to : Option Tail → Shape → List PartSort → Checked
tails_to None a ss = None
tails_to (Some e) a ss = Some (record a { tail = e }, ss)

abbrev pub tails : Shape → List PartSort → Checked
tails a ss = on_endings ss (λ e ss. tails_to (join_tail a.tail e) a ss)

abbrev pub rests : Shape → List PartSort → Checked
rests a ss = on_items ss (λ ss. Some (a, ss))

abbrev pub all_statements : FieldType
all_statements = field.List unions.Statement false false

abbrev pub all_directives : FieldType
all_directives = field.List (unions.One kinds.Directive) false false

abbrev pub lists : Shape → List PartSort → Checked
lists a ss = on_items ss (λ ss. add_one all_statements a ss)

abbrev pub holds_on : Rest → Shape → List PartSort → Checked
holds_on Nothing a ss = Some (record a { front = []; rest = Nothing; held = a.front }, ss)
holds_on _ a ss = None

abbrev pub closes_on : Rest → Kind → Shape → List PartSort → Checked
closes_on Nothing k a ss = guard (suit a.front (fields k)) (Some (record a { front = Of (a_node k) ∷ []; rest = Nothing }, ss))
closes_on _ k a ss = None

abbrev pub resumes : Shape → List PartSort → Checked
resumes a ss = Some (record a { front = a.held ++ Of all_directives ∷ a.front; held = [] }, ss)

abbrev pub step_shape : Step → Shape → List PartSort → Checked
step_shape steps.Skip a ss = skips a ss
step_shape steps.Put a ss = puts a ss
step_shape steps.Operand a ss = puts a ss
step_shape steps.Wrap a ss = wraps a ss
step_shape steps.Text a ss = takes_token tells_text field.Text a ss
step_shape steps.Whole a ss = takes_token is_number field.Whole a ss
step_shape (steps.Named k) a ss = guard (suit (Of field.Text ∷ []) (fields k)) (takes_token tells_text (a_node k) a ss)
step_shape steps.Quoted a ss = takes_token tells_text (a_node kinds.LiteralStringExpression) a ss
step_shape (steps.Operator e) a ss = takes_token (is_operator e) (field.Choice e) a ss
step_shape steps.Parameter a ss = bound a ss
step_shape steps.TemplatePart a ss = pieces a ss
step_shape steps.Tail a ss = tails a ss
step_shape steps.Rest a ss = rests a ss
step_shape steps.Statements a ss = lists a ss
step_shape steps.Body a ss = lists a ss
step_shape steps.Absent a ss = add (Missing ∷ []) Nothing a ss
step_shape steps.NoLabel a ss = add_one field.Label a ss
step_shape steps.NoItems a ss = add (Empty ∷ []) Nothing a ss
step_shape (steps.Flag b) a ss = add_one field.Bool a ss
step_shape (steps.Choice n) a ss = guard (nat_lt n 2) (add_one (field.Choice sets.LexicalKind) a ss)
step_shape (steps.Scope k) a ss = guard (suit (Empty ∷ Of field.Bool ∷ []) (fields k)) (add_one (a_node k) a ss)
step_shape steps.ParameterScope a ss = add_one (a_node kinds.AssertedParameterScope) a ss
step_shape steps.Hold a ss = holds_on a.rest a ss
step_shape steps.Resume a ss = resumes a ss
step_shape (steps.Close k) a ss = closes_on a.rest k a ss

abbrev pub option_then : {A B : Type 0} → Option A → (A → Option B) → Option B
option_then None f = None
option_then (Some x) f = f x

abbrev pub gathers : List Step → Shape → List PartSort → Checked
gathers [] a ss = Some (a, ss)
gathers (s ∷ l) a ss = option_then (step_shape s a ss) (λ x. gathers l x.0 x.1)
