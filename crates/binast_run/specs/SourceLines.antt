-- The lines that refuse a source.
use Rattle.std.specs.Prelude.{ℕ, List, [], ◌++◌, codes, decimal, Option, Some, None}
use Rattle.binast_run.specs.Status.{line}
use Rattle.js_machine.specs.declared.stops.Left.{Left}
use Rattle.js_machine.specs.declared.stops.Left.TheVariants as left
use Rattle.js_parser.specs.declared.source.SourceFault.{SourceFault}
use Rattle.js_parser.specs.declared.source.SourceFault.TheVariants as source
use Rattle.js_printer.specs.StringForm.{string_form}
use Rattle.js_tokens.specs.declared.kinds.TokenFault.{TokenFault}
use Rattle.js_tokens.specs.declared.kinds.TokenFault.TheVariants as token
use Rattle.scope_facts.specs.declared.context.Rule.{Rule}
use Rattle.scope_facts.specs.declared.context.Rule.TheVariants as rules
use Rattle.scope_facts.specs.declared.context.Violation.{Violation}

-- the line of a refusal
abbrev pub source_line : List ℕ → List ℕ
source_line text = line (codes "source: " ++ text)

-- a fault with its place
abbrev pub placed : List ℕ → ℕ → List ℕ
placed name at = name ++ codes " at " ++ decimal at

-- a text that is no UTF-8, of which so many bytes are
abbrev pub not_utf8_text : ℕ → List ℕ
not_utf8_text at = placed (codes "NotUtf8") at

-- a fault of the tokens; want of memory is none
abbrev pub token_text : TokenFault → List ℕ
token_text token.Memory = []
token_text (token.BadChar at) = placed (codes "BadChar") at
token_text (token.EndedString at) = placed (codes "EndedString") at
token_text (token.EndedTemplate at) = placed (codes "EndedTemplate") at
token_text (token.EndedComment at) = placed (codes "EndedComment") at
token_text (token.BadEscape at) = placed (codes "BadEscape") at
token_text (token.LoneSurrogate at) = placed (codes "LoneSurrogate") at
token_text (token.NumberForm at) = placed (codes "NumberForm") at
token_text (token.NumberTooBig at) = placed (codes "NumberTooBig") at
token_text (token.EscapedName at) = placed (codes "EscapedName") at

-- what is left out of the language
abbrev pub left_text : Left → List ℕ
left_text left.Class = codes "Class"
left_text left.Super = codes "Super"
left_text left.With = codes "With"
left_text left.Module = codes "Module"
left_text left.Generator = codes "Generator"
left_text left.TaggedTemplate = codes "TaggedTemplate"
left_text left.BindingPattern = codes "BindingPattern"
left_text left.BareFunction = codes "BareFunction"
left_text left.NewTarget = codes "NewTarget"
left_text left.Regex = codes "Regex"

-- why a text has no tree; want of memory is no reason
abbrev pub fault_text : SourceFault → List ℕ
fault_text source.Memory = []
fault_text (source.Token fault) = token_text fault
fault_text (source.Syntax at) = placed (codes "Syntax") at
fault_text (source.NotHere at what) = placed (codes "NotHere " ++ left_text what) at
fault_text (source.TooDeep at) = placed (codes "TooDeep") at
fault_text source.DeepTree = codes "DeepTree"

abbrev pub rule_text : Rule → List ℕ
rule_text rules.E1 = codes "E1"
rule_text rules.E2 = codes "E2"
rule_text rules.E3 = codes "E3"
rule_text rules.E4 = codes "E4"
rule_text rules.E5 = codes "E5"
rule_text rules.E6 = codes "E6"
rule_text rules.E7 = codes "E7"
rule_text rules.E8 = codes "E8"
rule_text rules.E9 = codes "E9"
rule_text rules.E10 = codes "E10"
rule_text rules.E11 = codes "E11"
rule_text rules.E12 = codes "E12"
rule_text rules.E13 = codes "E13"
rule_text rules.E14 = codes "E14"
rule_text rules.E15 = codes "E15"
rule_text rules.E16 = codes "E16"
rule_text rules.E17 = codes "E17"
rule_text rules.E18 = codes "E18"
rule_text rules.A1 = codes "A1"
rule_text rules.A2 = codes "A2"
rule_text rules.A3 = codes "A3"
rule_text rules.A4 = codes "A4"
rule_text rules.A5 = codes "A5"

-- a name as a string literal, where there is one
abbrev pub shown_name : Option (List ℕ) → List ℕ
shown_name None = []
shown_name (Some text) = codes " " ++ string_form text

-- a rule that does not hold at a node, with the text of the violation's name
abbrev pub violation_text : Violation → Option (List ℕ) → List ℕ
violation_text v name = rule_text v.rule ++ codes " at node " ++ decimal v.node ++ shown_name name
