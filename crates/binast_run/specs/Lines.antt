-- The lines that refuse a file, and the one that accepts it.
use Rattle.std.specs.Prelude.{ℕ, List, ◌++◌, codes, decimal}
use Rattle.bast_base.specs.declared.errors.FormatFault.{FormatFault}
use Rattle.bast_base.specs.declared.errors.Why.{Why}
use Rattle.bast_base.specs.declared.errors.Why.TheVariants.{BadMagic, BadVersion, BadSection, NotIdentity, Ended, Overlong, TooBig, UnknownKind, NotUtf8, Repeated, Trailing, BadKind, BadString, BadVariant, BadBool, BadWhole, EmptyList, TooDeep}
use Rattle.binast_run.specs.Status.{line}

-- a cause, with the number that it holds
abbrev pub why_text : Why → List ℕ
why_text BadMagic = codes "BadMagic"
why_text (BadVersion found) = codes "BadVersion " ++ decimal found
why_text BadSection = codes "BadSection"
why_text NotIdentity = codes "NotIdentity"
why_text Ended = codes "Ended"
why_text Overlong = codes "Overlong"
why_text TooBig = codes "TooBig"
why_text UnknownKind = codes "UnknownKind"
why_text NotUtf8 = codes "NotUtf8"
why_text (Repeated first) = codes "Repeated " ++ decimal first
why_text Trailing = codes "Trailing"
why_text BadKind = codes "BadKind"
why_text BadString = codes "BadString"
why_text BadVariant = codes "BadVariant"
why_text BadBool = codes "BadBool"
why_text BadWhole = codes "BadWhole"
why_text EmptyList = codes "EmptyList"
why_text TooDeep = codes "TooDeep"

-- the line of a fault: its cause and its place
abbrev pub fault_line : FormatFault → List ℕ
fault_line f = line (codes "file: " ++ why_text f.why ++ codes " at " ++ decimal f.at)

-- the line of a node of a kind that is not read yet
abbrev pub not_yet_line : ℕ → List ℕ
not_yet_line node = line (codes "file: NotYet at node " ++ decimal node)

-- the line of an accepted file of so many bytes, none of whose functions is lazy
abbrev pub accepted_line : ℕ → List ℕ
accepted_line bytes = line (codes "ok: " ++ decimal bytes ++ codes " bytes, 0 lazy functions")

-- the line of a source whose file would be too large
abbrev pub large_file_line : List ℕ
large_file_line = line (codes "file: larger than 8388608 bytes")
