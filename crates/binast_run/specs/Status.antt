-- How the program ends where it gives no answer: the status, and the line in notes.
use Rattle.std.specs.Prelude.{ℕ, List, [], ◌∷◌, ◌++◌, codes}
use Rattle.binast_run.specs.declared.status.Fault.{Fault}
use Rattle.binast_run.specs.declared.status.Fault.TheVariants.{BadWords, ReadFault, WriteFault, OutOfMemory, TooLarge}

abbrev pub code : Fault → ℕ
code BadWords = 2
code ReadFault = 3
code WriteFault = 4
code OutOfMemory = 5
code TooLarge = 6

-- a text as a line
abbrev pub line : List ℕ → List ℕ
line text = text ++ 10 ∷ []

abbrev pub line_of : Fault → List ℕ
line_of BadWords = line (codes "words not understood")
line_of ReadFault = line (codes "reading failed")
line_of WriteFault = line (codes "writing failed")
line_of OutOfMemory = line (codes "out of memory")
line_of TooLarge = line (codes "input is larger than 8388608 bytes")
