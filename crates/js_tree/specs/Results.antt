-- What a definition gives or refuses, and what the code's function gives of it.
use Rattle.std.specs.Prelude.{◌≡◌, Option, Some, None, Result, Ok, Err}
use Rattle.js_tree.specs.declared.fault.Fault.{Fault}
use Rattle.js_tree.specs.declared.fault.Fault.TheVariants as faults

infixl 10 ◌>>=◌
abbrev pub ◌>>=◌ : {A B : Type 0} → Result A Fault → (A → Result B Fault) → Result B Fault
(Err e) >>= f = Err e
(Ok x) >>= f = f x

abbrev pub broken : {A : Type 0} → Result A Fault
broken = Err faults.Broken

-- what stands there
abbrev pub there : {A : Type 0} → Option A → Result A Fault
there None = broken
there (Some x) = Ok x

-- a refusal is the definition's, unless memory ran out
abbrev pub Fails : {Y : Type 0} → Fault → Result Y Fault → Type 0
Fails faults.Memory wanted = Unit {0}
Fails faults.Broken wanted = wanted ≡ Err faults.Broken
Fails faults.TooDeep wanted = wanted ≡ Err faults.TooDeep

-- what a function returned, seen by `view`, is what is wanted, unless memory ran out
abbrev pub Gives : {X Y : Type 0} → Result X Fault → (X → Y) → Result Y Fault → Type 0
Gives (Ok x) view wanted = wanted ≡ Ok (view x)
Gives (Err e) view wanted = Fails e wanted
