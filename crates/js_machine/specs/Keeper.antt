-- What the code's machine stands for.
use Rattle.js_machine.specs.declared.stops.Stop.{Stop}
use Rattle.js_machine.specs.declared.stops.Refusal.{Refusal}
use Rattle.js_machine.specs.declared.stops.Refusal.TheVariants as refusals
use Rattle.js_machine.specs.declared.machine.Move.{Move}
use Rattle.js_machine.specs.declared.machine.Move.TheVariants.{Stays, Takes, Stops}
use Rattle.js_machine.specs.Machine.{State, Next, Stay, Take, Halt}

abbrev pub next_of : Move → State → Next
next_of Stays st = Stay st
next_of Takes st = Take st
next_of (Stops p) st = Halt p

-- what a refusal other than want of memory says
abbrev pub IfStopped : Refusal → (Stop → Type 0) → Type 0
IfStopped refusals.Memory P = Unit {0}
IfStopped (refusals.Stopped p) P = P p
