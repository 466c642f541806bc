-- The inside of a function is what is checked in a context.
use Rattle.std.proofs.Common.{List, ◌||◌, ◌≡◌, refl, true}
use Rattle.scope_facts.specs.declared.context.ScopeFacts.{ScopeFacts}
use Rattle.early_errors.specs.declared.kinds.Place.TheVariants.{Inside}
use Rattle.early_errors.specs.Around.{Around, placed, start}

-- what stands around the inside of a function is what a context keeps of the code around
pub inside_is : (a : Around) (fs : List ScopeFacts) → placed Inside a ≡ start (record { strict = a.flags.strict || a.flags.own_strict; own_strict = a.flags.own_strict; unique = a.flags.unique; function = true; scopes = fs })
inside_is a fs = refl
