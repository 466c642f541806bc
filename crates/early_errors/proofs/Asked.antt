-- What is asked for is found, and what is not asked for holds.
use Rattle.std.proofs.Common.{true, false, ◌≡◌, refl}
use Rattle.early_errors.specs.declared.rules.Finding.{Finding}
use Rattle.early_errors.specs.declared.rules.Finding.TheVariants.{Holds, Broken}
use Rattle.early_errors.specs.Rules.{if_so}

pub not_asked : (f : Finding) → if_so false f ≡ Holds
not_asked Holds = refl
not_asked (Broken name) = refl

pub asked : (f : Finding) → if_so true f ≡ f
asked Holds = refl
asked (Broken name) = refl
