-- Answers one after another.
use Rattle.std.proofs.Common.{◌≡◌, refl, ap, Result, Ok, Err}
use Rattle.bast_base.specs.declared.errors.FormatFault.{FormatFault}
use Rattle.container.specs.Answers.{◌>>=◌}

pub answered : {A B : Type 0} (r : Result A FormatFault) (f : A → Result B FormatFault) (x : A) → r ≡ Ok x → (r >>= f) ≡ f x
answered r f x is = ap (λ q. q >>= f) is

pub refused : {A B : Type 0} (r : Result A FormatFault) (f : A → Result B FormatFault) (e : FormatFault) → r ≡ Err e → (r >>= f) ≡ Err e
refused r f e is = ap (λ q. q >>= f) is

pub regrouped : {A B C : Type 0} (r : Result A FormatFault) (f : A → Result B FormatFault) (g : B → Result C FormatFault) → ((r >>= f) >>= g) ≡ (r >>= λ x. f x >>= g)
regrouped (Ok x) f g = refl
regrouped (Err e) f g = refl

-- where all went well, so did the first
pub came_from : {A B : Type 0} (m : Result A FormatFault) (f : A → Result B FormatFault) (y : B) → (m >>= f) ≡ Ok y → (x : A) × (m ≡ Ok x) × (f x ≡ Ok y)
came_from (Ok x) f y is = (x, refl, is)
came_from (Err e) f y is = cc

-- no answer is both
pub apart : {A : Type 0} (x : A) (e : FormatFault) → Ok x ≡ Err e → ⊥
apart x e is = cc
