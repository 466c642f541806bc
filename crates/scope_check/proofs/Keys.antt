-- Keys of entries that are seen by a set.
use Rattle.std.proofs.Common.{ℕ, Bool, true, false, Option, List, [], ◌∷◌, ◌||◌, ◌≡◌, ◌<◌, ◌+◌, refl, ap, sym, ◌∙◌, if◌then◌else◌, Some, not, length, drop, get_or, drop-cons, add-one, arith}
use Rattle.bast_schema.specs.View.{data_of}
use Rattle.bast_schema.specs.declared.node.Value.{Value}
use Rattle.scope_check.specs.declared.entries.Key.{Key}
use Rattle.scope_check.specs.Entries.{same, first_extra, first_missing, says_simple}

or_again : (b x y : Bool) → x ≡ y → (b || x) ≡ (b || y)
or_again b x y e = rw e refl

tests_again : (v w x y : Bool) → v ≡ w → x ≡ y → (not v || x) ≡ (not w || y)
tests_again v w x y e f = rw (e, f) refl

either_again : (b c : Bool) (x y u v : Option ℕ) → b ≡ c → x ≡ y → u ≡ v → (if b then x else u) ≡ (if c then y else v)
either_again b c x y u v e f g = rw (e, f, g) refl

-- only what is wanted and what was seen counts
pub extra_ext : (v w f g : Key → Bool) (ks : List Key) → ((a : Key) → v a ≡ w a) → ((a : Key) → f a ≡ g a) → first_extra v f ks ≡ first_extra w g ks
extra_ext v w f g [] d e = refl
extra_ext v w f g (k ∷ ks) d e =
    either_again (not (v k) || f k) (not (w k) || g k) (Some k.name) (Some k.name) (first_extra v (λ b. same b k || f b) ks) (first_extra w (λ b. same b k || g b) ks)
    (tests_again (v k) (w k) (f k) (g k) (d k) (e k)) refl
    (extra_ext v w (λ b. same b k || f b) (λ b. same b k || g b) ks d (λ b. or_again (same b k) (f b) (g b) (e b)))

pub missing_ext : (f g : Key → Bool) (ks : List Key) → ((a : Key) → f a ≡ g a) → first_missing f ks ≡ first_missing g ks
missing_ext f g [] e = refl
missing_ext f g (k ∷ ks) e =
    either_again (f k) (g k) (first_missing f ks) (first_missing g ks) (Some k.name) (Some k.name) (e k) (missing_ext f g ks e) refl

not_true : (b x : Bool) → b ≡ not x → b ≡ true → x ≡ false
not_true b true e f = cc
not_true b false e f = refl

neither : (v x : Bool) (y z : Option ℕ) → v ≡ true → x ≡ false → z ≡ (if not v || x then y else z)
neither v x y z e f = rw (e, f) refl

extra_step : (k : Key) (ks : List Key) (w f g : Key → Bool) → w k ≡ true → f k ≡ false → ((a : Key) → g a ≡ (same a k || f a)) → first_extra w g ks ≡ first_extra w f (k ∷ ks)
extra_step k ks w f g d e h =
    extra_ext w w g (λ b. same b k || f b) ks (λ a. refl) h ∙ neither (w k) (f k) (Some k.name) (first_extra w (λ b. same b k || f b) ks) d e

-- a key more among those seen
pub seen_more : (d : Key) (ks : List Key) (i : ℕ) (w f g : Key → Bool) (has new : Bool) → i < length ks → has ≡ w (get_or ks i d) → has ≡ true
    → new ≡ not (f (get_or ks i d)) → new ≡ true → ((a : Key) → g a ≡ (same a (get_or ks i d) || f a)) → first_extra w g (drop (i + 1) ks) ≡ first_extra w f (drop i ks)
seen_more d ks i w f g has new within wanted there was is e =
    let front : drop i ks ≡ get_or ks i d ∷ drop (i + 1) ks = drop-cons ks i d within ∙ rw add-one refl
    in extra_step (get_or ks i d) (drop (i + 1) ks) w f g (sym wanted ∙ there) (not_true new (f (get_or ks i d)) was is) e ∙ ap (first_extra w f) (sym front)

-- fields that are too few for the flag of simple parameters
pub too_few : (vs : List Value) → length vs < 3 → false ≡ says_simple (data_of vs)
too_few [] h = refl
too_few (a ∷ []) h = refl
too_few (a ∷ b ∷ []) h = refl
too_few (a ∷ b ∷ c ∷ vs) h = grind arith
