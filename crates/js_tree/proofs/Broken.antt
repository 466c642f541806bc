-- Where the steps from a place on are refused, all steps are.
use Rattle.std.proofs.Common.{◌≡◌, ℕ, zero, suc, ◌+◌, ◌<◌, List, [], ◌∷◌, length, get_or, drop, drop-cons, add-one, Ok, Err, sym, ap, ◌∙◌}
use Rattle.js_machine.specs.declared.events.Event.{Event}
use Rattle.js_tree.specs.Image.{image, event_part}
use Rattle.js_tree.specs.Nodes.{limited}
use Rattle.js_tree.specs.Results.{◌>>=◌, Fails}
use Rattle.js_tree.specs.declared.fault.Fault.{Fault}
use Rattle.js_tree.specs.declared.fault.Fault.TheVariants as faults
use Rattle.js_tree.specs.declared.leaf.Leaf.{Leaf}
use Rattle.js_tree.specs.declared.parts.Part.{Part}

refused_before : (i : ℕ) (ls : List Leaf) (es : List Event) (f : Fault) → image limited ls (drop i es) ≡ Err f → image limited ls es ≡ Err f
refused_before zero ls es f is = is
refused_before (suc i) ls [] f is = is
refused_before (suc i) ls (e ∷ es) f is = ap (λ o. o >>= event_part limited e) (refused_before i ls es f is)

-- the image from a place on is that of the step there over the rest
pub image_at : (ls : List Leaf) (es : List Event) (i : ℕ) (d : Event) (s : List Leaf × List Part) → i < length es → image limited ls (drop (i + 1) es) ≡ Ok s → image limited ls (drop i es) ≡ event_part limited (get_or es i d) s
image_at ls es i d s below rest = ap (image limited ls) (drop-cons es i d below) ∙ ap (λ o. o >>= event_part limited (get_or es i d)) (ap (λ j. image limited ls (drop j es)) (sym (add-one i)) ∙ rest)

pub refused_at : (ls : List Leaf) (es : List Event) (i : ℕ) (d : Event) (s : List Leaf × List Part) (f : Fault) → i < length es → image limited ls (drop (i + 1) es) ≡ Ok s → Fails f (event_part limited (get_or es i d) s) → Fails f (image limited ls es)
refused_at ls es i d s faults.Memory below rest fails = tt
refused_at ls es i d s faults.Broken below rest fails = refused_before i ls es faults.Broken (image_at ls es i d s below rest ∙ fails)
refused_at ls es i d s faults.TooDeep below rest fails = refused_before i ls es faults.TooDeep (image_at ls es i d s below rest ∙ fails)
