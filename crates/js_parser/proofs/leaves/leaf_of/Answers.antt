use Rattle.std.proofs.Common.{refl, subst}
use Rattle.js_parser.specs.Leaves.{Stands, text_of}
use Rattle.js_parser.proofs.LeafLists.{grown}
use Rattle.js_parser.proofs.leaves.leaf_of.Goals as goal

pub returns-clause-leaf : goal.returns-clause-leaf
returns-clause-leaf c = record {
  kind = refl;
  text_stands = grown _ _ (text_of c.args.text.now c.args.token.now) _ c.in_ok-raw-2.ensures.grows (subst (λ o. Stands c.place_of.new.strings o c.in_ok-found-2.found) c.in_ok-found.ensures c.in_ok-found-2.ensures.place);
  raw_stands = subst (λ o. Stands c.place_of-2.new.strings o c.in_ok-raw-2.raw) c.in_ok-raw.ensures c.in_ok-raw-2.ensures.place;
}
