use Rattle.std.proofs.Common.{◌≡◌, ap, subst, sym, ◌∙◌, None}
use Rattle.std.specs.List.{IsDistinct}
use Rattle.bast_schema.specs.Kinds.{same_kind}
use Rattle.bast_schema.specs.KindTable.{place_of}
use Rattle.bast_schema.proofs.Distinct.{distinct_end}
use Rattle.bast_schema.proofs.table.KindTable.add.Goals as goal

pub invariant_of-self-in-None : goal.invariant_of-self-in-None
invariant_of-self-in-None c =
    let absent : place_of c.self.inside.kinds.items c.args.kind ≡ None = ap (λ ks. place_of ks c.args.kind) c.self.view_is ∙ sym c.number.ensures ∙ c.in-None.is
    in subst (IsDistinct same_kind) (sym c.in_ok-push-in-None.ensures.items) (distinct_end c.self.inside.kinds.items c.args.kind c.self.invariant absent)
