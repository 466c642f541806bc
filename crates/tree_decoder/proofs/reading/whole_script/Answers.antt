use Rattle.std.proofs.Common.{subst, false, Ok, Err}
use Rattle.std.proofs.lemmas.Result.{err_from_is_err_and}
use Rattle.bast_base.specs.declared.errors.Halt.TheVariants.{Format}
use Rattle.bast_base.specs.declared.errors.Why.TheVariants.{Trailing}
use Rattle.bast_schema.specs.View.{datum}
use Rattle.bast_schema.specs.declared.node.Value.{Value}
use Rattle.tree_decoder.specs.Found.{Found}
use Rattle.container.specs.Answers.{fault}
use Rattle.tree_decoder.specs.Range.{range_of}
use Rattle.tree_decoder.specs.Script.{script}
use Rattle.tree_decoder.proofs.Whole.{script_stands, bytes_left_over, script_spends, only_memory, only_failed, named_where_stands, one_script, script_size}
use Rattle.tree_decoder.proofs.reading.whole_script.Goals as goal

pub returns-then-next-input-clause-reads : goal.returns-then-next-input-clause-reads
returns-then-next-input-clause-reads g c = bytes_left_over (range_of c.args.input.now) c.args.at (datum c.in_ok-found.found) c.in_ok-found.next c.in_ok-found.ensures.reads c.if-next-input.true

pub returns-then-next-input-clause-cost : goal.returns-then-next-input-clause-cost
returns-then-next-input-clause-cost g c = script_spends (range_of c.args.input.now) c.args.at (datum c.in_ok-found.found) c.in_ok-found.next _ _ c.requires.sound c.in_ok-found.ensures.reads c.in_ok-found.ensures.spends

pub returns-clause-reads : goal.returns-clause-reads
returns-clause-reads g c =
    let f = subst (λ (v : Value). Found (range_of c.args.input.now) script 1 false c.args.at (datum v) c.in_ok-found.next) c.in-Node.is c.in_ok-found.ensures.reads in
    script_stands (range_of c.args.input.now) c.args.at c.in-Node.node c.in_ok-found.next f c.if-next-input.false

pub returns-clause-cost : goal.returns-clause-cost
returns-clause-cost g c = script_spends (range_of c.args.input.now) c.args.at (datum c.in_ok-found.found) c.in_ok-found.next _ _ c.requires.sound c.in_ok-found.ensures.reads c.in_ok-found.ensures.spends

pub returns-clause-only : goal.returns-clause-only
returns-clause-only g c h t spelt = only_memory (range_of c.args.input.now) c.args.at (Ok c.in-Node.node) c.requires.sound c.requires.at (returns-clause-reads g c) h t spelt

pub returns-then-next-input-clause-only : goal.returns-then-next-input-clause-only
returns-then-next-input-clause-only g c h t spelt = only_memory (range_of c.args.input.now) c.args.at (Err (Format (fault c.in_ok-found.next Trailing))) c.requires.sound c.requires.at (returns-then-next-input-clause-reads g c) h t spelt

pub returns-in_err-found-clause-only : goal.returns-in_err-found-clause-only
returns-in_err-found-clause-only g c h t spelt =
    let e = err_from_is_err_and c.from_residual.result c.from_residual.ensures.1 in
    rw (e.1, e.2) (only_failed (range_of c.args.input.now) c.args.at c.in_err-found.field-0.0 c.requires.sound c.requires.at c.in_err-found.ensures.reads h t spelt)

pub returns-clause-same : goal.returns-clause-same
returns-clause-same g c h t spelt = one_script (range_of c.args.input.now) c.args.at h c.in-Node.node t (returns-clause-reads g c) spelt

pub returns-clause-size : goal.returns-clause-size
returns-clause-size g c = script_size (range_of c.args.input.now) c.args.at c.in-Node.node c.requires.sound c.requires.at (returns-clause-reads g c)

pub returns-clause-named : goal.returns-clause-named
returns-clause-named g c = named_where_stands (range_of c.args.input.now) c.in-Node.node (returns-clause-reads g c).stands
