use Rattle.std.proofs.Common.{arith, ◌≡◌, ℕ, ap, sym, ◌∙◌, ◌≤◌, ◌<◌, ◌^◌, Option, subst, length, List, Err}
use Rattle.std.proofs.lemmas.Result.{err_from_is_err_and}
use Rattle.tree_encoder.specs.declared.fault.EncodeFault.TheVariants.{TooLarge}
use Rattle.tree_encoder.specs.File.{most_bytes, texts_held, tables_of, file as file_of}
use Rattle.container.specs.Container.{container}
use Rattle.tree_encoder.specs.Writing.{so_far}
use Rattle.std.specs.List.{AllByRecursion}
use Rattle.bast_schema.specs.Tree.{depth}
use Rattle.container.specs.InFile.{IsEntry}
use Rattle.tree_encoder.specs.declared.writer.Writer.{Writer}
use Rattle.tree_encoder.proofs.InGrammar.{file_in_grammar}
use Rattle.tree_encoder.proofs.Lengths.{not_small}
use Rattle.tree_encoder.proofs.Whole.{file_of_writer, plain_tree, texts_of_writer, tree_large}
use Rattle.tree_encoder.proofs.encoding.encode.Goals as goal

pub put_node-requires-clause-plain : goal.put_node-requires-clause-plain
put_node-requires-clause-plain c = plain_tree (texts_held c.args.strings.now) c.args.tree.now c.requires.whole c.requires.eager c.kind-kind.ensures.typed

pub returns-in_err-put_node-clause-too_large : goal.returns-in_err-put_node-clause-too_large
returns-in_err-put_node-clause-too_large c is =
    let e = err_from_is_err_and c.from_residual-in_err-put_node.result c.from_residual-in_err-put_node.ensures.1 in
    let first : Err e.0 ≡ Err TooLarge = sym e.1 ∙ is in
    let same : c.in_err-put_node.field-0.0 ≡ TooLarge = let same_fault = e.2 in cc in
    tree_large c.in_err-put_node.field-0.0 (so_far c.in_ok-writer.writer) (so_far c.put_node.new.into) (texts_held c.args.strings.now) c.args.tree.now c.kind-kind.ensures.typed c.requires.eager c.in_ok-writer.ensures.start c.in_err-put_node.ensures.puts same

pub returns-then-not-is_small-clause-too_large : goal.returns-then-not-is_small-clause-too_large
returns-then-not-is_small-clause-too_large c is =
    let file = file_of_writer c.put_node.new.into (so_far c.in_ok-writer.writer) (texts_held c.args.strings.now) c.args.tree.now c.kind-kind.ensures.typed c.requires.eager c.in_ok-writer.ensures.start c.in_ok-put_node.ensures.puts in
    let same = ap (λ (bytes : List ℕ). length (container (record { kinds = c.put_node.new.into.kinds; texts = c.put_node.new.into.texts }) bytes)) c.deref.ensures.value ∙ ap length file in
    not_small c.is_small.result (length (container (record { kinds = c.put_node.new.into.kinds; texts = c.put_node.new.into.texts }) c.deref.result.now)) (length (file_of (texts_held c.args.strings.now) c.args.tree.now)) c.is_small.ensures.small c.if-not-is_small.true same

pub returns-clause-file : goal.returns-clause-file
returns-clause-file c =
    let file = file_of_writer c.put_node.new.into (so_far c.in_ok-writer.writer) (texts_held c.args.strings.now) c.args.tree.now c.kind-kind.ensures.typed c.requires.eager c.in_ok-writer.ensures.start c.in_ok-put_node.ensures.puts in
    c.in_ok-write_file.ensures ∙ ap (container (record { kinds = c.put_node.new.into.kinds; texts = c.put_node.new.into.texts })) c.deref-2.ensures.value ∙ file

pub returns-clause-in_grammar : goal.returns-clause-in_grammar
returns-clause-in_grammar c script names =
    let h = texts_held c.args.strings.now in
    let writer : Writer = c.put_node.new.into in
    let file = file_of_writer writer (so_far c.in_ok-writer.writer) h c.args.tree.now c.kind-kind.ensures.typed c.requires.eager c.in_ok-writer.ensures.start c.in_ok-put_node.ensures.puts in
    let made : c.in_ok-write_file.field-0.items ≡ file_of h c.args.tree.now =
    c.in_ok-write_file.ensures ∙ ap (container (record { kinds = writer.kinds; texts = writer.texts })) c.deref-2.ensures.value ∙ file in
    let texts = texts_of_writer writer (so_far c.in_ok-writer.writer) h c.args.tree.now c.kind-kind.ensures.typed c.requires.eager c.in_ok-writer.ensures.start c.in_ok-put_node.ensures.puts in
    let entries : AllByRecursion IsEntry (tables_of h c.args.tree.now).texts = subst (λ (ts : List (Option (List ℕ))). AllByRecursion IsEntry ts) texts (c.is_small.ensures.entries c.if-not-is_small.false) in
    let shallow : depth c.args.tree.now ≤ 512 = omega arith in
    let small : length (container (record { kinds = writer.kinds; texts = writer.texts }) c.deref.result.now) ≤ most_bytes = c.is_small.ensures.small.0 c.if-not-is_small.false in
    let same : length (container (record { kinds = writer.kinds; texts = writer.texts }) c.deref.result.now) ≡ length (file_of h c.args.tree.now) =
    ap (λ (bytes : List ℕ). length (container (record { kinds = writer.kinds; texts = writer.texts }) bytes)) c.deref.ensures.value ∙ ap length file in
    let short : length (file_of h c.args.tree.now) < 2 ^ 32 = omega arith in
    rw made (file_in_grammar h c.args.tree.now script c.kind-kind.ensures.typed shallow c.requires.whole c.requires.eager names entries short)
