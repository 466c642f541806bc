use Rattle.std.proofs.Common.{◌∙◌, sym}
use Rattle.scope_facts.proofs.Sizes.{first_list_bounded}
use Rattle.scope_facts.proofs.entries.make_list_entries.Goals as goal

pub put_item_entries-requires : goal.put_item_entries-requires
put_item_entries-requires c = rw c.as_slice.ensures (first_list_bounded c.args.fields.now _ _ _ (sym c.first-item.is ∙ c.in-List.is) c.in-len1-up.len_at_least c.requires)
