use Rattle.std.proofs.Common.{rules, ◌≡◌, ◌%◌, Some, length, slice_get, refl}
use Rattle.std.specs.BTreeMap.{get}
use Rattle.std.proofs.lemmas.Option.{slice_get_read}
use Rattle.amo_world.specs.Key.{order}
use Rattle.amo_world.proofs.Rows.{put_in_row, put_in_tree}
use Rattle.amo_world.proofs.index.PacketIndex.add.Goals as goal

pub returns-in_ok-insert-clause-put : goal.returns-in_ok-insert-clause-put
returns-in_ok-insert-clause-put c =
    let rows = c.args.self.now.rows.items in
    let number : c.args.found.key.identifier % length rows ≡ c.row_number-number.result = search rules in
    let there : slice_get rows c.row_number-number.result ≡ Some c.index_mut.result.now = slice_get_read rows (length rows) c.row_number-number.result c.index_mut.result.now refl (search rules) c.index_mut.ensures.value in
    put_in_tree rows c.row_number-number.result c.index_mut.result.now _ there (get order c.args.self.now.spilled) c.args.found number c.requires.absent refl (get order c.insert.new.self)
    c.in_ok-insert.ensures.updates.0

pub returns-else-is_full-clause-put : goal.returns-else-is_full-clause-put
returns-else-is_full-clause-put c =
    let rows = c.args.self.now.rows.items in
    let number : c.args.found.key.identifier % length rows ≡ c.row_number-number.result = search rules in
    let there : slice_get rows c.row_number-number.result ≡ Some c.index_mut-else-is_full.result.now = slice_get_read rows (length rows) c.row_number-number.result c.index_mut-else-is_full.result.now refl (search rules) c.index_mut-else-is_full.ensures.value in
    put_in_row rows c.row_number-number.result c.index_mut-else-is_full.result.now _ there (get order c.args.self.now.spilled) c.args.found number c.requires.absent c.push.ensures.items
