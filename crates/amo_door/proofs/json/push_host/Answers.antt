use Rattle.amo_door.specs.Answer.{links}
use Rattle.amo_door.proofs.Appends.{appended}
use Rattle.amo_door.proofs.Written.{joined, joined_where}
use Rattle.amo_door.proofs.json.push_host.Goals as goal

-- one piece behind another
pub returns : goal.returns
returns c =
    let start = c.args.text.now.items in
    let two = joined start _ _ _ _ c.in_ok-extend_from_slice.ensures.items c.in_ok-push_life.ensures in
    let three = joined start _ _ _ _ two c.in_ok-push_program.ensures in
    let four = joined start _ _ _ _ three c.in_ok-push_network.ensures in
    let five = joined start _ _ _ _ four c.in_ok-extend_from_slice-2.ensures.items in
    let six = joined start _ _ _ _ five c.in_ok-push_decimal.ensures.ok in
    joined_where c.extend_from_slice-3.result start _ links _ _ six
    (appended c.extend_from_slice-3.result c.push_decimal.new.text.items links c.extend_from_slice-3.new.self.items c.extend_from_slice-3.ensures.items)
