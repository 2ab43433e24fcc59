use Rattle.std.proofs.Common.{◌≡◌, ◌≤◌, ◌++◌, ◌∷◌, [], length, ap, arith}
use Rattle.amo_net.specs.Lossy.{queued_copies}
use Rattle.amo_net.specs.declared.link.TheConstants.{MAX_DATAGRAM}
use Rattle.amo_net.proofs.Sendings.{queued_one, queued_two}
use Rattle.amo_net.proofs.direction.Direction.queue.Goals as goal

pub returns-in-1 : goal.returns-in-1
returns-in-1 c =
    let here = c.self.view_is in let it = c.twins.view_is in let whole = c.twins.invariant in let long = ap length it in
    let chosen = c.min.ensures in let wanted = c.copies.ensures in let left = c.room.ensures in let one = c.in-1.is in
    let first = c.push.ensures.items in let kept = c.keep_room-in-1.ensures in
    let count : c.min.result ≡ queued_copies c.args.word c.args.self.now = cc in
    let short : length c.args.twins ≤ MAX_DATAGRAM = omega (arith, whole.1) in
    let new : c.keep_room-in-1.new.self ≡ c.args.self.now ++ c.args.twins ∷ [] = cc in
    queued_one c.args.word c.min.result c.args.twins c.args.self.now c.keep_room-in-1.new.self count (omega arith) short new

pub returns-in_default : goal.returns-in_default
returns-in_default c =
    let here = c.self.view_is in let it = c.twins.view_is in let whole = c.twins.invariant in let long = ap length it in
    let chosen = c.min.ensures in let wanted = c.copies.ensures in let left = c.room.ensures in let neither = c.in_default in
    let same : c.twins.inside.second ≡ c.twins.inside.first = whole.0 in
    let first = c.push-in_default.ensures.items in let last = c.push-in_default-2.ensures.items in
    let count : c.min.result ≡ queued_copies c.args.word c.args.self.now = cc in
    let more : 2 ≤ c.min.result = grind arith in
    let short : length c.args.twins ≤ MAX_DATAGRAM = omega (arith, whole.1) in
    let new : c.push-in_default.new.self.items ≡ c.args.self.now ++ c.args.twins ∷ [] = cc in
    let newer : c.push-in_default-2.new.self.items ≡ c.push-in_default.new.self.items ++ c.args.twins ∷ [] = cc in
    queued_two c.args.word c.min.result c.args.twins c.args.self.now c.push-in_default.new.self.items c.push-in_default-2.new.self.items count more short new newer
