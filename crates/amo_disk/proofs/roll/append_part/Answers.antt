use Rattle.std.proofs.Common.{subst, take, arith}
use Rattle.std.proofs.lemmas.List.{length-take}
use Rattle.amo_disk.specs.Kept.{Grown}
use Rattle.amo_disk.proofs.Rolls.{grown, part_front, part_of_part}
use Rattle.amo_disk.proofs.roll.append_part.Goals as goal

pub returns-in-Ok-clause-grown : goal.returns-in-Ok-clause-grown
returns-in-Ok-clause-grown g c = λ version kept.
    let old = g.F.Folder.pieces c.args.folder.now in let new = g.F.Folder.pieces c.append.new.self in let bytes = c.args.bytes.now in let k = c.part_within.result in let count = c.in-Ok.count in
    let long = length-take k bytes in
    subst (λ bs. Grown version c.args.limit old new bs c.with.result) (part_of_part bytes count k (omega (arith, c.in-Ok.ensures.bound, long)))
    (grown version c.args.limit c.args.newest c.with.result old new (take count (take k bytes)) c.in-Ok.ensures.appended kept c.requires.room (part_front c.args.newest.length c.args.limit (take k bytes) count c.part_within.ensures.within)
    c.with.ensures.some)
