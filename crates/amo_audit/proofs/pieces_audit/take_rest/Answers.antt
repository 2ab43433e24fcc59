use Rattle.std.proofs.Common.{◌++◌, take, subst, append_assoc}
use Rattle.amo_audit.specs.Parts.{HasCome}
use Rattle.amo_audit.proofs.Come.{given_twice}
use Rattle.amo_audit.proofs.pieces_audit.take_rest.Goals as goal

pub parts-preserved : goal.parts-preserved
parts-preserved g c =
    let (more, gives, comes) = c.parts.invariant in
    let next = take c.in_ok-count.count c.read_part.new.room in (
      more ++ next,
      given_twice (g.R.Read.remaining c.args.reader.now) (g.R.Read.remaining c.parts.reader) (g.R.Read.remaining c.read_part.new.reader) more next gives c.in_ok-count.ensures.bytes,
      λ front come. subst (HasCome c.push.new.self) (append_assoc front more next) (c.in_ok-push.ensures (front ++ more) (comes front come)),
    )
