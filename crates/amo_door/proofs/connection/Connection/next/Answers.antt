use Rattle.std.proofs.Common.{◌≡◌, rules}
use Rattle.amo_door.specs.declared.connection.Stage.TheVariants as stage
use Rattle.amo_door.proofs.Incoming.{follows_read}
use Rattle.amo_door.proofs.connection.Connection.next.Goals as goal

pub returns-in-Following-clause-read : goal.returns-in-Following-clause-read
returns-in-Following-clause-read c =
    λ came past has.
    let follows : c.args.self.now.stage ≡ stage.Following = search rules in
    follows_read c.args.reader.now came past c.args.self.now c.end_following.new.self c.args.self.now.has_ended follows c.end_following.ensures has
