use Rattle.std.proofs.Common.{◌≢◌, ap, refl, rules}
use Rattle.std.specs.Prelude.{option_copied}
use Rattle.std.proofs.lemmas.Slice.Eq.{bytes_eq-Decides}
use Rattle.amo_door.specs.Call.{until_of}
use Rattle.amo_door.proofs.call.check_until.Goals as goal

pub returns-else-eq-clause-refused : goal.returns-else-eq-clause-refused
returns-else-eq-clause-refused c =
    let text = c.in-Some.text.now in
    let differs : text ≢ until_of c.args.served.side = search (rules, bytes_eq-Decides) in
    (text, refl, ap option_copied c.in-Some.is, differs)
