use Rattle.std.proofs.Common.{◌≡◌, Some, None, rules}
use Rattle.std.specs.Prelude.{find, nat_le}
use Rattle.amo_archive.specs.declared.handshakes.Run.{Run}
use Rattle.amo_archive.proofs.Endings.{found_in, found_in_none}
use Rattle.amo_archive.proofs.handshakes.Ended.has_got.Goals as goal

pub returns-in-Some : goal.returns-in-Some
returns-in-Some c = λ some past few keeps.
    let found = find (λ (run : Run). nat_le c.args.number run.last) c.args.self.now.runs.items in
    let here : found ≡ Some c.in-Some.run'.now = search rules in
    found_in c.args.number past found c.in-Some.run'.now here (keeps.known c.args.number some few)

pub returns-in-None : goal.returns-in-None
returns-in-None c = λ some past few keeps.
    let found = find (λ (run : Run). nat_le c.args.number run.last) c.args.self.now.runs.items in
    let none : found ≡ None = search rules in
    found_in_none c.args.number past found none (keeps.known c.args.number some few)
