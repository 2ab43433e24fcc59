use Rattle.std.proofs.Common.{◌≡◌, [], rules, subst, sym}
use Rattle.std.specs.Io.KnownBytes.{Consumes}
use Rattle.amo_desk.proofs.Conserving.{waits_none}
use Rattle.amo_desk.proofs.Readers.{none_taken}
use Rattle.amo_desk.proofs.turns.Desk.wait.Goals as goal

pub returns-then-looks_alone-clause-waits : goal.returns-then-looks_alone-clause-waits
returns-then-looks_alone-clause-waits g c =
    let desk = c.looks_alone.new.self in
    let reader : desk.reader ≡ c.args.self.now.reader = search rules in
    let input : desk.input ≡ c.args.self.now.input = search rules in (
      [],
      subst (λ r. Consumes (g.I.Read.remaining c.args.self.now.reader) (g.I.Read.remaining r) []) (sym reader) (none_taken (g.I.Read.remaining c.args.self.now.reader)),
      waits_none c.args.self.now.input desk.input input,
    )
