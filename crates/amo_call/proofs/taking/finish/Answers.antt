use Rattle.std.proofs.Common.{◌≡◌, refl, rules}
use Rattle.amo_call.specs.Takes.{IsAnswered}
use Rattle.amo_call.proofs.taking.finish.Goals as goal

pub keep-requires : goal.keep-requires
keep-requires g c =
    let body : c.args.response.body.items ≡ c.in-Ok.message = search rules in
    IsAnswered c.args.kept c.requires.taking.0 c.requires.saved refl c.requires.taking.1 (record {
      response = c.args.response;
      answered = c.requires.answered;
      told = record { status = c.requires.status; names = c.in-Some.ensures; body = body };
    })
