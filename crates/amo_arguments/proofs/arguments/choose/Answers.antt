use Rattle.std.proofs.Common.{map, string_bytes}
use Rattle.amo_arguments.specs.Chosen.{ChoosesBy, MeetsSeedless, SuitsNone}
use Rattle.amo_arguments.proofs.Matched.{if_none, if_some, of_match}
use Rattle.amo_arguments.proofs.Refused.{refuses, unfit_of}
use Rattle.amo_arguments.proofs.arguments.choose.Goals as goal

pub returns-in-Ok-clause-chosen : goal.returns-in-Ok-clause-chosen
returns-in-Ok-clause-chosen c = if_some c.in-Ok.chosen (λ s. of_match (λ met. ChoosesBy met s) (map string_bytes c.args.arguments.now) c.in_ok-matches.matches c.in_ok-matches.ensures.matches) c.in-Ok.ensures.chosen

pub returns-in-Ok-clause-seed : goal.returns-in-Ok-clause-seed
returns-in-Ok-clause-seed c = if_none c.in-Ok.chosen (of_match MeetsSeedless (map string_bytes c.args.arguments.now) c.in_ok-matches.matches c.in_ok-matches.ensures.matches) c.in-Ok.ensures.seed

pub returns-clause-refused : goal.returns-clause-refused
returns-clause-refused c =
    let arguments = map string_bytes c.args.arguments.now in
    unfit_of arguments c.in-Err.unfit (refuses c.in-Err.unfit (λ none. (c.in_ok-matches.ensures.refused, of_match SuitsNone arguments c.in_ok-matches.matches c.in_ok-matches.ensures.matches none)) c.in-Err.ensures.refused)
