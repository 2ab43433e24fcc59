use Rattle.std.proofs.Common.{◌≡◌, ◌≢◌, Some, codes, rules, subst}
use Rattle.clap.specs.Words.{found_of, rows_of, subcommand_rows_of}
use Rattle.amo_arguments.specs.Chosen.{SuitsNone}
use Rattle.amo_arguments.proofs.Named.{met_run}
use Rattle.amo_arguments.proofs.Refused.{refuses}
use Rattle.amo_arguments.proofs.arguments.parse.Goals as goal

pub returns-then-eq-clause-refused : goal.returns-then-eq-clause-refused
returns-then-eq-clause-refused c =
    let met : Some (c.in-Some.name.now, rows_of (found_of c.in-Some.own.now)) ≡ subcommand_rows_of c.args.matches.now = cc (c.in-Some.ensures) in
    let named : c.in-Some.name.now ≡ codes "run" = search rules in
    met_run _ (rows_of (found_of c.in-Some.own.now)) c.in-Some.name.now c.parse_run.result met named c.parse_run.ensures.refused

pub returns-in-Err-clause-refused : goal.returns-in-Err-clause-refused
returns-in-Err-clause-refused c =
    let met : Some (c.in-Some.name.now, rows_of (found_of c.in-Some.own.now)) ≡ subcommand_rows_of c.args.matches.now = cc (c.in-Some.ensures) in
    let other : c.in-Some.name.now ≢ codes "run" = search rules in
    refuses c.in-Err.unfit (λ none. subst SuitsNone met (none other)) c.in-Err.ensures.refused
