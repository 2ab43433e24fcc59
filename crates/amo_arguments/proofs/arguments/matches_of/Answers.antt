use Rattle.std.proofs.Common.{◌∙◌, ap, map, string_bytes, sym}
use Rattle.clap.specs.Words.{app_of, fault_of, is_simple, is_simple_and_free, subcommand_of}
use Rattle.amo_arguments.proofs.Refused.{blamed}
use Rattle.amo_arguments.proofs.arguments.matches_of.Goals as goal

pub returns-in-Ok-try_get_matches_from-clause-matches : goal.returns-in-Ok-try_get_matches_from-clause-matches
returns-in-Ok-try_get_matches_from-clause-matches c =
    let links = c.in-Ok.ensures in
    let shells = links.2 in
    (links.0, links.1, (shells.0, shells.1, (c.in-Ok-try_get_matches_from.ensures.matches (ap is_simple shells.2)).1 ∙ ap (λ a. subcommand_of a (map string_bytes c.args.arguments.now)) shells.2))

pub returns-in-Ok-try_get_matches_from-clause-refused : goal.returns-in-Ok-try_get_matches_from-clause-refused
returns-in-Ok-try_get_matches_from-clause-refused c =
    let links = c.in-Ok.ensures in
    let shells = links.2 in
    (links.0, links.1, (shells.0, shells.1, sym (ap (λ a. fault_of a (map string_bytes c.args.arguments.now)) shells.2) ∙ c.in-Ok-try_get_matches_from.ensures.kinds (ap is_simple_and_free shells.2)))

pub returns-in-Err-try_get_matches_from-clause-refused : goal.returns-in-Err-try_get_matches_from-clause-refused
returns-in-Err-try_get_matches_from-clause-refused c =
    let links = c.in-Ok.ensures in
    let shells = links.2 in
    let arguments = map string_bytes c.args.arguments.now in
    let kinds = fault_of (app_of c.in-Ok.command) arguments in
    blamed arguments kinds c.in-Err-try_get_matches_from.error (links.0, links.1, (shells.0, shells.1, sym (ap (λ a. fault_of a arguments) shells.2))) (c.in-Err-try_get_matches_from.ensures.kinds (ap is_simple_and_free shells.2))
