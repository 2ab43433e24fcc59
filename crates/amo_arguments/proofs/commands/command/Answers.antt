use Rattle.std.proofs.Common.{◌≡◌, Result, IfOk, subst, sym}
use Rattle.std.proofs.lemmas.Result.{IfOk-weaker}
use Rattle.clap.specs.Words.{app_of}
use Rattle.clap.specs.declared.builder.command.Command.{Command}
use Rattle.amo_arguments.specs.Commands.{amo}
use Rattle.amo_arguments.proofs.Described.{with_command}
use Rattle.amo_arguments.proofs.commands.command.Goals as goal

pub returns : goal.returns
returns c =
    let links = c.run.ensures in
    let shells = c.completions.ensures in
    let with_replay = with_command _ _ _ _ _ c.subcommand.ensures c.replay.ensures c.bare.ensures in
    let with_run = with_command _ _ _ _ _ c.subcommand-2.ensures links.2 with_replay in
    let with_send = with_command _ _ _ _ _ c.subcommand-3.ensures c.send.ensures with_run in
    let with_receive = with_command _ _ _ _ _ c.subcommand-4.ensures c.receive.ensures with_send in
    let with_stop = with_command _ _ _ _ _ c.subcommand-5.ensures c.stop.ensures with_receive in
    let with_serve = with_command _ _ _ _ _ c.subcommand-6.ensures c.serve.ensures with_stop in
    let with_call = with_command _ _ _ _ _ c.subcommand-7.ensures c.call.ensures with_serve in
    let with_audit = with_command _ _ _ _ _ c.subcommand-8.ensures c.audit.ensures with_call in
    let with_explain = with_command _ _ _ _ _ c.subcommand-9.ensures c.explain.ensures with_audit in
    let with_outcomes = with_command _ _ _ _ _ c.subcommand-10.ensures c.outcomes.ensures with_explain in
    let with_got = with_command _ _ _ _ _ c.subcommand-11.ensures c.got.ensures with_outcomes in
    let with_manual = with_command _ _ _ _ _ c.subcommand-12.ensures c.manual.ensures with_got in
    let with_completions = with_command _ _ _ _ _ c.subcommand-13.ensures shells.2 with_manual in
    let whole = subst (λ (r : Result Command _). IfOk r (λ c. app_of c ≡ amo links.0 shells.0)) (sym c.into_command.ensures) with_completions in
    IfOk-weaker c.into_command.result _ _ (λ m h. (links.0, links.1, (shells.0, shells.1, h))) whole
