use Rattle.std.proofs.Common.{◌≡◌, ◌∙◌, ap, codes, true}
use Rattle.std.proofs.lemmas.Result.{IfOk-weaker}
use Rattle.clap.specs.Words.{App, app_of, new_app}
use Rattle.clap.specs.Simple.{app_of_fields}
use Rattle.amo_arguments.proofs.commands.bare.Goals as goal

pub returns : goal.returns
returns c =
    let plain = new_app (codes "amo") in
    let versioned : app_of c.version.result ≡ record plain { top = record plain.top { has_version = true } } = ap app_of_fields c.version.ensures ∙ ap (λ (a : App). record a { top = record a.top { has_version = true } }) c.new.ensures.app in
    let told : app_of c.about.result ≡ app_of c.version.result = ap app_of_fields c.about.ensures in
    let helped : app_of c.after_help.result ≡ app_of c.about.result = ap app_of_fields c.after_help.ensures in
    let asking : app_of c.subcommand_required.result ≡ record plain { top = record plain.top { has_version = true; subcommand_required = true } } = ap app_of_fields c.subcommand_required.ensures ∙ ap (λ (a : App). record a { top = record a.top { subcommand_required = true } }) (helped ∙ (told ∙ versioned)) in
    let whole = ap app_of_fields c.arg_required_else_help.ensures ∙ ap (λ (a : App). record a { top = record a.top { arg_required_else_help = true } }) asking in
    IfOk-weaker c.bin_name-command.result _ _ (λ m named. ap app_of_fields named.0 ∙ whole) c.bin_name-command.ensures
