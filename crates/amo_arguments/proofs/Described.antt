-- What adding arguments and subcommands makes of a command.
use Rattle.std.proofs.Common.{◌≡◌, ◌∙◌, ◌||◌, false, Result, Ok, Err, IfOk, ap, ap₂, subst}
use Rattle.clap.specs.Words.{AddsArg, AddsSubcommand, App, Rule, app_of, rule_of, with_rule, with_subcommand}
use Rattle.clap.specs.declared.builder.arg.Arg.{Arg}
use Rattle.clap.specs.declared.builder.command.Command.{Command}
use Rattle.amo_arguments.specs.Commands.{Describes, HasOneMore, HasOneUnder, IsCommand}

added_argument : {old new : Command} {a : Arg} {app : App} {rule : Rule} → AddsArg old a new → rule_of a ≡ rule → a.global ≡ false → IsCommand app old → IsCommand (with_rule app rule) new
added_argument added is local old = (added.shape local ∙ ap₂ with_rule old.0 is, added.globals ∙ ap₂ (λ x y. x || y) old.1 local)

-- one more argument
pub with_argument : {E : Type 0} (old new : Result Command E) (a : Arg) (app : App) (rule : Rule) → HasOneMore old a new → rule_of a ≡ rule → a.global ≡ false → Describes app old → Describes (with_rule app rule) new
with_argument old (Err e) a app rule grown is local described = _
with_argument old (Ok new) a app rule grown is local described = added_argument grown.2 is local (subst (Describes app) grown.1 described)

added_command : {old sub new : Command} {app : App} {under : App} → AddsSubcommand old sub new → IsCommand under sub → app_of old ≡ app → app_of new ≡ with_subcommand app under.top
added_command added is old = added.shape is.1 ∙ ap₂ with_subcommand old (ap (λ (a : App). a.top) is.0)

-- one more subcommand
pub with_command : {E : Type 0} (old sub new : Result Command E) (app under : App) → HasOneUnder old sub new → Describes under sub → IfOk old (λ c. app_of c ≡ app) → IfOk new (λ c. app_of c ≡ with_subcommand app under.top)
with_command old sub (Err e) app under grown is described = _
with_command old sub (Ok new) app under grown is described =
    added_command grown.4 (subst (Describes under) grown.3 is) (subst (λ c. IfOk c (λ d. app_of d ≡ app)) grown.2 described)
