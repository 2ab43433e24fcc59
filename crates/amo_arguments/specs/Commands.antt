-- The program's commands, as `clap` defines their matches.
use Rattle.std.specs.Prelude.{◌≡◌, ℕ, true, false, codes, Some, Result, Ok, IfOk, List, [], ◌∷◌, map}
use Rattle.std.specs.Borrow.{Bor}
use Rattle.clap.specs.Words.{AddsArg, AddsSubcommand, App, Rule, Text, app_of, new_app, new_rule, with_rule, with_subcommand}
use Rattle.clap.specs.declared.builder.action.ArgAction.TheVariants.{Set, SetTrue}
use Rattle.clap.specs.declared.builder.arg.Arg.{Arg}
use Rattle.clap.specs.declared.builder.command.Command.{Command}
use Rattle.clap.specs.declared.builder.command.Command.TheViews.{out-Command}
use Rattle.clap.specs.declared.builder.value_parser.ValueParser.TheVariants as parser

-- FILE: required, with one value
abbrev pub file : Rule
file = record (new_rule (codes "FILE")) { required = true; action = Some Set }

-- a second FILE, which may be absent
abbrev pub second_file : Rule
second_file = record (new_rule (codes "SECOND")) { value_names = 1; action = Some Set }

-- an argument of this name, which is required, with one value
abbrev pub needed : Text → Rule
needed name = record (new_rule name) { required = true; action = Some Set }

-- one that may be absent
abbrev pub offered : Text → Rule
offered name = record (new_rule name) { action = Some Set }

-- an option that is required, with one value
abbrev pub text : Text → Rule
text name = record (new_rule name) { long = Some name; value_names = 1; required = true; action = Some Set }

-- the same, the value being a number from `low` to `high`
abbrev pub number : Text → ℕ → ℕ → Rule
number name low high = record (text name) { parser = Some (parser.Unsigned low high) }

-- --pumps: a number from 1 to 4, and 1 where it is absent
abbrev pub pumps : Rule
pumps = record (new_rule (codes "pumps")) { long = Some (codes "pumps"); value_names = 1; defaults = codes "1" ∷ []; action = Some Set; parser = Some (parser.Unsigned 1 4) }

-- an option that may be absent, with one value
abbrev pub optional_text : Text → Rule
optional_text name = record (new_rule name) { long = Some name; value_names = 1; action = Some Set }

-- a flag: it is there, or it is not
abbrev pub flag : Text → Rule
flag name = record (new_rule name) { long = Some name; action = Some SetTrue }

-- an option that may be absent, with a number from `low` to `high`
abbrev pub optional_number : Text → ℕ → ℕ → Rule
optional_number name low high = record (new_rule name) { long = Some name; value_names = 1; action = Some Set; parser = Some (parser.Unsigned low high) }

-- --tick: a number of microseconds, up to a minute, and 10000 where it is absent
abbrev pub tick : Rule
tick = record (optional_number (codes "tick") 1 60000000) { defaults = codes "10000" ∷ [] }

-- --stream: a number from 1 to 256
abbrev pub stream : Rule
stream = optional_number (codes "stream") 1 256

-- a list of texts in memory
abbrev pub Names : Type 0
Names = Bor (List (Bor Text))

-- what may carry the packets
abbrev pub AreLinks : Names → Type 0
AreLinks names = map (λ name. name.now) names.now ≡ codes "memory" ∷ codes "udp" ∷ []

-- --link: required, the value being one of these names
abbrev pub link : Names → Rule
link names = record (text (codes "link")) { parser = Some (parser.Names names) }

abbrev pub IsLink : Rule → Type 0
IsLink rule = (names : Names) × AreLinks names × (rule ≡ link names)

-- the shells that there are completions for
abbrev pub AreShells : Names → Type 0
AreShells names = map (λ name. name.now) names.now ≡ codes "bash" ∷ codes "zsh" ∷ codes "fish" ∷ []

-- SHELL: required, the value being one of these names
abbrev pub shell : Names → Rule
shell names = record (new_rule (codes "SHELL")) { required = true; action = Some Set; parser = Some (parser.Names names) }

abbrev pub IsShell : Rule → Type 0
IsShell rule = (names : Names) × AreShells names × (rule ≡ shell names)

abbrev pub replay : App
replay = with_rule (new_app (codes "replay")) file

abbrev pub run : Names → App
run links =
    with_rule (with_rule (with_rule (with_rule (with_rule (with_rule (with_rule (with_rule (with_rule (new_app (codes "run")) (number (codes "streams") 1 256))
    (number (codes "clients") 1 56)) (number (codes "crashes") 0 1000)) (text (codes "seed"))) (link links)) (text (codes "journal"))) pumps) (flag (codes "split"))) (flag (codes "batch"))

-- what both hosts of a pair are told: where they are, of how many streams, and which journal is theirs
abbrev pub placed : Text → App
placed name = with_rule (with_rule (with_rule (with_rule (new_app name) (text (codes "listen"))) (text (codes "peer"))) (number (codes "streams") 1 256)) (text (codes "journal"))

-- how long a packet of a host waits for its answer, at first and at most
abbrev pub timed : App → App
timed app = with_rule (with_rule app tick) (optional_number (codes "tick-most") 1 3600000000)

-- how long a host waits at its end, and how long a piece of its journal is
abbrev pub limited : App → App
limited app = with_rule (with_rule app (optional_number (codes "wait") 0 1000000)) (optional_number (codes "piece") 1024 1000000000000)

-- and what else both may be told
abbrev pub host : Text → App
host name =
    with_rule (limited (with_rule (with_rule (timed (placed name)) (flag (codes "json"))) (flag (codes "sync")))) (optional_number (codes "stats") 1 1000000)

abbrev pub send : App
send = with_rule (with_rule (with_rule (with_rule (host (codes "send")) (flag (codes "each"))) (flag (codes "many"))) (flag (codes "batch"))) (flag (codes "hex"))

abbrev pub receive : App
receive = with_rule (host (codes "receive")) (optional_number (codes "count") 0 18446744073709551615)

abbrev pub stop : App
stop = with_rule (new_app (codes "stop")) file

-- a host with a door: its side, its door, and what both hosts of a pair are told
abbrev pub serve : App
serve =
    limited (with_rule (with_rule (timed (with_rule (with_rule (with_rule (placed (codes "serve")) (text (codes "side"))) (text (codes "door"))) (optional_text (codes "token-file"))))
    (flag (codes "batch"))) (flag (codes "sync")))

-- a call of a door: which, with the message of a put, of which stream, by which file and token, and how
abbrev pub call : App
call =
    with_rule (with_rule (with_rule (with_rule (with_rule (with_rule (with_rule (with_rule (with_rule (new_app (codes "call")) (needed (codes "CALL"))) (offered (codes "MESSAGE"))) (text (codes "door"))) stream)
    (optional_text (codes "state"))) (optional_text (codes "token-file"))) (optional_number (codes "wait") 0 1000000)) (optional_number (codes "after") 0 18446744073709551615)) (flag (codes "hex"))

abbrev pub audit : App
audit = with_rule (with_rule (new_app (codes "audit")) file) second_file

abbrev pub explain : App
explain = with_rule (with_rule (new_app (codes "explain")) file) second_file

abbrev pub outcomes : App
outcomes = with_rule (with_rule (with_rule (with_rule (with_rule (new_app (codes "outcomes")) file) second_file) (flag (codes "open"))) (flag (codes "gone"))) (flag (codes "json"))

abbrev pub got : App
got = with_rule (with_rule (with_rule (with_rule (new_app (codes "got")) file) (optional_number (codes "after") 0 18446744073709551615)) (flag (codes "follow"))) (flag (codes "json"))

abbrev pub manual : App
manual = new_app (codes "man")

abbrev pub completions : Names → App
completions shells = with_rule (new_app (codes "completions")) (shell shells)

-- without a command: it tells its version, asks for a command, and shows its help where there are no arguments
abbrev pub bare : App
bare = let app = new_app (codes "amo") in record app { top = record app.top { has_version = true; subcommand_required = true; arg_required_else_help = true } }

abbrev pub amo : Names → Names → App
amo links shells =
    with_subcommand (with_subcommand (with_subcommand (with_subcommand (with_subcommand (with_subcommand (with_subcommand (with_subcommand (with_subcommand (with_subcommand (with_subcommand
    (with_subcommand (with_subcommand bare replay.top) (run links).top) send.top) receive.top) stop.top) serve.top) call.top) audit.top) explain.top) outcomes.top) got.top) manual.top)
    (completions shells).top

-- the command is this one, and shares no argument with commands below it
abbrev pub IsCommand : App → Command → Type 0
IsCommand app command = (app_of command ≡ app) × ((out-Command command).has_globals ≡ false)

-- the same, where there was memory for it
abbrev pub Describes : {E : Type 0} → App → Result Command E → Type 0
Describes app command = IfOk command (IsCommand app)

abbrev pub IsRun : {E : Type 0} → Result Command E → Type 0
IsRun command = (links : Names) × AreLinks links × Describes (run links) command

abbrev pub IsCompletions : {E : Type 0} → Result Command E → Type 0
IsCompletions command = (shells : Names) × AreShells shells × Describes (completions shells) command

abbrev pub IsAmo : Command → Type 0
IsAmo command = (links : Names) × AreLinks links × ((shells : Names) × AreShells shells × (app_of command ≡ amo links shells))

-- one argument more, where there was memory for both
abbrev pub HasOneMore : {E : Type 0} → Result Command E → Arg → Result Command E → Type 0
HasOneMore before argument after = IfOk after (λ new. (old : Command) × (before ≡ Ok old) × AddsArg old argument new)

-- one command more under it, where there was memory for both
abbrev pub HasOneUnder : {E : Type 0} → Result Command E → Result Command E → Result Command E → Type 0
HasOneUnder before under after = IfOk after (λ new. (old sub : Command) × (before ≡ Ok old) × (under ≡ Ok sub) × AddsSubcommand old sub new)

-- an argument of this rule is added to whichever command was described, where there was memory for both
abbrev pub IsGivenOne : {E : Type 0} → Rule → Result Command E → Result Command E → Type 0
IsGivenOne rule before after = (app : App) → Describes app before → Describes (with_rule app rule) after
