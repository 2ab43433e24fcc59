use Rattle.std.proofs.Common.{◌≡◌, Some, codes, rules}
use Rattle.std.specs.Option.{option_map}
use Rattle.clap.specs.Words.{found_of}
use Rattle.amo_arguments.proofs.Matched.{first_text}
use Rattle.std.proofs.Common.{None, ap}
use Rattle.clap.specs.Words.{first_of, rows_of}
use Rattle.amo_arguments.proofs.Matched.{absent, same_text}
use Rattle.amo_arguments.proofs.Unfit.{no_shell}
use Rattle.amo_arguments.proofs.arguments.shell_of.Goals as goal

pub returns-in-Some-bash : goal.returns-in-Some-bash
returns-in-Some-bash c =
    let is : option_map (λ s. s.now) c.get_str.result ≡ Some (codes "bash") = search rules in
    first_text (found_of c.args.matches.now) (codes "SHELL") c.get_str.result _ c.get_str.ensures is

pub returns-in-Some-zsh : goal.returns-in-Some-zsh
returns-in-Some-zsh c =
    let is : option_map (λ s. s.now) c.get_str.result ≡ Some (codes "zsh") = search rules in
    first_text (found_of c.args.matches.now) (codes "SHELL") c.get_str.result _ c.get_str.ensures is

pub returns-in-Some-fish : goal.returns-in-Some-fish
returns-in-Some-fish c =
    let is : option_map (λ s. s.now) c.get_str.result ≡ Some (codes "fish") = search rules in
    first_text (found_of c.args.matches.now) (codes "SHELL") c.get_str.result _ c.get_str.ensures is

pub returns-in-Some : goal.returns-in-Some
returns-in-Some c found has =
    let text : first_of (codes "SHELL") (rows_of (found_of c.args.matches.now)) ≡ Some c.in-Some._shell.now = first_text (found_of c.args.matches.now) (codes "SHELL") c.get_str.result _ c.get_str.ensures (ap (option_map (λ s. s.now)) c.in-Some.is) in
    no_shell c.in-Some._shell.now found (search rules) (search rules) (search rules) (same_text _ _ _ text has)

pub returns-in-None : goal.returns-in-None
returns-in-None c found has =
    let none : first_of (codes "SHELL") (rows_of (found_of c.args.matches.now)) ≡ None = first_text (found_of c.args.matches.now) (codes "SHELL") c.get_str.result _ c.get_str.ensures (search rules) in
    absent _ _ none has
