use Rattle.std.proofs.Common.{rules}
use Rattle.clap.specs.Words.{found_of}
use Rattle.amo_arguments.proofs.Matched.{first_text}
use Rattle.std.proofs.Common.{◌≡◌, None}
use Rattle.clap.specs.Words.{first_of, rows_of}
use Rattle.amo_arguments.proofs.Matched.{absent}
use Rattle.amo_arguments.proofs.arguments.text_of.Goals as goal

pub returns-in_ok-from_str-in-Some-clause-text : goal.returns-in_ok-from_str-in-Some-clause-text
returns-in_ok-from_str-in-Some-clause-text c = first_text (found_of c.args.matches.now) c.args.name.now c.get_str.result _ c.get_str.ensures (search rules)

pub returns-in-None-clause-refused : goal.returns-in-None-clause-refused
returns-in-None-clause-refused c text has =
    let none : first_of c.args.name.now (rows_of (found_of c.args.matches.now)) ≡ None = first_text (found_of c.args.matches.now) c.args.name.now c.get_str.result _ c.get_str.ensures (search rules) in
    absent _ text none has
