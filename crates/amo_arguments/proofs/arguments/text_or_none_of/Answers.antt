use Rattle.std.proofs.Common.{rules}
use Rattle.clap.specs.Words.{found_of}
use Rattle.amo_arguments.proofs.Matched.{first_text}
use Rattle.amo_arguments.proofs.arguments.text_or_none_of.Goals as goal

pub returns-in_ok-from_str-in-Some-clause-text : goal.returns-in_ok-from_str-in-Some-clause-text
returns-in_ok-from_str-in-Some-clause-text c = first_text (found_of c.args.matches.now) c.args.name.now c.get_str.result _ c.get_str.ensures (search rules)

pub returns-in-None-clause-text : goal.returns-in-None-clause-text
returns-in-None-clause-text c = first_text (found_of c.args.matches.now) c.args.name.now c.get_str.result _ c.get_str.ensures (search rules)
