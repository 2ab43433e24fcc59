use Rattle.clap.specs.Words.{found_of}
use Rattle.amo_arguments.proofs.Matched.{no_text_found, text_found}
use Rattle.amo_arguments.proofs.arguments.value_of.Goals as goal

pub returns-clause-found : goal.returns-clause-found
returns-clause-found c = text_found (found_of c.args.matches.now) c.args.name.now c.get_str.result c.get_str.ensures

pub returns-clause-none : goal.returns-clause-none
returns-clause-none c = no_text_found (found_of c.args.matches.now) c.args.name.now c.get_str.result c.get_str.ensures
