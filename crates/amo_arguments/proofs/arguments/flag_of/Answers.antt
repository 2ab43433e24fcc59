use Rattle.std.proofs.Common.{◌∙◌, ap, Some, sym}
use Rattle.std.specs.Str.Parse.{ParsesBool}
use Rattle.clap.specs.Words.{found_of}
use Rattle.clap.proofs.WalkLemmas.{one_text-rows}
use Rattle.amo_arguments.proofs.Matched.{flag_text, not_read, read_one}
use Rattle.amo_arguments.proofs.arguments.flag_of.Goals as goal

pub returns-in-Some : goal.returns-in-Some
returns-in-Some c =
    let read = read_one (λ bs r. ParsesBool bs r) _ c.get_one.result c.in-Some.flag c.get_one.ensures.none c.get_one.ensures.value c.in-Some.is in
    sym (one_text-rows (found_of c.args.matches.now) c.args.name.now) ∙ (read.1 ∙ ap Some (flag_text c.in-Some.flag read.0 read.2))

pub returns-in-None : goal.returns-in-None
returns-in-None c flag has =
    not_read (λ bs r. ParsesBool bs r) _ c.get_one.result flag (λ text why unread. unread) c.get_one.ensures.value c.in-None.is (one_text-rows (found_of c.args.matches.now) c.args.name.now ∙ has)
