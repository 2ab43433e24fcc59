use Rattle.std.proofs.Common.{◌≡◌, Some, codes, rules}
use Rattle.std.specs.Option.{option_map}
use Rattle.clap.specs.Words.{found_of}
use Rattle.amo_arguments.proofs.Matched.{first_text}
use Rattle.std.proofs.Common.{None, ap}
use Rattle.clap.specs.Words.{first_of, rows_of}
use Rattle.amo_arguments.proofs.Matched.{absent, same_text}
use Rattle.amo_arguments.proofs.Unfit.{no_link}
use Rattle.amo_arguments.proofs.arguments.link_of.Goals as goal

pub returns-in-Some-memory : goal.returns-in-Some-memory
returns-in-Some-memory c =
    let is : option_map (λ s. s.now) c.get_str.result ≡ Some (codes "memory") = search rules in
    first_text (found_of c.args.matches.now) (codes "link") c.get_str.result _ c.get_str.ensures is

pub returns-in-Some-udp : goal.returns-in-Some-udp
returns-in-Some-udp c =
    let is : option_map (λ s. s.now) c.get_str.result ≡ Some (codes "udp") = search rules in
    first_text (found_of c.args.matches.now) (codes "link") c.get_str.result _ c.get_str.ensures is

pub returns-in-Some : goal.returns-in-Some
returns-in-Some c found has =
    let text : first_of (codes "link") (rows_of (found_of c.args.matches.now)) ≡ Some c.in-Some._link.now = first_text (found_of c.args.matches.now) (codes "link") c.get_str.result _ c.get_str.ensures (ap (option_map (λ s. s.now)) c.in-Some.is) in
    no_link c.in-Some._link.now found (search rules) (search rules) (same_text _ _ _ text has)

pub returns-in-None : goal.returns-in-None
returns-in-None c found has =
    let none : first_of (codes "link") (rows_of (found_of c.args.matches.now)) ≡ None = first_text (found_of c.args.matches.now) (codes "link") c.get_str.result _ c.get_str.ensures (search rules) in
    absent _ _ none has
