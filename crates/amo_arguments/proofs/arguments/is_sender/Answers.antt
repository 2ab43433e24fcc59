use Rattle.std.proofs.Common.{◌≡◌, Some, codes, rules}
use Rattle.std.specs.Option.{option_map}
use Rattle.clap.specs.Words.{found_of}
use Rattle.amo_arguments.proofs.Matched.{first_text}
use Rattle.std.proofs.Common.{None, ap}
use Rattle.clap.specs.Words.{first_of, rows_of}
use Rattle.amo_arguments.proofs.Matched.{absent}
use Rattle.amo_arguments.proofs.Unfit.{side_apart, side_unknown}
use Rattle.amo_arguments.proofs.arguments.is_sender.Goals as goal

pub returns-in-Some-send : goal.returns-in-Some-send
returns-in-Some-send c =
    let is : option_map (λ s. s.now) c.get_str.result ≡ Some (codes "send") = search rules in
    (first_text (found_of c.args.matches.now) (codes "side") c.get_str.result _ c.get_str.ensures is, λ never. absurd (search rules))

pub returns-in-Some-receive : goal.returns-in-Some-receive
returns-in-Some-receive c =
    let is : option_map (λ s. s.now) c.get_str.result ≡ Some (codes "receive") = search rules in
    (first_text (found_of c.args.matches.now) (codes "side") c.get_str.result _ c.get_str.ensures is, λ _. search rules)

pub returns-in-Some-receive-2 : goal.returns-in-Some-receive-2
returns-in-Some-receive-2 c =
    let is : option_map (λ s. s.now) c.get_str.result ≡ Some (codes "receive") = search rules in
    side_apart (rows_of (found_of c.args.matches.now)) c.args.batch c.blamed.result (first_text (found_of c.args.matches.now) (codes "side") c.get_str.result _ c.get_str.ensures is) (search rules) c.blamed.ensures

pub returns-in-Some : goal.returns-in-Some
returns-in-Some c =
    let text : first_of (codes "side") (rows_of (found_of c.args.matches.now)) ≡ Some c.in-Some.side.now = first_text (found_of c.args.matches.now) (codes "side") c.get_str.result _ c.get_str.ensures (ap (option_map (λ s. s.now)) c.in-Some.is) in
    side_unknown (rows_of (found_of c.args.matches.now)) c.args.batch c.in-Some.side.now c.blamed-in-Some.result text (search rules) (search rules) c.blamed-in-Some.ensures

pub returns-in-None : goal.returns-in-None
returns-in-None c found has =
    let none : first_of (codes "side") (rows_of (found_of c.args.matches.now)) ≡ None = first_text (found_of c.args.matches.now) (codes "side") c.get_str.result _ c.get_str.ensures (search rules) in
    absent _ _ none has.0
