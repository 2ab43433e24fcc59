use Rattle.amo_arguments.proofs.Addresses.{no_colon, no_host, no_port}
use Rattle.amo_arguments.proofs.values.lack_of.Goals as goal

pub returns-in_default : goal.returns-in_default
returns-in_default c = no_colon c.args.least c.args.text.now c.in_default.ensures.none

pub returns-in_default-read_number : goal.returns-in_default-read_number
returns-in_default-read_number c =
    let found = c.in-Some.ensures.found in
    no_port c.args.least c.args.text.now found.0 c.in-Some.port.now found.1 c.in-Some.ensures.last c.in_default-read_number.ensures.none

pub returns-then-text-port : goal.returns-then-text-port
returns-then-text-port c =
    let found = c.in-Some.ensures.found in
    no_host c.args.least c.args.text.now found.0 c.in-Some.port.now found.1 c.in-Some.ensures.last c.if-text-port.true
