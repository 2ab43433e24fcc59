use Rattle.std.proofs.Common.{◌≡◌}
use Rattle.amo_call.proofs.caller.ask_until.Given as goal

-- questions leave the file as it is
abbrev pub invariant-asks : goal.invariant-asks
invariant-asks g l = g.C.Caller.saved l.caller ≡ g.C.Caller.saved l.fn.caller
