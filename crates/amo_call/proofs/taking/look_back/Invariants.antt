use Rattle.std.proofs.Common.{◌≡◌}
use Rattle.amo_call.specs.Kept.{kept_text}
use Rattle.amo_call.specs.Takes.{NothingGot}
use Rattle.amo_call.proofs.taking.look_back.Given as goal

-- the file has the call still, and what was read so far tells of no message
abbrev pub invariant-pages : goal.invariant-pages
invariant-pages g l = (g.C.Caller.saved l.caller ≡ kept_text l.fn.kept) × NothingGot g.C.Caller.heard l.stream l.first l.from
