use Rattle.std.proofs.Common.{◌≡◌, refl, ap, arith}
use Rattle.amo_window.specs.Window.{Permits}
use Rattle.amo_host.proofs.HeldLemmas.{streams_of-vacant, AreOut-vacant}
use Rattle.amo_host.proofs.handshakes.Handshakes.new.Goals as goal

pub invariant_of-result : goal.invariant_of-result
invariant_of-result c =
    let told = c.in_ok-window.ensures in
    let done : c.loop-place._place ≡ c.args.places = omega arith in
    rw c.loop-place.invariant.each (AreOut-vacant c.in_ok-window.window c.args.limit c.loop-place._place (ap (λ (w : Permits). w.limit) told.ok.0) told.none)

pub returns-clause-ok : goal.returns-clause-ok
returns-clause-ok c =
    let done : c.loop-place._place ≡ c.args.places = omega arith in
    rw (c.loop-place.invariant.each, done) (refl, streams_of-vacant c.args.places)
