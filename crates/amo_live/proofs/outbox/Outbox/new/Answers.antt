use Rattle.std.proofs.Common.{◌≡◌, [], ◌∷◌, ◌++◌, length, ap, subst, sym, arith}
use Rattle.std.proofs.lemmas.List.{length-append}
use Rattle.amo_book.specs.Book.{Each}
use Rattle.amo_live.specs.Emitted.{RecentState, nothing_recent}
use Rattle.amo_live.proofs.Emissions.{each_joined}
use Rattle.amo_live.proofs.outbox.Outbox.new.Goals as goal

pub places-preserved : goal.places-preserved
places-preserved c =
    let so_far = c.places.invariant in let before = c.places.recent.items in let one = c.new.result ∷ [] in
    let items : c.push.new.self.items ≡ before ++ one = c.in_ok-push.ensures.items in
    let count = so_far.0 in let long = length-append before one in let many = ap length items in
    (omega (arith, count, long, many), subst (Each (λ (r : RecentState). r ≡ nothing_recent)) (sym items) (each_joined (λ (r : RecentState). r ≡ nothing_recent) before one so_far.1 (c.new.ensures, tt)))
