use Rattle.std.proofs.Common.{ℕ, List, Bor, map, remove, ◌∙◌, ap}
use Rattle.amo_resolve.proofs.Lists.{map_remove}
use Rattle.amo_resolve.proofs.waiting.Waiting.remove.Goals as goal

pub returns : goal.returns
returns c =
    ap (λ (ms : List (Bor (List ℕ))). map (λ (m : Bor (List ℕ)). m.now) ms) c.in-Some.ensures.items
    ∙ map_remove (λ (m : Bor (List ℕ)). m.now) c.self.inside.messages.items c.args.place
    ∙ ap (λ (ms : List (List ℕ)). remove ms c.args.place) c.self.view_is
