use Rattle.std.specs.Prelude.{◌≡◌, ℕ, [], get_or, map}
use Rattle.amo_lines.proofs.ids.Ids.new.Given as goal

-- nothing waits so far
abbrev pub invariant-streams : goal.invariant-streams
invariant-streams l = (at : ℕ) → get_or (map (λ q. q.items) l.queues.items) at [] ≡ []
