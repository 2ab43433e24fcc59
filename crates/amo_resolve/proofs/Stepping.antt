-- What calls ask, with one call more before them.
use Rattle.std.proofs.Common.{◌≡◌, ℕ, ◌+◌, Bool, true, false, if◌then◌else◌, List, [], ◌∷◌, ◌++◌, refl, arith}
use Rattle.amo_object.specs.declared.step.Step.{Step}
use Rattle.amo_object.specs.declared.step.Step.TheVariants.{Put, Get, Ack, Crash, Recover, DownReply, Lose, LoseAck}
use Rattle.amo_object.specs.Delivery.{messages_got}
use Rattle.amo_resolve.specs.declared.plan.Note.{Note}
use Rattle.amo_resolve.specs.declared.plan.Ahead.{Ahead}
use Rattle.amo_resolve.specs.Plan.{GoesAfter, Asks, IsAhead, IsAfter, gets_here}
use Rattle.amo_resolve.proofs.Asking.{asks_get, asks_yes}

pub ahead_put : (here most spared : ℕ) (settled : Bool) (m : List ℕ) (calls : List Step) (notes : List Note) (note : Note)
    → Asks here most spared settled (λ xs. GoesAfter calls notes note (xs ++ m ∷ [])) (messages_got calls)
    → IsAhead (record { here = here; most = most; spared = spared; is_settled = settled; got = 0; is_told_yes = false; is_told_no = false }) (Put m ∷ calls) (note ∷ notes)
ahead_put here most spared settled m calls notes note asks = record { asks = asks; got = refl; yes = refl; no = refl }

pub ahead_get : (ahead : Ahead) (m : List ℕ) (calls : List Step) (notes : List Note) (note : Note) → IsAfter ahead calls notes note
    → IsAhead (record ahead { here = ahead.here + 1; most = ahead.most + 1; got = ahead.got + 1 }) (Get m ∷ calls) (note ∷ notes)
ahead_get ahead m calls notes note a = record {
  asks = asks_get m ahead.here ahead.most ahead.spared ahead.is_settled (GoesAfter calls notes note) (messages_got calls) a.asks;
  got = omega (arith, a.got);
  yes = a.yes;
  no = a.no;
}

pub ahead_yes : (calls : List Step) (notes : List Note) (note : Note)
    → IsAhead (record { here = 0; most = 0; spared = 0; is_settled = true; got = 0; is_told_yes = true; is_told_no = false }) (Ack true ∷ calls) (note ∷ notes)
ahead_yes calls notes note = record { asks = asks_yes (GoesAfter calls notes note) (messages_got calls); got = refl; yes = refl; no = refl }

pub ahead_no : (ahead : Ahead) (calls : List Step) (notes : List Note) (note : Note) → IsAfter ahead calls notes note
    → IsAhead (record ahead { got = 0; is_told_yes = false; is_told_no = true }) (Ack false ∷ calls) (note ∷ notes)
ahead_no ahead calls notes note a = record { asks = a.asks; got = refl; yes = refl; no = refl }

pub here_answered : (answer : Bool) (here : ℕ) → (if answer then 0 else here) ≡ gets_here (Ack answer) here
here_answered true here = refl
here_answered false here = refl

pub ahead_same : (ahead : Ahead) (call : Step) (calls : List Step) (notes : List Note) (note : Note)
    → ((m : List ℕ) → call ≡ Put m → ⊥) → ((m : List ℕ) → call ≡ Get m → ⊥) → ((answer : Bool) → call ≡ Ack answer → ⊥)
    → IsAfter ahead calls notes note → IsAhead ahead (call ∷ calls) (note ∷ notes)
ahead_same ahead (Put m) calls notes note put get ack a = absurd (put m refl)
ahead_same ahead (Get m) calls notes note put get ack a = absurd (get m refl)
ahead_same ahead (Ack answer) calls notes note put get ack a = absurd (ack answer refl)
ahead_same ahead (Crash side) calls notes note put get ack a = record { asks = a.asks; got = a.got; yes = a.yes; no = a.no }
ahead_same ahead (Recover side) calls notes note put get ack a = record { asks = a.asks; got = a.got; yes = a.yes; no = a.no }
ahead_same ahead (DownReply side) calls notes note put get ack a = record { asks = a.asks; got = a.got; yes = a.yes; no = a.no }
ahead_same ahead (Lose place) calls notes note put get ack a = record { asks = a.asks; got = a.got; yes = a.yes; no = a.no }
ahead_same ahead LoseAck calls notes note put get ack a = record { asks = a.asks; got = a.got; yes = a.yes; no = a.no }
