-- A channel that loses, repeats and reorders: what a send and a receive do to the datagrams of one direction.
use Rattle.std.specs.Prelude.{◌≡◌, Bool, ℕ, zero, suc, ◌+◌, ◌-◌, ◌%◌, min, List, [], ◌∷◌, ◌++◌, length, take, drop, replicate, remove, slice_get, Option, Some, unwrap_or}
use Rattle.amo_object.specs.declared.step.End.{End}
use Rattle.amo_object.specs.declared.step.End.TheVariants.{Sender, Receiver}
use Rattle.amo_object.specs.End.{other}
use Rattle.amo_net.specs.declared.direction.TheConstants.{MAX_QUEUED}
use Rattle.amo_net.specs.declared.link.TheConstants.{MAX_DATAGRAM}

-- the words to come, and the datagrams on their way from each end, the first one sent at the front
pub record Channel (W : Type 0) : Type 0 where
  pub words : W
  pub from_sender : List (List ℕ)
  pub from_receiver : List (List ℕ)

-- the datagrams on their way from an end
abbrev pub queued : {W : Type 0} → End → Channel W → List (List ℕ)
queued Sender c = c.from_sender
queued Receiver c = c.from_receiver

-- the word at place 0, or this one where there is none
abbrev pub next_word : {W : Type 0} → (W → ℕ → Option ℕ) → W → ℕ → ℕ
next_word to_come words default = unwrap_or (to_come words 0) default

-- the word at place 0 is gone
abbrev pub Draws : {W : Type 0} → (W → ℕ → Option ℕ) → W → W → Type 0
Draws to_come old new = (k : ℕ) → to_come new k ≡ to_come old (k + 1)

-- how many copies each remainder of a word by 8 asks for: one loses the datagram, one repeats it
abbrev pub copies_of : ℕ → ℕ
copies_of zero = 0
copies_of (suc zero) = 2
copies_of (suc (suc rest)) = 1

-- how many copies a word asks for
abbrev pub copies : ℕ → ℕ
copies word = copies_of (word % 8)

-- how many of them find room
abbrev pub queued_copies : ℕ → List (List ℕ) → ℕ
queued_copies word queue = min (copies word) (MAX_QUEUED - length queue)

-- the bytes, cut to a datagram's length, go last, in as many copies
abbrev pub sent : ℕ → List ℕ → List (List ℕ) → List (List ℕ)
sent word bytes queue = queue ++ replicate (queued_copies word queue) (take MAX_DATAGRAM bytes)

-- the datagram at the word's place is taken out and stands at the front of the buffer; the rest of the buffer stays
pub record Takes (word : ℕ) (old new : List (List ℕ)) (before after : List ℕ) (count : ℕ) : Type 0 where
  pub datagram : List ℕ
  pub there : slice_get old (word % length old) ≡ Some datagram
  pub long : count ≡ length datagram
  pub front : after ≡ datagram ++ drop count before
  pub rest : new ≡ remove old (word % length old)

-- a datagram of these bytes is sent from an end: a word is drawn, and that direction has as many copies more as it says and as have room
pub record Sends {W : Type 0} (to_come : W → ℕ → Option ℕ) (from : End) (bytes : List ℕ) (c d : Channel W) : Type 0 where
  pub word : Draws to_come c.words d.words
  pub here : queued from d ≡ sent (next_word to_come c.words 2) bytes (queued from c)
  pub there : queued (other from) d ≡ queued (other from) c

-- these datagrams are sent from an end, one after another
abbrev pub SendsAll : {W : Type 0} → (W → ℕ → Option ℕ) → End → List (List ℕ) → Channel W → Channel W → Type 0
SendsAll to_come from [] c e = e ≡ c
SendsAll {W} to_come from (bytes ∷ rest) c e = (d : Channel W) × Sends to_come from bytes c d × SendsAll to_come from rest d e

-- an end of a channel: which one it is, whether it has datagrams to hand out that it took out, and those that it keeps back, the first to go at the front
pub record EndState : Type 0 where
  pub end : End
  pub has_more : Bool
  pub kept_back : List (List ℕ)
