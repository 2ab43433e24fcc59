-- How a journal begins, in front of the end of its first line.
use Rattle.std.specs.Prelude.{◌≡◌, ℕ, ◌⊎◌, List, [], ◌∷◌, ◌++◌, codes}
use Rattle.std.specs.Fmt.{decimal}
use Rattle.amo_object.specs.declared.step.End.{End}
use Rattle.amo_object.specs.declared.step.End.TheVariants.{Sender, Receiver}
use Rattle.amo_packet.specs.Stream.{IsStream}
use Rattle.amo_journal.specs.declared.version.Version.TheVariants.{Two}
use Rattle.amo_journal.specs.Version.{heading}

-- what stands in front of the stream in the first line of an event: its number, the number of a live host's pass, and the side
abbrev pub first_front : End → List ℕ
first_front Sender = codes "0 1 s "
first_front Receiver = codes "0 1 r "

-- the text begins with this
abbrev pub Begins : List ℕ → List ℕ → Type 0
Begins text front = (more : List ℕ) × (text ≡ front ++ more)

-- one of two texts begins with the other
abbrev pub Agree : List ℕ → List ℕ → Type 0
Agree one other = Begins one other ⊎ Begins other one

-- behind the stream the first line may go on so: a sender's tells of a put, and a receiver's of a delivery or a get
abbrev pub BeginsAct : End → List ℕ → Type 0
BeginsAct Sender text = Agree text (codes "put ")
BeginsAct Receiver text = Agree text (codes "deliver ") ⊎ Agree text (codes "get ")

-- behind the side it may go on so: with nothing, a stream, or a stream, a space and an act
abbrev pub BeginsStream : End → List ℕ → Type 0
BeginsStream side text = (text ≡ []) ⊎ ((stream : ℕ) × IsStream stream × (text ≡ decimal stream))
    ⊎ ((stream : ℕ) × (more : List ℕ) × IsStream stream × (text ≡ decimal stream ++ 32 ∷ more) × BeginsAct side more)

-- the first line of an event may begin so
abbrev pub BeginsLine : End → List ℕ → Type 0
BeginsLine side text = Begins (first_front side) text ⊎ ((more : List ℕ) × (text ≡ first_front side ++ more) × BeginsStream side more)

-- the heading of version 2 begins so
abbrev pub BeginsHeading : List ℕ → Type 0
BeginsHeading text = Begins (heading Two) text

-- a journal of this side, of either version, may begin so
abbrev pub BeginsJournal : End → List ℕ → Type 0
BeginsJournal side text = BeginsLine side text ⊎ BeginsHeading text
