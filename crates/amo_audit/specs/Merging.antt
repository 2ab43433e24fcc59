-- Merging events into a site while they are read.
use Rattle.std.specs.Prelude.{◌≡◌, ◌≤◌, ℕ, ◌+◌, Bool, true, false, Option, Some, List, ◌∷◌, reverse, IfSome}
use Rattle.amo_world.specs.declared.event.Event.{Event}
use Rattle.amo_world.specs.History.{DeliversEmitted}
use Rattle.amo_world.specs.Stream.{IsStream}
use Rattle.amo_audit.specs.declared.coming.Coming.{Coming}
use Rattle.amo_audit.specs.declared.coming.Source.{Source}
use Rattle.amo_audit.specs.declared.merging.Step.{Step}
use Rattle.amo_audit.specs.declared.merging.Step.TheVariants as step
use Rattle.amo_audit.specs.declared.merging.Ending.{Ending}
use Rattle.amo_audit.specs.declared.merging.Ending.TheVariants as ending
use Rattle.amo_audit.specs.Coming.{AreComing, AreOnStreams, Has, IsWhole, NextMayGo, left_of, size_of}
use Rattle.amo_audit.specs.Judgement.{AreApart, CannotMerge}
use Rattle.amo_audit.specs.Merge.{IsPreferred}
use Rattle.amo_audit.specs.declared.reach.Reach.{Reach}
use Rattle.amo_audit.specs.declared.reach.Reach.TheVariants as how_far
use Rattle.amo_audit.specs.Reach.{AreBeginnings, Reaches, StaysStuck}
use Rattle.amo_audit.specs.Stops.{StopAt, both_at}

-- this holds of the events of both
abbrev pub OfSources : Source → Source → (List Event → List Event → Type 0) → Type 0
OfSources first second Holds = (x : List Event) × (y : List Event) × IsWhole first x × IsWhole second y × Holds x y

-- of lists that share no side, no interleaving is honest, whatever follows
abbrev pub NeverMerge : List Event → List Event → Type 0
NeverMerge x y = CannotMerge x y × StaysStuck x y

-- the same of lists of which both stop, at these lines, counted from 1
abbrev pub StopForGood : ℕ → ℕ → List Event → List Event → Type 0
StopForGood first second x y = NeverMerge x y × StopAt (both_at first second) x y

-- how a merge ends where neither next event may go, behind so many of each, if there is a next one of each
abbrev pub stopped_at : {S : Type 0} → S → Bool → Bool → ℕ → ℕ → Ending S
stopped_at site true true first second = ending.Stuck (first + 1) (second + 1)
stopped_at site true false first second = ending.Early site (how_far.First (first + 1))
stopped_at site false _ first second = ending.Early site (how_far.Second (second + 1))

-- given what it is to have taken events, the newest first
module _ {S : Type 0} (HasTaken : S → List Event → Type 0) where
  -- the event was the next one, and was taken; these come behind it
  pub record IsTaken (now : S) (past : List Event) (next : Option Event) (rest : Source) (behind : Coming) (event : Event) : Type 0 where
    pub was_next : next ≡ Some event
    pub may_go : DeliversEmitted past event
    pub taken : HasTaken now (event ∷ past)
    pub coming : (events : List Event) → Has rest events → AreComing events behind.next behind.rest
    pub stream : IfSome behind.next (λ e. IsStream e.stream)
    pub streams : AreOnStreams behind.rest
    pub fewer : left_of behind.next behind.rest ≤ size_of rest

  -- what became of the next event, which was offered behind a history; whether a site may be given up is handed in
  abbrev pub Steps : Type 0 → S → List Event → Option Event → Source → Step → Type 0
  Steps MayEnd now past next rest (step.Taken behind) = (event : Event) × IsTaken now past next rest behind event
  Steps MayEnd now past next rest (step.Waits same) = (¬ (NextMayGo past next)) × HasTaken now past × (same.next ≡ next) × (same.rest ≡ rest)
  Steps MayEnd now past next rest step.GivenUp = MayEnd

  -- of lists that share no side, the site has taken the preferred interleaving
  abbrev pub Merges : S → List Event → List Event → Type 0
  Merges site x y = AreApart x y × ((merged : List Event) × IsPreferred x y merged × HasTaken site (reverse merged))

  -- of lists that do not merge, the site has taken the preferred interleaving of the greatest beginnings that do, and they go so far
  pub record Begins (site : S) (reach : Reach) (x y : List Event) : Type 0 where
    pub cannot : CannotMerge x y
    pub first : List Event
    pub second : List Event
    pub merged : List Event
    pub beginnings : AreBeginnings x y first second merged
    pub reaches : Reaches reach x y first second
    pub taken : HasTaken site (reverse merged)

  -- how the merge of two sources ended
  abbrev pub Ends : Type 0 → Source → Source → Ending S → Type 0
  Ends MayEnd first second (ending.Whole site) = OfSources first second (Merges site)
  Ends MayEnd first second (ending.Early site reach) = OfSources first second (Begins site reach)
  Ends MayEnd first second (ending.Stuck at other) = OfSources first second (StopForGood at other)
  Ends MayEnd first second ending.GivenUp = MayEnd
