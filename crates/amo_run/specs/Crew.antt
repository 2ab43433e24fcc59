-- What goes into the threads of a run, and what comes back.
use Rattle.std.specs.Prelude.{◌≡◌, ℕ, suc, ◌+◌, ◌-◌, ◌<◌, ◌≤◌, true, false, List, [], ◌∷◌, ◌++◌, length, map, Vec, Result, Ok, Err}
use Rattle.amo_object.specs.declared.step.End.{End}
use Rattle.amo_world.specs.declared.event.Event.{Event}
use Rattle.amo_world.specs.declared.fault.NoMemory.{NoMemory}
use Rattle.amo_book.specs.Book.{BookState, Each, IsLawful, first_pass}
use Rattle.amo_book.specs.Charge.{ChargeState, IsChargeOf}
use Rattle.amo_book.specs.Closed.{AllCharges}
use Rattle.amo_book.specs.Pass.{PassState}
use Rattle.amo_host.specs.Station.{Station, IsStation}
use Rattle.amo_journal.specs.declared.version.Version.{Version}
use Rattle.amo_journal.specs.declared.version.Version.TheVariants.{One}
use Rattle.amo_run.specs.Told.{Tells, told}
use Rattle.amo_run.specs.Engine.{IsDriven, ties}
use Rattle.amo_run.specs.Fits.{AllFit}
use Rattle.amo_run.specs.Roster.{IsWhose, is_call, pump_of}
use Rattle.amo_run.specs.Versions.{version_of}
use Rattle.amo_run.specs.declared.crew.Crew.{Crew}
use Rattle.amo_run.specs.declared.crew.Hands.{Hands}
use Rattle.amo_run.specs.declared.home.Home.{Home}
use Rattle.amo_run.specs.declared.part.Part.{Part}
use Rattle.amo_run.specs.declared.roster.Roster.{Roster}
use Rattle.amo_run.specs.declared.work.Done.{Done}
use Rattle.amo_run.specs.declared.work.Pumped.{Pumped}
use Rattle.amo_run.specs.declared.work.ClientThread.{ClientThread}
use Rattle.amo_run.specs.declared.work.PumpJob.{PumpJob}
use Rattle.amo_run.specs.declared.work.PumpThread.{PumpThread}

-- the events by which the pass's own have grown, each of a side of the book, with a line in this version of journals, and one that may be made; or a list
-- that was given up
abbrev pub Made : {A : Type 0} → Version → List (End × ℕ) → (Event → Type 0) → PassState → PassState → Result (Vec (ℕ × Event) A) NoMemory → Type 0
Made version sides may_be v w (Ok made) = Tells v w made.items × AllFit version sides may_be made.items
Made version sides may_be v w (Err fault) = (lost : List (ℕ × Event)) × Tells v w lost

-- the second list is the first with these events behind it
abbrev pub Adds : {A : Type 0} → Result (Vec (ℕ × Event) A) NoMemory → List (ℕ × Event) → List (ℕ × Event) → Type 0
Adds (Ok made) es es' = es' ≡ es ++ made.items
Adds (Err fault) es es' = ⊥

-- a client's event
abbrev pub IsCall : Event → Type 0
IsCall e = is_call e.act ≡ true

-- a client's thread: the pass is back, with these calls in its history, for which the first version of journals has lines, too
abbrev pub Did : BookState → PassState → Done → Type 0
Did book v d = Made One book.sides IsCall v d.pass d.made

-- A pump's thread: so is its pass, with events at the sides of its charges, for which the pump's version has lines. Its charges are those that it was given.
abbrev pub Returned : {W : Type 0} → BookState → PassState → Station W → Pumped → Type 0
Returned book v s d = Made (version_of s) book.sides (IsDriven (ties s.charges)) v d.pass d.made × (ties d.charges.items ≡ ties s.charges)

-- P holds of each element with its number, counted from k
abbrev pub EachAt : {A : Type 0} → (ℕ → A → Type 0) → ℕ → List A → Type 0
EachAt P k [] = Unit {0}
EachAt P k (x ∷ xs) = P k x × EachAt P (suc k) xs

-- the pass of a number before its first call
abbrev pub IsNew : BookState → ℕ → PassState → Type 0
IsNew book p c = c ≡ first_pass book.id p

-- a pump whose charges are this book's, and whose events have lines in this version of journals
abbrev pub IsOurs : {W : Type 0} → Version → BookState → Station W → Type 0
IsOurs version book s = Each (IsChargeOf book.id book.sides) s.charges × IsStation s × (version_of s ≡ version)

-- the pump of this number in its book: it has the charges of the sides that are its own, where each host has so many pumps
abbrev pub IsDriver : {W : Type 0} → Part → ℕ → ℕ → Station W → Type 0
IsDriver part pumps n s = Each (λ c. n ≡ pump_of part pumps c.side c.stream) s.charges

-- the thread was promised to give that pass back, which is a client's
abbrev pub IsClient : Roster → BookState → ℕ → ClientThread → Type 0
IsClient r book p t = (t.thread.promise.book.value ≡ book) × (t.thread.promise.pass.value ≡ first_pass book.id p) × (r.first_client ≤ p) × (p < r.first_pump)

-- the same of a pump's, whose events have lines in this version
abbrev pub IsPump : Roster → Version → BookState → ℕ → PumpThread → Type 0
IsPump r version book p t = (t.thread.promise.book.value ≡ book) × (t.thread.promise.pass.value ≡ first_pass book.id p)
    × (version_of t.thread.promise.pump.value ≡ version) × (r.first_pump ≤ p) × IsDriver r.part r.pumps (p - r.first_pump) t.thread.promise.pump.value

-- the charges of these pumps, pump by pump
abbrev pub dealt : {W : Type 0} → List (Station W) → List ChargeState
dealt [] = []
dealt (s ∷ ss) = s.charges ++ dealt ss

-- the charges that these threads are to give back
abbrev pub lent : List PumpThread → List ChargeState
lent [] = []
lent (t ∷ ts) = t.thread.promise.pump.value.charges ++ lent ts

-- the pass that is back is the one of a number
pub record IsHome (of : BookState) (p : ℕ) (c : PassState) : Type 0 where
  pub book : c.book ≡ of.id
  pub number : c.number ≡ p

-- the events of these passes, each with its position, pass by pass
abbrev pub joined : List PassState → List (ℕ × Event)
joined [] = []
joined (c ∷ cs) = told c ++ joined cs

-- The passes that are back are the first of the book. The list has all their events, each with a line in this version of journals, and with the pass of who
-- may make it, unless memory was refused.
pub record SoFar (r : Roster) (version : Version) (of : BookState) (h : Home) : Type 0 where
  pub passes : EachAt (IsHome of) 0 h.passes.items
  pub events : h.is_short ≡ false → h.events.items ≡ joined h.passes.items
  pub fit : h.is_short ≡ false → AllFit version of.sides (IsWhose r) h.events.items

-- All passes are back, and so are these charges, unless memory was refused.
pub record IsBack (r : Roster) (version : Version) (of : BookState) (charges : List ChargeState) (h : Home) : Type 0 where
  pub sofar : SoFar r version of h
  pub count : length h.passes.items ≡ of.passes
  pub charges_are : h.is_short ≡ false → ties h.charges.items ≡ ties charges

-- No pass made a call yet, and there is one for each pump and each script, as the roster says. The pumps are this book's, each has the charges that are its
-- own, and their events have lines in this version of journals.
pub record AreHandsOf {S C : Type 0} (r : Roster) (version : Version) (book : BookState) (hands : Hands S C) : Type 0 where
  pub passes : EachAt (IsNew book) 0 hands.passes.items × (length hands.passes.items ≡ book.passes)
  pub clients : r.first_client + length hands.scripts.items ≡ r.first_pump
  pub pumps : r.first_pump + length hands.jobs.items ≡ length hands.passes.items
  pub ours : Each (λ (j : PumpJob C). IsOurs version book j.task.pump) hands.jobs.items
  pub drivers : EachAt (λ n (j : PumpJob C). IsDriver r.part r.pumps n j.task.pump) 0 hands.jobs.items

-- The hands are the book's, and the pumps have all its charges.
pub record IsReady {S C : Type 0} (version : Version) (crew : Crew S C) : Type 0 where
  pub hands : AreHandsOf crew.roster version crew.book crew.hands
  pub all : AllCharges (dealt (map (λ (j : PumpJob C). j.task.pump) crew.hands.jobs.items)) (length crew.book.sides)
  pub lawful : IsLawful crew.book.sides crew.book.passes
