-- What is told of a run, step by step.
use Rattle.std.specs.Prelude.{◌≡◌, ◌+◌, ◌-◌, ◌<◌, ◌≤◌, ◌⊎◌, Bool, true, false, List, ℕ, [], ◌∷◌, ◌++◌, length, take, drop, get_or}
use Rattle.amo_object.specs.declared.status.Status.{Status}
use Rattle.amo_object.specs.declared.status.Status.TheVariants.{Yes, No, Open}
use Rattle.amo_object.specs.declared.step.Step.{Step}
use Rattle.amo_object.specs.declared.step.Step.TheVariants.{Put, Get, Lose}
use Rattle.amo_object.specs.Queue.{QueueState, Allows, after}
use Rattle.amo_resolve.specs.declared.draft.Draft.{Draft}
use Rattle.amo_resolve.specs.declared.replica.Replica.{Replica}
use Rattle.amo_resolve.specs.Plan.{last, Leaves}
use Rattle.amo_resolve.specs.Weaving.{TellsOn, LeadsTo}

-- Yes is known of an empty queue alone, and Open is the status while the last message put waits
abbrev pub Agrees : List (List ℕ) → Status → Type 0
Agrees messages Yes = messages ≡ []
Agrees messages Open = messages ≡ [] → ⊥
Agrees messages No = Unit {0}

abbrev pub IsSound : QueueState → Type 0
IsSound q = Agrees q.messages q.status

-- a run was told on by one step
pub record IsPushed (draft : Draft) (queue : QueueState) (step : Step) (longer : Draft) (next : QueueState) : Type 0 where
  pub allowed : Allows queue step
  pub reached : next ≡ after queue step
  pub told : TellsOn draft step longer

-- a run was told on by losses
abbrev pub OnlyLost : Draft → QueueState → Draft → QueueState → Type 0
OnlyLost draft queue longer next = (calls : List Step) → LeadsTo draft calls queue → LeadsTo longer calls next

-- what losses make of a queue where a side is down
pub record Settles (q lost : QueueState) (wanted : List (List ℕ)) (told_no : Bool) : Type 0 where
  pub messages : lost.messages ≡ wanted
  pub sender : lost.sender_down ≡ q.sender_down
  pub receiver : lost.receiver_down ≡ q.receiver_down
  pub denied : told_no ≡ true → lost.status ≡ No
  pub kept : told_no ≡ false → last wanted ≡ last q.messages → lost.status ≡ q.status
  pub sound : IsSound q → IsSound lost

-- those messages got from one place on up to another
abbrev pub part : List (List ℕ) → ℕ → ℕ → List (List ℕ)
part got first end = take (end - first) (drop first got)

-- the messages that are got next and wait before all others
abbrev pub known_of : List (List ℕ) → Replica → List (List ℕ)
known_of got replica = part got replica.first replica.known

-- the queue that a replica is, where these messages are got, and with others behind those that it has
abbrev pub state_before : List (List ℕ) → Replica → List (List ℕ) → QueueState
state_before got replica behind = record {
  messages = known_of got replica ++ (replica.others ++ behind);
  status = replica.status;
  sender_down = replica.sender_down;
  receiver_down = replica.receiver_down;
}

-- with none behind
abbrev pub state_of : List (List ℕ) → Replica → QueueState
state_of got replica = record {
  messages = known_of got replica ++ replica.others;
  status = replica.status;
  sender_down = replica.sender_down;
  receiver_down = replica.receiver_down;
}

-- what a call makes of both parts of what waits
abbrev pub Moves : Step → List (List ℕ) → List (List ℕ) → List (List ℕ) → List (List ℕ) → Type 0
Moves (Put m) known others known_after others_after = (known_after ≡ known) × (others_after ≡ others ++ m ∷ [])
Moves (Get m) known others known_after others_after = ((known ≡ []) × (known_after ≡ [])) ⊎ ((known ≡ m ∷ known_after) × (others_after ≡ others))
Moves call known others known_after others_after = (known_after ≡ known) × (others_after ≡ others)

-- the last message that was not looked at yet is the last one that is wanted, and stays, or else it is lost
abbrev pub Looked : List (List ℕ) → ℕ → ℕ → ℕ → ℕ → Draft → QueueState → Draft → QueueState → Type 0
Looked got first left next place draft queue longer later =
    ((left ≡ next + 1) × (first ≤ next) × (get_or queue.messages place [] ≡ get_or got next []) × (longer ≡ draft) × (later ≡ queue))
    ⊎ ((next ≡ left) × (first < left → get_or queue.messages place [] ≡ get_or got (left - 1) [] → ⊥) × IsPushed draft queue (Lose place) longer later)

-- no fewer messages than these let losses leave what is wanted, with the others behind them
abbrev pub IsNeeded : Bool → List (List ℕ) → List (List ℕ) → List (List ℕ) → Type 0
IsNeeded mode wanted known others = (fewer : List (List ℕ)) → Leaves mode wanted (fewer ++ others) → length known ≤ length fewer
