-- Resolutions of the queue in doubt: each message in doubt is kept or lost, and a status in doubt stays or is No.
use Rattle.std.specs.Prelude.{◌≡◌, ℕ, Bool, true, false, ◌||◌, ◌⊎◌, List, [], ◌∷◌, if◌then◌else◌}
use Rattle.amo_object.specs.declared.status.Status.{Status}
use Rattle.amo_object.specs.declared.status.Status.TheVariants.{Yes, No, Open}
use Rattle.amo_object.specs.declared.step.Step.{Step}
use Rattle.amo_object.specs.Queue as queue
use Rattle.amo_object.specs.Run.{IsRunFrom, after_all, without_losses}
use Rattle.amo_world.specs.Doubt.{Entry, DoubtState}

-- a message, its mark, and whether it is kept
pub record Fate : Type 0 where
  pub entry : Entry
  pub kept : Bool

abbrev pub entries_of : List Fate → List Entry
entries_of [] = []
entries_of (f ∷ fs) = f.entry ∷ entries_of fs

-- the messages that are kept
abbrev pub messages_kept : List Fate → List (List ℕ)
messages_kept [] = []
messages_kept (f ∷ fs) = if f.kept then f.entry.message ∷ messages_kept fs else messages_kept fs

-- each message that is in no doubt is kept
abbrev pub KeepsUndoubted : List Fate → Type 0
KeepsUndoubted [] = Unit {0}
KeepsUndoubted (f ∷ fs) = (f.kept || f.entry.doubted ≡ true) × KeepsUndoubted fs

-- the last message is kept, or there is none
abbrev pub keeps_last : List Fate → Bool
keeps_last [] = true
keeps_last (f ∷ []) = f.kept
keeps_last (f ∷ g ∷ fs) = keeps_last (g ∷ fs)

-- a status, or No where it is in doubt
abbrev pub IsKnown : Status → Bool → Status → Type 0
IsKnown status doubted known = (known ≡ status) ⊎ ((doubted ≡ true) × (known ≡ No))

-- No, where the status is open and the last message is not kept; elsewhere the status, or No too where it is in doubt
abbrev pub ResolvesStatus : Status → Bool → Bool → Status → Type 0
ResolvesStatus Open false doubted known = known ≡ No
ResolvesStatus Open true doubted known = IsKnown Open doubted known
ResolvesStatus Yes last doubted known = IsKnown Yes doubted known
ResolvesStatus No last doubted known = IsKnown No doubted known

-- a queue that a queue in doubt may stand for
pub record Resolves (r : queue.QueueState) (s : DoubtState) : Type 0 where
  pub fates : List Fate
  pub of : entries_of fates ≡ s.entries
  pub undoubted : KeepsUndoubted fates
  pub messages : r.messages ≡ messages_kept fates
  pub status : ResolvesStatus s.status (keeps_last fates) s.status_doubted r.status
  pub sender_down : r.sender_down ≡ s.sender_down
  pub receiver_down : r.receiver_down ≡ s.receiver_down

-- a run of the queue between two states, with just these steps besides its losses
pub record Runs (r : queue.QueueState) (steps : List Step) (t : queue.QueueState) : Type 0 where
  pub run : List Step
  pub allowed : IsRunFrom r run
  pub reached : after_all r run ≡ t
  pub seen : without_losses run ≡ steps

-- these steps lead from one state of the queue to the other, each allowed where it stands, and no loss besides
pub record Leads (r : queue.QueueState) (steps : List Step) (t : queue.QueueState) : Type 0 where
  pub allowed : IsRunFrom r steps
  pub reached : after_all r steps ≡ t
