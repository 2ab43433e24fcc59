-- Backward simulation, of statuses: which status may stand for one in doubt before a change, and which after it.
use Rattle.std.proofs.Common.{◌≡◌, ℕ, Bool, true, false, List, [], ◌∷◌, ◌++◌, refl, sym, ◌∙◌, subst, ◌⊎◌, inl, inr}
use Rattle.amo_object.specs.declared.status.Status.{Status}
use Rattle.amo_object.specs.declared.status.Status.TheVariants.{Yes, No, Open}
use Rattle.amo_object.specs.Queue as queue
use Rattle.amo_world.specs.Doubt.{Entry, entry, settled_before}
use Rattle.amo_world.specs.Resolution.{Fate, entries_of, messages_kept, keeps_last, IsKnown, ResolvesStatus}
use Rattle.amo_world.proofs.Fates.{fate, keeps_last-append, keeps_last-none}

-- what stands for a status in no doubt is that status
pub same_sure : (status known : Status) → IsKnown status false known → known ≡ status
same_sure status known (inl same) = same
same_sure status known (inr lost) = let marked = lost.0 in absurd cc

-- where the last message is kept, each status stands for itself
pub stands_itself : (status : Status) (doubted : Bool) → ResolvesStatus status true doubted status
stands_itself Open doubted = inl refl
stands_itself Yes doubted = inl refl
stands_itself No doubted = inl refl

-- No where nothing is known of the last message and it is not kept, and else the status itself
abbrev pub some_known : Status → Bool → Status
some_known Open false = No
some_known status last = status

-- it stands for the status
pub stands_some : (status : Status) (last doubted : Bool) → ResolvesStatus status last doubted (some_known status last)
stands_some Open false doubted = refl
stands_some Open true doubted = inl refl
stands_some Yes last doubted = inl refl
stands_some No last doubted = inl refl

-- what stands for a status in no doubt that answers is that status
pub known_answer : (status : Status) (last doubted : Bool) (known : Status) (answer : Bool) → status ≡ queue.status_of answer
    → doubted ≡ false → ResolvesStatus status last doubted known → known ≡ queue.status_of answer
known_answer Open last doubted known true same_status sure resolved = absurd cc
known_answer Open last doubted known false same_status sure resolved = absurd cc
known_answer Yes last doubted known answer same_status sure (inl same) = same ∙ same_status
known_answer Yes last doubted known answer same_status sure (inr lost) = let marked = lost.0 in absurd cc
known_answer No last doubted known answer same_status sure (inl same) = same ∙ same_status
known_answer No last doubted known answer same_status sure (inr lost) = let marked = lost.0 in absurd cc

-- what stands for a status in no doubt stands for it in doubt or not
pub stands_sure : (status : Status) (last doubted : Bool) (known : Status) → ResolvesStatus status last false known
    → ResolvesStatus status last doubted known
stands_sure Open false doubted known resolved = resolved
stands_sure Open true doubted known (inl same) = inl same
stands_sure Open true doubted known (inr lost) = let marked = lost.0 in absurd cc
stands_sure Yes last doubted known (inl same) = inl same
stands_sure Yes last doubted known (inr lost) = let marked = lost.0 in absurd cc
stands_sure No last doubted known (inl same) = inl same
stands_sure No last doubted known (inr lost) = let marked = lost.0 in absurd cc

-- what stands for No stands for each status in doubt
pub stands_settled : (status : Status) (last doubted : Bool) (known : Status) → doubted ≡ true → IsKnown No doubted known
    → ResolvesStatus status last doubted known
stands_settled Open false doubted known marked (inl same) = same
stands_settled Open false doubted known marked (inr lost) = lost.1
stands_settled Open true doubted known marked (inl same) = inr (marked, same)
stands_settled Open true doubted known marked (inr lost) = inr lost
stands_settled Yes last doubted known marked (inl same) = inr (marked, same)
stands_settled Yes last doubted known marked (inr lost) = inr lost
stands_settled No last doubted known marked resolved = resolved

-- what stands for a status in doubt stands for it in any case, or it is No and the status stands for itself
pub stands_or_lost : (status : Status) (last doubted : Bool) (known : Status) → ResolvesStatus status last true known
    → ResolvesStatus status last doubted known ⊎ ((known ≡ No) × ResolvesStatus status last doubted status)
stands_or_lost Open false doubted known resolved = inl resolved
stands_or_lost Open true doubted known (inl same) = inl (inl same)
stands_or_lost Open true doubted known (inr lost) = inr (lost.1, inl refl)
stands_or_lost Yes last doubted known (inl same) = inl (inl same)
stands_or_lost Yes last doubted known (inr lost) = inr (lost.1, inl refl)
stands_or_lost No last doubted known (inl same) = inl (inl same)
stands_or_lost No last doubted known (inr lost) = inr (lost.1, inl refl)

-- the status once a message has left before these: it is settled if the last one left
abbrev pub left_status : List (List ℕ) → Status → Status → Status
left_status [] status known = queue.settled status known
left_status (m ∷ later) status known = status

-- what stands for a status while the last message is not kept is not settled further
pub settled-known : (status : Status) (doubted : Bool) (known other : Status) → ResolvesStatus status false doubted known
    → queue.settled known other ≡ known
settled-known status doubted Yes other resolved = refl
settled-known status doubted No other resolved = refl
settled-known Open doubted Open other resolved = absurd cc
settled-known Yes doubted Open other (inl same) = absurd cc
settled-known Yes doubted Open other (inr lost) = let e = lost.1 in absurd cc
settled-known No doubted Open other (inl same) = absurd cc
settled-known No doubted Open other (inr lost) = let e = lost.1 in absurd cc

-- so it stays when a message leaves before others, whether some of these are kept or none is
pub left_status-kept : (f : Fate) (fs : List Fate) (status : Status) (doubted : Bool) (known other : Status)
    → ResolvesStatus status (keeps_last (f ∷ fs)) doubted known
    → left_status (messages_kept (f ∷ fs)) known other ≡ known
left_status-kept f fs status doubted known other resolved = by (messages_kept (f ∷ fs)) refl
  where
    by : (ms : List (List ℕ)) → messages_kept (f ∷ fs) ≡ ms → left_status ms known other ≡ known
    by [] none =
        settled-known status doubted known other
        (subst (λ (last : Bool). ResolvesStatus status last doubted known) (keeps_last-none f fs none) resolved)
    by (m ∷ ms) some = refl

-- what stands for the status once a message has left before others stands for it with the message not kept
pub stands_left : (first : List Fate) (e : Entry) (rest : List Fate) (status : Status) (doubted : Bool) (known : Status)
    → ResolvesStatus (settled_before (entries_of rest) status No) (keeps_last (first ++ rest)) doubted known
    → ResolvesStatus status (keeps_last (first ++ fate e false ∷ rest)) doubted known
stands_left first e [] status doubted known resolved = rw (keeps_last-append first (fate e false) []) (by status resolved)
  where
    by : (status : Status) → ResolvesStatus (queue.settled status No) (keeps_last (first ++ [])) doubted known
        → ResolvesStatus status false doubted known
    by Open (inl same) = same
    by Open (inr lost) = lost.1
    by Yes stands = stands
    by No stands = stands
stands_left first e (f ∷ rest) status doubted known resolved =
    rw (keeps_last-append first (fate e false) (f ∷ rest))
    (subst (λ (last : Bool). ResolvesStatus status last doubted known) (keeps_last-append first f rest) resolved)

-- the status before the loss of a message that stands before these
abbrev pub before_loss : List Fate → Status → Status → Status
before_loss [] Open known = Open
before_loss _ status known = known

-- what it gives stands for the status
pub stands_before_loss : (rest : List Fate) (e : Entry) (status : Status) (doubted : Bool) (known : Status)
    → ResolvesStatus status (keeps_last (fate (entry true e.message) false ∷ rest)) doubted known
    → ResolvesStatus status (keeps_last (fate e true ∷ rest)) doubted (before_loss rest status known)
stands_before_loss [] e Open doubted known resolved = inl refl
stands_before_loss [] e Yes doubted known resolved = resolved
stands_before_loss [] e No doubted known resolved = resolved
stands_before_loss (f ∷ rest) e status doubted known resolved = resolved

-- and the loss leaves what stands for it after
pub left_status-before_loss : (rest : List Fate) (e : Entry) (status : Status) (doubted : Bool) (known : Status)
    → ResolvesStatus status (keeps_last (fate (entry true e.message) false ∷ rest)) doubted known
    → left_status (messages_kept rest) (before_loss rest status known) No ≡ known
left_status-before_loss [] e Open doubted known resolved = sym resolved
left_status-before_loss [] e Yes doubted known resolved = settled-known Yes doubted known No resolved
left_status-before_loss [] e No doubted known resolved = settled-known No doubted known No resolved
left_status-before_loss (f ∷ rest) e status doubted known resolved = left_status-kept f rest status doubted known No resolved

-- the status before a message was got that stood before these
abbrev pub before_get : List Fate → Status → Status → Status
before_get [] Open No = No
before_get [] Open _ = Open
before_get _ status known = known

-- what it gives stands for the status
pub stands_before_get : (fates : List Fate) (e : Entry) (status : Status) (doubted : Bool) (known : Status)
    → ResolvesStatus (settled_before (entries_of fates) status Yes) (keeps_last fates) doubted known
    → ResolvesStatus status (keeps_last (fate e true ∷ fates)) doubted (before_get fates status known)
stands_before_get [] e Open doubted No (inl same) = absurd cc
stands_before_get [] e Open doubted No (inr lost) = inr lost
stands_before_get [] e Open doubted _ resolved = inl refl
stands_before_get [] e Yes doubted known resolved = resolved
stands_before_get [] e No doubted known resolved = resolved
stands_before_get (f ∷ fates) e status doubted known resolved = resolved

-- and the message that leaves leaves what stands for it after
pub left_status-before_get : (fates : List Fate) (status : Status) (doubted : Bool) (known : Status)
    → ResolvesStatus (settled_before (entries_of fates) status Yes) (keeps_last fates) doubted known
    → left_status (messages_kept fates) (before_get fates status known) Yes ≡ known
left_status-before_get [] Open doubted Yes resolved = refl
left_status-before_get [] Open doubted No resolved = refl
left_status-before_get [] Open doubted Open (inl same) = absurd cc
left_status-before_get [] Open doubted Open (inr lost) = let e = lost.1 in absurd cc
left_status-before_get [] Yes doubted known resolved = settled-known Yes doubted known Yes resolved
left_status-before_get [] No doubted known resolved = settled-known No doubted known Yes resolved
left_status-before_get (f ∷ fates) status doubted known resolved = left_status-kept f fates status doubted known Yes resolved
