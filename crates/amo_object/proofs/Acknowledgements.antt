-- What the reply yes tells: the last message put was got.
use Rattle.std.proofs.Common.{◌≡◌, ℕ, ◌+◌, ◌<◌, ◌==◌, if◌then◌else◌, Bool, true, false, Some, List, [], ◌∷◌, ◌++◌, length, refl, sym, ◌∙◌, ap, subst, slice_get, remove, arith}
use Rattle.std.proofs.lemmas.Bool.{eqb-false, ne_eqb}
use Rattle.std.proofs.lemmas.List.{length-append}
use Rattle.std.proofs.lemmas.List.Edits.{remove-append_left}
use Rattle.std.proofs.lemmas.Option.{same_Some}
use Rattle.amo_object.specs.declared.step.End.{End}
use Rattle.amo_object.specs.declared.step.End.TheVariants.{Sender, Receiver}
use Rattle.amo_object.specs.declared.status.Status.{Status}
use Rattle.amo_object.specs.declared.status.Status.TheVariants.{Yes, No, Open}
use Rattle.amo_object.specs.declared.step.Step.{Step}
use Rattle.amo_object.specs.declared.step.Step.TheVariants.{Put, Get, Ack, Crash, Recover, DownReply, Lose, LoseAck}
use Rattle.amo_object.specs.Queue.{QueueState, after, set_down, settled}
use Rattle.amo_object.specs.Run.{IsRunFrom, after_all, without_losses}
use Rattle.amo_object.specs.Delivery.{messages_put, messages_got}
use Rattle.amo_object.proofs.Deliveries.{messages-set_down, messages_put-without_losses, messages_got-without_losses}
use Rattle.amo_object.proofs.Runs.{IsRunFrom-split, without_losses-split}

-- a crash and a recovery leave the status
status-set_down : (s : QueueState) (side : End) (down : Bool) → (set_down s side down).status ≡ s.status
status-set_down s Sender down = refl
status-set_down s Receiver down = refl

-- a status No stays, whichever message leaves
settled-No : (is_last : Bool) (status known : Status) → status ≡ No → (if is_last then settled status known else status) ≡ No
settled-No true No known e = refl
settled-No false No known e = refl
settled-No is_last Yes known e = absurd cc
settled-No is_last Open known e = absurd cc

-- an open status becomes what is known once the last message leaves
settled-last : (is_last : Bool) (status known : Status) → is_last ≡ true → status ≡ Open → (if is_last then settled status known else status) ≡ known
settled-last true Open known e f = refl
settled-last true Yes known e f = absurd cc
settled-last true No known e f = absurd cc
settled-last false status known e f = absurd cc

-- and stays while another one leaves
settled-other : (is_last : Bool) (status known : Status) → is_last ≡ false → (if is_last then settled status known else status) ≡ status
settled-other false status known e = refl
settled-other true status known e = absurd cc

-- a status No stays until the next put
status-No : (s : QueueState) (later : List Step) → s.status ≡ No → messages_put later ≡ [] → (after_all s later).status ≡ No
status-No s [] lost quiet = lost
status-No s (Put m ∷ later) lost quiet = absurd cc
status-No s (Get m ∷ later) lost quiet = status-No (after s (Get m)) later (settled-No (0 + 1 == length s.messages) s.status Yes lost) quiet
status-No s (Crash side ∷ later) lost quiet = status-No (after s (Crash side)) later (status-set_down s side true ∙ lost) quiet
status-No s (Recover side ∷ later) lost quiet = status-No (after s (Recover side)) later (status-set_down s side false ∙ lost) quiet
status-No s (Lose place ∷ later) lost quiet = status-No (after s (Lose place)) later (settled-No (place + 1 == length s.messages) s.status No lost) quiet
status-No s (LoseAck ∷ later) lost quiet = status-No (after s LoseAck) later refl quiet
status-No s (step ∷ later) lost quiet = status-No (after s step) later lost quiet

-- nothing is got from an empty queue until the next put
messages_got-nil : (s : QueueState) (later : List Step) → s.messages ≡ [] → messages_put later ≡ [] → IsRunFrom s later → messages_got later ≡ []
messages_got-nil s [] none quiet run = refl
messages_got-nil s (Put m ∷ later) none quiet run = absurd cc
messages_got-nil s (Get m ∷ later) none quiet run = let first : slice_get [] 0 ≡ Some m = rw none at run.0.1 in absurd cc
messages_got-nil s (Crash side ∷ later) none quiet run = messages_got-nil (after s (Crash side)) later (sym (messages-set_down s side true) ∙ none) quiet run.1
messages_got-nil s (Recover side ∷ later) none quiet run = messages_got-nil (after s (Recover side)) later (sym (messages-set_down s side false) ∙ none) quiet run.1
messages_got-nil s (Lose place ∷ later) none quiet run = let within = run.0.1 in let e = ap length none in absurd (omega arith)
messages_got-nil s (LoseAck ∷ later) none quiet run = messages_got-nil (after s LoseAck) later none quiet run.1
messages_got-nil s (step ∷ later) none quiet run = messages_got-nil (after s step) later none quiet run.1

-- while the last message put waits: if the status is Yes in the end, that message was got, and was got last
messages_got-Yes : (s : QueueState) (front : List (List ℕ)) (m : List ℕ) (later : List Step) → s.status ≡ Open → s.messages ≡ front ++ m ∷ [] → messages_put later ≡ [] → IsRunFrom s later → (after_all s later).status ≡ Yes
    → (earlier : List (List ℕ)) × (messages_got later ≡ earlier ++ m ∷ [])
messages_got-Yes s front m [] waits last quiet run got = absurd cc
messages_got-Yes s front m (Put x ∷ later) waits last quiet run got = absurd cc
messages_got-Yes s [] m (Get x ∷ later) waits last quiet run got =
    let first : slice_get (m ∷ []) 0 ≡ Some x = rw last at run.0.1 in
    let none = messages_got-nil (after s (Get x)) later (ap (λ (messages : List (List ℕ)). remove messages 0) last) quiet run.1 in
    ([], ap (λ (y : List ℕ). y ∷ messages_got later) (sym (same_Some m x first)) ∙ ap (λ (rest : List (List ℕ)). m ∷ rest) none)
messages_got-Yes s (y ∷ front) m (Get x ∷ later) waits last quiet run got =
    let other : (0 + 1 == length s.messages) ≡ false = ne_eqb 1 (length s.messages) (λ e. let n = ap length last in absurd (omega (arith, length-append front (m ∷ [])))) in
    let found = messages_got-Yes (after s (Get x)) front m later (settled-other _ s.status Yes other ∙ waits) (ap (λ (messages : List (List ℕ)). remove messages 0) last) quiet run.1 got in
    (x ∷ found.0, ap (λ (rest : List (List ℕ)). x ∷ rest) found.1)
messages_got-Yes s front m (Ack true ∷ later) waits last quiet run got = let status = run.0.1 in absurd cc
messages_got-Yes s front m (Ack false ∷ later) waits last quiet run got = let status = run.0.1 in absurd cc
messages_got-Yes s front m (Crash side ∷ later) waits last quiet run got =
    messages_got-Yes (after s (Crash side)) front m later (status-set_down s side true ∙ waits) (sym (messages-set_down s side true) ∙ last) quiet run.1 got
messages_got-Yes s front m (Recover side ∷ later) waits last quiet run got =
    messages_got-Yes (after s (Recover side)) front m later (status-set_down s side false ∙ waits) (sym (messages-set_down s side false) ∙ last) quiet run.1 got
messages_got-Yes s front m (DownReply side ∷ later) waits last quiet run got = messages_got-Yes s front m later waits last quiet run.1 got
messages_got-Yes s front m (Lose place ∷ later) waits last quiet run got =
    by (place + 1 == length s.messages) refl (λ other. messages_got-Yes (after s (Lose place)) (remove front place) m later (settled-other _ s.status No other ∙ waits) (kept other) quiet run.1 got)
  where
    -- a message that is not the last leaves from before the last
    kept : (place + 1 == length s.messages) ≡ false → remove s.messages place ≡ remove front place ++ m ∷ []
    kept other =
        let n = ap length last in
        let more = run.0.1 in
        let apart = eqb-false (place + 1) (length s.messages) other in
        let within : place < length front = omega (arith, length-append front (m ∷ [])) in
        ap (λ (messages : List (List ℕ)). remove messages place) last ∙ remove-append_left front (m ∷ []) place within

    by : (is_last : Bool) → (place + 1 == length s.messages) ≡ is_last → ((place + 1 == length s.messages) ≡ false → (earlier : List (List ℕ)) × (messages_got later ≡ earlier ++ m ∷ [])) → (earlier : List (List ℕ)) × (messages_got later ≡ earlier ++ m ∷ [])
    by true e otherwise = let gone = status-No (after s (Lose place)) later (settled-last _ s.status No e waits) quiet in absurd cc
    by false e otherwise = otherwise e
messages_got-Yes s front m (LoseAck ∷ later) waits last quiet run got = let gone = status-No (after s LoseAck) later refl quiet in absurd cc

-- where the status is Yes at the end of a run, the message put last was got, and was got last
pub messages_got-last_put : (s : QueueState) (before : List Step) (m : List ℕ) (later : List Step) → IsRunFrom s (before ++ Put m ∷ later) → messages_put later ≡ [] → (after_all s (before ++ Put m ∷ later)).status ≡ Yes
    → (earlier : List (List ℕ)) × (messages_got later ≡ earlier ++ m ∷ [])
messages_got-last_put s [] m later run quiet got = messages_got-Yes (after s (Put m)) s.messages m later refl refl quiet run.1 got
messages_got-last_put s (step ∷ before) m later run quiet got = messages_got-last_put (after s step) before m later run.1 quiet got

-- the same of what is seen of a run: after the last put comes the reply yes
pub messages_got-acknowledged : (s : QueueState) (run before : List Step) (m : List ℕ) (later : List Step) → IsRunFrom s run → without_losses run ≡ before ++ Put m ∷ later ++ Ack true ∷ [] → messages_put later ≡ []
    → (earlier : List (List ℕ)) × (messages_got later ≡ earlier ++ m ∷ [])
messages_got-acknowledged s run before m later allowed seen quiet =
    let at_reply = without_losses-split run (before ++ Put m ∷ later) (Ack true) [] seen in
    let at_put = without_losses-split at_reply.0 before (Put m) later at_reply.3 in
    let parts = IsRunFrom-split s at_reply.0 (Ack true ∷ at_reply.1) (subst (λ (steps : List Step). IsRunFrom s steps) at_reply.2 allowed) in
    let found = messages_got-last_put s at_put.0 m at_put.1
    (subst (λ (steps : List Step). IsRunFrom s steps) at_put.2 parts.0)
    (sym (messages_put-without_losses at_put.1) ∙ ap messages_put at_put.4 ∙ quiet)
    (subst (λ (steps : List Step). (after_all s steps).status ≡ Yes) at_put.2 parts.1.0.1) in
    (found.0, sym (ap messages_got at_put.4) ∙ messages_got-without_losses at_put.1 ∙ found.1)
