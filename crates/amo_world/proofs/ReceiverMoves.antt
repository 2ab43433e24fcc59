-- Forward simulation, of a receiver: what its acts change of the view of the stream.
use Rattle.std.proofs.Common.{◌≡◌, ℕ, Bool, true, false, not, eqb, List, [], ◌∷◌, ◌++◌, refl, sym, ◌∙◌, ap, subst}
use Rattle.std.proofs.lemmas.Bool.{and_right}
use Rattle.amo_object.specs.declared.step.End.TheVariants.{Receiver}
use Rattle.amo_object.specs.declared.status.Status.{Status}
use Rattle.amo_object.specs.declared.status.Status.TheVariants.{Yes, No, Open}
use Rattle.amo_object.specs.declared.step.Step.TheVariants as step
use Rattle.amo_object.specs.Queue.{status_of}
use Rattle.amo_packet.specs.declared.packet.OwnedPacket.{OwnedPacket}
use Rattle.amo_packet.specs.declared.packet.OwnedBody.TheVariants as packet
use Rattle.amo_packet.specs.Batch.{Batch, batch, messages}
use Rattle.amo_core.specs.declared.act.Act.TheVariants as act
use Rattle.amo_core.specs.declared.sender.SenderMode.{SenderMode}
use Rattle.amo_core.specs.declared.sender.SenderMode.TheVariants as sending
use Rattle.amo_core.specs.declared.receiver.ReceiverMode.{ReceiverMode}
use Rattle.amo_core.specs.declared.receiver.ReceiverMode.TheVariants as receiving
use Rattle.amo_core.specs.Sender as sender
use Rattle.amo_core.specs.Receiver.{with_rest}
use Rattle.amo_core.specs.declared.payload.Payload.{Payload}
use Rattle.amo_core.specs.declared.payload.Payload.TheVariants as payload
use Rattle.amo_world.specs.Doubt.{Entry, entry, DoubtState, MovesUnmarking, settled_before}
use Rattle.amo_core.specs.Receiver.{is_holding, is_acking}
use Rattle.amo_world.specs.View.{entries, carried, is_lost_accept, may_meet_lost_accept, received, current, known, is_known_in_doubt, is_receiver_down, view_of}
use Rattle.amo_world.proofs.Moving.{state-eq}
use Rattle.amo_world.proofs.Unmarking.{stays, quietly_then, calls, moves-to, HasFewerMarks, fewer-refl, fewer-append, unmarks, fewer_marks, settled_without, leaves}
use Rattle.amo_world.proofs.Untaken.{TakesNothing}
use Rattle.amo_world.proofs.Packets.{Any, IsAcceptFor, IsPastAccept}
use Rattle.amo_world.proofs.Views.{same_either_way, eqb_same, eqb_swap, carried_none, lost_fewer, lost_same, entries_fewer, entries_doubted, DoubtsNoMore, not_fewer, current_fewer}

-- the sender does not wait for what another receiver gave, if this one did not give it
abbrev pub GivesNoMore : SenderMode → ReceiverMode → ReceiverMode → Type 0
GivesNoMore (sending.Send id m) a b = is_acking b id ≡ false → is_acking a id ≡ false
GivesNoMore _ a b = Unit {0}

known_fewer : (mode : SenderMode) (waiting untaken : List (List ℕ)) (a b : ReceiverMode) → GivesNoMore mode a b
    → is_known_in_doubt mode waiting untaken b ≡ true → is_known_in_doubt mode waiting untaken a ≡ true
known_fewer (sending.Send id m) [] [] a b fewer is = not_fewer (is_acking a id) (is_acking b id) fewer is
known_fewer (sending.Send id m) [] (n ∷ untaken) a b fewer is = is
known_fewer (sending.Send id m) (w ∷ waiting) untaken a b fewer is = is
known_fewer (sending.Quiet got) waiting untaken a b fewer is = is
known_fewer (sending.NeedId jd m) waiting untaken a b fewer is = is
known_fewer sending.Down waiting untaken a b fewer is = is

-- what the receiver has accepted and still has is not lost
own_accept : (jd id asked : ℕ) → is_lost_accept (receiving.Accept jd id) asked (packet.Accept jd id) ≡ false
own_accept jd id asked = and_right (eqb jd asked) (not (eqb id id)) (rw (eqb_same id) refl)

-- the mark is gone where a message is not taken yet
known_while_untaken : (mode : SenderMode) (waiting : List (List ℕ)) (m : List ℕ) (untaken : List (List ℕ)) (at : ReceiverMode)
    → is_known_in_doubt mode waiting (m ∷ untaken) at ≡ false
known_while_untaken (sending.Send id n) [] m untaken at = refl
known_while_untaken (sending.Send id n) (w ∷ waiting) m untaken at = refl
known_while_untaken (sending.Quiet got) waiting m untaken at = refl
known_while_untaken (sending.NeedId jd n) waiting m untaken at = refl
known_while_untaken sending.Down waiting m untaken at = refl

-- the status of a queue that is not empty stays where messages leave before others
settled_before_some : (es fs : List Entry) (f : Entry) (status to : Status) → settled_before (es ++ f ∷ fs) status to ≡ status
settled_before_some [] fs f status to = refl
settled_before_some (e ∷ es) fs f status to = refl

-- a status that is known stays
settled_yes : (es : List Entry) (to : Status) → settled_before es Yes to ≡ Yes
settled_yes [] to = refl
settled_yes (e ∷ es) to = refl

settled_no : (es : List Entry) (to : Status) → settled_before es No to ≡ No
settled_no [] to = refl
settled_no (e ∷ es) to = refl

settled_status : (got : Bool) (es : List Entry) (to : Status) → settled_before es (status_of got) to ≡ status_of got
settled_status true es to = settled_yes es to
settled_status false es to = settled_no es to

-- what is not taken yet is listed with the sender, unless the receiver holds it
abbrev pub IsListed : SenderMode → ReceiverMode → Type 0
IsListed (sending.Send id m) at = is_holding at id ≡ false
IsListed _ at = Unit {0}

-- what is not taken yet is listed with the sender, where the receiver holds nothing
pub listed : (mode : SenderMode) (at : ReceiverMode) → TakesNothing act.Get at → IsListed mode at
listed (sending.Send id m) receiving.Idle h = refl
listed (sending.Send id m) (receiving.Accept jd x) h = refl
listed (sending.Send id m) (receiving.Rcvd x held) h = absurd h
listed (sending.Send id m) (receiving.Ack x) h = refl
listed (sending.Send id m) receiving.Down h = refl
listed (sending.Quiet got) at h = tt
listed (sending.NeedId jd m) at h = tt
listed sending.Down at h = tt

-- nothing is known of the last message put only where some message is listed behind those that the receiver holds
stays_known : (mode : SenderMode) (waiting : List (List ℕ)) (at : ReceiverMode) (from_receiver : List OwnedPacket)
    (untaken : List (List ℕ)) (to : Status) → IsListed mode at
    → settled_before (current mode at from_receiver untaken ++ entries false waiting)
    (known mode waiting untaken) to ≡ known mode waiting untaken
stays_known mode (w ∷ waiting) at from_receiver untaken to listed =
    settled_before_some (current mode at from_receiver untaken) (entries false waiting) (entry false w)
    (known mode (w ∷ waiting) untaken) to
stays_known (sending.Quiet got) [] at from_receiver untaken to listed = settled_status got [] to
stays_known (sending.NeedId jd (payload.Message m)) [] at from_receiver untaken to listed = refl
stays_known (sending.NeedId jd (payload.Batch b)) [] at from_receiver untaken to listed = refl
stays_known (sending.Send id m) [] at from_receiver [] to listed = settled_yes (current (sending.Send id m) at from_receiver [] ++ []) to
stays_known (sending.Send id m) [] at from_receiver (n ∷ untaken) to listed = rw listed refl
stays_known sending.Down [] at from_receiver untaken to listed = refl

-- so it stays where a group leaves from there
pub stays_known_without : (mode : SenderMode) (waiting : List (List ℕ)) (at : ReceiverMode) (from_receiver : List OwnedPacket)
    (untaken : List (List ℕ)) (group : List Entry) → IsListed mode at
    → settled_without group (current mode at from_receiver untaken ++ entries false waiting)
    (known mode waiting untaken) ≡ known mode waiting untaken
stays_known_without mode waiting at from_receiver untaken [] listed = refl
stays_known_without mode waiting at from_receiver untaken (e ∷ group) listed = stays_known mode waiting at from_receiver untaken No listed

-- the sender does not send under an identifier, and it was not accepted for the needuid that the sender asks by
abbrev pub IsAwayFrom : ℕ → SenderMode → List OwnedPacket → Type 0
IsAwayFrom id (sending.Send under m) from_receiver = eqb under id ≡ false
IsAwayFrom id (sending.NeedId asked m) from_receiver = (x : ℕ) → Any (IsAcceptFor asked x) from_receiver → eqb id x ≡ false
IsAwayFrom id (sending.Quiet got) from_receiver = Unit {0}
IsAwayFrom id sending.Down from_receiver = Unit {0}

away_not_sending : (id : ℕ) (mode : SenderMode) (from_receiver : List OwnedPacket) → IsAwayFrom id mode from_receiver
    → sender.is_sending mode id ≡ false
away_not_sending id (sending.Send under m) from_receiver away = away
away_not_sending id (sending.NeedId asked m) from_receiver away = refl
away_not_sending id (sending.Quiet got) from_receiver away = refl
away_not_sending id sending.Down from_receiver away = refl

-- the mark of the status depends on what the receiver gave away
same_known : (waiting untaken : List (List ℕ)) (id : ℕ) (m : Payload) (a b : ReceiverMode) → is_acking a id ≡ is_acking b id
    → is_known_in_doubt (sending.Send id m) waiting untaken a ≡ is_known_in_doubt (sending.Send id m) waiting untaken b
same_known [] [] id m a b same = ap (λ (h : Bool). not h) same
same_known [] (n ∷ untaken) id m a b same = refl
same_known (w ∷ waiting) untaken id m a b same = refl

-- what the sender sends comes, under the identifier that is accepted
pub takes_sent : (waiting : List (List ℕ)) (from_sender from_receiver : List OwnedPacket) (untaken : List (List ℕ)) (jd id under : ℕ)
    (load : Payload) (b : Batch)
    → eqb under id ≡ true → untaken ≡ messages b
    → MovesUnmarking (view_of (sending.Send under load) waiting (receiving.Accept jd id) from_sender from_receiver untaken) []
    (view_of (sending.Send under load) waiting (receiving.Rcvd id b) from_sender from_receiver untaken)
takes_sent waiting from_sender from_receiver untaken jd id under load b same is =
    let back : eqb id under ≡ true = eqb_swap id under ∙ same in
    subst
    (λ (u : List (List ℕ)). MovesUnmarking
    (view_of (sending.Send under load) waiting (receiving.Accept jd id) from_sender from_receiver u) []
    (view_of (sending.Send under load) waiting (receiving.Rcvd id b) from_sender from_receiver u))
    (sym is)
    (moves-to (stays _) (state-eq _ _
    (rw (same, back) (ap (λ (h : Bool). entry false b.first ∷ (entries (not h) b.rest ++ entries false waiting)) back))
    refl
    (known_while_untaken (sending.Send under load) waiting b.first b.rest (receiving.Accept jd id) ∙ sym
    (known_while_untaken (sending.Send under load) waiting b.first b.rest (receiving.Rcvd id b)))
    refl
    refl))

-- the client takes the first message of what the sender sends
pub gives_sent : (waiting : List (List ℕ)) (from_sender from_receiver : List OwnedPacket) (untaken : List (List ℕ)) (id x : ℕ)
    (m : List ℕ) (rest : List (List ℕ)) (load : Payload) → eqb id x ≡ true → untaken ≡ m ∷ rest
    → MovesUnmarking (view_of (sending.Send x load) waiting (receiving.Rcvd id (batch m rest)) from_sender from_receiver untaken) (step.Get m ∷ [])
    (view_of (sending.Send x load) waiting (with_rest id rest) from_sender from_receiver rest)
gives_sent waiting from_sender from_receiver untaken id x m rest load same is =
    subst
    (λ (u : List (List ℕ)). MovesUnmarking (view_of (sending.Send x load) waiting (receiving.Rcvd id (batch m rest)) from_sender from_receiver u)
    (step.Get m ∷ []) (view_of (sending.Send x load) waiting (with_rest id rest) from_sender from_receiver rest))
    (sym is)
    (by_rest rest)
  where
    -- the last one is taken, and the status becomes known
    settled_at : (waiting : List (List ℕ))
        → settled_before (current (sending.Send x load) (receiving.Rcvd id (batch m [])) from_receiver (m ∷ []) ++ entries false waiting)
        (known (sending.Send x load) waiting (m ∷ [])) Yes ≡ known (sending.Send x load) waiting []
    settled_at [] = rw same refl
    settled_at (w ∷ waiting) =
        settled_before_some (current (sending.Send x load) (receiving.Rcvd id (batch m [])) from_receiver (m ∷ [])) (entries false waiting)
        (entry false w) Open Yes

    in_doubt : (waiting : List (List ℕ))
        → is_known_in_doubt (sending.Send x load) waiting (m ∷ []) (receiving.Rcvd id (batch m []))
        ≡ is_known_in_doubt (sending.Send x load) waiting [] (receiving.Ack id)
    in_doubt [] = rw same refl
    in_doubt (w ∷ waiting) = refl

    -- others are left, and the status stays open
    open_still : (n : List ℕ) (rest waiting : List (List ℕ))
        → known (sending.Send x load) waiting (m ∷ n ∷ rest) ≡ known (sending.Send x load) waiting (n ∷ rest)
    open_still n rest [] = refl
    open_still n rest (w ∷ waiting) = refl

    by_rest : (rest : List (List ℕ))
        → MovesUnmarking (view_of (sending.Send x load) waiting (receiving.Rcvd id (batch m rest)) from_sender from_receiver (m ∷ rest))
        (step.Get m ∷ []) (view_of (sending.Send x load) waiting (with_rest id rest) from_sender from_receiver rest)
    by_rest [] =
        moves-to
        (calls (view_of (sending.Send x load) waiting (receiving.Rcvd id (batch m [])) from_sender from_receiver (m ∷ [])) (step.Get m) (refl, refl))
        (state-eq _ _ (rw same refl) (settled_at waiting) (in_doubt waiting) refl refl)
    by_rest (n ∷ rest) =
        moves-to
        (calls (view_of (sending.Send x load) waiting (receiving.Rcvd id (batch m (n ∷ rest))) from_sender from_receiver (m ∷ n ∷ rest)) (step.Get m)
        (refl, refl))
        (state-eq _ _ (rw same refl) (open_still n rest waiting)
        (known_while_untaken (sending.Send x load) waiting m (n ∷ rest) (receiving.Rcvd id (batch m (n ∷ rest)))
        ∙ sym (known_while_untaken (sending.Send x load) waiting n rest (receiving.Rcvd id (batch n rest)))) refl refl)

-- while the sender is in one mode, both sides emitted what they did, and this was not taken
module _ (mode : SenderMode) (waiting : List (List ℕ)) (from_sender from_receiver : List OwnedPacket) (untaken : List (List ℕ)) where
  -- the stream as a queue in doubt, while the receiver is in this mode
  abbrev At : ReceiverMode → DoubtState
  At at = view_of mode waiting at from_sender from_receiver untaken

  -- and once it emitted one packet more
  abbrev With : OwnedPacket → ReceiverMode → DoubtState
  With p at = view_of mode waiting at from_sender (p ∷ from_receiver) untaken

  -- less is in doubt from now on
  doubts_less : (a b : ReceiverMode) (more : List OwnedPacket)
      → HasFewerMarks (received mode a from_sender) (received mode b from_sender) → DoubtsNoMore mode a b from_receiver more
      → GivesNoMore mode a b → is_receiver_down a ≡ is_receiver_down b
      → MovesUnmarking (At a) [] (view_of mode waiting b from_sender more untaken)
  doubts_less a b more first doubts gives down =
      fewer_marks _ _
      (fewer-append _ _ _ _ first
      (fewer-append _ _ _ _ (current_fewer mode a b from_receiver more untaken doubts) (fewer-refl (entries false waiting))))
      refl (known_fewer mode waiting untaken a b gives) refl down

  -- nothing changes
  same_view : (at : ReceiverMode) (p : OwnedPacket)
      → ((jd : ℕ) → may_meet_lost_accept at jd (p ∷ from_receiver) ≡ may_meet_lost_accept at jd from_receiver)
      → At at ≡ With p at
  same_view at p same =
      state-eq _ _
      (ap (λ (es : List Entry). received mode at from_sender ++ (es ++ entries false waiting)) (same_current mode)) refl refl refl refl
    where
      same_current : (mode : SenderMode) → current mode at from_receiver untaken ≡ current mode at (p ∷ from_receiver) untaken
      same_current (sending.Quiet got) = refl
      same_current (sending.NeedId jd load) = ap (λ (b : Bool). entries b (sender.messages_in load)) (sym (same jd))
      same_current (sending.Send id m) = refl
      same_current sending.Down = refl

  -- an accept that is emitted again changes nothing
  pub accepts_again : (n jd id : ℕ)
      → MovesUnmarking (At (receiving.Accept jd id)) [] (With (record { stream = n; body = packet.Accept jd id }) (receiving.Accept jd id))
  accepts_again n jd id =
      moves-to (stays _)
      (same_view (receiving.Accept jd id) (record { stream = n; body = packet.Accept jd id }) (λ asked. rw (own_accept jd id asked) refl))

  -- nor does an ack
  pub acks_with : (at : ReceiverMode) (n id : ℕ) (got : Bool)
      → MovesUnmarking (At at) [] (With (record { stream = n; body = packet.Ack id got }) at)
  acks_with at n id got = moves-to (stays _) (same_view at (record { stream = n; body = packet.Ack id got }) (λ asked. refl))

  -- a receiver at rest accepts an identifier that no packet of the sender bears
  pub accepts_first : (n jd id : ℕ) → (Any (IsPastAccept id) from_sender → ⊥)
      → MovesUnmarking (At receiving.Idle) [] (With (record { stream = n; body = packet.Accept jd id }) (receiving.Accept jd id))
  accepts_first n jd id unnamed =
      doubts_less receiving.Idle (receiving.Accept jd id) (record { stream = n; body = packet.Accept jd id } ∷ from_receiver)
      (subst (λ (es : List Entry). HasFewerMarks [] es) (sym nothing) tt) (no_more mode) (gives_no_more mode) refl
    where
      nothing : received mode (receiving.Accept jd id) from_sender ≡ []
      nothing = rw (carried_none from_sender id unnamed) (same_either_way (sender.is_sending mode id) [])

      no_more : (mode : SenderMode)
          → DoubtsNoMore mode receiving.Idle (receiving.Accept jd id) from_receiver
          (record { stream = n; body = packet.Accept jd id } ∷ from_receiver)
      no_more (sending.Quiet got) = tt
      no_more (sending.NeedId asked m) =
          λ is. lost_fewer receiving.Idle (receiving.Accept jd id) asked from_receiver (λ x o e. refl) (rw (own_accept jd id asked) at is)
      no_more (sending.Send x m) = (refl, λ e. refl)
      no_more sending.Down = tt

      gives_no_more : (mode : SenderMode) → GivesNoMore mode receiving.Idle (receiving.Accept jd id)
      gives_no_more (sending.Quiet got) = tt
      gives_no_more (sending.NeedId asked m) = tt
      gives_no_more (sending.Send x m) = λ e. refl
      gives_no_more sending.Down = tt

  -- what the sender sent comes, under the identifier that is accepted: where it does not send it any more
  pub takes_forgotten : (jd id : ℕ) (m : Batch) → sender.is_sending mode id ≡ false → carried from_sender id ≡ messages m
      → MovesUnmarking (At (receiving.Accept jd id)) [] (At (receiving.Rcvd id m))
  takes_forgotten jd id m forgotten carries =
      doubts_less (receiving.Accept jd id) (receiving.Rcvd id m) from_receiver
      (rw (forgotten, carries) (entries_fewer true false (messages m) (λ e. refl))) (no_more mode forgotten) (gives_no_more mode) refl
    where
      no_more : (mode : SenderMode) → sender.is_sending mode id ≡ false
          → DoubtsNoMore mode (receiving.Accept jd id) (receiving.Rcvd id m) from_receiver from_receiver
      no_more (sending.Quiet got) f = tt
      no_more (sending.NeedId asked n) f = λ is. lost_fewer (receiving.Accept jd id) (receiving.Rcvd id m) asked from_receiver (λ x o e. e) is
      no_more (sending.Send x n) f = (eqb_swap id x ∙ f, λ e. e)
      no_more sending.Down f = tt

      gives_no_more : (mode : SenderMode) → GivesNoMore mode (receiving.Accept jd id) (receiving.Rcvd id m)
      gives_no_more (sending.Quiet got) = tt
      gives_no_more (sending.NeedId asked n) = tt
      gives_no_more (sending.Send x n) = λ e. refl
      gives_no_more sending.Down = tt

  -- an accept is forgotten, with the message that might still have come under it
  pub forgets_accept : (jd id : ℕ) → IsAwayFrom id mode from_receiver → MovesUnmarking (At (receiving.Accept jd id)) [] (At receiving.Idle)
  forgets_accept jd id away =
      let v = At (receiving.Accept jd id) in
      let group = entries true (carried from_sender id) in
      let later = current mode (receiving.Accept jd id) from_receiver untaken ++ entries false waiting in
      quietly_then
      (leaves v [] group later (entries_doubted (carried from_sender id)) (rw (away_not_sending id mode from_receiver away) refl))
      (moves-to
      (unmarks (record v { entries = later; status = settled_without group later v.status })
      (current mode receiving.Idle from_receiver untaken ++ entries false waiting)
      (is_known_in_doubt mode waiting untaken receiving.Idle)
      (fewer-append _ _ _ _
      (current_fewer mode (receiving.Accept jd id) receiving.Idle from_receiver from_receiver untaken (no_more mode away))
      (fewer-refl (entries false waiting)))
      (known_fewer mode waiting untaken (receiving.Accept jd id) receiving.Idle (gives_no_more mode)))
      (state-eq _ _ refl
      (stays_known_without mode waiting (receiving.Accept jd id) from_receiver untaken group
      (listed mode (receiving.Accept jd id) tt)) refl refl refl))
    where
      no_more : (mode : SenderMode) → IsAwayFrom id mode from_receiver
          → DoubtsNoMore mode (receiving.Accept jd id) receiving.Idle from_receiver from_receiver
      no_more (sending.Send x m) far = (refl, λ e. eqb_swap id x ∙ far)
      no_more (sending.NeedId asked m) far =
          λ is. lost_fewer (receiving.Accept jd id) receiving.Idle asked from_receiver (λ x o e. far x o) is
      no_more (sending.Quiet got) far = tt
      no_more sending.Down far = tt

      gives_no_more : (mode : SenderMode) → GivesNoMore mode (receiving.Accept jd id) receiving.Idle
      gives_no_more (sending.Send x m) = λ e. refl
      gives_no_more (sending.NeedId asked m) = tt
      gives_no_more (sending.Quiet got) = tt
      gives_no_more sending.Down = tt

  -- an identifier under which a message was given away is forgotten
  pub forgets_given : (id : ℕ) → IsAwayFrom id mode from_receiver → MovesUnmarking (At (receiving.Ack id)) [] (At receiving.Idle)
  forgets_given id away = doubts_less (receiving.Ack id) receiving.Idle from_receiver tt (no_more mode away) (gives_no_more mode away) refl
    where
      no_more : (mode : SenderMode) → IsAwayFrom id mode from_receiver
          → DoubtsNoMore mode (receiving.Ack id) receiving.Idle from_receiver from_receiver
      no_more (sending.Send x m) far = (refl, λ e. eqb_swap id x ∙ far)
      no_more (sending.NeedId asked m) far = λ is. lost_fewer (receiving.Ack id) receiving.Idle asked from_receiver (λ x o e. far x o) is
      no_more (sending.Quiet got) far = tt
      no_more sending.Down far = tt

      gives_no_more : (mode : SenderMode) → IsAwayFrom id mode from_receiver → GivesNoMore mode (receiving.Ack id) receiving.Idle
      gives_no_more (sending.Send x m) far = λ e. eqb_swap id x ∙ far
      gives_no_more (sending.NeedId asked m) far = tt
      gives_no_more (sending.Quiet got) far = tt
      gives_no_more sending.Down far = tt

  -- the client takes the first message that the receiver holds, whose sender knows nothing of it any more
  pub gives_away : (id : ℕ) (m : List ℕ) (rest : List (List ℕ)) → IsListed mode (receiving.Rcvd id (batch m rest))
      → MovesUnmarking (At (receiving.Rcvd id (batch m rest))) (step.Get m ∷ []) (At (with_rest id rest))
  gives_away id m [] listed =
      moves-to
      (calls (At (receiving.Rcvd id (batch m []))) (step.Get m) (refl, refl))
      (state-eq _ _
      (ap (λ (es : List Entry). es ++ entries false waiting) (same_current mode listed))
      (stays_known mode waiting (receiving.Rcvd id (batch m [])) from_receiver untaken Yes listed)
      (same_doubt mode listed)
      refl
      refl)
    where
      same_current : (mode : SenderMode) → IsListed mode (receiving.Rcvd id (batch m []))
          → current mode (receiving.Rcvd id (batch m [])) from_receiver untaken ≡ current mode (receiving.Ack id) from_receiver untaken
      same_current (sending.Quiet got) is = refl
      same_current (sending.NeedId jd load) is =
          ap (λ (b : Bool). entries b (sender.messages_in load))
          (lost_same (receiving.Rcvd id (batch m [])) (receiving.Ack id) jd from_receiver (λ x. refl))
      same_current (sending.Send x n) is = rw is refl
      same_current sending.Down is = refl

      same_doubt : (mode : SenderMode) → IsListed mode (receiving.Rcvd id (batch m []))
          → is_known_in_doubt mode waiting untaken (receiving.Rcvd id (batch m [])) ≡ is_known_in_doubt mode waiting untaken (receiving.Ack id)
      same_doubt (sending.Quiet got) is = refl
      same_doubt (sending.NeedId jd n) is = refl
      same_doubt (sending.Send x n) is = same_known waiting untaken x n (receiving.Rcvd id (batch m [])) (receiving.Ack id) (sym is)
      same_doubt sending.Down is = refl
  gives_away id m (n ∷ rest) listed =
      moves-to
      (calls (At (receiving.Rcvd id (batch m (n ∷ rest)))) (step.Get m) (refl, refl))
      (state-eq _ _
      (ap (λ (es : List Entry). entries false (n ∷ rest) ++ (es ++ entries false waiting)) (same_current mode))
      refl
      (same_doubt mode)
      refl
      refl)
    where
      same_current : (mode : SenderMode)
          → current mode (receiving.Rcvd id (batch m (n ∷ rest))) from_receiver untaken ≡ current mode (receiving.Rcvd id (batch n rest)) from_receiver untaken
      same_current (sending.Quiet got) = refl
      same_current (sending.NeedId jd load) =
          ap (λ (b : Bool). entries b (sender.messages_in load))
          (lost_same (receiving.Rcvd id (batch m (n ∷ rest))) (receiving.Rcvd id (batch n rest)) jd from_receiver (λ x. refl))
      same_current (sending.Send x load) = refl
      same_current sending.Down = refl

      same_doubt : (mode : SenderMode)
          → is_known_in_doubt mode waiting untaken (receiving.Rcvd id (batch m (n ∷ rest))) ≡ is_known_in_doubt mode waiting untaken (receiving.Rcvd id (batch n rest))
      same_doubt (sending.Quiet got) = refl
      same_doubt (sending.NeedId jd load) = refl
      same_doubt (sending.Send x load) = same_known waiting untaken x load (receiving.Rcvd id (batch m (n ∷ rest))) (receiving.Rcvd id (batch n rest)) refl
      same_doubt sending.Down = refl

  -- a receiver is up again
  pub rises : MovesUnmarking (At receiving.Down) (step.Recover Receiver ∷ []) (At receiving.Idle)
  rises =
      moves-to
      (calls (At receiving.Down) (step.Recover Receiver) tt)
      (state-eq _ _ (ap (λ (es : List Entry). es ++ entries false waiting) (same_current mode)) refl (same_doubt mode) refl refl)
    where
      same_current : (mode : SenderMode)
          → current mode receiving.Down from_receiver untaken ≡ current mode receiving.Idle from_receiver untaken
      same_current (sending.Quiet got) = refl
      same_current (sending.NeedId jd load) =
          ap (λ (b : Bool). entries b (sender.messages_in load)) (lost_same receiving.Down receiving.Idle jd from_receiver (λ x. refl))
      same_current (sending.Send x m) = refl
      same_current sending.Down = refl

      same_doubt : (mode : SenderMode)
          → is_known_in_doubt mode waiting untaken receiving.Down ≡ is_known_in_doubt mode waiting untaken receiving.Idle
      same_doubt (sending.Quiet got) = refl
      same_doubt (sending.NeedId jd m) = refl
      same_doubt (sending.Send x m) = same_known waiting untaken x m receiving.Down receiving.Idle refl
      same_doubt sending.Down = refl
