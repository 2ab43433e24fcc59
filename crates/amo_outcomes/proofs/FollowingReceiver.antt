-- A follower goes with its stream, at the receiver.
use Rattle.std.proofs.Common.{◌≡◌, ℕ, ◌<◌, Bool, true, false, not, eqb, Some, IfSome, List, [], ◌∷◌, ◌++◌, length, take, drop, set, slice_get, refl, sym, ◌∙◌, ap, subst, inl, inr, ◌⊎◌, arith}
use Rattle.std.specs.List.{Contains}
use Rattle.std.specs.Option.{unwrap_or}
use Rattle.std.proofs.lemmas.Bool.Decides.{eqb_tells}
use Rattle.std.proofs.lemmas.List.{append-nil, length-set, get_or-set_same, get_or-set_other}
use Rattle.std.proofs.lemmas.List.Elements.{Contains-append_left, Contains-append_right, Contains-append_cases}
use Rattle.std.proofs.lemmas.Option.{slice_get-get_or, get_or_from_slice_get}
use Rattle.amo_packet.specs.declared.packet.OwnedBody.{OwnedBody}
use Rattle.amo_packet.specs.declared.packet.OwnedBody.TheVariants as packet
use Rattle.amo_packet.specs.Batch.{Batch, alone}
use Rattle.amo_core.specs.declared.act.Act.{Act}
use Rattle.amo_core.specs.declared.act.Act.TheVariants as act
use Rattle.amo_core.specs.Row.{Row}
use Rattle.amo_core.specs.Receiver as receiver
use Rattle.amo_core.specs.declared.sender.SenderMode.{SenderMode}
use Rattle.amo_core.specs.declared.receiver.ReceiverMode.{ReceiverMode}
use Rattle.amo_core.specs.declared.receiver.ReceiverMode.TheVariants as receiving
use Rattle.amo_world.proofs.Lists.{contains_nothing, contains_cases, contains_first}
use Rattle.amo_outcomes.specs.Puts.{Puts, sent_under, called, receiver_moved}
use Rattle.amo_outcomes.specs.Outcome.{arriving}
use Rattle.amo_outcomes.specs.Places as places
use Rattle.amo_outcomes.specs.Places.{Kept, at_receiver, marked}
use Rattle.amo_outcomes.specs.Follower.{AreGot, IsAccepted}
use Rattle.amo_outcomes.proofs.Following.{Keeps}

-- a flag that is set
flag_set : (flags : List Bool) (put : ℕ) → put < length flags → slice_get (set flags put true) put ≡ Some true
flag_set flags put within =
    slice_get-get_or (set flags put true) put false (omega (arith, length-set flags put true, within))
    ∙ ap (λ (b : Bool). Some b) (get_or-set_same flags put true false within)

-- the others are as they were
flag_kept : (flags : List Bool) (put other : ℕ) (b : Bool) → other < length flags → (put ≡ other → ⊥) → slice_get flags other
    ≡ Some b
    → slice_get (set flags put true) other ≡ Some b
flag_kept flags put other b within apart is =
    slice_get-get_or (set flags put true) other false (omega (arith, length-set flags put true, within))
    ∙ ap (λ (x : Bool). Some x) (get_or-set_other flags put other true false (λ same. apart (sym same))
    ∙ get_or_from_slice_get flags other b false is)

-- one more was got
got_more : (flags : List Bool) (count : ℕ) (got : List ℕ) (first : ℕ) → AreGot flags count got → first < count
    → ((put : ℕ) → Contains got put → put < count) → AreGot (set flags first true) count (got ++ first ∷ [])
got_more flags count got first g within all = record {
  each = length-set flags first true ∙ g.each;
  yes = λ put c. yes put (Contains-append_cases got (first ∷ []) put c);
  no = λ put less none.
      flag_kept flags first put false (omega (arith, g.each, less))
      (λ same. none (subst (Contains (got ++ first ∷ [])) same (Contains-append_right got (first ∷ []) first
      (contains_first first []))))
      (g.no put less (λ c. none (Contains-append_left got (first ∷ []) put c)));
}
  where
    first_set : slice_get (set flags first true) first ≡ Some true
    first_set = flag_set flags first (omega (arith, g.each, within))

    by_number : (put : ℕ) → Contains got put → ((eqb first put ≡ true) × (first ≡ put)) ⊎ ((eqb first put ≡ false) × (first
        ≡ put → ⊥))
        → slice_get (set flags first true) put ≡ Some true
    by_number put c (inl h) = subst (λ (k : ℕ). slice_get (set flags first true) k ≡ Some true) h.1 first_set
    by_number put c (inr h) = flag_kept flags first put true (omega (arith, g.each, all put c)) h.1 (g.yes put c)

    yes : (put : ℕ) → Contains got put ⊎ Contains (first ∷ []) put → slice_get (set flags first true) put ≡ Some true
    yes put (inl c) = by_number put c (eqb_tells first put)
    yes put (inr c) = elim (contains_cases first [] put c) [
      | inl same ↦ subst (λ (k : ℕ). slice_get (set flags first true) k ≡ Some true) same first_set
      | inr none ↦ absurd (contains_nothing put none)
    ]

-- and where the first one that is held was got
got_given : (flags : List Bool) (count : ℕ) (got held : List ℕ) → AreGot flags count got → ((put : ℕ) → Contains held put
    → put < count)
    → ((put : ℕ) → Contains got put → put < count) → AreGot (marked flags (take 1 held)) count (got ++ take 1 held)
got_given flags count got [] g within all = subst (AreGot flags count) (sym (append-nil got)) g
got_given flags count got (first ∷ held) g within all = got_more flags count got first g (within first
    (contains_first first held)) all

module _ (mode : SenderMode) (n : ℕ) where
  abbrev state : ReceiverMode → receiver.ReceiverState
  state at = record { stream = n; mode = at }

  -- after a row of the receiver's table
  abbrev ReceiverKeeps : ReceiverMode → Act → Row receiver.ReceiverState → Kept → Puts → Type 0
  ReceiverKeeps at a row k p =
      Keeps (at_receiver (receiver.kind at) (receiver.kind row.state.mode) a k)
      mode row.state.mode (receiver_moved at row.state.mode (called a row.reply p))

  -- nothing arrives any more
  loses : (at now : ReceiverMode) (k : Kept) (p : Puts) (held : List ℕ) → Keeps k mode at p → arriving now p.sent held ≡ []
      → Keeps (places.lost k) mode now (record p { held = held })
  loses at now k p held keeps none = record { waiting = keeps.waiting; asked = keeps.asked; arrives = sym none; got = keeps.got }

  -- nothing happens, in an act that is no get
  stays : (at : ReceiverMode) (k : Kept) (p : Puts) → Keeps k mode at p
      → Keeps (places.if_lost (not (places.takes_in (receiver.kind at))) k) mode at (receiver_moved at at p)
  stays receiving.Idle k p keeps = loses receiving.Idle receiving.Idle k p p.held keeps refl
  stays (receiving.Accept jd id) k p keeps = keeps
  stays (receiving.Rcvd id b) k p keeps = keeps
  stays (receiving.Ack id) k p keeps = loses (receiving.Ack id) (receiving.Ack id) k p p.held keeps refl
  stays receiving.Down k p keeps = loses receiving.Down receiving.Down k p [] keeps refl

  needuid_keeps : (at : ReceiverMode) (jd word : ℕ) (j : ℕ) (k : Kept) (p : Puts) → Keeps k mode at p
      → IfSome (receiver.accepted_word at (packet.NeedUid jd) word) (λ w. sent_under p.sent w ≡ [])
      → ReceiverKeeps at (act.Deliver (record { stream = j; body = packet.NeedUid jd }) word) (receiver.needuid
      (state at) at jd word) k p
  needuid_keeps receiving.Idle jd word j k p keeps new =
      record { waiting = keeps.waiting; asked = keeps.asked; arrives = keeps.arrives ∙ sym new; got = keeps.got }
  needuid_keeps (receiving.Accept asked id) jd word j k p keeps new = elim (eqb_tells asked jd) [
    | inl h ↦ rw h.0 keeps
    | inr h ↦ rw h.0 keeps
  ]
  needuid_keeps (receiving.Rcvd id b) jd word j k p keeps new = keeps
  needuid_keeps (receiving.Ack id) jd word j k p keeps new = stays (receiving.Ack id) k p keeps
  needuid_keeps receiving.Down jd word j k p keeps new = stays receiving.Down k p keeps

  -- what arrives is held
  takes : (jd accepted id : ℕ) (b : Batch) (k : Kept) (p : Puts) → Keeps k mode (receiving.Accept jd accepted) p → accepted ≡ id
      → Keeps k mode (receiving.Rcvd id b) (record p { held = sent_under p.sent id })
  takes jd accepted id b k p keeps same = record {
    waiting = keeps.waiting;
    asked = keeps.asked;
    arrives = keeps.arrives ∙ ap (sent_under p.sent) same;
    got = keeps.got;
  }

  -- a batch that came, and so a send
  came_keeps : (at : ReceiverMode) (id : ℕ) (b : Batch) (k : Kept) (p : Puts) → Keeps k mode at p
      → (let row = receiver.batch (state at) at id b in
      Keeps (places.if_lost (not (places.takes_in (receiver.kind row.state.mode))) k) mode row.state.mode
      (receiver_moved at row.state.mode p))
  came_keeps receiving.Idle id b k p keeps = stays receiving.Idle k p keeps
  came_keeps (receiving.Accept jd accepted) id b k p keeps = elim (eqb_tells accepted id) [
    | inl h ↦ rw h.0 (takes jd accepted id b k p keeps h.1)
    | inr h ↦ rw h.0 keeps
  ]
  came_keeps (receiving.Rcvd under held) id b k p keeps = elim (eqb_tells under id) [
    | inl h ↦ rw h.0 keeps
    | inr h ↦ rw h.0 keeps
  ]
  came_keeps (receiving.Ack under) id b k p keeps = stays (receiving.Ack under) k p keeps
  came_keeps receiving.Down id b k p keeps = stays receiving.Down k p keeps

  cleanup_keeps : (at : ReceiverMode) (id : ℕ) (k : Kept) (p : Puts) → Keeps k mode at p
      → (let row = receiver.cleanup (state at) at id in
      Keeps (places.if_lost (not (places.takes_in (receiver.kind row.state.mode))) k) mode row.state.mode
      (receiver_moved at row.state.mode p))
  cleanup_keeps receiving.Idle id k p keeps = stays receiving.Idle k p keeps
  cleanup_keeps (receiving.Accept jd accepted) id k p keeps = elim (eqb_tells accepted id) [
    | inl h ↦ rw h.0 (loses (receiving.Accept jd accepted) receiving.Idle k p p.held keeps refl)
    | inr h ↦ rw h.0 keeps
  ]
  cleanup_keeps (receiving.Rcvd under held) id k p keeps = keeps
  cleanup_keeps (receiving.Ack under) id k p keeps = elim (eqb_tells under id) [
    | inl h ↦ rw h.0 (loses (receiving.Ack under) receiving.Idle k p p.held keeps refl)
    | inr h ↦ rw h.0 (stays (receiving.Ack under) k p keeps)
  ]
  cleanup_keeps receiving.Down id k p keeps = stays receiving.Down k p keeps

  deliver_keeps : (at : ReceiverMode) (body : OwnedBody) (word : ℕ) (j : ℕ) (k : Kept) (p : Puts) → Keeps k mode at p
      → IfSome (receiver.accepted_word at body word) (λ w. sent_under p.sent w ≡ [])
      → ReceiverKeeps at (act.Deliver (record { stream = j; body = body }) word) (receiver.deliver (state at) body word) k p
  deliver_keeps at (packet.NeedUid jd) word j k p keeps new = needuid_keeps at jd word j k p keeps new
  deliver_keeps at (packet.Accept jd id) word j k p keeps new = stays at k p keeps
  deliver_keeps at (packet.Send id m) word j k p keeps new = came_keeps at id (alone m) k p keeps
  deliver_keeps at (packet.Ack id got) word j k p keeps new = stays at k p keeps
  deliver_keeps at (packet.Cleanup id) word j k p keeps new = cleanup_keeps at id k p keeps
  deliver_keeps at (packet.Batch id b) word j k p keeps new = came_keeps at id b k p keeps

  -- the first put that is held is got
  gives : (id : ℕ) (b : Batch) (k : Kept) (p : Puts) → Keeps k mode (receiving.Rcvd id b) p → ((put : ℕ) → Contains p.got put
      → put < p.count)
      → ((put : ℕ) → Contains p.held put → put < p.count)
      → AreGot (marked k.got (take 1 k.arriving)) p.count (p.got ++ take 1 p.held)
  gives id b k p keeps within held =
      subst (λ (ns : List ℕ). AreGot (marked k.got (take 1 ns)) p.count (p.got ++ take 1 p.held)) (sym keeps.arrives)
      (got_given k.got p.count p.got p.held keeps.got held within)

  get_keeps : (at : ReceiverMode) (k : Kept) (p : Puts) → Keeps k mode at p → ((put : ℕ) → Contains p.got put → put < p.count)
      → ((put : ℕ) → Contains (arriving at p.sent p.held) put → put < p.count)
      → ReceiverKeeps at act.Get (receiver.get (state at) at) k p
  get_keeps receiving.Idle k p keeps within held = stays receiving.Idle k p keeps
  get_keeps (receiving.Accept jd id) k p keeps within held = keeps
  get_keeps (receiving.Rcvd id b) k p keeps within held = by b.rest
    where
      q : Puts
      q = record p { held = drop 1 p.held; got = p.got ++ take 1 p.held }

      by : (rest : List (List ℕ))
          → Keeps (places.if_lost (not (places.takes_in (receiver.kind (receiver.with_rest id rest)))) (places.given k)) mode
          (receiver.with_rest id rest)
          (receiver_moved (receiving.Rcvd id b) (receiver.with_rest id rest) q)
      by [] = record { waiting = keeps.waiting; asked = keeps.asked; arrives = refl; got = gives id b k p keeps within held }
      by (m ∷ rest) = record {
        waiting = keeps.waiting;
        asked = keeps.asked;
        arrives = ap (λ (ns : List ℕ). drop 1 ns) keeps.arrives;
        got = gives id b k p keeps within held;
      }
  get_keeps (receiving.Ack id) k p keeps within held = stays (receiving.Ack id) k p keeps
  get_keeps receiving.Down k p keeps within held = stays receiving.Down k p keeps

  crash_keeps : (at : ReceiverMode) (k : Kept) (p : Puts) → Keeps k mode at p
      → Keeps (places.lost k) mode receiving.Down (receiver_moved at receiving.Down p)
  crash_keeps receiving.Idle k p keeps = loses _ receiving.Down k p [] keeps refl
  crash_keeps (receiving.Accept jd id) k p keeps = loses _ receiving.Down k p [] keeps refl
  crash_keeps (receiving.Rcvd id b) k p keeps = loses _ receiving.Down k p [] keeps refl
  crash_keeps (receiving.Ack id) k p keeps = loses _ receiving.Down k p [] keeps refl
  crash_keeps receiving.Down k p keeps = loses _ receiving.Down k p [] keeps refl

  recover_keeps : (at : ReceiverMode) (k : Kept) (p : Puts) → Keeps k mode at p → ReceiverKeeps at act.Recover
      (receiver.recover (state at) at) k p
  recover_keeps receiving.Idle k p keeps = stays receiving.Idle k p keeps
  recover_keeps (receiving.Accept jd id) k p keeps = keeps
  recover_keeps (receiving.Rcvd id b) k p keeps = keeps
  recover_keeps (receiving.Ack id) k p keeps = stays (receiving.Ack id) k p keeps
  recover_keeps receiving.Down k p keeps = loses receiving.Down receiving.Idle k p p.held keeps refl

  resend_keeps : (at : ReceiverMode) (k : Kept) (p : Puts) → Keeps k mode at p → ReceiverKeeps at act.Resend (receiver.resend
      (state at) at) k p
  resend_keeps receiving.Idle k p keeps = stays receiving.Idle k p keeps
  resend_keeps (receiving.Accept jd id) k p keeps = keeps
  resend_keeps (receiving.Rcvd id b) k p keeps = keeps
  resend_keeps (receiving.Ack id) k p keeps = stays (receiving.Ack id) k p keeps
  resend_keeps receiving.Down k p keeps = stays receiving.Down k p keeps

  -- each row of the receiver's table
  pub receiver_keeps : (at : ReceiverMode) (a : Act) (k : Kept) (p : Puts) → Keeps k mode at p → ((put : ℕ)
      → Contains p.got put → put < p.count)
      → ((put : ℕ) → Contains (arriving at p.sent p.held) put → put < p.count)
      → IfSome (receiver.used_word (state at) a) (λ word. sent_under p.sent word ≡ [])
      → ReceiverKeeps at a (receiver.row (state at) a) k p
  receiver_keeps at (act.Put m) k p keeps within held new = stays at k p keeps
  receiver_keeps at act.Get k p keeps within held new = get_keeps at k p keeps within held
  receiver_keeps at act.Ack k p keeps within held new = stays at k p keeps
  receiver_keeps at (act.Start word) k p keeps within held new = stays at k p keeps
  receiver_keeps at (act.Batch word) k p keeps within held new = stays at k p keeps
  receiver_keeps at act.Resend k p keeps within held new = resend_keeps at k p keeps
  receiver_keeps at (act.Deliver b word) k p keeps within held new = deliver_keeps at b.body word b.stream k p keeps new
  receiver_keeps at act.Crash k p keeps within held new = crash_keeps at k p keeps
  receiver_keeps at act.Recover k p keeps within held new = recover_keeps at k p keeps

  -- the identifier that the receiver accepts, after a packet
  accepts_packet : (at : ReceiverMode) (body : OwnedBody) (word accepted : ℕ) → IsAccepted at accepted
      → IsAccepted (receiver.deliver (state at) body word).state.mode (unwrap_or (receiver.accepted_word at body word) accepted)
  accepts_packet receiving.Idle (packet.NeedUid jd) word accepted is = refl
  accepts_packet receiving.Idle (packet.Accept jd id) word accepted is = tt
  accepts_packet receiving.Idle (packet.Send id m) word accepted is = tt
  accepts_packet receiving.Idle (packet.Ack id got) word accepted is = tt
  accepts_packet receiving.Idle (packet.Cleanup id) word accepted is = tt
  accepts_packet receiving.Idle (packet.Batch id b) word accepted is = tt
  accepts_packet (receiving.Accept asked given) (packet.NeedUid jd) word accepted is = elim (eqb_tells asked jd) [
    | inl h ↦ rw h.0 is
    | inr h ↦ rw h.0 is
  ]
  accepts_packet (receiving.Accept asked given) (packet.Accept jd id) word accepted is = is
  accepts_packet (receiving.Accept asked given) (packet.Send id m) word accepted is = elim (eqb_tells given id) [
    | inl h ↦ rw h.0 tt
    | inr h ↦ rw h.0 is
  ]
  accepts_packet (receiving.Accept asked given) (packet.Ack id got) word accepted is = is
  accepts_packet (receiving.Accept asked given) (packet.Cleanup id) word accepted is = elim (eqb_tells given id) [
    | inl h ↦ rw h.0 tt
    | inr h ↦ rw h.0 is
  ]
  accepts_packet (receiving.Accept asked given) (packet.Batch id b) word accepted is = elim (eqb_tells given id) [
    | inl h ↦ rw h.0 tt
    | inr h ↦ rw h.0 is
  ]
  accepts_packet (receiving.Rcvd under held) (packet.Send id m) word accepted is = elim (eqb_tells under id) [
    | inl h ↦ rw h.0 tt
    | inr h ↦ rw h.0 tt
  ]
  accepts_packet (receiving.Rcvd under held) (packet.Batch id b) word accepted is = elim (eqb_tells under id) [
    | inl h ↦ rw h.0 tt
    | inr h ↦ rw h.0 tt
  ]
  accepts_packet (receiving.Rcvd under held) body word accepted is = tt
  accepts_packet (receiving.Ack under) (packet.Cleanup id) word accepted is = elim (eqb_tells under id) [
    | inl h ↦ rw h.0 tt
    | inr h ↦ rw h.0 tt
  ]
  accepts_packet (receiving.Ack under) body word accepted is = tt
  accepts_packet receiving.Down (packet.NeedUid jd) word accepted is = tt
  accepts_packet receiving.Down (packet.Send id m) word accepted is = tt
  accepts_packet receiving.Down body word accepted is = tt

  -- and after any act
  pub accepts : (at : ReceiverMode) (a : Act) (accepted : ℕ) → IsAccepted at accepted
      → IsAccepted (receiver.row (state at) a).state.mode (unwrap_or (receiver.used_word (state at) a) accepted)
  accepts at (act.Deliver b word) accepted is = accepts_packet at b.body word accepted is
  accepts receiving.Idle act.Get accepted is = tt
  accepts (receiving.Accept jd id) act.Get accepted is = is
  accepts (receiving.Rcvd id b) act.Get accepted is = rest b.rest
    where
      rest : (ms : List (List ℕ)) → IsAccepted (receiver.with_rest id ms) accepted
      rest [] = tt
      rest (m ∷ ms) = tt
  accepts (receiving.Ack id) act.Get accepted is = tt
  accepts receiving.Down act.Get accepted is = tt
  accepts receiving.Idle act.Recover accepted is = tt
  accepts (receiving.Accept jd id) act.Recover accepted is = is
  accepts (receiving.Rcvd id b) act.Recover accepted is = tt
  accepts (receiving.Ack id) act.Recover accepted is = tt
  accepts receiving.Down act.Recover accepted is = tt
  accepts receiving.Idle act.Resend accepted is = tt
  accepts (receiving.Accept jd id) act.Resend accepted is = is
  accepts (receiving.Rcvd id b) act.Resend accepted is = tt
  accepts (receiving.Ack id) act.Resend accepted is = tt
  accepts receiving.Down act.Resend accepted is = tt
  accepts at act.Crash accepted is = tt
  accepts at a accepted is = is
