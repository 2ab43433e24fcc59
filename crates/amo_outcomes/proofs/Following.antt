-- A follower goes with its stream.
use Rattle.std.proofs.Common.{◌≡◌, ℕ, zero, suc, ◌+◌, ◌<◌, Bool, true, false, ◌&&◌, eqb, if◌then◌else◌, Some, List, [], ◌∷◌, ◌++◌, length, take, drop, slice_get, refl, sym, ◌∙◌, ap, subst, inl, inr, ◌⊎◌, arith}
use Rattle.std.specs.List.{Contains}
use Rattle.std.proofs.lemmas.Bool.Decides.{eqb_tells}
use Rattle.std.proofs.lemmas.List.{length-append}
use Rattle.amo_packet.specs.declared.packet.OwnedBody.{OwnedBody}
use Rattle.amo_packet.specs.declared.packet.OwnedBody.TheVariants as packet
use Rattle.amo_core.specs.declared.act.Act.{Act}
use Rattle.amo_core.specs.declared.act.Act.TheVariants as act
use Rattle.amo_core.specs.declared.reply.Reply.{Reply}
use Rattle.amo_core.specs.declared.reply.Reply.TheVariants as reply
use Rattle.amo_core.specs.declared.payload.Payload.{Payload}
use Rattle.amo_core.specs.Row.{Row, silent}
use Rattle.amo_core.specs.Sender as sender
use Rattle.amo_core.specs.Sender.{messages_in}
use Rattle.amo_core.specs.Receiver as receiver
use Rattle.amo_core.specs.declared.sender.SenderMode.{SenderMode}
use Rattle.amo_core.specs.declared.sender.SenderMode.TheVariants as sending
use Rattle.amo_core.specs.declared.receiver.ReceiverMode.{ReceiverMode}
use Rattle.amo_core.specs.declared.receiver.ReceiverMode.TheVariants as receiving
use Rattle.amo_world.proofs.Lists.{some_injective, slice_get-longer, slice_get-end}
use Rattle.amo_outcomes.specs.Puts.{Puts, sent_under, called, sender_moved}
use Rattle.amo_outcomes.specs.Outcome.{arriving}
use Rattle.amo_outcomes.specs.Places as places
use Rattle.amo_outcomes.specs.Places.{Kept, at_sender, at_receiver, marked}
use Rattle.amo_outcomes.specs.Follower.{AreGot, AreAsked, IsAccepted, brings, is_accept}

-- the places of puts, in these modes
pub record Keeps (k : Kept) (mode : SenderMode) (at : ReceiverMode) (p : Puts) : Type 0 where
  pub waiting : k.waiting ≡ p.waiting
  pub asked : AreAsked mode k.asked p.carried
  pub arrives : k.arriving ≡ arriving at p.sent p.held
  pub got : AreGot k.got p.count p.got

-- as many of one list as another has, up to a number
drop_as_many : (n : ℕ) (ms : List (List ℕ)) (ns : List ℕ) → length ns ≡ length ms → drop n ns ≡ drop (length (take n ms)) ns
drop_as_many zero ms ns same = refl
drop_as_many (suc n) [] [] same = refl
drop_as_many (suc n) [] (k ∷ ns) same = absurd (omega (arith, same))
drop_as_many (suc n) (m ∷ ms) [] same = refl
drop_as_many (suc n) (m ∷ ms) (k ∷ ns) same = drop_as_many n ms ns (omega (arith, same))

take_as_many : (n : ℕ) (ms : List (List ℕ)) (ns : List ℕ) → length ns ≡ length ms → take n ns ≡ take (length (take n ms)) ns
take_as_many zero ms ns same = refl
take_as_many (suc n) [] [] same = refl
take_as_many (suc n) [] (k ∷ ns) same = absurd (omega (arith, same))
take_as_many (suc n) (m ∷ ms) [] same = refl
take_as_many (suc n) (m ∷ ms) (k ∷ ns) same = ap (λ (xs : List ℕ). k ∷ xs) (take_as_many n ms ns (omega (arith, same)))

-- one put more, which was not got
got_longer : (flags : List Bool) (count : ℕ) (got : List ℕ) → AreGot flags count got → ((put : ℕ) → Contains got put
    → put < count)
    → AreGot (flags ++ false ∷ []) (count + 1) got
got_longer flags count got g within = record {
  each = omega (arith, length-append flags (false ∷ []), g.each);
  yes = λ put c. slice_get-longer flags (false ∷ []) put true (g.yes put c);
  no = λ put less none. not_got put less none (eqb_tells put count);
}
  where
    not_got : (put : ℕ) → put < count + 1 → (¬ (Contains got put))
        → ((eqb put count ≡ true) × (put ≡ count)) ⊎ ((eqb put count ≡ false) × (put ≡ count → ⊥))
        → slice_get (flags ++ false ∷ []) put ≡ Some false
    not_got put less none (inl h) =
        subst (λ (k : ℕ). slice_get (flags ++ false ∷ []) k ≡ Some false) (g.each ∙ sym h.1) (slice_get-end flags false)
    not_got put less none (inr h) =
        slice_get-longer flags (false ∷ []) put false (g.no put (omega (arith, less, h.1)) none)

module _ (at : ReceiverMode) (n : ℕ) (accepted : ℕ) (is : IsAccepted at accepted) where
  abbrev state : SenderMode → List (List ℕ) → sender.SenderState
  state mode waiting = record { stream = n; mode = mode; waiting = waiting }

  -- after a row of the sender's table, with this reply
  abbrev SenderKeeps : SenderMode → Act → Reply → Row sender.SenderState → Kept → Puts → Type 0
  SenderKeeps mode a r row k p =
      Keeps (at_sender (sender.kind mode) (sender.kind row.state.mode) a r (is_accept (receiver.kind at) && brings a accepted) k)
      row.state.mode at (sender_moved mode row.state.mode (called a row.reply p))

  -- in another mode, in which no identifier is asked for
  in_mode : (mode now : SenderMode) (k : Kept) (p : Puts) → Keeps k mode at p → AreAsked now k.asked p.carried → Keeps k now at p
  in_mode mode now k p keeps asked = record { waiting = keeps.waiting; asked = asked; arrives = keeps.arrives; got = keeps.got }

  -- what waits is forgotten
  forgets : (mode : SenderMode) (k : Kept) (p : Puts) → Keeps k mode at p
      → Keeps (places.forgotten k) sending.Down at (record p { waiting = [] })
  forgets mode k p keeps = record { waiting = refl; asked = tt; arrives = keeps.arrives; got = keeps.got }

  puts : (mode : SenderMode) (k : Kept) (p : Puts) → Keeps k mode at p → ((put : ℕ) → Contains p.got put → put < p.count)
      → Keeps (record k { waiting = k.waiting ++ length k.got ∷ []; got = k.got ++ false ∷ [] }) mode at
      (record p { count = p.count + 1; waiting = p.waiting ++ p.count ∷ [] })
  puts mode k p keeps within = record {
    waiting = subst (λ (c : ℕ). k.waiting ++ length k.got ∷ [] ≡ p.waiting ++ c ∷ []) keeps.got.each
        (ap (λ (ns : List ℕ). ns ++ length k.got ∷ []) keeps.waiting);
    asked = keeps.asked;
    arrives = keeps.arrives;
    got = got_longer k.got p.count p.got keeps.got within;
  }

  put_either : (full : Bool) (mode : SenderMode) (waiting : List (List ℕ)) (m : List ℕ) (r : Reply) (k : Kept) (p : Puts)
      → Keeps k mode at p → ((put : ℕ) → Contains p.got put → put < p.count)
      → ((q : Puts) → sender_moved mode mode q ≡ q)
      → ((here : Bool) → at_sender (sender.kind mode) (sender.kind mode) (act.Put m) r here k ≡ places.if_put (places.is_put (act.Put m) r) k)
      → (let row = if full then silent (state mode waiting) reply.Full else silent (state mode (waiting ++ m ∷ [])) reply.Ok in
      row.reply ≡ Some r → SenderKeeps mode (act.Put m) r row k p)
  put_either true mode waiting m r k p keeps within same calls right =
      subst (λ (x : Kept). Keeps x mode at (sender_moved mode mode p)) (sym (calls (is_accept (receiver.kind at) && brings
      (act.Put m) accepted)))
      (subst (λ (x : Reply). Keeps (places.if_put (places.is_put (act.Put m) x) k) mode at (sender_moved mode mode p))
      (some_injective reply.Full r right)
      (subst (Keeps k mode at) (sym (same p)) keeps))
  put_either false mode waiting m r k p keeps within same calls right =
      let q : Puts = record p { count = p.count + 1; waiting = p.waiting ++ p.count ∷ [] } in
      subst (λ (x : Kept). Keeps x mode at (sender_moved mode mode q)) (sym (calls (is_accept (receiver.kind at) && brings
      (act.Put m) accepted)))
      (subst (λ (x : Reply). Keeps (places.if_put (places.is_put (act.Put m) x) k) mode at (sender_moved mode mode q))
      (some_injective reply.Ok r right)
      (subst (Keeps (places.if_put (places.is_put (act.Put m) reply.Ok) k) mode at) (sym (same q)) (puts mode k p keeps within)))

  put_keeps : (mode : SenderMode) (waiting : List (List ℕ)) (m : List ℕ) (r : Reply) (k : Kept) (p : Puts) → Keeps k mode at p
      → ((put : ℕ) → Contains p.got put → put < p.count) → (sender.put (state mode waiting) mode m).reply ≡ Some r
      → SenderKeeps mode (act.Put m) r (sender.put (state mode waiting) mode m) k p
  put_keeps (sending.Quiet got) waiting m r k p keeps within right =
      put_either (eqb (length waiting) 16) (sending.Quiet got) waiting m r k p keeps within (λ q. refl) (λ here. refl) right
  put_keeps (sending.NeedId jd load) waiting m r k p keeps within right =
      put_either (eqb (length waiting) 16) (sending.NeedId jd load) waiting m r k p keeps within (λ q. refl) (λ here. refl) right
  put_keeps (sending.Send id load) waiting m r k p keeps within right =
      put_either (eqb (length waiting) 16) (sending.Send id load) waiting m r k p keeps within (λ q. refl) (λ here. refl) right
  put_keeps sending.Down waiting m r k p keeps within right = forgets sending.Down k p keeps

  get_ack_keeps : (mode : SenderMode) (waiting : List (List ℕ)) (r : Reply) (k : Kept) (p : Puts) → Keeps k mode at p
      → SenderKeeps mode act.Ack r (sender.get_ack (state mode waiting) mode waiting) k p
  get_ack_keeps (sending.Quiet true) [] r k p keeps = keeps
  get_ack_keeps (sending.Quiet true) (m ∷ waiting) r k p keeps = keeps
  get_ack_keeps (sending.Quiet false) [] r k p keeps = keeps
  get_ack_keeps (sending.Quiet false) (m ∷ waiting) r k p keeps = keeps
  get_ack_keeps (sending.NeedId jd load) waiting r k p keeps = keeps
  get_ack_keeps (sending.Send id load) waiting r k p keeps = keeps
  get_ack_keeps sending.Down waiting r k p keeps = forgets sending.Down k p keeps

  start_keeps : (mode : SenderMode) (waiting : List (List ℕ)) (word : ℕ) (r : Reply) (k : Kept) (p : Puts) → Keeps k mode at p
      → SenderKeeps mode (act.Start word) r (sender.start (state mode waiting) mode waiting word) k p
  start_keeps (sending.Quiet got) [] word r k p keeps = keeps
  start_keeps (sending.Quiet got) (m ∷ waiting) word r k p keeps = record {
    waiting = ap (λ (ns : List ℕ). drop 1 ns) keeps.waiting;
    asked = ap (λ (ns : List ℕ). take 1 ns) keeps.waiting;
    arrives = keeps.arrives;
    got = keeps.got;
  }
  start_keeps (sending.NeedId jd load) waiting word r k p keeps = keeps
  start_keeps (sending.Send id load) waiting word r k p keeps = keeps
  start_keeps sending.Down waiting word r k p keeps = forgets sending.Down k p keeps

  batch_keeps : (mode : SenderMode) (waiting : List (List ℕ)) (word : ℕ) (r : Reply) (k : Kept) (p : Puts) → Keeps k mode at p
      → length p.waiting ≡ length waiting
      → SenderKeeps mode (act.Batch word) r (sender.start_batch (state mode waiting) mode waiting word) k p
  batch_keeps (sending.Quiet got) [] word r k p keeps many = keeps
  batch_keeps (sending.Quiet got) (m ∷ waiting) word r k p keeps many = record {
    waiting = ap (λ (ns : List ℕ). drop 4 ns) keeps.waiting ∙ drop_as_many 4 (m ∷ waiting) p.waiting many;
    asked = ap (λ (ns : List ℕ). take 4 ns) keeps.waiting ∙ take_as_many 4 (m ∷ waiting) p.waiting many;
    arrives = keeps.arrives;
    got = keeps.got;
  }
  batch_keeps (sending.NeedId jd load) waiting word r k p keeps many = keeps
  batch_keeps (sending.Send id load) waiting word r k p keeps many = keeps
  batch_keeps sending.Down waiting word r k p keeps many = forgets sending.Down k p keeps

  resend_keeps : (mode : SenderMode) (waiting : List (List ℕ)) (r : Reply) (k : Kept) (p : Puts) → Keeps k mode at p
      → SenderKeeps mode act.Resend r (sender.resend (state mode waiting) mode) k p
  resend_keeps (sending.Quiet got) waiting r k p keeps = keeps
  resend_keeps (sending.NeedId jd load) waiting r k p keeps = keeps
  resend_keeps (sending.Send id load) waiting r k p keeps = keeps
  resend_keeps sending.Down waiting r k p keeps = forgets sending.Down k p keeps

  -- what was asked for is sent under an identifier: it arrives where the receiver accepts that
  sends : (jd id : ℕ) (load : Payload) (k : Kept) (p : Puts) → Keeps k (sending.NeedId jd load) at p
      → Keeps (places.if_arrived (is_accept (receiver.kind at) && eqb id accepted) k) (sending.Send id load) at
      (record p { sent = record { id = id; puts = p.carried } ∷ p.sent })
  sends jd id load k p keeps = by at is keeps.arrives
    where
      q : Puts
      q = record p { sent = record { id = id; puts = p.carried } ∷ p.sent }

      stays : (there : ReceiverMode) → arriving there q.sent q.held ≡ arriving there p.sent p.held → k.arriving
          ≡ arriving there p.sent p.held
          → Keeps k (sending.Send id load) there q
      stays there same arrives = record { waiting = keeps.waiting; asked = tt; arrives = arrives ∙ sym same; got = keeps.got }

      either : (here : Bool) (jd' given : ℕ) → eqb id given ≡ here → k.arriving ≡ sent_under p.sent given
          → Keeps (places.if_arrived here k) (sending.Send id load) (receiving.Accept jd' given) q
      either true jd' given same arrives = record {
        waiting = keeps.waiting;
        asked = tt;
        arrives = keeps.asked ∙ ap (λ (b : Bool). if b then p.carried else sent_under p.sent given) (sym same);
        got = keeps.got;
      }
      either false jd' given same arrives = record {
        waiting = keeps.waiting;
        asked = tt;
        arrives = arrives ∙ ap (λ (b : Bool). if b then p.carried else sent_under p.sent given) (sym same);
        got = keeps.got;
      }

      by : (there : ReceiverMode) → IsAccepted there accepted → k.arriving ≡ arriving there p.sent p.held
          → Keeps (places.if_arrived (is_accept (receiver.kind there) && eqb id accepted) k)
          (sending.Send id load) there q
      by receiving.Idle is arrives = stays receiving.Idle refl arrives
      by (receiving.Accept jd' given) is arrives =
          subst (λ (x : ℕ). Keeps (places.if_arrived (eqb id x) k) (sending.Send id load)
          (receiving.Accept jd' given) q) (sym is)
          (either (eqb id given) jd' given refl arrives)
      by (receiving.Rcvd under b) is arrives = stays (receiving.Rcvd under b) refl arrives
      by (receiving.Ack under) is arrives = stays (receiving.Ack under) refl arrives
      by receiving.Down is arrives = stays receiving.Down refl arrives

  accept_keeps : (mode : SenderMode) (waiting : List (List ℕ)) (jd id word : ℕ) (j : ℕ) (r : Reply) (k : Kept) (p : Puts)
      → Keeps k mode at p
      → SenderKeeps mode (act.Deliver (record { stream = j; body = packet.Accept jd id }) word) r (sender.accept
      (state mode waiting) mode jd id) k p
  accept_keeps (sending.Quiet got) waiting jd id word j r k p keeps = keeps
  accept_keeps (sending.NeedId asked load) waiting jd id word j r k p keeps = elim (eqb_tells asked jd) [
    | inl h ↦ rw h.0 (sends asked id load k p keeps)
    | inr h ↦ rw h.0 keeps
  ]
  accept_keeps (sending.Send under load) waiting jd id word j r k p keeps = elim (eqb_tells under id) [
    | inl h ↦ rw h.0 keeps
    | inr h ↦ rw h.0 keeps
  ]
  accept_keeps sending.Down waiting jd id word j r k p keeps = forgets sending.Down k p keeps

  ack_keeps : (mode : SenderMode) (waiting : List (List ℕ)) (id : ℕ) (got : Bool) (word : ℕ) (j : ℕ) (r : Reply) (k : Kept)
      (p : Puts)
      → Keeps k mode at p
      → SenderKeeps mode (act.Deliver (record { stream = j; body = packet.Ack id got }) word) r (sender.ack
      (state mode waiting) mode id got) k p
  ack_keeps (sending.Quiet was) waiting id true word j r k p keeps = keeps
  ack_keeps (sending.Quiet was) waiting id false word j r k p keeps = keeps
  ack_keeps (sending.NeedId jd load) waiting id true word j r k p keeps = keeps
  ack_keeps (sending.NeedId jd load) waiting id false word j r k p keeps = keeps
  ack_keeps (sending.Send under load) waiting id true word j r k p keeps = elim (eqb_tells under id) [
    | inl h ↦ rw h.0 (in_mode (sending.Send under load) (sending.Quiet true) k p keeps tt)
    | inr h ↦ rw h.0 keeps
  ]
  ack_keeps (sending.Send under load) waiting id false word j r k p keeps = elim (eqb_tells under id) [
    | inl h ↦ rw h.0 (in_mode (sending.Send under load) (sending.Quiet false) k p keeps tt)
    | inr h ↦ rw h.0 keeps
  ]
  ack_keeps sending.Down waiting id got word j r k p keeps = forgets sending.Down k p keeps

  -- nothing happens
  stays : (mode : SenderMode) (a : Act) (r : Reply) (k : Kept) (p : Puts) → Keeps k mode at p → places.if_put (places.is_put a r) k ≡ k
      → Keeps (at_sender (sender.kind mode) (sender.kind mode) a r (is_accept
      (receiver.kind at) && brings a accepted) k) mode at (sender_moved mode mode p)
  stays (sending.Quiet got) a r k p keeps same = subst (λ (x : Kept). Keeps x (sending.Quiet got) at p) (sym same) keeps
  stays (sending.NeedId jd load) a r k p keeps same = subst (λ (x : Kept). Keeps x (sending.NeedId jd load) at p) (sym same) keeps
  stays (sending.Send id load) a r k p keeps same = subst (λ (x : Kept). Keeps x (sending.Send id load) at p) (sym same) keeps
  stays sending.Down a r k p keeps same = forgets sending.Down k p keeps

  deliver_keeps : (mode : SenderMode) (waiting : List (List ℕ)) (body : OwnedBody) (word : ℕ) (j : ℕ) (r : Reply) (k : Kept)
      (p : Puts)
      → Keeps k mode at p
      → SenderKeeps mode (act.Deliver (record { stream = j; body = body }) word) r (sender.deliver (state mode waiting) body) k p
  deliver_keeps mode waiting (packet.NeedUid jd) word j r k p keeps = stays mode _ r k p keeps refl
  deliver_keeps mode waiting (packet.Accept jd id) word j r k p keeps = accept_keeps mode waiting jd id word j r k p keeps
  deliver_keeps mode waiting (packet.Send id m) word j r k p keeps = stays mode _ r k p keeps refl
  deliver_keeps mode waiting (packet.Ack id got) word j r k p keeps = ack_keeps mode waiting id got word j r k p keeps
  deliver_keeps mode waiting (packet.Cleanup id) word j r k p keeps = stays mode _ r k p keeps refl
  deliver_keeps mode waiting (packet.Batch id b) word j r k p keeps = stays mode _ r k p keeps refl

  crash_keeps : (mode : SenderMode) (r : Reply) (k : Kept) (p : Puts) → Keeps k mode at p
      → Keeps (at_sender (sender.kind mode) (sender.kind sending.Down) act.Crash r (is_accept
      (receiver.kind at) && false) k) sending.Down at
      (sender_moved mode sending.Down p)
  crash_keeps (sending.Quiet got) r k p keeps = forgets _ k p keeps
  crash_keeps (sending.NeedId jd load) r k p keeps = forgets _ k p keeps
  crash_keeps (sending.Send id load) r k p keeps = forgets _ k p keeps
  crash_keeps sending.Down r k p keeps = forgets _ k p keeps

  recover_keeps : (mode : SenderMode) (waiting : List (List ℕ)) (r : Reply) (k : Kept) (p : Puts) → Keeps k mode at p
      → SenderKeeps mode act.Recover r (sender.recover (state mode waiting) mode) k p
  recover_keeps (sending.Quiet got) waiting r k p keeps = keeps
  recover_keeps (sending.NeedId jd load) waiting r k p keeps = keeps
  recover_keeps (sending.Send id load) waiting r k p keeps = keeps
  recover_keeps sending.Down waiting r k p keeps = in_mode sending.Down (sending.Quiet false) k p keeps tt

  -- each row of the sender's table
  pub sender_keeps : (mode : SenderMode) (waiting : List (List ℕ)) (a : Act) (r : Reply) (k : Kept) (p : Puts) → Keeps k mode at p
      → ((put : ℕ) → Contains p.got put → put < p.count) → length p.waiting ≡ length waiting
      → (sender.row (state mode waiting) a).reply ≡ Some r
      → SenderKeeps mode a r (sender.row (state mode waiting) a) k p
  sender_keeps mode waiting (act.Put m) r k p keeps within many right = put_keeps mode waiting m r k p keeps within right
  sender_keeps mode waiting act.Get r k p keeps within many right = stays mode act.Get r k p keeps refl
  sender_keeps mode waiting act.Ack r k p keeps within many right = get_ack_keeps mode waiting r k p keeps
  sender_keeps mode waiting (act.Start word) r k p keeps within many right = start_keeps mode waiting word r k p keeps
  sender_keeps mode waiting (act.Batch word) r k p keeps within many right = batch_keeps mode waiting word r k p keeps many
  sender_keeps mode waiting act.Resend r k p keeps within many right = resend_keeps mode waiting r k p keeps
  sender_keeps mode waiting (act.Deliver b word) r k p keeps within many right = deliver_keeps mode waiting b.body word b.stream r k p keeps
  sender_keeps mode waiting act.Crash r k p keeps within many right = crash_keeps mode r k p keeps
  sender_keeps mode waiting act.Recover r k p keeps within many right = recover_keeps mode waiting r k p keeps
