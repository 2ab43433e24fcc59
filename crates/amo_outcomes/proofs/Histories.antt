-- Whole histories: what holds of the puts of a stream after each, and what each event more changes.
use Rattle.std.proofs.Common.{◌≡◌, ℕ, ◌+◌, Bool, true, false, eqb, Option, None, Some, IfSome, List, [], ◌∷◌, ◌++◌, length, refl, sym, ◌∙◌, ap, subst, inl, inr, ◌⊎◌, append_assoc, arith}
use Rattle.std.specs.List.{Contains}
use Rattle.std.specs.Option.{option_to_list}
use Rattle.std.proofs.lemmas.Bool.Decides.{eqb_tells}
use Rattle.std.proofs.lemmas.List.{append-nil}
use Rattle.std.proofs.lemmas.List.Elements.{filter_map-append}
use Rattle.amo_object.specs.declared.step.End.{End}
use Rattle.amo_object.specs.declared.step.End.TheVariants.{Sender, Receiver}
use Rattle.amo_object.specs.Delivery as delivery
use Rattle.amo_object.specs.Delivery.{messages_put, messages_got, IsSubsequence}
use Rattle.amo_core.specs.declared.act.Act.{Act}
use Rattle.amo_core.specs.declared.act.Act.TheVariants as act
use Rattle.amo_core.specs.declared.reply.Reply.{Reply}
use Rattle.amo_core.specs.declared.reply.Reply.TheVariants as reply
use Rattle.amo_core.specs.Receiver as receiver
use Rattle.amo_world.specs.declared.event.Event.{Event}
use Rattle.amo_world.specs.Stream.{Stream, after, reply_of}
use Rattle.amo_world.specs.History.{stream_after, after_if, WasEmitted, IsNewWord, IsRight, IsHonest, IsFresh}
use Rattle.amo_world.specs.Served.{call_of, calls, calls_and}
use Rattle.amo_world.proofs.Packets.{Any, IsAccept}
use Rattle.amo_world.proofs.Invariant.{Invariant}
use Rattle.amo_world.proofs.Serving.{stream_facts}
use Rattle.amo_outcomes.specs.Puts.{Puts, sent_under, acted, acted_if, puts_after}
use Rattle.amo_outcomes.specs.Outcome.{open_in}
use Rattle.amo_outcomes.proofs.Parts.{Rises, rises_part, rises_push, part_same}
use Rattle.amo_outcomes.proofs.Steps.{Steps, put_by, sender_steps, receiver_steps}
use Rattle.amo_outcomes.proofs.Ties.{TiesAt, message_put, message_got, sender_ties}
use Rattle.amo_outcomes.proofs.ReceiverTies.{receiver_ties}

-- the ties of a stream
abbrev pub Ties : Stream → Puts → List (List ℕ) → List (List ℕ) → Type 0
Ties s p taken gotten =
    TiesAt s.sender.state.mode s.sender.state.waiting s.receiver.state.mode s.sender.emitted s.receiver.emitted p taken gotten

act_ties : (s : Stream) (side : End) (a : Act) (p : Puts) (taken gotten : List (List ℕ)) → Ties s p taken gotten → Invariant s
    → WasEmitted s side a
    → Ties (after s side a) (acted s side a p) (taken ++ message_put a (reply_of s side a)) (gotten ++ message_got a
    (reply_of s side a))
act_ties s Sender a p taken gotten t f came =
    sender_ties s.receiver.state.mode s.sender.state.stream s.sender.emitted s.receiver.emitted s.untaken taken gotten
    s.sender.state.mode s.sender.state.waiting a p t f.sender came
act_ties s Receiver a p taken gotten t f came =
    receiver_ties s.sender.state.mode s.sender.state.waiting s.receiver.state.stream s.sender.emitted s.receiver.emitted taken gotten
    s.receiver.state.mode a p t came

-- the step of a stream
abbrev pub StepsOf : Stream → Puts → List ℕ → Stream → Puts → Type 0
StepsOf s p new t q = Steps s.sender.state.mode s.receiver.state.mode p new t.sender.state.mode t.receiver.state.mode q

act_steps : (s : Stream) (side : End) (a : Act) (p : Puts) → ((id : ℕ) → (Any (IsAccept id) s.receiver.emitted → ⊥)
    → sent_under p.sent id ≡ [])
    → Invariant s → IsNewWord s side a → StepsOf s p (put_by a (reply_of s side a) p.count) (after s side a) (acted s side a p)
act_steps s Sender a p unsent f new = sender_steps s.receiver.state.mode s.sender.state.stream s.sender.state.mode s.sender.state.waiting a p
act_steps s Receiver a p unsent f new =
    receiver_steps s.sender.state.mode s.receiver.state.stream s.receiver.state.mode a p
    (unused (receiver.used_word s.receiver.state a) new)
  where
    unused : (word : Option ℕ) → IfSome word (λ w. ¬ (Contains s.receiver.words w)) → IfSome word (λ w. sent_under p.sent w ≡ [])
    unused None new = tt
    unused (Some w) new = unsent w (λ accept. new (f.accept_words w accept))

-- an act puts nothing, or the next put
next_or_none : (a : Act) (r : Option Reply) (n : ℕ) → (put_by a r n ≡ []) ⊎ (put_by a r n ≡ n ∷ [])
next_or_none (act.Put m) None n = inl refl
next_or_none (act.Put m) (Some reply.Ok) n = inr refl
next_or_none (act.Put m) (Some r) n = inl refl
next_or_none a r n = inl refl

-- what is got or open rises on
rises_on : (s t : Stream) (p q : Puts) (new : List ℕ) → (new ≡ []) ⊎ (new ≡ p.count ∷ []) → StepsOf s p new t q
    → Rises 0 (p.got ++ open_in s p) p.count → Rises 0 (q.got ++ open_in t q) q.count
rises_on s t p q new (inl is) steps rises =
    subst (Rises 0 (q.got ++ open_in t q)) (omega (arith, steps.count, ap length is))
    (rises_part steps.part 0 p.count
    (subst (λ (ns : List ℕ). Rises 0 (p.got ++ (open_in s p ++ ns)) p.count) (sym is)
    (subst (λ (ns : List ℕ). Rises 0 (p.got ++ ns) p.count) (sym (append-nil (open_in s p))) rises)))
rises_on s t p q new (inr is) steps rises =
    subst (Rises 0 (q.got ++ open_in t q)) (omega (arith, steps.count, ap length is))
    (rises_part steps.part 0 (p.count + 1)
    (subst (λ (ns : List ℕ). Rises 0 (p.got ++ (open_in s p ++ ns)) (p.count + 1)) (sym is)
    (subst (λ (ns : List ℕ). Rises 0 ns (p.count + 1)) (append_assoc p.got (open_in s p) (p.count ∷ []))
    (rises_push 0 (p.got ++ open_in s p) p.count rises))))

-- what an event puts and gets, as its visible step says it
put_called : (side : End) (a : Act) (r : Reply) → messages_put (option_to_list (call_of side a r)) ≡ message_put a (Some r)
put_called side (act.Put m) reply.Ok = refl
put_called side (act.Put m) r = refl
put_called side act.Get reply.Down = refl
put_called side act.Get (reply.Got m) = refl
put_called side act.Get r = refl
put_called side act.Ack reply.Yes = refl
put_called side act.Ack reply.No = refl
put_called side act.Ack reply.Down = refl
put_called side act.Ack r = refl
put_called side a r = refl

got_called : (side : End) (a : Act) (r : Reply) → messages_got (option_to_list (call_of side a r)) ≡ message_got a (Some r)
got_called side (act.Put m) reply.Ok = refl
got_called side (act.Put m) r = refl
got_called side act.Get reply.Down = refl
got_called side act.Get (reply.Got m) = refl
got_called side act.Get r = refl
got_called side act.Ack reply.Yes = refl
got_called side act.Ack reply.No = refl
got_called side act.Ack reply.Down = refl
got_called side act.Ack r = refl
got_called side a r = refl

-- what holds of the puts of a stream after a history
pub record Told (number : ℕ) (events : List Event) : Type 0 where
  pub ties : Ties (stream_after number events) (puts_after number events) (messages_put (calls number events)) (messages_got
      (calls number events))
  pub rises : Rises 0 ((puts_after number events).got ++ open_in (stream_after number events) (puts_after number events))
      (puts_after number events).count

-- what an event more changes
pub record Goes (number : ℕ) (past : List Event) (e : Event) : Type 0 where
  pub new : List ℕ
  pub puts : (new ≡ []) ⊎ (new ≡ (puts_after number past).count ∷ [])
  pub steps : StepsOf (stream_after number past) (puts_after number past) new (stream_after number (e ∷ past))
      (puts_after number (e ∷ past))

-- nothing happens where the event is one of another stream
no_step : (s : Stream) (p : Puts) → StepsOf s p [] s p
no_step s p = record {
  part = subst (λ (ns : List ℕ). IsSubsequence (p.got ++ open_in s p) (p.got ++ ns)) (sym (append-nil (open_in s p)))
      (part_same (p.got ++ open_in s p));
  more = [];
  kept = sym (append-nil p.got);
  count = omega arith;
}

-- the same, once it is known whether the event is one of the stream
module _ (number : ℕ) (past : List Event) (e : Event) where
  abbrev s : Stream
  s = stream_after number past

  abbrev p : Puts
  p = puts_after number past

  goes_if : (here : Bool) → (here ≡ true → e.stream ≡ number)
      → ((id : ℕ) → (Any (IsAccept id) s.receiver.emitted → ⊥) → sent_under p.sent id ≡ []) → Invariant s
      → (e.stream ≡ number → IsNewWord s e.side e.act)
      → (new : List ℕ) × ((new ≡ []) ⊎ (new ≡ p.count ∷ [])) × StepsOf s p new (after_if here s e) (acted_if here s e p)
  goes_if true same unsent f new = (
    put_by e.act (reply_of s e.side e.act) p.count,
    next_or_none e.act
        (reply_of s e.side e.act) p.count,
    act_steps s e.side e.act p unsent f (new (same refl)),
  )
  goes_if false same unsent f new = ([], inl refl, no_step s p)

  ties_if : (here : Bool) → (here ≡ true → e.stream ≡ number) → Ties s p (messages_put (calls number past)) (messages_got
      (calls number past))
      → Invariant s → (e.stream ≡ number → WasEmitted s e.side e.act) → (e.stream ≡ number → reply_of s e.side e.act
      ≡ Some e.reply)
      → (let steps = calls_and here (calls number past) e in
      Ties (after_if here s e) (acted_if here s e p) (messages_put steps) (messages_got steps))
  ties_if true same t f came right =
      subst (λ (ms : List (List ℕ)). Ties (after s e.side e.act) (acted s e.side e.act p) ms (messages_got
      (calls number past ++ option_to_list (call_of e.side e.act e.reply)))) put_is
      (subst (Ties (after s e.side e.act) (acted s e.side e.act p) (messages_put (calls number past) ++ message_put e.act
      (reply_of s e.side e.act))) got_is
      (act_ties s e.side e.act p (messages_put (calls number past)) (messages_got (calls number past)) t f (came (same refl))))
    where
      put_is : messages_put (calls number past) ++ message_put e.act (reply_of s e.side e.act)
          ≡ messages_put (calls number past ++ option_to_list (call_of e.side e.act e.reply))
      put_is =
          ap (λ (r : Option Reply). messages_put (calls number past) ++ message_put e.act r) (right (same refl))
          ∙ ap (λ (ms : List (List ℕ)). messages_put (calls number past) ++ ms) (sym (put_called e.side e.act e.reply))
          ∙ sym (filter_map-append delivery.message_put (calls number past) (option_to_list (call_of e.side e.act e.reply)))

      got_is : messages_got (calls number past) ++ message_got e.act (reply_of s e.side e.act)
          ≡ messages_got (calls number past ++ option_to_list (call_of e.side e.act e.reply))
      got_is =
          ap (λ (r : Option Reply). messages_got (calls number past) ++ message_got e.act r) (right (same refl))
          ∙ ap (λ (ms : List (List ℕ)). messages_got (calls number past) ++ ms) (sym (got_called e.side e.act e.reply))
          ∙ sym (filter_map-append delivery.message_got (calls number past) (option_to_list (call_of e.side e.act e.reply)))
  ties_if false same t f came right = t

-- an event is one of the stream where the numbers are the same
pub same_stream : (number : ℕ) (e : Event) → eqb number e.stream ≡ true → e.stream ≡ number
same_stream number e here = elim (eqb_tells number e.stream) [ inl h ↦ sym h.1 | inr h ↦ absurd (differ h.0 here) ]
  where
    differ : eqb number e.stream ≡ false → eqb number e.stream ≡ true → ⊥
    differ is_false is_true = cc

-- an event more goes on from a history of which it holds
pub goes : (number : ℕ) (past : List Event) (e : Event) → IsRight (e ∷ past) → IsHonest (e ∷ past) → IsFresh (e ∷ past)
    → Told number past
    → Goes number past e
goes number past e right honest fresh before =
    let g = goes_if number past e (eqb number e.stream) (same_stream number e) before.ties.unsent
    (stream_facts number past honest.1 fresh.1)
    (λ is. subst (λ (n : ℕ). IsNewWord (stream_after n past) e.side e.act) is fresh.0) in
    record { new = g.0; puts = g.1; steps = g.2 }

-- it holds after each history
pub told : (number : ℕ) (events : List Event) → IsRight events → IsHonest events → IsFresh events → Told number events
told number [] right honest fresh = record {
  ties = record {
    count = refl;
    waiting_are = tt;
    carried_are = tt;
    sent_are = λ id ms none. absurd none;
    unsent = λ id none. refl;
    held_are = tt;
    got_are = tt;
  };
  rises = omega arith;
}
told number (e ∷ past) right honest fresh =
    let before = told number past right.1 honest.1 fresh.1 in
    let more = goes number past e right honest fresh before in record {
      ties =
          ties_if number past e (eqb number e.stream) (same_stream number e) before.ties
          (stream_facts number past honest.1 fresh.1)
          (λ is. subst (λ (n : ℕ). WasEmitted (stream_after n past) e.side e.act) is honest.0)
          (λ is. subst (λ (n : ℕ). reply_of (stream_after n past) e.side e.act ≡ Some e.reply) is right.0);
      rises =
          rises_on (stream_after number past) (stream_after number (e ∷ past)) (puts_after number past) (puts_after number
          (e ∷ past)) more.new
          more.puts more.steps before.rises;
    }
