-- A follower after an event of its stream.
use Rattle.std.proofs.Common.{◌≡◌, ℕ, suc, ◌<◌, Bool, ◌&&◌, Option, None, Some, IfSome, List, [], ◌∷◌, ◌++◌, length, refl, sym, ◌∙◌, ap, subst}
use Rattle.std.specs.List.{Contains}
use Rattle.std.specs.Option.{unwrap_or}
use Rattle.std.proofs.lemmas.Bool.{eq-eqb}
use Rattle.std.proofs.lemmas.List.Elements.{Contains-append_left, Contains-append_right}
use Rattle.amo_object.specs.declared.step.End.{End}
use Rattle.amo_object.specs.declared.step.End.TheVariants.{Sender, Receiver}
use Rattle.amo_object.specs.Delivery.{messages_put}
use Rattle.amo_core.specs.declared.act.Act.{Act}
use Rattle.amo_core.specs.declared.reply.Reply.{Reply}
use Rattle.amo_core.specs.declared.automaton.Automaton.{Automaton}
use Rattle.amo_core.specs.declared.automaton.Automaton.TheVariants as automaton
use Rattle.amo_core.specs.Automaton.{row, mode_of, used_word}
use Rattle.amo_core.specs.Receiver as receiver
use Rattle.amo_world.specs.declared.event.Event.{Event}
use Rattle.amo_world.specs.Stream.{Stream, after, reply_of}
use Rattle.amo_world.specs.History.{stream_before, after_if, IsNewWord, IsRight, IsHonest, IsFresh}
use Rattle.amo_world.specs.Served.{calls}
use Rattle.amo_world.proofs.Serving.{stream_facts}
use Rattle.amo_world.proofs.Invariant.{Invariant}
use Rattle.amo_outcomes.specs.declared.follower.Follower.{Follower}
use Rattle.amo_outcomes.specs.Puts.{Puts, sent_under, acted, acted_if, puts_after}
use Rattle.amo_outcomes.specs.Outcome.{AreOf, arriving, asking, open_in}
use Rattle.amo_outcomes.specs.Places.{Kept, at_sender, at_receiver}
use Rattle.amo_outcomes.specs.Follower.{IsAccepted, Follows, IsFollowed, brings, is_accept}
use Rattle.amo_outcomes.proofs.Parts.{rises_contains}
use Rattle.amo_outcomes.proofs.Histories.{Told, told}
use Rattle.amo_outcomes.proofs.Following.{Keeps, sender_keeps}
use Rattle.amo_outcomes.proofs.FollowingReceiver.{receiver_keeps, accepts}

-- there is a message for each put
of_length : (taken : List (List ℕ)) (puts : List ℕ) (ms : List (List ℕ)) → AreOf taken puts ms → length puts ≡ length ms
of_length taken [] [] are = refl
of_length taken [] (m ∷ ms) are = absurd are
of_length taken (put ∷ puts) [] are = absurd are
of_length taken (put ∷ puts) (m ∷ ms) are = ap (λ (n : ℕ). suc n) (of_length taken puts ms are.1)

keeps_of : (f : Follower) (s : Stream) (p : Puts) → Follows f s p → Keeps f.places s.sender.state.mode s.receiver.state.mode p
keeps_of f s p follows = record { waiting = follows.waiting; asked = follows.asked; arrives = follows.arriving; got = follows.got }

-- after an act at the sender
sender_follows : (f g : Follower) (s : Stream) (a : Act) (r : Reply) (p : Puts) → Follows f s p → ((put : ℕ)
    → Contains p.got put → put < p.count)
    → length p.waiting ≡ length s.sender.state.waiting → reply_of s Sender a ≡ Some r
    → g.sender ≡ (row f.sender a).state → g.receiver ≡ f.receiver → g.accepted ≡ f.accepted
    → g.places ≡ at_sender (mode_of f.sender) (mode_of (row f.sender a).state) a r (is_accept
    (mode_of f.receiver) && brings a f.accepted) f.places
    → Follows g (after s Sender a) (acted s Sender a p)
sender_follows f g s a r p follows within many right sender receiver accepted places = record {
  sender = sender ∙ ap (λ (x : Automaton). (row x a).state) follows.sender;
  receiver = receiver ∙ follows.receiver;
  accepted = subst (IsAccepted s.receiver.state.mode) (sym accepted) follows.accepted;
  waiting = keeps.waiting;
  asked = keeps.asked;
  arriving = keeps.arrives;
  got = keeps.got;
}
  where
    stepped : Automaton → Automaton → Kept
    stepped x y = at_sender (mode_of x) (mode_of (row x a).state) a r (is_accept (mode_of y) && brings a f.accepted) f.places

    same : stepped (automaton.Sender s.sender.state) (automaton.Receiver s.receiver.state) ≡ g.places
    same = sym (places ∙ ap (λ (x : Automaton). stepped x f.receiver) follows.sender
        ∙ ap (λ (y : Automaton). stepped (automaton.Sender s.sender.state) y) follows.receiver)

    keeps : Keeps g.places (after s Sender a).sender.state.mode s.receiver.state.mode (acted s Sender a p)
    keeps =
        subst (λ (k : Kept). Keeps k (after s Sender a).sender.state.mode s.receiver.state.mode (acted s Sender a p)) same
        (sender_keeps s.receiver.state.mode s.sender.state.stream f.accepted follows.accepted s.sender.state.mode s.sender.state.waiting a r f.places p
        (keeps_of f s p follows) within many right)

-- after an act at the receiver
receiver_follows : (f g : Follower) (s : Stream) (a : Act) (p : Puts) → Follows f s p → ((put : ℕ) → Contains p.got put
    → put < p.count)
    → ((put : ℕ) → Contains (arriving s.receiver.state.mode p.sent p.held) put → put < p.count)
    → IfSome (receiver.used_word s.receiver.state a) (λ word. sent_under p.sent word ≡ [])
    → g.sender ≡ f.sender → g.receiver ≡ (row f.receiver a).state → g.accepted ≡ unwrap_or (used_word f.receiver a) f.accepted
    → g.places ≡ at_receiver (mode_of f.receiver) (mode_of (row f.receiver a).state) a f.places
    → Follows g (after s Receiver a) (acted s Receiver a p)
receiver_follows f g s a p follows within arrive new sender there accepted places = record {
  sender = sender ∙ follows.sender;
  receiver = there ∙ ap (λ (x : Automaton). (row x a).state) follows.receiver;
  accepted =
      subst (IsAccepted (after s Receiver a).receiver.state.mode)
      (sym (accepted ∙ ap (λ (x : Automaton). unwrap_or (used_word x a) f.accepted) follows.receiver))
      (accepts s.sender.state.mode s.receiver.state.stream s.receiver.state.mode a f.accepted follows.accepted);
  waiting = keeps.waiting;
  asked = keeps.asked;
  arriving = keeps.arrives;
  got = keeps.got;
}
  where
    stepped : Automaton → Kept
    stepped x = at_receiver (mode_of x) (mode_of (row x a).state) a f.places

    keeps : Keeps g.places s.sender.state.mode (after s Receiver a).receiver.state.mode (acted s Receiver a p)
    keeps =
        subst (λ (k : Kept). Keeps k s.sender.state.mode (after s Receiver a).receiver.state.mode (acted s Receiver a p))
        (sym (places ∙ ap stepped follows.receiver))
        (receiver_keeps s.sender.state.mode s.receiver.state.stream s.receiver.state.mode a f.places p
        (keeps_of f s p follows) within arrive new)

-- after an event of its stream: what the follower's steps say of it
module _ (f g : Follower) (past : List Event) (e : Event) (right : IsRight (e ∷ past)) (honest : IsHonest (e ∷ past))
    (fresh : IsFresh (e ∷ past))
    (follows : IsFollowed f e.stream past) where
  abbrev s : Stream
  s = stream_before past e

  abbrev p : Puts
  p = puts_after e.stream past

  before : Told e.stream past
  before = told e.stream past right.1 honest.1 fresh.1

  within : (put : ℕ) → Contains p.got put → put < p.count
  within put c =
      (rises_contains 0 (p.got ++ open_in s p) p.count put before.rises (Contains-append_left p.got (open_in s p) put c)).1

  arrive : (put : ℕ) → Contains (arriving s.receiver.state.mode p.sent p.held) put → put < p.count
  arrive put c =
      let there = arriving s.receiver.state.mode p.sent p.held in
      let others = asking s.sender.state.mode p.carried ++ p.waiting in
      (rises_contains 0 (p.got ++ open_in s p) p.count put before.rises
      (Contains-append_right p.got (open_in s p) put (Contains-append_left there others put c))).1

  here : Follows g (after s e.side e.act) (acted s e.side e.act p) → IsFollowed g e.stream (e ∷ past)
  here now = subst (λ (b : Bool). Follows g (after_if b s e) (acted_if b s e p)) (sym (eq-eqb e.stream e.stream refl)) now

  pub followed_at_sender : e.side ≡ Sender → g.sender ≡ (row f.sender e.act).state → g.receiver ≡ f.receiver → g.accepted
      ≡ f.accepted
      → g.places ≡ at_sender (mode_of f.sender) (mode_of (row f.sender e.act).state) e.act e.reply (is_accept
      (mode_of f.receiver) && brings e.act f.accepted) f.places
      → IsFollowed g e.stream (e ∷ past)
  followed_at_sender is sender there accepted places =
      here (subst (λ (side : End). Follows g (after s side e.act) (acted s side e.act p)) (sym is)
      (sender_follows f g s e.act e.reply p follows within
      (of_length (messages_put (calls e.stream past)) p.waiting s.sender.state.waiting before.ties.waiting_are)
      (subst (λ (side : End). reply_of s side e.act ≡ Some e.reply) is right.0) sender there accepted places))

  pub followed_at_receiver : e.side ≡ Receiver → g.sender ≡ f.sender → g.receiver ≡ (row f.receiver e.act).state
      → g.accepted ≡ unwrap_or (used_word f.receiver e.act) f.accepted
      → g.places ≡ at_receiver (mode_of f.receiver) (mode_of (row f.receiver e.act).state) e.act f.places
      → IsFollowed g e.stream (e ∷ past)
  followed_at_receiver is sender there accepted places =
      here (subst (λ (side : End). Follows g (after s side e.act) (acted s side e.act p)) (sym is)
      (receiver_follows f g s e.act p follows within arrive (unused
      (receiver.used_word s.receiver.state e.act) new) sender there accepted places))
    where
      facts : Invariant s
      facts = stream_facts e.stream past honest.1 fresh.1

      new : IsNewWord s Receiver e.act
      new = subst (λ (side : End). IsNewWord s side e.act) is fresh.0

      unused : (word : Option ℕ) → IfSome word (λ w. ¬ (Contains s.receiver.words w)) → IfSome word (λ w. sent_under p.sent w
          ≡ [])
      unused None none = tt
      unused (Some w) none = before.ties.unsent w (λ accept. none (facts.accept_words w accept))
