-- A follower goes with its stream's sender.
use Rattle.std.proofs.Common.{◌≡◌, ℕ, ◌+◌, ◌-◌, ◌<◌, ◌≤◌, Bool, true, false, eqb, Option, Some, List, [], ◌∷◌, ◌++◌, length, take, set, get_or, slice_get, refl, sym, ◌∙◌, ap, subst, inl, inr, ◌⊎◌, arith}
use Rattle.std.specs.List.{Contains, range_with_len}
use Rattle.std.specs.Ordering.{nat_cmp}
use Rattle.std.specs.BTreeMap.{get}
use Rattle.std.proofs.lemmas.Bool.{eqb-true, eq-eqb}
use Rattle.std.proofs.lemmas.List.{length-set, length-append, length-take}
use Rattle.std.proofs.lemmas.List.Elements.{Contains-append_left}
use Rattle.std.proofs.lemmas.Option.{slice_get_read}
use Rattle.amo_object.specs.declared.step.End.{End}
use Rattle.amo_object.specs.declared.step.End.TheVariants.{Sender, Receiver}
use Rattle.amo_core.specs.declared.act.Act.{Act}
use Rattle.amo_core.specs.declared.act.Act.TheVariants as act
use Rattle.amo_core.specs.declared.reply.Reply.{Reply}
use Rattle.amo_core.specs.declared.reply.Reply.TheVariants as reply
use Rattle.amo_core.specs.Sender as sender
use Rattle.amo_core.specs.declared.sender.SenderMode.{SenderMode}
use Rattle.amo_core.specs.declared.sender.SenderMode.TheVariants as sending
use Rattle.amo_world.specs.declared.event.Event.{Event}
use Rattle.amo_world.specs.Stream.{Stream, IsStream, after, reply_of}
use Rattle.amo_world.specs.History.{stream_after, stream_before, after_if}
use Rattle.amo_world.proofs.Lists.{some_injective, set_cases, push_cases}
use Rattle.amo_outcomes.specs.declared.sender_outcome.SenderOutcome.{SenderOutcome}
use Rattle.amo_outcomes.specs.declared.sender_follower.SenderFollower.{SenderFollower}
use Rattle.amo_outcomes.specs.declared.sender_places.SenderPlaces.{SenderPlaces}
use Rattle.amo_outcomes.specs.RightPuts.{HasRightPut}
use Rattle.amo_outcomes.specs.Puts.{Handshake, Puts, sent_under, called, acted, acted_if, puts_after}
use Rattle.amo_outcomes.specs.Heard.{Heard, all_sent, heard_act, hears, settles, heard_by, heard_if, heard_after}
use Rattle.amo_outcomes.specs.SenderOutcome.{HasSenderOutcome, AreSenderOutcomes, SendersTold}
use Rattle.amo_outcomes.specs.Follower.{AreAsked}
use Rattle.amo_outcomes.specs.Marks.{AreMarked, puts_in}
use Rattle.amo_outcomes.specs.SenderPlaces.{AreNewest, Travels, Keeps, Acts}
use Rattle.amo_outcomes.specs.SenderFollower.{FollowsSender, IsSenderFollowed, SendersFollowed}
use Rattle.amo_outcomes.proofs.SenderRows.{OfRows, HoldOfChanges, by_rows, with_put, with_none}
use Rattle.amo_outcomes.proofs.SenderOrder.{InOrder, AreSame, receiver_leaves, in_order}
use Rattle.amo_outcomes.proofs.SenderHistories.{not_sent, sent_below}
use Rattle.amo_outcomes.proofs.SenderKeeping.{keeps_mode}

-- in a mode in which no identifier is asked for
rests : (k : SenderPlaces) (mode now : SenderMode) (p : Puts) (h : Heard) → AreAsked now (puts_in k.asked) p.carried → Keeps k mode p h → Keeps k now p h
rests k mode now p h asks keeps = keeps_mode k.waiting k.asked k.sent (get nat_cmp k.travelling) k.marks.items mode now p h asks keeps

-- the places do not depend on what is held and what was got
keeps_same : (k : SenderPlaces) (mode : SenderMode) (p q : Puts) (h : Heard) → AreSame p q → Keeps k mode p h → Keeps k mode q h
keeps_same k mode p q h same keeps = record {
  marked = subst (λ (n : ℕ). AreMarked k.marks.items n (all_sent q.sent) h) same.count
      (subst (λ (sent : List Handshake). AreMarked k.marks.items p.count (all_sent sent) h) same.sent keeps.marked);
  within = subst (λ (n : ℕ). k.waiting ≤ n) same.count keeps.within;
  waits = sym same.waiting ∙ keeps.waits ∙ ap (λ (n : ℕ). range_with_len k.waiting (n - k.waiting)) same.count;
  asks = subst (λ (ns : List ℕ). AreAsked mode (puts_in k.asked) ns) same.carried keeps.asks;
  is_newest = subst (λ (sent : List Handshake). AreNewest sent (puts_in k.sent) h) same.sent keeps.is_newest;
  travels = subst (λ (sent : List Handshake). (id : ℕ) → Travels (get nat_cmp k.travelling id) (sent_under sent id) h) same.sent keeps.travels;
}

-- where an act is a put, it has this reply
abbrev AnswersPut : Act → Option Reply → Reply → Type 0
AnswersPut a answer r = (m : List ℕ) → a ≡ act.Put m → answer ≡ Some r

-- a reply to anything else changes nothing of what a sender's own events change
unchanged : (a : Act) (answer : Option Reply) (r : Reply) (p : Puts) → AnswersPut a answer r → called a answer p ≡ p → AreSame (called a (Some r) p) p
unchanged (act.Put m) answer r p right same =
    subst (λ (q : Puts). AreSame q p) (sym (ap (λ (x : Option Reply). called (act.Put m) x p) (sym (right m refl)) ∙ same))
    (record { count = refl; waiting = refl; carried = refl; sent = refl })
unchanged act.Get answer (reply.Got m) p right same = record { count = refl; waiting = refl; carried = refl; sent = refl }
unchanged act.Get answer r p right same = record { count = refl; waiting = refl; carried = refl; sent = refl }
unchanged a answer r p right same = record { count = refl; waiting = refl; carried = refl; sent = refl }

module _ (k l : SenderPlaces) (r : Reply) where
  -- an act, which has this reply if it is a put
  abbrev KeepsPlaces : OfRows
  KeepsPlaces mode waiting p a answer now left q =
      AnswersPut a answer r → InOrder mode waiting p → Acts (sender.kind mode) (sender.kind now) a r k l
      → (h : Heard) → Keeps k mode p h → Keeps l now q (settles mode now p.sent (hears mode a p.sent h))

  -- what was sent was put
  below : (mode : SenderMode) (waiting : List (List ℕ)) (p : Puts) → InOrder mode waiting p → (put : ℕ)
      → Contains (all_sent p.sent) put → put < p.count
  below mode waiting p o put c = sent_below mode waiting p o put c

  -- where the mode stays, the call is heard
  stays : (mode : SenderMode) (waiting : List (List ℕ)) (p : Puts) (a : Act) (answer : Option Reply) → sender.is_down mode ≡ false
      → called a answer p ≡ p → KeepsPlaces mode waiting p a answer mode waiting p
  stays (sending.Quiet got) waiting p a answer up same right o acts h keeps =
      keeps_same l (sending.Quiet got) (called a (Some r) p) p (heard_act a p.sent h) (unchanged a answer r p right same)
      (acts (sending.Quiet got) p h (below (sending.Quiet got) waiting p o) keeps)
  stays (sending.NeedId jd load) waiting p a answer up same right o acts h keeps =
      keeps_same l (sending.NeedId jd load) (called a (Some r) p) p (heard_act a p.sent h) (unchanged a answer r p right same)
      (acts (sending.NeedId jd load) p h (below (sending.NeedId jd load) waiting p o) keeps)
  stays (sending.Send id load) waiting p a answer up same right o acts h keeps =
      keeps_same l (sending.Send id load) (called a (Some r) p) p (heard_act a p.sent h) (unchanged a answer r p right same)
      (acts (sending.Send id load) p h (below (sending.Send id load) waiting p o) keeps)
  stays sending.Down waiting p a answer up same right o acts h keeps = absurd (differ up)
    where
      differ : true ≡ false → ⊥
      differ e = cc

  puts : (mode : SenderMode) (waiting : List (List ℕ)) (p : Puts) (m : List ℕ) → sender.is_down mode ≡ false
      → KeepsPlaces mode waiting p (act.Put m) (Some reply.Ok) mode (waiting ++ m ∷ []) (with_put p)
  puts (sending.Quiet got) waiting p m up right o acts h keeps =
      subst (λ (x : Reply). Keeps l (sending.Quiet got) (called (act.Put m) (Some x) p) h) (sym (some_injective reply.Ok r (right m refl)))
      (acts (sending.Quiet got) p h (below (sending.Quiet got) waiting p o) keeps)
  puts (sending.NeedId jd load) waiting p m up right o acts h keeps =
      subst (λ (x : Reply). Keeps l (sending.NeedId jd load) (called (act.Put m) (Some x) p) h) (sym (some_injective reply.Ok r (right m refl)))
      (acts (sending.NeedId jd load) p h (below (sending.NeedId jd load) waiting p o) keeps)
  puts (sending.Send id load) waiting p m up right o acts h keeps =
      subst (λ (x : Reply). Keeps l (sending.Send id load) (called (act.Put m) (Some x) p) h) (sym (some_injective reply.Ok r (right m refl)))
      (acts (sending.Send id load) p h (below (sending.Send id load) waiting p o) keeps)
  puts sending.Down waiting p m up right o acts h keeps = absurd (differ up)
    where
      differ : true ≡ false → ⊥
      differ e = cc

  crashes : (mode : SenderMode) (waiting : List (List ℕ)) (p : Puts)
      → KeepsPlaces mode waiting p act.Crash (Some reply.Done) sending.Down [] (with_none p)
  crashes (sending.Quiet got) waiting p right o acts h keeps = acts (sending.Quiet got) p h keeps
  crashes (sending.NeedId jd load) waiting p right o acts h keeps = acts (sending.NeedId jd load) p h keeps
  crashes (sending.Send id load) waiting p right o acts h keeps = acts (sending.Send id load) p h keeps
  crashes sending.Down waiting p right o acts h keeps = acts sending.Down p h keeps

  keeps_places : HoldOfChanges KeepsPlaces
  keeps_places = record {
    stays = stays;
    stays_down = λ waiting p a answer right o acts h keeps. acts sending.Down p h keeps;
    puts = puts;
    starts = λ got m rest word p right o acts h keeps. acts got word 1 _ p h (omega (arith, o.many)) keeps;
    starts_batch = λ got m rest word p right o acts h keeps.
        acts got word (length (m ∷ take 3 rest)) _ p h (omega (arith, o.many, length-take 3 rest)) keeps;
    sends = λ asked jd id j word load waiting p same right o acts h keeps.
        acts id refl asked load load p h
        (λ put c there. not_sent (sending.NeedId asked load) waiting p o put there (Contains-append_left p.carried p.waiting put c)) keeps;
    acked = λ id under j word load got waiting p right o acts h keeps.
        rests l (sending.Send under load) (sending.Quiet got) p _ tt
        (acts (sending.Send under load) p h (below (sending.Send under load) waiting p o) keeps);
    crashes = crashes;
    recovers = λ waiting p right o acts h keeps.
        subst (λ (x : SenderPlaces). Keeps x (sending.Quiet false) p h) (sym acts) (rests k sending.Down (sending.Quiet false) p h tt keeps);
  }

-- one event more of the stream
module _ (f g : SenderFollower) (past : List Event) (e : Event) (right : HasRightPut past e) (follows : IsSenderFollowed f e.stream past) where
  abbrev s : Stream
  s = stream_before past e

  abbrev p : Puts
  p = puts_after e.stream past

  abbrev heard : Heard
  heard = heard_after e.stream past

  here : FollowsSender g (after s e.side e.act).sender.state (acted s e.side e.act p) (heard_by s e.side e.act p heard)
      → IsSenderFollowed g e.stream (e ∷ past)
  here now = subst (λ (b : Bool). FollowsSender g (after_if b s e).sender.state (acted_if b s e p) (heard_if b s e p heard))
      (sym (eq-eqb e.stream e.stream refl)) now

  pub followed_by_act : e.side ≡ Sender → g.sender ≡ (sender.row f.sender e.act).state
      → Acts (sender.kind f.sender.mode) (sender.kind g.sender.mode) e.act e.reply f.places g.places
      → IsSenderFollowed g e.stream (e ∷ past)
  followed_by_act is moved acts =
      here (subst (λ (side : End). FollowsSender g (after s side e.act).sender.state (acted s side e.act p) (heard_by s side e.act p heard))
      (sym is)
      (record {
        sender = now;
        places = by_rows (KeepsPlaces f.places g.places e.reply) (keeps_places f.places g.places e.reply) s.sender.state.stream
            s.sender.state.mode s.sender.state.waiting p e.act
            (λ m put. subst (λ (side : End). reply_of s side e.act ≡ Some e.reply) is (right m put))
            (in_order e.stream past)
            (subst (λ (x : sender.SenderState). Acts (sender.kind s.sender.state.mode) (sender.kind x.mode) e.act e.reply f.places g.places) now
            (subst (λ (x : sender.SenderState). Acts (sender.kind x.mode) (sender.kind g.sender.mode) e.act e.reply f.places g.places)
            follows.sender acts))
            heard follows.places;
      }))
    where
      now : g.sender ≡ (sender.row s.sender.state e.act).state
      now = moved ∙ ap (λ (x : sender.SenderState). (sender.row x e.act).state) follows.sender

  pub followed_by_other : e.side ≡ Receiver → IsSenderFollowed f e.stream (e ∷ past)
  followed_by_other is =
      there (subst (λ (side : End). FollowsSender f (after s side e.act).sender.state (acted s side e.act p) (heard_by s side e.act p heard))
      (sym is)
      (record {
        sender = follows.sender;
        places = keeps_same f.places s.sender.state.mode p (acted s Receiver e.act p) heard (receiver_leaves s e.act p) follows.places;
      }))
    where
      there : FollowsSender f (after s e.side e.act).sender.state (acted s e.side e.act p) (heard_by s e.side e.act p heard)
          → IsSenderFollowed f e.stream (e ∷ past)
      there now = subst (λ (b : Bool). FollowsSender f (after_if b s e).sender.state (acted_if b s e p) (heard_if b s e p heard))
          (sym (eq-eqb e.stream e.stream refl)) now

-- an event of another stream changes nothing
elsewhere : (f : SenderFollower) (number : ℕ) (past : List Event) (e : Event) → (e.stream ≡ number → ⊥) → IsSenderFollowed f number past
    → IsSenderFollowed f number (e ∷ past)
elsewhere f number past e other follows = by (eqb number e.stream) refl
  where
    by : (b : Bool) → eqb number e.stream ≡ b → IsSenderFollowed f number (e ∷ past)
    by true is = absurd (other (sym (eqb-true number e.stream is)))
    by false is =
        subst (λ (b : Bool). FollowsSender f (after_if b (stream_after number past) e).sender.state
        (acted_if b (stream_after number past) e (puts_after number past))
        (heard_if b (stream_after number past) e (puts_after number past) (heard_after number past)))
        (sym is) follows

-- all streams after one event more
pub senders_followed_more : (followers : List SenderFollower) (e : Event) (old new : SenderFollower) → IsStream e.stream → old
    ≡ get_or followers (e.stream - 1) old
    → (past : List Event) → (IsSenderFollowed old e.stream past → IsSenderFollowed new e.stream (e ∷ past))
    → SendersFollowed followers past → SendersFollowed (set followers (e.stream - 1) new) (e ∷ past)
senders_followed_more followers e old new ranged at past one all = record {
  count = length-set followers (e.stream - 1) new ∙ all.count;
  each = λ place kept has. by place kept (set_cases followers (e.stream - 1) new place kept has);
}
  where
    stands : slice_get followers (e.stream - 1) ≡ Some old
    stands = slice_get_read followers 256 (e.stream - 1) old (sym all.count) (omega (arith, ranged.0, ranged.1)) at

    by : (place : ℕ) (kept : SenderFollower)
        → ((e.stream - 1 ≡ place) × (new ≡ kept)) ⊎ ((e.stream - 1 ≡ place → ⊥) × (slice_get followers place ≡ Some kept))
        → IsSenderFollowed kept (place + 1) (e ∷ past)
    by place kept (inl (here, same)) =
        let number : place + 1 ≡ e.stream = omega (arith, here, ranged.0) in
        subst (λ (f : SenderFollower). IsSenderFollowed f (place + 1) (e ∷ past)) same
        (subst (λ (n : ℕ). IsSenderFollowed new n (e ∷ past)) (sym number)
        (one (subst (λ (n : ℕ). IsSenderFollowed old n past) number (all.each place old (subst (λ (k : ℕ). slice_get followers k
        ≡ Some old) here stands)))))
    by place kept (inr (apart, there)) = elsewhere kept (place + 1) past e (λ of. apart (omega (arith, of)))
        (all.each place kept there)

-- the follower at a place
pub sender_followed_at : (followers : List SenderFollower) (past : List Event) (place : ℕ) (f : SenderFollower) → SendersFollowed followers past
    → place < 256
    → f ≡ get_or followers place f → IsSenderFollowed f (place + 1) past
sender_followed_at followers past place f all within at = all.each place f (slice_get_read followers 256 place f
    (sym all.count) within at)

pub sender_followed_of : (followers : List SenderFollower) (past : List Event) (stream : ℕ) (f : SenderFollower) → IsStream stream → SendersFollowed followers past
    → f ≡ get_or followers (stream - 1) f → IsSenderFollowed f stream past
sender_followed_of followers past stream f ranged all at =
    let number : stream - 1 + 1 ≡ stream = omega (arith, ranged.0, ranged.1) in
    subst (λ (n : ℕ). IsSenderFollowed f n past) number (sender_followed_at followers past (stream - 1) f all (omega (arith, ranged.0, ranged.1)) at)

-- so many followers, of streams in which nothing happened
pub record NoSenderFollowed (followers : List SenderFollower) (number : ℕ) : Type 0 where
  pub count : length followers ≡ number
  pub each : (place : ℕ) (f : SenderFollower) → slice_get followers place ≡ Some f → IsSenderFollowed f (place + 1) []

pub no_sender_follower : NoSenderFollowed [] 0
no_sender_follower = record { count = refl; each = λ place f is. absurd cc }

pub one_sender_follower_more : (followers : List SenderFollower) (count : ℕ) (f : SenderFollower) → NoSenderFollowed followers count
    → IsSenderFollowed f (count + 1) []
    → NoSenderFollowed (followers ++ f ∷ []) (count + 1)
one_sender_follower_more followers count f nothing follows = record {
  count = length-append followers (f ∷ []) ∙ omega (arith, nothing.count);
  each = λ place other is. by place other (push_cases followers f place other is);
}
  where
    by : (place : ℕ) (other : SenderFollower) → ((length followers ≡ place) × (f ≡ other)) ⊎ (slice_get followers place ≡ Some other)
        → IsSenderFollowed other (place + 1) []
    by place other (inl (here, same)) =
        subst (λ (g : SenderFollower). IsSenderFollowed g (place + 1) []) same
        (subst (λ (k : ℕ). IsSenderFollowed f (k + 1) []) (sym nothing.count ∙ here) follows)
    by place other (inr there) = nothing.each place other there

pub all_sender_followers : (followers : List SenderFollower) (count : ℕ) → NoSenderFollowed followers count → count ≡ 256
    → SendersFollowed followers []
all_sender_followers followers count nothing all = record { count = nothing.count ∙ all; each = nothing.each }

-- what is told of the first puts
pub record AreToldOfSender (f : SenderFollower) (many : ℕ) (told : List SenderOutcome) : Type 0 where
  pub count : length told ≡ many
  pub each : (number : ℕ) (past : List Event) → IsSenderFollowed f number past
      → (put : ℕ) (outcome : SenderOutcome) → slice_get told put ≡ Some outcome → HasSenderOutcome number past put outcome

pub nothing_told_of_sender : (f : SenderFollower) → AreToldOfSender f 0 []
nothing_told_of_sender f = record { count = refl; each = λ number past follows put outcome is. absurd cc }

pub one_told_more_of_sender : (f : SenderFollower) (count : ℕ) (told : List SenderOutcome) (outcome : SenderOutcome) → AreToldOfSender f count told
    → ((number : ℕ) (past : List Event) → IsSenderFollowed f number past → HasSenderOutcome number past count outcome)
    → AreToldOfSender f (count + 1) (told ++ outcome ∷ [])
one_told_more_of_sender f count told outcome so_far has = record {
  count = length-append told (outcome ∷ []) ∙ omega (arith, so_far.count);
  each = λ number past follows put other is. by number past follows put other (push_cases told outcome put other is);
}
  where
    by : (number : ℕ) (past : List Event) → IsSenderFollowed f number past
        → (put : ℕ) (other : SenderOutcome)
        → ((length told ≡ put) × (outcome ≡ other)) ⊎ (slice_get told put ≡ Some other) → HasSenderOutcome number past put other
    by number past follows put other (inl (here, same)) =
        subst (λ (o : SenderOutcome). HasSenderOutcome number past put o) same
        (subst (λ (k : ℕ). HasSenderOutcome number past k outcome) (sym so_far.count ∙ here) (has number past follows))
    by number past follows put other (inr there) = so_far.each number past follows put other there

pub all_told_of_sender : (f : SenderFollower) (count : ℕ) (told : List SenderOutcome) → AreToldOfSender f count told
    → count ≡ length f.places.marks.items
    → (number : ℕ) (past : List Event) → IsSenderFollowed f number past → AreSenderOutcomes number past told
all_told_of_sender f count told so_far all number past follows = record {
  count = so_far.count ∙ all ∙ follows.places.marked.each;
  each = so_far.each number past follows;
}

-- no stream is told, and one more
pub no_sender_told : (past : List Event) → SendersTold past 0 []
no_sender_told past = record { count = refl; each = λ place told is. absurd cc }

pub one_sender_told_more : (past : List Event) (count : ℕ) (all : List (List SenderOutcome)) (told : List SenderOutcome)
    → SendersTold past count all
    → AreSenderOutcomes (count + 1) past told → SendersTold past (count + 1) (all ++ told ∷ [])
one_sender_told_more past count all told so_far are = record {
  count = length-append all (told ∷ []) ∙ omega (arith, so_far.count);
  each = λ place other is. by place other (push_cases all told place other is);
}
  where
    by : (place : ℕ) (other : List SenderOutcome) → ((length all ≡ place) × (told ≡ other)) ⊎ (slice_get all place ≡ Some other)
        → AreSenderOutcomes (place + 1) past other
    by place other (inl (here, same)) =
        subst (λ (v : List SenderOutcome). AreSenderOutcomes (place + 1) past v) same
        (subst (λ (k : ℕ). AreSenderOutcomes (k + 1) past told) (sym so_far.count ∙ here) are)
    by place other (inr there) = so_far.each place other there
