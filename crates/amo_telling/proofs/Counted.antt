-- How many puts were taken.
use Rattle.std.proofs.Common.{◌≡◌, ◌∙◌, ℕ, ◌+◌, ◌≤◌, Bool, true, false, eqb, Option, Some, List, [], ◌∷◌, ◌++◌, length, length-append, reverse, refl, sym, ap, subst, arith, inl, inr}
use Rattle.std.specs.Prelude.{◌==◌, ◌&&◌}
use Rattle.std.specs.Option.{option_to_list}
use Rattle.std.proofs.lemmas.Bool.{eqb-true}
use Rattle.std.proofs.lemmas.List.{reverse-append}
use Rattle.std.proofs.lemmas.List.Elements.{filter_map-append}
use Rattle.amo_object.specs.declared.step.End.{End}
use Rattle.amo_object.specs.Delivery.{message_put, messages_put}
use Rattle.amo_core.specs.declared.act.Act.{Act}
use Rattle.amo_core.specs.declared.act.Act.TheVariants as act
use Rattle.amo_core.specs.declared.reply.Reply.{Reply}
use Rattle.amo_core.specs.declared.reply.Reply.TheVariants as reply
use Rattle.amo_world.specs.declared.event.Event.{Event}
use Rattle.amo_world.specs.Served.{call_of, calls, calls_and}
use Rattle.amo_core.specs.Sender as sender
use Rattle.amo_core.specs.Receiver as receiver
use Rattle.amo_core.specs.declared.sender.SenderMode.{SenderMode}
use Rattle.amo_core.specs.declared.sender.SenderMode.TheVariants as sending
use Rattle.amo_core.specs.declared.receiver.ReceiverMode.{ReceiverMode}
use Rattle.amo_core.specs.declared.receiver.ReceiverMode.TheVariants as receiving
use Rattle.amo_object.specs.declared.step.End.TheVariants.{Sender, Receiver}
use Rattle.amo_world.specs.Stream.{Stream, reply_of}
use Rattle.amo_world.specs.History.{IsRight, stream_after}
use Rattle.amo_outcomes.specs.RightPuts.{ArePutsRight, HasRightPut}
use Rattle.amo_outcomes.specs.Puts.{Puts, acted, acted_if, called, puts_after, receiver_moved, sender_moved}
use Rattle.amo_outcomes.proofs.Histories.{told}
use Rattle.amo_audit.specs.Audit.{IsSound}
use Rattle.amo_audit.specs.Merge.{Interleaves}
use Rattle.amo_telling.specs.Outcomes.{is_put, one_if, puts_in}

-- a call puts a message where it is a put that was taken
call_puts : (side : End) (a : Act) (r : Reply) → length (messages_put (option_to_list (call_of side a r))) ≡ one_if (is_put a r)
call_puts side (act.Put m) reply.Ok = refl
call_puts side (act.Put m) reply.Full = refl
call_puts side (act.Put m) reply.Down = refl
call_puts side (act.Put m) (reply.Got got) = refl
call_puts side (act.Put m) reply.Nothing = refl
call_puts side (act.Put m) reply.Yes = refl
call_puts side (act.Put m) reply.No = refl
call_puts side (act.Put m) reply.NotYet = refl
call_puts side (act.Put m) reply.Done = refl
call_puts side act.Get reply.Ok = refl
call_puts side act.Get reply.Full = refl
call_puts side act.Get reply.Down = refl
call_puts side act.Get (reply.Got got) = refl
call_puts side act.Get reply.Nothing = refl
call_puts side act.Get reply.Yes = refl
call_puts side act.Get reply.No = refl
call_puts side act.Get reply.NotYet = refl
call_puts side act.Get reply.Done = refl
call_puts side act.Ack reply.Ok = refl
call_puts side act.Ack reply.Full = refl
call_puts side act.Ack reply.Down = refl
call_puts side act.Ack (reply.Got got) = refl
call_puts side act.Ack reply.Nothing = refl
call_puts side act.Ack reply.Yes = refl
call_puts side act.Ack reply.No = refl
call_puts side act.Ack reply.NotYet = refl
call_puts side act.Ack reply.Done = refl
call_puts side (act.Start word) r = refl
call_puts side (act.Batch word) r = refl
call_puts side act.Resend r = refl
call_puts side (act.Deliver packet word) r = refl
call_puts side act.Crash r = refl
call_puts side act.Recover r = refl

-- the messages that a stream's calls put are as many as its puts
calls_puts : (number : ℕ) (past : List Event) → length (messages_put (calls number past)) ≡ puts_in number past
calls_puts number [] = refl
calls_puts number (e ∷ past) = more (number == e.stream) (calls_puts number past)
  where
    more : (own : Bool) → length (messages_put (calls number past)) ≡ puts_in number past → length (messages_put (calls_and own (calls number past) e)) ≡ puts_in number past + one_if (own && is_put e.act e.reply)
    more true before =
        let call = option_to_list (call_of e.side e.act e.reply) in
        let both = ap length (filter_map-append message_put (calls number past) call) ∙ length-append (messages_put (calls number past)) (messages_put call) in
        let one = call_puts e.side e.act e.reply in
        omega (arith, both, before, one)
    more false before = omega (arith, before)

pub puts_append : (number : ℕ) (xs ys : List Event) → puts_in number (xs ++ ys) ≡ puts_in number xs + puts_in number ys
puts_append number [] ys = omega arith
puts_append number (e ∷ xs) ys = let rest = puts_append number xs ys in omega (arith, rest)

puts_reverse : (number : ℕ) (xs : List Event) → puts_in number (reverse xs) ≡ puts_in number xs
puts_reverse number [] = refl
puts_reverse number (e ∷ xs) =
    let turned = ap (puts_in number) (reverse-append (e ∷ []) xs) in
    let both = puts_append number (reverse xs) (e ∷ []) in
    let rest = puts_reverse number xs in
    omega (arith, turned, both, rest)

-- an interleaving has the puts of both lists
puts_interleave : (number : ℕ) (x y merged : List Event) → Interleaves x y merged → puts_in number merged ≡ puts_in number x + puts_in number y
puts_interleave number x y [] both =
    let p = ap (puts_in number) both.0 in
    let q = ap (puts_in number) both.1 in
    omega (arith, p, q)
puts_interleave number x y (e ∷ merged) (inl (rest, is, more)) =
    let p = ap (puts_in number) is in
    let all = puts_interleave number rest y merged more in
    omega (arith, p, all)
puts_interleave number x y (e ∷ merged) (inr (rest, is, more)) =
    let p = ap (puts_in number) is in
    let all = puts_interleave number x rest merged more in
    omega (arith, p, all)

-- a merged history took as many puts as both journals tell of
pub puts_of_both : (number : ℕ) (x y merged : List Event) → Interleaves x y merged → IsSound (reverse merged)
    → (puts_after number (reverse merged)).count ≡ puts_in number x + puts_in number y
puts_of_both number x y merged inter sound =
    let count = (told number (reverse merged) sound.0 sound.1 sound.2).ties.count in
    let calls = calls_puts number (reverse merged) in
    let turned = puts_reverse number merged in
    let all = puts_interleave number x y merged inter in
    omega (arith, count, calls, turned, all)

-- a put is an event
pub few_puts : (number : ℕ) (events : List Event) → puts_in number events ≤ length events
few_puts number [] = omega arith
few_puts number (e ∷ events) = let rest = few_puts number events in let one = at_most ((number == e.stream) && is_put e.act e.reply) in omega (arith, rest, one)
  where
    at_most : (b : Bool) → one_if b ≤ 1
    at_most true = omega arith
    at_most false = omega arith

-- one event more in the order of time
pub turned_more : (events : List Event) (e : Event) → reverse (events ++ e ∷ []) ≡ e ∷ reverse events
turned_more events e = reverse-append events (e ∷ [])

-- a call takes a put, or none
called_counts : (a : Act) (r : Reply) (p : Puts) → (called a (Some r) p).count ≡ p.count + one_if (is_put a r)
called_counts (act.Put m) reply.Ok p = omega arith
called_counts (act.Put m) r p = omega arith
called_counts act.Get (reply.Got m) p = omega arith
called_counts a r p = omega arith

-- a sender or a receiver that moves takes none
sender_moves : (before now : SenderMode) (p : Puts) → (sender_moved before now p).count ≡ p.count
sender_moves (sending.Quiet got) (sending.NeedId jd load) p = refl
sender_moves (sending.NeedId jd load) (sending.Send id sent) p = refl
sender_moves before sending.Down p = refl
sender_moves before now p = refl

receiver_moves : (before now : ReceiverMode) (p : Puts) → (receiver_moved before now p).count ≡ p.count
receiver_moves (receiving.Accept jd accepted) (receiving.Rcvd id b) p = refl
receiver_moves before receiving.Down p = refl
receiver_moves before now p = refl

-- whatever the reply to anything else is
replied_counts : (a : Act) (o : Option Reply) (r : Reply) (p : Puts) → ((m : List ℕ) → a ≡ act.Put m → o ≡ Some r) → (called a o p).count ≡ p.count + one_if (is_put a r)
replied_counts (act.Put m) o r p right = ap (λ (x : Option Reply). (called (act.Put m) x p).count) (right m refl) ∙ called_counts (act.Put m) r p
replied_counts act.Get (Some (reply.Got m)) r p right = omega arith
replied_counts act.Get o r p right = omega arith
replied_counts a o r p right = omega arith

-- so an act, with its right reply if it is a put, takes as many as it tells
act_counts : (s : Stream) (side : End) (a : Act) (r : Reply) (p : Puts) → ((m : List ℕ) → a ≡ act.Put m → reply_of s side a ≡ Some r)
    → (acted s side a p).count ≡ p.count + one_if (is_put a r)
act_counts s Sender a r p right =
    sender_moves s.sender.state.mode (sender.row s.sender.state a).state.mode (called a (reply_of s Sender a) p)
    ∙ replied_counts a (reply_of s Sender a) r p right
act_counts s Receiver a r p right =
    receiver_moves s.receiver.state.mode (receiver.row s.receiver.state a).state.mode (called a (reply_of s Receiver a) p)
    ∙ replied_counts a (reply_of s Receiver a) r p right

one_counts : (number : ℕ) (past : List Event) (e : Event) → HasRightPut past e → (puts_after number past).count ≡ puts_in number past
    → (puts_after number (e ∷ past)).count ≡ puts_in number (e ∷ past)
one_counts number past e right before = by (eqb number e.stream) refl
  where
    by : (own : Bool) → eqb number e.stream ≡ own
        → (acted_if (eqb number e.stream) (stream_after number past) e (puts_after number past)).count ≡ puts_in number past + one_if (eqb number e.stream && is_put e.act e.reply)
    by true is =
        let same : e.stream ≡ number = sym (eqb-true number e.stream is) in
        let reply : (m : List ℕ) → e.act ≡ act.Put m → reply_of (stream_after number past) e.side e.act ≡ Some e.reply =
        λ m put. subst (λ (n : ℕ). reply_of (stream_after n past) e.side e.act ≡ Some e.reply) same (right m put) in
        let more = act_counts (stream_after number past) e.side e.act e.reply (puts_after number past) reply in
        rw is (omega (arith, more, before))
    by false is = rw is (omega (arith, before))

-- a right history has right puts
pub puts_right : (past : List Event) → IsRight past → ArePutsRight past
puts_right [] right = tt
puts_right (e ∷ past) right = (λ m put. right.0, puts_right past right.1)

pub right_counts : (number : ℕ) (past : List Event) → ArePutsRight past → (puts_after number past).count ≡ puts_in number past
right_counts number [] right = refl
right_counts number (e ∷ past) right = one_counts number past e right.0 (right_counts number past right.1)

-- a journal with right replies took as many puts as it tells of
pub puts_alone : (number : ℕ) (events : List Event) → IsRight (reverse events) → (puts_after number (reverse events)).count ≡ puts_in number events
puts_alone number events right = right_counts number (reverse events) (puts_right (reverse events) right) ∙ puts_reverse number events
