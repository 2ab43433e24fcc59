-- What a book's calls add to what pass 0 has seen, and that nobody else added anything.
use Rattle.std.proofs.Common.{◌≡◌, ℕ, zero, suc, ◌==◌, ◌<◌, List, [], ◌∷◌, Option, Some, None, Result, Ok, Err, IfOk, IfErr, get_or, slice_get, slice_set, refl, sym, ap, ◌∙◌, subst, arith}
use Rattle.amo_object.specs.declared.step.End.{End}
use Rattle.amo_object.specs.declared.step.End.TheVariants.{Sender, Receiver}
use Rattle.amo_packet.specs.declared.packet.OwnedPacket.{OwnedPacket}
use Rattle.amo_core.specs.declared.act.Act.{Act}
use Rattle.amo_core.specs.declared.act.Act.TheVariants as acts
use Rattle.amo_core.specs.declared.mode.Mode.{Mode}
use Rattle.amo_core.specs.declared.reply.Reply.{Reply}
use Rattle.amo_core.specs.declared.reply.Reply.TheVariants as reply
use Rattle.amo_core.specs.Automaton.{Writes}
use Rattle.amo_world.specs.declared.event.Event.{Event}
use Rattle.amo_world.specs.Stream.{IsStream, emission_of}
use Rattle.amo_world.specs.History.{stream_after, events_of, event_if, IsRight}
use Rattle.amo_world.proofs.Extensions.{earlier_too}
use Rattle.amo_book.specs.declared.drive.Done.{Done}
use Rattle.amo_book.specs.Pass.{PassState, Answer, GrownBy, Grown, event}
use Rattle.amo_book.specs.Charge.{ChargeState, IsChargeOf}
use Rattle.amo_book.specs.Drive.{Driven, Suits}
use Rattle.amo_book.specs.Book.{BookState, Each, first_pass, Opens, Lists, AreFirstCharges}
use Rattle.amo_book.specs.Rule.{AllBelow}
use Rattle.amo_book.specs.Closed.{ClosedState, Closes, AreAll, IsOf, HasPass, StandsIn}
use Rattle.amo_replay.specs.declared.fault.ToolFault.{ToolFault}
use Rattle.amo_replay.specs.declared.fault.ToolFault.TheVariants.{Busy}
use Rattle.amo_replay.specs.Transcript.{event_at}
use Rattle.amo_replay.specs.Sides.{place_of, AreSides, Represents, seen_of, IsHostActOf, IsOwn, Adds, AddsWriting}
use Rattle.amo_replay.proofs.Places.{entry, same_some, charge_there, charges_after, each_charge, all_charges, first_charges, place_within, side_there}

module _ (b : BookState) (ps : List PassState) (cs : List ChargeState) (r : Represents b ps cs) where
  -- the pass that calls
  pub pass_is : (p d : PassState) → p ≡ get_or ps 0 d → p ≡ r.pass
  pass_is p d is = is ∙ ap (λ (l : List PassState). get_or l 0 d) r.passes_are

  pub pass_belongs : (p d : PassState) → p ≡ get_or ps 0 d → p.book ≡ b.id
  pass_belongs p d is = ap (λ (x : PassState). x.book) (pass_is p d is) ∙ r.belongs

  pub pass_number : (p d : PassState) → p ≡ get_or ps 0 d → p.number ≡ 0
  pass_number p d is = ap (λ (x : PassState). x.number) (pass_is p d is) ∙ r.number

  pub seen_is : (p d : PassState) → p ≡ get_or ps 0 d → p.seen ≡ seen_of ps
  seen_is p d is = ap (λ (x : PassState). x.seen) (pass_is p d is) ∙ sym (ap seen_of r.passes_are)

  pub seen_after : (p : PassState) → seen_of (slice_set ps 0 p) ≡ p.seen
  seen_after p = ap (λ (l : List PassState). seen_of (slice_set l 0 p)) r.passes_are

  -- and after its call
  pub pass_after : (p q d : PassState) → p ≡ get_or ps 0 d → q.book ≡ p.book → q.number ≡ p.number → Represents b (slice_set ps 0 q) cs
  pass_after p q d is book number = record {
    sides = r.sides;
    two = r.two;
    pass = q;
    number = number ∙ pass_number p d is;
    belongs = book ∙ pass_belongs p d is;
    passes_are = ap (λ (l : List PassState). slice_set l 0 q) r.passes_are;
    charges_are = r.charges_are;
  }

  -- the charge that drives a side
  pub charge_at : (side : End) (stream : ℕ) (k : ℕ) (c d : ChargeState) → IsStream stream → k ≡ place_of side stream → c ≡ get_or cs k d → slice_get cs k ≡ Some c
  charge_at side stream k c d h is at =
      entry cs k c d (let a = r.charges_are.count in let e = r.sides.count in let w = place_within side stream h in omega arith) at

  pub charge_belongs : (side : End) (stream : ℕ) (k : ℕ) (c d : ChargeState) → IsStream stream → k ≡ place_of side stream → c ≡ get_or cs k d → IsChargeOf b.id b.sides c
  charge_belongs side stream k c d h is at = (r.charges_are.each k c (charge_at side stream k c d h is at)).1

  pub charge_drives : (side : End) (stream : ℕ) (k : ℕ) (c d : ChargeState) → IsStream stream → k ≡ place_of side stream → c ≡ get_or cs k d → (c.side ≡ side) × (c.stream ≡ stream)
  charge_drives side stream k c d h is at =
      charge_there b.id b.sides cs side stream k c r.sides r.charges_are h is (charge_at side stream k c d h is at)

  pub both_after : (p q d : PassState) (k : ℕ) (c new : ChargeState) (mode : Mode) → p ≡ get_or ps 0 d → q.book ≡ p.book → q.number ≡ p.number
      → slice_get cs k ≡ Some c → new ≡ record c { mode = mode } → Represents b (slice_set ps 0 q) (slice_set cs k new)
  both_after p q d k c new mode is book number at same = record {
    sides = r.sides;
    two = r.two;
    pass = q;
    number = number ∙ pass_number p d is;
    belongs = book ∙ pass_belongs p d is;
    passes_are = ap (λ (l : List PassState). slice_set l 0 q) r.passes_are;
    charges_are = charges_after b.id b.sides cs k c new mode r.charges_are at same;
  }

  pub has_side : (side : End) (stream : ℕ) → IsStream stream → (place : ℕ) × (slice_get b.sides place ≡ Some (side, stream))
  has_side side stream h = (place_of side stream, side_there b.sides r.sides side stream h)

  -- all passes and charges are here
  pub passes_belong : Each (IsOf b.id) ps
  passes_belong = subst (Each (IsOf b.id)) (sym r.passes_are) (r.belongs, (refl, tt))

  pub charges_belong : Each (IsChargeOf b.id b.sides) cs
  charges_belong = each_charge b.id b.sides cs r.charges_are

  has_pass : (number : ℕ) → number < 2 → HasPass (r.pass ∷ first_pass b.id 1 ∷ []) number
  has_pass zero h = (0, r.pass, refl, r.number)
  has_pass (suc zero) h = (1, first_pass b.id 1, refl, refl)
  has_pass (suc (suc n)) h = absurd (omega arith)

  pub none_lacks : AreAll b ps cs
  none_lacks = (
    λ number h. subst (λ (l : List PassState). HasPass l number) (sym r.passes_are) (has_pass number (subst (λ n. number < n) r.two h)),
    all_charges b.id b.sides cs r.charges_are,
  )

-- one event more of pass 0
pub adds : (p q : PassState) (side : End) (stream : ℕ) (act : Act) (answer : Reply) → p.number ≡ 0
    → GrownBy p q (event p.number side stream act answer) → IsRight q.seen → Adds p.seen q.seen (event_at side stream act answer)
adds p q side stream act answer none grown right = record {
  earlier = grown.earlier;
  seen = grown.seen ∙ ap (λ (n : ℕ). event n side stream act answer ∷ grown.earlier) none;
  extends = grown.extends;
  own_grew = ap (λ (n : ℕ). events_of n q.seen) (sym (grown.number ∙ none)) ∙ grown.mine_grew
      ∙ ap (λ (n : ℕ). event n side stream act answer ∷ events_of n p.seen) none;
  right = right;
}

-- the same of what is seen by the list
pub adds_there : (b : BookState) (ps : List PassState) (cs : List ChargeState) (r : Represents b ps cs) (p q d : PassState) (side : End) (stream : ℕ) (act : Act) (answer : Reply)
    → p ≡ get_or ps 0 d → GrownBy p q (event p.number side stream act answer) → IsRight q.seen
    → Adds (seen_of ps) (seen_of (slice_set ps 0 q)) (event_at side stream act answer)
adds_there b ps cs r p q d side stream act answer is grown right =
    subst (λ (l : List Event). Adds l (seen_of (slice_set ps 0 q)) (event_at side stream act answer)) (seen_is b ps cs r p d is)
    (subst (λ (l : List Event). Adds p.seen l (event_at side stream act answer)) (sym (seen_after b ps cs r q))
    (adds p q side stream act answer (pass_number b ps cs r p d is) grown right))

-- a call that answers, or does not
pub grown_same : (p q : PassState) (side : End) (stream : ℕ) (act : Act) (answer : Answer) → Grown p q side stream act answer → (q.book ≡ p.book) × (q.number ≡ p.number)
grown_same p q side stream act None same = (ap (λ (x : PassState). x.book) same, ap (λ (x : PassState). x.number) same)
grown_same p q side stream act (Some (answer, position)) grown = (grown.book, grown.number)

-- what a call's answer says
abbrev pub Says : Result Reply ToolFault → Answer → Type 0
Says result answer = IfOk result (λ reply. (position : ℕ) × (answer ≡ Some (reply, position))) × IfErr result (λ fault. (fault ≡ Busy) × (answer ≡ None))

pub grown_as : (p q : PassState) (side : End) (stream : ℕ) (act : Act) (answer : Answer) (answer' : Answer) → answer ≡ answer' → Grown p q side stream act answer → Grown p q side stream act answer'
grown_as p q side stream act answer answer' is grown = subst (Grown p q side stream act) is grown

pub called_adds : (b : BookState) (ps : List PassState) (cs : List ChargeState) (r : Represents b ps cs) (p q d : PassState) (side : End) (stream : ℕ) (act : Act)
    (answer : Answer) (result : Result Reply ToolFault) → p ≡ get_or ps 0 d → Grown p q side stream act answer → IsRight q.seen → Says result answer
    → IfOk result (λ reply. Adds (seen_of ps) (seen_of (slice_set ps 0 q)) (event_at side stream act reply))
called_adds b ps cs r p q d side stream act answer (Ok reply) is grown right ((position, says), none) =
    adds_there b ps cs r p q d side stream act reply is (grown_as p q side stream act answer (Some (reply, position)) says grown) right
called_adds b ps cs r p q d side stream act answer (Err fault) is grown right says = tt

pub called_busy : (b : BookState) (ps : List PassState) (cs : List ChargeState) (r : Represents b ps cs) (p q d : PassState) (side : End) (stream : ℕ) (act : Act)
    (answer : Answer) (result : Result Reply ToolFault) → p ≡ get_or ps 0 d → Grown p q side stream act answer → Says result answer
    → IfErr result (λ fault. (fault ≡ Busy) × (seen_of (slice_set ps 0 q) ≡ seen_of ps))
called_busy b ps cs r p q d side stream act answer (Ok reply) is grown says = tt
called_busy b ps cs r p q d side stream act answer (Err fault) is grown (all, (busy, none)) = (
  busy,
  seen_after b ps cs r q ∙ ap (λ (x : PassState). x.seen) (grown_as p q side stream act answer None none grown) ∙ seen_is b ps cs r p d is,
)

-- an act of a host
pub driven_adds : (p q : PassState) (c e : ChargeState) (side : End) (stream : ℕ) (act : Act) (old new : List ℕ) (done : Done) → p.number ≡ 0
    → (c.side ≡ side) × (c.stream ≡ stream) → Driven p q c e act old new done → IsRight q.seen
    → AddsWriting p.seen q.seen (event_at side stream act reply.Done) old new done.length
unfolding adds
driven_adds p q c e side stream act old new done none (at_side, of_stream) driven right =
    subst (λ (x : End). AddsWriting p.seen q.seen (event_at x stream act reply.Done) old new done.length) at_side
    (subst (λ (n : ℕ). AddsWriting p.seen q.seen (event_at c.side n act reply.Done) old new done.length) of_stream
    (adds p q c.side c.stream act reply.Done none driven.grown right, driven.emitted))

pub driven_there : (b : BookState) (ps : List PassState) (cs : List ChargeState) (r : Represents b ps cs) (p q d : PassState) (c e f : ChargeState) (k : ℕ)
    (side : End) (stream : ℕ) (act : Act) (old new : List ℕ) (done : Done)
    → p ≡ get_or ps 0 d → IsStream stream → k ≡ place_of side stream → c ≡ get_or cs k f → Driven p q c e act old new done → IsRight q.seen
    → AddsWriting (seen_of ps) (seen_of (slice_set ps 0 q)) (event_at side stream act reply.Done) old new done.length
driven_there b ps cs r p q d c e f k side stream act old new done is h place at driven right =
    subst (λ (l : List Event). AddsWriting l (seen_of (slice_set ps 0 q)) (event_at side stream act reply.Done) old new done.length) (seen_is b ps cs r p d is)
    (subst (λ (l : List Event). AddsWriting p.seen l (event_at side stream act reply.Done) old new done.length) (sym (seen_after b ps cs r q))
    (driven_adds p q c e side stream act old new done (pass_number b ps cs r p d is) (charge_drives b ps cs r side stream k c f h place at) driven right))

pub driven_after : (b : BookState) (ps : List PassState) (cs : List ChargeState) (r : Represents b ps cs) (p q d : PassState) (c e f : ChargeState) (k : ℕ)
    (side : End) (stream : ℕ) (act : Act) (old new : List ℕ) (done : Done)
    → p ≡ get_or ps 0 d → IsStream stream → k ≡ place_of side stream → c ≡ get_or cs k f → Driven p q c e act old new done
    → Represents b (slice_set ps 0 q) (slice_set cs k e)
driven_after b ps cs r p q d c e f k side stream act old new done is h place at driven =
    both_after b ps cs r p q d k c e done.mode is driven.grown.book driven.grown.number (charge_at b ps cs r side stream k c f h place at) driven.charge

-- no event bears another number than 0
own_here : (n : ℕ) (e : Event) (rest : List Event) → n < 2 → event_if (1 == n) e rest ≡ [] → (n ≡ 0) × (rest ≡ [])
own_here zero e rest h is = (refl, is)
own_here (suc zero) e rest h is = absurd (cc)
own_here (suc (suc n)) e rest h is = absurd (omega arith)

own_all : (history : List Event) → AllBelow 2 history → events_of 1 history ≡ [] → IsOwn history
own_all [] below none = tt
own_all (e ∷ past) below none =
    let here = own_here e.pass e (events_of 1 past) below.0 none in (here.0, own_all past below.1 here.1)

pub own_at_close : (b : BookState) (ps : List PassState) (cs : List ChargeState) (closed : ClosedState) → Represents b ps cs → Closes b ps closed → IsOwn (seen_of ps)
own_at_close b ps cs closed r closes =
    let each = subst (Each (StandsIn closes.history)) r.passes_are closes.each in
    let own : IsOwn closes.history = own_all closes.history (subst (λ n. AllBelow n closes.history) r.two closes.no_others) each.1.0.1 in
    subst (λ (l : List Event). IsOwn l) (sym (ap seen_of r.passes_are))
    (earlier_too (λ past e. e.pass ≡ 0) closes.history r.pass.seen each.0.0 own)

-- what a side's host may do suits the charge that drives the side
pub suits_side : (c : ChargeState) (side : End) (act : Act) → c.side ≡ side → IsHostActOf side act → Suits c act
suits_side c Sender (acts.Put m) is may = absurd may
suits_side c Sender acts.Get is may = absurd may
suits_side c Sender acts.Ack is may = absurd may
suits_side c Sender (acts.Start word) is may = is
suits_side c Sender (acts.Batch word) is may = is
suits_side c Sender acts.Resend is may = tt
suits_side c Sender (acts.Deliver p word) is may = absurd may
suits_side c Sender acts.Crash is may = tt
suits_side c Sender acts.Recover is may = tt
suits_side c Receiver (acts.Put m) is may = absurd may
suits_side c Receiver acts.Get is may = absurd may
suits_side c Receiver acts.Ack is may = absurd may
suits_side c Receiver (acts.Start word) is may = absurd may
suits_side c Receiver (acts.Batch word) is may = absurd may
suits_side c Receiver acts.Resend is may = tt
suits_side c Receiver (acts.Deliver p word) is may = absurd may
suits_side c Receiver acts.Crash is may = tt
suits_side c Receiver acts.Recover is may = tt

-- a book that was opened with these sides
module _ {X : Type 0} where
  two_there : (f : ℕ → X) (xs : List X) → Lists f 2 xs → xs ≡ f 0 ∷ f 1 ∷ []
  two_there f [] (count, each) = absurd (omega arith)
  two_there f (x ∷ []) (count, each) = absurd (omega arith)
  two_there f (x ∷ y ∷ []) (count, each) =
      λ i. same_some x (f 0) (each 0 (omega arith)) i ∷ same_some y (f 1) (each 1 (omega arith)) i ∷ []
  two_there f (x ∷ y ∷ z ∷ xs) (count, each) = absurd (omega arith)

pub opened : (sides : List (End × ℕ)) (b : BookState) (ps : List PassState) (cs : List ChargeState) → AreSides sides → Opens sides 2 b ps cs → Represents b ps cs
opened sides b ps cs all opens = record {
  sides = subst AreSides (sym opens.sides_are) all;
  two = opens.passes_are;
  pass = first_pass b.id 0;
  number = refl;
  belongs = refl;
  passes_are = two_there (first_pass b.id) ps opens.numbered_are;
  charges_are = first_charges b.id b.sides cs (subst (λ (l : List (End × ℕ)). AreFirstCharges b.id l cs) (sym opens.sides_are) opens.charges_are);
}
