-- What is no event adds none.
use Rattle.std.proofs.Common.{◌≡◌, inl, inr, ℕ, Bool, true, false, List, ◌∷◌, ◌++◌, Option, Some, None, Result, Ok, Err, IfOk, sym, ap, ◌∙◌, subst}
use Rattle.amo_object.specs.declared.step.End.{End}
use Rattle.amo_packet.specs.declared.packet.OwnedPacket.{OwnedPacket}
use Rattle.amo_packet.specs.Grammar.{Spells}
use Rattle.amo_core.specs.declared.act.Act.{Act}
use Rattle.amo_core.specs.declared.act.Act.TheVariants as act
use Rattle.amo_core.specs.declared.mode.Mode.{Mode}
use Rattle.amo_core.specs.declared.reply.Reply.TheVariants.{Done}
use Rattle.amo_world.specs.History.{Extends}
use Rattle.amo_world.proofs.Extensions.{further}
use Rattle.amo_book.specs.Pass.{PassState, GrownBy, event, mine}
use Rattle.amo_journal.specs.declared.version.Version.{Version}
use Rattle.amo_journal.specs.Version.{newest}
use Rattle.amo_host.specs.AtStream.{HasMode}
use Rattle.amo_host.specs.Station.{Station}
use Rattle.amo_live.specs.declared.fault.LiveFault.{LiveFault}
use Rattle.amo_live.specs.declared.given_word.GivenWord.{GivenWord}
use Rattle.amo_live.specs.Emitted.{OnlySees, OutboxState, packet_in}
use Rattle.amo_live.specs.Host.{HostState, Delivered, Did, Happens, Looked, Looks, Repeats, Stays, Suits, Tried, word_for}

-- a look at an act
pub looks_still : {L S : Type 0} (h g : HostState L S) (stream : ℕ) (a : Act) (known : Bool) → Looks h g stream a known → mine g.pass ≡ mine h.pass
looks_still h g stream a true repeats = repeats.sees.same.mine_stays
looks_still h g stream a false (sees, same) = sees.same.mine_stays

pub looks_extend : {L S : Type 0} (h g : HostState L S) (stream : ℕ) (a : Act) (known : Bool) → Looks h g stream a known → Extends g.pass.seen h.pass.seen
looks_extend h g stream a true repeats = repeats.sees.extends
looks_extend h g stream a false (sees, same) = sees.extends

-- a datagram that was not delivered
pub none_still : {L S : Type 0} (h g : HostState L S) (bytes : List ℕ) (word : ℕ) → Delivered h g bytes word None → mine g.pass ≡ mine h.pass
none_still h g bytes word (inl (p, spelt, repeats)) = repeats.sees.same.mine_stays
none_still h g bytes word (inr (sees, same)) = sees.same.mine_stays

pub none_extends : {L S : Type 0} (h g : HostState L S) (bytes : List ℕ) (word : ℕ) → Delivered h g bytes word None → Extends g.pass.seen h.pass.seen
none_extends h g bytes word (inl (p, spelt, repeats)) = repeats.sees.extends
none_extends h g bytes word (inr (sees, same)) = sees.extends

-- a pass that grew after it had seen what others did
abbrev grown_after : (v u w : PassState) (side : End) (stream : ℕ) (a : Act) → OnlySees v u → GrownBy u w (event u.number side stream a Done) → GrownBy v w (event v.number side stream a Done)
grown_after v u w side stream a sees g = record {
  earlier = g.earlier;
  seen = g.seen ∙ ap (λ (n : ℕ). event n side stream a Done ∷ g.earlier) sees.same.number;
  extends = further g.earlier u.seen v.seen g.extends sees.extends;
  mine_grew = g.mine_grew ∙ (ap (λ (n : ℕ). event n side stream a Done ∷ mine u) sees.same.number ∙ ap (λ l. event v.number side stream a Done ∷ l) sees.same.mine_stays);
  book = g.book ∙ sees.same.book;
  number = g.number ∙ sees.same.number;
}

-- what happened after a look
happens_after : {L S : Type 0} (h m g : HostState L S) (side : End) (stream : ℕ) (a : Act) (mode : Mode) → m.pump ≡ h.pump → Looked h m → Happens m g side stream a mode → Happens h g side stream a mode
happens_after h m g side stream a mode pump (sees, same) happens = record {
  grown = grown_after h.pass m.pass g.pass side stream a sees happens.grown;
  mode_is = happens.mode_is;
  found = λ known sends has. happens.found known sends (subst (λ (p : Station GivenWord). HasMode p.host stream known) (sym pump) has);
  before = happens.before;
  buffer = happens.buffer;
  length = happens.length;
  emitted = happens.emitted;
  leaving = happens.leaving ∙ ap (λ (o : OutboxState). o.leaving ++ packet_in happens.buffer happens.length) same;
}

did_after : {L S : Type 0} (h m g : HostState L S) (stream : ℕ) (a : Act) (mode : Option Mode) → m.side ≡ h.side → m.pump ≡ h.pump → Looked h m → Did m g stream a mode → Tried h g stream a mode
did_after h m g stream a None side pump (sees, same) (pass, outbox) = inr (subst (OnlySees h.pass) (sym pass) sees, outbox ∙ same)
did_after h m g stream a (Some mode) side pump looked happens = happens_after h m g h.side stream a mode pump looked (subst (λ (s : End). Happens m g s stream a mode) side happens)

-- the same, of all that may have come of an act after a look at it
pub tried_after : {L S : Type 0} (h m g : HostState L S) (stream : ℕ) (a : Act) (r : Result (Option Mode) LiveFault) → m.side ≡ h.side → m.pump ≡ h.pump → Looked h m → IfOk r (Did m g stream a) → IfOk r (Tried h g stream a)
tried_after h m g stream a (Err fault) side pump looked did = tt
tried_after h m g stream a (Ok mode) side pump looked did = did_after h m g stream a mode side pump looked did

-- so it was with the delivery of a packet that bytes spell
pub delivery_tried : {L S : Type 0} (h g : HostState L S) (bytes : List ℕ) (p : OwnedPacket) (word given : ℕ) → Spells (newest h.journal.version) bytes p → word ≡ word_for p.body given → Tried h g p.stream (act.Deliver p word) None
    → Delivered h g bytes given None
delivery_tried h g bytes p word given spelt is (inl repeats) = inl (p, spelt, subst (λ (w : ℕ). Repeats h g h.side p.stream (act.Deliver p w)) is repeats)
delivery_tried h g bytes p word given spelt is (inr looked) = inr looked

pub delivery_done : {L S : Type 0} (h g : HostState L S) (bytes : List ℕ) (p : OwnedPacket) (stream word given : ℕ) (mode : Mode) → Spells (newest h.journal.version) bytes p → p.stream ≡ stream → word ≡ word_for p.body given
    → Tried h g stream (act.Deliver p word) (Some mode) → Delivered h g bytes given (Some (stream, mode))
delivery_done h g bytes p stream word given mode spelt of is happens = (p, spelt, of, subst (λ (w : ℕ). Happens h g h.side stream (act.Deliver p w) mode) is happens)

-- an act suits a stream after a look at it
pub suits_after : {L S : Type 0} (h m : HostState L S) (stream : ℕ) (a : Act) → Stays h m → Suits h.journal.version h.side stream a → Suits m.journal.version m.side stream a
suits_after h m stream a stays suits = subst (λ (v : Version). Suits v m.side stream a) (sym stays.journal.version) (subst (λ (s : End). Suits h.journal.version s stream a) (sym stays.side) suits)
