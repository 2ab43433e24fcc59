-- What the acts of hosts do.
use Rattle.std.specs.Prelude.{◌≡◌, ℕ, List, None}
use Rattle.amo_object.specs.declared.step.End.TheVariants.{Sender}
use Rattle.amo_core.specs.declared.act.Act.{Act}
use Rattle.amo_core.specs.declared.act.Act.TheVariants as act
use Rattle.amo_core.specs.declared.reply.Reply.TheVariants as reply
use Rattle.amo_core.specs.Automaton.{mode_of, Writes}
use Rattle.amo_world.specs.Stream.{emission_of}
use Rattle.amo_world.specs.History.{stream_after}
use Rattle.amo_book.specs.declared.drive.Done.{Done}
use Rattle.amo_book.specs.Pass.{PassState, GrownBy, HasPosition, automaton_after, event}
use Rattle.amo_book.specs.Charge.{ChargeState}

-- the acts that a host may do at a charge's side: a start is a sender's, and a delivered packet is one for the charge's stream
abbrev pub Suits : ChargeState → Act → Type 0
Suits c (act.Start word) = c.side ≡ Sender
Suits c (act.Batch word) = c.side ≡ Sender
Suits c act.Resend = Unit {0}
Suits c (act.Deliver p word) = p.stream ≡ c.stream
Suits c act.Crash = Unit {0}
Suits c act.Recover = Unit {0}
Suits c _ = ⊥

-- The act is the pass's event at the charge's side. What its row emits after all earlier events stands at the front of the buffer, and the
-- charge holds the mode that the row leaves. A sender was found in the mode that its charge held.
pub record Driven (v w : PassState) (c d : ChargeState) (a : Act) (old new : List ℕ) (done : Done) : Type 0 where
  pub grown : GrownBy v w (event v.number c.side c.stream a reply.Done)
  pub answered : HasPosition w done.position
  pub emitted : Writes (emission_of (stream_after c.stream grown.earlier) c.side a) old new done.length
  pub mode : done.mode ≡ mode_of (automaton_after c.side c.stream w.seen)
  pub charge : d ≡ record c { mode = done.mode }
  pub found : c.side ≡ Sender → mode_of (automaton_after c.side c.stream grown.earlier) ≡ c.mode

-- pass, charge and buffer are as they were
abbrev pub Unchanged : PassState → PassState → ChargeState → ChargeState → List ℕ → List ℕ → Type 0
Unchanged v w c d old new = (w ≡ v) × (d ≡ c) × (new ≡ old)

-- the act emits nothing
abbrev pub DrivenSilently : PassState → PassState → ChargeState → ChargeState → Act → Done → Type 0
DrivenSilently v w c d a done = (done.length ≡ None) × ((old new : List ℕ) × Driven v w c d a old new done)
