-- Which messages were put.
use Rattle.std.proofs.Common.{◌≡◌, ℕ, ◌+◌, ◌-◌, length, Bool, true, false, List, ◌∷◌, Option, Some, None, Ok, Err, refl, ap, subst, sym, ◌∙◌}
use Rattle.amo_object.specs.declared.step.End.TheVariants.{Sender}
use Rattle.amo_core.specs.declared.act.Act.{Act}
use Rattle.amo_core.specs.declared.act.Act.TheVariants as act
use Rattle.amo_core.specs.declared.mode.Mode.{Mode}
use Rattle.amo_core.specs.declared.reply.Reply.TheVariants as reply
use Rattle.amo_world.specs.History.{Extends}
use Rattle.amo_world.proofs.Extensions.{itself}
use Rattle.amo_book.specs.declared.fault.PutFault.{PutFault}
use Rattle.amo_book.specs.declared.fault.PutFault.TheVariants as put_fault
use Rattle.amo_book.specs.Calls.{put_answer}
use Rattle.amo_book.specs.Pass.{PassState, Answered, Grown, mine}
use Rattle.amo_journal.specs.declared.version.Version.{Version}
use Rattle.amo_journal.specs.declared.version.Version.TheVariants.{One, Two}
use Rattle.amo_journal.specs.Version.{HasBatches}
use Rattle.amo_live.specs.Callers.{HappensAt, IsSameLife, MovesNone, PutsAt, gets_in}
use Rattle.amo_live.specs.Host.{HostState, Delivered, Did, Looks, puts_in}
use Rattle.amo_live.specs.Noted.{IsSameJournal, JournalState}
use Rattle.amo_live.specs.Service.{start_of, starts_batches}
use Rattle.amo_live.specs.declared.service.door.EventAt.{EventAt}
use Rattle.amo_live.proofs.Getting.{call_extends, happens_at, happens_until}
use Rattle.amo_live.proofs.Repeating.{looks_still, none_still}

-- a put that was answered with Ok put its message
pub was_put : (v w : PassState) (stream : ℕ) (m : List ℕ) (position : ℕ) → Grown v w Sender stream (act.Put m) (put_answer (Ok position)) → puts_in (mine w) ≡ (stream, m) ∷ puts_in (mine v)
was_put v w stream m position grown = ap puts_in grown.mine_grew

-- also where a handshake began behind it, and it stands at the position that it answered, and in the next line
pub put_on : {S : Type 0} (v u w : PassState) (i j k : JournalState S) (stream : ℕ) (m : List ℕ) (position : ℕ) (at : EventAt) → at.position ≡ position → Grown v u Sender stream (act.Put m) (put_answer (Ok position)) → Answered u (put_answer (Ok position))
    → IsSameJournal i j → i.next ≡ i.first + (length (mine v) - i.standing) → at.line ≡ i.next
    → puts_in (mine w) ≡ puts_in (mine u) → Extends w.seen u.seen → IsSameLife u w j k → PutsAt v w k stream m (Some at)
put_on v u w i j k stream m position at is grown answered same next line none more life = (
  none ∙ was_put v u stream m position grown,
  subst (λ (p : ℕ). HappensAt v w k Sender stream (act.Put m) reply.Ok p at.line) (sym is)
      (happens_until v u w j k Sender stream (act.Put m) reply.Ok position at.line more life (happens_at v u i j Sender stream (act.Put m) reply.Ok position at.line grown answered same next line)),
)

-- one that was refused put nothing
pub was_refused : (v w : PassState) (stream : ℕ) (m : List ℕ) (fault : PutFault) → Grown v w Sender stream (act.Put m) (put_answer (Err fault)) → puts_in (mine w) ≡ puts_in (mine v)
was_refused v w stream m (put_fault.Full position back) grown = ap puts_in grown.mine_grew
was_refused v w stream m (put_fault.Down position back) grown = ap puts_in grown.mine_grew
was_refused v w stream m (put_fault.Busy back) grown = ap (λ (p : PassState). puts_in (mine p)) grown
was_refused v w stream m (put_fault.NoStream back) grown = ap (λ (p : PassState). puts_in (mine p)) grown

pub put_none : {S : Type 0} (v w : PassState) (j : JournalState S) (stream : ℕ) (m : List ℕ) (fault : PutFault) → Grown v w Sender stream (act.Put m) (put_answer (Err fault)) → PutsAt v w j stream m None
put_none v w j stream m fault grown = (was_refused v w stream m fault grown, call_extends v w Sender stream (act.Put m) (put_answer (Err fault)) grown)

-- nor did what did nothing
pub put_none_still : {S : Type 0} (v : PassState) (j : JournalState S) (stream : ℕ) (m : List ℕ) → PutsAt v v j stream m None
put_none_still v j stream m = (refl, itself v.seen)

-- batches are started where they have lines
pub batches_noted : (batch : Bool) (version : Version) → starts_batches batch version ≡ true → HasBatches version
batches_noted batch One is = cc
batches_noted batch Two is = tt

-- where nothing happened, no message was put or got
pub still : (v w : PassState) → w ≡ v → MovesNone v w
still v w same = (ap (λ (p : PassState). puts_in (mine p)) same, ap (λ (p : PassState). gets_in (mine p)) same)

-- nor behind that
pub moves_to : (v u w : PassState) → w ≡ u → MovesNone v u → MovesNone v w
moves_to v u w same moved = subst (MovesNone v) (sym same) moved

-- the start of a batch puts and gets nothing, and no other start does
start_one : {L S : Type 0} (h g : HostState L S) (stream word : ℕ) (mode : Option Mode) → Did h g stream (act.Start word) mode → MovesNone h.pass g.pass
start_one h g stream word None did = still h.pass g.pass did.0
start_one h g stream word (Some mode) did = (ap puts_in did.grown.mine_grew, ap gets_in did.grown.mine_grew)

start_batch : {L S : Type 0} (h g : HostState L S) (stream word : ℕ) (mode : Option Mode) → Did h g stream (act.Batch word) mode → MovesNone h.pass g.pass
start_batch h g stream word None did = still h.pass g.pass did.0
start_batch h g stream word (Some mode) did = (ap puts_in did.grown.mine_grew, ap gets_in did.grown.mine_grew)

pub start_moves : {L S : Type 0} (h g : HostState L S) (stream word : ℕ) (batch : Bool) (version : Version) (mode : Option Mode) → Did h g stream (start_of batch version word) mode → MovesNone h.pass g.pass
start_moves h g stream word batch One mode did = start_one h g stream word mode did
start_moves h g stream word false Two mode did = start_one h g stream word mode did
start_moves h g stream word true Two mode did = start_batch h g stream word mode did

-- a delivery puts nothing, nor does a look at an act
pub delivery_puts : {L S : Type 0} (h g : HostState L S) (bytes : List ℕ) (word : ℕ) (did : Option (ℕ × Mode)) → Delivered h g bytes word did → puts_in (mine g.pass) ≡ puts_in (mine h.pass)
delivery_puts h g bytes word None none = ap puts_in (none_still h g bytes word none)
delivery_puts h g bytes word (Some (stream, mode)) (p, spells, is, happens) = ap puts_in happens.grown.mine_grew

pub look_puts : {L S : Type 0} (h g : HostState L S) (stream : ℕ) (a : Act) (known : Bool) → Looks h g stream a known → puts_in (mine g.pass) ≡ puts_in (mine h.pass)
look_puts h g stream a known looks = ap puts_in (looks_still h g stream a known looks)
