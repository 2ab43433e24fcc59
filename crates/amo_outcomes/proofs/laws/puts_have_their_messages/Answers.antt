use Rattle.std.proofs.Common.{refl, sym, subst, ◌∷◌, []}
use Rattle.amo_packet.specs.Batch.{messages}
use Rattle.amo_world.specs.History.{stream_after}
use Rattle.amo_world.proofs.Packets.{IsSend, any-contains}
use Rattle.amo_outcomes.proofs.Histories.{told}
use Rattle.amo_outcomes.proofs.laws.puts_have_their_messages.Goals as goal

pub returns-clause-count : goal.returns-clause-count
returns-clause-count c = λ number events right honest fresh. (told number events right honest fresh).ties.count

pub returns-clause-got : goal.returns-clause-got
returns-clause-got c = λ number events right honest fresh. (told number events right honest fresh).ties.got_are

pub returns-clause-waiting : goal.returns-clause-waiting
returns-clause-waiting c = λ number events right honest fresh. (told number events right honest fresh).ties.waiting_are

pub returns-clause-held : goal.returns-clause-held
returns-clause-held c = λ number events right honest fresh. (told number events right honest fresh).ties.held_are

pub returns-clause-sent : goal.returns-clause-sent
returns-clause-sent c = λ number events p id m right honest fresh stands is.
    (told number events right honest fresh).ties.sent_are id (m ∷ [])
    (any-contains (IsSend id (m ∷ [])) (stream_after number events).sender.emitted p stands
    (subst (IsSend id (m ∷ [])) (sym is) (refl, refl)))

pub returns-clause-sent_together : goal.returns-clause-sent_together
returns-clause-sent_together c = λ number events p id b right honest fresh stands is.
    (told number events right honest fresh).ties.sent_are id (messages b)
    (any-contains (IsSend id (messages b)) (stream_after number events).sender.emitted p stands
    (subst (IsSend id (messages b)) (sym is) (refl, refl)))
