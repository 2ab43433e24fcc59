-- What an audit has found, after one event more.
use Rattle.std.proofs.Common.{◌≡◌, ℕ, ◌+◌, List, [], ◌∷◌, ◌++◌, length, refl, sym, ◌∙◌, ap, subst, append_assoc}
use Rattle.std.specs.Prelude.{Result, Err}
use Rattle.amo_world.specs.declared.event.Event.{Event}
use Rattle.amo_world.specs.declared.fault.WorldFault.{WorldFault}
use Rattle.amo_world.specs.declared.fault.WorldFault.TheVariants as fault
use Rattle.amo_world.specs.History.{HasRightReply, DeliversEmitted, UsesNewWord}
use Rattle.amo_world.specs.World.{Refuses}
use Rattle.amo_world.proofs.Order.{reverse_push}
use Rattle.amo_journal.specs.declared.lines.Lines.{Lines}
use Rattle.amo_journal.specs.Lines.{Tell}
use Rattle.amo_audit.specs.declared.auditor.Finding.{Finding}
use Rattle.amo_audit.specs.declared.auditor.Finding.TheVariants.{Nothing, AtFault}
use Rattle.amo_audit.specs.declared.verdict.Verdict.{Verdict}
use Rattle.amo_audit.specs.declared.verdict.Verdict.TheVariants as verdict
use Rattle.amo_audit.specs.Audit.{Finds, JudgesEvents, JudgesLines, IsFaultAt, IsSound}

fault_stays : (events : List Event) (e : Event) (at : ℕ) (why : WorldFault) → IsFaultAt events at why → IsFaultAt (events ++ e ∷ []) at why
fault_stays events e at why found = record {
  before = found.before;
  event = found.event;
  after = found.after ++ e ∷ [];
  whole = ap (λ (t : List Event). t ++ e ∷ []) found.whole ∙ append_assoc found.before (found.event ∷ found.after) (e ∷ []);
  sound = found.sound;
  refused = found.refused;
  count = found.count;
}

module _ (world : List Event) (finding : Finding) (events : List Event) (e : Event) (finds : Finds world finding events) where
  pub after_fault : (at : ℕ) (why : WorldFault) → finding ≡ AtFault at why → Finds world finding (events ++ e ∷ [])
  after_fault at why is =
      subst (λ (f : Finding). Finds world f (events ++ e ∷ [])) (sym is) (fault_stays events e at why (subst (λ (f : Finding). Finds world f events) is finds))

  pub accepted : (now : List Event) → finding ≡ Nothing → now ≡ e ∷ world → IsSound now → Finds now finding (events ++ e ∷ [])
  accepted now is more sound =
      let found = subst (λ (f : Finding). Finds world f events) is finds in
      subst (λ (f : Finding). Finds now f (events ++ e ∷ [])) (sym is) (more ∙ ap (λ (h : List Event). e ∷ h) found.0 ∙ sym (reverse_push events e), sound)

  pub fault_found : (now : List Event) (before : ℕ) (why : WorldFault) → finding ≡ Nothing → before ≡ length events → Refuses world e why → Finds now (AtFault (before + 1) why) (events ++ e ∷ [])
  fault_found now before why is long refused =
      let found = subst (λ (f : Finding). Finds world f events) is finds in
      record {
        before = events;
        event = e;
        after = [];
        whole = refl;
        sound = subst IsSound found.0 found.1;
        refused = subst (λ (h : List Event). Refuses h e why) found.0 refused;
        count = ap (λ n. n + 1) long;
      }

-- what is judged of the events is judged of the lines that tell of them
pub events_judged : (lines : Lines) (events : List Event) (v : Verdict) → Tell events lines → JudgesEvents events v → JudgesLines lines v
events_judged lines events verdict.Yes told judged = (events, told, judged.0, judged.1)
events_judged lines events verdict.NoMemory told judged = tt
events_judged lines events (verdict.Malformed at) told judged = absurd judged
events_judged lines events (verdict.Gap at) told judged = absurd judged
events_judged lines events (verdict.WrongReply at) told judged = (events, told, judged)
events_judged lines events (verdict.Unsent at) told judged = (events, told, judged)
events_judged lines events (verdict.Repeat at) told judged = (events, told, judged)

pub refuses : (past : List Event) (e : Event) (why : WorldFault) → (why ≡ fault.WrongReply → ¬ (HasRightReply past e)) → (why ≡ fault.Unsent → HasRightReply past e × (¬ (DeliversEmitted past e)))
    → (why ≡ fault.Repeat → HasRightReply past e × DeliversEmitted past e × (¬ (UsesNewWord past e))) → (why ≡ fault.NoMemory → HasRightReply past e × DeliversEmitted past e × UsesNewWord past e) → Refuses past e why
refuses past e fault.WrongReply a b c d = a refl
refuses past e fault.Unsent a b c d = b refl
refuses past e fault.Repeat a b c d = c refl
refuses past e fault.NoMemory a b c d = d refl

abbrev refusal : WorldFault → Result (Unit {0}) WorldFault
refusal why = Err why

pub errs : (a b : WorldFault) → a ≡ b → refusal a ≡ refusal b
errs a b e = ap refusal e
