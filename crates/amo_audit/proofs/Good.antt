-- A journal whose history is right, honest and fresh has no verdict against it.
use Rattle.std.proofs.Common.{◌≡◌, ℕ, List, [], ◌∷◌, ◌++◌, reverse, refl, ◌∙◌, ap, subst, inl, inr, ◌⊎◌, append_assoc}
use Rattle.std.proofs.lemmas.List.{reverse-append}
use Rattle.amo_world.specs.declared.event.Event.{Event}
use Rattle.amo_world.specs.declared.fault.WorldFault.{WorldFault}
use Rattle.amo_world.specs.declared.fault.WorldFault.TheVariants as fault
use Rattle.amo_world.specs.History.{HasRightReply, DeliversEmitted, UsesNewWord, Extends}
use Rattle.amo_world.specs.World.{Refuses}
use Rattle.amo_world.proofs.Extensions.{earlier_too}
use Rattle.amo_audit.specs.declared.verdict.Verdict.{Verdict}
use Rattle.amo_audit.specs.declared.verdict.Verdict.TheVariants as verdict
use Rattle.amo_journal.specs.Journal.{IsJournal}
use Rattle.amo_journal.specs.declared.lines.Lines.{Lines}
use Rattle.amo_journal.specs.Lines.{Tell}
use Rattle.amo_audit.specs.Audit.{AreOf, IsFaultAt, IsSound, JudgesLines, TellFaultAt, further}
use Rattle.amo_journal.proofs.Unambiguous.{one_events, one_opening, malformed_no_events, gap_no_events}

history_at : (before : List Event) (e : Event) (after : List Event) → reverse (before ++ e ∷ after) ≡ reverse after ++ e ∷ reverse before
history_at before e after =
    reverse-append before (e ∷ after) ∙ ap (λ (t : List Event). t ++ reverse before) (reverse-append (e ∷ []) after) ∙ append_assoc (reverse after) (e ∷ []) (reverse before)

not_refused : (past : List Event) (e : Event) (why : WorldFault) → (why ≡ fault.NoMemory → ⊥) → HasRightReply past e → DeliversEmitted past e → UsesNewWord past e → Refuses past e why → ⊥
not_refused past e fault.WrongReply memory a b c refused = refused a
not_refused past e fault.Unsent memory a b c refused = refused.1 b
not_refused past e fault.Repeat memory a b c refused = refused.2 c
not_refused past e fault.NoMemory memory a b c refused = memory refl

no_fault : (events : List Event) (at : ℕ) (why : WorldFault) → (why ≡ fault.NoMemory → ⊥) → IsSound (reverse events) → IsFaultAt events at why → ⊥
no_fault events at why memory sound found =
    let now = found.event ∷ reverse found.before in
    let extends : Extends (reverse events) now = (reverse found.after, ap reverse found.whole ∙ history_at found.before found.event found.after) in
    not_refused (reverse found.before) found.event why memory
    (earlier_too HasRightReply (reverse events) now extends sound.0).0
    (earlier_too DeliversEmitted (reverse events) now extends sound.1).0
    (earlier_too UsesNewWord (reverse events) now extends sound.2).0
    found.refused

no_fault_in : (lines : Lines) (events : List Event) (at : ℕ) (why : WorldFault) → (why ≡ fault.NoMemory → ⊥) → Tell events lines → IsSound (reverse events) → TellFaultAt lines at why → ⊥
no_fault_in lines events at why memory told sound (others, told', found) =
    no_fault events at why memory sound (subst (λ (t : List Event). IsFaultAt t at why) (one_events lines.version lines.text.now others events told' told) found)

good_lines : (lines : Lines) (v : Verdict) → JudgesLines lines v → (events : List Event) → Tell events lines → IsSound (reverse events) → (v ≡ verdict.Yes) ⊎ (v ≡ verdict.NoMemory)
good_lines lines verdict.Yes judged events told sound = inl refl
good_lines lines verdict.NoMemory judged events told sound = inr refl
good_lines lines (verdict.Malformed at) judged events told sound = absurd (malformed_no_events lines.version lines.text.now at events judged told)
good_lines lines (verdict.Gap at) judged events told sound = absurd (gap_no_events lines.version lines.text.now at events judged told)
good_lines lines (verdict.WrongReply at) judged events told sound = absurd (no_fault_in lines events at fault.WrongReply (λ e. cc) told sound judged)
good_lines lines (verdict.Unsent at) judged events told sound = absurd (no_fault_in lines events at fault.Unsent (λ e. cc) told sound judged)
good_lines lines (verdict.Repeat at) judged events told sound = absurd (no_fault_in lines events at fault.Repeat (λ e. cc) told sound judged)

pub good : (bytes : List ℕ) (lines : Lines) (v : Verdict) → AreOf bytes lines → JudgesLines lines v → (events : List Event) → IsJournal events bytes → IsSound (reverse events) → (v ≡ verdict.Yes) ⊎ (v ≡ verdict.NoMemory)
good bytes lines v opens judged events (version, journal) sound =
    let same = one_opening bytes version lines.version journal.body lines.text.now journal.opens opens in
    good_lines lines v judged events (rw (same.0, same.1) at journal.lines) sound

-- which stays so, further on
pub good_file : (more : ℕ) (v w : Verdict) → w ≡ further more v → (v ≡ verdict.Yes) ⊎ (v ≡ verdict.NoMemory) → (w ≡ verdict.Yes) ⊎ (w ≡ verdict.NoMemory)
good_file more v w is (inl it) = inl (is ∙ ap (further more) it)
good_file more v w is (inr it) = inr (is ∙ ap (further more) it)
