-- Lines of explanations, and what a resolver's faults are to an audit.
use Rattle.std.proofs.Common.{◌≡◌, ℕ, ◌+◌, ◌<◌, List, [], ◌∷◌, ◌++◌, length, take, drop, true, false, refl, sym, ◌∙◌, ap, arith, append_assoc, reverse}
use Rattle.std.specs.Fmt.{decimal}
use Rattle.std.proofs.lemmas.List.{take-append-drop, length-take-le, drop_more}
use Rattle.std.proofs.lemmas.Option.{slice_get_within, get_or_from_slice_get}
use Rattle.amo_object.specs.declared.step.Step.{Step}
use Rattle.amo_object.specs.declared.step.Step.TheVariants.{Put, Get, Ack, Crash, Recover, DownReply, Lose, LoseAck}
use Rattle.amo_resolve.specs.Fault.{IsFirstRefused}
use Rattle.amo_text.specs.Line.{text_of}
use Rattle.amo_world.specs.declared.event.Event.{Event}
use Rattle.amo_world.specs.declared.fault.WorldFault.{WorldFault}
use Rattle.amo_audit.specs.declared.verdict.Verdict.{Verdict}
use Rattle.amo_audit.specs.declared.verdict.Verdict.TheVariants as verdict
use Rattle.amo_world.specs.History.{IsRight, IsHonest, IsFresh}
use Rattle.amo_world.proofs.Serving.{serves}
use Rattle.amo_journal.specs.declared.lines.Lines.{Lines}
use Rattle.amo_journal.specs.Lines.{Tell}
use Rattle.amo_audit.specs.Audit.{AreGood, IsFaultAt, JudgesLines, TellFaultAt, further}
use Rattle.amo_audit.specs.Judgement.{TellNone}
use Rattle.amo_audit.specs.Explanation.{step_fields, step_line, ExplainsIf}

-- a step's line is its stream, a space, its fields and a line feed
text_of_step : (stream : ℕ) (step : Step) → text_of (decimal stream ∷ step_fields step) ≡ decimal stream ++ 32 ∷ text_of (step_fields step)
text_of_step stream (Put m) = refl
text_of_step stream (Get m) = refl
text_of_step stream (Ack true) = refl
text_of_step stream (Ack false) = refl
text_of_step stream (Crash side) = refl
text_of_step stream (Recover side) = refl
text_of_step stream (DownReply side) = refl
text_of_step stream (Lose place) = refl
text_of_step stream LoseAck = refl

pub pushed_step : (t t1 t2 t3 t4 : List ℕ) (stream : ℕ) (step : Step) → t1 ≡ t ++ decimal stream → t2 ≡ t1 ++ 32 ∷ [] → t3 ≡ t2 ++ text_of (step_fields step) → t4 ≡ t3 ++ 10 ∷ [] → t4 ≡ t ++ step_line stream step
pushed_step t t1 t2 t3 t4 stream step e1 e2 e3 e4 =
    rw (e4, e3, e2, e1) (simp append_assoc)
    ∙ ap (λ (line : List ℕ). t ++ (line ++ 10 ∷ [])) (sym (text_of_step stream step))

-- lines that tell of no events are judged so
pub none_judged : (lines : Lines) (v : Verdict) → TellNone lines v → JudgesLines lines v
none_judged lines (verdict.Malformed at) found = found
none_judged lines (verdict.Gap at) found = found
none_judged lines verdict.NoMemory found = tt
none_judged lines verdict.Yes found = absurd found
none_judged lines (verdict.WrongReply at) found = absurd found
none_judged lines (verdict.Unsent at) found = absurd found
none_judged lines (verdict.Repeat at) found = absurd found

-- the place of the first event that is refused, counted from 0, and its line, counted from 1
pub refused_within : (events : List Event) (place : ℕ) (why : WorldFault) → IsFirstRefused events place why → place < length events
refused_within events place why refused = slice_get_within events place refused.event refused.here

pub fault_at : (events : List Event) (place : ℕ) (why : WorldFault) → IsFirstRefused events place why → IsFaultAt events (place + 1) why
fault_at events place why refused =
    let within = refused_within events place why refused in
    let here = get_or_from_slice_get events place refused.event refused.event refused.here in
    record {
      before = take place events;
      event = refused.event;
      after = drop (place + 1) events;
      whole = sym (take-append-drop place events) ∙ ap (λ (t : List Event). take place events ++ t) (drop_more events place refused.event within ∙ ap (λ (e : Event). e ∷ drop (place + 1) events) here);
      sound = (refused.right, refused.honest, refused.fresh);
      refused = refused.refused;
      count = let long : length (take place events) ≡ place = length-take-le place events (omega arith) in omega (arith, long);
    }

pub tell_fault_at : (lines : Lines) (events : List Event) (place : ℕ) (why : WorldFault) → Tell events lines → IsFirstRefused events place why → TellFaultAt lines (place + 1) why
tell_fault_at lines events place why told refused = (events, told, fault_at events place why refused)

-- lines of a history that is right, honest and fresh
pub good_lines : (lines : Lines) (events : List Event) → Tell events lines → IsRight (reverse events) × IsHonest (reverse events) × IsFresh (reverse events) → AreGood lines
good_lines lines events told sound = (events, told, sound, λ number. serves number (reverse events) sound.0 sound.1 sound.2)

-- nothing explains a file that is judged otherwise
pub not_explained : (bytes : List ℕ) (more : ℕ) (v : Verdict) → (v ≡ verdict.Yes → ⊥) → ExplainsIf (further more v) bytes []
not_explained bytes more verdict.Yes not = absurd (not refl)
not_explained bytes more verdict.NoMemory not = refl
not_explained bytes more (verdict.Malformed at) not = refl
not_explained bytes more (verdict.Gap at) not = refl
not_explained bytes more (verdict.WrongReply at) not = refl
not_explained bytes more (verdict.Unsent at) not = refl
not_explained bytes more (verdict.Repeat at) not = refl

pub still_no_memory : (more : ℕ) (v : Verdict) → further more v ≡ verdict.NoMemory → v ≡ verdict.NoMemory
still_no_memory more verdict.NoMemory e = refl
still_no_memory more verdict.Yes e = cc
still_no_memory more (verdict.Malformed at) e = cc
still_no_memory more (verdict.Gap at) e = cc
still_no_memory more (verdict.WrongReply at) e = cc
still_no_memory more (verdict.Unsent at) e = cc
still_no_memory more (verdict.Repeat at) e = cc

-- why lines tell of none is no yes
pub none_is_no_yes : (lines : Lines) (v : Verdict) → TellNone lines v → v ≡ verdict.Yes → ⊥
none_is_no_yes lines verdict.Yes found e = found
none_is_no_yes lines verdict.NoMemory found e = cc
none_is_no_yes lines (verdict.Malformed at) found e = cc
none_is_no_yes lines (verdict.Gap at) found e = cc
none_is_no_yes lines (verdict.WrongReply at) found e = cc
none_is_no_yes lines (verdict.Unsent at) found e = cc
none_is_no_yes lines (verdict.Repeat at) found e = cc
