-- What a host has noted, and keeps of that.
use Rattle.std.proofs.Common.{◌≡◌, ℕ, ◌+◌, ◌-◌, false, Option, None, Some, IfNone, IfSome, List, length, refl, sym, ap, subst, ◌∙◌, arith}
use Rattle.std.specs.List.{Contains}
use Rattle.amo_object.specs.declared.step.End.{End}
use Rattle.amo_object.specs.declared.step.End.TheVariants.{Receiver, Sender}
use Rattle.amo_core.specs.declared.act.Act.{Act}
use Rattle.amo_core.specs.declared.act.Act.TheVariants as act
use Rattle.amo_core.specs.declared.mode.Mode.{Mode}
use Rattle.amo_core.specs.declared.mode.Mode.TheVariants as mode
use Rattle.amo_core.specs.declared.reply.Reply.TheVariants as reply
use Rattle.amo_core.specs.Summary.{summary_of}
use Rattle.amo_world.specs.declared.event.Event.{Event}
use Rattle.amo_book.specs.Pass.{Answer, Grown, PassState, automaton_after, event, mine}
use Rattle.amo_window.proofs.Rising.{Contains-at_place}
use Rattle.amo_host.specs.AtStream.{HasMode}
use Rattle.amo_host.specs.Host.{streams_of}
use Rattle.amo_host.specs.Host as host
use Rattle.amo_journal.specs.Journal.{line_text}
use Rattle.amo_live.specs.Host.{Did, HasLines, Happens, HostState, IsBegun, IsHostAct, IsNoted, IsWhole, NotedLast, Stays}
use Rattle.amo_live.specs.Noted.{Holds, IsSameJournal, JournalState}
use Rattle.amo_live.specs.OpenLines.{KeepsOpen, line_behind, takes, with_put}
use Rattle.amo_live.specs.Unanswered.{KeptLines, step_of, stepped}
use Rattle.amo_live.proofs.Following.{ack_followed, act_followed, get_followed, put_followed}
use Rattle.amo_live.proofs.Onwards.{begins_whole}
use Rattle.amo_live.proofs.Performing.{same_mode, stream_at}

-- an act of a host's own is no put
not_put : (a : Act) → IsHostAct a → takes a reply.Done ≡ false
not_put (act.Put m) own = absurd own
not_put act.Get own = absurd own
not_put act.Ack own = absurd own
not_put (act.Start word) own = refl
not_put (act.Batch word) own = refl
not_put act.Resend own = refl
not_put (act.Deliver p word) own = refl
not_put act.Crash own = refl
not_put act.Recover own = refl

-- what a host is keeps it where its streams have the same modes
pub known_mode : (h : host.Host) → host.IsHost h → (stream : ℕ) (before : Option Mode) (known : Mode) → HasMode h stream known → IfSome before (HasMode h stream) → IfNone before (¬ (Contains (streams_of h.modes) stream)) → before ≡ Some known
known_mode h is stream None known (place, at) some none = absurd (none (Contains-at_place (streams_of h.modes) place stream (stream_at h.modes place _ at)))
known_mode h is stream (Some mode) known has some none = ap Some (same_mode h is stream mode known some has)

-- a host with another pass that calls nothing, or other lines that it keeps
abbrev pub with_other : {L S : Type 0} → HostState L S → PassState → HostState L S
with_other h other = record h { other = other }

abbrev pub with_kept : {L S : Type 0} → HostState L S → KeptLines → HostState L S
with_kept h kept = record h { unanswered = kept }

-- what happened happened to such a host
pub did_around : {L S : Type 0} (h t g m k : HostState L S) (stream : ℕ) (a : Act) (now : Mode) → t ≡ with_other h t.other → m ≡ with_other g m.other → k ≡ with_kept m k.unanswered
    → Did t g stream a (Some now) → Did h k stream a (Some now)
did_around {L = L} {S = S} h t g m k stream a now before met kept did =
    let d : Happens (with_other h t.other) g h.side stream a now = subst (λ (x : HostState L S). Did x g stream a (Some now)) before did in
    let around : Happens h (with_kept (with_other g m.other) k.unanswered) h.side stream a now = record {
      grown = d.grown;
      mode_is = d.mode_is;
      found = d.found;
      before = d.before;
      buffer = d.buffer;
      length = d.length;
      emitted = d.emitted;
      leaving = d.leaving;
    } in
    subst (λ (x : HostState L S). Happens h x h.side stream a now) (sym (kept ∙ ap (λ (x : HostState L S). with_kept x k.unanswered) met)) around

module _ {S : Type 0} (written : S → Option (List ℕ)) where
  -- the number of the next event's line
  next_number : (j : JournalState S) (past : List Event) → Holds written j past → j.next - j.left ≡ j.first + length past - j.standing
  next_number j past holds = let next = holds.next in let left = holds.left in omega (arith, next, left)

module _ {S : Type 0} where
  -- what is kept is so in the same journal
  kept_same : (side : End) (streams : ℕ) (j k : JournalState S) (history : List Event) (kept : KeptLines) → IsSameJournal j k → KeepsOpen side streams j.first j.standing history kept → KeepsOpen side streams k.first k.standing history kept
  kept_same side streams j k history kept same keeps =
      subst (λ (n : ℕ). KeepsOpen side streams k.first n history kept) (sym same.standing) (subst (λ (n : ℕ). KeepsOpen side streams n j.standing history kept) (sym same.first) keeps)

module _ {L S : Type 0} (written : S → Option (List ℕ)) where
  -- all lines are a beginning of them
  pub begins_noted : (h : HostState L S) → IsNoted written h → IsBegun written h
  begins_noted h noted = begins_whole written h.journal (mine h.pass) noted.0

  next_line : (h : HostState L S) (e : Event) (text : List ℕ) → HasLines written h → text ≡ line_text (record { number = h.journal.next - h.journal.left; event = e })
      → text ≡ line_text (line_behind h.journal.first h.journal.standing (mine h.pass) e)
  next_line h e text lines is = is ∙ ap (λ (n : ℕ). line_text (record { number = n; event = e })) (next_number written h.journal (mine h.pass) lines)

  kept_stays : (h g : HostState L S) (history : List Event) (kept : KeptLines) → Stays h g → KeepsOpen h.side h.streams h.journal.first h.journal.standing history kept
      → KeepsOpen g.side g.streams g.journal.first g.journal.standing history kept
  kept_stays h g history kept stays keeps =
      kept_same g.side g.streams h.journal g.journal history kept stays.journal
      (subst (λ (n : ℕ). KeepsOpen g.side n h.journal.first h.journal.standing history kept) (sym stays.streams)
      (subst (λ (s : End). KeepsOpen s h.streams h.journal.first h.journal.standing history kept) (sym stays.side) keeps))

  -- no event more
  pub noted_still : (h g : HostState L S) → Stays h g → HasLines written g → mine g.pass ≡ mine h.pass → g.unanswered ≡ h.unanswered → IsNoted written h → IsNoted written g
  noted_still h g stays lines same kept noted = (
    lines,
    kept_stays h g (mine g.pass) g.unanswered stays
        (subst (λ k. KeepsOpen h.side h.streams h.journal.first h.journal.standing (mine g.pass) k) (sym kept)
        (subst (λ (past : List Event). KeepsOpen h.side h.streams h.journal.first h.journal.standing past h.unanswered) (sym same) noted.1)),
  )

  pub idle_noted : (h g : HostState L S) → Stays h g → HasLines written g → g.pass ≡ h.pass → g.unanswered ≡ h.unanswered → IsNoted written h → IsNoted written g
  idle_noted h g stays lines same kept noted = noted_still h g stays lines (ap mine same) kept noted

  -- what was noted last was kept, or others are kept no more
  stepped_noted : (h g : HostState L S) (stream : ℕ) (a : Act) (known now : Mode) (messages : ℕ) → IsNoted written h → HasLines written g → Stays h g
      → Happens h g h.side stream a now → HasMode h.pump.host stream known → NotedLast h g (event h.pass.number h.side stream a reply.Done) → IsWhole g.pass
      → (known ≡ mode.Send → (messages ≡ (summary_of (automaton_after h.side stream h.pass.seen)).held) × IsWhole h.pass) → IsHostAct a
      → KeepsOpen g.side g.streams g.journal.first g.journal.standing (mine g.pass) (stepped (step_of (Some known) now) stream messages g.journal.last h.unanswered)
  stepped_noted h g stream a known now messages noted lines stays happens has last whole counted own =
      kept_stays h g (mine g.pass) (stepped (step_of (Some known) now) stream messages g.journal.last h.unanswered) stays
      (act_followed h.pass g.pass h.streams h.journal.first h.journal.standing stream h.unanswered h.side a known now messages g.journal.last happens.grown whole happens.mode_is
      (λ sends. happens.found known sends has) counted (not_put a own) (next_line h (event h.pass.number h.side stream a reply.Done) g.journal.last noted.0 last) noted.1)

  -- the same by the step of the mode that the host had
  pub performed_noted : (h g : HostState L S) (stream : ℕ) (a : Act) (before : Option Mode) (now : Mode) (messages : ℕ) → IsNoted written h → HasLines written g → Stays h g
      → Did h g stream a (Some now) → (known : Mode) × HasMode h.pump.host stream known → NotedLast h g (event h.pass.number h.side stream a reply.Done) → IsWhole g.pass
      → ((known : Mode) → HasMode h.pump.host stream known → before ≡ Some known)
      → (before ≡ Some mode.Send → messages ≡ (summary_of (automaton_after h.side stream h.pass.seen)).held) → (before ≡ Some mode.Send → IsWhole h.pass) → IsHostAct a
      → (kept : KeptLines) → kept ≡ stepped (step_of before now) stream messages g.journal.last g.unanswered → g.unanswered ≡ h.unanswered
      → HasLines written g × KeepsOpen g.side g.streams g.journal.first g.journal.standing (mine g.pass) kept
  performed_noted h g stream a before now messages noted lines stays did (known, has) last whole only counted seen own kept made same =
      let found : before ≡ Some known = only known has in
      let step : stepped (step_of (Some known) now) stream messages g.journal.last h.unanswered ≡ kept =
      ap (λ (b : Option Mode). stepped (step_of b now) stream messages g.journal.last h.unanswered) (sym found) ∙ (ap (λ (k : KeptLines). stepped (step_of before now) stream messages g.journal.last k) (sym same) ∙ sym made) in (
        lines,
        subst (λ (k : KeptLines). KeepsOpen g.side g.streams g.journal.first g.journal.standing (mine g.pass) k) step
            (stepped_noted h g stream a known now messages noted lines stays did has last whole (λ sends. let is_so = found ∙ ap Some sends in (counted is_so, seen is_so)) own),
      )

  -- a call of a client's
  pub put_noted : (h g : HostState L S) (stream : ℕ) (m : List ℕ) (answer : Answer) → IsNoted written h → HasLines written g → Stays h g → Grown h.pass g.pass Sender stream (act.Put m) answer → IsWhole g.pass
      → IfSome answer (λ k. NotedLast h g (event h.pass.number Sender stream (act.Put m) k.0)) → (kept : KeptLines) → kept ≡ with_put answer stream g.journal.last g.unanswered → g.unanswered ≡ h.unanswered
      → HasLines written g × KeepsOpen g.side g.streams g.journal.first g.journal.standing (mine g.pass) kept
  put_noted h g stream m answer noted lines stays grown whole last kept made same = (
    lines,
    kept_stays h g (mine g.pass) kept stays
        (subst (λ (k : KeptLines). KeepsOpen h.side h.streams h.journal.first h.journal.standing (mine g.pass) k)
        (ap (λ (k : KeptLines). with_put answer stream g.journal.last k) (sym same) ∙ sym made)
        (put_followed h.pass g.pass h.streams h.journal.first h.journal.standing stream h.unanswered h.side m g.journal.last answer grown whole (for_some answer last) noted.1)),
  )
    where
      for_some : (answer : Answer) → IfSome answer (λ k. NotedLast h g (event h.pass.number Sender stream (act.Put m) k.0))
          → IfSome answer (λ k. g.journal.last ≡ line_text (line_behind h.journal.first h.journal.standing (mine h.pass) (event h.pass.number Sender stream (act.Put m) k.0)))
      for_some None is = tt
      for_some (Some (r, position)) is = next_line h (event h.pass.number Sender stream (act.Put m) r) g.journal.last noted.0 is

  pub get_noted : (h : HostState L S) (w : PassState) (k : JournalState S) (stream : ℕ) (answer : Answer) → IsNoted written h → Holds written k (mine w) → IsSameJournal h.journal k → Grown h.pass w Receiver stream act.Get answer
      → IsNoted written (record h { pass = w; journal = k })
  get_noted h w k stream answer noted lines same grown =
      (lines, kept_same h.side h.streams h.journal k (mine w) h.unanswered same (get_followed h.pass w h.streams h.journal.first h.journal.standing stream h.unanswered h.side answer grown noted.1))

  pub ack_noted : (h : HostState L S) (w : PassState) (k : JournalState S) (stream : ℕ) (answer : Answer) → IsNoted written h → Holds written k (mine w) → IsSameJournal h.journal k → Grown h.pass w Sender stream act.Ack answer
      → IsNoted written (record h { pass = w; journal = k })
  ack_noted h w k stream answer noted lines same grown =
      (lines, kept_same h.side h.streams h.journal k (mine w) h.unanswered same (ack_followed h.pass w h.streams h.journal.first h.journal.standing stream h.unanswered h.side answer grown noted.1))
