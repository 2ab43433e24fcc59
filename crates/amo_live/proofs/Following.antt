-- What a host keeps of its journal, after an event of its own.
use Rattle.std.proofs.Common.{◌≡◌, ℕ, zero, suc, Bool, true, false, eqb, if◌then◌else◌, None, Some, IfSome, List, [], ◌∷◌, ◌++◌, drop, length, get_or, refl, sym, ap, subst, ◌∙◌, arith}
use Rattle.std.proofs.lemmas.Bool.{eq-eqb, eqb-true}
use Rattle.amo_object.specs.declared.step.End.{End}
use Rattle.amo_object.specs.declared.step.End.TheVariants.{Sender, Receiver}
use Rattle.amo_core.specs.declared.act.Act.{Act}
use Rattle.amo_core.specs.declared.act.Act.TheVariants as act
use Rattle.amo_core.specs.declared.mode.Mode.{Mode}
use Rattle.amo_core.specs.declared.mode.Mode.TheVariants as mode
use Rattle.amo_core.specs.declared.payload.Payload.{Payload}
use Rattle.amo_core.specs.declared.reply.Reply.{Reply}
use Rattle.amo_core.specs.declared.reply.Reply.TheVariants as reply
use Rattle.amo_core.specs.declared.sender.SenderMode.{SenderMode}
use Rattle.amo_core.specs.declared.sender.SenderMode.TheVariants as sending
use Rattle.amo_core.specs.Automaton.{mode_of}
use Rattle.amo_core.specs.Summary.{summary_of}
use Rattle.amo_core.specs.Sender as sender
use Rattle.amo_world.specs.declared.event.Event.{Event}
use Rattle.amo_world.specs.Stream.{after}
use Rattle.amo_world.specs.History.{after_if, IsRight, stream_after}
use Rattle.amo_book.specs.Pass.{Answer, Grown, GrownBy, PassState, automaton_after, event, mine}
use Rattle.amo_journal.specs.Journal.{line_text}
use Rattle.amo_lines.specs.Backlog.{kept_on}
use Rattle.amo_live.specs.declared.stream_lines.Kind.TheVariants as kind
use Rattle.amo_live.specs.declared.unanswered.Step.{Step}
use Rattle.amo_live.specs.Host.{IsWhole}
use Rattle.amo_live.specs.OpenLines.{KeepsOpen, in_order, is_ok, kind_of, line_behind, open_lines, opened_at, senders_of, takes, with_put}
use Rattle.amo_live.specs.Unanswered.{KeptLines, keeping, step_of, stepped}
use Rattle.amo_live.proofs.OpenLines.{ack_keeps, changed, changes_open, keeping_changes, more_kept, none_at_down, one_in_order, opens_put, put_keeps, stays_open, step_changes, step_on, steps_so, still_open, taken_up}

-- where all that was seen is the pass's own, nothing happened between
pub before_own : (v w : PassState) (e : Event) (grown : GrownBy v w e) → IsWhole w → grown.earlier ≡ mine v
before_own v w e grown whole = ap (λ (l : List Event). drop 1 l) (sym grown.seen ∙ (whole.own ∙ grown.mine_grew))

-- the sender of an event's own stream, behind it
own_after : (past : List Event) (e : Event) → e.side ≡ Sender → (stream_after e.stream (e ∷ past)).sender.state ≡ (sender.row (stream_after e.stream past).sender.state e.act).state
own_after past e is =
    ap (λ (b : Bool). (after_if b (stream_after e.stream past) e).sender.state) (eq-eqb e.stream e.stream refl)
    ∙ ap (λ (s : End). (after (stream_after e.stream past) s e.act).sender.state) is

-- a receiver's host keeps none
none_here : (streams first standing : ℕ) (history : List Event) (kept : KeptLines) → length kept ≡ 0 → KeepsOpen Receiver streams first standing history kept
none_here streams first standing history kept none = record { many = none; lines = λ place few. absurd (omega (arith, few, none)) }

-- and before all events there is none
pub none_open : (side : End) (streams first standing : ℕ) (kept : KeptLines) → length kept ≡ senders_of side streams → ((stream : ℕ) → kept_on stream kept ≡ []) → KeepsOpen side streams first standing [] kept
none_open side streams first standing kept many none = record { many = many; lines = λ place few. none (suc place) }

-- only a sender that sends is in that mode
sending_load : (m : SenderMode) (id : ℕ) (load : Payload) → m ≡ sending.Send id load → sender.kind m ≡ mode.Send
sending_load m id load is = ap sender.kind is

module _ (v w : PassState) (streams first standing stream : ℕ) (kept : KeptLines) where
  -- what was kept after all that the pass had made, it has after one event more
  then_after : (side : End) (e : Event) (kept' : KeptLines) → GrownBy v w e → KeepsOpen side streams first standing (e ∷ mine v) kept' → KeepsOpen side streams first standing (mine w) kept'
  then_after side e kept' grown is = subst (λ (h : List Event). KeepsOpen side streams first standing h kept') (sym grown.mine_grew) is

  step_length : (step : Step) (messages : ℕ) (text : List ℕ) → length kept ≡ 0 → stepped step stream messages text kept ≡ kept
  step_length step messages text none = step_changes step stream messages text kept ∙ nothing stream kept none
    where
      nothing : (n : ℕ) (kept : KeptLines) → length kept ≡ 0 → changed n (step_on step messages text) kept ≡ kept
      nothing zero kept none = refl
      nothing (suc n) [] none = refl
      nothing (suc n) (k ∷ kept) none = absurd (omega (arith, none))

  -- an act of the host's own at a sender
  at_sender : (a : Act) (known now : Mode) (messages : ℕ) (text : List ℕ) (grown : GrownBy v w (event v.number Sender stream a reply.Done)) → IsWhole w
      → now ≡ mode_of (automaton_after Sender stream w.seen) → mode_of (automaton_after Sender stream grown.earlier) ≡ known
      → (known ≡ mode.Send → (messages ≡ (summary_of (automaton_after Sender stream v.seen)).held) × IsWhole v) → takes a reply.Done ≡ false
      → text ≡ line_text (line_behind first standing (mine v) (event v.number Sender stream a reply.Done)) → KeepsOpen Sender streams first standing (mine v) kept
      → KeepsOpen Sender streams first standing (mine w) (stepped (step_of (Some known) now) stream messages text kept)
  at_sender a known now messages text grown whole becomes found counted other spelt keeps =
      let e = event v.number Sender stream a reply.Done in
      let past = mine v in
      let own = before_own v w e grown whole in
      let s = (stream_after stream past).sender.state in
      let before : sender.kind s.mode ≡ known = subst (λ (h : List Event). mode_of (automaton_after Sender stream h) ≡ known) own found in
      let seen : w.seen ≡ e ∷ past = grown.seen ∙ ap (λ (h : List Event). e ∷ h) own in
      let behind : sender.kind (sender.row s a).state.mode ≡ now =
      ap (λ (t : sender.SenderState). sender.kind t.mode) (sym (own_after past e refl)) ∙ (ap (λ (h : List Event). mode_of (automaton_after Sender stream h)) (sym seen) ∙ sym becomes) in
      let line = line_behind first standing past e in
      let count : (id : ℕ) (load : Payload) → s.mode ≡ sending.Send id load → messages ≡ length (sender.messages_in load) = λ id load sends.
      let told = counted (sym before ∙ sending_load s.mode id load sends) in
      told.0 ∙ (ap (λ (h : List Event). (summary_of (automaton_after Sender stream h)).held) told.1.own ∙ ap (λ (m : SenderMode). length (sender.held_by m)) sends) in
      let lines : (number : ℕ) → List _ = λ number. open_lines first standing number past in
      then_after Sender e (stepped (step_of (Some known) now) stream messages text kept) grown
      (subst (λ k. KeepsOpen Sender streams first standing (e ∷ past) k) (sym (step_changes (step_of (Some known) now) stream messages text kept))
      (changes_open Sender streams first standing past e kept (step_on (step_of (Some known) now) messages text) keeps
      (λ place here was.
      subst (λ (n : ℕ). get_or kept place [] ≡ in_order (open_lines first standing n past) → step_on (step_of (Some known) now) messages text (get_or kept place []) ≡ in_order (opened_at Sender (stream_after n past) line (open_lines first standing n past)))
      (sym (eqb-true (suc place) stream here))
      (λ is.
      subst (λ (k : Mode). step_on (step_of (Some k) now) messages text (get_or kept place []) ≡ in_order (opened_at Sender (stream_after stream past) line (open_lines first standing stream past))) before
      (subst (λ (k : Mode). step_on (step_of (Some (sender.kind s.mode)) k) messages text (get_or kept place []) ≡ in_order (opened_at Sender (stream_after stream past) line (open_lines first standing stream past))) behind
      (steps_so line (open_lines first standing stream past) (get_or kept place []) messages text is other spelt s.mode (sender.row s a).state.mode count))) was)))

  -- and at either side
  pub act_followed : (side : End) (a : Act) (known now : Mode) (messages : ℕ) (text : List ℕ) (grown : GrownBy v w (event v.number side stream a reply.Done)) → IsWhole w
      → now ≡ mode_of (automaton_after side stream w.seen) → (side ≡ Sender → mode_of (automaton_after side stream grown.earlier) ≡ known)
      → (known ≡ mode.Send → (messages ≡ (summary_of (automaton_after side stream v.seen)).held) × IsWhole v) → takes a reply.Done ≡ false
      → text ≡ line_text (line_behind first standing (mine v) (event v.number side stream a reply.Done)) → KeepsOpen side streams first standing (mine v) kept
      → KeepsOpen side streams first standing (mine w) (stepped (step_of (Some known) now) stream messages text kept)
  act_followed Sender a known now messages text grown whole becomes found counted other spelt keeps = at_sender a known now messages text grown whole becomes (found refl) counted other spelt keeps
  act_followed Receiver a known now messages text grown whole becomes found counted other spelt keeps =
      none_here streams first standing (mine w) (stepped (step_of (Some known) now) stream messages text kept) (ap length (step_length (step_of (Some known) now) messages text keeps.many) ∙ keeps.many)

  -- a call of a client's that leaves all open as it was
  same_after : (side : End) (e : Event) → GrownBy v w e → KeepsOpen side streams first standing (mine v) kept
      → ((number : ℕ) → eqb number e.stream ≡ true → opened_at e.side (stream_after number (mine v)) (line_behind first standing (mine v) e) (open_lines first standing number (mine v)) ≡ open_lines first standing number (mine v))
      → KeepsOpen side streams first standing (mine w) kept
  same_after side e grown keeps leaves = then_after side e kept grown (still_open side streams first standing (mine v) e kept keeps leaves)

  none_happened : (side : End) → w ≡ v → KeepsOpen side streams first standing (mine v) kept → KeepsOpen side streams first standing (mine w) kept
  none_happened side is keeps = subst (λ (p : PassState). KeepsOpen side streams first standing (mine p) kept) (sym is) keeps

  pub get_followed : (side : End) (answer : Answer) → Grown v w Receiver stream act.Get answer → KeepsOpen side streams first standing (mine v) kept → KeepsOpen side streams first standing (mine w) kept
  get_followed side None grown keeps = none_happened side grown keeps
  get_followed side (Some (r, position)) grown keeps = same_after side (event v.number Receiver stream act.Get r) grown keeps (λ number here. refl)

  pub ack_followed : (side : End) (answer : Answer) → Grown v w Sender stream act.Ack answer → KeepsOpen side streams first standing (mine v) kept → KeepsOpen side streams first standing (mine w) kept
  ack_followed side None grown keeps = none_happened side grown keeps
  ack_followed side (Some (r, position)) grown keeps =
      let e = event v.number Sender stream act.Ack r in
      same_after side e grown keeps (λ number here.
      let s = (stream_after number (mine v)).sender.state in
      stays_open s.mode (sender.row s act.Ack).state.mode (line_behind first standing (mine v) e) (open_lines first standing number (mine v)) (ack_keeps s s.mode s.waiting) refl (none_at_down first standing number (mine v)))

  ok_reply : (r : Reply) → is_ok r ≡ true → r ≡ reply.Ok
  ok_reply reply.Ok is = refl
  ok_reply reply.Full is = absurd (cc)
  ok_reply reply.Down is = absurd (cc)
  ok_reply (reply.Got m) is = absurd (cc)
  ok_reply reply.Nothing is = absurd (cc)
  ok_reply reply.Yes is = absurd (cc)
  ok_reply reply.No is = absurd (cc)
  ok_reply reply.NotYet is = absurd (cc)
  ok_reply reply.Done is = absurd (cc)

  put_other : (side : End) (m : List ℕ) (r : Reply) → GrownBy v w (event v.number Sender stream (act.Put m) r) → is_ok r ≡ false
      → KeepsOpen side streams first standing (mine v) kept → KeepsOpen side streams first standing (mine w) kept
  put_other side m r grown other keeps =
      let e = event v.number Sender stream (act.Put m) r in
      same_after side e grown keeps (λ number here.
      let s = (stream_after number (mine v)).sender.state in
      stays_open s.mode (sender.row s (act.Put m)).state.mode (line_behind first standing (mine v) e) (open_lines first standing number (mine v)) (put_keeps s s.mode m) other (none_at_down first standing number (mine v)))

  put_taken : (side : End) (m text : List ℕ) (r : Reply) → GrownBy v w (event v.number Sender stream (act.Put m) r) → IsWhole w → is_ok r ≡ true
      → text ≡ line_text (line_behind first standing (mine v) (event v.number Sender stream (act.Put m) r))
      → KeepsOpen side streams first standing (mine v) kept → KeepsOpen side streams first standing (mine w) (keeping stream (record { kind = kind.Put; text = text }) kept)
  put_taken side m text r grown whole taken spelt keeps =
      let e = event v.number Sender stream (act.Put m) r in
      let past = mine v in
      let line = line_behind first standing past e in
      let own = before_own v w e grown whole in
      let seen : w.seen ≡ e ∷ past = grown.seen ∙ ap (λ (h : List Event). e ∷ h) own in
      let right : IsRight (e ∷ past) = subst IsRight seen whole.right in
      let s = (stream_after stream past).sender.state in
      let replied : (sender.put s s.mode m).reply ≡ Some reply.Ok = right.0 ∙ ap Some (ok_reply r taken) in
      then_after side e (keeping stream (record { kind = kind.Put; text = text }) kept) grown
      (subst (λ k. KeepsOpen side streams first standing (e ∷ past) k) (sym (keeping_changes stream (record { kind = kind.Put; text = text }) kept))
      (changes_open side streams first standing past e kept (more_kept (record { kind = kind.Put; text = text })) keeps
      (λ place here was.
      subst (λ (n : ℕ). get_or kept place [] ≡ in_order (open_lines first standing n past)
      → get_or kept place [] ++ (record { kind = kind.Put; text = text }) ∷ [] ≡ in_order (opened_at Sender (stream_after n past) line (open_lines first standing n past)))
      (sym (eqb-true (suc place) stream here))
      (λ is.
      let lines = open_lines first standing stream past in
      ap (λ l. l ++ (record { kind = kind.Put; text = text }) ∷ []) is
      ∙ (ap (λ (t : List ℕ). in_order lines ++ (record { kind = kind.Put; text = t }) ∷ []) spelt
      ∙ (ap (λ (b : Bool). in_order lines ++ (record { kind = kind_of b; text = line_text line }) ∷ []) (sym taken)
      ∙ (sym (one_in_order line lines)
      ∙ ap in_order (sym (opens_put s.mode (sender.row s (act.Put m)).state.mode line lines (put_keeps s s.mode m) taken (taken_up s s.mode m replied))))))) was)))

  put_by : (side : End) (m text : List ℕ) (r : Reply) (ok : Bool) → is_ok r ≡ ok → GrownBy v w (event v.number Sender stream (act.Put m) r) → IsWhole w
      → text ≡ line_text (line_behind first standing (mine v) (event v.number Sender stream (act.Put m) r))
      → KeepsOpen side streams first standing (mine v) kept → KeepsOpen side streams first standing (mine w) (if ok then keeping stream (record { kind = kind.Put; text = text }) kept else kept)
  put_by side m text r true is grown whole spelt keeps = put_taken side m text r grown whole is spelt keeps
  put_by side m text r false is grown whole spelt keeps = put_other side m r grown is keeps

  -- a put, taken or not
  pub put_followed : (side : End) (m text : List ℕ) (answer : Answer) → Grown v w Sender stream (act.Put m) answer → IsWhole w
      → IfSome answer (λ k. text ≡ line_text (line_behind first standing (mine v) (event v.number Sender stream (act.Put m) k.0)))
      → KeepsOpen side streams first standing (mine v) kept → KeepsOpen side streams first standing (mine w) (with_put answer stream text kept)
  put_followed side m text None grown whole spelt keeps = none_happened side grown keeps
  put_followed side m text (Some (r, position)) grown whole spelt keeps = put_by side m text r (is_ok r) refl grown whole spelt keeps
