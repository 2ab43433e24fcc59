-- A host after a call of its pump.
use Rattle.std.proofs.Common.{◌≡◌, ℕ, ◌<◌, Bool, List, [], ◌++◌, Option, Some, None, length, slice_get, refl, sym, ap, ◌∙◌, subst}
use Rattle.amo_object.specs.declared.step.End.{End}
use Rattle.amo_core.specs.declared.act.Act.{Act}
use Rattle.amo_core.specs.declared.reply.Reply.TheVariants.{Done}
use Rattle.amo_book.specs.declared.drive.Done as drive
use Rattle.amo_book.specs.Charge.{ChargeState}
use Rattle.amo_book.specs.Pass.{PassState, GrownBy, automaton_after, event}
use Rattle.amo_core.specs.Summary.{summary_of}
use Rattle.amo_core.specs.declared.summary.Summary.{Summary}
use Rattle.amo_host.proofs.ChargeLemmas.{each_at}
use Rattle.amo_host.specs.Charges.{IsOfSide}
use Rattle.amo_host.specs.Station.{BelongTogether, IsStation, Station}
use Rattle.amo_live.specs.declared.given_word.GivenWord.{GivenWord}
use Rattle.amo_book.specs.declared.foresee.Foreseen.{Foreseen}
use Rattle.amo_host.specs.AtStream.{Foretells, HasMode}
use Rattle.amo_host.specs.Host.{Host, streams_of}
use Rattle.amo_host.specs.Host as host
use Rattle.amo_host.specs.declared.agenda.StreamMode.{StreamMode}
use Rattle.amo_host.proofs.AtStreamLemmas.{one_place}
use Rattle.amo_core.specs.declared.mode.Mode.{Mode}
use Rattle.std.specs.Option.{option_map}
use Rattle.std.proofs.lemmas.Option.{same_Some, slice_get-map}
use Rattle.amo_live.specs.Emitted.{AreEmitted, Learns, OnlySees, OutboxState, packet_in}
use Rattle.amo_live.specs.Host.{HostState, Drives, Happens, IsHost, Stays, held_on}
use Rattle.amo_live.specs.Noted.{IsSameJournal, JournalState}
use Rattle.amo_live.proofs.Emissions.{act_emitted, all_learnt, all_still, grown_extends}
use Rattle.amo_live.proofs.Onwards.{same_itself}
use Rattle.amo_live.proofs.Returning.{host_after}

-- a charge of a host's pump is of the host's side
pub own_side : {L S : Type 0} (h : HostState L S) → IsHost h → (place : ℕ) (c : ChargeState) → slice_get h.pump.charges place ≡ Some c → c.side ≡ h.side
own_side h is place c at = each_at (IsOfSide h.pump.host.side) h.pump.charges place c is.station.sides at ∙ is.side

-- a stream has one mode
pub stream_at : (modes : List StreamMode) (place : ℕ) (m : StreamMode) → slice_get modes place ≡ Some m → slice_get (streams_of modes) place ≡ Some m.stream
stream_at modes place m at = slice_get-map (λ (x : StreamMode). x.stream) modes place ∙ ap (option_map (λ (x : StreamMode). x.stream)) at

pub same_mode : (h : Host) → host.IsHost h → (stream : ℕ) (one other : Mode) → HasMode h stream one → HasMode h stream other → one ≡ other
same_mode h is stream one other (i, at) (j, there) =
    let same = one_place h is stream i j (stream_at h.modes i _ at) (stream_at h.modes j _ there) in
    ap (λ (m : StreamMode). m.mode) (same_Some _ _ (sym at ∙ (ap (λ (k : ℕ). slice_get h.modes k) same ∙ there)))

-- what was foretold left the pass without an event
pub foretold_sees : {W : Type 0} (s : Station W) (stream : ℕ) (a : Act) (v w : PassState) (old new : List ℕ) (foreseen : Option Foreseen) → Foretells s stream a v w old new foreseen → OnlySees v w
foretold_sees s stream a v w old new None told = subst (OnlySees v) (sym told.1) (record { same = record { book = refl; number = refl; mine_stays = refl }; extends = ([], refl) })
foretold_sees s stream a v w old new (Some foreseen) told = record { same = told.4.same; extends = told.4.extends }

-- how many messages are of a stream's handshake is what was seen at its charge
pub held_foreseen : {L S : Type 0} (h : HostState L S) (w : PassState) → IsHost h → (stream place : ℕ) (c : ChargeState) → slice_get h.pump.charges place ≡ Some c → c.stream ≡ stream → (summary : Summary)
    → summary ≡ summary_of (automaton_after c.side c.stream w.seen) → summary.held ≡ held_on (record h { pass = w }) stream
held_foreseen h w is stream place c at same summary found =
    ap (λ (s : Summary). s.held) found
    ∙ (ap (λ (e : End). (summary_of (automaton_after e c.stream w.seen)).held) (own_side h is place c at) ∙ ap (λ (n : ℕ). (summary_of (automaton_after h.side n w.seen)).held) same)

module _ {L S : Type 0} (h : HostState L S) (pump : Station GivenWord) (w : PassState) (is : IsHost h) (side : pump.host.side ≡ h.pump.host.side) (station : IsStation pump × BelongTogether h.book w pump) where
  -- nothing happened
  pub idle_host : w ≡ h.pass → IsHost (record h { pass = w; pump = pump })
  idle_host same = host_after h pump w h.outbox h.journal is station side (ap (λ (p : PassState). p.number) same) (subst (λ (p : PassState). AreEmitted p h.outbox) (sym same) is.emitted, refl)

  pub idle_stays : w ≡ h.pass → Stays h (record h { pass = w; pump = pump })
  idle_stays same = record { side = refl; streams = refl; book = refl; number = ap (λ (p : PassState). p.number) same; link = refl; journal = same_itself h.journal }

  module _ (old new : List ℕ) (stream : ℕ) (a : Act) (done : drive.Done) (drives : Drives h.pump h.pass w old new stream a (Some done)) where
    -- one event more of the host's side of the stream
    pub grows : GrownBy h.pass w (event h.pass.number h.side stream a Done)
    grows =
        subst (λ (s : End). GrownBy h.pass w (event h.pass.number s stream a Done)) (drives.1 ∙ is.side)
        (subst (λ (n : ℕ). GrownBy h.pass w (event h.pass.number drives.0.side n a Done)) drives.2 drives.3.grown)

    -- it happened, and what it emitted is to leave
    pub happens : (more : OutboxState) (k : JournalState S) → more.leaving ≡ h.outbox.leaving ++ packet_in new done.length → Happens h (record h { pass = w; pump = pump; outbox = more; journal = k }) h.side stream a done.mode
    happens more k leaving =
        let here : Happens h (record h { pass = w; pump = pump; outbox = more; journal = k }) drives.0.side drives.0.stream a done.mode = record {
          grown = drives.3.grown;
          mode_is = drives.3.mode;
          found = λ known sends has. drives.3.found sends ∙ same_mode h.pump.host is.station.host stream drives.0.mode known drives.4 (subst (λ (n : ℕ). HasMode h.pump.host n known) drives.2 has);
          before = old;
          buffer = new;
          length = done.length;
          emitted = drives.3.emitted;
          leaving = leaving;
        } in
        subst (λ (s : End). Happens h (record h { pass = w; pump = pump; outbox = more; journal = k }) s stream a done.mode) (drives.1 ∙ is.side)
        (subst (λ (n : ℕ). Happens h (record h { pass = w; pump = pump; outbox = more; journal = k }) drives.0.side n a done.mode) drives.2 here)

    -- what was emitted before still was
    still : AreEmitted w h.outbox
    still = all_still h.pass w h.outbox (grown_extends h.pass w (event h.pass.number h.side stream a Done) grows) grows.number is.emitted

    pub host_driven : (k : JournalState S) → IsHost (record h { pass = w; pump = pump; journal = k })
    host_driven k = host_after h pump w h.outbox k is station side grows.number (still, refl)

    pub host_unpushed : (more : OutboxState) (k : JournalState S) → more ≡ h.outbox → IsHost (record h { pass = w; pump = pump; outbox = more; journal = k })
    host_unpushed more k same = host_after h pump w more k is station side grows.number (subst (AreEmitted w) (sym same) still, ap (λ (o : OutboxState). length o.recent) same)

    pub host_pushed : (more : OutboxState) (k : JournalState S) (place : ℕ) (is_answer : Bool) → place < length h.outbox.recent → more.leaving ≡ h.outbox.leaving ++ packet_in new done.length
        → Learns place is_answer h.outbox.recent more.recent (packet_in new done.length) → IsHost (record h { pass = w; pump = pump; outbox = more; journal = k })
    host_pushed more k place is_answer within leaving learns =
        host_after h pump w more k is station side grows.number
        (all_learnt w place is_answer h.outbox more (packet_in new done.length) within still (act_emitted h.pass w drives.0 (record drives.0 { mode = done.mode }) a old new done drives.3) leaving learns)

    pub driven_stays : (more : OutboxState) (k : JournalState S) → IsSameJournal h.journal k → Stays h (record h { pass = w; pump = pump; outbox = more; journal = k })
    driven_stays more k same = record { side = refl; streams = refl; book = refl; number = grows.number; link = refl; journal = same }
