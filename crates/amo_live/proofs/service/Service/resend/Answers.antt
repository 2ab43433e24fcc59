use Rattle.std.proofs.Common.{◌≡◌, ◌+◌, ◌≤◌, ◌∙◌, refl, sym, subst, arith, rules}
use Rattle.std.proofs.lemmas.Bool.{true≢false}
use Rattle.amo_host.specs.AtStream.{IsDue}
use Rattle.amo_host.specs.Host as host
use Rattle.amo_live.specs.Callers.{IsSameLife}
use Rattle.amo_live.specs.Due.{SendsAgain}
use Rattle.amo_live.specs.Host.{HostState}
use Rattle.amo_live.specs.Service.{shown_by, spelling_of, words_of}
use Rattle.amo_live.specs.Shown.{ShowsMore}
use Rattle.amo_live.specs.Words.{BearsNew}
use Rattle.amo_live.proofs.Dues.{SendsUpTo, contains_at, none_due_in, sends_all, sends_next, sends_none, skips_next}
use Rattle.amo_live.proofs.Fresh.{bears_as, bears_none, bears_on}
use Rattle.amo_live.proofs.Lined.{life_itself, life_on}
use Rattle.amo_live.proofs.Showing.{shows_after, shows_as, shows_idle}
use Rattle.amo_live.proofs.service.Service.resend.Goals as goal
use Rattle.amo_live.proofs.service.Service.resend.Goals.{then-is_due+in_ok-send_again, else-is_due}

pub returns-then-not-has_due-clause-shown : goal.returns-then-not-has_due-clause-shown
returns-then-not-has_due-clause-shown g c =
    let old = shown_by c.args.self.now in
    shows_idle (spelling_of c.args.self.now) c.args.self.now.host.pass c.args.self.now.host.pass old old refl refl

pub streams-init : goal.streams-init
streams-init g c =
    let old = c.args.self.now in
    record {
      noted = c.requires;
      life = life_itself old.host.pass old.host.journal;
      none_put = refl;
      none_got = refl;
      streams = refl;
      shown = shows_idle (spelling_of old) old.host.pass old.host.pass (shown_by old) (shown_by old) refl refl;
      spelling = refl;
      words = bears_none (words_of old) (words_of old) old.host.pass old.host.pass refl refl;
      sends = sends_none c.args.now old.host c.streams-count.ensures.host;
    }

pub streams-preserved : goal.streams-preserved
streams-preserved g c =
    let so_far = c.streams.invariant in
    let spelling = spelling_of c.args.self.now in
    let first = c.args.self.now.host.pass in
    let middle = c.streams.self.host.pass in
    let last = c.if-is_due.self.host.pass in
    let old = shown_by c.args.self.now in
    let before = shown_by c.streams.self in
    let new = shown_by c.if-is_due.self in
    let had = words_of c.streams.self in let has = words_of c.if-is_due.self in
    let shown : ShowsMore spelling first last old new = elim c.if-is_due.branch [
      | then-is_due+in_ok-send_again w ↦
          let pass : last ≡ w.send_again.new.self.host.pass = search rules in
          let same : new ≡ shown_by w.send_again.new.self = search rules in
          shows_as spelling spelling first w.send_again.new.self.host.pass first last old (shown_by w.send_again.new.self) old new refl refl pass refl same
          (shows_after spelling (spelling_of c.streams.self) first middle w.send_again.new.self.host.pass old before (shown_by w.send_again.new.self) so_far.spelling so_far.shown w.in_ok-send_again.ensures.shown)
      | else-is_due w ↦ search rules
    ] in
    let words : BearsNew g.W.Lineage.is_drawn (words_of c.args.self.now) has first last = elim c.if-is_due.branch [
      | then-is_due+in_ok-send_again w ↦
          let pass : last ≡ w.send_again.new.self.host.pass = search rules in
          let same : has ≡ words_of w.send_again.new.self = search rules in
          bears_as (words_of c.args.self.now) (words_of w.send_again.new.self) (words_of c.args.self.now) has first w.send_again.new.self.host.pass first last refl same refl pass
          (bears_on (words_of c.args.self.now) had (words_of w.send_again.new.self) first middle w.send_again.new.self.host.pass so_far.words w.in_ok-send_again.ensures.words)
      | else-is_due w ↦ search rules
    ] in
    let life : IsSameLife first last c.args.self.now.host.journal c.if-is_due.self.host.journal = elim c.if-is_due.branch [
      | then-is_due+in_ok-send_again w ↦
          let sent = w.send_again.new.self.host in
          let same : c.if-is_due.self.host ≡ sent = search rules in
          subst (λ (x : HostState g.row.L.Denot g.row.S.Denot). IsSameLife first x.pass c.args.self.now.host.journal x.journal) (sym same)
          (life_on first middle sent.pass c.args.self.now.host.journal c.streams.self.host.journal sent.journal so_far.life w.send_again.ensures.life)
      | else-is_due w ↦
          let same : c.if-is_due.self.host ≡ c.streams.self.host = search rules in
          subst (λ (x : HostState g.row.L.Denot g.row.S.Denot). IsSameLife first x.pass c.args.self.now.host.journal x.journal) (sym same) so_far.life
    ] in
    let h = c.args.self.now.host in let m = c.streams.self.host in let f = c.if-is_due.self.host in
    let k = c.streams.place in let now = c.args.now in
    let sends : SendsUpTo (k + 1) now h f = elim c.if-is_due.branch [
      | then-is_due+in_ok-send_again w ↦
          let due : IsDue m.pump.host (k + 1) now = c.is_due.ensures.0 w.if-is_due.true in
          let same : f ≡ w.send_again.new.self.host = search rules in
          let again : SendsAgain now m w.send_again.new.self.host (k + 1) = w.in_ok-send_again.ensures.again (contains_at (host.streams_of m.pump.host.modes) due.place (k + 1) due.at) in
          subst (λ (x : HostState g.row.L.Denot g.row.S.Denot). SendsUpTo (k + 1) now h x) (sym same)
          (sends_next k now h m w.send_again.new.self.host c.streams-count.ensures.host (k + 1) refl so_far.sends due again)
      | else-is_due w ↦
          let same : f ≡ m = search rules in
          subst (λ (x : HostState g.row.L.Denot g.row.S.Denot). SendsUpTo (k + 1) now h x) (sym same)
          (skips_next k now h m m c.streams-count.ensures.host (k + 1) refl so_far.sends (λ d. true≢false (sym (c.is_due.ensures.1 d) ∙ w.if-is_due.false)))
    ] in
    record {
      life = life;
      noted = elim c.if-is_due.branch [ then-is_due+in_ok-send_again w ↦ search rules | else-is_due w ↦ search rules ];
      none_put = elim c.if-is_due.branch [ then-is_due+in_ok-send_again w ↦ search rules | else-is_due w ↦ search rules ];
      none_got = elim c.if-is_due.branch [ then-is_due+in_ok-send_again w ↦ search rules | else-is_due w ↦ search rules ];
      streams = elim c.if-is_due.branch [ then-is_due+in_ok-send_again w ↦ search rules | else-is_due w ↦ search rules ];
      shown = shown;
      words = words;
      spelling = elim c.if-is_due.branch [ then-is_due+in_ok-send_again w ↦ search rules | else-is_due w ↦ search rules ];
      sends = sends;
    }

pub returns-clause-due : goal.returns-clause-due
returns-clause-due g c =
    let h = c.args.self.now.host in
    let all : h.streams ≤ c.streams.place = omega (arith, c.streams-count.ensures.streams, c.streams-test.false) in
    sends_all c.streams.place c.args.now h c.streams.self.host c.streams-count.ensures.host all c.streams.invariant.sends

pub returns-clause-none_due : goal.returns-clause-none_due
returns-clause-none_due g c =
    let h = c.args.self.now.host in
    let all : h.streams ≤ c.streams.place = omega (arith, c.streams-count.ensures.streams, c.streams-test.false) in
    none_due_in c.streams.place c.args.now h c.streams.self.host c.streams-count.ensures.host all c.streams.invariant.sends
