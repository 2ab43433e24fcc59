use Rattle.std.proofs.Common.{Some, refl, subst}
use Rattle.amo_lives.specs.Life.{line_text}
use Rattle.amo_lives.specs.declared.life.Life.{Life}
use Rattle.amo_text.proofs.Written.{Appends-Keeps}
use Rattle.amo_live.specs.HostLives.{BeginsLife, HostLivesState, IsDrawn}
use Rattle.amo_live.specs.Words.{IsNew, StaysDrawn}
use Rattle.amo_live.proofs.OwnWords.{first_is_new, first_stays, own_behind, own_of_last}
use Rattle.amo_live.proofs.host_lives.HostLives.begin_life.Goals as goal

pub invariant_of-self-2 : goal.invariant_of-self-2
invariant_of-self-2 g c =
    let own = c.self.inside in let has = c.in_ok-words.ensures in
    let life : Life = record { tag = c.in_ok-tag.tag; first_line = c.args.next_line; boot = own.boot; sync = own.sync } in
    own_behind c.begin.new.self c.in_ok-words.words c.next_nonzero.new.words c.next_nonzero.ensures.behind (own_of_last own.lives c.begin.new.self life c.in_ok-words.words has.life has.words has.distinct)

pub returns-clause-life : goal.returns-clause-life
returns-clause-life g c =
    let own = c.self.inside in let has = c.in_ok-words.ensures in let written = g.S.Sink.written in
    let life : Life = record { tag = c.in_ok-tag.tag; first_line = c.args.next_line; boot = own.boot; sync = own.sync } in
    let after : HostLivesState g.row.S.Denot = record { lives = c.begin.new.self; words = Some c.next_nonzero.new.words; sink = c.put_on_disk.new.sink; boot = own.boot; sync = own.sync } in
    subst (λ (h : HostLivesState g.row.S.Denot). BeginsLife written h after c.args.next_line) c.self.view_is
    (record {
      life = life;
      tag = c.in_ok-tag.ensures.free;
      own = rw c.is_some.ensures at c.in_ok-tag.ensures.own;
      first_line = refl;
      boot = refl;
      sync = refl;
      grown = has.life;
      line = Appends-Keeps (written own.sink) (written c.begin.new.sink) (written c.put_on_disk.new.sink) (line_text life) has.written c.put_on_disk.ensures.kept;
    })

pub returns-clause-on_disk : goal.returns-clause-on_disk
returns-clause-on_disk g c = c.in_ok-put_on_disk.ensures.on_disk

pub returns-clause-new : goal.returns-clause-new
returns-clause-new g c =
    let own = c.self.inside in let has = c.in_ok-words.ensures in let q = c.next_nonzero.new.words in
    let life : Life = record { tag = c.in_ok-tag.tag; first_line = c.args.next_line; boot = own.boot; sync = own.sync } in
    subst (λ (h : HostLivesState g.row.S.Denot). IsNew (IsDrawn h.lives h.words) (IsDrawn c.begin.new.self (Some q)) c.in-Some.word) c.self.view_is
    (first_is_new own.lives c.begin.new.self own.words life c.in_ok-words.words q has.life has.words has.distinct has.apart c.in-Some.word c.in-Some.ensures.drawn)

pub returns-clause-stays : goal.returns-clause-stays
returns-clause-stays g c =
    let own = c.self.inside in let has = c.in_ok-words.ensures in let q = c.next_nonzero.new.words in
    let life : Life = record { tag = c.in_ok-tag.tag; first_line = c.args.next_line; boot = own.boot; sync = own.sync } in
    subst (λ (h : HostLivesState g.row.S.Denot). StaysDrawn (IsDrawn h.lives h.words) (IsDrawn c.begin.new.self (Some q))) c.self.view_is
    (first_stays own.lives c.begin.new.self own.words life c.in_ok-words.words q has.life has.words has.distinct has.apart c.next_nonzero.ensures.behind)
