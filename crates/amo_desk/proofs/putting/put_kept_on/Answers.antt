use Rattle.std.proofs.Common.{[], refl, ◌∙◌}
use Rattle.amo_live.specs.Service.{shown_by, spelling_of, words_of}
use Rattle.amo_desk.proofs.Conserving.{moves_on, none_moved}
use Rattle.amo_live.proofs.Fresh.{bears_none, bears_on}
use Rattle.amo_live.proofs.Showing.{shows_after, shows_idle}
use Rattle.amo_desk.proofs.putting.put_kept_on.Goals as goal

pub messages-init : goal.messages-init
messages-init g c =
    let v = c.args.service.now.host.pass in
    record {
      noted = c.requires;
      moves = none_moved c.args.kept.now c.args.kept.now v v refl refl;
      streams = refl;
      shown = shows_idle (spelling_of c.args.service.now) v v (shown_by c.args.service.now) (shown_by c.args.service.now) refl refl;
      words = bears_none (words_of c.args.service.now) (words_of c.args.service.now) v v refl refl;
      spells = refl;
    }

pub messages-preserved : goal.messages-preserved
messages-preserved g c =
    let so_far = c.messages.invariant in
    let u = c.args.service.now.host.pass in let v = c.messages.service.host.pass in let w = c.put_first.new.service.host.pass in
    record {
      noted = c.in_ok-put_first.ensures.noted;
      moves = moves_on u v w [] [] c.args.kept.now c.messages.kept c.put_first.new.kept so_far.moves c.in_ok-put_first.ensures.moves;
      streams = c.put_first.ensures.streams ∙ so_far.streams;
      shown = shows_after (spelling_of c.args.service.now) (spelling_of c.messages.service) u v w (shown_by c.args.service.now) (shown_by c.messages.service) (shown_by c.put_first.new.service) so_far.spells so_far.shown c.in_ok-put_first.ensures.shown;
      words = bears_on (words_of c.args.service.now) (words_of c.messages.service) (words_of c.put_first.new.service) u v w so_far.words c.in_ok-put_first.ensures.words;
      spells = c.put_first.ensures.spells ∙ so_far.spells;
    }

pub returns-then-not-branch-clause-moves : goal.returns-then-not-branch-clause-moves
returns-then-not-branch-clause-moves g c =
    moves_on c.args.service.now.host.pass c.messages.service.host.pass c.put_first.new.service.host.pass [] [] c.args.kept.now c.messages.kept c.put_first.new.kept c.messages.invariant.moves c.in_ok-put_first.ensures.moves

pub returns-then-not-branch-clause-streams : goal.returns-then-not-branch-clause-streams
returns-then-not-branch-clause-streams g c = c.put_first.ensures.streams ∙ c.messages.invariant.streams

pub returns-then-not-branch-clause-shown : goal.returns-then-not-branch-clause-shown
returns-then-not-branch-clause-shown g c =
    shows_after (spelling_of c.args.service.now) (spelling_of c.messages.service) c.args.service.now.host.pass c.messages.service.host.pass c.put_first.new.service.host.pass (shown_by c.args.service.now)
    (shown_by c.messages.service) (shown_by c.put_first.new.service) c.messages.invariant.spells c.messages.invariant.shown c.in_ok-put_first.ensures.shown

pub returns-then-not-branch-clause-words : goal.returns-then-not-branch-clause-words
returns-then-not-branch-clause-words g c =
    bears_on (words_of c.args.service.now) (words_of c.messages.service) (words_of c.put_first.new.service) c.args.service.now.host.pass c.messages.service.host.pass c.put_first.new.service.host.pass
    c.messages.invariant.words c.in_ok-put_first.ensures.words

pub returns-then-not-branch-clause-spells : goal.returns-then-not-branch-clause-spells
returns-then-not-branch-clause-spells g c = c.put_first.ensures.spells ∙ c.messages.invariant.spells

pub returns-in_err-put_first-clause-streams : goal.returns-in_err-put_first-clause-streams
returns-in_err-put_first-clause-streams g c = c.put_first.ensures.streams ∙ c.messages.invariant.streams

pub returns-in_err-put_first-clause-spells : goal.returns-in_err-put_first-clause-spells
returns-in_err-put_first-clause-spells g c = c.put_first.ensures.spells ∙ c.messages.invariant.spells
