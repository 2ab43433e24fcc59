use Rattle.std.proofs.Common.{[], refl, ◌∙◌}
use Rattle.amo_live.specs.Service.{shown_by, spelling_of, words_of}
use Rattle.amo_desk.proofs.Conserving.{moves_on, none_moved}
use Rattle.amo_live.proofs.Fresh.{bears_none, bears_on}
use Rattle.amo_live.proofs.Showing.{shows_after, shows_idle}
use Rattle.amo_desk.proofs.putting.put_kept.Goals as goal

pub streams-init : goal.streams-init
streams-init g c =
    let v = c.args.service.now.host.pass in
    record {
      noted = c.requires;
      moves = none_moved c.args.kept.now c.args.kept.now v v refl refl;
      streams = refl;
      shown = shows_idle (spelling_of c.args.service.now) v v (shown_by c.args.service.now) (shown_by c.args.service.now) refl refl;
      words = bears_none (words_of c.args.service.now) (words_of c.args.service.now) v v refl refl;
      spells = refl;
    }

pub streams-preserved : goal.streams-preserved
streams-preserved g c =
    let so_far = c.streams.invariant in
    let u = c.args.service.now.host.pass in let v = c.streams.service.host.pass in let w = c.put_kept_on.new.service.host.pass in
    record {
      noted = c.in_ok-put_kept_on.ensures.noted;
      moves = moves_on u v w [] [] c.args.kept.now c.streams.kept c.put_kept_on.new.kept so_far.moves c.in_ok-put_kept_on.ensures.moves;
      streams = c.put_kept_on.ensures.streams ∙ so_far.streams;
      shown = shows_after (spelling_of c.args.service.now) (spelling_of c.streams.service) u v w (shown_by c.args.service.now) (shown_by c.streams.service) (shown_by c.put_kept_on.new.service) so_far.spells so_far.shown c.in_ok-put_kept_on.ensures.shown;
      words = bears_on (words_of c.args.service.now) (words_of c.streams.service) (words_of c.put_kept_on.new.service) u v w so_far.words c.in_ok-put_kept_on.ensures.words;
      spells = c.put_kept_on.ensures.spells ∙ so_far.spells;
    }

pub returns-then-is_empty-clause-moves : goal.returns-then-is_empty-clause-moves
returns-then-is_empty-clause-moves g c = none_moved c.args.kept.now c.args.kept.now c.args.service.now.host.pass c.args.service.now.host.pass refl refl

pub returns-in_err-put_kept_on-clause-streams : goal.returns-in_err-put_kept_on-clause-streams
returns-in_err-put_kept_on-clause-streams g c = c.put_kept_on.ensures.streams ∙ c.streams.invariant.streams

pub returns-in_err-put_kept_on-clause-spells : goal.returns-in_err-put_kept_on-clause-spells
returns-in_err-put_kept_on-clause-spells g c = c.put_kept_on.ensures.spells ∙ c.streams.invariant.spells
