use Rattle.std.proofs.Common.{sym}
use Rattle.amo_replay.specs.Transcript.{transcript}
use Rattle.amo_replay.specs.declared.endings.Ending.TheVariants.{Done}
use Rattle.amo_replay.proofs.Replays.{is_transcript, stopped_transcript}
use Rattle.amo_replay.proofs.runner.replay.Goals as goal

pub returns-in-Ok-replay_lines-clause-ok : goal.returns-in-Ok-replay_lines-clause-ok
returns-in-Ok-replay_lines-clause-ok g c =
    let (lines, spelt) = c.in-Ok.ensures.whole.1 in
    let whole = c.in-Ok-replay_lines.ensures.done lines (rw (sym c.in-Ok.ensures.whole.0) at spelt) in
    (transcript lines, is_transcript c.args.bytes.now lines Done spelt whole.0, whole.1)

pub returns-in-Ok-replay_lines-clause-malformed : goal.returns-in-Ok-replay_lines-clause-malformed
returns-in-Ok-replay_lines-clause-malformed g c = λ none. let (lines, spelt) = c.in-Ok.ensures.whole.1 in absurd (none lines spelt)

pub returns-in-Err-replay_lines-clause-ok : goal.returns-in-Err-replay_lines-clause-ok
returns-in-Err-replay_lines-clause-ok g c =
    let (lines, spelt) = c.in-Ok.ensures.whole.1 in
    let stopped = c.in-Err-replay_lines.ensures.stopped lines (rw (sym c.in-Ok.ensures.whole.0) at spelt) in
    stopped_transcript _ _ _ _ _ _ _ _ spelt c.answer-in-Err-replay_lines.ensures.ended stopped

pub returns-in-Err-replay_lines-clause-malformed : goal.returns-in-Err-replay_lines-clause-malformed
returns-in-Err-replay_lines-clause-malformed g c = λ none. let (lines, spelt) = c.in-Ok.ensures.whole.1 in absurd (none lines spelt)
