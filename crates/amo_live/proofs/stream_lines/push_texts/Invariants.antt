use Rattle.std.specs.Prelude.{◌≡◌, ◌-◌, ◌++◌, take}
use Rattle.amo_live.specs.Unanswered.{kept_of, others, text_on}
use Rattle.amo_live.proofs.stream_lines.push_texts.Given as goal

-- those so far that are kept were appended
abbrev pub invariant-lines : goal.invariant-lines
invariant-lines l = record {
  text : l.text.items ≡ l.fn.text.items ++ text_on (kept_of l.left_out (take l.line-index l.lines));
  left : l.left ≡ l.left_out - others (take l.line-index l.lines);
}
