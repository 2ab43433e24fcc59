use Rattle.std.specs.Prelude.{◌≡◌, drop, length}
use Rattle.std.specs.List.{filter}
use Rattle.amo_live.specs.Unanswered.{is_put, others}
use Rattle.amo_live.proofs.stream_lines.drop_puts.Given as goal

-- the puts that are still to be dropped stand in front, and the lines that tell of handshakes are counted
abbrev pub invariant-lines : goal.invariant-lines
invariant-lines l = record {
  puts : drop l.left (filter is_put l.lines.items) ≡ drop l.fn.puts (filter is_put l.fn.lines.items);
  tell : l.fn.of_handshakes ≡ others l.fn.lines.items → l.others ≡ others l.lines.items;
}

abbrev pub decreases-lines : goal.decreases-lines
decreases-lines l = length l.lines.items
