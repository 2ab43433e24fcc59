use Rattle.std.proofs.Common.{sym, ap, ◌∙◌}
use Rattle.std.specs.Ordering.{nat_cmp, is_eq}
use Rattle.std.specs.Cmp.Lexicographic.{slice_cmp, lists_ties, texts_ties}
use Rattle.amo_packet.specs.Batch.{messages}
use Rattle.amo_packet.proofs.batch.BatchPartialEq.eq.Goals as goal

pub returns : goal.returns
returns c =
    c.is_eq.ensures ∙ ap is_eq c.cmp.ensures ∙ sym (lists_ties (slice_cmp nat_cmp) texts_ties (messages c.args.self.now) (messages c.args.other.now))
