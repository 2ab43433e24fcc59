use Rattle.std.proofs.Common.{sym, ◌∙◌}
use Rattle.amo_pieces.specs.Names.{padded}
use Rattle.amo_pieces.proofs.NumberedNames.{same_rest}
use Rattle.amo_pieces.proofs.Starts.{none_weaker}
use Rattle.amo_pieces.proofs.names.piece_number.Goals as goal

pub returns-clause-none : goal.returns-clause-none
returns-clause-none c =
    let some = c.in_ok-behind.ensures.some in
    none_weaker c.read_padded.result _ _ (λ none n more small e. none n more small (same_rest c.args.name.now _ (padded n) (sym some ∙ e))) c.read_padded.ensures.none
