use Rattle.amo_call.proofs.Calls.{one_kept}
use Rattle.amo_call.proofs.laws.kept_calls_have_one_text.Goals as goal

pub returns : goal.returns
returns c = one_kept
