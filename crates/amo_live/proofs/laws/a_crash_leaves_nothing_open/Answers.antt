use Rattle.amo_live.proofs.Forgetting.{forgotten_before}
use Rattle.amo_live.proofs.laws.a_crash_leaves_nothing_open.Goals as goal

pub returns : goal.returns
returns c = λ number newer older others crash is. forgotten_before number newer older others crash is
