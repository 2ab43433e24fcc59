use Rattle.amo_object.proofs.Deliveries.{Contains-subsequence, length-subsequence, whole-subsequence}
use Rattle.amo_object.proofs.laws.subsequences_repeat_nothing.Goals as goal

pub returns-clause-contained : goal.returns-clause-contained
returns-clause-contained c = λ some all m. Contains-subsequence m

pub returns-clause-shorter : goal.returns-clause-shorter
returns-clause-shorter c = λ some all. length-subsequence

pub returns-clause-whole : goal.returns-clause-whole
returns-clause-whole c = λ some all. whole-subsequence
