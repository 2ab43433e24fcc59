use Rattle.amo_text.specs.Line.{IsLine}
use Rattle.amo_text.proofs.Lines.{line_of-injective, one_line, Lacks-text_of}
use Rattle.amo_text.proofs.Readings.{one_reading}
use Rattle.amo_text.proofs.laws.line_is_injective.Goals as goal

pub returns-clause-one : goal.returns-clause-one
returns-clause-one c = line_of-injective

pub returns-clause-first : goal.returns-clause-first
returns-clause-first c = one_line

pub returns-clause-all : goal.returns-clause-all
returns-clause-all c = one_reading (λ fields. fields) IsLine (λ fields known. known) (λ us vs known_us known_vs e. e)

pub returns-clause-end : goal.returns-clause-end
returns-clause-end c = λ us known. Lacks-text_of us known.1
