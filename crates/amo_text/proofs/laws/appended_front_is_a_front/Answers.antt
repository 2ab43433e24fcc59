use Rattle.std.proofs.Common.{take, drop, sym}
use Rattle.std.proofs.lemmas.List.{take-append-drop}
use Rattle.amo_text.proofs.laws.appended_front_is_a_front.Goals as goal

pub returns : goal.returns
returns c = λ old new bytes appended. (take appended.0 bytes, drop appended.0 bytes, appended.1, sym (take-append-drop appended.0 bytes))
