use Rattle.std.proofs.Common.{ap, refl}
use Rattle.std.specs.Prelude.{option_copied}
use Rattle.amo_door.specs.Word.{IsWord}
use Rattle.amo_door.proofs.Blame.{wrong_word}
use Rattle.amo_door.proofs.call.read_word.Goals as goal

pub returns-in-None-clause-refused : goal.returns-in-None-clause-refused
returns-in-None-clause-refused c = λ side.
    let text = c.in-Some.text.now in
    let none : ¬ (IsWord text) = λ (word : IsWord text). cc (c.in-None.ensures.some.1 word) in
    (text, refl, ap option_copied c.in-Some.is, wrong_word side c.args.parameter text c.requires none)
