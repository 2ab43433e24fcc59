use Rattle.std.proofs.Common.{sym, ◌∙◌, subst}
use Rattle.amo_door.specs.Word.{IsWord}
use Rattle.amo_text.proofs.Cuts.{one_cut, no_cut}
use Rattle.amo_call.proofs.Ends.{Lacks-characters}
use Rattle.amo_call.proofs.scan.word_before.Goals as goal

pub returns-in_err-word-clause-none : goal.returns-in_err-word-clause-none
returns-in_err-word-clause-none c = rw c.from_residual.ensures (λ word rest known. no_cut c.args.end c.args.text.now word rest c.in_err-word.ensures.none)

pub returns-in_err-read-clause-none : goal.returns-in_err-read-clause-none
returns-in_err-read-clause-none c = rw c.from_residual-in_err-read.ensures (λ word rest known e.
    let cut = c.in_ok-word.ensures.found in
    let same = one_cut c.args.end c.in_ok-word.word.now c.in_ok-word.rest.now word rest cut.1 (Lacks-characters c.args.end word c.requires known.characters) (sym cut.0 ∙ e) in
    cc (c.in_err-read.ensures.some.1 (subst IsWord (sym same.0) known)))
