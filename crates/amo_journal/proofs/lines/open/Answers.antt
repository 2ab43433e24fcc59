use Rattle.std.proofs.Common.{refl, sym, ◌∙◌, codes, arith}
use Rattle.amo_text.specs.Line.{Lacks}
use Rattle.amo_text.proofs.Cuts.{one_cut}
use Rattle.amo_text.proofs.HexDigits.{texts_differ}
use Rattle.amo_journal.proofs.lines.open.Goals as goal

no_end : Lacks 10 (codes "amo 2")
no_end = ((λ e. omega (arith, e)), ((λ e. omega (arith, e)), ((λ e. omega (arith, e)), ((λ e. omega (arith, e)), ((λ e. omega (arith, e)), tt)))))

pub returns-else-eq : goal.returns-else-eq
returns-else-eq c = (
  refl,
  λ more e.
      let cut = c.in-Some.ensures.found in
      texts_differ _ _ c.if-eq.ensures (one_cut 10 _ _ (codes "amo 2") more cut.1 no_end (sym cut.0 ∙ e)).0,
)
