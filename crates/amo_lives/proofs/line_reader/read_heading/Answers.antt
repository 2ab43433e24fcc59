use Rattle.std.proofs.Common.{◌≡◌, ℕ, List, ◌∷◌, ◌++◌, Some, codes, sym, ◌∙◌, ap}
use Rattle.std.proofs.lemmas.Bool.Decides.{Decides-eqb}
use Rattle.std.proofs.lemmas.Slice.Eq.{strip_prefix_is}
use Rattle.amo_text.specs.Hexadecimal.{hex}
use Rattle.amo_text.specs.Side.{letter_of}
use Rattle.amo_text.proofs.Cuts.{one_cut}
use Rattle.amo_text.proofs.Fields.{IsField-letter_of}
use Rattle.amo_lives.proofs.line_reader.read_heading.Goals as goal

pub returns-in_err-side-2-clause-none : goal.returns-in_err-side-2-clause-none
returns-in_err-side-2-clause-none c =
    let front = strip_prefix_is Decides-eqb c.args.text.now (codes "amo lives 1 ") (Some c.in_ok-rest.rest) c.in_ok-rest.ensures.cases in
    let cut = c.in_ok-side.ensures.found in
    rw c.from_residual-in_err-side-2.ensures (λ side key known e.
    let rest : c.in_ok-rest.rest.now ≡ letter_of side ++ 32 ∷ hex key = cc in
    c.in_err-side-2.ensures.none side (one_cut 32 c.in_ok-side.side.now _ (letter_of side) (hex key) cut.1 (IsField-letter_of side).0 (sym cut.0 ∙ rest)).0)

pub returns-clause-found : goal.returns-clause-found
returns-clause-found c =
    let front = strip_prefix_is Decides-eqb c.args.text.now (codes "amo lives 1 ") (Some c.in_ok-rest.rest) c.in_ok-rest.ensures.cases in
    let cut = c.in_ok-side.ensures.found in
    let side : c.in_ok-side.side.now ≡ letter_of c.in_ok-side-2.side = c.in_ok-side-2.ensures.found in
    let key : c.in_ok-side.key.now ≡ hex c.in_ok-key.key = c.in_ok-key.ensures.found.1 in
    let rest : c.in_ok-rest.rest.now ≡ letter_of c.in_ok-side-2.side ++ 32 ∷ hex c.in_ok-key.key = cc in
    (c.in_ok-key.ensures.found.0, front ∙ ap (λ (t : List ℕ). codes "amo lives 1 " ++ t) rest)
