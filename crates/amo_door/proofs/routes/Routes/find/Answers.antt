use Rattle.std.proofs.Common.{◌≡◌, ℕ, List, refl, sym, ◌∙◌, ap, subst}
use Rattle.std.specs.Prelude.{codes}
use Rattle.matchit.specs.Params.{AllText}
use Rattle.matchit.specs.Router.{RouteOf}
use Rattle.matchit.specs.Rows.{RowsOf}
use Rattle.matchit.specs.Seek.{first}
use Rattle.amo_door.specs.declared.place.Place.{Place}
use Rattle.amo_door.specs.Routes.{part_of, taken}
use Rattle.amo_door.proofs.routes.Routes.find.Goals as goal

pub returns-in-Ok-clause-some : goal.returns-in-Ok-clause-some
returns-in-Ok-clause-some c =
    let found = c.in-Ok.found in
    let params = found.params in
    let path : params.path.now ≡ c.args.path.now = c.in-Ok.ensures.path in
    let took : List ℕ → List (List ℕ × List ℕ) = λ text. taken params.pattern.now params.text.now params.names.now text in record {
      route = record { pattern = params.pattern.now; text = params.text.now; names = params.names.now; value = found.value.now };
      first_is = ap (λ (rows : RowsOf (RouteOf Place)). first rows c.args.path.now) (sym c.self.view_is) ∙ c.in-Ok.ensures.found;
      place = refl;
      stream = λ all. c.part-stream.ensures (subst (λ (text : List ℕ). AllText (took text)) (sym path) all) ∙ ap (λ (text : List ℕ). part_of (codes "stream") (took text)) path;
      number = λ all. c.part-number.ensures (subst (λ (text : List ℕ). AllText (took text)) (sym path) all) ∙ ap (λ (text : List ℕ). part_of (codes "number") (took text)) path;
    }
