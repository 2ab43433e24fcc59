use Rattle.std.proofs.Common.{◌≡◌, ◌∷◌, ◌++◌, [], ap, ◌∙◌}
use Rattle.amo_disk.specs.Shelf.{texts}
use Rattle.amo_disk.proofs.Shelves.{texts-push}
use Rattle.amo_disk.proofs.shelf.ShelfFolder.begin.Goals as goal

pub returns-clause-begun : goal.returns-clause-begun
returns-clause-begun c =
    let closed = c.replace-closed.result in
    let none : c.replace-closed.new.dest.items ≡ [] = ap (λ v. v.items) c.replace-closed.ensures.after ∙ c.new.ensures.items in
    let was : closed.items ≡ c.self.inside.newest.items = ap (λ v. v.items) c.replace-closed.ensures.value in
    let before : texts c.push.new.self.items ≡ closed.items ∷ texts c.self.inside.earlier.items =
    ap texts c.in_ok-push.ensures.items ∙ (ap (λ l. texts (l ++ closed ∷ [])) c.in_ok-reserve.ensures.items ∙ texts-push c.self.inside.earlier.items closed) in
    let view = c.self.view_is in cc
