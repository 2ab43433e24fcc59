use Rattle.std.proofs.Common.{refl, sym, subst, ◌∙◌}
use Rattle.amo_window.specs.Window.{Entry, Holds}
use Rattle.amo_window.proofs.Permits.{get_of, len_of, window_of, closed-updates}
use Rattle.amo_window.proofs.WindowLemmas.{Holds-closed}
use Rattle.amo_window.proofs.window.Window.close.Goals as goal

-- what the map has under the key stands in the slab too
pub remove-requires : goal.remove-requires
remove-requires c =
    let held = rw (← c.self.view_is, ← c.permit.view_is) at c.requires in
    rw (sym (get_of c.self.inside.permits c.permit.inside.key) ∙ held) refl

pub returns : goal.returns
returns c =
    let old = window_of c.self.inside.limit c.self.inside.permits in
    let permit : Entry = record { key = c.permit.inside.key; stream = c.permit.inside.stream } in
    let after = closed-updates c.self.inside.limit c.self.inside.permits c.remove.new.self permit c.remove.ensures.updates in
    rw (← c.self.view_is, ← c.permit.view_is) (record {
      closed = after;
      others = λ other held differs. subst (λ w. Holds w other) (sym after) (Holds-closed old permit other held differs);
      count = rw (len_of c.remove.new.self, len_of c.self.inside.permits) c.remove.ensures.len;
    })
