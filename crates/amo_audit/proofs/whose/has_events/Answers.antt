use Rattle.std.proofs.Common.{◌≡◌, Bool, rules, subst, sym, tests}
use Rattle.std.specs.Prelude.{IsTrue, ◌↔◌}
use Rattle.std.specs.List.{list_any}
use Rattle.std.proofs.lemmas.Iterator.{YieldsList-from_slice}
use Rattle.std.proofs.lemmas.Iterator.Search.{any_from_yields_List}
use Rattle.amo_world.specs.declared.event.Event.{Event}
use Rattle.amo_world.specs.History.{is_same_side}
use Rattle.amo_audit.specs.Alone.{HasEvents}
use Rattle.amo_audit.proofs.whose.has_events.Goals as goal

pub returns : goal.returns
returns c =
    let test : Event → Bool = λ e. is_same_side c.args.side e.side in
    let is : c.any.result ≡ list_any test c.args.events.now = any_from_yields_List test _ _ _ c.any.ensures.ran (YieldsList-from_slice c.args.events.now c.iter.ensures.rest) (λ x b q k. search (rules, tests)) in
    subst (λ (b : Bool). IsTrue b ↔ HasEvents c.args.side c.args.events.now) (sym is) ((λ h. h), λ h. h)
