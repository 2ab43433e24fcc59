use Rattle.std.proofs.Common.{ℕ, List, ◌∷◌, [], map, sym, subst}
use Rattle.std.proofs.lemmas.List.{map-append}
use Rattle.amo_telling.specs.declared.put.Put.{Put}
use Rattle.amo_telling.specs.Untold.{IsKnownAs, TellsPuts}
use Rattle.amo_telling.proofs.Settling.{one_more_told, read_pair}
use Rattle.amo_telling.proofs.untold.Untold.tell_puts.Goals as goal

pub loop-number-preserved : goal.loop-number-preserved
loop-number-preserved c = λ past have.
    let so_far = c.loop-number.yielded in
    subst (λ (puts : List (ℕ × Put)). TellsPuts (IsKnownAs past) c.args.doubts.now c.args.json puts c.args.text.now.items c.tell_put.new.text.items)
    (sym (map-append read_pair so_far ((c.in-Some.number, c.in-Some.put) ∷ [])))
    (one_more_told (IsKnownAs past) c.args.doubts.now c.args.json (map read_pair so_far) (c.in-Some.number.now, c.in-Some.put.now) c.args.text.now.items c.loop-number.text.items c.tell_put.new.text.items
    (c.loop-number.invariant past have) (c.in_ok-tell_put.ensures past have))
