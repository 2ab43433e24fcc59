use Rattle.std.proofs.Common.{◌∙◌, ap}
use Rattle.std.proofs.lemmas.Result.{IfOk-equal}
use Rattle.std.specs.Prelude.{codes}
use Rattle.amo_door.specs.declared.place.Place.TheVariants.{Health, Metrics, Host, Events, Stream, Messages, Message, Take, Got}
use Rattle.amo_door.specs.Routes.{with_all, with_route}
use Rattle.amo_door.proofs.routes.add_all.Goals as goal

pub returns : goal.returns
unfolding with_all
returns c =
    IfOk-equal c.add-10.result c.add-10.new.router _ _ c.add-10.ensures (ap (with_route (codes "/v1/streams/{stream}/got") Got)
    (c.in_ok-add-9.ensures ∙ ap (with_route (codes "/v1/streams/{stream}/take") Take)
    (c.in_ok-add-8.ensures ∙ ap (with_route (codes "/v1/streams/{stream}/messages/{number}") Message)
    (c.in_ok-add-7.ensures ∙ ap (with_route (codes "/v1/streams/{stream}/messages") Messages)
    (c.in_ok-add-6.ensures ∙ ap (with_route (codes "/v1/streams/{stream}") Stream)
    (c.in_ok-add-5.ensures ∙ ap (with_route (codes "/v1/events") Events)
    (c.in_ok-add-4.ensures ∙ ap (with_route (codes "/v1") Host)
    (c.in_ok-add-3.ensures ∙ ap (with_route (codes "/metrics") Metrics)
    (c.in_ok-add-2.ensures ∙ ap (with_route (codes "/healthz") Health) c.in_ok-add.ensures)))))))))
