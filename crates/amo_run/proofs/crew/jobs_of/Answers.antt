use Rattle.std.proofs.Common.{◌≡◌, ℕ, Bool, List, length, map, sym, ap, ◌∙◌, subst, arith}
use Rattle.amo_object.specs.declared.step.End.{End}
use Rattle.amo_object.specs.declared.step.End.TheVariants.{Sender, Receiver}
use Rattle.amo_book.specs.Book.{Each}
use Rattle.amo_book.specs.Closed.{AllCharges}
use Rattle.amo_run.specs.declared.part.Part.{Part}
use Rattle.amo_run.specs.declared.work.PumpJob.{PumpJob}
use Rattle.amo_run.specs.Crew.{EachAt, IsDriver, IsOurs, dealt}
use Rattle.amo_run.specs.Parts.{pumps_of, sides_of}
use Rattle.amo_run.specs.Sides.{IsHostOf}
use Rattle.amo_run.specs.Versions.{version_for}
use Rattle.amo_run.proofs.Openings.{both_hosts, one_host, enough_charges, all_of_both, all_of_one}
use Rattle.amo_run.proofs.crew.jobs_of.Goals as goal
use Rattle.amo_run.proofs.crew.jobs_of.Goals.{in-Both+in-Ok+in_ok-push_host-in-Both+in_ok-push_host-in-Both-2, in-Senders+in_ok-push_host-in-Senders, in-Receivers+in_ok-push_host-in-Receivers}

abbrev Driven : {C : Type 0} → Part → ℕ → List (PumpJob C) → Type 0
Driven {C = C} part pumps l = EachAt (λ n (j : PumpJob C). IsDriver part pumps n j.task.pump) 0 l

driven_as : {C : Type 0} (part asked : Part) (pumps all : ℕ) (l : List (PumpJob C)) → part ≡ asked → pumps ≡ all → Driven part pumps l → Driven asked all l
driven_as part asked pumps all l is count h = subst (λ (p : Part). Driven p all l) is (subst (λ (n : ℕ). Driven part n l) count h)

pub parts-requires : goal.parts-requires
parts-requires g c = enough_charges c.args.settings.now.streams c.args.book.now c.args.charges.items (c.requires.sides ∙ ap (λ (p : Part). sides_of p c.args.settings.now.streams) c.in-Both.is) c.requires.charges

pub push_host-requires-clause-host : goal.push_host-requires-clause-host
push_host-requires-clause-host g c = let t = both_hosts c.args.settings.now.streams c.args.book.now c.args.charges.items c.in-Ok.front.items c.in-Ok.back.items c.requires.within.streams.0
    (c.requires.sides ∙ ap (λ (p : Part). sides_of p c.args.settings.now.streams) c.in-Both.is) c.requires.charges c.requires.belong c.in-Ok.ensures.all c.in-Ok.ensures.count in subst (λ (side : End). IsHostOf side c.args.book.now c.in-Ok.front.items) (sym c.of-sender.ensures.host.1) t.0

pub push_host-requires-in-Both-clause-host : goal.push_host-requires-in-Both-clause-host
push_host-requires-in-Both-clause-host g c = let t = both_hosts c.args.settings.now.streams c.args.book.now c.args.charges.items c.in-Ok.front.items c.in-Ok.back.items c.requires.within.streams.0
    (c.requires.sides ∙ ap (λ (p : Part). sides_of p c.args.settings.now.streams) c.in-Both.is) c.requires.charges c.requires.belong c.in-Ok.ensures.all c.in-Ok.ensures.count in subst (λ (side : End). IsHostOf side c.args.book.now c.in-Ok.back.items) (sym c.of-receiver.ensures.host.1) t.1

pub push_host-requires-in-Both-clause-pumps : goal.push_host-requires-in-Both-clause-pumps
push_host-requires-in-Both-clause-pumps g c = let t = both_hosts c.args.settings.now.streams c.args.book.now c.args.charges.items c.in-Ok.front.items c.in-Ok.back.items c.requires.within.streams.0
    (c.requires.sides ∙ ap (λ (p : Part). sides_of p c.args.settings.now.streams) c.in-Both.is) c.requires.charges c.requires.belong c.in-Ok.ensures.all c.in-Ok.ensures.count in
    let long = t.2 in let few = c.of-receiver.ensures.few in let most = few.2 in (few.0, few.1, omega arith)

pub push_host-requires-in-Both-clause-drivers : goal.push_host-requires-in-Both-clause-drivers
push_host-requires-in-Both-clause-drivers g c = driven_as {C = g.row.C.Denot} c.of-sender.result.part c.of-receiver.result.part c.of-sender.result.pumps c.of-receiver.result.pumps c.push_host.new.jobs.items
    (c.of-sender.ensures.part ∙ sym c.of-receiver.ensures.part) (c.of-sender.ensures.count ∙ sym c.of-receiver.ensures.count) c.in_ok-push_host-in-Both.ensures.drivers

pub push_host-requires-in-Both-clause-ours : goal.push_host-requires-in-Both-clause-ours
push_host-requires-in-Both-clause-ours g c =
    let same : c.of-sender.result.batch ≡ c.of-receiver.result.batch = c.of-sender.ensures.batch ∙ sym c.of-receiver.ensures.batch in
    subst (λ (batch : Bool). Each (λ (j : PumpJob g.row.C.Denot). IsOurs (version_for batch) c.args.book.now j.task.pump) c.push_host.new.jobs.items) same c.in_ok-push_host-in-Both.ensures.ours

pub push_host-requires-in-Senders-clause-host : goal.push_host-requires-in-Senders-clause-host
push_host-requires-in-Senders-clause-host g c = let t = one_host Sender c.args.settings.now.streams c.args.book.now c.args.charges.items c.requires.within.streams.0
    (c.requires.sides ∙ ap (λ (p : Part). sides_of p c.args.settings.now.streams) c.in-Senders.is) c.requires.charges c.requires.belong in subst (λ (side : End). IsHostOf side c.args.book.now c.args.charges.items) (sym c.of-sender.ensures.host.1) t.0

pub push_host-requires-in-Senders-clause-pumps : goal.push_host-requires-in-Senders-clause-pumps
push_host-requires-in-Senders-clause-pumps g c = let t = one_host Sender c.args.settings.now.streams c.args.book.now c.args.charges.items c.requires.within.streams.0
    (c.requires.sides ∙ ap (λ (p : Part). sides_of p c.args.settings.now.streams) c.in-Senders.is) c.requires.charges c.requires.belong in
    let long = t.1 in let few = c.of-sender.ensures.few in let most = few.2 in (few.0, few.1, omega arith)

pub push_host-requires-in-Receivers-clause-host : goal.push_host-requires-in-Receivers-clause-host
push_host-requires-in-Receivers-clause-host g c = let t = one_host Receiver c.args.settings.now.streams c.args.book.now c.args.charges.items c.requires.within.streams.0
    (c.requires.sides ∙ ap (λ (p : Part). sides_of p c.args.settings.now.streams) c.in-Receivers.is) c.requires.charges c.requires.belong in subst (λ (side : End). IsHostOf side c.args.book.now c.args.charges.items) (sym c.of-receiver.ensures.host.1) t.0

pub push_host-requires-in-Receivers-clause-pumps : goal.push_host-requires-in-Receivers-clause-pumps
push_host-requires-in-Receivers-clause-pumps g c = let t = one_host Receiver c.args.settings.now.streams c.args.book.now c.args.charges.items c.requires.within.streams.0
    (c.requires.sides ∙ ap (λ (p : Part). sides_of p c.args.settings.now.streams) c.in-Receivers.is) c.requires.charges c.requires.belong in
    let long = t.1 in let few = c.of-receiver.ensures.few in let most = few.2 in (few.0, few.1, omega arith)

pub returns-clause-ours : goal.returns-clause-ours
returns-clause-ours g c =
    let Ours : Bool → List (PumpJob g.row.C.Denot) → Type 0 = λ batch l. Each (λ (j : PumpJob g.row.C.Denot). IsOurs (version_for batch) c.args.book.now j.task.pump) l in
    let as_asked = Ours c.args.settings.now.batch in
    elim c.match-part.branch [
      | in-Both+in-Ok+in_ok-push_host-in-Both+in_ok-push_host-in-Both-2 w ↦ subst as_asked (sym (ap (λ v. v.items) w.jobs-is)) (subst (λ (batch : Bool). Ours batch w.push_host-in-Both.new.jobs.items) c.of-receiver.ensures.batch w.in_ok-push_host-in-Both-2.ensures.ours)
      | in-Senders+in_ok-push_host-in-Senders w ↦ subst as_asked (sym (ap (λ v. v.items) w.jobs-is)) (subst (λ (batch : Bool). Ours batch w.push_host-in-Senders.new.jobs.items) c.of-sender.ensures.batch w.in_ok-push_host-in-Senders.ensures.ours)
      | in-Receivers+in_ok-push_host-in-Receivers w ↦ subst as_asked (sym (ap (λ v. v.items) w.jobs-is)) (subst (λ (batch : Bool). Ours batch w.push_host-in-Receivers.new.jobs.items) c.of-receiver.ensures.batch w.in_ok-push_host-in-Receivers.ensures.ours)
    ]

pub returns-clause-all : goal.returns-clause-all
returns-clause-all g c =
    let Has : List (PumpJob g.row.C.Denot) → Type 0 = λ l. AllCharges (dealt (map (λ (j : PumpJob g.row.C.Denot). j.task.pump) l)) (length c.args.book.now.sides) in
    let sides = c.args.book.now.sides in let id = c.args.book.now.id in
    elim c.match-part.branch [
      | in-Both+in-Ok+in_ok-push_host-in-Both+in_ok-push_host-in-Both-2 w ↦ subst Has (sym (ap (λ v. v.items) w.jobs-is))
          (all_of_both sides id c.args.charges.items w.in-Ok.front.items w.in-Ok.back.items (dealt (map (λ (j : PumpJob g.row.C.Denot). j.task.pump) w.push_host.new.jobs.items)) (dealt (map (λ (j : PumpJob g.row.C.Denot). j.task.pump) w.push_host-in-Both.new.jobs.items)) c.requires.charges w.in-Ok.ensures.all
          w.in_ok-push_host-in-Both.ensures.added w.in_ok-push_host-in-Both-2.ensures.kept w.in_ok-push_host-in-Both-2.ensures.added)
      | in-Senders+in_ok-push_host-in-Senders w ↦ subst Has (sym (ap (λ v. v.items) w.jobs-is))
          (all_of_one sides id c.args.charges.items (dealt (map (λ (j : PumpJob g.row.C.Denot). j.task.pump) w.push_host-in-Senders.new.jobs.items)) c.requires.charges w.in_ok-push_host-in-Senders.ensures.added)
      | in-Receivers+in_ok-push_host-in-Receivers w ↦ subst Has (sym (ap (λ v. v.items) w.jobs-is))
          (all_of_one sides id c.args.charges.items (dealt (map (λ (j : PumpJob g.row.C.Denot). j.task.pump) w.push_host-in-Receivers.new.jobs.items)) c.requires.charges w.in_ok-push_host-in-Receivers.ensures.added)
    ]

pub returns-clause-drivers : goal.returns-clause-drivers
returns-clause-drivers g c =
    let asked = Driven {C = g.row.C.Denot} c.args.part (pumps_of c.args.settings.now) in
    elim c.match-part.branch [
      | in-Both+in-Ok+in_ok-push_host-in-Both+in_ok-push_host-in-Both-2 w ↦ subst asked (sym (ap (λ v. v.items) w.jobs-is)) (driven_as {C = g.row.C.Denot} _ _ _ _ w.push_host-in-Both.new.jobs.items c.of-receiver.ensures.part c.of-receiver.ensures.count w.in_ok-push_host-in-Both-2.ensures.drivers)
      | in-Senders+in_ok-push_host-in-Senders w ↦ subst asked (sym (ap (λ v. v.items) w.jobs-is)) (driven_as {C = g.row.C.Denot} _ _ _ _ w.push_host-in-Senders.new.jobs.items c.of-sender.ensures.part c.of-sender.ensures.count w.in_ok-push_host-in-Senders.ensures.drivers)
      | in-Receivers+in_ok-push_host-in-Receivers w ↦ subst asked (sym (ap (λ v. v.items) w.jobs-is)) (driven_as {C = g.row.C.Denot} _ _ _ _ w.push_host-in-Receivers.new.jobs.items c.of-receiver.ensures.part c.of-receiver.ensures.count w.in_ok-push_host-in-Receivers.ensures.drivers)
    ]
