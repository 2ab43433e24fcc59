use Rattle.std.proofs.Common.{◌≡◌, ℕ, List, refl, sym, ap, ◌∙◌, rules}
use Rattle.amo_object.specs.declared.step.End.TheVariants.{Receiver}
use Rattle.amo_core.specs.declared.act.Act.TheVariants as act
use Rattle.amo_live.specs.Service.{shown_by, spelling_of, words_of}
use Rattle.amo_live.specs.Shown.{Told}
use Rattle.amo_live.proofs.Fresh.{bears_as, bears_none, call_bears}
use Rattle.amo_live.proofs.Showing.{get_shows, nothing_shows, shows_as}
use Rattle.amo_live.proofs.service.Service.get.Goals as goal
use Rattle.amo_live.proofs.service.Service.get.Goals.{in-Some-lane, in_default-lane}

pub returns-in_default-clause-shown : goal.returns-in_default-clause-shown
returns-in_default-clause-shown g c =
    let (answer, grown, placed, got) = c.in_ok-message.ensures.got in
    let old = shown_by c.args.self.now in
    nothing_shows (spelling_of c.args.self.now) c.args.self.now.host.pass c.get.new.self.pass c.args.stream old old answer (sym c.in_default.is ∙ got) grown refl

pub returns-clause-shown : goal.returns-clause-shown
returns-clause-shown g c =
    let (answer, grown, placed, got) = c.in_ok-message.ensures.got in
    let spelling = spelling_of c.args.self.now in
    let first = c.args.self.now.host.pass in
    let old = shown_by c.args.self.now in
    let with_line : Told = record { text = c.push_message.new.shown.items; owed = old.owed } in
    let pass : c.match-lane.self.host.pass ≡ c.get.new.self.pass = elim c.match-lane.branch [ in-Some-lane w ↦ search rules | in_default-lane w ↦ search rules ] in
    let shown : shown_by c.match-lane.self ≡ with_line = elim c.match-lane.branch [ in-Some-lane w ↦ search rules | in_default-lane w ↦ search rules ] in
    shows_as spelling spelling first c.get.new.self.pass first c.match-lane.self.host.pass old with_line old (shown_by c.match-lane.self) refl refl pass refl shown
    (get_shows spelling first c.get.new.self.pass c.args.stream old with_line answer c.next_line-line.result c.in-Some.message _ (sym c.in-Some.is ∙ got) grown (ap (λ (l : List ℕ). let t : Told = record { text = l; owed = old.owed } in t) c.in_ok-push_message.ensures))

pub returns-in_default-clause-words : goal.returns-in_default-clause-words
returns-in_default-clause-words g c =
    let (answer, grown, placed, got) = c.in_ok-message.ensures.got in let old = words_of c.args.self.now in
    bears_none old old c.args.self.now.host.pass c.get.new.self.pass refl (call_bears c.args.self.now.host.pass c.get.new.self.pass Receiver c.args.stream act.Get answer refl grown)

pub returns-clause-words : goal.returns-clause-words
returns-clause-words g c =
    let (answer, grown, placed, got) = c.in_ok-message.ensures.got in
    let old = words_of c.args.self.now in
    let first = c.args.self.now.host.pass in
    let pass : c.match-lane.self.host.pass ≡ c.get.new.self.pass = elim c.match-lane.branch [ in-Some-lane w ↦ search rules | in_default-lane w ↦ search rules ] in
    let words : words_of c.match-lane.self ≡ old = elim c.match-lane.branch [ in-Some-lane w ↦ search rules | in_default-lane w ↦ search rules ] in
    bears_as old old old (words_of c.match-lane.self) first c.get.new.self.pass first c.match-lane.self.host.pass refl words refl pass
    (bears_none old old first c.get.new.self.pass refl (call_bears first c.get.new.self.pass Receiver c.args.stream act.Get answer refl grown))
