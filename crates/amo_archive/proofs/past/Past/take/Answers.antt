use Rattle.std.proofs.Common.{◌≡◌, ℕ, ◌+◌, ◌∷◌, ◌++◌, ◌∙◌, List, Option, refl, sym, subst, ap, rules}
use Rattle.amo_lives.specs.declared.doubt.Span.{Span}
use Rattle.amo_lives.specs.declared.life.Life.{Life}
use Rattle.amo_outcomes.specs.declared.sender_followers.SenderFollowers.{SenderFollowers}
use Rattle.amo_outcomes.specs.SenderFollowers.{HaveFollowedSenders}
use Rattle.amo_archive.specs.declared.lane.Owner.{Owner}
use Rattle.amo_archive.specs.declared.past.Reign.{Reign}
use Rattle.amo_archive.specs.Lane.{owners_in}
use Rattle.amo_archive.specs.Past.{events_of}
use Rattle.amo_archive.specs.Records.{IsFirstOrBehind}
use Rattle.amo_archive.specs.Reign.{owner_by, owners_of, reign_after, seen}
use Rattle.amo_archive.proofs.past.Past.take.Goals as goal

pub returns : goal.returns
returns c = λ past has.
    let s = c.args.self.now in
    let line = c.args.line.now in
    let followers : c.count_put.new.self.followers ≡ s.followers = search rules in
    let lives : c.count_put.new.self.lives.items ≡ s.lives.items = search rules in
    let doubts : c.count_put.new.self.doubts.items ≡ s.doubts.items = search rules in
    let slice : c.as_slice.result.now ≡ s.lives.items = search rules in
    let kept : c.count_put.new.self.reign ≡ c.see.new.self = search rules in
    let reign : c.see.new.self ≡ reign_after s.lives.items (line ∷ past) = c.see.ensures.seen ∙ (ap (λ (l : List Life). seen l line s.reign) slice ∙ ap (λ (r : Reign). seen s.lives.items line r) has.reign) in
    record {
      from_first = (subst (λ (last : Option ℕ). IsFirstOrBehind last line.number) has.last c.requires.first, has.from_first);
      followed = λ right. c.in_ok-follow.ensures (events_of past) (λ m put. right.0) (subst (λ (f : SenderFollowers). HaveFollowedSenders f (events_of past)) (sym followers) (has.followed right.1));
      last = refl;
      reign = subst (λ (l : List Life). c.count_put.new.self.reign ≡ reign_after l (line ∷ past)) (sym lives) (kept ∙ reign);
      lanes = λ place lane at.
          let (before, was, is) = c.in_ok-count_put.ensures.counted place lane at in
          let told : owners_in lane ≡ owners_of s.lives.items s.doubts.items (place + 1) (line ∷ past) =
          is ∙ (ap (λ (l : List Owner). l ++ owner_by s.doubts.items (place + 1) c.see.new.self line) (has.lanes place before was)
          ∙ ap (λ (r : Reign). owners_of s.lives.items s.doubts.items (place + 1) past ++ owner_by s.doubts.items (place + 1) r line) reign) in
          subst (λ (l : List Life). owners_in lane ≡ owners_of l c.count_put.new.self.doubts.items (place + 1) (line ∷ past)) (sym lives)
          (subst (λ (d : List Span). owners_in lane ≡ owners_of s.lives.items d (place + 1) (line ∷ past)) (sym doubts) told);
    }
