use Rattle.std.proofs.Common.{◌≡◌, ◌≢◌, ℕ, ◌<◌, ◌^◌, ◌∙◌, refl, subst, sym, rules}
use Rattle.amo_lives.specs.Life.{tag_field}
use Rattle.amo_archive.specs.Fates.{IsNoTag, IsTag}
use Rattle.amo_archive.proofs.past.Past.life_of.Goals as goal

pub returns-in-Some : goal.returns-in-Some
returns-in-Some c =
    let spelt : c.args.word.now ≡ tag_field c.in-Some.tag = search rules in
    IsTag c.in-Some.tag c.in-Some.ensures.found.0 spelt (search rules)

pub returns-in-None : goal.returns-in-None
returns-in-None c =
    let none : (tag : ℕ) → tag < 2 ^ 32 → c.args.word.now ≢ tag_field tag = search rules in
    IsNoTag none refl
