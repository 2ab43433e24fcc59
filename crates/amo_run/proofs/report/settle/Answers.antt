use Rattle.std.proofs.Common.{rules, ◌≡◌, ◌<◌, ◌^◌, ℕ, List, length, map, sym, ap, ◌∙◌, subst, arith}
use Rattle.std.specs.List.Sorted.{IsNonDecreasingBy}
use Rattle.std.proofs.lemmas.List.Sorted.{IsNonDecreasingBy-from_sort_by_key}
use Rattle.amo_world.specs.declared.event.Event.{Event}
use Rattle.amo_book.specs.Rule.{AllBelow}
use Rattle.amo_run.proofs.Crews.{homes_each, homes_all}
use Rattle.amo_run.proofs.Lines.{all_lines}
use Rattle.amo_run.specs.Roster.{IsWhose}
use Rattle.amo_run.proofs.Merges.{merged, bare_length}
use Rattle.amo_run.proofs.Rosters.{all_whose}
use Rattle.amo_run.proofs.report.settle.Goals as goal

pub close-requires : goal.close-requires
close-requires c = record { passes = homes_each c.args.book 0 _ c.requires.ends.passes; charges = c.requires.ends.ours c.if-is_short.false }

pub unreachable-requires : goal.unreachable-requires
unreachable-requires c = c.in_default.ensures.missing.0 (homes_all c.args.book c.args.home.passes.items c.requires.ends.passes c.requires.ends.count, c.requires.ends.charges c.if-is_short.false)

pub returns-clause-whole : goal.returns-clause-whole
returns-clause-whole c = let z = c.in-Ok.ensures.closed.0 in
    let sorted : List (ℕ × Event) = c.sort_by_key.new.self.items in
    let up : IsNonDecreasingBy (λ (x : ℕ × Event). x.0) sorted = IsNonDecreasingBy-from_sort_by_key (λ (x : ℕ × Event). x.0) _ c.in-Ok-sort_by_key.ensures.sorted (λ a r q k. search rules) in
    let small : length sorted < 2 ^ 64 = omega (arith, c.sort_by_key.new.self.ok.0) in
    let m = merged c.args.book z.history c.args.home.passes.items c.args.home.events.items sorted c.requires.ends.passes z.each (subst (λ (n : ℕ). AllBelow n z.history) (sym c.requires.ends.count) z.no_others)
    (c.requires.ends.events c.if-is_short.false) c.sort_by_key.ensures.permutation up small in
    let bare : c.in-Ok-bare.events.items ≡ map (λ (x : ℕ × Event). x.1) sorted = c.in-Ok-bare.ensures in
    let whole : length c.in-Ok-bare.events.items ≡ length sorted = ap length bare ∙ bare_length sorted in
    let short = m.1 in let counted = z.count in record {
      history = z.history;
      in_order = bare ∙ m.0;
      right = z.right;
      served = z.served;
      no_others = z.no_others;
      whose = all_whose c.args.roster c.args.version c.args.book c.in-Ok-bare.events.items c.args.home.events.items sorted (c.requires.ends.fit c.if-is_short.false) c.sort_by_key.ensures.permutation bare;
      count = omega arith;
      states = z.states;
    }

pub returns-clause-spelt : goal.returns-clause-spelt
returns-clause-spelt c = let z = c.in-Ok.ensures.closed.0 in
    let sorted : List (ℕ × Event) = c.sort_by_key.new.self.items in
    let up : IsNonDecreasingBy (λ (x : ℕ × Event). x.0) sorted = IsNonDecreasingBy-from_sort_by_key (λ (x : ℕ × Event). x.0) _ c.in-Ok-sort_by_key.ensures.sorted (λ a r q k. search rules) in
    let small : length sorted < 2 ^ 64 = omega (arith, c.sort_by_key.new.self.ok.0) in
    let m = merged c.args.book z.history c.args.home.passes.items c.args.home.events.items sorted c.requires.ends.passes z.each (subst (λ (n : ℕ). AllBelow n z.history) (sym c.requires.ends.count) z.no_others)
    (c.requires.ends.events c.if-is_short.false) c.sort_by_key.ensures.permutation up small in
    let bare : c.in-Ok-bare.events.items ≡ map (λ (x : ℕ × Event). x.1) sorted = c.in-Ok-bare.ensures in
    all_lines c.args.version (IsWhose c.args.roster) c.args.book z.history c.in-Ok-bare.events.items c.args.home.events.items sorted c.requires.lawful (c.requires.ends.fit c.if-is_short.false) c.sort_by_key.ensures.permutation bare (bare ∙ m.0) z.no_others
