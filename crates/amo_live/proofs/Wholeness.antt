-- What a host knows once its passes met: no event is anybody else's.
use Rattle.std.proofs.Common.{◌≡◌, ℕ, ◌<◌, List, [], ◌∷◌, ◌++◌, length, refl, sym, ap, ◌∙◌, subst, arith}
use Rattle.std.proofs.lemmas.List.{length-append}
use mathlib.Core.Logic.{dite}
use native.Mathlib.Decide.{ℕ_discrete}
use Rattle.amo_world.specs.declared.event.Event.{Event}
use Rattle.amo_world.specs.History.{Extends, IsRight, events_of}
use Rattle.amo_world.proofs.Extensions.{antisymmetric, earlier_too, further}
use Rattle.amo_world.proofs.Picks.{own, others, picked_later}
use Rattle.amo_book.specs.Pass.{IsSamePass, Met, PassState, mine}
use Rattle.amo_book.specs.Rule.{AllBelow}
use Rattle.amo_host.specs.Station.{BelongTogether}
use Rattle.amo_live.specs.Emitted.{AreEmitted, OutboxState}
use Rattle.amo_live.specs.Host.{HostState, IsHost, IsWhole}

-- where of two passes the first made no event, each is the second's
all_own : (history : List Event) → AllBelow 2 history → events_of 0 history ≡ [] → events_of 1 history ≡ history
all_own [] below none = refl
all_own (e ∷ past) (lt, below) none = dite (ℕ_discrete 0 e.pass)
    (λ first. let one = ap length (sym (subst (λ p. events_of p (e ∷ past) ≡ e ∷ events_of p past) (sym first) (own past e)) ∙ none) in absurd (omega arith))
    (λ apart. let second : 1 ≡ e.pass = omega arith in
    subst (λ p. events_of p (e ∷ past) ≡ e ∷ events_of p past) (sym second) (own past e)
    ∙ ap (λ l. e ∷ l) (all_own past below (sym (others past e 0 apart) ∙ none)))

-- nor did it in an earlier history
none_earlier : (later earlier : List Event) → Extends later earlier → events_of 0 later ≡ [] → events_of 0 earlier ≡ []
none_earlier later earlier more none = empty (events_of 0 earlier) (picked_later 0 later earlier more).0 (sym (picked_later 0 later earlier more).1 ∙ none)
  where
    empty : (xs newer : List Event) → newer ++ xs ≡ [] → xs ≡ []
    empty [] newer is = refl
    empty (x ∷ xs) newer is = let all = length-append newer (x ∷ xs) in let count = ap length is in absurd (omega arith)

-- the second's events are all of a history from which the first's goes on
own_of : (passes : ℕ) (later earlier : List Event) → passes ≡ 2 → AllBelow passes later → events_of 0 later ≡ [] → Extends later earlier → events_of 1 earlier ≡ earlier
own_of passes later earlier two below none more =
    all_own earlier (earlier_too (λ past e. e.pass < 2) later earlier more (subst (λ n. AllBelow n later) two below)) (none_earlier later earlier more none)

-- the second pass has seen nothing more, and its events are all
pub whole : (passes : ℕ) (o o' v w : PassState) → passes ≡ 2 → IsSamePass o o' → IsSamePass v w → Extends o'.seen w.seen → Extends o'.seen v.seen → AllBelow passes o'.seen → IsRight w.seen
    → o.number ≡ 0 → mine o ≡ [] → v.number ≡ 1 → (w ≡ v) × IsWhole w
whole passes o o' v w two other same later before below right first silent second =
    let none : events_of 0 o'.seen ≡ [] = subst (λ p. events_of p o'.seen ≡ []) (other.number ∙ first) (other.mine_stays ∙ silent) in
    let now : events_of 1 w.seen ≡ w.seen = own_of passes o'.seen w.seen two below none later in
    let then : events_of 1 v.seen ≡ v.seen = own_of passes o'.seen v.seen two below none before in
    let mine_now : mine w ≡ w.seen = ap (λ p. events_of p w.seen) (same.number ∙ second) ∙ now in
    let mine_then : mine v ≡ v.seen = ap (λ p. events_of p v.seen) second ∙ then in
    let seen : w.seen ≡ v.seen = sym mine_now ∙ (same.mine_stays ∙ mine_then) in (
      (λ i. let p : PassState = record { book = same.book i; number = same.number i; seen = seen i } in p),
      record { own = sym mine_now; right = right },
    )

-- what two passes that met had seen, the first one has
pub met_before : (one two one' two' : PassState) → Met one two one' two' → Extends one'.seen two.seen
met_before one two one' two' (history, from_one, from_two, one_after, two_after) = further one'.seen history two.seen one_after from_two

-- and what it had seen, the second one has
met_after : (one two one' two' : PassState) → Met one two one' two' → Extends two'.seen two.seen
met_after one two one' two' (history, from_one, from_two, one_after, two_after) = further two'.seen history two.seen two_after from_two

-- what its passes know once they met
pub host_met : {L S : Type 0} (h : HostState L S) (o w : PassState) → IsHost h → IsSamePass h.other o × IsSamePass h.pass w → Met h.other h.pass o w → Extends o.seen w.seen
    → AllBelow h.book.passes o.seen → IsRight w.seen → (w ≡ h.pass) × IsWhole w
host_met h o w is same met later below right =
    whole h.book.passes h.other o h.pass w is.silent.two same.0 same.1 later (met_before h.other h.pass o w met) below right is.silent.number is.silent.silent is.number

-- the same where it looked before: nor has it seen more by that
pub host_looked : {L S : Type 0} (h : HostState L S) (o u w : PassState) → IsHost h → IsSamePass h.pass u → Extends u.seen h.pass.seen → IsSamePass h.other o × IsSamePass u w → Met h.other u o w
    → Extends o.seen w.seen → AllBelow h.book.passes o.seen → IsRight w.seen → (w ≡ h.pass) × ((u.seen ≡ h.pass.seen) × IsWhole w)
host_looked h o u w is same more both met later below right =
    let before : Extends o.seen h.pass.seen = further o.seen u.seen h.pass.seen (met_before h.other u o w met) more in
    let stays : IsSamePass h.pass w = record { book = both.1.book ∙ same.book; number = both.1.number ∙ same.number; mine_stays = both.1.mine_stays ∙ same.mine_stays } in
    let t = whole h.book.passes h.other o h.pass w is.silent.two both.0 stays later before below right is.silent.number is.silent.silent is.number in
    let back : Extends h.pass.seen u.seen = subst (λ (p : PassState). Extends p.seen u.seen) t.0 (met_after h.other u o w met) in
    (t.0, (antisymmetric u.seen h.pass.seen more back, t.1))

-- a host whose passes met
pub host_learned : {L S : Type 0} (h : HostState L S) (o w : PassState) → IsHost h → IsSamePass h.other o → w ≡ h.pass → IsHost (record h { pass = w; other = o })
host_learned h o w is same still = record {
  together = subst (λ p. BelongTogether h.book p h.pump) (sym still) is.together;
  station = is.station;
  side = is.side;
  few = is.few;
  sides = is.sides;
  places = is.places;
  number = ap (λ (p : PassState). p.number) still ∙ is.number;
  silent = record {
    two = is.silent.two;
    book_is = same.book ∙ is.silent.book_is;
    number = same.number ∙ is.silent.number;
    silent = same.mine_stays ∙ is.silent.silent;
  };
  emitted = subst (λ p. AreEmitted p h.outbox) (sym still) is.emitted;
}

-- a host that has handed on what was to leave
pub host_sent : {L S : Type 0} (h : HostState L S) (o w : PassState) (m : OutboxState) (link : L) → IsHost h → IsSamePass h.other o → w ≡ h.pass → m ≡ record h.outbox { leaving = [] }
    → IsHost (record h { pass = w; other = o; link = link; outbox = m })
host_sent h o w m link is same still sent =
    let learned = host_learned h o w is same still in record {
      together = learned.together;
      station = is.station;
      side = is.side;
      few = is.few;
      sides = is.sides;
      places = ap (λ (x : OutboxState). length x.recent) sent ∙ is.places;
      number = learned.number;
      silent = learned.silent;
      emitted = subst (AreEmitted w) (sym sent) (record { leaving = tt; recent = learned.emitted.recent });
    }
