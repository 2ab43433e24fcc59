use Rattle.std.proofs.Common.{◌≡◌, ℕ, List, length, refl, sym, ap, ◌∙◌, subst, true}
use Rattle.amo_object.specs.declared.step.End.{End}
use Rattle.amo_book.specs.Pass.{PassState}
use Rattle.amo_book.specs.Charge.{ChargeState, IsChargeOf}
use Rattle.amo_book.specs.Book.{BookState, Apart, Each}
use Rattle.amo_book.specs.Closed.{AreAll, AllPasses, AllCharges}
use Rattle.amo_book.specs.Gathering.{Ends, AreAt}
use Rattle.amo_book.proofs.Gathering.{are_at}
use Rattle.amo_book.proofs.Gathers.{some_pass, has_all, closes}
use Rattle.amo_book.proofs.book.Book.close.Goals as goal

all_is : (book : BookState) (ps ps' : List PassState) (cs cs' : List ChargeState) (n k : ℕ) → ps ≡ ps' → cs ≡ cs' → n ≡ book.passes → k ≡ length book.sides
    → (AllPasses ps n × AllCharges cs k) ≡ AreAll book ps' cs'
all_is book ps ps' cs cs' n k a b d e = λ i. AllPasses (a i) (d i) × AllCharges (b i) (e i)

pub are_all-requires-clause-own : goal.are_all-requires-clause-own
are_all-requires-clause-own c = subst (λ (z : List (End × ℕ) × List ChargeState). AreAt z.0 z.1)
    (λ i. (sym c.as_slice-sides.ensures.value i, sym c.as_slice-2.ensures.value i))
    (are_at _ _ _ (subst (λ (b : BookState). Each (IsChargeOf b.id b.sides) c.args.charges.items) (sym c.self.view_is) c.requires.charges))

pub are_all-requires-clause-apart : goal.are_all-requires-clause-apart
are_all-requires-clause-apart c = subst Apart (sym c.as_slice-sides.ensures.value) c.self.inside.board.apart

pub are_all-requires-clause-numbers : goal.are_all-requires-clause-numbers
are_all-requires-clause-numbers c = c.self.invariant.4

pub returns-then-not-are_all-clause-missing : goal.returns-then-not-are_all-clause-missing
returns-then-not-are_all-clause-missing c = (
  (λ whole. let places = ap (λ (l : List (End × ℕ)). length l) c.as_slice-sides.ensures.value in
      let no = c.if-not-are_all.true in
      let yes : c.are_all.result ≡ true = c.are_all.ensures.1 (subst (λ t. t) (sym (all_is c.args.self _ _ _ _ _ _ c.as_slice.ensures.value c.as_slice-2.ensures.value
      (ap (λ (b : BookState). b.passes) c.self.view_is) (places ∙ ap (λ (b : BookState). length b.sides) c.self.view_is))) whole) in cc),
  refl,
  refl,
  refl,
)

pub gather-root-requires-clause-some : goal.gather-root-requires-clause-some
gather-root-requires-clause-some c = let t = c.are_all.ensures.0 c.if-not-are_all.false in
    some_pass c.args.passes.items c.self.inside.board.setup.passes c.self.invariant.3
    (subst (λ (l : List PassState). AllPasses l c.self.inside.board.setup.passes) c.as_slice.ensures.value t.0)

pub end-count-requires-clause-own : goal.end-count-requires-clause-own
end-count-requires-clause-own c = let t = c.are_all.ensures.0 c.if-not-are_all.false in (
  c.gather-root.ensures.same.0,
  has_all c.args.passes.items c.self.inside.board.setup.passes c.gather-root.result.me.0 c.gather-root.ensures.same.2
      (subst (λ (l : List PassState). AllPasses l c.self.inside.board.setup.passes) c.as_slice.ensures.value t.0) c.gather-root.ensures.all,
)

pub returns-clause-closed : goal.returns-clause-closed
returns-clause-closed c = let t = c.are_all.ensures.0 c.if-not-are_all.false in let b = c.self.view_is in
    let places = ap (λ (l : List (End × ℕ)). length l) c.as_slice-sides.ensures.value in
    let e = subst (λ (b : BookState). Ends b.sides b.passes c.gather-root.result.me.0 c.end-count.result.0 c.end-count.result.1.items) b c.end-count.ensures in
    let z = closes c.args.self c.gather-root.result.me.0 c.end-count.result.0 c.end-count.result.1.items c.args.passes.items c.gather-root.ensures.all e in (
      z,
      subst (λ t. t) (all_is c.args.self _ _ _ _ _ _ c.as_slice.ensures.value c.as_slice-2.ensures.value
          (ap (λ (b : BookState). b.passes) c.self.view_is) (places ∙ ap (λ (b : BookState). length b.sides) c.self.view_is)) t,
    )
