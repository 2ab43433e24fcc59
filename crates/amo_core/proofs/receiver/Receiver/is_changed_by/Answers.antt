use Rattle.std.proofs.Common.{◌≡◌, ℕ, List, [], ◌∷◌, length, ap, ◌∙◌, subst, arith, sym}
use Rattle.amo_packet.specs.Batch.{Batch}
use Rattle.amo_core.specs.declared.act.Act.{Act}
use Rattle.amo_core.specs.declared.act.Act.TheVariants as act
use Rattle.amo_core.specs.declared.receiver.ReceiverMode.{ReceiverMode}
use Rattle.amo_core.specs.declared.receiver.ReceiverMode.TheVariants.{Rcvd}
use Rattle.amo_core.specs.Receiver.{ReceiverState, row, get, held_by, with_rest}
use Rattle.amo_core.proofs.receiver.Receiver.is_changed_by.Goals as goal

fewer : (id : ℕ) (first : List ℕ) (rest : List (List ℕ)) → with_rest id rest ≡ Rcvd id (record { first = first; rest = rest }) → ⊥
fewer id first [] e = cc
fewer id first (m ∷ more) e = let l = ap (λ (z : ReceiverMode). length (held_by z)) e in omega arith

takes_one : (s : ReceiverState) (a : Act) (id : ℕ) (b : Batch) → a ≡ act.Get → s.mode ≡ Rcvd id b → (row s a).state ≡ s → ⊥
takes_one s a id b is held same =
    let got : (get s s.mode).state ≡ s = subst (λ (z : Act). (row s z).state ≡ s) is same in
    let left : (get s (Rcvd id b)).state ≡ s = subst (λ (z : ReceiverMode). (get s z).state ≡ s) held got in
    fewer id b.first b.rest (ap (λ (z : ReceiverState). z.mode) left ∙ held)

pub returns-in-Rcvd : goal.returns-in-Rcvd
returns-in-Rcvd c = (
  (λ e. cc),
  λ same. absurd (takes_one c.args.self.now c.args.act.now c.in-Rcvd.field-0 c.in-Rcvd.field-1 c.in-Get.is
      (ap (λ (z : ReceiverState). z.mode) (sym c.self.view_is) ∙ c.in-Rcvd.is) same),
)
