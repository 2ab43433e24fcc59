-- Keys that tie are one.
use Rattle.std.proofs.Common.{◌≡◌, Bool, true, false, refl, ◌∙◌, ap}
use Rattle.std.specs.declared.cmp.Ordering.{Ordering}
use Rattle.std.specs.declared.cmp.Ordering.TheVariants.{Less, Equal, Greater}
use Rattle.std.specs.Cmp.{Equal-is}
use Rattle.std.specs.BTreeMap.{is_at}
use Rattle.std.proofs.lemmas.Cmp.{tied_itself}
use Rattle.std.proofs.lemmas.Map.Lookups.{exact_unsigned}
use Rattle.std.specs.Ordering.{ordering_then, bool_cmp}
use Rattle.amo_world.specs.declared.key.Key.{Key}
use Rattle.amo_world.specs.declared.key.PacketKind.{PacketKind}
use Rattle.amo_world.specs.declared.key.PacketKind.TheVariants.{NeedUid, Accept, Send, Ack, Cleanup, Batch}
use Rattle.amo_world.specs.contracts.key.KeyOrd.TheImpl.Laws.{total-law}
use Rattle.amo_world.specs.contracts.key.PacketKindOrd.TheImpl as kind_order
use Rattle.amo_world.specs.Key.{key, order}

less : Less ≡ Equal → ⊥
less e = cc

greater : Greater ≡ Equal → ⊥
greater e = cc

-- two orders, one after the other, tie where both do
both_tie : (a b : Ordering) → ordering_then a b ≡ Equal → (a ≡ Equal) × (b ≡ Equal)
both_tie Less b e = absurd (less e)
both_tie Equal b e = (refl, e)
both_tie Greater b e = absurd (greater e)

flags_tie : (x y : Bool) → bool_cmp x y ≡ Equal → x ≡ y
flags_tie false false e = refl
flags_tie false true e = absurd (less e)
flags_tie true false e = absurd (greater e)
flags_tie true true e = refl

kinds_tie : (j k : PacketKind) → kind_order.cmp-value.it j k ≡ Equal → j ≡ k
kinds_tie NeedUid NeedUid e = refl
kinds_tie NeedUid Accept e = absurd (less e)
kinds_tie NeedUid Send e = absurd (less e)
kinds_tie NeedUid (Ack f) e = absurd (less e)
kinds_tie NeedUid Cleanup e = absurd (less e)
kinds_tie NeedUid Batch e = absurd (less e)
kinds_tie Accept NeedUid e = absurd (greater e)
kinds_tie Accept Accept e = refl
kinds_tie Accept Send e = absurd (less e)
kinds_tie Accept (Ack f) e = absurd (less e)
kinds_tie Accept Cleanup e = absurd (less e)
kinds_tie Accept Batch e = absurd (less e)
kinds_tie Send NeedUid e = absurd (greater e)
kinds_tie Send Accept e = absurd (greater e)
kinds_tie Send Send e = refl
kinds_tie Send (Ack f) e = absurd (less e)
kinds_tie Send Cleanup e = absurd (less e)
kinds_tie Send Batch e = absurd (less e)
kinds_tie (Ack f) NeedUid e = absurd (greater e)
kinds_tie (Ack f) Accept e = absurd (greater e)
kinds_tie (Ack f) Send e = absurd (greater e)
kinds_tie (Ack f) (Ack g) e = ap (λ (x : Bool). Ack x) (flags_tie f g e)
kinds_tie (Ack f) Cleanup e = absurd (less e)
kinds_tie (Ack f) Batch e = absurd (less e)
kinds_tie Cleanup NeedUid e = absurd (greater e)
kinds_tie Cleanup Accept e = absurd (greater e)
kinds_tie Cleanup Send e = absurd (greater e)
kinds_tie Cleanup (Ack f) e = absurd (greater e)
kinds_tie Cleanup Cleanup e = refl
kinds_tie Cleanup Batch e = absurd (less e)
kinds_tie Batch NeedUid e = absurd (greater e)
kinds_tie Batch Accept e = absurd (greater e)
kinds_tie Batch Send e = absurd (greater e)
kinds_tie Batch (Ack f) e = absurd (greater e)
kinds_tie Batch Cleanup e = absurd (greater e)
kinds_tie Batch Batch e = refl

keys_tie : (j k : Key) → order j k ≡ Equal → j ≡ k
keys_tie j k e =
    let both = both_tie _ _ e in
    ap (key j.kind) (exact_unsigned j.identifier k.identifier both.0) ∙ ap (λ (x : PacketKind). key x k.identifier) (kinds_tie j.kind k.kind both.1)

pub same_key : (j k : Key) → is_at (order j) k ≡ true → j ≡ k
same_key j k e = keys_tie j k ((Equal-is (order j k)).0 e)

pub key_at_itself : (k : Key) → is_at (order k) k ≡ true
key_at_itself k = (Equal-is (order k k)).1 (tied_itself total-law k)
