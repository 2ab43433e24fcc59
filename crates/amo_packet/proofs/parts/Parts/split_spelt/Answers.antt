use Rattle.std.proofs.Common.{◌≡◌, ℕ, suc, ◌-◌, List, ◌∷◌, length, take, drop, None, sym, ap, ◌∙◌, arith}
use Rattle.std.proofs.lemmas.List.{take_rest}
use Rattle.byteorder.specs.Endian.{big_number}
use Rattle.amo_packet.specs.Batch.{Batch, messages}
use Rattle.amo_packet.specs.Fault.{first_of, message_faults}
use Rattle.amo_packet.proofs.Lending.{split_more}
use Rattle.amo_packet.proofs.MessageFaults.{followed}
use Rattle.amo_packet.proofs.parts.Parts.split_spelt.Goals as goal

-- what a part of the bytes from a place on is, cut at a length that is read
cut_at : (f : ℕ → List ℕ → List ℕ) (bytes part : List ℕ) (given : ℕ) → given ≡ big_number 2 bytes → part ≡ f given (take (length bytes - 2) (drop 2 bytes))
    → part ≡ f (big_number 2 bytes) (drop 2 bytes)
cut_at f bytes part given e e' = e' ∙ ap (f given) (take_rest bytes 2) ∙ ap (λ (n : ℕ). f n (drop 2 bytes)) e

pub spelt-requires-clause-faultless : goal.spelt-requires-clause-faultless
spelt-requires-clause-faultless c =
    let bytes = c.args.bytes.now in
    let others = c.args.count - 1 in
    let more : c.args.count ≡ suc others = omega arith in
    let none : first_of (message_faults (suc others) bytes) ≡ None = ap (λ (n : ℕ). first_of (message_faults n bytes)) (sym more) ∙ c.requires.faultless in
    let rest = cut_at drop bytes c.split_at.result.1.now c.from-length.result (c.from-length.ensures ∙ c.read_u16.ensures) c.split_at.ensures.back in
    ap (λ (xs : List ℕ). first_of (message_faults others xs)) rest ∙ (followed others bytes none).rest

pub returns : goal.returns
returns c =
    let bytes = c.args.bytes.now in
    let first = cut_at take bytes c.split_at.result.0.now c.from-length.result (c.from-length.ensures ∙ c.read_u16.ensures) c.split_at.ensures.front in
    let rest = cut_at drop bytes c.split_at.result.1.now c.from-length.result (c.from-length.ensures ∙ c.read_u16.ensures) c.split_at.ensures.back in
    split_more c.args.count bytes c.split_at.result.0.now c.split_at.result.1.now (omega arith) first rest
    ∙ ap (λ (b : Batch). c.split_at.result.0.now ∷ messages b) (sym c.spelt.ensures)
