use Rattle.std.proofs.Common.{◌-◌, length, slice_index_or}
use Rattle.std.proofs.lemmas.Bool.{eq-eqb, eqb-true}
use Rattle.amo_disk.proofs.Parts.{last_tells, some_bytes}
use Rattle.amo_disk.proofs.newest.whole_behind.Goals as goal

pub returns : goal.returns
returns c = λ text before.
    let bytes = c.args.bytes.now in let last = slice_index_or bytes (length bytes - 1) 0 in
    let tells = last_tells text bytes (some_bytes bytes c.is_empty.result c.is_empty.ensures c.if-is_empty.false) in
    (λ test. tells.0 (eqb-true last 10 test), λ whole. eq-eqb last 10 (tells.1 whole))
