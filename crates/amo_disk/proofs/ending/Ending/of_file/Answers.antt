use Rattle.std.proofs.Common.{◌≡◌, inr, subst}
use Rattle.amo_disk.specs.Ending.{placed_in}
use Rattle.amo_disk.specs.Tail.{Faults}
use Rattle.amo_disk.proofs.ending.Ending.of_file.Goals as goal

pub returns-in-Err-clause-fault : goal.returns-in-Err-clause-fault
returns-in-Err-clause-fault c =
    let version = c.open-lines.result.version in let body = c.open-lines.result.text.now in inr (record {
      version = version;
      body = body;
      first = c.in_ok-first.first;
      why = c.in-Err.fault;
      opens = c.open-lines.ensures;
      first_is = c.in_ok-first.ensures;
      faults = subst (λ n. Faults version c.args.side n body c.in-Err.fault) c.unwrap_or-from.ensures c.in-Err.ensures.fault;
      placed = subst (λ n. c.placed.result ≡ placed_in version n c.in-Err.fault) c.unwrap_or-from.ensures c.placed.ensures;
    })
