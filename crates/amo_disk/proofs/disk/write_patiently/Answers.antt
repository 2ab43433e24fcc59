use Rattle.std.proofs.Common.{rules, ◌≡◌, Err}
use Rattle.std.proofs.KnownBytes.{Keeps-trans}
use Rattle.std.specs.IoError.{error_kind}
use Rattle.std.specs.declared.io.ErrorKind.TheVariants.{Interrupted}
use Rattle.amo_disk.proofs.Writers.{interrupts_on}
use Rattle.amo_disk.proofs.disk.write_patiently.Goals as goal

pub attempts-preserved : goal.attempts-preserved
attempts-preserved g c =
    let answered : g.D.Device.answers c.attempts.writer c.args.bytes.now (Err c.in-Err.error) c.offer.new.self = search rules in
    let interrupted : error_kind c.in-Err.error ≡ Interrupted = search rules in
    record {
      kept = Keeps-trans _ _ _ c.attempts.invariant.kept c.in-Err.ensures.bytes;
      interrupted = interrupts_on g.D.Device.answers c.args.bytes.now c.args.writer.now c.attempts.writer c.offer.new.self c.in-Err.error c.attempts.invariant.interrupted answered interrupted;
    }
