use Rattle.amo_packet.proofs.Spellings.{All-spelling}
use Rattle.amo_packet.proofs.laws.spellings_are_bytes.Goals as goal

pub returns : goal.returns
returns c = All-spelling
