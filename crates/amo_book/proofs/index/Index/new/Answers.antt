use Rattle.std.proofs.Common.{refl}
use Rattle.amo_book.proofs.Indexing.{empty_index}
use Rattle.amo_book.proofs.index.Index.new.Goals as goal

pub returns : goal.returns
returns c = empty_index _ refl refl
