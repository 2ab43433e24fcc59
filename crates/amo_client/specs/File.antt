-- The files of calls.
use Rattle.std.specs.Prelude.{ℕ, List}
use Rattle.amo_client.specs.declared.held.FileText.{FileText}

-- the bytes of what was read from a file, or written into it
abbrev pub bytes_of : FileText → List ℕ
bytes_of text = text.bytes.items
