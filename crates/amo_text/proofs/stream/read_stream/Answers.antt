use Rattle.std.proofs.Common.{◌≡◌, ◌≢◌, ℕ, ◌<◌, ◌^◌, List, sym, ◌∙◌, arith}
use Rattle.std.specs.Prelude.{Option, None, Some, IfNone}
use Rattle.std.specs.Fmt.{decimal}
use Rattle.std.proofs.lemmas.Fmt.{decimal_injective}
use Rattle.amo_packet.specs.Stream.{IsStream}
use Rattle.amo_text.proofs.stream.read_stream.Goals as goal

-- a number's decimal is no stream's where the number is none's
no_stream : (field : List ℕ) (n : ℕ) → n < 2 ^ 64 → field ≡ decimal n → (found : Option ℕ) → IfNone found (¬ (IsStream n)) → IfNone found ((stream : ℕ) → IsStream stream → field ≢ decimal stream)
no_stream field n small here None none = λ stream known e.
    let same : n ≡ stream = decimal_injective n stream small (omega (arith, known.1)) (sym here ∙ e) in
    none (rw (sym same) at known)
no_stream field n small here (Some s) none = tt

pub returns-clause-none : goal.returns-clause-none
returns-clause-none c = no_stream c.args.field.now _ c.in_ok-read_decimal.ensures.fits c.in_ok-read_decimal.ensures.found c.stream_of.result c.stream_of.ensures.none
