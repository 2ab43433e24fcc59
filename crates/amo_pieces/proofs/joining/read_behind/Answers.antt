use Rattle.std.proofs.Common.{◌≡◌, List, ℕ, [], Option, Some, None, IfSome, unwrap_or, true, false, refl, sym, ◌∙◌}
use Rattle.amo_pieces.specs.Text.{torn}
use Rattle.amo_pieces.proofs.joining.read_behind.Goals as goal

-- what is known of what is left
known : (left : Option (List ℕ)) → IfSome left (λ bytes. unwrap_or left [] ≡ bytes)
known None = tt
known (Some bytes) = refl

pub returns-then-not-is_whole-clause-joined : goal.returns-then-not-is_whole-clause-joined
returns-then-not-is_whole-clause-joined g c =
    let told = rw c.as_slice.ensures.value at c.is_whole.ensures.1 in (
      unwrap_or (g.R.Read.remaining c.args.reader.now) [],
      known (g.R.Read.remaining c.args.reader.now),
      torn (λ whole. let no : true ≡ false = sym (told whole) ∙ c.if-not-is_whole.true in cc) refl refl,
    )
