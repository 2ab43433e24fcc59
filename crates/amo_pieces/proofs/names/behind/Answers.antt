use Rattle.std.proofs.Common.{◌++◌, ◌-◌, [], ◌∷◌, ℕ, List, length, drop, take, sym, ◌∙◌, ap}
use Rattle.std.proofs.lemmas.List.{take_rest}
use Rattle.amo_pieces.proofs.NumberedNames.{begun, not_begun, rest_of}
use Rattle.amo_pieces.proofs.names.behind.Goals as goal

pub returns-then-not-starts_with-clause-none : goal.returns-then-not-starts_with-clause-none
returns-then-not-starts_with-clause-none c = λ rest. not_begun c.args.name.now c.args.file.now c.starts_with.result c.starts_with.ensures.value c.if-not-starts_with.true (46 ∷ rest)

pub returns-clause-some : goal.returns-clause-some
returns-clause-some c =
    let whole = begun c.args.name.now c.args.file.now c.starts_with.result c.starts_with.ensures.value c.if-not-starts_with.false in
    let dot = begun (46 ∷ []) (take (length c.args.file.now - length c.args.name.now) (drop (length c.args.name.now) c.args.file.now)) c.starts_with-2.result c.starts_with-2.ensures.value c.if-not-starts_with-2.false in
    let behind = take_rest c.args.file.now (length c.args.name.now) in
    whole ∙ ap (λ (t : List ℕ). c.args.name.now ++ t) (sym behind ∙ rest_of 46 (take (length c.args.file.now - length c.args.name.now) (drop (length c.args.name.now) c.args.file.now)) dot)
