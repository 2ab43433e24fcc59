use Rattle.std.proofs.Common.{◌≡◌, ℕ, ◌≤◌, List, ◌++◌, drop, take, min, length, ltb, ap, ◌∙◌, arith}
use Rattle.std.proofs.lemmas.List.{drop_min}
use Rattle.amo_lines.specs.Input.{InputState}
use Rattle.amo_lines.proofs.Clients.{filled, front_read}
use Rattle.amo_lines.proofs.input.Input.fill.Goals as goal

pub returns-clause-filled : goal.returns-clause-filled
returns-clause-filled g c =
    let i = c.args.self.now in let inside = c.self.inside in let bytes = take c.in_ok-count.count c.read.new.buf in
    let least : c.min.result ≡ min inside.taken (length inside.bytes.items) = omega (arith, c.min.ensures, c.len.ensures, inside.bytes.ok.0) in
    let left : c.drop-drain.new.self.0.items ≡ i.rest =
    c.drop-drain.ensures.items ∙ (c.drain.ensures.kept ∙ (ap (λ (k : ℕ). drop k inside.bytes.items) least ∙ (drop_min inside.taken inside.bytes.items ∙ ap (λ (s : InputState). s.rest) c.self.view_is))) in
    let room : c.in_ok-count.count ≤ inside.piece.len = omega (arith, c.in_ok-count.ensures.bound.0, c.read.auto.buf, c.as_mut_slice.ensures.len) in
    let read : take c.in_ok-count.count c.deref.result.now ≡ bytes = ap (take c.in_ok-count.count) c.deref.ensures.value ∙ front_read c.in_ok-count.count inside.piece.len c.read.new.buf (drop (length c.read.new.buf) inside.piece.items) c.in_ok-count.ensures.bound.0 room in
    let rest : c.extend_from_slice.new.self.items ≡ i.rest ++ bytes =
    c.in_ok-extend_from_slice.ensures.items ∙ (ap (λ (l : List ℕ). l ++ take c.in_ok-count.count c.deref.result.now) left ∙ ap (λ (l : List ℕ). i.rest ++ l) read) in
    let skips : inside.skips ≡ i.skips = ap (λ (s : InputState). s.skips) c.self.view_is in
    (bytes, c.in_ok-count.ensures.bytes.0, filled i (record { rest = c.extend_from_slice.new.self.items; skips = inside.skips; taken = inside.lines; is_open = ltb 0 c.in_ok-count.count }) bytes skips rest)
