use Rattle.amo_lives.proofs.Parts.{no_tag, no_first_line, no_boot, tag_part, first_line_part, boot_part}
use Rattle.amo_lives.proofs.line_reader.read_life.Goals as goal

pub returns-in_err-tag : goal.returns-in_err-tag
returns-in_err-tag c = rw c.from_residual.ensures (λ life known. no_tag life known c.args.text.now c.in_err-tag.ensures.none)

pub returns-in_err-first_line : goal.returns-in_err-first_line
returns-in_err-first_line c =
    let first = c.in_ok-tag.ensures.found in
    rw c.from_residual-in_err-first_line.ensures (λ life known e.
    no_first_line life known _ c.in_err-first_line.ensures.none (tag_part life known c.args.text.now _ _ first.0 first.1 e).1)

pub returns-in_err-boot : goal.returns-in_err-boot
returns-in_err-boot c =
    let first = c.in_ok-tag.ensures.found in
    let second = c.in_ok-first_line.ensures.found in
    rw c.from_residual-in_err-boot.ensures (λ life known e.
    no_boot life known _ c.in_err-boot.ensures.none (first_line_part life known _ _ _ second.0 second.1 (tag_part life known c.args.text.now _ _ first.0 first.1 e).1).1)

pub returns-in_err-tag-2 : goal.returns-in_err-tag-2
returns-in_err-tag-2 c =
    let first = c.in_ok-tag.ensures.found in
    rw c.from_residual-in_err-tag-2.ensures (λ life known e.
    c.in_err-tag-2.ensures.none life.tag known.tag (tag_part life known c.args.text.now _ _ first.0 first.1 e).0)

pub returns-in_err-first_line-2 : goal.returns-in_err-first_line-2
returns-in_err-first_line-2 c =
    let first = c.in_ok-tag.ensures.found in
    let second = c.in_ok-first_line.ensures.found in
    rw c.from_residual-in_err-first_line-2.ensures (λ life known e.
    c.in_err-first_line-2.ensures.none life.first_line known.first_line (first_line_part life known _ _ _ second.0 second.1 (tag_part life known c.args.text.now _ _ first.0 first.1 e).1).0)

pub returns-in_err-boot-2 : goal.returns-in_err-boot-2
returns-in_err-boot-2 c =
    let first = c.in_ok-tag.ensures.found in
    let second = c.in_ok-first_line.ensures.found in
    let third = c.in_ok-boot.ensures.found in
    rw c.from_residual-in_err-boot-2.ensures (λ life known e.
    c.in_err-boot-2.ensures.none life.boot known.boot
    (boot_part life known _ _ _ third.0 third.1 (first_line_part life known _ _ _ second.0 second.1 (tag_part life known c.args.text.now _ _ first.0 first.1 e).1).1).0)

pub returns-in_err-sync : goal.returns-in_err-sync
returns-in_err-sync c =
    let first = c.in_ok-tag.ensures.found in
    let second = c.in_ok-first_line.ensures.found in
    let third = c.in_ok-boot.ensures.found in
    rw c.from_residual-in_err-sync.ensures (λ life known e.
    c.in_err-sync.ensures.none life.sync
    (boot_part life known _ _ _ third.0 third.1 (first_line_part life known _ _ _ second.0 second.1 (tag_part life known c.args.text.now _ _ first.0 first.1 e).1).1).1)
