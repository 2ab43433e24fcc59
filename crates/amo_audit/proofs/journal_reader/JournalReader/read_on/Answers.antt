use Rattle.std.proofs.Common.{◌++◌, [], List, ℕ, take, refl, sym, subst}
use Rattle.amo_audit.specs.Reader.{HasCome}
use Rattle.amo_audit.proofs.Come.{nothing_given}
use Rattle.amo_audit.proofs.Reader.{goes_further, more_grown, none_grown}
use Rattle.amo_audit.proofs.journal_reader.JournalReader.read_on.Goals as goal

pub returns-then-not-self-clause-more : goal.returns-then-not-self-clause-more
returns-then-not-self-clause-more g c =
    ([], nothing_given (g.R.Read.remaining c.args.reader.now), (refl, refl), λ pieces events has. subst (λ (ps : List (List ℕ)). HasCome c.args.self.now ps events) (sym (none_grown pieces)) has)

pub returns-clause-more : goal.returns-clause-more
returns-clause-more g c =
    let more = take c.in_ok-count.count c.read_part.new.room in (
      more,
      c.in_ok-count.ensures.bytes,
      (refl, refl),
      λ pieces events has.
          let on = has.goes_on c.if-not-self.false in
          record {
            text = has.text ++ more;
            is_text = more_grown pieces has.text more on;
            goes_on = λ _. goes_further pieces has.text more on;
            read = c.in_ok-push.ensures has.text events has.read;
            sides = has.sides;
            stream = has.stream;
          },
    )
