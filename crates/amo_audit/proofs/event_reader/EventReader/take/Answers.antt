use Rattle.std.proofs.Common.{◌≡◌, ◌-◌, ◌∙◌, ◌++◌, ◌∷◌, [], List, ℕ, Some, Option, length, length-append, drop, ap, sym, subst, arith}
use Rattle.amo_journal.specs.declared.version.Version.{Version}
use Rattle.amo_journal.specs.Journal.{line_text}
use Rattle.amo_audit.specs.Reader.{IsReadTo}
use Rattle.amo_audit.proofs.Reader.{left_behind, one_read}
use Rattle.amo_audit.proofs.event_reader.EventReader.take.Goals as goal

pub returns-clause-read : goal.returns-clause-read
returns-clause-read c = λ version more text events is known here left has.
    let items = c.args.self.now.text.items in
    let place : c.saturating_sub-self.result ≡ length items - length more = omega (arith, c.saturating_sub-self.ensures, c.len.ensures, c.args.self.now.text.ok.0, left) in
    let behind : drop c.saturating_sub-self.result items ≡ more = ap (λ (n : ℕ). drop n items) place ∙ left_behind items (line_text c.args.line) more c.args.self.now.read here in
    let was = subst (λ (v : Option Version). IsReadTo v (drop c.args.self.now.read items) text events) is has.read in
    let now = one_read version (drop c.args.self.now.read items) more text events c.args.line was known here (c.if-line-self.false ∙ has.count) in
    let long = length-append events (c.args.line.event ∷ []) in record {
      read = subst (λ (v : Option Version). IsReadTo v (drop c.saturating_sub-self.result items) text (events ++ c.args.line.event ∷ [])) (sym is)
          (subst (λ (t : List ℕ). IsReadTo (Some version) t text (events ++ c.args.line.event ∷ [])) (sym behind) now);
      count = omega (arith, c.in-Some.ensures, has.count, long);
      whole = has.whole;
    }
