use Rattle.std.proofs.Common.{◌≡◌, List, ℕ, ◌++◌, codes, sym, ◌∙◌, ap, subst, append_assoc}
use Rattle.amo_door.specs.Answer.{got_front}
use Rattle.amo_call.specs.Pages.{TellsLines}
use Rattle.amo_call.proofs.pages.read_page.Goals as goal

pub returns-in-Some-behind : goal.returns-in-Some-behind
returns-in-Some-behind c =
    let stream = c.args.stream in
    let rest = c.in-Some-behind._rest.now in
    let status : c.args.response.now.status ≡ 200 = cc (c.if-response-ne200.false) in
    record {
      found = record {
        status = status;
        rest = rest;
        begins = sym c.as_slice-body.ensures.value ∙ c.in-Some-behind_front.ensures ∙ ap (λ (t : List ℕ). got_front stream ++ t) c.in-Some-behind.ensures.found
            ∙ sym (append_assoc (got_front stream) (codes "]") rest);
        ends = subst (λ (t : List ℕ). TellsLines c.args.from c.in-Some.lines t) c.as_slice-body.ensures.value c.in-Some.ensures.tells;
      };
      goes_on = c.in-Some.ensures.goes_on;
    }
