use Rattle.std.proofs.Common.{◌≡◌, ◌++◌, subst, sym}
use Rattle.std.specs.Prelude.{OnOk}
use Rattle.http1.specs.Head.{pairs}
use Rattle.amo_door.specs.declared.answer.Kind.{Kind}
use Rattle.amo_door.specs.Spelling.{page_fields}
use Rattle.amo_door.proofs.Written.{joined_where}
use Rattle.amo_door.proofs.spelling.push_page.Goals as goal

-- one field behind another
pub returns-in_ok-push-in-Page-clause-ok : goal.returns-in_ok-push-in-Page-clause-ok
returns-in_ok-push-in-Page-clause-ok c =
    let start = pairs c.args.fields.now.items in
    subst (λ (kind : Kind). OnOk c.push-in-Page.result (pairs c.push-in-Page.new.fields.items ≡ start ++ page_fields kind)) (sym c.in-Page.is)
    (joined_where c.push-in-Page.result start _ _ _ _ c.in_ok-push-in-Page.ensures.ok c.push-in-Page.ensures.ok)
