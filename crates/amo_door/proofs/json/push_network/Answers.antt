use Rattle.std.proofs.Common.{List, ℕ, ◌≡◌, ◌++◌, subst}
use Rattle.std.specs.Prelude.{OnOk, codes}
use Rattle.amo_door.specs.Answer.{streams_member}
use Rattle.amo_door.specs.Json.{quoted}
use Rattle.amo_door.proofs.Appends.{three}
use Rattle.amo_door.proofs.json.push_network.Goals as goal

pub returns : goal.returns
returns c =
    let before = c.extend_from_slice.new.self.items in
    let last = subst (λ (text : List ℕ). OnOk c.push_quoted.result (c.push_quoted.new.shown.items ≡ before ++ quoted text)) c.as_bytes.ensures.value c.push_quoted.ensures in
    three c.push_quoted.result c.args.text.now.items (streams_member c.args.about.now.streams) (codes ",\"peer\":") (quoted c.args.about.now.peer.now) c.push_streams.new.text.items before c.push_quoted.new.shown.items
    c.in_ok-push_streams.ensures c.in_ok-extend_from_slice.ensures.items last
