use Rattle.std.specs.Prelude.{◌≡◌, ◌++◌, take}
use Rattle.std.specs.List.{flat_map}
use Rattle.amo_door.specs.Answer.{next_got}
use Rattle.amo_door.proofs.json.push_more_got.Given as goal

-- the messages so far were appended
abbrev pub invariant-loop-message : goal.invariant-loop-message
invariant-loop-message l = l.text.items ≡ l.fn.text.items ++ flat_map next_got (take l.message-index l.messages)
