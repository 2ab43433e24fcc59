use Rattle.std.proofs.Common.{◌≡◌, false, take}
use Rattle.std.specs.List.{list_any}
use Rattle.amo_door.specs.Guard.{is_named}
use Rattle.amo_door.proofs.guard.Guard.admits_host.Given as goal

-- none of the names so far is it
abbrev pub invariant-loop-name : goal.invariant-loop-name
invariant-loop-name l = list_any (is_named l.host) (take l.name-index l.self.hosts.items) ≡ false
