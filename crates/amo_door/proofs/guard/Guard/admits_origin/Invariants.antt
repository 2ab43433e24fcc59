use Rattle.std.proofs.Common.{◌≡◌, false, take}
use Rattle.std.specs.List.{list_any}
use Rattle.amo_door.specs.Guard.{is_origin_of}
use Rattle.amo_door.proofs.guard.Guard.admits_origin.Given as goal

-- none of the names so far is it
abbrev pub invariant-loop-name : goal.invariant-loop-name
invariant-loop-name l = list_any (is_origin_of l.origin) (take l.name-index l.self.hosts.items) ≡ false
