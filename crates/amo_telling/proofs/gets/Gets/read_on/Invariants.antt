use Rattle.std.proofs.Common.{◌≡◌, Bool, List, Option, ℕ, length}
use Rattle.amo_world.specs.declared.event.Event.{Event}
use Rattle.amo_telling.specs.Gets.{HaveRead}
use Rattle.amo_telling.proofs.SoFar.{IsFurther}
use Rattle.amo_telling.proofs.gets.Gets.read_on.Given as goal

-- so many lines were read, and told of
abbrev pub invariant-loop-alloc : goal.invariant-loop-alloc
invariant-loop-alloc l = record {
  version : l.rest.version ≡ l.fn.lines.version;
  read : (after : Option ℕ) (json : Bool) (past : List Event) → HaveRead after json l.fn.self past → IsFurther after json past l.fn.lines l.rest.text.now l.fn.text.items l.self l.text.items;
}

abbrev pub decreases-loop-alloc : goal.decreases-loop-alloc
decreases-loop-alloc l = length l.rest.text.now
