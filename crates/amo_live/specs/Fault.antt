-- Why a live host cannot go on.
use Rattle.amo_live.specs.declared.fault.LiveFault.{LiveFault}
use Rattle.amo_lives.specs.declared.fault.BeginFault.{BeginFault}
use Rattle.amo_lives.specs.declared.fault.BeginFault.TheVariants as begin
use Rattle.amo_live.specs.declared.fault.LiveFault.TheVariants.{NoMemory, Lives}

-- of a life that did not begin
abbrev pub begin_fault : BeginFault → LiveFault
begin_fault begin.NoMemory = NoMemory
begin_fault begin.Device = Lives
