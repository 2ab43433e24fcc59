-- What an agenda keeps, as a host.
use Rattle.amo_host.specs.Host.{Host}
use Rattle.amo_host.specs.declared.agenda.Agenda.TheInside.{Inside}

abbrev pub host_of : Inside → Host
host_of a = record { side = a.side; modes = a.modes.items; limit = a.handshakes.limit; permits = a.handshakes.streams; timers = a.timers; rotation = a.rotation }
