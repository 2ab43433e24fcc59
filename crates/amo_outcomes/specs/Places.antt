-- Where the puts of a stream are, as it is kept.
use Rattle.std.specs.Prelude.{ℕ, Bool, true, false, not, ◌&&◌, if◌then◌else◌, List, [], ◌∷◌, ◌++◌, length, take, drop, set}
use Rattle.amo_core.specs.declared.act.Act.{Act}
use Rattle.amo_core.specs.declared.act.Act.TheVariants as act
use Rattle.amo_core.specs.declared.reply.Reply.{Reply}
use Rattle.amo_core.specs.declared.reply.Reply.TheVariants as reply
use Rattle.amo_core.specs.declared.mode.Mode.{Mode}
use Rattle.amo_core.specs.declared.mode.Mode.TheVariants as mode

-- the puts that wait, those for which an identifier is asked, those that arrive, and of each put whether it was got
pub record Kept : Type 0 where
  pub waiting : List ℕ
  pub asked : List ℕ
  pub arriving : List ℕ
  pub got : List Bool

abbrev pub empty : Kept
empty = record { waiting = []; asked = []; arriving = []; got = [] }

-- a put that was taken
abbrev pub is_put : Act → Reply → Bool
is_put (act.Put m) reply.Ok = true
is_put _ _ = false

-- a put that is taken waits, and was not got
abbrev pub if_put : Bool → Kept → Kept
if_put puts k = if puts then record k { waiting = k.waiting ++ length k.got ∷ []; got = k.got ++ false ∷ [] } else k

-- how many puts a start carries at most
abbrev pub most_of : Act → ℕ
most_of (act.Batch word) = 4
most_of _ = 1

-- an identifier is asked for the first ones, so many at most
abbrev pub begun : ℕ → Kept → Kept
begun most k = record k { waiting = drop most k.waiting; asked = take most k.waiting }

abbrev pub if_arrived : Bool → Kept → Kept
if_arrived arrives k = if arrives then record k { arriving = k.asked; asked = k.arriving } else k

abbrev pub forgotten : Kept → Kept
forgotten k = record k { waiting = [] }

-- these were got
abbrev pub marked : List Bool → List ℕ → List Bool
marked got [] = got
marked got (put ∷ puts) = marked (set got put true) puts

abbrev pub given : Kept → Kept
given k = record k { arriving = drop 1 k.arriving; got = marked k.got (take 1 k.arriving) }

abbrev pub lost : Kept → Kept
lost k = record k { arriving = [] }

-- a get from a receiver that holds something gives the first put
abbrev pub if_given : Bool → Kept → Kept
if_given gives k = if gives then given k else k

-- nothing arrives any more where the receiver is in a mode that takes nothing in
abbrev pub if_lost : Bool → Kept → Kept
if_lost loses k = if loses then lost k else k

-- a sender of this mode asks for an identifier
abbrev pub asks : Mode → Bool
asks mode.NeedId = true
asks _ = false

-- those for which an identifier is asked, where the sender asks
abbrev pub asked_if : Bool → Kept → List ℕ
asked_if asking k = if asking then k.asked else []

-- those that may still be got, in order
abbrev pub open_of : Bool → Kept → List ℕ
open_of asking k = k.arriving ++ (asked_if asking k ++ k.waiting)

-- an act at the sender, which was in one mode and is in another: a handshake begins, a handshake sends, here or in vain, or all is forgotten
abbrev pub at_sender : Mode → Mode → Act → Reply → Bool → Kept → Kept
at_sender mode.Quiet mode.NeedId a r here k = begun (most_of a) k
at_sender mode.NeedId mode.Send a r here k = if_arrived here k
at_sender _ mode.Down a r here k = forgotten k
at_sender _ _ a r here k = if_put (is_put a r) k

abbrev pub is_get : Act → Bool
is_get act.Get = true
is_get _ = false

-- in such a mode of the receiver puts may arrive
abbrev pub takes_in : Mode → Bool
takes_in mode.Accept = true
takes_in mode.Rcvd = true
takes_in _ = false

abbrev pub is_rcvd : Mode → Bool
is_rcvd mode.Rcvd = true
is_rcvd _ = false

-- an act at the receiver, which was in one mode and is in another
abbrev pub at_receiver : Mode → Mode → Act → Kept → Kept
at_receiver before now a k = if_lost (not (takes_in now)) (if_given (is_get a && is_rcvd before) k)
