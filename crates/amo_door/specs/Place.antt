-- The places of the door, and the methods that they take.
use Rattle.std.specs.Prelude.{ℕ, ◌||◌, Bool, if◌then◌else◌, Option, None, Some, List, codes, bytes_eq, false, true}
use Rattle.amo_object.specs.declared.step.End.{End}
use Rattle.amo_object.specs.declared.step.End.TheVariants.{Sender, Receiver}
use Rattle.amo_door.specs.declared.place.Method.{Method}
use Rattle.amo_door.specs.declared.place.Method.TheVariants.{Get, Head, Put, Post, Other}
use Rattle.amo_door.specs.declared.place.Place.{Place}
use Rattle.amo_door.specs.declared.place.Place.TheVariants.{Events, Messages, Message, Take, Got}

-- the method of a name
abbrev pub method_of : List ℕ → Method
method_of name =
    if bytes_eq name (codes "GET") then Get
    else (if bytes_eq name (codes "HEAD") then Head
    else (if bytes_eq name (codes "PUT") then Put
    else (if bytes_eq name (codes "POST") then Post else Other)))

-- whether a method reads, and so may leave the body of its answer out
abbrev pub reads : Method → Bool
reads Get = true
reads Head = true
reads _ = false

-- whether a method is this one
abbrev pub is_get : Method → Bool
is_get Get = true
is_get _ = false

abbrev pub is_put : Method → Bool
is_put Put = true
is_put _ = false

abbrev pub is_post : Method → Bool
is_post Post = true
is_post _ = false

-- whether a place takes a method: what changes something is no GET, and events have no end
abbrev pub takes : Place → Method → Bool
takes Messages method = is_post method
takes Take method = is_post method
takes Message method = reads method || is_put method
takes Events method = is_get method
takes _ method = reads method

-- those methods, as the field Allow spells them
abbrev pub methods_of : Place → List ℕ
methods_of Messages = codes "POST"
methods_of Take = codes "POST"
methods_of Message = codes "GET, HEAD, PUT"
methods_of Events = codes "GET"
methods_of _ = codes "GET, HEAD"

-- the side whose hosts alone have a place
abbrev pub side_of : Place → Option End
side_of Messages = Some Sender
side_of Message = Some Sender
side_of Take = Some Receiver
side_of Got = Some Receiver
side_of _ = None
