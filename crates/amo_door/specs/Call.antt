-- What requests ask of a host.
use Rattle.std.specs.Prelude.{◌≡◌, ◌≢◌, ◌⊎◌, ℕ, ◌≤◌, ◌<◌, ◌^◌, Bool, true, false, not, ◌&&◌, is_some, Option, None, Some, List, [], ◌∷◌, ◌++◌, IsUtf8, codes}
use Rattle.std.specs.Fmt.{decimal}
use Rattle.form_urlencoded.specs.Form.{raw_pairs}
use Rattle.matchit.specs.Router.{RouteOf}
use Rattle.matchit.specs.Rows.{RowsOf}
use Rattle.matchit.specs.Seek.{first}
use Rattle.amo_object.specs.declared.step.End.{End}
use Rattle.amo_object.specs.declared.step.End.TheVariants.{Sender, Receiver}
use Rattle.amo_text.specs.Line.{Lacks}
use Rattle.amo_door.specs.declared.call.Call.{Call}
use Rattle.amo_door.specs.declared.call.Call.TheVariants as call
use Rattle.amo_door.specs.declared.call.Served.{Served}
use Rattle.amo_door.specs.declared.place.Method.{Method}
use Rattle.amo_door.specs.declared.place.Place.{Place}
use Rattle.amo_door.specs.declared.place.Place.TheVariants.{Page, Health, Metrics, Host, Events, Stream, Messages, Message, Take, Got}
use Rattle.amo_door.specs.declared.query.Parameter.{Parameter}
use Rattle.amo_door.specs.declared.query.Parameter.TheVariants.{Life, By, Number, Wait, Until, After}
use Rattle.amo_door.specs.declared.query.QueryFault.TheVariants as fault
use Rattle.amo_door.specs.declared.refusal.Refusal.{Refusal}
use Rattle.amo_door.specs.declared.refusal.Refusal.TheVariants as refusal
use Rattle.amo_door.specs.declared.routes.Found.{Found}
use Rattle.amo_door.specs.Place.{is_put, side_of, takes}
use Rattle.amo_door.specs.Query.{Faults, Given, Gives, value_of}
use Rattle.amo_door.specs.Routes.{IsFound}
use Rattle.amo_door.specs.Word.{IsWord}

-- a stream that the host has
abbrev pub IsServed : Served → ℕ → Type 0
IsServed served stream = (1 ≤ stream) × (stream ≤ 256) × (stream ≤ served.streams)

-- a host of this side has a place
abbrev pub HasPlace : End → Place → Type 0
HasPlace side place = (only : End) → side_of place ≡ Some only → side ≡ only

-- whether a place takes a parameter
abbrev pub allows : Method → Place → Parameter → Bool
allows method Stream Wait = true
allows method Stream Until = true
allows method Message Life = true
allows method Message By = is_put method
allows method Take Life = true
allows method Take By = true
allows method Take Number = true
allows method Take Wait = true
allows method Got After = true
allows method Events After = true
allows method _ _ = false

-- whether this is given, and the place does not take it
abbrev pub strays : Method → Place → Given → Parameter → Bool
strays method place given parameter = is_some (value_of given parameter) && not (allows method place parameter)

-- the refusal blames a parameter that the place does not take
abbrev pub IsStray : Method → Place → Given → Refusal → Type 0
IsStray method place given (refusal.Stray parameter) = strays method place given parameter ≡ true
IsStray method place given _ = ⊥

-- a parameter whose value is a word
abbrev pub IsWordly : Parameter → Type 0
IsWordly Life = Unit {0}
IsWordly By = Unit {0}
IsWordly _ = ⊥

-- what a host of a side waits for at a stream
abbrev pub until_of : End → List ℕ
until_of Sender = codes "settled"
until_of Receiver = codes "ready"

-- how long the answer may take: no longer than a minute, and not at all where nothing is given
abbrev pub IsWait : Option (List ℕ) → ℕ → Type 0
IsWait None wait = wait ≡ 0
IsWait (Some text) wait = (text ≡ decimal wait) × (wait ≤ 60)

-- the number of a line, where one is given
abbrev pub IsLine : Option (List ℕ) → Option ℕ → Type 0
IsLine None line = line ≡ None
IsLine (Some text) None = ⊥
IsLine (Some text) (Some line) = (text ≡ decimal line) × (line < 2 ^ 64)

-- what is waited for is what hosts of this side wait for, where it is given
abbrev pub IsUntil : End → Option (List ℕ) → Type 0
IsUntil side None = Unit {0}
IsUntil side (Some text) = text ≡ until_of side

-- what is found and given of a message says this: to put it, or to tell what became of it
abbrev pub SaysOfMessage : Bool → Served → List ℕ → List ℕ → Given → Call → Type 0
SaysOfMessage true served s n given (call.Put claim) =
    IsServed served claim.stream × (s ≡ decimal claim.stream) × (n ≡ decimal claim.number) × (given.life ≡ Some claim.life) × (given.by ≡ Some claim.by)
SaysOfMessage false served s n given (call.Outcome stream number life) =
    IsServed served stream × (s ≡ decimal stream) × (n ≡ decimal number) × (given.life ≡ Some life)
SaysOfMessage _ served s n given _ = ⊥

-- what is found and given says this
abbrev pub Says : Served → Method → Place → List ℕ → List ℕ → Given → Call → Type 0
Says served method Message s n given asked = SaysOfMessage (is_put method) served s n given asked
Says served method Page s n given call.Page = Unit {0}
Says served method Health s n given call.Health = Unit {0}
Says served method Metrics s n given call.Metrics = Unit {0}
Says served method Host s n given call.Host = Unit {0}
Says served method Events s n given (call.Events after) = IsLine given.after after
Says served method Stream s n given (call.State stream wait) = IsServed served stream × (s ≡ decimal stream) × IsWait given.wait wait × IsUntil served.side given.until
Says served method Messages s n given (call.PutNext stream) = IsServed served stream × (s ≡ decimal stream)
Says served method Take s n given (call.Take claim wait) =
    IsServed served claim.stream × (s ≡ decimal claim.stream) × (given.number ≡ Some (decimal claim.number)) × (given.life ≡ Some claim.life) × (given.by ≡ Some claim.by) × IsWait given.wait wait
Says served method Got s n given (call.Got stream after) = IsServed served stream × (s ≡ decimal stream) × IsLine given.after after
Says served method _ s n given _ = ⊥

-- the place needs this
abbrev pub needs : Method → Place → Parameter → Bool
needs method Message Life = true
needs method Message By = is_put method
needs method Take Life = true
needs method Take By = true
needs method Take Number = true
needs method _ _ = false

-- what is given for a parameter means nothing
abbrev pub IsWrong : End → Parameter → List ℕ → Type 0
IsWrong side Life text = ¬ (IsWord text)
IsWrong side By text = ¬ (IsWord text)
IsWrong side Number text = (number : ℕ) → number < 2 ^ 64 → text ≢ decimal number
IsWrong side Wait text = (wait : ℕ) → wait ≤ 60 → text ≢ decimal wait
IsWrong side Until text = text ≢ until_of side
IsWrong side After text = (line : ℕ) → line < 2 ^ 64 → text ≢ decimal line

-- what is given for one parameter is refused for this reason: it lacks, or is wrong
abbrev pub BlamesValue : End → Parameter → Option (List ℕ) → Refusal → Type 0
BlamesValue side parameter value (refusal.Missing other) = (other ≡ parameter) × (value ≡ None)
BlamesValue side parameter value (refusal.Wrong other) = (text : List ℕ) × (other ≡ parameter) × (value ≡ Some text) × IsWrong side parameter text
BlamesValue side parameter value _ = ⊥

-- the same where it may lack
abbrev pub BlamesOption : End → Parameter → Option (List ℕ) → Refusal → Type 0
BlamesOption side parameter value (refusal.Wrong other) = (text : List ℕ) × (other ≡ parameter) × (value ≡ Some text) × IsWrong side parameter text
BlamesOption side parameter value _ = ⊥

-- what stands for a stream is refused
abbrev pub BlamesStream : Served → List ℕ → Refusal → Type 0
BlamesStream served s refusal.NoStream = (stream : ℕ) → IsServed served stream → s ≢ decimal stream
BlamesStream served s _ = ⊥

-- what stands for a number is refused
abbrev pub BlamesNumber : List ℕ → Refusal → Type 0
BlamesNumber n refusal.NoNumber = (number : ℕ) → number < 2 ^ 64 → n ≢ decimal number
BlamesNumber n _ = ⊥

-- what is found and given is refused for this reason
abbrev pub Blames : Served → Method → Place → List ℕ → List ℕ → Given → Refusal → Type 0
Blames served method place s n given refusal.NoStream = BlamesStream served s refusal.NoStream
Blames served method Message s n given refusal.NoNumber = BlamesNumber n refusal.NoNumber
Blames served method place s n given (refusal.Missing parameter) = (needs method place parameter ≡ true) × (value_of given parameter ≡ None)
Blames served method place s n given (refusal.Wrong parameter) = (text : List ℕ) × (value_of given parameter ≡ Some text) × IsWrong served.side parameter text
Blames served method place s n given _ = ⊥

-- a target is a path, and a query behind the first `?` if there is one
abbrev pub IsTarget : List ℕ → List ℕ → List ℕ → Type 0
IsTarget target path query = Lacks 63 path × ((target ≡ path ++ 63 ∷ query) ⊎ ((target ≡ path) × (query ≡ [])))

-- a request that names a place, with a query, asks for this
pub record AsksAt (served : Served) (method : Method) (found : Found) (query : List ℕ) (asked : Call) : Type 0 where
  pub takes_it : takes found.place method ≡ true
  pub here : HasPlace served.side found.place
  pub given : Given
  pub gives : Gives (raw_pairs query) given
  pub no_more : (parameter : Parameter) → strays method found.place given parameter ≡ false
  pub says : Says served method found.place found.stream.now found.number.now given asked

-- a request for a target asks for this
pub record Asks (rows : RowsOf (RouteOf Place)) (served : Served) (method : Method) (target : List ℕ) (asked : Call) : Type 0 where
  pub path : List ℕ
  pub query : List ℕ
  pub found : Found
  pub target_is : IsTarget target path query
  pub found_is : IsFound rows path found
  pub asks : AsksAt served method found query asked

-- why a request that names a place, with a query, is refused
abbrev pub RefusesAt : Served → Method → Found → List ℕ → Refusal → Type 0
RefusesAt served method found query (refusal.Method place) = (place ≡ found.place) × (takes place method ≡ false)
RefusesAt served method found query refusal.OtherSide = ¬ (HasPlace served.side found.place)
RefusesAt served method found query refusal.Unknown = Faults (raw_pairs query) fault.Unknown
RefusesAt served method found query (refusal.Repeated parameter) = Faults (raw_pairs query) (fault.Repeated parameter)
RefusesAt served method found query (refusal.Stray parameter) = (given : Given) × Gives (raw_pairs query) given × (strays method found.place given parameter ≡ true)
RefusesAt served method found query reason = (given : Given) × Gives (raw_pairs query) given × Blames served method found.place found.stream.now found.number.now given reason

-- a request for a target that names a place is refused for this reason
pub record RefusesPlace (rows : RowsOf (RouteOf Place)) (served : Served) (method : Method) (target : List ℕ) (reason : Refusal) : Type 0 where
  pub path : List ℕ
  pub query : List ℕ
  pub found : Found
  pub target_is : IsTarget target path query
  pub found_is : IsFound rows path found
  pub why : RefusesAt served method found query reason

-- a target names no place
pub record HasNoPlace (rows : RowsOf (RouteOf Place)) (target : List ℕ) : Type 0 where
  pub path : List ℕ
  pub query : List ℕ
  pub target_is : IsTarget target path query
  pub none : IsUtf8 path → first rows path ≡ None

-- why a request for a target is refused
abbrev pub Refuses : RowsOf (RouteOf Place) → Served → Method → List ℕ → Refusal → Type 0
Refuses rows served method target refusal.NoPlace = HasNoPlace rows target
Refuses rows served method target reason = RefusesPlace rows served method target reason
