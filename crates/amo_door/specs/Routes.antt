-- The paths of the places, as a router searches them.
use Rattle.std.specs.Prelude.{◌≡◌, ℕ, Some, Result, Ok, Err, List, [], codes}
use Rattle.std.specs.Option.{unwrap_or}
use Rattle.matchit.specs.Order.{placed}
use Rattle.matchit.specs.Params.{AllText, named, walk}
use Rattle.matchit.specs.Route.{Scan, parse_route}
use Rattle.matchit.specs.Router.{RouteOf, route_from}
use Rattle.matchit.specs.Rows.{RowsOf}
use Rattle.matchit.specs.Seek.{first}
use Rattle.matchit.specs.declared.error.InsertError.{InsertError}
use Rattle.amo_door.specs.declared.place.Place.{Place}
use Rattle.amo_door.specs.declared.place.Place.TheVariants.{Page, Health, Metrics, Host, Events, Stream, Messages, Message, Take, Got}
use Rattle.amo_door.specs.declared.routes.Found.{Found}

-- rows with one more, of a path that reads well
abbrev pub with_read : Result Scan InsertError → Place → RowsOf (RouteOf Place) → RowsOf (RouteOf Place)
with_read (Ok read) place rows = placed (read.pattern, route_from read place) rows
with_read (Err error) place rows = rows

-- rows with one more: a path, with names for its parameters, and its place
abbrev pub with_route : List ℕ → Place → RowsOf (RouteOf Place) → RowsOf (RouteOf Place)
with_route path place rows = with_read (parse_route path) place rows

-- rows with the paths of all places
unfoldable pub with_all : RowsOf (RouteOf Place) → RowsOf (RouteOf Place)
with_all rows =
    with_route (codes "/v1/streams/{stream}/got") Got
    (with_route (codes "/v1/streams/{stream}/take") Take
    (with_route (codes "/v1/streams/{stream}/messages/{number}") Message
    (with_route (codes "/v1/streams/{stream}/messages") Messages
    (with_route (codes "/v1/streams/{stream}") Stream
    (with_route (codes "/v1/events") Events
    (with_route (codes "/v1") Host
    (with_route (codes "/metrics") Metrics
    (with_route (codes "/healthz") Health
    (with_route (codes "/") Page rows)))))))))

-- the paths of all places
unfoldable pub table : RowsOf (RouteOf Place)
table = with_all []

-- what the parameters of a pattern took of a path, each under its name
abbrev pub taken : List ℕ → List ℕ → List (ℕ × ℕ) → List ℕ → List (List ℕ × List ℕ)
taken pattern text names path = walk pattern text path names 0 0

-- what the parameter of a name took; nothing where there is none of this name
abbrev pub part_of : List ℕ → List (List ℕ × List ℕ) → List ℕ
part_of name parts = unwrap_or (named name parts) []

-- what a path gave for the parameters of a route
abbrev pub parts : RouteOf Place → List ℕ → List (List ℕ × List ℕ)
parts route path = taken route.pattern route.text route.names path

-- what a path names, by the route that the router finds
pub record IsFound (rows : RowsOf (RouteOf Place)) (path : List ℕ) (found : Found) : Type 0 where
  pub route : RouteOf Place
  pub first_is : first rows path ≡ Some route
  pub place : found.place ≡ route.value
  pub stream : AllText (parts route path) → found.stream.now ≡ part_of (codes "stream") (parts route path)
  pub number : AllText (parts route path) → found.number.now ≡ part_of (codes "number") (parts route path)

-- the router finds a place for a path, with this for a stream and for a number
pub record LeadsTo (path : List ℕ) (place : Place) (stream number : List ℕ) : Type 0 where
  pub route : RouteOf Place
  pub first_is : first table path ≡ Some route
  pub place_is : route.value ≡ place
  pub stream_is : part_of (codes "stream") (parts route path) ≡ stream
  pub number_is : part_of (codes "number") (parts route path) ≡ number
