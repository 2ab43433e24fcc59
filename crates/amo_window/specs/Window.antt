-- Permits, and the windows that give them out.
use Rattle.std.specs.Prelude.{◌≡◌, ◌≢◌, ℕ, ◌≤◌, Some, refl}
use Rattle.std.specs.Ordering.{nat_cmp}
use Rattle.std.specs.Coded.{Coded, code_by, coded×, coded_ℕ}
use Rattle.std.specs.FinMap as map
use Rattle.slab.specs.Slab as slab

-- a permit: the key that it stands under in its window, and the stream that it was opened for
pub record Entry : Type 0 where
  pub key : ℕ
  pub stream : ℕ

-- the greatest number of permits that a window may be made for
abbrev pub most_permits : ℕ
most_permits = 64

-- how many permits may be out at once, and the stream of each that is out, under its key
pub record Permits : Type 0 where
  pub limit : ℕ
  pub streams : map.FinMap nat_cmp ℕ

-- these are stored as the pair of their fields
abbrev pub permits_code : Coded Permits
permits_code =
    code_by
    (ℕ × map.FinMap nat_cmp ℕ)
    (coded× coded_ℕ (map.code coded_ℕ coded_ℕ))
    (λ w. (w.limit, w.streams))
    (λ p. record { limit = p.0; streams = p.1 })
    (λ _. refl)

-- how many permits are out
abbrev pub out : Permits → ℕ
out w = map.len w.streams

-- the permit is one of this window's that is out
abbrev pub Holds : Permits → Entry → Type 0
Holds w permit = map.get w.streams permit.key ≡ Some permit.stream

-- each permit that was out still is, and has another key than this one
abbrev pub StayOut : Permits → Permits → Entry → Type 0
StayOut old new permit = (other : Entry) → Holds old other → (other.key ≢ permit.key) × Holds new other

-- a window of this limit from which nothing is out
abbrev pub unopened : ℕ → Permits
unopened limit = record { limit = limit; streams = map.empty }

-- the permit is out too
abbrev pub opened : Permits → Entry → Permits
opened w permit = record w { streams = map.insert w.streams permit.key permit.stream }

-- the permit is no longer out
abbrev pub closed : Permits → Entry → Permits
closed w permit = record w { streams = map.remove w.streams permit.key }

-- the streams of a slab, by key
abbrev pub by_key : slab.Slab ℕ → map.FinMap nat_cmp ℕ
by_key s = map.from_entries (slab.entries s)

-- a slab that has room for as many permits as the limit says, and has no more of them
pub record IsWithin (s : slab.Slab ℕ) (limit : ℕ) : Type 0 where
  pub least : 1 ≤ limit
  pub greatest : limit ≤ most_permits
  pub within : slab.slab_len s ≤ limit
  pub room : limit ≤ s.capacity
