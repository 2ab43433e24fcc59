-- What a window holds once a permit is opened or closed, for this crate and its callers.
use Rattle.std.proofs.Common.{◌≡◌, ◌≢◌, ℕ, eqb, Some, None, sym, ap, ◌∙◌, inl, inr, arith}
use Rattle.std.proofs.lemmas.Bool.{cases_eq}
use Rattle.std.proofs.lemmas.Bool.Decides.{nat_tests}
use Rattle.std.specs.Ordering.{nat_cmp, eq_by_cmp}
use Rattle.std.specs.Cmp.{nat_cmp_total}
use Rattle.std.specs.FinMap.{FinMap, get, insert, remove, get-insert, get-remove, len-empty, same_map, nat_cmp-IsAntisymmetric}
use Rattle.amo_window.specs.Window.{Entry, Permits, out, Holds, StayOut, unopened, opened, closed}

-- a key ties with itself alone
pub ties : (x y : ℕ) → eq_by_cmp nat_cmp x y ≡ eqb x y
ties x y = grind (arith, nat_tests)

module _ (m : FinMap nat_cmp ℕ) (key v q : ℕ) where
  -- what stands under the key that was set
  pub get-insert_same : q ≡ key → get (insert m key v) q ≡ Some v
  get-insert_same same = grind (arith, nat_tests, get-insert nat_cmp_total m key v q, ties q key)

  -- and under another one
  pub get-insert_other : q ≢ key → get (insert m key v) q ≡ get m q
  get-insert_other differs = grind (arith, nat_tests, get-insert nat_cmp_total m key v q, ties q key)

module _ (m : FinMap nat_cmp ℕ) (key q : ℕ) where
  -- nothing stands under the key that was taken out
  pub get-remove_same : q ≡ key → get (remove m key) q ≡ None
  get-remove_same same = grind (arith, nat_tests, get-remove nat_cmp_total m key q, ties q key)

  -- and another one keeps what it has
  pub get-remove_other : q ≢ key → get (remove m key) q ≡ get m q
  get-remove_other differs = grind (arith, nat_tests, get-remove nat_cmp_total m key q, ties q key)

module _ (w : Permits) (permit : Entry) where
  -- no permit is out under a key under which nothing stands
  pub other_key : get w.streams permit.key ≡ None → (other : Entry) → Holds w other → other.key ≢ permit.key
  other_key fresh other held same = absurd (cc (ap (get w.streams) same))

  -- each that was out still is
  pub StayOut-opened : get w.streams permit.key ≡ None → StayOut w (opened w permit) permit
  StayOut-opened fresh other held =
      let differs = other_key fresh other held in (
        differs,
        get-insert_other w.streams permit.key permit.stream other.key differs ∙ held,
      )

  -- another permit that is out stays out
  pub Holds-closed : (other : Entry) → Holds w other → other.key ≢ permit.key → Holds (closed w permit) other
  Holds-closed other held differs = get-remove_other w.streams permit.key other.key differs ∙ held

  -- to open a permit and close it leaves the window as it was
  pub closed-opened : get w.streams permit.key ≡ None → closed (opened w permit) permit ≡ w
  closed-opened fresh =
      let same : remove (insert w.streams permit.key permit.stream) permit.key ≡ w.streams =
      same_map nat_cmp_total nat_cmp-IsAntisymmetric _ _ (λ q. elim (cases_eq q permit.key) [
        | inl is ↦ get-remove_same (insert w.streams permit.key permit.stream) permit.key q is ∙ sym (ap (get w.streams) is ∙ fresh)
        | inr differs ↦ get-remove_other (insert w.streams permit.key permit.stream) permit.key q differs ∙ get-insert_other w.streams permit.key permit.stream q differs
      ]) in
      ap (λ streams. record w { streams = streams }) same

-- nothing is out of a new window
pub out-unopened : (limit : ℕ) → out (unopened limit) ≡ 0
out-unopened limit = len-empty nat_cmp ℕ
