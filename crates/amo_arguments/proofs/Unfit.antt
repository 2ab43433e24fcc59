-- What follows for a command where one of its values is not found.
use Rattle.std.proofs.Common.{◌≡◌, ◌∙◌, ◌<◌, ◌≤◌, ℕ, Bool, true, false, ◌&&◌, ◌||◌, List, Option, Some, None, ◌≢◌, arith, codes, refl, string_bytes, subst, sym, if◌then◌else◌, IfSome}
use Rattle.std.specs.Fmt.{decimal}
use Rattle.std.proofs.lemmas.Fmt.{decimal_injective}
use Rattle.clap.specs.Words.{Row, Text}
use Rattle.amo_arguments.specs.Arguments.{BlamesIf, FindsNone, RefusesIf}
use Rattle.amo_arguments.specs.Chosen.{HasAddress, HasCeiling, HasFlag, HasHost, HasNoMore, HasNumberIn, HasNumberOrNoneIn, HasDoorCall, HasSend, HasServe, HasServedHost, HasSide, HasStream, HasText, HasValuesOf, IsKept, SendsOrReceives, call_name, link_name, shell_name}
use Rattle.amo_arguments.specs.declared.refusal.Unfit.{Unfit}
use Rattle.amo_arguments.proofs.Matched.{same_text}
use Rattle.amo_arguments.proofs.Refused.{blames, refuses}
use Rattle.amo_settings.specs.declared.run.LinkKind.{LinkKind}
use Rattle.amo_settings.specs.declared.run.LinkKind.TheVariants.{Memory, Udp}
use Rattle.amo_settings.specs.declared.settings.Shell.{Shell}
use Rattle.amo_settings.specs.declared.settings.Shell.TheVariants.{Bash, Zsh, Fish}
use Rattle.amo_settings.specs.declared.settings.HostSettings.{HostSettings}
use Rattle.amo_settings.specs.declared.settings.DoorCall.{DoorCall}
use Rattle.amo_settings.specs.declared.settings.DoorCall.TheVariants as call
use Rattle.amo_settings.specs.declared.settings.ServedSide.{ServedSide}
use Rattle.amo_settings.specs.declared.settings.ServedSide.TheVariants as side
use Rattle.std.specs.Str.{bytes_eq}
use Rattle.amo_arguments.proofs.Named.{Named}

pub served_apart : (rows : List Row) (listen peer : Text) (u : Unfit) → HasText rows (codes "listen") listen → HasText rows (codes "peer") peer → BlamesIf (listen ≡ peer) u → FindsNone (HasServedHost rows) u
served_apart rows listen peer u here there = blames u (λ same host h.
    h.apart (same_text _ _ _ h.listen.0 here ∙ (same ∙ same_text _ _ _ there h.peer.0)))

-- one number has one decimal
same_number : (rows : List Row) (name : Text) (m n : ℕ) → m ≤ 18446744073709551615 → n ≤ 18446744073709551615 → HasText rows name (decimal m) → HasText rows name (decimal n) → m ≡ n
same_number rows name m n small less a b = decimal_injective m n (omega arith) (omega arith) (same_text _ _ _ a b)

-- the longest interval is longer than the first one
ceiling_of : (tick : ℕ) (most : Option ℕ) → 1 ≤ tick → IfSome most (λ most. (tick ≤ most) × (most ≤ 3600000000)) → IfSome most (λ most. (1 ≤ most) × (most ≤ 3600000000) × (tick ≤ most))
ceiling_of tick None large h = tt
ceiling_of tick (Some most) large h = (omega arith, h.1, h.0)

pub served_ceiling : (rows : List Row) (tick : ℕ) (u : Unfit) → HasNumberIn rows (codes "tick") 1 60000000 tick → FindsNone (HasCeiling rows tick) u → FindsNone (HasServedHost rows) u
served_ceiling rows tick u is = refuses u (λ none host h.
    let same : host.tick ≡ tick = same_number rows (codes "tick") host.tick tick (omega (arith, h.within.tick.1)) (omega (arith, is.2)) h.tick is.0 in
    none host.tick_most (h.tick_most, ceiling_of tick host.tick_most is.1 (subst (λ t. IfSome host.tick_most (λ most. (t ≤ most) × (most ≤ 3600000000))) same h.within.tick_most)))

-- a ceiling that is told is below the tick
low_ceiling : (rows : List Row) (tick : ℕ) (told other : Option ℕ) → HasNumberOrNoneIn rows (codes "tick-most") 1 3600000000 told → HasCeiling rows tick other → (ceiling : ℕ) × (told ≡ Some ceiling) × (ceiling < tick) → ⊥
low_ceiling rows tick None other is has low = let bad : None ≡ Some low.0 = low.1 in absurd (cc)
low_ceiling rows tick (Some m) None is has low = let bad : None ≡ Some (decimal m) = sym has.0 ∙ is.0 in absurd (cc)
low_ceiling rows tick (Some m) (Some n) is has low =
    let same : m ≡ n = same_number rows (codes "tick-most") m n (omega (arith, is.1.1)) (omega (arith, has.1.1)) is.0 has.0 in
    let told : m ≡ low.0 = cc in
    let fits : tick ≤ n = has.1.2 in
    let below : low.0 < tick = low.2 in
    omega arith

pub no_ceiling : (rows : List Row) (tick : ℕ) (told : Option ℕ) (u : Unfit) → HasNumberOrNoneIn rows (codes "tick-most") 1 3600000000 told → BlamesIf ((ceiling : ℕ) × (told ≡ Some ceiling) × (ceiling < tick)) u → FindsNone (HasCeiling rows tick) u
no_ceiling rows tick told u is = blames u (λ low other has. low_ceiling rows tick told other is has low)

-- nor is there one where there is no number
some_ceiling : (tick : ℕ) (most : Option ℕ) → IfSome most (λ most. (1 ≤ most) × (most ≤ 3600000000) × (tick ≤ most)) → IfSome most (λ most. (1 ≤ most) × (most ≤ 3600000000))
some_ceiling tick None h = tt
some_ceiling tick (Some most) h = (h.0, h.1)

pub ceiling_absent : (rows : List Row) (tick : ℕ) (u : Unfit) → FindsNone (HasNumberOrNoneIn rows (codes "tick-most") 1 3600000000) u → FindsNone (HasCeiling rows tick) u
ceiling_absent rows tick u = refuses u (λ none most h. none most (h.0, some_ceiling tick most h.1))

-- a host that shows nothing
abbrev plain : HostSettings → HostSettings
plain host = record host { json = false; stats = None }

plain_has : (rows : List Row) (host : HostSettings) → HasHost rows host → HasServedHost rows (plain host)
plain_has rows host h = record {
  listen = h.listen;
  peer = h.peer;
  apart = h.apart;
  streams = h.streams;
  journal = h.journal;
  tick = h.tick;
  tick_most = h.tick_most;
  sync = h.sync;
  wait = h.wait;
  piece = h.piece;
  plain = refl;
  quiet = refl;
  within = record {
    streams = h.within.streams;
    tick = h.within.tick;
    tick_most = h.within.tick_most;
    wait = h.within.wait;
    piece = h.within.piece;
    stats = tt;
  };
}

pub host_served : (rows : List Row) (u : Unfit) → FindsNone (HasServedHost rows) u → FindsNone (HasHost rows) u
host_served rows u = refuses u (λ none host h. none (plain host) (plain_has rows host h))

same_flag : (rows : List Row) (name : Text) (a b : Bool) → HasFlag rows name a → HasFlag rows name b → a ≡ b
same_flag rows name true true p q = refl
same_flag rows name false false p q = refl
same_flag rows name true false p q = let bad : Some (codes "true") ≡ Some (codes "false") = sym p ∙ q in absurd (cc)
same_flag rows name false true p q = let bad : Some (codes "false") ≡ Some (codes "true") = sym p ∙ q in absurd (cc)

true_not_false : true ≡ false → ⊥
true_not_false e = absurd (cc)

apart_not : (a b : Bool) → a ≡ b → a ≡ false → b ≡ true → ⊥
apart_not a b e f g = cc

pub send_apart : (rows : List Row) (each many batch : Bool) (u : Unfit) → HasFlag rows (codes "each") each → HasFlag rows (codes "many") many → HasFlag rows (codes "batch") batch
    → RefusesIf ((each && (many || batch)) ≡ true) u → FindsNone (HasSend rows) u
send_apart rows each many batch u one two three = refuses u (λ together send h.
    let first : h.each ≡ each = same_flag rows (codes "each") h.each each h.each_is one in
    let second : h.many ≡ many = same_flag rows (codes "many") h.many many h.many_is two in
    let third : send.batch ≡ batch = same_flag rows (codes "batch") send.batch batch h.batch three in
    let same : (h.each && (h.many || send.batch)) ≡ (each && (many || batch)) = cc in
    apart_not (h.each && (h.many || send.batch)) (each && (many || batch)) same h.apart together)

-- what is asked of a door
abbrev pub CallOf : List Row → Text → Type 0
CallOf rows name =
    Named (bytes_eq name (codes "put")) ((kept : ℕ × Text) × IsKept rows kept)
    (Named (bytes_eq name (codes "get")) ((kept : ℕ × Text) × IsKept rows kept)
    (Named (bytes_eq name (codes "done")) ((kept : ℕ × Text) × IsKept rows kept)
    (Named (bytes_eq name (codes "status")) ((stream : ℕ) × HasStream rows stream)
    (Named (bytes_eq name (codes "watch")) ((after : Option ℕ) × HasNumberOrNoneIn rows (codes "after") 0 18446744073709551615 after) (Unit {0})))))

call_of : (rows : List Row) (call : DoorCall) → HasValuesOf rows call → CallOf rows (call_name call)
call_of rows (call.Put stream file message) h = ((stream, string_bytes file), h.0)
call_of rows (call.Get stream file) h = ((stream, string_bytes file), h)
call_of rows (call.Done stream file) h = ((stream, string_bytes file), h)
call_of rows (call.Status stream) h = (stream, h)
call_of rows (call.Watch after) h = (after, h)

pub no_call : (rows : List Row) (name target : Text) → name ≡ target → (CallOf rows target → ⊥) → (call : DoorCall) → ¬ ((name ≡ call_name call) × HasValuesOf rows call)
no_call rows name target is none call h = none (subst (CallOf rows) (sym h.0 ∙ is) (call_of rows call h.1))

-- what the call of a name has not, no call has
pub no_values : (rows : List Row) (name : Text) (u : Unfit) → HasText rows (codes "CALL") name → FindsNone (λ (call : DoorCall). (name ≡ call_name call) × HasValuesOf rows call) u → FindsNone (HasDoorCall rows) u
no_values rows name u has = refuses u (λ none call h. none call (same_text _ _ _ has h.0, h.1))

pub more_than_used : (rows : List Row) (name : Text) (u : Unfit) → HasText rows (codes "CALL") name → RefusesIf (¬ (HasNoMore rows name)) u → FindsNone (HasDoorCall rows) u
more_than_used rows name u has = refuses u (λ not call h. not (subst (HasNoMore rows) (same_text _ _ _ h.0 has) h.2))

-- the side of a host with a door
flag_of_side : (rows : List Row) (s : ServedSide) → HasSide rows s → (flag : Bool) × HasFlag rows (codes "batch") flag
flag_of_side rows (side.Send send) h = (send.batch, h.2)
flag_of_side rows (side.Receive receive) h = (false, h.2)

pub side_batch : (rows : List Row) (u : Unfit) → FindsNone (HasFlag rows (codes "batch")) u → FindsNone (HasSide rows) u
side_batch rows u = refuses u (λ none s h. let flag = flag_of_side rows s h in none flag.0 flag.1)

host_of_side : (rows : List Row) (s : ServedSide) → HasSide rows s → (host : HostSettings) × HasServedHost rows host
host_of_side rows (side.Send send) h = (send.host, h.1)
host_of_side rows (side.Receive receive) h = (receive.host, h.1)

pub side_host : (rows : List Row) (u : Unfit) → FindsNone (HasServedHost rows) u → FindsNone (HasSide rows) u
side_host rows u = refuses u (λ none s h. let host = host_of_side rows s h in none host.0 host.1)

name_of_side : (rows : List Row) (batch : Bool) (s : ServedSide) → HasFlag rows (codes "batch") batch → HasSide rows s → (sends : Bool) × SendsOrReceives rows batch sends
name_of_side rows batch (side.Send send) is h = (true, (h.0, λ never. absurd (true_not_false never)))
name_of_side rows batch (side.Receive receive) is h = (false, (h.0, λ _. same_flag rows (codes "batch") batch false is h.2))

pub side_name : (rows : List Row) (batch : Bool) (u : Unfit) → HasFlag rows (codes "batch") batch → FindsNone (SendsOrReceives rows batch) u → FindsNone (HasSide rows) u
side_name rows batch u is = refuses u (λ none s h. let side = name_of_side rows batch s is h in none side.0 side.1)

no_receiver : (rows : List Row) (batch sends : Bool) → HasText rows (codes "side") (codes "receive") → batch ≡ true → SendsOrReceives rows batch sends → ⊥
no_receiver rows batch true text is h = let bad : codes "receive" ≡ codes "send" = same_text _ _ _ text h.0 in absurd (cc)
no_receiver rows batch false text is h = let bad : false ≡ true = sym (h.1 refl) ∙ is in absurd (cc)

-- a host that receives takes no flag for batches
pub side_apart : (rows : List Row) (batch : Bool) (u : Unfit) → HasText rows (codes "side") (codes "receive") → batch ≡ true → BlamesIf (Unit {0}) u → FindsNone (SendsOrReceives rows batch) u
side_apart rows batch u text is = blames u (λ _ sends h. no_receiver rows batch sends text is h)

no_side : (text : Text) (sends : Bool) → text ≢ codes "send" → text ≢ codes "receive" → text ≡ (if sends then codes "send" else codes "receive") → ⊥
no_side text true a b is = a is
no_side text false a b is = b is

-- nor is there another side
pub side_unknown : (rows : List Row) (batch : Bool) (text : Text) (u : Unfit) → HasText rows (codes "side") text → text ≢ codes "send" → text ≢ codes "receive" → BlamesIf (Unit {0}) u
    → FindsNone (SendsOrReceives rows batch) u
side_unknown rows batch text u has a b = blames u (λ _ sends h. no_side text sends a b (same_text _ _ _ has h.0))

pub serve_door : (rows : List Row) (u : Unfit) → FindsNone (HasAddress rows (codes "door") 0) u → FindsNone (HasServe rows) u
serve_door rows u = refuses u (λ none serve h. none (string_bytes serve.door) h.door)

-- there is no other link, and no other shell
pub no_link : (text : Text) (link : LinkKind) → text ≢ codes "memory" → text ≢ codes "udp" → text ≡ link_name link → ⊥
no_link text Memory a b is = a is
no_link text Udp a b is = b is

pub no_shell : (text : Text) (shell : Shell) → text ≢ codes "bash" → text ≢ codes "zsh" → text ≢ codes "fish" → text ≡ shell_name shell → ⊥
no_shell text Bash a b c is = a is
no_shell text Zsh a b c is = b is
no_shell text Fish a b c is = c is
