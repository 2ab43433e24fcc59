-- What the program's arguments choose.
use Rattle.std.specs.Prelude.{◌≡◌, ◌≢◌, ◌⊎◌, ℕ, ◌≤◌, Bool, false, not, ◌&&◌, ◌||◌, if◌then◌else◌, List, [], ◌∷◌, ◌++◌, Option, Some, None, IfSome, codes, length, option_map, string_bytes}
use Rattle.hex.specs.Hex.{IsBytes}
use Rattle.std.specs.Fmt.{decimal}
use Rattle.clap.specs.Words.{Row, Text, first_of, one_of, subcommand_of, subcommand_rows_of}
use Rattle.clap.specs.declared.parser.matches.ArgMatches.{ArgMatches}
use Rattle.amo_text.specs.Hexadecimal.{hex}
use Rattle.amo_settings.specs.Limits.{AreWithin, IsHostWithin}
use Rattle.amo_settings.specs.declared.run.LinkKind.{LinkKind}
use Rattle.amo_settings.specs.declared.run.LinkKind.TheVariants.{Memory, Udp}
use Rattle.amo_settings.specs.declared.run.RunSettings.{RunSettings}
use Rattle.amo_arguments.specs.Commands.{Names, AreLinks, AreShells, amo}
use Rattle.amo_settings.specs.declared.settings.CallSettings.{CallSettings}
use Rattle.amo_settings.specs.declared.settings.DoorCall.{DoorCall}
use Rattle.amo_settings.specs.declared.settings.DoorCall.TheVariants as call
use Rattle.amo_settings.specs.declared.settings.GotSettings.{GotSettings}
use Rattle.amo_settings.specs.declared.settings.HostSettings.{HostSettings}
use Rattle.amo_settings.specs.declared.settings.OutcomesSettings.{OutcomesSettings}
use Rattle.amo_settings.specs.declared.settings.ReceiveSettings.{ReceiveSettings}
use Rattle.amo_settings.specs.declared.settings.SendSettings.{SendSettings}
use Rattle.amo_settings.specs.declared.settings.ServeSettings.{ServeSettings}
use Rattle.amo_settings.specs.declared.settings.ServedSide.{ServedSide}
use Rattle.amo_settings.specs.declared.settings.ServedSide.TheVariants as side
use Rattle.amo_settings.specs.declared.settings.Settings.{Settings}
use Rattle.amo_settings.specs.declared.settings.Settings.TheVariants.{Replay, Run, Send, Receive, Stop, Serve, Call, Audit, Explain, Outcomes, Got, Manual, Completions}
use Rattle.amo_settings.specs.declared.settings.Shell.{Shell}
use Rattle.amo_settings.specs.declared.settings.Shell.TheVariants.{Bash, Zsh, Fish}

-- the command that is met, with the matches of its own
abbrev pub Met : Type 0
Met = Option (Text × List Row)

-- it holds of the command that the arguments have
abbrev pub OfArguments : List Text → (Met → Type 0) → Type 0
OfArguments arguments holds = (links : Names) × AreLinks links × ((shells : Names) × AreShells shells × holds (subcommand_of (amo links shells) arguments))

-- the matches are those of the arguments
abbrev pub Matches : List Text → ArgMatches → Type 0
Matches arguments matches = OfArguments arguments (λ met. subcommand_rows_of matches ≡ met)

-- the first value of an argument of this name
abbrev pub HasText : List Row → Text → Text → Type 0
HasText rows name text = first_of name rows ≡ Some text

-- the same of an argument that may be absent
abbrev pub HasTextOrNone : List Row → Text → Option Text → Type 0
HasTextOrNone rows name text = first_of name rows ≡ text

-- the first value of an argument of this name, which is a number's decimal: it has no sign and no leading zero
abbrev pub HasNumber : List Row → Text → ℕ → Type 0
HasNumber rows name number = HasText rows name (decimal number)

-- the same of an option that may be absent
abbrev pub HasNumberOrNone : List Row → Text → Option ℕ → Type 0
HasNumberOrNone rows name None = first_of name rows ≡ None
HasNumberOrNone rows name (Some number) = HasNumber rows name number

-- the same of numbers from `low` to `high`
abbrev pub HasNumberIn : List Row → Text → ℕ → ℕ → ℕ → Type 0
HasNumberIn rows name low high number = HasNumber rows name number × (low ≤ number) × (number ≤ high)

abbrev pub HasNumberOrNoneIn : List Row → Text → ℕ → ℕ → Option ℕ → Type 0
HasNumberOrNoneIn rows name low high number = HasNumberOrNone rows name number × IfSome number (λ n. (low ≤ n) × (n ≤ high))

-- a host, a colon, and a port from `least` on
abbrev pub IsAddress : ℕ → Text → Type 0
IsAddress least text = (host : Text) × (port : ℕ) × (text ≡ host ++ 58 ∷ decimal port) × (host ≢ []) × (least ≤ port) × (port ≤ 65535)

-- the first value of an argument of this name, which is an address
abbrev pub HasAddress : List Row → Text → ℕ → Text → Type 0
HasAddress rows name least text = HasText rows name text × IsAddress least text

-- the journal's file, which has a name
abbrev pub HasJournal : List Row → Text → Type 0
HasJournal rows file = HasText rows (codes "journal") file × (file ≢ [])

-- whether the flag of this name is there
abbrev pub HasFlag : List Row → Text → Bool → Type 0
HasFlag rows name flag = one_of name rows ≡ Some (if flag then codes "true" else codes "false")

abbrev pub link_name : LinkKind → Text
link_name Memory = codes "memory"
link_name Udp = codes "udp"

abbrev pub shell_name : Shell → Text
shell_name Bash = codes "bash"
shell_name Zsh = codes "zsh"
shell_name Fish = codes "fish"

-- the matches of `run` have these values, each within its limits, whatever their seed
pub record HasSettings (rows : List Row) (settings : RunSettings) : Type 0 where
  pub streams : HasNumber rows (codes "streams") settings.streams
  pub clients : HasNumber rows (codes "clients") settings.clients
  pub crashes : HasNumber rows (codes "crashes") settings.crashes
  pub link : HasText rows (codes "link") (link_name settings.link)
  pub pumps : HasNumber rows (codes "pumps") settings.pumps
  pub split : HasFlag rows (codes "split") settings.split
  pub batch : HasFlag rows (codes "batch") settings.batch
  pub within : AreWithin settings

-- and a journal
abbrev pub HasRun : List Row → RunSettings × Text → Type 0
HasRun rows run = HasSettings rows run.0 × HasJournal rows run.1

-- the matches of `run` have no seed: its text spells no 32 bytes
abbrev pub HasNoSeed : List Row → Type 0
HasNoSeed rows = (seed : List ℕ) → IsBytes seed → length seed ≡ 32 → HasText rows (codes "seed") (hex seed) → ⊥

-- the longest interval, from the first one, of `tick` microseconds, to an hour
abbrev pub HasCeiling : List Row → ℕ → Option ℕ → Type 0
HasCeiling rows tick most = HasNumberOrNone rows (codes "tick-most") most × IfSome most (λ most. (1 ≤ most) × (most ≤ 3600000000) × (tick ≤ most))

-- the matches of `send` or of `receive` have these values, each within its limits. The system may choose the host's own port, and not its
-- peer's; and a host is not its own peer
pub record HasHost (rows : List Row) (host : HostSettings) : Type 0 where
  pub listen : HasAddress rows (codes "listen") 0 (string_bytes host.listen)
  pub peer : HasAddress rows (codes "peer") 1 (string_bytes host.peer)
  pub apart : string_bytes host.listen ≢ string_bytes host.peer
  pub streams : HasNumber rows (codes "streams") host.streams
  pub journal : HasJournal rows (string_bytes host.journal)
  pub tick : HasNumber rows (codes "tick") host.tick
  pub tick_most : HasNumberOrNone rows (codes "tick-most") host.tick_most
  pub json : HasFlag rows (codes "json") host.json
  pub sync : HasFlag rows (codes "sync") host.sync
  pub wait : HasNumberOrNone rows (codes "wait") host.wait
  pub piece : HasNumberOrNone rows (codes "piece") host.piece
  pub stats : HasNumberOrNone rows (codes "stats") host.stats
  pub within : IsHostWithin host

-- The matches of `send` have these values, of which no two contradict each other: a stream's next message waits for the last one's answer, unless several
-- may wait, as they may where they travel together.
pub record HasSend (rows : List Row) (send : SendSettings) : Type 0 where
  pub host : HasHost rows send.host
  pub each : Bool
  pub each_is : HasFlag rows (codes "each") each
  pub many : Bool
  pub many_is : HasFlag rows (codes "many") many
  pub batch : HasFlag rows (codes "batch") send.batch
  pub hex : HasFlag rows (codes "hex") send.hex
  pub waits : send.each ≡ not many && not send.batch
  pub apart : each && (many || send.batch) ≡ false

-- the matches of `receive` have these values
pub record HasReceive (rows : List Row) (receive : ReceiveSettings) : Type 0 where
  pub host : HasHost rows receive.host
  pub count : HasNumberOrNoneIn rows (codes "count") 1 18446744073709551615 receive.count

-- the matches of `serve` have these values, each within its limits. Nothing is shown, in whatever spelling, nor are its figures
pub record HasServedHost (rows : List Row) (host : HostSettings) : Type 0 where
  pub listen : HasAddress rows (codes "listen") 0 (string_bytes host.listen)
  pub peer : HasAddress rows (codes "peer") 1 (string_bytes host.peer)
  pub apart : string_bytes host.listen ≢ string_bytes host.peer
  pub streams : HasNumber rows (codes "streams") host.streams
  pub journal : HasJournal rows (string_bytes host.journal)
  pub tick : HasNumber rows (codes "tick") host.tick
  pub tick_most : HasNumberOrNone rows (codes "tick-most") host.tick_most
  pub sync : HasFlag rows (codes "sync") host.sync
  pub wait : HasNumberOrNone rows (codes "wait") host.wait
  pub piece : HasNumberOrNone rows (codes "piece") host.piece
  pub plain : host.json ≡ false
  pub quiet : host.stats ≡ None
  pub within : IsHostWithin host

-- the matches of `serve` say that the host sends, or that it receives, which goes without `--batch`
abbrev pub SendsOrReceives : List Row → Bool → Bool → Type 0
SendsOrReceives rows batch sends = HasText rows (codes "side") (if sends then codes "send" else codes "receive") × (sends ≡ false → batch ≡ false)

-- the matches of `serve` have this side: a sender takes messages one by one, and may start batches; a receiver takes all that come, batches too
abbrev pub HasSide : List Row → ServedSide → Type 0
HasSide rows (side.Send send) = HasText rows (codes "side") (codes "send") × HasServedHost rows send.host × HasFlag rows (codes "batch") send.batch × (send.each ≡ false) × (send.hex ≡ false)
HasSide rows (side.Receive receive) = HasText rows (codes "side") (codes "receive") × HasServedHost rows receive.host × HasFlag rows (codes "batch") false × (receive.count ≡ None)

-- the matches of `serve` have these values
pub record HasServe (rows : List Row) (serve : ServeSettings) : Type 0 where
  pub side_is : HasSide rows serve.side
  pub door : HasAddress rows (codes "door") 0 (string_bytes serve.door)
  pub token : HasTextOrNone rows (codes "token-file") (option_map string_bytes serve.token_file)

-- the matches of `call` have a stream, 1 to 256
abbrev pub HasStream : List Row → ℕ → Type 0
HasStream rows stream = HasNumber rows (codes "stream") stream × (1 ≤ stream) × (stream ≤ 256)

-- and the file of the call, which has a name
abbrev pub HasState : List Row → Text → Type 0
HasState rows file = HasText rows (codes "state") file × (file ≢ [])

-- what a call is asked by
abbrev pub call_name : DoorCall → Text
call_name (call.Put stream file message) = codes "put"
call_name (call.Get stream file) = codes "get"
call_name (call.Done stream file) = codes "done"
call_name (call.Status stream) = codes "status"
call_name (call.Watch after) = codes "watch"

-- the matches of `call` have a stream and the file that keeps the call
abbrev pub IsKept : List Row → ℕ × Text → Type 0
IsKept rows kept = HasStream rows kept.0 × HasState rows kept.1

-- and what else the call takes
abbrev pub HasValuesOf : List Row → DoorCall → Type 0
HasValuesOf rows (call.Put stream file message) = IsKept rows (stream, string_bytes file) × HasTextOrNone rows (codes "MESSAGE") (option_map string_bytes message)
HasValuesOf rows (call.Get stream file) = IsKept rows (stream, string_bytes file)
HasValuesOf rows (call.Done stream file) = IsKept rows (stream, string_bytes file)
HasValuesOf rows (call.Status stream) = HasStream rows stream
HasValuesOf rows (call.Watch after) = HasNumberOrNoneIn rows (codes "after") 0 18446744073709551615 after

-- the matches of `call` have nothing that a call of this name has no use for
pub record HasNoMore (rows : List Row) (name : Text) : Type 0 where
  pub message : name ≢ codes "put" → HasTextOrNone rows (codes "MESSAGE") None
  pub after : name ≢ codes "watch" → HasTextOrNone rows (codes "after") None
  pub stream : name ≡ codes "watch" → HasTextOrNone rows (codes "stream") None
  pub state : (name ≡ codes "watch") ⊎ (name ≡ codes "status") → HasTextOrNone rows (codes "state") None

-- the matches of `call` have this call
abbrev pub HasDoorCall : List Row → DoorCall → Type 0
HasDoorCall rows call = HasText rows (codes "CALL") (call_name call) × HasValuesOf rows call × HasNoMore rows (call_name call)

-- the matches of `call` have these values
pub record HasCall (rows : List Row) (settings : CallSettings) : Type 0 where
  pub call_is : HasDoorCall rows settings.call
  pub door : HasAddress rows (codes "door") 1 (string_bytes settings.door)
  pub token : HasTextOrNone rows (codes "token-file") (option_map string_bytes settings.token_file)
  pub wait : HasNumberOrNoneIn rows (codes "wait") 0 1000000 settings.wait
  pub hex : HasFlag rows (codes "hex") settings.hex

-- the matches of `outcomes` have these values
pub record HasOutcomes (rows : List Row) (settings : OutcomesSettings) : Type 0 where
  pub first : HasText rows (codes "FILE") (string_bytes settings.first)
  pub second : HasTextOrNone rows (codes "SECOND") (option_map string_bytes settings.second)
  pub open_is : HasFlag rows (codes "open") settings.open
  pub gone : HasFlag rows (codes "gone") settings.gone
  pub json : HasFlag rows (codes "json") settings.json

-- the matches of `got` have these values
pub record HasGot (rows : List Row) (settings : GotSettings) : Type 0 where
  pub file : HasText rows (codes "FILE") (string_bytes settings.file)
  pub after : HasNumberOrNoneIn rows (codes "after") 0 18446744073709551615 settings.after
  pub follow : HasFlag rows (codes "follow") settings.follow
  pub json : HasFlag rows (codes "json") settings.json

-- the command that is told these settings
abbrev pub name_of : Settings → Text
name_of (Replay file) = codes "replay"
name_of (Run settings file) = codes "run"
name_of (Send send) = codes "send"
name_of (Receive receive) = codes "receive"
name_of (Stop file) = codes "stop"
name_of (Serve serve) = codes "serve"
name_of (Call settings) = codes "call"
name_of (Audit file second) = codes "audit"
name_of (Explain file second) = codes "explain"
name_of (Outcomes settings) = codes "outcomes"
name_of (Got settings) = codes "got"
name_of Manual = codes "man"
name_of (Completions shell) = codes "completions"

-- the matches of that command have these values, but for the seed of a run
abbrev pub HasValues : List Row → Settings → Type 0
HasValues rows (Replay file) = HasText rows (codes "FILE") (string_bytes file)
HasValues rows (Run settings file) = HasRun rows (settings, string_bytes file)
HasValues rows (Send send) = HasSend rows send
HasValues rows (Receive receive) = HasReceive rows receive
HasValues rows (Stop file) = HasText rows (codes "FILE") (string_bytes file)
HasValues rows (Serve serve) = HasServe rows serve
HasValues rows (Call settings) = HasCall rows settings
HasValues rows (Audit file second) = HasText rows (codes "FILE") (string_bytes file) × HasTextOrNone rows (codes "SECOND") (option_map string_bytes second)
HasValues rows (Explain file second) = HasText rows (codes "FILE") (string_bytes file) × HasTextOrNone rows (codes "SECOND") (option_map string_bytes second)
HasValues rows (Outcomes settings) = HasOutcomes rows settings
HasValues rows (Got settings) = HasGot rows settings
HasValues rows Manual = Unit {0}
HasValues rows (Completions shell) = HasText rows (codes "SHELL") (shell_name shell)

-- and that seed
abbrev pub HasSeed : List Row → Settings → Type 0
HasSeed rows (Run settings file) = HasText rows (codes "seed") (hex settings.seed)
HasSeed rows _ = Unit {0}

-- a command is met whose values are these, each by its rules, whatever the seed
abbrev pub Suits : Met → Settings → Type 0
Suits met settings = (rows : List Row) × (met ≡ Some (name_of settings, rows)) × HasValues rows settings

-- a command is met that chooses these settings
abbrev pub ChoosesBy : Met → Settings → Type 0
ChoosesBy met settings = (rows : List Row) × (met ≡ Some (name_of settings, rows)) × HasValues rows settings × HasSeed rows settings

abbrev pub Chooses : List Text → Settings → Type 0
Chooses arguments settings = OfArguments arguments (λ met. ChoosesBy met settings)

-- no settings suit the command that is met: one of its values breaks a rule
abbrev pub SuitsNone : Met → Type 0
SuitsNone met = (settings : Settings) → ¬ (Suits met settings)

-- a run is met of which all is right but the seed
abbrev pub MeetsSeedless : Met → Type 0
MeetsSeedless met = (rows : List Row) × (met ≡ Some (codes "run", rows)) × HasNoSeed rows × ((run : RunSettings × Text) × HasRun rows run)

abbrev pub LacksSeed : List Text → Type 0
LacksSeed arguments = OfArguments arguments MeetsSeedless
