-- Which settings a command of a given name may have.
use Rattle.std.proofs.Common.{◌≡◌, ◌≢◌, ◌∙◌, Bool, true, false, List, Result, Ok, Err, IfErr, Some, ap, codes, string_bytes, subst, sym}
use Rattle.std.specs.Str.{bytes_eq}
use Rattle.clap.specs.Words.{Row, Text}
use Rattle.amo_arguments.specs.Chosen.{HasCall, HasGot, HasOutcomes, HasReceive, HasRun, HasSend, HasServe, HasText, HasValues, Met, Suits, SuitsNone, name_of, shell_name}
use Rattle.amo_arguments.specs.Arguments.{FindsNone}
use Rattle.amo_arguments.specs.declared.refusal.Unfit.{Unfit}
use Rattle.amo_arguments.proofs.Refused.{refuses}
use Rattle.amo_settings.specs.declared.run.RunSettings.{RunSettings}
use Rattle.amo_settings.specs.declared.settings.Settings.{Settings}
use Rattle.amo_settings.specs.declared.settings.Settings.TheVariants.{Replay, Run, Send, Receive, Stop, Serve, Call, Audit, Explain, Outcomes, Got, Manual, Completions}
use Rattle.amo_settings.specs.declared.settings.Shell.{Shell}

-- the first where the texts are the same, and else the second
abbrev pub Named : Bool → Type 0 → Type 0 → Type 0
Named true a b = a
Named false a b = b

abbrev pub HasFile : List Row → Type 0
HasFile rows = (file : Text) × HasText rows (codes "FILE") file

-- what the matches of the command of this name have, where some settings suit it
abbrev pub ValuesOf : List Row → Text → Type 0
ValuesOf rows name =
    Named (bytes_eq name (codes "replay")) (HasFile rows)
    (Named (bytes_eq name (codes "run")) ((run : RunSettings × Text) × HasRun rows run)
    (Named (bytes_eq name (codes "send")) ((send : _) × HasSend rows send)
    (Named (bytes_eq name (codes "receive")) ((receive : _) × HasReceive rows receive)
    (Named (bytes_eq name (codes "stop")) (HasFile rows)
    (Named (bytes_eq name (codes "serve")) ((serve : _) × HasServe rows serve)
    (Named (bytes_eq name (codes "call")) ((settings : _) × HasCall rows settings)
    (Named (bytes_eq name (codes "audit")) (HasFile rows)
    (Named (bytes_eq name (codes "explain")) (HasFile rows)
    (Named (bytes_eq name (codes "outcomes")) ((settings : _) × HasOutcomes rows settings)
    (Named (bytes_eq name (codes "got")) ((settings : _) × HasGot rows settings)
    (Named (bytes_eq name (codes "completions")) ((shell : Shell) × HasText rows (codes "SHELL") (shell_name shell))
    (Unit {0}))))))))))))

values_of : (rows : List Row) (settings : Settings) → HasValues rows settings → ValuesOf rows (name_of settings)
values_of rows (Replay file) h = (string_bytes file, h)
values_of rows (Run settings file) h = ((settings, string_bytes file), h)
values_of rows (Send send) h = (send, h)
values_of rows (Receive receive) h = (receive, h)
values_of rows (Stop file) h = (string_bytes file, h)
values_of rows (Serve serve) h = (serve, h)
values_of rows (Call settings) h = (settings, h)
values_of rows (Audit file second) h = (string_bytes file, h.0)
values_of rows (Explain file second) h = (string_bytes file, h.0)
values_of rows (Outcomes settings) h = (settings, h)
values_of rows (Got settings) h = (settings, h)
values_of rows Manual h = tt
values_of rows (Completions shell) h = (shell, h)

-- no settings suit the command of a name for which nothing has the values
pub suits_none : (rows : List Row) (name target : Text) → name ≡ target → (ValuesOf rows target → ⊥) → SuitsNone (Some (name, rows))
suits_none rows name target is none settings suits =
    let pair : (name, rows) ≡ (name_of settings, suits.0) = cc in
    let named : name ≡ name_of settings = ap (λ (p : Text × List Row). p.0) pair in
    let same : rows ≡ suits.0 = ap (λ (p : Text × List Row). p.1) pair in
    let values = subst (λ r. HasValues r settings) (sym same) suits.2 in
    none (subst (ValuesOf rows) (sym named ∙ is) (values_of rows settings values))

-- nor that of another name
pub no_such : (rows : List Row) (name : Text) → ((settings : Settings) → name ≢ name_of settings) → SuitsNone (Some (name, rows))
no_such rows name other settings suits =
    let pair : (name, rows) ≡ (name_of settings, suits.0) = cc in
    other settings (ap (λ (p : Text × List Row). p.0) pair)

-- no settings suit a run that is met, where nothing has its values
pub met_run : {A : Type 0} (met : Met) (rows : List Row) (name : Text) (r : Result A Unfit) → Some (name, rows) ≡ met → name ≡ codes "run" → IfErr r (FindsNone (HasRun rows)) → IfErr r (FindsNone (Suits met))
met_run met rows name (Ok x) is named h = tt
met_run met rows name (Err u) is named h = refuses u (λ none. subst SuitsNone is (suits_none rows name (codes "run") named (λ v. none v.0 v.1))) h
