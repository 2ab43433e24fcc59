use Rattle.std.proofs.Common.{◌∷◌, ◌++◌}
use Rattle.amo_text.proofs.Cuts.{no_cut}
use Rattle.amo_telling.proofs.LineByLine.{behind_field}
use Rattle.amo_telling.proofs.puts.behind_place.Goals as goal

pub returns-in_err-_number-clause-none : goal.returns-in_err-_number-clause-none
returns-in_err-_number-clause-none c = rw c.from_residual.ensures (λ other stands. no_cut 32 c.args.line.now stands.0 (stands.1 ++ 32 ∷ (stands.2 ++ 32 ∷ (stands.3 ++ 32 ∷ other))) c.in_err-_number.ensures.none stands.8)

pub returns-in_err-_pass-clause-none : goal.returns-in_err-_pass-clause-none
returns-in_err-_pass-clause-none c = rw c.from_residual-in_err-_pass.ensures (λ other stands.
    let first = c.in_ok-_number.ensures.found in
    let pass = behind_field _ _ _ stands.0 (stands.1 ++ 32 ∷ (stands.2 ++ 32 ∷ (stands.3 ++ 32 ∷ other))) first.0 first.1 stands.4 stands.8 in
    no_cut 32 c.in_ok-_number.rest.now stands.1 (stands.2 ++ 32 ∷ (stands.3 ++ 32 ∷ other)) c.in_err-_pass.ensures.none pass)

pub returns-in_err-_side-clause-none : goal.returns-in_err-_side-clause-none
returns-in_err-_side-clause-none c = rw c.from_residual-in_err-_side.ensures (λ other stands.
    let first = c.in_ok-_number.ensures.found in
    let second = c.in_ok-_pass.ensures.found in
    let pass = behind_field _ _ _ stands.0 (stands.1 ++ 32 ∷ (stands.2 ++ 32 ∷ (stands.3 ++ 32 ∷ other))) first.0 first.1 stands.4 stands.8 in
    let side = behind_field _ _ _ stands.1 (stands.2 ++ 32 ∷ (stands.3 ++ 32 ∷ other)) second.0 second.1 stands.5 pass in
    no_cut 32 c.in_ok-_pass.rest.now stands.2 (stands.3 ++ 32 ∷ other) c.in_err-_side.ensures.none side)

pub returns-in_err-_stream-clause-none : goal.returns-in_err-_stream-clause-none
returns-in_err-_stream-clause-none c = rw c.from_residual-in_err-_stream.ensures (λ other stands.
    let first = c.in_ok-_number.ensures.found in
    let second = c.in_ok-_pass.ensures.found in
    let third = c.in_ok-_side.ensures.found in
    let pass = behind_field _ _ _ stands.0 (stands.1 ++ 32 ∷ (stands.2 ++ 32 ∷ (stands.3 ++ 32 ∷ other))) first.0 first.1 stands.4 stands.8 in
    let side = behind_field _ _ _ stands.1 (stands.2 ++ 32 ∷ (stands.3 ++ 32 ∷ other)) second.0 second.1 stands.5 pass in
    let stream = behind_field _ _ _ stands.2 (stands.3 ++ 32 ∷ other) third.0 third.1 stands.6 side in
    no_cut 32 c.in_ok-_side.rest.now stands.3 other c.in_err-_stream.ensures.none stream)

pub returns-clause-some : goal.returns-clause-some
returns-clause-some c = λ other stands.
    let first = c.in_ok-_number.ensures.found in
    let second = c.in_ok-_pass.ensures.found in
    let third = c.in_ok-_side.ensures.found in
    let fourth = c.in_ok-_stream.ensures.found in
    let pass = behind_field _ _ _ stands.0 (stands.1 ++ 32 ∷ (stands.2 ++ 32 ∷ (stands.3 ++ 32 ∷ other))) first.0 first.1 stands.4 stands.8 in
    let side = behind_field _ _ _ stands.1 (stands.2 ++ 32 ∷ (stands.3 ++ 32 ∷ other)) second.0 second.1 stands.5 pass in
    let stream = behind_field _ _ _ stands.2 (stands.3 ++ 32 ∷ other) third.0 third.1 stands.6 side in
    behind_field _ _ _ stands.3 other fourth.0 fourth.1 stands.7 stream
