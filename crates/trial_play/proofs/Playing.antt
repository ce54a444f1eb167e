-- Line by line: whatever a script's lines do to a trial, all that is true of it stays true.
use Rattle.std.proofs.Common.{◌≡◌, ℕ, ◌==◌, ◌&&◌, true, false, List, [], ◌∷◌, ◌++◌, length, Option, Some, None, is_some, if◌then◌else◌, refl, sym, ◌∙◌, ap, subst, append-nil, append_assoc, eq-eqb}
use Rattle.acquisition.specs.Watching.{powered_up}
use Rattle.acquisition.specs.declared.fix.Fix.{Fix}
use Rattle.avl_values.specs.Record.{Record}
use Rattle.medium_model.specs.declared.bench.Tear.{Tear}
use Rattle.trial_model.specs.declared.outcome.ConnectionOutcome.{ConnectionOutcome}
use Rattle.trial_model.specs.declared.outcome.DeviceEnd.{DeviceEnd}
use Rattle.trial_model.specs.declared.script.ScriptLine.{ScriptLine}
use Rattle.trial_model.specs.declared.script.ScriptLine.TheVariants as Line
use Rattle.trial_model.specs.declared.script.Who.TheVariants as Who
use Rattle.trial_model.specs.Connections.{connections_after, connections_of, if_covered, opened, server_of}
use Rattle.trial_model.specs.Cover.{can_cover}
use Rattle.trial_model.specs.Decisions.{DeviceHistory, after_connection, after_fix, after_line}
use Rattle.trial_model.specs.Delivery.{heard_of}
use Rattle.trial_model.specs.Frames.{records_in}
use Rattle.trial_model.specs.Script.{Device, Opening, opening_of}
use Rattle.trial_device.specs.SideLines.{PowersSide}
use Rattle.trial_device.specs.Sides.{IsSideSound, Side}
use Rattle.trial_device.specs.Storing.{FixesSide}
use Rattle.trial_device.proofs.Fixing.{side-fixed}
use Rattle.trial_device.proofs.Powering.{side-fused, side-powered}
use Rattle.trial_device.proofs.Rounding.{side-rounded}
use Rattle.trial_server.specs.Serving.{armed}
use Rattle.trial_wire.proofs.Histories.{connections-push}
use Rattle.trial_play.specs.Plays.{OneSide, Plays, PlaysAll, PlaysConnection, RoundsBy}
use Rattle.trial_play.specs.ServerLines.{PlaysClose, PlaysLate, PlaysServerFuse, PlaysServerPower, StaysServer}
use Rattle.trial_play.specs.Trials.{AreSidesSound, IsServerSound, IsTrialSound, TrialState, heard_in, history_in, logs_of}
use Rattle.trial_play.proofs.KeptLogs.{AreKeptLogs, kept-cut, kept-same, kept-then, logs-append, shut-logs}
use Rattle.trial_play.proofs.Places.{eqb-flip}
use Rattle.trial_play.proofs.ServerLines.{close-server, fuse-push, fuse-server, idle-server, late-server, power-server, round-server}
use Rattle.trial_play.proofs.Steps.{server-lines}
use Rattle.trial_play.proofs.Sides.{connection-sides, device-sides, ends-kept-logs, late-kept-logs, line-sides}

-- A device's line changes its own history alone.

unless-own : {A : Type 0} (a b : ℕ) (x y : A) → (a == b) ≡ false → (if a == b then x else y) ≡ y
unless-own a b x y other = ap (λ o. if o then x else y) other

where-own : {A : Type 0} (a b : ℕ) (x y : A) → a ≡ b → (if a == b then x else y) ≡ x
where-own a b x y same = ap (λ o. if o then x else y) (eq-eqb a b same)

module _ (devices : List Device) (lines : List ScriptLine) (t : TrialState) (s : IsTrialSound devices lines t) where
  -- a line that is no device's
  with-line : (l : ScriptLine) (new : TrialState) → is_some (opening_of l) ≡ false → AreKeptLogs (logs_of t.connections) (logs_of new.connections) → new.sides ≡ t.sides → ((x : Device) (h : DeviceHistory) → after_line x h None l ≡ h)
      → IsServerSound devices (lines ++ l ∷ []) new → IsTrialSound devices (lines ++ l ∷ []) new
  with-line l new none kept sides stays server = record {
    server = server;
    sides = subst (AreSidesSound (heard_in (logs_of new.connections)) (history_in (lines ++ l ∷ []) (logs_of new.connections)) devices) (sym sides)
        (line-sides devices lines t.connections new.connections t.sides s.server.connections.as_many s.sides l none kept stays);
  }

  -- a line that changes nothing
  nothing-line : (l : ScriptLine) (new : TrialState) → is_some (opening_of l) ≡ false → connections_of (lines ++ l ∷ []) ≡ connections_of lines → (server_of (lines ++ l ∷ [])).fuse ≡ (server_of lines).fuse
      → ((x : Device) (h : DeviceHistory) → after_line x h None l ≡ h) → new ≡ t → IsTrialSound devices (lines ++ l ∷ []) new
  nothing-line l new none connections fuse stays is =
      with-line l new none (kept-same (logs_of t.connections) (logs_of new.connections) (ap (λ (x : TrialState). logs_of x.connections) is)) (ap (λ (x : TrialState). x.sides) is) stays
      (idle-server devices lines l t new connections (ap (λ (x : TrialState). x.connections) is) (ap (λ (x : TrialState). x.shelf) is) (ap (λ (x : TrialState). x.fuse) is ∙ (s.server.fuse ∙ sym fuse)) s.server)

  -- a line of one device that doesn't connect
  with-device : (l : ScriptLine) (imei : ℕ) (R : Side → Side → Type 0) (new : TrialState) → is_some (opening_of l) ≡ false → connections_of (lines ++ l ∷ []) ≡ connections_of lines → (server_of (lines ++ l ∷ [])).fuse ≡ (server_of lines).fuse
      → ((x : Device) (h : DeviceHistory) → (x.imei == imei) ≡ false → after_line x h None l ≡ h)
      → ((x : Device) (d e : Side) (heard : List Record) (h : DeviceHistory) → x.imei ≡ imei → d.device ≡ x → IsSideSound heard h d → R d e → (e.device ≡ x) × IsSideSound heard (after_line x h None l) e)
      → OneSide imei R devices t.sides new.sides → StaysServer t new → IsTrialSound devices (lines ++ l ∷ []) new
  with-device l imei R new none connections fuse stays goes one server = record {
    server = idle-server devices lines l t new connections server.connections server.shelf (server.fuse ∙ (s.server.fuse ∙ sym fuse)) s.server;
    sides = device-sides devices lines t.connections new.connections t.sides s.server.connections.as_many s.sides l imei R new.sides none
        (kept-same (logs_of t.connections) (logs_of new.connections) (ap logs_of server.connections)) stays goes one;
  }

  pub fix-line : (imei : ℕ) (fix : Fix) (new : TrialState) → OneSide imei (FixesSide fix) devices t.sides new.sides → StaysServer t new → IsTrialSound devices (lines ++ Line.Fix imei fix ∷ []) new
  fix-line imei fix new one server =
      let l : ScriptLine = Line.Fix imei fix in
      with-device l imei (FixesSide fix) new refl (connections-push lines l) (fuse-push lines l)
      (λ x h other. unless-own imei x.imei (after_fix x h fix) h (eqb-flip x.imei imei other))
      (λ x d e heard h is device was f. (let r = side-fixed heard h fix d e was f in
      (r.0 ∙ device, subst (λ k. IsSideSound heard k e) (ap (λ y. after_fix y h fix) device ∙ sym (where-own imei x.imei (after_fix x h fix) h (sym is))) r.1)))
      one server

  pub power-line : (imei : ℕ) (new : TrialState) → OneSide imei PowersSide devices t.sides new.sides → StaysServer t new → IsTrialSound devices (lines ++ Line.Power (Who.Device imei) ∷ []) new
  power-line imei new one server =
      let l : ScriptLine = Line.Power (Who.Device imei) in
      with-device l imei PowersSide new refl (connections-push lines l) (fuse-push lines l)
      (λ x h other. unless-own x.imei imei (record h { watching = powered_up; fuse = None }) h other)
      (λ x d e heard h is device was p. (let r = side-powered heard h d e was p in
      (r.0 ∙ device, subst (λ k. IsSideSound heard k e) (sym (where-own x.imei imei (record h { watching = powered_up; fuse = None }) h is)) r.1)))
      one server

  pub fuse-line : (imei calls : ℕ) (tear : Tear) (new : TrialState) → OneSide imei (λ d e. e ≡ record d { fuse = Some calls }) devices t.sides new.sides → StaysServer t new
      → IsTrialSound devices (lines ++ Line.Fuse (Who.Device imei) calls tear ∷ []) new
  fuse-line imei calls tear new one server =
      let l : ScriptLine = Line.Fuse (Who.Device imei) calls tear in
      with-device l imei (λ d e. e ≡ record d { fuse = Some calls }) new refl (connections-push lines l) (fuse-push lines l)
      (λ x h other. unless-own x.imei imei (record h { fuse = Some calls }) h other)
      (λ x d e heard h is device was same. (
        ap (λ (y : Side). y.device) same ∙ device,
        subst (λ (z : DeviceHistory × Side). IsSideSound heard z.0 z.1) (λ i. (sym (where-own x.imei imei (record h { fuse = Some calls }) h is) i, sym same i)) (side-fused heard h calls d was),
      ))
      one server

  pub late-line : (number : ℕ) (bytes : Option ℕ) (new : TrialState) → PlaysLate devices lines number bytes t new → new.sides ≡ t.sides → IsTrialSound devices (lines ++ Line.Late number bytes ∷ []) new
  late-line number bytes new p sides =
      with-line (Line.Late number bytes) new refl
      (kept-then (logs_of t.connections) (logs_of p.between) (logs_of new.connections)
      (late-kept-logs devices number bytes (connections_of lines) t.connections p.between (armed t.fuse t.shelf) p.shelf p.feeds)
      (ends-kept-logs t.fuse p.between new.connections p.shelf new.shelf p.ends))
      sides (λ x h. refl) (late-server devices lines t s.server number bytes new p)

  pub close-line : (number : ℕ) (new : TrialState) → PlaysClose number t new → new.sides ≡ t.sides → IsTrialSound devices (lines ++ Line.Close number ∷ []) new
  close-line number new p sides =
      with-line (Line.Close number) new refl (kept-same (logs_of t.connections) (logs_of new.connections) (ap logs_of p.connections ∙ shut-logs number t.connections)) sides (λ x h. refl)
      (close-server devices lines t s.server number new p)

  pub server-power-line : (new : TrialState) → PlaysServerPower t new → new.sides ≡ t.sides → IsTrialSound devices (lines ++ Line.Power Who.Server ∷ []) new
  server-power-line new p sides =
      with-line (Line.Power Who.Server) new refl (subst (λ v. AreKeptLogs (logs_of t.connections) (logs_of v)) (sym p.connections) (kept-cut t.connections)) sides (λ x h. refl) (power-server devices lines t s.server new p)

  pub server-fuse-line : (calls : ℕ) (tear : Tear) (new : TrialState) → PlaysServerFuse calls t new → new.sides ≡ t.sides → IsTrialSound devices (lines ++ Line.Fuse Who.Server calls tear ∷ []) new
  server-fuse-line calls tear new p sides =
      with-line (Line.Fuse Who.Server calls tear) new refl (kept-same (logs_of t.connections) (logs_of new.connections) (ap logs_of p.connections)) sides (λ x h. refl) (fuse-server devices lines t s.server calls tear new p)

  -- A `round` or `drain` line.
  connection-line : (l : ScriptLine) (o : Opening) (new : TrialState) → is_some (opening_of l) ≡ true
      → connections_after (server_of lines) l ≡ if_covered (server_of lines).fuse (connections_of lines ++ opened lines l o ∷ []) → can_cover Who.Server l ≡ true → (server_of (lines ++ l ∷ [])).fuse ≡ None
      → ((x : Device) (h : DeviceHistory) (end : DeviceEnd) → after_line x h (Some end) l ≡ (if o.imei == x.imei then after_connection o.drains (Some end) h else h))
      → PlaysConnection devices lines l o t new → IsTrialSound devices (lines ++ l ∷ []) new
  connection-line l o new connects makes covers spends after p =
      let c : ConnectionOutcome = p.server.opens.log in
      let imei : c.imei ≡ o.imei = p.server.opens.rounded.imei in
      let kept : AreKeptLogs (logs_of t.connections ++ c ∷ []) (logs_of new.connections) =
      subst (λ logs. AreKeptLogs logs (logs_of new.connections)) (ap logs_of p.server.opens.is ∙ logs-append t.connections (record { log = c; going = p.server.opens.going && (opened lines l o).half_open } ∷ []))
      (ends-kept-logs t.fuse p.server.between new.connections p.server.shelf new.shelf p.server.ends) in
      record {
        server = round-server devices lines t s.server l o new makes covers spends p.server;
        sides = connection-sides devices lines t.connections new.connections t.sides s.server.connections.as_many s.sides l c connects kept (RoundsBy o.drains c) new.sides
            (λ x h other. after x h c.device ∙ unless-own o.imei x.imei (after_connection o.drains (Some c.device) h) h (eqb-flip x.imei o.imei (subst (λ n. (x.imei == n) ≡ false) imei other)))
            (λ x d e heard h is device was r. (let made = side-rounded o.drains r.result (length (heard_of c)) heard (records_in (heard_of c)) h d e was r.rounds in (
              made.0 ∙ device,
              subst (λ k. IsSideSound (heard ++ records_in (heard_of c)) k e)
                  (ap (λ end. after_connection o.drains (Some end) h) r.end ∙ sym (after x h c.device ∙ where-own o.imei x.imei (after_connection o.drains (Some c.device) h) h (sym imei ∙ sym is))) made.1,
            )))
            (subst (λ n. OneSide n (RoundsBy o.drains c) devices t.sides new.sides) (sym imei) p.sides);
      }

  pub round-line : (imei piece : ℕ) (up down : Option ℕ) (new : TrialState) → PlaysConnection devices lines (Line.Round imei piece up down) (record { imei = imei; drains = false; up = up; down = down }) t new
      → IsTrialSound devices (lines ++ Line.Round imei piece up down ∷ []) new
  round-line imei piece up down new p =
      let l : ScriptLine = Line.Round imei piece up down in
      let o : Opening = record { imei = imei; drains = false; up = up; down = down } in
      connection-line l o new refl (ap (λ ls. if_covered (server_of lines).fuse (connections_of lines ++ opened ls l o ∷ [])) (server-lines lines)) refl (fuse-push lines l) (λ x h end. refl) p

  pub drain-line : (imei piece : ℕ) (new : TrialState) → PlaysConnection devices lines (Line.Drain imei piece) (record { imei = imei; drains = true; up = None; down = None }) t new
      → IsTrialSound devices (lines ++ Line.Drain imei piece ∷ []) new
  drain-line imei piece new p =
      let l : ScriptLine = Line.Drain imei piece in
      let o : Opening = record { imei = imei; drains = true; up = None; down = None } in
      connection-line l o new refl (ap (λ ls. if_covered (server_of lines).fuse (connections_of lines ++ opened ls l o ∷ [])) (server-lines lines)) refl (fuse-push lines l) (λ x h end. refl) p

  -- ONE theorem for all lines.
  pub plays-sound : (l : ScriptLine) (new : TrialState) → Plays devices lines l t new → IsTrialSound devices (lines ++ l ∷ []) new
  plays-sound (Line.Device imei codec slots order period distance angle speed known) new p =
      let l : ScriptLine = Line.Device imei codec slots order period distance angle speed known in
      nothing-line l new refl (connections-push lines l) (fuse-push lines l) (λ x h. refl) p
  plays-sound (Line.Setting imei setting) new p =
      let l : ScriptLine = Line.Setting imei setting in
      nothing-line l new refl (connections-push lines l) (fuse-push lines l) (λ x h. refl) p
  plays-sound (Line.Fix imei fix) new p = fix-line imei fix new p.0 p.1
  plays-sound (Line.Round imei piece up down) new p = round-line imei piece up down new p
  plays-sound (Line.Drain imei piece) new p = drain-line imei piece new p
  plays-sound (Line.Late connection bytes) new p = late-line connection bytes new p.0 p.1
  plays-sound (Line.Close connection) new p = close-line connection new p.0 p.1
  plays-sound (Line.Power (Who.Device imei)) new p = power-line imei new p.0 p.1
  plays-sound (Line.Power Who.Server) new p = server-power-line new p.0 p.1
  plays-sound (Line.Fuse (Who.Device imei) calls tear) new p = fuse-line imei calls tear new p.0 p.1
  plays-sound (Line.Fuse Who.Server calls tear) new p = server-fuse-line calls tear new p.0 p.1

-- all lines, one after the other
pub plays-all : (devices : List Device) (lines more : List ScriptLine) (t new : TrialState) → IsTrialSound devices lines t → PlaysAll devices lines more t new → IsTrialSound devices (lines ++ more) new
plays-all devices lines [] t new s is = subst (λ x. IsTrialSound devices x new) (sym (append-nil lines)) (subst (IsTrialSound devices lines) (sym is) s)
plays-all devices lines (l ∷ more) t new s p =
    subst (λ x. IsTrialSound devices x new) (append_assoc lines (l ∷ []) more) (plays-all devices (lines ++ l ∷ []) more p.0 new (plays-sound devices lines t s l p.0 p.1) p.2)
