-- Each kind of line keeps the server's part sound.
use Rattle.std.proofs.Common.{◌≡◌, ◌⊎◌, inl, inr, ℕ, get_or, suc, Bool, true, false, List, [], ◌∷◌, ◌++◌, map, slice_get, Option, Some, None, refl, sym, ◌∙◌, ap, subst, arith}
use Rattle.std.proofs.lemmas.Option.{slice_get-get_or, slice_get_within}
use Rattle.medium_model.specs.CallsLeft.{unlimited}
use Rattle.medium_model.specs.declared.bench.Tear.{Tear}
use Rattle.shelf.specs.Shelf.{ShelfView}
use Rattle.trial_model.specs.declared.outcome.ConnectionOutcome.{ConnectionOutcome}
use Rattle.trial_model.specs.declared.script.ScriptLine.{ScriptLine}
use Rattle.trial_model.specs.declared.script.ScriptLine.TheVariants as Line
use Rattle.trial_model.specs.declared.script.Who.TheVariants as Who
use Rattle.trial_model.specs.Answers.{is_fault}
use Rattle.trial_model.specs.Connections.{ConnectionHistory, ServerHistory, at_number, closed, connections_after, connections_of, if_covered, opened, restarted, server_of, with_more}
use Rattle.trial_model.specs.Cover.{can_cover, fuse_after}
use Rattle.trial_model.specs.Delivery.{delivered_of, frames_between}
use Rattle.trial_model.specs.Frames.{Frame}
use Rattle.trial_model.specs.RecordLists.{AreIn}
use Rattle.trial_model.specs.Script.{Device, Opening}
use Rattle.trial_server.specs.Archives.{IsRightShelf}
use Rattle.trial_server.specs.Serving.{Restarts, Serves, armed, left_by}
use Rattle.trial_server.proofs.Admitting.{serves-up, shelf-armed, shelf-restarted, shelf-weaker}
use Rattle.trial_server.proofs.Containing.{in-itself}
use Rattle.trial_server.proofs.Paces.{serves-unlimited}
use Rattle.trial_wire.specs.Connections.{Connection, cut_by_power, shut}
use Rattle.trial_wire.proofs.Changing.{closed-sound, good-now}
use Rattle.trial_wire.proofs.Histories.{connections-push, server-push}
use Rattle.trial_play.specs.ServerLines.{EndsLine, PlaysClose, PlaysLate, PlaysRound, PlaysServerFuse, PlaysServerPower, changed_at, gives, gives_nothing}
use Rattle.trial_play.specs.Trials.{AreConnectionsSound, IsServerSound, IsSoundBy, TrialState, counted_in, cover_by, earlier_by, given_in, known_by, logs_of}
use Rattle.trial_play.proofs.ChangedOne.{changed-connections}
use Rattle.trial_play.proofs.Connections.{connections-covered, connections-idle, connections-restarted}
use Rattle.trial_play.proofs.Given.{counted-cut, given-changed, given-restarted}
use Rattle.trial_play.proofs.KeptLogs.{given-kept, kept-cut, shut-logs}
use Rattle.trial_play.proofs.Late.{gives-archive, gives-connections, nothing-archive, nothing-connections}
use Rattle.trial_play.proofs.Opening.{opens-archive, opens-connections}
use Rattle.trial_play.proofs.Places.{get-changed, length-changed, none-some, number-changed}

pub fuse-push : (lines : List ScriptLine) (l : ScriptLine) → (server_of (lines ++ l ∷ [])).fuse ≡ fuse_after Who.Server (server_of lines).fuse l
fuse-push lines l = ap (λ (h : ServerHistory). h.fuse) (server-push lines l)

-- The end of a line that a fuse may cover.
module _ (devices : List Device) (lines : List ScriptLine) (fuse : Option ℕ) (hs : List ConnectionHistory) (ws : List Connection) (s : ShelfView)
    (sound : AreConnectionsSound devices lines hs ws)
    (archive : IsRightShelf (given_in hs (logs_of ws)) (counted_in (logs_of ws)) s) where
  good : (n : ℕ) (w : Connection) → slice_get ws n ≡ Some w → w.going ≡ true → is_fault w.log.server ≡ false
  good n w at on = (let low = slice_get_within ws n w at in
      let h = get_or hs n none_yet in
      let at_h = slice_get-get_or hs n none_yet (omega (arith, low, sound.as_many)) in
      good-now w.log w.log.server ((sound.each n h w at_h at).going on).1)
    where
      none_yet : ConnectionHistory
      none_yet = record { before = []; line = Line.Close 0; opening = record { imei = 0; drains = false; up = None; down = None }; allowed = None; half_open = false; restarted = false }

  pub archive-cut : (t : ShelfView) → Restarts s t → IsRightShelf (given_in (map restarted hs) (logs_of (map cut_by_power ws))) (counted_in (logs_of (map cut_by_power ws))) t
  archive-cut t r = shelf-weaker (given_in hs (logs_of ws)) (counted_in (logs_of ws)) (given_in (map restarted hs) (logs_of (map cut_by_power ws))) (counted_in (logs_of (map cut_by_power ws))) t
      (λ j. subst (λ rs. AreIn rs (given_in hs (logs_of ws) j)) (sym (given-kept j (map restarted hs) (logs_of ws) (logs_of (map cut_by_power ws)) (kept-cut ws) ∙ given-restarted j hs (logs_of ws))) (in-itself (given_in hs (logs_of ws) j)))
      (λ j. subst (AreIn (counted_in (logs_of ws) j)) (sym (counted-cut j ws good)) (in-itself (counted_in (logs_of ws) j)))
      (shelf-restarted (given_in hs (logs_of ws)) (counted_in (logs_of ws)) s t archive r)

ends-server : (devices : List Device) (lines : List ScriptLine) (fuse : Option ℕ) (hs : List ConnectionHistory) (ws : List Connection) (s : ShelfView) (new : TrialState) → connections_of lines ≡ if_covered fuse hs
    → AreConnectionsSound devices lines hs ws → IsRightShelf (given_in hs (logs_of ws)) (counted_in (logs_of ws)) s → (fuse ≡ None → (s.down ≡ false) × (s.medium.left ≡ unlimited))
    → EndsLine fuse ws new.connections s new.shelf → new.fuse ≡ (server_of lines).fuse → IsServerSound devices lines new
ends-server devices lines None hs ws s new makes sound archive calm ends fuse_is =
    let same : ◌≡◌ {A = List ConnectionHistory × List Connection × ShelfView} (hs, ws, s) (connections_of lines, new.connections, new.shelf) = (λ i. (sym makes i, sym ends.0 i, sym ends.1 i)) in
    record {
      connections = subst (λ (z : List ConnectionHistory × List Connection × ShelfView). AreConnectionsSound devices lines z.0 z.1) same sound;
      archive = subst (λ (z : List ConnectionHistory × List Connection × ShelfView). IsRightShelf (given_in z.0 (logs_of z.1)) (counted_in (logs_of z.1)) z.2) same archive;
      up = ap (λ (v : ShelfView). v.down) ends.1 ∙ (calm refl).0;
      idle = ap (λ (v : ShelfView). v.medium.left) ends.1 ∙ (calm refl).1;
      fuse = fuse_is;
    }
ends-server devices lines (Some k) hs ws s new makes sound archive calm ends fuse_is =
    let same : ◌≡◌ {A = List ConnectionHistory × List Connection} (map restarted hs, map cut_by_power ws) (connections_of lines, new.connections) = (λ i. (sym makes i, sym ends.0 i)) in
    record {
      connections = subst (λ (z : List ConnectionHistory × List Connection). AreConnectionsSound devices lines z.0 z.1) same (connections-restarted devices lines hs ws sound);
      archive = subst (λ (z : List ConnectionHistory × List Connection). IsRightShelf (given_in z.0 (logs_of z.1)) (counted_in (logs_of z.1)) new.shelf) same (archive-cut devices lines (Some k) hs ws s sound archive new.shelf ends.1);
      up = ends.1.restarted.up;
      idle = ends.1.restarted.left;
      fuse = fuse_is;
    }

-- A line that leaves the server as it is, but maybe its fuse.
pub idle-server : (devices : List Device) (lines : List ScriptLine) (l : ScriptLine) (t new : TrialState) → connections_of (lines ++ l ∷ []) ≡ connections_of lines → new.connections ≡ t.connections → new.shelf ≡ t.shelf
    → new.fuse ≡ (server_of (lines ++ l ∷ [])).fuse → IsServerSound devices lines t → IsServerSound devices (lines ++ l ∷ []) new
idle-server devices lines l t new none connections shelf fuse s =
    ends-server devices (lines ++ l ∷ []) None (connections_of lines) t.connections t.shelf new none (connections-idle devices lines l t.connections none s.connections) s.archive (λ _. (s.up, s.idle)) (connections, shelf) fuse

-- arming changes only the calls left
armed-down : (fuse : Option ℕ) (v : ShelfView) → (armed fuse v).down ≡ v.down
armed-down None v = refl
armed-down (Some k) v = refl

armed-left : (fuse : Option ℕ) (v : ShelfView) → v.medium.left ≡ unlimited → (armed fuse v).medium.left ≡ left_by fuse
armed-left None v idle = idle
armed-left (Some k) v idle = refl

-- without a fuse the medium stays up, and its calls uncounted
calm-serves : (imei : ℕ) (failed : Bool) (fs : List Frame) (s t : ShelfView) (fuse : Option ℕ) → s.down ≡ false → s.medium.left ≡ left_by fuse → Serves imei failed fs s t → fuse ≡ None → (t.down ≡ false) × (t.medium.left ≡ unlimited)
calm-serves imei failed fs s t fuse up left serves none =
    let calm = serves-unlimited imei failed fs s t (left ∙ ap left_by none) serves in
    (serves-up imei fs s t up (subst (λ b. Serves imei b fs s t) calm.0 serves), calm.1)

module _ (devices : List Device) (lines : List ScriptLine) (t : TrialState) (s : IsServerSound devices lines t) where
  abbrev ready : ShelfView
  ready = armed t.fuse t.shelf

  ready-right : IsRightShelf (given_in (connections_of lines) (logs_of t.connections)) (counted_in (logs_of t.connections)) ready
  ready-right = shelf-armed (given_in (connections_of lines) (logs_of t.connections)) (counted_in (logs_of t.connections)) t.fuse t.shelf s.archive

  ready-up : ready.down ≡ false
  ready-up = armed-down t.fuse t.shelf ∙ s.up

  ready-left : ready.medium.left ≡ left_by (server_of lines).fuse
  ready-left = armed-left t.fuse t.shelf s.idle ∙ ap left_by s.fuse

  -- A `late` line.
  pub late-server : (number : ℕ) (bytes : Option ℕ) (new : TrialState) → PlaysLate devices lines number bytes t new → IsServerSound devices (lines ++ Line.Late number bytes ∷ []) new
  late-server number bytes new p =
      let l : ScriptLine = Line.Late number bytes in
      let hs = at_number (with_more bytes) number (connections_of lines) in
      let ends : EndsLine (server_of lines).fuse p.between new.connections p.shelf new.shelf = subst (λ f. EndsLine f p.between new.connections p.shelf new.shelf) s.fuse p.ends in
      let fuse : new.fuse ≡ (server_of (lines ++ l ∷ [])).fuse = p.fuse ∙ sym (fuse-push lines l) in
      elim p.feeds as (λ _. IsServerSound devices (lines ++ l ∷ []) new) [
        | gives_nothing off same still ↦
            ends-server devices (lines ++ l ∷ []) (server_of lines).fuse hs p.between p.shelf new (connections-push lines l)
            (subst (AreConnectionsSound devices (lines ++ l ∷ []) hs) (sym same) (nothing-connections devices lines number bytes t.connections ready s.connections ready-right off))
            (subst (λ (z : List Connection × ShelfView). IsRightShelf (given_in hs (logs_of z.0)) (counted_in (logs_of z.0)) z.1) (λ i. (sym same i, sym still i)) (nothing-archive devices lines number bytes t.connections ready s.connections ready-right))
            (λ none. (ap (λ (v : ShelfView). v.down) still ∙ ready-up, ap (λ (v : ShelfView). v.medium.left) still ∙ (ready-left ∙ ap left_by none))) ends fuse
        | gives n h w failed b more server going is_number at_h at_w on up_is f same ↦
            ends-server devices (lines ++ l ∷ []) (server_of lines).fuse hs p.between p.shelf new (connections-push lines l)
            (subst (AreConnectionsSound devices (lines ++ l ∷ []) hs) (sym same)
            (gives-connections devices lines number bytes t.connections ready s.connections ready-right n h w failed b more server going p.shelf ready-up ready-left is_number at_h at_w on up_is f))
            (subst (λ z. IsRightShelf (given_in hs (logs_of z)) (counted_in (logs_of z)) p.shelf) (sym same)
            (gives-archive devices lines number bytes t.connections ready s.connections ready-right n h w failed b more server going p.shelf ready-up ready-left is_number at_h at_w on up_is f))
            (calm-serves w.log.imei failed (frames_between w.log.up_given b w.log.up) ready p.shelf (server_of lines).fuse ready-up ready-left f.serves) ends fuse
      ]

  -- A `round` or `drain` line.
  pub round-server : (l : ScriptLine) (o : Opening) (new : TrialState) → connections_after (server_of lines) l ≡ if_covered (server_of lines).fuse (connections_of lines ++ opened lines l o ∷ []) → can_cover Who.Server l ≡ true
      → (server_of (lines ++ l ∷ [])).fuse ≡ None → PlaysRound devices lines l o t new → IsServerSound devices (lines ++ l ∷ []) new
  round-server l o new makes covers spends p =
      ends-server devices (lines ++ l ∷ []) (server_of lines).fuse (connections_of lines ++ opened lines l o ∷ []) p.between p.shelf new (connections-push lines l ∙ makes)
      (opens-connections devices lines l o t.connections p.between ready p.shelf makes covers s.connections ready-right ready-up ready-left p.opens)
      (opens-archive devices lines l o t.connections p.between ready p.shelf makes covers s.connections ready-right ready-up ready-left p.opens)
      (calm-serves p.opens.log.imei p.opens.failed (delivered_of p.opens.log) ready p.shelf (server_of lines).fuse ready-up ready-left p.opens.rounded.serves)
      (subst (λ f. EndsLine f p.between new.connections p.shelf new.shelf) s.fuse p.ends) (p.fuse ∙ sym spends)

  -- The server's `power` line: as the end of a line that is covered.
  pub power-server : (new : TrialState) → PlaysServerPower t new → IsServerSound devices (lines ++ Line.Power Who.Server ∷ []) new
  power-server new p =
      let l : ScriptLine = Line.Power Who.Server in
      let sound = power-connections in
      ends-server devices (lines ++ l ∷ []) (Some 0) (connections_of lines) t.connections t.shelf new (connections-push lines l) sound s.archive (λ never. absurd (none-some 0 (sym never))) (p.connections, p.restarts) (p.fuse ∙ sym (fuse-push lines l))
    where
      power-connections : AreConnectionsSound devices (lines ++ Line.Power Who.Server ∷ []) (connections_of lines) t.connections
      power-connections = connections-covered devices lines (Line.Power Who.Server) (Some 0) t.connections (connections-push lines (Line.Power Who.Server)) s.connections

  -- A `close` line.
  pub close-server : (number : ℕ) (new : TrialState) → PlaysClose number t new → IsServerSound devices (lines ++ Line.Close number ∷ []) new
  close-server number new p =
      let l : ScriptLine = Line.Close number in
      let hs = at_number closed number (connections_of lines) in
      let ws = changed_at shut number t.connections in
      let logs = shut-logs number t.connections in
      let from : (k : ℕ) (v : Connection) → slice_get ws k ≡ Some v → (w : Connection) × (slice_get t.connections k ≡ Some w) × (v.log ≡ w.log)
      × (number ≡ suc k → (h : ConnectionHistory) → IsSoundBy devices lines (logs_of t.connections) k h w → IsSoundBy devices lines (logs_of t.connections) k (closed h) v) × ((number ≡ suc k → ⊥) → v ≡ w) =
      (λ k v at. close-from k v (get-changed shut number t.connections k v at)) in
      ends-server devices (lines ++ l ∷ []) None hs ws t.shelf new (connections-push lines l)
      (changed-connections devices lines l closed number None t.connections (connections-push lines l) (λ h. refl) s.connections ws (length-changed shut number t.connections) logs from)
      (subst (λ (z : List ConnectionHistory × List ConnectionOutcome). IsRightShelf (given_in z.0 z.1) (counted_in z.1) t.shelf) (λ i. (sym (number-changed closed number (connections_of lines)) i, sym logs i))
      (shelf-weaker (given_in (connections_of lines) (logs_of t.connections)) (counted_in (logs_of t.connections)) (given_in (changed_at closed number (connections_of lines)) (logs_of t.connections)) (counted_in (logs_of t.connections)) t.shelf
      (λ j. given-changed closed (λ h n. omega arith) j number (connections_of lines) (logs_of t.connections)) (λ j. in-itself (counted_in (logs_of t.connections) j)) s.archive))
      (λ _. (s.up, s.idle)) (p.connections, p.shelf) (p.fuse ∙ (s.fuse ∙ sym (fuse-push lines l)))
    where
      close-from : (k : ℕ) (v : Connection) → (w : Connection) × (slice_get t.connections k ≡ Some w) × (((number ≡ suc k) × (v ≡ shut w)) ⊎ ((number ≡ suc k → ⊥) × (v ≡ w)))
          → (w : Connection) × (slice_get t.connections k ≡ Some w) × (v.log ≡ w.log)
          × (number ≡ suc k → (h : ConnectionHistory) → IsSoundBy devices lines (logs_of t.connections) k h w → IsSoundBy devices lines (logs_of t.connections) k (closed h) v) × ((number ≡ suc k → ⊥) → v ≡ w)
      close-from k v (w, at, inl (there, is)) = (
        w,
        at,
        ap (λ (x : Connection). x.log) is,
        (λ _ h was. subst (λ x. IsSoundBy devices lines (logs_of t.connections) k (closed h) x) (sym is) (closed-sound lines (logs_of t.connections) (known_by devices h) (cover_by h) (earlier_by devices (logs_of t.connections) h) k h w was)),
        (λ other. absurd (other there)),
      )
      close-from k v (w, at, inr (other, is)) = (w, at, ap (λ (x : Connection). x.log) is, (λ there h was. absurd (other there)), (λ _. is))

  -- The server's `fuse` line.
  pub fuse-server : (calls : ℕ) (tear : Tear) (new : TrialState) → PlaysServerFuse calls t new → IsServerSound devices (lines ++ Line.Fuse Who.Server calls tear ∷ []) new
  fuse-server calls tear new p =
      let l : ScriptLine = Line.Fuse Who.Server calls tear in
      idle-server devices lines l t new (connections-push lines l) p.connections p.shelf (p.fuse ∙ sym (fuse-push lines l)) s
