-- A `round` or `drain` line, for all connections and the archive.
use Rattle.std.proofs.Common.{◌≡◌, ◌≤◌, ◌&&◌, ◌==◌, if◌then◌else◌, inl, inr, ℕ, Bool, true, false, List, [], ◌∷◌, ◌++◌, length, slice_get, take, Some, None, refl, sym, ◌∙◌, ap, subst, arith, length-append, take_all}
use Rattle.std.proofs.lemmas.Bool.{true≢false}
use Rattle.std.proofs.lemmas.Option.{slice_get_past, slice_get_within}
use Rattle.record_lists.proofs.EachOnce.{get-cases, get-front, get-last}
use Rattle.shelf.specs.Archive.{recs_for}
use Rattle.shelf.specs.Shelf.{ShelfView}
use Rattle.trial_model.specs.declared.outcome.ConnectionOutcome.{ConnectionOutcome}
use Rattle.trial_model.specs.declared.script.ScriptLine.{ScriptLine}
use Rattle.trial_model.specs.declared.script.Who.TheVariants as Who
use Rattle.trial_model.specs.Answers.{counted_of}
use Rattle.trial_model.specs.Connections.{ConnectionHistory, connections_after, connections_of, given_by, given_to, if_covered, opened, server_of}
use Rattle.trial_model.specs.Cover.{can_cover, cover_on}
use Rattle.trial_model.specs.Delivery.{delivered_of}
use Rattle.trial_model.specs.Frames.{frames_within, records_in}
use Rattle.trial_model.specs.RecordLists.{AreIn}
use Rattle.trial_model.specs.Script.{Device, Opening}
use Rattle.trial_server.specs.Archives.{IsRightShelf, with_records}
use Rattle.trial_server.specs.Serving.{left_by, receipted}
use Rattle.trial_server.proofs.Accounts.{with-has, with-keeps}
use Rattle.trial_server.proofs.Admitting.{serves-right}
use Rattle.trial_server.proofs.Containing.{in-itself}
use Rattle.trial_wire.specs.Connections.{Connection, IsConnectionSound}
use Rattle.trial_wire.proofs.Feeding.{opened-sound}
use Rattle.trial_wire.proofs.Histories.{connections-push}
use Rattle.trial_play.specs.ServerLines.{OpensOne}
use Rattle.trial_play.specs.Trials.{AreConnectionsSound, BeginsWith, IsSoundBy, connecting, counted_in, cover_by, earlier_by, given_in, known_by, logs_of}
use Rattle.trial_play.proofs.Connections.{begins-itself, begins-more, given-at, given-now, line-sound}
use Rattle.trial_play.proofs.Given.{given-push, records-push}
use Rattle.trial_play.proofs.KeptLogs.{earlier-more, logs-append, logs-length, sent-more}
use Rattle.trial_play.proofs.Places.{both-true}
use Rattle.trial_play.proofs.Steps.{connections-count, connecting-take}

not-both : (a b : Bool) → (a && b) ≡ false → b ≡ true → a ≡ false
not-both true b e on = absurd (true≢false (sym on ∙ e))
not-both false b e on = refl

module _ (devices : List Device) (lines : List ScriptLine) (l : ScriptLine) (o : Opening) (ws ws' : List Connection) (s t : ShelfView)
    (makes : connections_after (server_of lines) l ≡ if_covered (server_of lines).fuse (connections_of lines ++ opened lines l o ∷ []))
    (covers : can_cover Who.Server l ≡ true)
    (sound : AreConnectionsSound devices lines (connections_of lines) ws)
    (archive : IsRightShelf (given_in (connections_of lines) (logs_of ws)) (counted_in (logs_of ws)) s)
    (up : s.down ≡ false) (left : s.medium.left ≡ left_by (server_of lines).fuse)
    (r : OpensOne devices (opened lines l o) ws ws' s t) where
  abbrev h : ConnectionHistory
  h = opened lines l o

  abbrev c : ConnectionOutcome
  c = r.log

  abbrev w : Connection
  w = record { log = r.log; going = r.going && h.half_open }

  abbrev hs : List ConnectionHistory
  hs = connections_of lines ++ h ∷ []

  abbrev later : List ConnectionOutcome
  later = logs_of ws ++ c ∷ []

  abbrev n : ℕ
  n = length (connections_of lines)

  makes-now : connections_of (lines ++ l ∷ []) ≡ if_covered (server_of lines).fuse hs
  makes-now = connections-push lines l ∙ makes

  count : length (logs_of ws) ≡ n
  count = logs-length ws ∙ sound.as_many

  armed-now : s.medium.left ≡ left_by (cover_on Who.Server (server_of lines).fuse l)
  armed-now = left ∙ ap (λ b. left_by (if b then (server_of lines).fuse else None)) (sym covers)

  same-records : given_in (connections_of lines) later c.imei ≡ given_in (connections_of lines) (logs_of ws) c.imei
  same-records = subst (λ ls. given_in (connections_of ls) later c.imei ≡ given_in (connections_of ls) (logs_of ws) c.imei) (take_all (length lines) lines (omega arith))
      ((sent-more lines (logs_of ws) (c ∷ []) c.imei (omega (arith, count))).same (length lines))

  evidence : AreIn (given_in (connections_of lines) later c.imei) (recs_for c.imei s.list)
  evidence = subst (λ rs. AreIn rs (recs_for c.imei s.list)) (sym same-records) ((archive.list up).evidence c.imei)

  none-before : (i : ℕ) → i ≤ length lines → given_by (take i lines) n (length c.up) ≡ 0
  none-before i low = ap (λ x. given_to x (length c.up))
      (slice_get_past (connections_of (take i lines)) n (omega (arith, connections-count lines, connections-count (take i lines), connecting-take i lines)))

  new-at : slice_get hs n ≡ Some h
  new-at = get-last (connections_of lines) h

  new-one : IsSoundBy devices (lines ++ l ∷ []) later n h w
  new-one =
      let now : given_by (lines ++ l ∷ []) n (length c.up) ≡ c.up_given = given-now lines l (server_of lines).fuse hs n (length c.up) h makes-now new-at ∙ sym r.rounded.given in
      let made = opened-sound lines later l (known_by devices h) (cover_by h) (earlier_by devices (logs_of ws) h) n lines o r.failed c r.going (r.going && h.half_open) s t r.rounded
      (both-true r.going h.half_open) (not-both r.going h.half_open) none-before now evidence armed-now in
      subst (λ rs. IsConnectionSound (lines ++ l ∷ []) later (known_by devices h) (cover_by h) rs n h w) (sym (earlier-more devices (logs_of ws) (c ∷ []) h (omega (arith, count, connections-count lines)))) made

  old-one : (k : ℕ) (v : ConnectionHistory) (x : Connection) → slice_get (connections_of lines) k ≡ Some v → slice_get ws k ≡ Some x → IsSoundBy devices (lines ++ l ∷ []) later k v x
  old-one k v x at_v at_x =
      let low = slice_get_within (connections_of lines) k v at_v in
      let gave = given-at (connections_of lines) k (length x.log.up) v at_v in
      let gives = given-now lines l (server_of lines).fuse hs k (length x.log.up) v makes-now (get-front (connections_of lines) (h ∷ []) k v at_v) in
      line-sound devices lines l (logs_of ws) later k v x (sent-more lines (logs_of ws) (c ∷ []) x.log.imei (omega (arith, count)))
      (earlier-more devices (logs_of ws) (c ∷ []) v (omega (arith, count, low, sound.places k v at_v))) (omega (arith, gave, gives)) (sound.each k v x at_v at_x)

  logs-is : logs_of ws' ≡ later
  logs-is = ap logs_of r.is ∙ logs-append ws (w ∷ [])

  each : (k : ℕ) (v : ConnectionHistory) (x : Connection) → slice_get hs k ≡ Some v → slice_get (ws ++ w ∷ []) k ≡ Some x → IsSoundBy devices (lines ++ l ∷ []) later k v x
  each k v x at_v at_x = elim (get-cases (connections_of lines) h k v at_v) as (λ _. IsSoundBy devices (lines ++ l ∷ []) later k v x) [
    | inl old ↦ (elim (get-cases ws w k x at_x) as (λ _. IsSoundBy devices (lines ++ l ∷ []) later k v x) [
      | inl there ↦ old-one k v x old there
      | inr last ↦ absurd (let low = slice_get_within (connections_of lines) k v old in omega (arith, low, last.0, sound.as_many))
    ])
    | inr new ↦ (elim (get-cases ws w k x at_x) as (λ _. IsSoundBy devices (lines ++ l ∷ []) later k v x) [
      | inl there ↦ absurd (let low = slice_get_within ws k x there in omega (arith, low, new.0, sound.as_many))
      | inr last ↦ subst (λ (z : ℕ × ConnectionHistory × Connection). IsSoundBy devices (lines ++ l ∷ []) later z.0 z.1 z.2) (λ i. (sym new.0 i, sym new.1 i, sym last.1 i)) new-one
    ])
  ]

  pub opens-connections : AreConnectionsSound devices (lines ++ l ∷ []) (connections_of lines ++ opened lines l o ∷ []) ws'
  opens-connections = subst (AreConnectionsSound devices (lines ++ l ∷ []) hs) (sym r.is) (record {
    as_many = omega (arith, length-append ws (w ∷ []), length-append (connections_of lines) (h ∷ []), sound.as_many);
    places = λ k v at. elim (get-cases (connections_of lines) h k v at) as (λ _. connecting v.before ≤ k) [
      | inl old ↦ sound.places k v old
      | inr new ↦ subst (λ (z : ConnectionHistory). connecting z.before ≤ k) (sym new.1) (omega (arith, new.0, connections-count lines))
    ];
    begins = λ k v at. elim (get-cases (connections_of lines) h k v at) as (λ _. BeginsWith v.before (lines ++ l ∷ [])) [
      | inl old ↦ begins-more v.before lines l (sound.begins k v old)
      | inr new ↦ subst (λ (z : ConnectionHistory). BeginsWith z.before (lines ++ l ∷ [])) (sym new.1) (begins-itself lines (l ∷ []))
    ];
    each = λ k v x at_v at_x. subst (λ logs. IsSoundBy devices (lines ++ l ∷ []) logs k v x) (sym (logs-append ws (w ∷ []))) (each k v x at_v at_x);
  })

  given-is : (j : ℕ) → given_in hs later j ≡ with_records c.imei (records_in (delivered_of c)) (given_in (connections_of lines) (logs_of ws)) j
  given-is j = given-push j (connections_of lines) (logs_of ws) h c (sym count)
      ∙ ap (λ g. given_in (connections_of lines) (logs_of ws) j ++ (if c.imei == j then records_in (frames_within g c.up) else [])) (sym r.rounded.given)

  counted-is : (j : ℕ) → counted_in later j ≡ with_records c.imei (records_in (receipted r.failed (delivered_of c))) (counted_in (logs_of ws)) j
  counted-is j = records-push counted_of j (logs_of ws) c ∙ ap (λ b. with_records c.imei (records_in (receipted b (delivered_of c))) (counted_in (logs_of ws)) j) r.rounded.fault

  pub opens-archive : IsRightShelf (given_in (connections_of lines ++ opened lines l o ∷ []) (logs_of ws')) (counted_in (logs_of ws')) t
  opens-archive = subst (λ logs. IsRightShelf (given_in hs logs) (counted_in logs) t) (sym logs-is)
      (serves-right (given_in (connections_of lines) (logs_of ws)) (counted_in (logs_of ws)) (given_in hs later) (counted_in later) c.imei r.failed (delivered_of c) s t archive up r.rounded.serves
      (record {
        keeps = λ j. subst (λ rs. AreIn rs (given_in (connections_of lines) (logs_of ws) j)) (sym (given-is j)) (with-keeps c.imei (records_in (delivered_of c)) (given_in (connections_of lines) (logs_of ws)) j);
        has = subst (λ rs. AreIn rs (records_in (delivered_of c))) (sym (given-is c.imei)) (with-has c.imei (records_in (delivered_of c)) (given_in (connections_of lines) (logs_of ws)));
      })
      (λ j. subst (λ rs. AreIn (with_records c.imei (records_in (receipted r.failed (delivered_of c))) (counted_in (logs_of ws)) j) rs) (sym (counted-is j))
      (in-itself (with_records c.imei (records_in (receipted r.failed (delivered_of c))) (counted_in (logs_of ws)) j))))
