-- A `late` line, for all connections and the archive.
use Rattle.std.proofs.Common.{◌≡◌, ◌≤◌, ◌<◌, inl, inr, ℕ, suc, Bool, true, false, List, [], ◌∷◌, ◌++◌, length, set, slice_get, Option, Some, None, if◌then◌else◌, refl, sym, ◌∙◌, ap, subst, arith, length-set}
use Rattle.std.specs.Prelude.{option_map}
use Rattle.std.proofs.lemmas.Bool.{cases_Bool}
use Rattle.std.proofs.lemmas.List.{get_or-set_same}
use Rattle.std.proofs.lemmas.Option.{slice_get-get_or, slice_get-map, slice_get_within}
use Rattle.shelf.specs.Archive.{recs_for}
use Rattle.shelf.specs.Shelf.{ShelfView}
use Rattle.trial_model.specs.declared.outcome.ConnectionOutcome.{ConnectionOutcome}
use Rattle.trial_model.specs.declared.outcome.ServerEnd.{ServerEnd}
use Rattle.trial_model.specs.declared.script.ScriptLine.{ScriptLine}
use Rattle.trial_model.specs.declared.script.ScriptLine.TheVariants as Line
use Rattle.trial_model.specs.Connections.{ConnectionHistory, at_number, connections_of, if_covered, plus, server_of, up_to, with_more}
use Rattle.trial_model.specs.Delivery.{frames_between}
use Rattle.trial_model.specs.Frames.{records_in}
use Rattle.trial_model.specs.RecordLists.{AreIn}
use Rattle.trial_model.specs.Script.{Device}
use Rattle.trial_server.specs.Archives.{IsRightShelf}
use Rattle.trial_server.specs.Serving.{Serves, left_by, receipted}
use Rattle.trial_server.proofs.Admitting.{serves-right, shelf-weaker}
use Rattle.trial_server.proofs.Containing.{in-itself}
use Rattle.trial_wire.specs.Connections.{Connection, IsConnectionSound, IsFed, fed}
use Rattle.trial_wire.proofs.Changing.{allowed-sound, good-now}
use Rattle.trial_wire.proofs.Feeding.{fed-sound, serves-some}
use Rattle.trial_wire.proofs.Histories.{connections-push}
use Rattle.trial_wire.proofs.Logs.{counted-fed}
use Rattle.trial_play.specs.ServerLines.{changed_at}
use Rattle.trial_play.specs.Trials.{AreConnectionsSound, IsSoundBy, counted_in, cover_by, earlier_by, given_in, known_by, logs_of}
use Rattle.trial_play.proofs.ChangedOne.{changed-begins, changed-connections, changed-count, changed-get, changed-gives, changed-places, changed-same}
use Rattle.trial_play.proofs.Connections.{given-at}
use Rattle.trial_play.proofs.Given.{counted-set, given-changed, given-grows, given-has}
use Rattle.trial_play.proofs.KeptLogs.{AreKeptLogs, earlier-kept, given-kept, kept-fed, logs-set-at, sent-kept}
use Rattle.trial_play.proofs.Places.{changed-set, get-set, number-changed, same-at}

-- More is allowed of a connection that is half-open alone.

more-half : (n : Option ℕ) (h : ConnectionHistory) → h.half_open ≡ true → with_more n h ≡ record h { allowed = plus h.allowed n }
more-half n h half = ap (λ b. if b then record h { allowed = plus h.allowed n } else h) half

more-shut : (n : Option ℕ) (h : ConnectionHistory) → h.half_open ≡ false → with_more n h ≡ h
more-shut n h over = ap (λ b. if b then record h { allowed = plus h.allowed n } else h) over

more-before : (n : Option ℕ) (h : ConnectionHistory) → (with_more n h).before ≡ h.before
more-before n h = split h.half_open
  where
    split : (b : Bool) → (if b then record h { allowed = plus h.allowed n } else h).before ≡ h.before
    split true = refl
    split false = refl

plus-more : (a b : Option ℕ) (n : ℕ) → up_to a n ≤ up_to (plus a b) n
plus-more None b n = omega arith
plus-more (Some m) None n = omega arith
plus-more (Some m) (Some k) n = omega arith

up_to-low : (a : Option ℕ) (n : ℕ) → up_to a n ≤ n
up_to-low None n = omega arith
up_to-low (Some m) n = omega arith

more-wider : (n : Option ℕ) (h : ConnectionHistory) (sent : ℕ) → up_to h.allowed sent ≤ up_to (with_more n h).allowed sent
more-wider n h sent = split h.half_open
  where
    split : (b : Bool) → up_to h.allowed sent ≤ up_to (if b then record h { allowed = plus h.allowed n } else h).allowed sent
    split true = plus-more h.allowed n sent
    split false = omega arith

-- A connection whose session doesn't go on.
late-idle : (devices : List Device) (lines : List ScriptLine) (logs : List ConnectionOutcome) (bytes : Option ℕ) (n : ℕ) (h : ConnectionHistory) (w : Connection) → w.going ≡ false → IsSoundBy devices lines logs n h w
    → IsSoundBy devices lines logs n (with_more bytes h) w
late-idle devices lines logs bytes n h w off sound = elim (cases_Bool h.half_open) as (λ _. IsSoundBy devices lines logs n (with_more bytes h) w) [
  | inl half ↦
      (let all = (sound.ended off half).1 in
      let up = sound.log.up in
      let same : w.log.up_given ≡ up_to (plus h.allowed bytes) (length w.log.up) = omega (arith, all, up, plus-more h.allowed bytes (length w.log.up), up_to-low (plus h.allowed bytes) (length w.log.up)) in
      subst (λ k. IsSoundBy devices lines logs n k w) (sym (more-half bytes h half))
      (allowed-sound lines logs (known_by devices h) (cover_by h) (earlier_by devices logs h) n h w (plus h.allowed bytes) same sound))
  | inr over ↦ subst (λ k. IsSoundBy devices lines logs n k w) (sym (more-shut bytes h over)) sound
]

module _ (devices : List Device) (lines : List ScriptLine) (number : ℕ) (bytes : Option ℕ) (ws : List Connection) (s : ShelfView)
    (sound : AreConnectionsSound devices lines (connections_of lines) ws)
    (archive : IsRightShelf (given_in (connections_of lines) (logs_of ws)) (counted_in (logs_of ws)) s) where
  abbrev l : ScriptLine
  l = Line.Late number bytes

  abbrev hs : List ConnectionHistory
  hs = at_number (with_more bytes) number (connections_of lines)

  makes : connections_of (lines ++ l ∷ []) ≡ if_covered (server_of lines).fuse hs
  makes = connections-push lines l

  -- Nothing is given.
  pub nothing-connections : ((n : ℕ) (w : Connection) → number ≡ suc n → slice_get ws n ≡ Some w → w.going ≡ false)
      → AreConnectionsSound devices (lines ++ Line.Late number bytes ∷ []) (at_number (with_more bytes) number (connections_of lines)) ws
  nothing-connections off = changed-connections devices lines l (with_more bytes) number (server_of lines).fuse ws makes (more-before bytes) sound ws refl refl
      (λ k w at. (w, at, refl, (λ there h was. late-idle devices lines (logs_of ws) bytes k h w (off k w there at) was), λ other. refl))

  pub nothing-archive : IsRightShelf (given_in (at_number (with_more bytes) number (connections_of lines)) (logs_of ws)) (counted_in (logs_of ws)) s
  nothing-archive = subst (λ ks. IsRightShelf (given_in ks (logs_of ws)) (counted_in (logs_of ws)) s) (sym (number-changed (with_more bytes) number (connections_of lines)))
      (shelf-weaker (given_in (connections_of lines) (logs_of ws)) (counted_in (logs_of ws)) (given_in (changed_at (with_more bytes) number (connections_of lines)) (logs_of ws)) (counted_in (logs_of ws)) s
      (λ j. given-changed (with_more bytes) (more-wider bytes) j number (connections_of lines) (logs_of ws)) (λ j. in-itself (counted_in (logs_of ws) j)) archive)

  -- The session of one connection takes bytes.
  module _ (m : ℕ) (h : ConnectionHistory) (w : Connection) (failed : Bool) (b : ℕ) (more : List ℕ) (server : ServerEnd) (going : Bool) (t : ShelfView)
      (up : s.down ≡ false) (left : s.medium.left ≡ left_by (server_of lines).fuse)
      (is_number : number ≡ suc m) (at_h : slice_get (connections_of lines) m ≡ Some h) (at_w : slice_get ws m ≡ Some w) (on : w.going ≡ true)
      (up_is : b ≡ up_to (plus h.allowed bytes) (length w.log.up)) (f : IsFed (known_by devices h) failed b w.log more server going s t) where
    abbrev w' : Connection
    w' = record { log = fed w.log b more server; going = going }

    abbrev h' : ConnectionHistory
    h' = record h { allowed = plus h.allowed bytes }

    abbrev later : List ConnectionOutcome
    later = logs_of (set ws m w')

    was : IsSoundBy devices lines (logs_of ws) m h w
    was = sound.each m h w at_h at_w

    half : h.half_open ≡ true
    half = (was.going on).0

    kept : AreKeptLogs (logs_of ws) later
    kept = kept-fed ws m w b more server going at_w

    more-is : with_more bytes h ≡ h'
    more-is = more-half bytes h half

    set-is : hs ≡ set (connections_of lines) m h'
    set-is = number-changed (with_more bytes) number (connections_of lines) ∙ (changed-set (with_more bytes) number m (connections_of lines) h is_number at_h ∙ ap (set (connections_of lines) m) more-is)

    within : m < length (connections_of lines)
    within = slice_get_within (connections_of lines) m h at_h

    at-h' : slice_get hs m ≡ Some h'
    at-h' = ap (λ ks. slice_get ks m) set-is ∙ (slice_get-get_or (set (connections_of lines) m h') m h' (omega (arith, within, length-set (connections_of lines) m h')) ∙ ap Some (get_or-set_same (connections_of lines) m h' h' within))

    evidence : AreIn (given_in (connections_of lines) later w.log.imei) (recs_for w.log.imei s.list)
    evidence = subst (λ rs. AreIn rs (recs_for w.log.imei s.list)) (sym (given-kept w.log.imei (connections_of lines) (logs_of ws) later kept)) ((archive.list up).evidence w.log.imei)

    this-one : IsSoundBy devices (lines ++ l ∷ []) later m h' w'
    this-one =
        let fed_one = fed-sound lines (logs_of ws) later l (known_by devices h) (cover_by h) (earlier_by devices (logs_of ws) h) m h w (plus h.allowed bytes) failed b more server going s t was on
        (sent-kept lines (logs_of ws) later w.log.imei kept) f up_is (given-at (connections_of lines) m (length w.log.up) h at_h ∙ sym was.log.up)
        (changed-gives devices lines l (with_more bytes) number (server_of lines).fuse ws makes (more-before bytes) sound m (length w.log.up) h' at-h' ∙ sym up_is) evidence left in
        subst (λ rs. IsConnectionSound (lines ++ l ∷ []) later (known_by devices h) (cover_by h) rs m h' w') (sym (earlier-kept devices (logs_of ws) later h kept)) fed_one

    each : (k : ℕ) (v : ConnectionHistory) (x : Connection) → slice_get hs k ≡ Some v → slice_get (set ws m w') k ≡ Some x → IsSoundBy devices (lines ++ l ∷ []) later k v x
    each k v x at_v at_x = elim (get-set ws m k w' x at_x) as (λ _. IsSoundBy devices (lines ++ l ∷ []) later k v x) [
      | inl there ↦
          (let here : h' ≡ v = same-at hs m h' v at-h' (subst (λ n. slice_get hs n ≡ Some v) there.0 at_v) in
          subst (λ (z : ℕ × ConnectionHistory × Connection). IsSoundBy devices (lines ++ l ∷ []) later z.0 z.1 z.2) (λ i. (sym there.0 i, here i, there.1 i)) this-one)
      | inr other ↦
          (let o = changed-get devices lines l (with_more bytes) number (server_of lines).fuse ws makes (more-before bytes) sound k v at_v in
          let before = sound.each k o.0 x o.1 other.1 in
          let same : v ≡ o.0 = (elim o.2 as (λ _. v ≡ o.0) [ inl there ↦ absurd (other.0 (omega (arith, there.0, is_number))) | inr apart ↦ apart.1 ]) in
          changed-same devices lines l (with_more bytes) number (server_of lines).fuse ws makes (more-before bytes) sound later k v o.0 x kept at_v o.1 before.log.up
          (subst (λ z. IsSoundBy devices lines (logs_of ws) k z x) (sym same) before))
    ]

    pub gives-connections : AreConnectionsSound devices (lines ++ Line.Late number bytes ∷ []) (at_number (with_more bytes) number (connections_of lines)) (set ws m (record { log = fed w.log b more server; going = going }))
    gives-connections = record {
      as_many = length-set ws m w' ∙ (sound.as_many ∙ sym (changed-count devices lines l (with_more bytes) number (server_of lines).fuse ws makes (more-before bytes) sound));
      places = changed-places devices lines l (with_more bytes) number (server_of lines).fuse ws makes (more-before bytes) sound;
      begins = changed-begins devices lines l (with_more bytes) number (server_of lines).fuse ws makes (more-before bytes) sound;
      each = each;
    }

    logs-at : slice_get (logs_of ws) m ≡ Some w.log
    logs-at = slice_get-map (λ (x : Connection). x.log) ws m ∙ ap (option_map (λ (x : Connection). x.log)) at_w

    logs-set : later ≡ set (logs_of ws) m (fed w.log b more server)
    logs-set = logs-set-at ws m w'

    order : up_to h.allowed (length w.log.up) ≤ up_to h'.allowed (length w.log.up)
    order = plus-more h.allowed bytes (length w.log.up)

    pub gives-archive : IsRightShelf (given_in (at_number (with_more bytes) number (connections_of lines)) (logs_of (set ws m (record { log = fed w.log b more server; going = going }))))
        (counted_in (logs_of (set ws m (record { log = fed w.log b more server; going = going })))) t
    gives-archive =
        let gave = was.log.up in
        let between : frames_between w.log.up_given b w.log.up ≡ frames_between (up_to h.allowed (length w.log.up)) (up_to h'.allowed (length w.log.up)) w.log.up =
        ap (λ (z : ℕ × ℕ). frames_between z.0 z.1 w.log.up) (λ i. (was.log.up i, up_is i)) in
        let good = good-now w.log w.log.server (was.going on).1 in
        let counts = counted-fed w.log b more server failed good f.after f.fault (λ bad. serves-some w.log.imei (frames_between w.log.up_given b w.log.up) s t (subst (λ x. Serves w.log.imei x (frames_between w.log.up_given b w.log.up) s t) bad f.serves)) in
        subst (λ (z : List ConnectionHistory × List ConnectionOutcome). IsRightShelf (given_in z.0 z.1) (counted_in z.1) t) (λ i. (sym set-is i, sym logs-set i))
        (serves-right (given_in (connections_of lines) (logs_of ws)) (counted_in (logs_of ws)) (given_in (set (connections_of lines) m h') (set (logs_of ws) m (fed w.log b more server)))
        (counted_in (set (logs_of ws) m (fed w.log b more server))) w.log.imei failed (frames_between w.log.up_given b w.log.up) s t archive up f.serves
        (record {
          keeps = λ j. given-grows h h' w.log b more server order j m (connections_of lines) (logs_of ws) at_h logs-at;
          has = subst (λ fs. AreIn (given_in (set (connections_of lines) m h') (set (logs_of ws) m (fed w.log b more server)) w.log.imei) (records_in fs)) (sym between)
              (given-has h h' w.log b more server order m (connections_of lines) (logs_of ws) at_h logs-at);
        })
        (λ j. counted-set j m (logs_of ws) w.log b more server (receipted failed (frames_between w.log.up_given b w.log.up)) logs-at counts))
