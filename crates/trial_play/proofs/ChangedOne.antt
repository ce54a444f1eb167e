-- A line that changes what is said of one connection alone: `late` and `close` lines.
use Rattle.std.proofs.Common.{◌≡◌, ◌≤◌, ◌⊎◌, inl, inr, ℕ, suc, List, [], ◌∷◌, ◌++◌, length, slice_get, Option, Some, sym, ◌∙◌, ap, subst, arith}
use Rattle.trial_model.specs.declared.outcome.ConnectionOutcome.{ConnectionOutcome}
use Rattle.trial_model.specs.declared.script.ScriptLine.{ScriptLine}
use Rattle.trial_model.specs.Connections.{ConnectionHistory, at_number, connections_of, given_by, if_covered, up_to}
use Rattle.trial_model.specs.Script.{Device}
use Rattle.trial_wire.specs.Connections.{Connection}
use Rattle.trial_play.specs.Trials.{AreConnectionsSound, BeginsWith, IsSoundBy, connecting, logs_of}
use Rattle.trial_play.proofs.Connections.{begins-more, given-at, given-now, line-sound}
use Rattle.trial_play.proofs.KeptLogs.{AreKeptLogs, earlier-kept, kept-itself, sent-kept}
use Rattle.trial_play.proofs.Places.{get-changed, length-changed, number-changed}

module _ (devices : List Device) (lines : List ScriptLine) (l : ScriptLine) (f : ConnectionHistory → ConnectionHistory) (number : ℕ) (fuse : Option ℕ) (ws : List Connection)
    (makes : connections_of (lines ++ l ∷ []) ≡ if_covered fuse (at_number f number (connections_of lines)))
    (front : (h : ConnectionHistory) → (f h).before ≡ h.before)
    (sound : AreConnectionsSound devices lines (connections_of lines) ws) where
  abbrev pub histories : List ConnectionHistory
  histories = at_number f number (connections_of lines)

  -- where a history comes from
  abbrev pub IsOf : ℕ → ConnectionHistory → Type 0
  IsOf k v = (h : ConnectionHistory) × (slice_get (connections_of lines) k ≡ Some h) × (((number ≡ suc k) × (v ≡ f h)) ⊎ ((number ≡ suc k → ⊥) × (v ≡ h)))

  pub changed-get : (k : ℕ) (v : ConnectionHistory) → slice_get histories k ≡ Some v → IsOf k v
  changed-get k v at = get-changed f number (connections_of lines) k v (ap (λ hs. slice_get hs k) (sym (number-changed f number (connections_of lines))) ∙ at)

  of-before : (k : ℕ) (v : ConnectionHistory) (o : IsOf k v) → v.before ≡ o.0.before
  of-before k v o = elim o.2 as (λ _. v.before ≡ o.0.before) [
    | inl there ↦ ap (λ (z : ConnectionHistory). z.before) there.1 ∙ front o.0
    | inr other ↦ ap (λ (z : ConnectionHistory). z.before) other.1
  ]

  pub changed-count : length histories ≡ length (connections_of lines)
  changed-count = ap length (number-changed f number (connections_of lines)) ∙ length-changed f number (connections_of lines)

  pub changed-places : (k : ℕ) (v : ConnectionHistory) → slice_get histories k ≡ Some v → connecting v.before ≤ k
  changed-places k v at = (let o = changed-get k v at in subst (λ ls. connecting ls ≤ k) (sym (of-before k v o)) (sound.places k o.0 o.1))

  pub changed-begins : (k : ℕ) (v : ConnectionHistory) → slice_get histories k ≡ Some v → BeginsWith v.before (lines ++ l ∷ [])
  changed-begins k v at = (let o = changed-get k v at in subst (λ ls. BeginsWith ls (lines ++ l ∷ [])) (sym (of-before k v o)) (begins-more o.0.before lines l (sound.begins k o.0 o.1)))

  pub changed-gives : (k sent : ℕ) (v : ConnectionHistory) → slice_get histories k ≡ Some v → given_by (lines ++ l ∷ []) k sent ≡ up_to v.allowed sent
  changed-gives k sent v at = given-now lines l fuse histories k sent v makes at

  -- a connection that is given nothing
  pub changed-same : (later : List ConnectionOutcome) (k : ℕ) (v h : ConnectionHistory) (w : Connection) → AreKeptLogs (logs_of ws) later → slice_get histories k ≡ Some v → slice_get (connections_of lines) k ≡ Some h
      → w.log.up_given ≡ up_to h.allowed (length w.log.up) → IsSoundBy devices lines (logs_of ws) k v w → IsSoundBy devices (lines ++ l ∷ []) later k v w
  changed-same later k v h w kept at_v at_h was now =
      let gave = given-at (connections_of lines) k (length w.log.up) h at_h in
      let gives = changed-gives k (length w.log.up) v at_v in
      let after = now.log.up in
      line-sound devices lines l (logs_of ws) later k v w (sent-kept lines (logs_of ws) later w.log.imei kept) (earlier-kept devices (logs_of ws) later v kept) (omega (arith, gave, gives, was, after)) now

  -- It is given nothing, and each other one stays.
  pub changed-connections : (new : List Connection) → length new ≡ length ws → logs_of new ≡ logs_of ws
      → ((k : ℕ) (v : Connection) → slice_get new k ≡ Some v → (w : Connection) × (slice_get ws k ≡ Some w) × (v.log ≡ w.log)
      × (number ≡ suc k → (h : ConnectionHistory) → IsSoundBy devices lines (logs_of ws) k h w → IsSoundBy devices lines (logs_of ws) k (f h) v) × ((number ≡ suc k → ⊥) → v ≡ w))
      → AreConnectionsSound devices (lines ++ l ∷ []) histories new
  changed-connections new size logs from = record {
    as_many = size ∙ (sound.as_many ∙ sym changed-count);
    places = changed-places;
    begins = changed-begins;
    each = λ k v w at_v at_w. (let o = changed-get k v at_v in let p = from k w at_w in
        let was = sound.each k o.0 p.0 o.1 p.1 in
        let up : w.log.up_given ≡ up_to o.0.allowed (length w.log.up) = subst (λ (c : ConnectionOutcome). c.up_given ≡ up_to o.0.allowed (length c.up)) (sym p.2) was.log.up in
        let now : IsSoundBy devices lines (logs_of ws) k v w = (elim o.2 as (λ _. IsSoundBy devices lines (logs_of ws) k v w) [
          | inl there ↦ subst (λ z. IsSoundBy devices lines (logs_of ws) k z w) (sym there.1) (p.3 there.0 o.0 was)
          | inr other ↦ subst (λ (z : ConnectionHistory × Connection). IsSoundBy devices lines (logs_of ws) k z.0 z.1) (λ i. (sym other.1 i, sym (p.4 other.0) i)) was
        ]) in
        subst (λ later. IsSoundBy devices (lines ++ l ∷ []) later k v w) (sym logs) (changed-same (logs_of ws) k v o.0 w (kept-itself (logs_of ws)) at_v o.1 up now));
  }
