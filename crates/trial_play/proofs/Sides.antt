-- A line at the devices' sides: each device's own line, and the lines of others.
use Rattle.std.proofs.Common.{◌≡◌, inl, inr, ℕ, ◌==◌, true, false, List, [], ◌∷◌, ◌++◌, length, Option, Some, None, is_some, if◌then◌else◌, sym, ◌∙◌, ap, subst, arith, append-nil, eq-eqb, eqb-true}
use Rattle.avl_values.specs.Record.{Record}
use Rattle.shelf.specs.Shelf.{ShelfView}
use Rattle.trial_model.specs.declared.outcome.ConnectionOutcome.{ConnectionOutcome}
use Rattle.trial_model.specs.declared.script.ScriptLine.{ScriptLine}
use Rattle.trial_model.specs.Connections.{ConnectionHistory, connections_of}
use Rattle.trial_model.specs.Decisions.{DeviceHistory, after_line, history_of, steps_of}
use Rattle.trial_model.specs.Delivery.{heard_of}
use Rattle.trial_model.specs.Frames.{records_in}
use Rattle.trial_model.specs.Kept.{ends_of}
use Rattle.trial_model.specs.Script.{Device, opening_of}
use Rattle.trial_device.specs.Sides.{IsSideSound, Side}
use Rattle.trial_server.specs.Archives.{Account, with_records}
use Rattle.trial_wire.specs.Connections.{Connection}
use Rattle.trial_play.specs.Plays.{OneSide}
use Rattle.trial_play.specs.ServerLines.{EndsLine, FeedsLate, gives, gives_nothing}
use Rattle.trial_play.specs.Trials.{AreSidesSound, connecting, heard_in, history_in, logs_of}
use Rattle.trial_play.proofs.Given.{records-push}
use Rattle.trial_play.proofs.KeptLogs.{AreKeptLogs, ends-append, ends-kept, ends-length, heard-kept, kept-cut, kept-fed, kept-same, logs-length}
use Rattle.trial_play.proofs.Places.{eqb-flip}
use Rattle.trial_play.proofs.Steps.{connections-count, history-line, history-opens}

-- What a line does to the logs, as the devices see them.

pub ends-kept-logs : (fuse : Option ℕ) (ws new : List Connection) (s t : ShelfView) → EndsLine fuse ws new s t → AreKeptLogs (logs_of ws) (logs_of new)
ends-kept-logs None ws new s t ends = kept-same (logs_of ws) (logs_of new) (ap logs_of ends.0)
ends-kept-logs (Some k) ws new s t ends = subst (λ v. AreKeptLogs (logs_of ws) (logs_of v)) (sym ends.0) (kept-cut ws)

pub late-kept-logs : (devices : List Device) (number : ℕ) (bytes : Option ℕ) (hs : List ConnectionHistory) (ws new : List Connection) (s t : ShelfView) → FeedsLate devices number bytes hs ws new s t → AreKeptLogs (logs_of ws) (logs_of new)
late-kept-logs devices number bytes hs ws new s t feeds = elim feeds as (λ _. AreKeptLogs (logs_of ws) (logs_of new)) [
  | gives_nothing off same still ↦ kept-same (logs_of ws) (logs_of new) (ap logs_of same)
  | gives n h w failed b more server going is_number at_h at_w on up_is f same ↦ subst (λ v. AreKeptLogs (logs_of ws) (logs_of v)) (sym same) (kept-fed ws n w b more server going at_w)
]

-- Sides of which nothing changed.
pub sides-same : (heard later : Account) (history after : Device → DeviceHistory) → ((imei : ℕ) → later imei ≡ heard imei) → ((x : Device) → after x ≡ history x) → (xs : List Device) (ds : List Side)
    → AreSidesSound heard history xs ds → AreSidesSound later after xs ds
sides-same heard later history after same_heard same_history [] [] s = tt
sides-same heard later history after same_heard same_history [] (d ∷ ds) s = absurd s
sides-same heard later history after same_heard same_history (x ∷ xs) [] s = absurd s
sides-same heard later history after same_heard same_history (x ∷ xs) (d ∷ ds) s = (
  (s.0.0, subst (λ (z : List Record × DeviceHistory). IsSideSound z.0 z.1 d) (λ i. (sym (same_heard x.imei) i, sym (same_history x) i)) s.0.1),
  sides-same heard later history after same_heard same_history xs ds s.1,
)

-- One device's side goes on, and each other stays.
pub sides-after : (imei : ℕ) (R : Side → Side → Type 0) (heard later : Account) (history after : Device → DeviceHistory)
    → ((x : Device) (d e : Side) → x.imei ≡ imei → d.device ≡ x → IsSideSound (heard x.imei) (history x) d → R d e → (e.device ≡ x) × IsSideSound (later x.imei) (after x) e)
    → ((x : Device) → (x.imei == imei) ≡ false → (later x.imei ≡ heard x.imei) × (after x ≡ history x))
    → (xs : List Device) (ds es : List Side) → OneSide imei R xs ds es → AreSidesSound heard history xs ds → AreSidesSound later after xs es
sides-after imei R heard later history after one others [] [] [] o s = tt
sides-after imei R heard later history after one others [] [] (e ∷ es) o s = absurd o
sides-after imei R heard later history after one others [] (d ∷ ds) es o s = absurd o
sides-after imei R heard later history after one others (x ∷ xs) [] es o s = absurd o
sides-after imei R heard later history after one others (x ∷ xs) (d ∷ ds) [] o s = absurd o
sides-after imei R heard later history after one others (x ∷ xs) (d ∷ ds) (e ∷ es) o s = (
  elim o.0 as (λ _. (e.device ≡ x) × IsSideSound (later x.imei) (after x) e) [
    | inl mine ↦ one x d e (eqb-true x.imei imei mine.0) s.0.0 s.0.1 mine.1
    | inr other ↦
        (let same = others x other.0 in
        subst (λ (v : Side). (v.device ≡ x) × IsSideSound (later x.imei) (after x) v) (sym other.1)
        (s.0.0, subst (λ (z : List Record × DeviceHistory). IsSideSound z.0 z.1 d) (λ i. (sym same.0 i, sym same.1 i)) s.0.1))
  ],
  sides-after imei R heard later history after one others xs ds es o.1 s.1,
)

module _ (devices : List Device) (lines : List ScriptLine) (ws new : List Connection) (sides : List Side)
    (as_many : length ws ≡ length (connections_of lines))
    (sound : AreSidesSound (heard_in (logs_of ws)) (history_in lines (logs_of ws)) devices sides) where
  ends-many : connecting lines ≡ length (ends_of (logs_of ws))
  ends-many = omega (arith, connections-count lines, as_many, logs-length ws, ends-length (logs_of ws))

  -- a line that doesn't connect
  line-history : (x : Device) (l : ScriptLine) → is_some (opening_of l) ≡ false → AreKeptLogs (logs_of ws) (logs_of new) → history_in (lines ++ l ∷ []) (logs_of new) x ≡ after_line x (history_in lines (logs_of ws) x) None l
  line-history x l none kept =
      ap (λ ends. history_of x (steps_of (lines ++ l ∷ []) ends)) (ends-kept (logs_of ws) (logs_of new) kept) ∙ history-line x lines (ends_of (logs_of ws)) l ends-many none

  -- A line that is no device's.
  pub line-sides : (l : ScriptLine) → is_some (opening_of l) ≡ false → AreKeptLogs (logs_of ws) (logs_of new) → ((x : Device) (h : DeviceHistory) → after_line x h None l ≡ h)
      → AreSidesSound (heard_in (logs_of new)) (history_in (lines ++ l ∷ []) (logs_of new)) devices sides
  line-sides l none kept stays =
      sides-same (heard_in (logs_of ws)) (heard_in (logs_of new)) (history_in lines (logs_of ws)) (history_in (lines ++ l ∷ []) (logs_of new))
      (λ imei. heard-kept imei (logs_of ws) (logs_of new) kept) (λ x. line-history x l none kept ∙ stays x (history_in lines (logs_of ws) x)) devices sides sound

  -- A line of one device that doesn't connect.
  pub device-sides : (l : ScriptLine) (imei : ℕ) (R : Side → Side → Type 0) (after : List Side) → is_some (opening_of l) ≡ false → AreKeptLogs (logs_of ws) (logs_of new)
      → ((x : Device) (h : DeviceHistory) → (x.imei == imei) ≡ false → after_line x h None l ≡ h)
      → ((x : Device) (d e : Side) (heard : List Record) (h : DeviceHistory) → x.imei ≡ imei → d.device ≡ x → IsSideSound heard h d → R d e → (e.device ≡ x) × IsSideSound heard (after_line x h None l) e)
      → OneSide imei R devices sides after → AreSidesSound (heard_in (logs_of new)) (history_in (lines ++ l ∷ []) (logs_of new)) devices after
  device-sides l imei R after none kept stays goes one =
      sides-after imei R (heard_in (logs_of ws)) (heard_in (logs_of new)) (history_in lines (logs_of ws)) (history_in (lines ++ l ∷ []) (logs_of new))
      (λ x d e is device was r. subst (λ (z : List Record × DeviceHistory). (e.device ≡ x) × IsSideSound z.0 z.1 e)
      (λ i. (sym (heard-kept x.imei (logs_of ws) (logs_of new) kept) i, sym (line-history x l none kept) i))
      (goes x d e (heard_in (logs_of ws) x.imei) (history_in lines (logs_of ws) x) is device was r))
      (λ x other. (heard-kept x.imei (logs_of ws) (logs_of new) kept, line-history x l none kept ∙ stays x (history_in lines (logs_of ws) x) other)) devices sides after one sound

  -- A line of one device that connects.
  module _ (l : ScriptLine) (c : ConnectionOutcome) (connects : is_some (opening_of l) ≡ true) (kept : AreKeptLogs (logs_of ws ++ c ∷ []) (logs_of new)) where
    opens-history : (x : Device) → history_in (lines ++ l ∷ []) (logs_of new) x ≡ after_line x (history_in lines (logs_of ws) x) (Some c.device) l
    opens-history x =
        ap (λ ends. history_of x (steps_of (lines ++ l ∷ []) ends)) (ends-kept (logs_of ws ++ c ∷ []) (logs_of new) kept ∙ ends-append (logs_of ws) (c ∷ []))
        ∙ history-opens x lines (ends_of (logs_of ws)) l c.device ends-many connects

    heard-one : (imei : ℕ) → heard_in (logs_of new) imei ≡ with_records c.imei (records_in (heard_of c)) (heard_in (logs_of ws)) imei
    heard-one imei = heard-kept imei (logs_of ws ++ c ∷ []) (logs_of new) kept ∙ records-push heard_of imei (logs_of ws) c

    heard-own : (x : Device) → x.imei ≡ c.imei → heard_in (logs_of new) x.imei ≡ heard_in (logs_of ws) x.imei ++ records_in (heard_of c)
    heard-own x is = heard-one x.imei ∙ ap (λ b. heard_in (logs_of ws) x.imei ++ (if b then records_in (heard_of c) else [])) (eq-eqb c.imei x.imei (sym is))

    heard-other : (x : Device) → (x.imei == c.imei) ≡ false → heard_in (logs_of new) x.imei ≡ heard_in (logs_of ws) x.imei
    heard-other x other = heard-one x.imei
        ∙ (ap (λ b. heard_in (logs_of ws) x.imei ++ (if b then records_in (heard_of c) else [])) (eqb-flip x.imei c.imei other) ∙ append-nil (heard_in (logs_of ws) x.imei))

    pub connection-sides : (R : Side → Side → Type 0) (after : List Side)
        → ((x : Device) (h : DeviceHistory) → (x.imei == c.imei) ≡ false → after_line x h (Some c.device) l ≡ h)
        → ((x : Device) (d e : Side) (heard : List Record) (h : DeviceHistory) → x.imei ≡ c.imei → d.device ≡ x → IsSideSound heard h d → R d e
        → (e.device ≡ x) × IsSideSound (heard ++ records_in (heard_of c)) (after_line x h (Some c.device) l) e)
        → OneSide c.imei R devices sides after → AreSidesSound (heard_in (logs_of new)) (history_in (lines ++ l ∷ []) (logs_of new)) devices after
    connection-sides R after stays goes one =
        sides-after c.imei R (heard_in (logs_of ws)) (heard_in (logs_of new)) (history_in lines (logs_of ws)) (history_in (lines ++ l ∷ []) (logs_of new))
        (λ x d e is device was r. subst (λ (z : List Record × DeviceHistory). (e.device ≡ x) × IsSideSound z.0 z.1 e) (λ i. (sym (heard-own x is) i, sym (opens-history x) i))
        (goes x d e (heard_in (logs_of ws) x.imei) (history_in lines (logs_of ws) x) is device was r))
        (λ x other. (heard-other x other, opens-history x ∙ stays x (history_in lines (logs_of ws) x) other)) devices sides after one sound
