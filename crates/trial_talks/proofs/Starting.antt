-- Before the first byte of a line: a new wire, and a session that goes on from earlier lines.
use Rattle.std.proofs.Common.{◌/◌, ◌≡◌, ◌≤◌, ◌<◌, ◌^◌, ◌⊎◌, inl, inr, ℕ, zero, suc, ◌-◌, ◌&&◌, nat_le, nat_lt, Bool, true, false, List, [], ◌∷◌, length, take, Option, Some, None, refl, sym, ◌∙◌, ap, subst, arith, append-nil, if◌then◌else◌}
use Rattle.std.specs.List.{filter}
use Rattle.std.proofs.lemmas.Bool.{cases_lt, true≢false}
use Rattle.avl_values.specs.Record.{Record}
use Rattle.frame_layout.specs.UpRows.{up_rows}
use Rattle.frame_layout.specs.Values.{UpValue}
use Rattle.frame_layout.proofs.Lengths.{starts_short_up}
use Rattle.item_streams.specs.Streams.{IsNotWhole, Item, Reading}
use Rattle.item_streams.proofs.StreamLaws.{nothing_read}
use Rattle.session_core.specs.declared.known.Known.{Known}
use Rattle.session_core.specs.Knowing.{knows}
use Rattle.shelf.specs.Shelf.{ShelfView}
use Rattle.tracker_session.specs.Sending.{AreSentBodies, stream_up}
use Rattle.trial_model.specs.declared.outcome.ConnectionOutcome.{ConnectionOutcome}
use Rattle.trial_model.specs.declared.outcome.DeviceEnd.{DeviceEnd}
use Rattle.trial_model.specs.declared.outcome.DeviceEnd.TheVariants as End
use Rattle.trial_model.specs.declared.outcome.ServerEnd.TheVariants as Server
use Rattle.trial_model.specs.declared.script.ScriptLine.{ScriptLine}
use Rattle.trial_model.specs.Answers.{counted_of}
use Rattle.trial_model.specs.Connections.{ConnectionHistory, up_to}
use Rattle.trial_model.specs.Cover.{IsBelow}
use Rattle.trial_model.specs.Delivery.{delivered_of, heard_of}
use Rattle.trial_model.specs.Frames.{Frame, counts_of, frames_from, frames_of, frames_within, login_size}
use Rattle.trial_model.specs.Logs.{HasFewFrames}
use Rattle.trial_model.specs.Script.{Opening}
use Rattle.trial_server.specs.Serving.{Serves}
use Rattle.trial_wire.specs.Connections.{Connection, IsConnectionSound, IsEndNow, IsFed, IsHeard, IsRounded, fed}
use Rattle.trial_wire.specs.Hearing.{Hears, answers, as_frames, device_in, items_in, rest_in}
use Rattle.trial_wire.specs.WireLinks.{IsLive, new_wire}
use Rattle.trial_wire.proofs.Changing.{good-now}
use Rattle.trial_wire.proofs.Filters.{between-some}
use Rattle.trial_wire.proofs.Living.{device-is, first, long-items, packets, packets-are, short-items}

-- no bytes have no items
pub no-items : items_in [] ≡ []
no-items = ap (λ (r : Reading UpValue). r.items) (nothing_read (up_rows false) (up_rows true) 0 [] (subst IsNotWhole (sym (starts_short_up false)) tt))

pub no-rest : rest_in [] ≡ []
no-rest = ap (λ (r : Reading UpValue). r.rest) (nothing_read (up_rows false) (up_rows true) 0 [] (subst IsNotWhole (sym (starts_short_up false)) tt))

-- a session that has heard nothing
pub hears-nothing : (known : ℕ → Bool) (s : ShelfView) (items : List (Item UpValue)) → s.down ≡ false → items ≡ [] → Hears known [] s items [] s
hears-nothing known s items up none = subst (λ is. Hears known [] s is [] s) (sym none) (record {
  up = up;
  down_is = none-answered (known 0);
  friend = inl refl;
  news = [];
  split = refl;
  serves = (refl, refl);
})
  where
    none-answered : (friend : Bool) → [] ≡ answers friend []
    none-answered true = refl
    none-answered false = refl

-- A new wire starts live, over a shelf that is up.
pub wire-live : (s : ShelfView) (known : Known) (limit most : Option ℕ) → s.down ≡ false → IsLive [] s (new_wire s known limit most)
wire-live s known limit most up = hears-nothing (knows known) s (items_in []) up no-items

-- A `round` or `drain` line on which nothing was sent.

no-frames : frames_of [] ≡ []
unfolding frames_from
no-frames = refl

none-within : (n : ℕ) → frames_within n [] ≡ []
none-within n = ap (λ (fs : List Frame). within n fs) no-frames
  where
    within : ℕ → List Frame → List Frame
    within n fs = filter (λ f. nat_le f.end n) fs

abbrev pub empty_log : ℕ → ConnectionOutcome
empty_log imei = record { imei = imei; up = []; up_given = 0; down = []; down_given = 0; device = End.Empty; server = Server.Ended }

-- nothing was heard
pub none-heard-of : (imei : ℕ) → heard_of (empty_log imei) ≡ []
none-heard-of imei = ap (λ (fs : List Frame). take ((0 - 1) / 4) fs) no-frames

none-given : (limit : Option ℕ) → 0 ≡ up_to limit 0
none-given None = refl
none-given (Some n) = omega arith

few-none : (drains : Bool) (imei : ℕ) → HasFewFrames drains (empty_log imei)
few-none true imei = tt
few-none false imei = omega (arith, ap length no-frames)

below-none : (cover : Option ℕ) → IsBelow cover 0 → ⊥
below-none None below = below
below-none (Some k) below = omega (arith, below)

pub empty-rounded : (known : Bool) (cover : Option ℕ) (earlier : List Record) (o : Opening) (s : ShelfView) → IsRounded known false cover earlier o (empty_log o.imei) true s s
empty-rounded known cover earlier o s = record {
  imei = refl;
  given = none-given o.up;
  down_given = none-given o.down;
  sent = refl;
  few = few-none o.drains o.imei;
  device = record {
    empty = (λ d. refl, λ none. refl);
    refused = (λ d. absurd (let q : ◌≡◌ {A = DeviceEnd} End.Empty End.Refused = d in cc), λ e. absurd (let q : ◌≡◌ {A = List ℕ} [] (0 ∷ []) = e in cc));
    medium = (λ d. absurd (let q : ◌≡◌ {A = DeviceEnd} End.Empty End.MediumFault = d in cc), λ below. absurd (below-none cover below));
    broken = (λ d. absurd (let q : ◌≡◌ {A = DeviceEnd} End.Empty End.Broken = d in cc), λ lacks. absurd (let some = lacks.0 in omega (arith, some)));
    done = tt;
  };
  done = tt;
  stream = inl refl;
  heard = record {
    within = omega arith;
    without_login = λ few. refl;
    stranger = λ long unknown. absurd (omega (arith, long));
    counts = λ long friend. absurd (omega (arith, long));
    uncounted = λ bad. absurd (true≢false (sym bad));
  };
  serves = subst (λ fs. Serves o.imei false fs s s) (sym (none-within 0)) (refl, refl);
  fault = refl;
  end = omega arith;
  all = λ off. absurd (true≢false off);
}

-- A line that gives a session nothing.

none-between : (a : ℕ) (fs : List Frame) → filter (λ f. nat_lt a f.end && nat_le f.end a) fs ≡ []
none-between a fs = nil-from (filter (λ f. nat_lt a f.end && nat_le f.end a) fs) (λ some. (let more = between-some a a fs some in omega (arith, more)))
  where
    nil-from : (gs : List Frame) → (1 ≤ length gs → ⊥) → gs ≡ []
    nil-from [] none = refl
    nil-from (g ∷ gs) none = absurd (none (omega arith))

fed-nothing : (c : ConnectionOutcome) → fed c c.up_given [] c.server ≡ c
fed-nothing c = ap (λ (d : List ℕ). (let l : ConnectionOutcome = record c { down = d } in l)) (append-nil c.down)

module _ (lines : List ScriptLine) (logs : List ConnectionOutcome) (known : Bool) (cover : Option ℕ) (earlier : List Record) (n : ℕ) (h : ConnectionHistory) (w : Connection)
    (sound : IsConnectionSound lines logs known cover earlier n h w) (going : w.going ≡ true) where
  pub nothing-fed : (s : ShelfView) → IsFed known false w.log.up_given w.log [] w.log.server true s s
  nothing-fed s = record {
    after = omega arith;
    serves = subst (λ fs. Serves w.log.imei false fs s s) (sym (none-between w.log.up_given (frames_of w.log.up))) (refl, refl);
    heard = subst (IsHeard known) (sym (fed-nothing w.log)) sound.heard;
    fault = good-now w.log w.log.server (sound.going going).1;
    end = subst (λ (c : ConnectionOutcome). IsEndNow c w.log.server) (sym (fed-nothing w.log)) (sound.going going).1;
    all = λ off. absurd (true≢false off);
  }

-- The session of a connection that goes on has answered all items of the bytes that it took, and the line's frames are yet to come.
module _ (lines : List ScriptLine) (logs : List ConnectionOutcome) (known : ℕ → Bool) (cover : Option ℕ) (earlier : List Record) (n : ℕ) (h : ConnectionHistory) (w : Connection)
    (sound : IsConnectionSound lines logs (known w.log.imei) cover earlier n h w) (going : w.going ≡ true) (digits : w.log.imei < 10 ^ 15) (s : ShelfView) (up : s.down ≡ false) where
  abbrev taken : List (Item UpValue)
  taken = items_in (take w.log.up_given w.log.up)

  hears-by : (items : List (Item UpValue)) → w.log.down ≡ answers (known (device_in items)) items → (items ≡ []) ⊎ (known (device_in items) ≡ true) → Hears known items s items w.log.down s
  hears-by items down friend = record { up = up; down_is = down; friend = friend; news = []; split = sym (append-nil items); serves = (refl, refl) }

  friend-now : login_size ≤ w.log.up_given → known w.log.imei ≡ true
  friend-now long = by (known w.log.imei) refl
    where
      by : (k : Bool) → known w.log.imei ≡ k → known w.log.imei ≡ true
      by true is = is
      by false is = absurd (subst (IsEndNow w.log) (sound.heard.stranger long is).1 (sound.going going).1)

  -- nothing was sent
  none-sent : w.log.up ≡ [] → Hears known taken s taken w.log.down s
  none-sent none =
      let low : w.log.up_given ≤ 0 = omega (arith, sound.heard.within, ap length none) in
      let items : taken ≡ [] = ap (λ (u : List ℕ). items_in (take w.log.up_given u)) none ∙ (ap items_in (take-none w.log.up_given) ∙ no-items) in
      hears-by taken (sound.heard.without_login (omega (arith, low)) ∙ sym (ap (λ is. answers (known (device_in is)) is) items ∙ none-answered (known 0))) (inl items)
    where
      take-none : (n : ℕ) → take {A = ℕ} n [] ≡ []
      take-none zero = refl
      take-none (suc n) = refl

      none-answered : (friend : Bool) → answers friend [] ≡ []
      none-answered true = refl
      none-answered false = refl

  some-sent : (bodies : List (List ℕ)) → AreSentBodies bodies → w.log.up ≡ stream_up w.log.imei bodies → Hears known taken s taken w.log.down s
  some-sent bodies are up_is = elim (cases_lt w.log.up_given login_size) as (λ _. Hears known taken s taken w.log.down s) [
    | inl short ↦ (
        let items : taken ≡ [] = short-items bodies are w.log digits up_is sound.heard.within short in
        hears-by taken (sound.heard.without_login short ∙ sym (ap (λ is. answers (known (device_in is)) is) items ∙ none-answered (known 0))) (inl items))
    | inr long ↦ (
        let items : taken ≡ first bodies are w.log digits up_is sound.heard.within ∷ packets bodies are w.log digits up_is sound.heard.within = long-items bodies are w.log digits up_is sound.heard.within long in
        let who : known (device_in taken) ≡ true = ap known (device-is bodies are w.log digits up_is sound.heard.within long) ∙ friend-now long in
        let frames : as_frames (packets bodies are w.log digits up_is sound.heard.within) ≡ delivered_of w.log = packets-are bodies are w.log digits up_is sound.heard.within in
        let counted : counted_of w.log ≡ delivered_of w.log = ap (λ b. if b then take (length (delivered_of w.log) - 1) (delivered_of w.log) else delivered_of w.log) (good-now w.log w.log.server (sound.going going).1) in
        hears-by taken
        (sound.heard.counts long (friend-now long) ∙ (ap (λ fs. 1 ∷ counts_of fs) (counted ∙ sym frames) ∙ sym (ap (λ k. answers k taken) who ∙ ap (λ is. answers true is) items)))
        (inr who))
  ]
    where
      none-answered : (friend : Bool) → answers friend [] ≡ []
      none-answered true = refl
      none-answered false = refl

  pub going-hears : Hears known taken s taken w.log.down s
  going-hears = elim sound.stream as (λ _. Hears known taken s taken w.log.down s) [
    | inl none ↦ none-sent none
    | inr sent ↦ some-sent sent.bodies sent.are sent.is
  ]
