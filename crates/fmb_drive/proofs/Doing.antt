-- What a line of a script does, by the step that did it.
use Rattle.std.proofs.Common.{◌≡◌, ◌==◌, ◌+◌, ◌<◌, ℕ, zero, suc, Bool, true, false, List, [], ◌∷◌, ◌++◌, length, take, drop, Option, Some, None, refl, sym, ap, subst, ◌∙◌, arith}
use Rattle.std.specs.Prelude.{Err, Ok, OnOk, Result, if◌then◌else◌, not, option_map, slice_get, slice_index_or}
use Rattle.std.proofs.lemmas.Grind.{flat_map-append}
use Rattle.acquisition.specs.Deciding.{decided}
use Rattle.acquisition.specs.Settings.{AcquisitionSettings}
use Rattle.acquisition.specs.Sound.{AreRecordsOf}
use Rattle.acquisition.specs.Watching.{Acquiring, Watching}
use Rattle.acquisition.specs.declared.fix.Fix.{Fix}
use Rattle.acquisition.specs.Elements.{ValuesFit}
use Rattle.avl_values.specs.Record.{Record}
use Rattle.avl_values.specs.Viewed.{records_viewed}
use Rattle.avl_values.specs.declared.codec.Codec.{Codec}
use Rattle.avl_values.specs.declared.rec.Rec.{Rec}
use Rattle.flash_ring.specs.Entries.{held_of}
use Rattle.flash_ring.specs.Held.{is_full}
use Rattle.flash_ring.specs.Ring.{RingView}
use Rattle.fmb_drive.proofs.Halting.{halts_after, halts_map, halts_quiet}
use Rattle.fmb_drive.proofs.Keeping.{no_wires, sinks_only}
use Rattle.fmb_drive.proofs.Places.{numbered, parted, take_more}
use Rattle.fmb_drive.proofs.Progress.{does_more, prints_none, prints_one, same_links, stays_none}
use Rattle.fmb_drive.specs.Halts.{Halts}
use Rattle.fmb_drive.specs.Log.{Event, back_by, back_in, connected, given_by, given_in, round_line}
use Rattle.fmb_drive.specs.Opening.{RefusesFlash}
use Rattle.fmb_drive.specs.Runs.{Acquires, Begins, BeginsLine, BeginsStores, Connects, DoesLine, Driver, IsQuiet, PowersUp, Stage, StaysAt, Stores, WhereOwn, gives_up, lost_first, more, none}
use Rattle.fmb_drive.specs.Scripts.{FixesFit}
use Rattle.fmb_drive.specs.Steps.{DoesAll, DoesOne, MakesOne, MayPowerUp, StaysUp, StoresAll, driver}
use Rattle.fmb_drive.specs.declared.stop.Stop.{Stop}
use Rattle.fmb_host.proofs.Stocks.{named_none}
use Rattle.fmb_host.specs.Host.{HostView}
use Rattle.fmb_host.specs.Stocks.{PassesNamed}
use Rattle.fmb_io.specs.Printed.{PrintsWhole}
use Rattle.medium_model.specs.State.{MediumState}
use Rattle.record_codecs.specs.SomeRecord.{IsSomeRecord}
use Rattle.tracker_session.specs.Trackers.{IsSameDevice, TrackerView}
use Rattle.trial_model.specs.Script.{Script}
use Rattle.trial_model.specs.declared.script.ScriptLine.{ScriptLine}
use Rattle.trial_model.specs.declared.script.ScriptLine.TheVariants as Line
use Rattle.trial_model.specs.declared.script.Who.TheVariants as Who

-- ---- lines at which nothing is done
pub does_quiet : (address : List ℕ) (d : Driver) (n : ℕ) (line : ScriptLine) (a : Stage) (x : HostView) → a.ring.down ≡ false → DoesLine d n line a [] a → DoesOne address d n line a a x x
does_quiet address d n line a x up does = record { log = []; does = does; printed = prints_none d.imei x; steady = refl; wires = named_none address x.wires; stays = stays_none a.ring up; others = refl }

abbrev pub IsIdle : ScriptLine → Type 0
IsIdle (Line.Device imei codec slots order period distance angle speed known) = Unit {0}
IsIdle (Line.Setting imei setting) = Unit {0}
IsIdle (Line.Fix imei fix) = ⊥
IsIdle (Line.Round imei piece up down) = ⊥
IsIdle (Line.Drain imei piece) = ⊥
IsIdle (Line.Late connection bytes) = Unit {0}
IsIdle (Line.Close connection) = Unit {0}
IsIdle (Line.Power (Who.Device imei)) = ⊥
IsIdle (Line.Power Who.Server) = Unit {0}
IsIdle (Line.Fuse who calls tear) = Unit {0}

idle : (d : Driver) (n : ℕ) (line : ScriptLine) (a : Stage) → IsIdle line → DoesLine d n line a [] a
idle d n (Line.Device imei codec slots order period distance angle speed known) a is = (refl, refl)
idle d n (Line.Setting imei setting) a is = (refl, refl)
idle d n (Line.Fix imei fix) a is = absurd is
idle d n (Line.Round imei piece up down) a is = absurd is
idle d n (Line.Drain imei piece) a is = absurd is
idle d n (Line.Late connection bytes) a is = (refl, refl)
idle d n (Line.Close connection) a is = (refl, refl)
idle d n (Line.Power (Who.Device imei)) a is = absurd is
idle d n (Line.Power Who.Server) a is = (refl, refl)
idle d n (Line.Fuse who calls tear) a is = (refl, refl)

pub does_idle : (address : List ℕ) (d : Driver) (n : ℕ) (line it : ScriptLine) (a : Stage) (x : HostView) → a.ring.down ≡ false → line ≡ it → IsIdle it → DoesOne address d n line a a x x
does_idle address d n line it a x up same is = does_quiet address d n line a x up (idle d n line a (subst IsIdle (sym same) is))

-- ---- connections
abbrev pub limit_of : ScriptLine → Option ℕ
limit_of (Line.Device imei codec slots order period distance angle speed known) = None
limit_of (Line.Setting imei setting) = None
limit_of (Line.Fix imei fix) = None
limit_of (Line.Round imei piece up down) = Some 1
limit_of (Line.Drain imei piece) = Some 4294967295
limit_of (Line.Late connection bytes) = None
limit_of (Line.Close connection) = None
limit_of (Line.Power who) = None
limit_of (Line.Fuse who calls tear) = None

module _ (d : Driver) (n limit : ℕ) where
  same_limit : (k : ℕ) → Some k ≡ Some limit → k ≡ limit
  same_limit k e = cc

  line_connects : (line : ScriptLine) (a : Stage) (log : List Event) (b : Stage) → limit_of line ≡ Some limit → Connects d n limit a log b → DoesLine d n line a log b
  line_connects (Line.Device imei codec slots order period distance angle speed known) a log b is c = absurd (cc)
  line_connects (Line.Setting imei setting) a log b is c = absurd (cc)
  line_connects (Line.Fix imei fix) a log b is c = absurd (cc)
  line_connects (Line.Round imei piece up down) a log b is c = subst (λ (k : ℕ). Connects d n k a log b) (sym (same_limit 1 is)) c
  line_connects (Line.Drain imei piece) a log b is c = subst (λ (k : ℕ). Connects d n k a log b) (sym (same_limit 4294967295 is)) c
  line_connects (Line.Late connection bytes) a log b is c = absurd (cc)
  line_connects (Line.Close connection) a log b is c = absurd (cc)
  line_connects (Line.Power who) a log b is c = absurd (cc)
  line_connects (Line.Fuse who calls tear) a log b is c = absurd (cc)

  pub does_connect : (address : List ℕ) (line it : ScriptLine) (a b : Stage) (x y : HostView) → line ≡ it → limit_of it ≡ Some limit → b.watching ≡ a.watching → MakesOne address d.imei d.order n limit a.ring b.ring x y → DoesOne address d n line a b x y
  does_connect address line it a b x y same is watching m = record {
    log = connected m.c ∷ [];
    does = line_connects line a (connected m.c ∷ []) b (ap limit_of same ∙ is) (record { c = m.c; is = m.is; line = m.line; most = m.most; before = m.before; after = after; log = refl });
    printed = prints_one d.imei (connected m.c) x y (subst (λ (k : ℕ). PrintsWhole (round_line k m.c.end) x y) (sym m.line) m.printed);
    steady = m.steady;
    wires = m.wires;
    stays = m.stays;
    others = m.others;
  }
    where
      after : b ≡ record a { ring = m.c.after }
      after = ap (λ (r : RingView). let s : Stage = record { ring = r; watching = b.watching } in s) m.after ∙ ap (λ (w : Watching). let s : Stage = record { ring = m.c.after; watching = w } in s) watching

-- ---- fixes

-- a record that is given up has no link
gives_no_links : (full : Bool) (held : List Record) → (given_in (if full then lost_first held else []) ≡ []) × (back_in (if full then lost_first held else []) ≡ [])
gives_no_links false held = (refl, refl)
gives_no_links true [] = (refl, refl)
gives_no_links true (r ∷ rs) = (refl, refl)

stores_no_links : (rs : List Record) (a b : RingView) (log : List Event) → Stores rs a log b → (given_in log ≡ []) × (back_in log ≡ [])
stores_no_links rs a b log (none a') = (refl, refl)
stores_no_links rs a b log (more rs' r a' b' c' log' s keeps) =
    let before = stores_no_links rs' a' b' log' s in
    let here = gives_no_links (is_full b'.slots) (held_of b'.slots) in (
      flat_map-append given_by log' (gives_up b') ∙ ap (λ l. l ++ given_in (gives_up b')) before.0 ∙ here.0,
      flat_map-append back_by log' (gives_up b') ∙ ap (λ l. l ++ back_in (gives_up b')) before.1 ∙ here.1,
    )

module _ (d : Driver) (n who : ℕ) (fix : Fix) (a : Stage) where
  pub does_fix : (address : List ℕ) (rs : List Record) (b : Stage) (x y : HostView) → (who == d.imei) ≡ true → rs ≡ (decided d.settings a.watching fix).records → b.watching ≡ (decided d.settings a.watching fix).watching
      → StoresAll d.imei rs a.ring b.ring x y → DoesOne address d n (Line.Fix who fix) a b x y
  does_fix address rs b x y own same watching st = record {
    log = st.log;
    does = subst (λ (t : Bool). WhereOwn t (Acquires d fix a st.log b) (IsQuiet a st.log b)) (sym own) (record { stores = subst (λ (l : List Record). Stores l a.ring st.log b.ring) same st.stores; watching = watching });
    printed = st.printed;
    steady = st.steady;
    wires = let none = stores_no_links rs a.ring b.ring st.log st.stores in
        subst (λ given. PassesNamed address given (back_in st.log) x.wires y.wires) (sym none.0) (subst (λ back. PassesNamed address [] back x.wires y.wires) (sym none.1) (no_wires address x y st.others));
    stays = st.stays;
    others = sinks_only x y st.others;
  }

  pub does_other : (address : List ℕ) (x : HostView) → a.ring.down ≡ false → (who == d.imei) ≡ false → DoesOne address d n (Line.Fix who fix) a a x x
  does_other address x up other = does_quiet address d n (Line.Fix who fix) a x up (subst (λ (t : Bool). WhereOwn t (Acquires d fix a [] a) (IsQuiet a [] a)) (sym other) (refl, refl))

  pub fix_halts : (address : List ℕ) (s : Stop) (imei slots : ℕ) (rs : List Record) (x y : HostView) (old new : MediumState) → (who == d.imei) ≡ true → rs ≡ (decided d.settings a.watching fix).records
      → Halts address (BeginsStores rs a.ring) s imei slots x y old new → Halts address (BeginsLine d n (Line.Fix who fix) a) s imei slots x y old new
  fix_halts address s imei slots rs x y old new own same h =
      halts_map address (BeginsStores rs a.ring) (BeginsLine d n (Line.Fix who fix) a) s imei slots x y old new
      (λ log now st. subst (λ (t : Bool). WhereOwn t (BeginsStores (decided d.settings a.watching fix).records a.ring log now) (StaysAt a log now)) (sym own) (subst (λ (l : List Record). BeginsStores l a.ring log now) same st)) h

-- ---- power
powers_line : (own : Bool) (a b : Stage) → MayPowerUp own a b → WhereOwn own ((let none : List Event = [] in none ≡ []) × PowersUp a b) (IsQuiet a [] b)
powers_line true a b p = (refl, p)
powers_line false a b p = (refl, p)

pub does_power : (address : List ℕ) (d : Driver) (n who : ℕ) (line : ScriptLine) (a b : Stage) (x : HostView) → line ≡ Line.Power (Who.Device who) → MayPowerUp (d.imei == who) a b → StaysUp a.ring b.ring → DoesOne address d n line a b x x
does_power address d n who line a b x same p stays = subst (λ (l : ScriptLine). DoesOne address d n l a b x x) (sym same)
    (record { log = []; does = powers_line (d.imei == who) a b p; printed = prints_none d.imei x; steady = refl; wires = named_none address x.wires; stays = stays; others = refl })

pub power_halts : (address : List ℕ) (s : Stop) (d : Driver) (n imei slots who : ℕ) (line : ScriptLine) (a : Stage) (x : HostView) (new : MediumState) → line ≡ Line.Power (Who.Device who) → RefusesFlash s slots a.ring.medium new
    → Halts address (BeginsLine d n line a) s imei slots x x a.ring.medium new
power_halts address s d n imei slots who line a x new same r = subst (λ (l : ScriptLine). Halts address (BeginsLine d n l a) s imei slots x x a.ring.medium new) (sym same)
    (halts_quiet address (BeginsLine d n (Line.Power (Who.Device who)) a) s imei slots x a.ring.medium new a.ring (refl, refl) r)

-- ---- the lines one after the other, as the code comes by them
driver_same : (v w : TrackerView) (p q : Acquiring) → IsSameDevice v w → q.settings ≡ p.settings → driver w q ≡ driver v p
driver_same v w p q same settings = cc (same.imei, same.order, settings)

module _ (v w : TrackerView) (p q : Acquiring) (same : IsSameDevice v w) (settings : q.settings ≡ p.settings) (script : Script) (i number : ℕ) (line : ScriptLine) (at_number : option_map (λ (l : ℕ × ScriptLine). l.0) (slice_get script i) ≡ Some number)
    (at_line : option_map (λ (l : ℕ × ScriptLine). l.1) (slice_get script i) ≡ Some line) where
  here : slice_get script i ≡ Some (number, line)
  here = numbered script i number line at_number at_line

  -- a fix of the device fits its settings
  pub fits_here : FixesFit v.imei p.settings script → (fix : Fix) → line ≡ Line.Fix w.imei fix → ValuesFit q.settings.ios fix.values.items
  fits_here fit fix is =
      subst (λ (s : AcquisitionSettings). ValuesFit s.ios fix.values.items) (sym settings)
      (fit i number fix (here ∙ ap (λ (l : ScriptLine). Some (number, l)) (is ∙ ap (λ (n : ℕ). Line.Fix n fix) same.imei)))

  -- one line more was done
  pub plays_more : (address : List ℕ) (a b c : Stage) (x y z : HostView) → DoesAll address (driver v p) (take i script) a b x y → DoesOne address (driver w q) number line b c y z → DoesAll address (driver v p) (take (i + 1) script) a c x z
  plays_more address a b c x y z done one =
      let e : i + 1 ≡ suc i = omega arith in
      subst (λ (s : Script). DoesAll address (driver v p) s a c x z) (sym (ap (λ (k : ℕ). take k script) e ∙ take_more script i (number, line) here))
      (does_more address (driver v p) (take i script) (number, line) a b c x y z done (subst (λ (d : Driver). DoesOne address d number line b c y z) (driver_same v w p q same settings) one))

  -- it was broken off
  pub plays_halt : (address : List ℕ) (s : Stop) (a b : Stage) (x y z : HostView) (after : MediumState) → DoesAll address (driver v p) (take i script) a b x y → Halts address (BeginsLine (driver w q) number line b) s w.imei (length b.ring.slots) y z b.ring.medium after
      → Halts address (Begins (driver v p) script a) s v.imei (length a.ring.slots) x z a.ring.medium after
  plays_halt address s a b x y z after done h =
      halts_after address (BeginsLine (driver v p) number line b) (Begins (driver v p) script a) s v.imei (length a.ring.slots) x y z a.ring.medium b.ring.medium after done.log
      (λ more now begins. record { done = take i script; line = (number, line); rest = drop (suc i) script; parts = parted script i (number, line) here; b = b; before = done.log; more = more; runs = done.runs; begins = begins; joined = refl })
      done.printed done.steady (given_in done.log) (back_in done.log) (same_links done.log) done.wires done.others done.stays.run
      (subst (λ (n : ℕ). Halts address (BeginsLine (driver v p) number line b) s v.imei n y z b.ring.medium after) done.stays.size
      (subst (λ (n : ℕ). Halts address (BeginsLine (driver v p) number line b) s n (length b.ring.slots) y z b.ring.medium after) same.imei
      (subst (λ (d : Driver). Halts address (BeginsLine d number line b) s w.imei (length b.ring.slots) y z b.ring.medium after) (driver_same v w p q same settings) h)))

-- ---- what follows from a fact of an Ok
pub ok_map : {T E A M : Type 0} (r : Result T E) → (A → M) → OnOk r A → OnOk r M
ok_map (Ok x) f a = f a
ok_map (Err e) f a = tt

-- each record that a fix makes is one
pub records_of : (codec : Codec) (list : List Rec) → AreRecordsOf codec (records_viewed list) → (k : ℕ) (d : Rec) → k < length list → IsSomeRecord (slice_index_or list k d).codec (slice_index_or list k d).bytes.items
records_of codec [] are k d low = absurd (omega (arith, low))
records_of codec (y ∷ list) are zero d low = subst (λ (c : Codec). IsSomeRecord c y.bytes.items) (sym are.0.0) are.0.1
records_of codec (y ∷ list) are (suc k) d low = records_of codec list are.1 k d (omega (arith, low))

-- two numbers that aren't told to differ, or are
pub told_other : (a b c : ℕ) (differ : Bool) → differ ≡ not (a == b) → differ ≡ true → c ≡ b → (a == c) ≡ false
told_other a b c differ is test same = ap (λ (n : ℕ). a == n) same ∙ by (a == b) (sym is ∙ test)
  where
    by : (t : Bool) → not t ≡ true → t ≡ false
    by true e = absurd (let never : false ≡ true = e in cc)
    by false e = refl

pub told_same : (a b c : ℕ) (differ : Bool) → differ ≡ not (a == b) → differ ≡ false → c ≡ b → (a == c) ≡ true
told_same a b c differ is test same = ap (λ (n : ℕ). a == n) same ∙ by (a == b) (sym is ∙ test)
  where
    by : (t : Bool) → not t ≡ false → t ≡ true
    by true e = refl
    by false e = absurd (let never : true ≡ false = e in cc)
