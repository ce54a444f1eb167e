-- A record is kept: what is printed of the one that it displaces, and what stands after it.
use Rattle.std.proofs.Common.{◌≡◌, ◌<◌, ◌+◌, ℕ, Bool, true, false, List, [], ◌∷◌, ◌++◌, length, take, drop, get_or, inl, inr, refl, sym, ap, subst, ◌∙◌, append-nil, take-append-drop}
use Rattle.std.proofs.lemmas.List.{map-append, take_more}
use Rattle.std.specs.Prelude.{Err, Result, if◌then◌else◌}
use Rattle.avl_values.specs.Record.{Record}
use Rattle.avl_values.specs.Viewed.{record_of, records_viewed}
use Rattle.avl_values.specs.declared.rec.Rec.{Rec}
use Rattle.flash_ring.specs.Entries.{held_of}
use Rattle.flash_ring.specs.Held.{is_full}
use Rattle.flash_ring.specs.Ring.{RingView}
use Rattle.fmb_drive.proofs.Flashing.{run_passed}
use Rattle.fmb_drive.proofs.Halting.{flash_failed, halts_after, halts_at_sink, halts_quiet}
use Rattle.fmb_drive.proofs.Progress.{run_none, stores_more}
use Rattle.fmb_drive.specs.Halts.{Halts}
use Rattle.fmb_drive.specs.Log.{Event, drive_text, lost, lost_line}
use Rattle.fmb_drive.specs.Runs.{BeginsStores, MayGiveUp, Stores, gives_up, lost_first}
use Rattle.fmb_drive.specs.Steps.{Gives, StaysUp, StoresAll}
use Rattle.fmb_drive.specs.declared.stop.Stop.{Stop}
use Rattle.fmb_drive.specs.declared.stop.Stop.TheVariants as stop
use Rattle.fmb_host.proofs.Stocks.{named_none}
use Rattle.fmb_host.specs.Host.{HostView}
use Rattle.fmb_host.specs.Stocks.{PassesNamed}
use Rattle.fmb_io.specs.Printed.{PrintsFront, PrintsWhole, SinkFailed, SinkSteady}
use Rattle.medium_model.proofs.Images.{run-counted}
use Rattle.medium_model.specs.State.{MediumState}
use Rattle.tracker_session.specs.Keeping.{Keeps, LeavesRing}
use Rattle.tracker_session.specs.declared.kept.KeepFault.{KeepFault}
use Rattle.tracker_session.specs.declared.kept.KeepFault.TheVariants as fault
use Rattle.tracker_session.specs.declared.kept.Kept.{Kept}
use Rattle.tracker_session.specs.Trackers.{IsSameDevice, TrackerView}

pub gives_one : (v : RingView) (r : Record) (rs : List Record) → is_full v.slots ≡ true → held_of v.slots ≡ r ∷ rs → gives_up v ≡ lost r ∷ []
gives_one v r rs e held = ap (λ (b : Bool). if b then lost_first (held_of v.slots) else []) e ∙ ap lost_first held

-- the others are as they were
pub sinks_only : (x y : HostView) → y ≡ record x { sink = y.sink } → y ≡ record x { sink = y.sink; wires = y.wires }
sinks_only x y e = e ∙ ap (λ (h : HostView). record x { sink = y.sink; wires = h.wires }) (sym e)

pub no_wires : (address : List ℕ) (x y : HostView) → y ≡ record x { sink = y.sink } → PassesNamed address [] [] x.wires y.wires
no_wires address x y e = subst (λ s. PassesNamed address [] [] x.wires s) (sym (ap (λ (h : HostView). h.wires) e)) (named_none address x.wires)

pub keep_stays : (r : Record) (a b : RingView) → Keeps r false a b → StaysUp a b
keep_stays r a b k = record { up = k.down; size = k.size; run = run_passed (run-counted k.counted) }

-- no line was printed for the record that was to be given up
pub gives_nothing : (v : RingView) → Gives v [] v
gives_nothing v = (inl refl, refl)

-- the sink failed on the line of the record that was to be given up
pub lost_cut : (address : List ℕ) (imei named slots : ℕ) (v w : RingView) (r : Record) (rs : List Record) (text said : List ℕ) (x y : HostView) → w ≡ v → imei ≡ named → is_full w.slots ≡ true → held_of w.slots ≡ r ∷ rs
    → said ≡ text → text ≡ lost_line named r → PrintsFront said x y → SinkFailed x y → y ≡ record x { sink = y.sink } → Halts address (Gives v) stop.SinkFault imei slots x y v.medium v.medium
lost_cut address imei named slots v w r rs text said x y same own full held is made front failed others =
    let one : gives_up v ≡ lost r ∷ [] = gives_one v r rs (subst (λ (u : RingView). is_full u.slots ≡ true) same full) (subst (λ (u : RingView). held_of u.slots ≡ r ∷ rs) same held) in
    let line : said ≡ lost_line imei r = is ∙ made ∙ ap (λ (n : ℕ). lost_line n r) (sym own) in
    halts_at_sink address (Gives v) imei slots (lost r) x y v.medium v (inr (sym one), refl) (subst (λ (t : List ℕ). PrintsFront t x y) line front) failed others

-- what a failed call leaves of the ring
pub failed_ring : (r : Record) (result : Result Kept KeepFault) (a b : RingView) → result ≡ Err fault.MediumFault → LeavesRing r result a b → Keeps r true a b
failed_ring r result a b is leaves = subst (λ (e : Result Kept KeepFault). LeavesRing r e a b) is leaves

-- the flash failed after the line was printed
pub keep_failed : (address : List ℕ) (imei slots : ℕ) (x y : HostView) (a b : RingView) (r : Record) → PrintsWhole (drive_text imei (gives_up a)) x y → SinkSteady x y → y ≡ record x { sink = y.sink } → Keeps r true a b
    → Halts address (Gives a) stop.MediumFault imei slots x y a.medium b.medium
keep_failed address imei slots x y a b r printed steady others k =
    halts_after address (λ more now. (more ≡ []) × (now ≡ a)) (Gives a) stop.MediumFault imei slots x y y a.medium a.medium b.medium (gives_up a)
    (λ more now p. (inr (ap (λ (l : List Event). gives_up a ++ l) p.0 ∙ append-nil (gives_up a)), p.1))
    printed steady [] [] refl (no_wires address x y others) (sinks_only x y others) (run_none a.medium)
    (halts_quiet address (λ more now. (more ≡ []) × (now ≡ a)) stop.MediumFault imei slots y a.medium b.medium a (refl, refl) (flash_failed slots a.medium b.medium (true ≡ true) refl (run-counted k.counted)))

-- some records were kept before it stopped
pub stores_halt : (address : List ℕ) (s : Stop) (imei slots : ℕ) (records kept : List Record) (rest : List Record) (a b : RingView) (x y z : HostView) (after : MediumState) → records ≡ kept ++ rest → StoresAll imei kept a b x y
    → Halts address (Gives b) s imei slots y z b.medium after → Halts address (BeginsStores records a) s imei slots x z a.medium after
stores_halt address s imei slots records kept rest a b x y z after parts st h =
    halts_after address (Gives b) (BeginsStores records a) s imei slots x y z a.medium b.medium after st.log
    (λ more now g. record { kept = kept; rest = rest; parts = parts; before = st.log; more = more; stores = subst (λ (v : RingView). Stores kept a st.log v) (sym g.1) st.stores; gives = subst (λ (v : RingView). MayGiveUp v more) (sym g.1) g.0; joined = refl })
    st.printed st.steady [] [] refl (no_wires address x y st.others) (sinks_only x y st.others) st.stays.run h

-- ---- records one after the other, as the code comes by them
one_more : (recs : List Rec) (k : ℕ) (rec : Rec) → k < length recs → rec ≡ get_or recs k rec → records_viewed (take (k + 1) recs) ≡ records_viewed (take k recs) ++ record_of rec ∷ []
one_more recs k rec low is =
    ap records_viewed (take_more recs k rec low ∙ ap (λ (x : Rec). take k recs ++ x ∷ []) (sym is)) ∙ map-append record_of (take k recs) (rec ∷ [])

parts_at : (recs : List Rec) (k : ℕ) → records_viewed recs ≡ records_viewed (take k recs) ++ records_viewed (drop k recs)
parts_at recs k = ap records_viewed (sym (take-append-drop k recs)) ∙ map-append record_of (take k recs) (drop k recs)

pub all_halt : (address : List ℕ) (s : Stop) (imei named : ℕ) (recs : List Rec) (k : ℕ) (a b : RingView) (x y z : HostView) (after : MediumState) → StoresAll imei (records_viewed (take k recs)) a b x y → named ≡ imei
    → Halts address (Gives b) s named (length b.slots) y z b.medium after → Halts address (BeginsStores (records_viewed recs) a) s imei (length a.slots) x z a.medium after
all_halt address s imei named recs k a b x y z after st same h =
    stores_halt address s imei (length a.slots) (records_viewed recs) (records_viewed (take k recs)) (records_viewed (drop k recs)) a b x y z after (parts_at recs k) st
    (subst (λ (n : ℕ). Halts address (Gives b) s imei n y z b.medium after) st.stays.size (subst (λ (n : ℕ). Halts address (Gives b) s n (length b.slots) y z b.medium after) same h))

pub all_more : (imei named : ℕ) (recs : List Rec) (k : ℕ) (rec : Rec) (a b c : RingView) (x y z : HostView) → k < length recs → rec ≡ get_or recs k rec → named ≡ imei → StoresAll imei (records_viewed (take k recs)) a b x y
    → Keeps (record_of rec) false b c → PrintsWhole (drive_text named (gives_up b)) y z → SinkSteady y z → z ≡ record y { sink = z.sink } → StoresAll imei (records_viewed (take (k + 1) recs)) a c x z
all_more imei named recs k rec a b c x y z low is same st keeps printed steady others =
    subst (λ (rs : List Record). StoresAll imei rs a c x z) (sym (one_more recs k rec low is))
    (stores_more imei (records_viewed (take k recs)) (record_of rec) a b c x y z st keeps (subst (λ (n : ℕ). PrintsWhole (drive_text n (gives_up b)) y z) same printed) steady (keep_stays (record_of rec) b c keeps) others)

pub same_then : (u v w : TrackerView) → IsSameDevice u v → IsSameDevice v w → IsSameDevice u w
same_then u v w first next = record { imei = next.imei ∙ first.imei; order = next.order ∙ first.order }
