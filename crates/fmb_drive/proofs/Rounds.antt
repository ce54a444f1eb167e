-- A connection of a device: what its round leaves, and what the host has handed out and taken back for it.
use Rattle.std.proofs.Common.{◌≡◌, ◌⊎◌, inl, inr, ℕ, Bool, true, false, List, [], ◌∷◌, ◌++◌, Result, Ok, Err, refl, sym, ap, subst, ◌∙◌, arith}
use Rattle.std.specs.Prelude.{IfErr, IsErrAnd, OnOk}
use Rattle.avl_values.specs.Causes.{Rose}
use Rattle.avl_values.specs.Record.{Record}
use Rattle.avl_values.specs.declared.errors.MediumFault.{MediumFault}
use Rattle.doors.specs.Doors.{IsUnused}
use Rattle.flash_ring.specs.Entries.{held_of}
use Rattle.flash_ring.specs.Ring.{RingView}
use Rattle.fmb_drive.proofs.Flashing.{run_passed}
use Rattle.fmb_drive.proofs.Halting.{halts_after, halts_at_sink, halts_quiet, no_memory}
use Rattle.fmb_drive.proofs.Progress.{prints_none}
use Rattle.fmb_drive.proofs.Records.{part-rest}
use Rattle.fmb_drive.specs.Halts.{Halts}
use Rattle.fmb_drive.specs.Log.{Connection, Event, connected, drive_text, round_line}
use Rattle.fmb_drive.specs.Runs.{AreSame, BeginsConnection, logged, plain, unlogged}
use Rattle.fmb_drive.specs.Steps.{MakesOne}
use Rattle.fmb_drive.specs.declared.stop.Stop.{Stop}
use Rattle.fmb_drive.specs.declared.stop.Stop.TheVariants as stop
use Rattle.fmb_host.proofs.Stocks.{named_one}
use Rattle.fmb_host.specs.Host.{HandsOutWire, HostView, TakesBackWire}
use Rattle.fmb_host.specs.Stocks.{PassesNamed}
use Rattle.fmb_io.specs.Printed.{PrintsFront, PrintsWhole, SinkFailed, SinkSteady}
use Rattle.links.specs.Links.{LinkState}
use Rattle.medium_model.proofs.Images.{run-counted}
use Rattle.medium_model.specs.State.{IsRun}
use Rattle.text_streams.specs.Writes as writes
use Rattle.tracker_session.specs.RoundStates.{round_by}
use Rattle.tracker_session.specs.Trackers.{TrackerView}
use Rattle.tracker_session.specs.Turns.{BreaksWith}
use Rattle.tracker_session.specs.WholeRounds.{IsWholeRound}
use Rattle.tracker_session.specs.declared.round_end.RoundEnd.{RoundEnd}
use Rattle.tracker_session.specs.declared.shell.PlainShell.{PlainShell}

is_false : (b : Bool) → (b ≡ true → ⊥) → b ≡ false
is_false true apart = absurd (apart refl)
is_false false apart = refl

-- the host handed out a link of this address and took it back, and nothing else changed
pub record Linked (address : List ℕ) (given back : LinkState) (x z : HostView) : Type 0 where
  wires : PassesNamed address (given ∷ []) (back ∷ []) x.wires z.wires
  others : z ≡ record x { wires = z.wires }

pub linked : (address : List ℕ) (given back : LinkState) (x y z : HostView) → HandsOutWire x address given y → TakesBackWire y back z → Linked address given back x z
linked address given back x y z out home = record {
  wires = named_one address given back x.wires y.wires z.wires out.wires home.wires;
  others = home.others ∙ ap (λ (h : HostView). record h { wires = z.wires }) out.others;
}

later_others : (x z w : HostView) → z ≡ record x { wires = z.wires } → w ≡ record z { sink = w.sink } → w ≡ record x { sink = w.sink; wires = w.wires }
later_others x z w first next =
    let wires : z.wires ≡ w.wires = sym (ap (λ (h : HostView). h.wires) next) in
    next ∙ ap (λ (h : HostView). record h { sink = w.sink }) first ∙ ap (λ s. let h : HostView = record x { sink = w.sink; wires = s } in h) wires

module _ (address : List ℕ) (v : TrackerView) (ring : RingView) (most line : ℕ) (given back : LinkState) (first last : PlainShell) where
  -- what a round's result is
  abbrev Rounds : Result RoundEnd MediumFault → Type 0
  Rounds result = IsWholeRound plain (round_by v most first) (Rose given.faults back.faults) v.ring ring last given.told back.told result

  run_round : (result : Result RoundEnd MediumFault) → Rounds result → IsRun v.ring.medium ring.medium (ring.down ≡ true)
  run_round result r = run-counted r.ring.counted

  abbrev the_connection : RoundEnd → (released : List Record) → Connection
  the_connection end released = record { line = line; most = most; before = v.ring; after = ring; given = given; back = back; end = end; released = released }

  pub up_after : (end : RoundEnd) → Rounds (Ok end) → ring.down ≡ false
  up_after end r = is_false ring.down (λ e. let never : false ≡ true = r.ring.down.1 e in cc)

  pub makes_one : (end : RoundEnd) (x z w : HostView) → Rounds (Ok end) → BreaksWith (Ok end) given back → IsUnused given → Linked address given back x z
      → PrintsWhole (round_line line end) z w → SinkSteady z w → w ≡ record z { sink = w.sink } → MakesOne address v.imei v.order line most v.ring ring x w
  makes_one end x z w r broken unused l printed steady others =
      let rest = part-rest (held_of ring.slots) (held_of v.ring.slots) r.ring.slots.part in
      record {
        c = the_connection end rest.0;
        is = record {
          unused = unused;
          first = first;
          last = last;
          round = r;
          broken = broken;
          released = rest.1;
          durable = r.ring.durable (up_after end r);
          run = run_passed (run_round (Ok end) r);
        };
        line = refl;
        most = refl;
        before = refl;
        after = refl;
        printed = subst (λ s. writes.PrintsWhole (round_line line end) s w.sink) (ap (λ (h : HostView). h.sink) l.others) printed;
        steady = steady ∙ ap (λ (h : HostView). h.sink.faults) l.others;
        wires = subst (λ s. PassesNamed address (given ∷ []) (back ∷ []) x.wires s) (sym (ap (λ (h : HostView). h.wires) others)) l.wires;
        stays = record { up = up_after end r; size = r.ring.size; run = run_passed (run_round (Ok end) r) };
        others = later_others x z w l.others others;
      }

  -- the flash failed in it
  pub failed_round : (imei slots : ℕ) (x z : HostView) → (fault : MediumFault) → Rounds (Err fault) → Linked address given back x z → Halts address (BeginsConnection v.imei v.order line most v.ring) stop.MediumFault imei slots x z v.ring.medium ring.medium
  failed_round imei slots x z fault r l =
      let run = run_round (Err fault) r in
      let down : ring.down ≡ true = r.ring.down.0 refl in
      record {
        log = [];
        now = v.ring;
        holds = unlogged line most v.ring;
        spent = λ e. absurd (cc);
        front = (0, quiet_print);
        whole = λ _. (quiet_print, ap (λ (h : HostView). h.sink.faults) l.others);
        links = given ∷ [];
        ends = back ∷ [];
        same_count = refl;
        wires = l.wires;
        sink_fault = λ e. absurd (cc);
        medium_fault = λ _. (run.cause down, λ u. run.never u down);
        host_fault = λ e. absurd (cc);
        no_host_fault = λ _. ap (λ (h : HostView). h.counts) l.others;
        size = λ got wanted e. absurd (cc);
        slot = λ number e. absurd (cc);
        later = run.later;
        others = wired x z l.others;
      }
    where
      quiet_print : PrintsWhole (drive_text imei []) x z
      quiet_print = subst (λ s. writes.PrintsWhole [] x.sink s) (sym (ap (λ (h : HostView). h.sink) l.others)) (prints_none imei x)

      wired : (x z : HostView) → z ≡ record x { wires = z.wires } → z ≡ record x { counts = z.counts; sink = z.sink; wires = z.wires }
      wired x z e = e ∙ (let same : record x { wires = z.wires } ≡ record x { counts = z.counts; sink = z.sink; wires = z.wires } = (
          ap (λ (h : HostView). record x { counts = h.counts; sink = h.sink; wires = z.wires }) (sym e)) in same)

  -- memory ran out, or the sink failed, on the line of its end
  pub failed_print : (imei slots : ℕ) (x z w : HostView) (end : RoundEnd) (s : Stop) → Rounds (Ok end) → BreaksWith (Ok end) given back → IsUnused given → Linked address given back x z → (s ≡ stop.NoMemory) ⊎ (s ≡ stop.SinkFault) → (s ≡ stop.NoMemory → w ≡ z)
      → (s ≡ stop.SinkFault → PrintsFront (round_line line end) z w × SinkFailed z w) → w ≡ record z { sink = w.sink } → Halts address (BeginsConnection v.imei v.order line most v.ring) s imei slots x w v.ring.medium ring.medium
  failed_print imei slots x z w end s r broken unused l among quiet cut others =
      halts_after address At Begun s imei slots x z w v.ring.medium ring.medium ring.medium [] (λ more now p. p) (subst (λ t. writes.PrintsWhole [] x.sink t) (sym (ap (λ (h : HostView). h.sink) l.others)) (prints_none imei x))
      (ap (λ (h : HostView). h.sink.faults) l.others) (given ∷ []) (back ∷ []) refl l.wires (sinked x z l.others) (run_passed (run_round (Ok end) r)) (here among)
    where
      Begun : List Event → RingView → Type 0
      Begun log now = BeginsConnection v.imei v.order line most v.ring log now

      At : List Event → RingView → Type 0
      At log now = BeginsConnection v.imei v.order line most v.ring log now

      rest : (released : List Record) × AreSame (held_of ring.slots ++ released) (held_of v.ring.slots)
      rest = part-rest (held_of ring.slots) (held_of v.ring.slots) r.ring.slots.part

      begun : BeginsConnection v.imei v.order line most v.ring (connected (the_connection end rest.0) ∷ []) ring
      begun = logged (the_connection end rest.0) (record {
        unused = unused;
        first = first;
        last = last;
        round = r;
        broken = broken;
        released = rest.1;
        durable = r.ring.durable (up_after end r);
        run = run_passed (run_round (Ok end) r);
      })

      sinked : (x z : HostView) → z ≡ record x { wires = z.wires } → z ≡ record x { sink = z.sink; wires = z.wires }
      sinked x z e = e ∙ (let same : record x { wires = z.wires } ≡ record x { sink = z.sink; wires = z.wires } = ap (λ (h : HostView). record x { sink = h.sink; wires = z.wires }) (sym e) in same)

      here : (s ≡ stop.NoMemory) ⊎ (s ≡ stop.SinkFault) → Halts address At s imei slots z w ring.medium ring.medium
      here (inl e) = subst (λ (t : Stop). Halts address At t imei slots z w ring.medium ring.medium) (sym e)
          (subst (λ (h : HostView). Halts address At stop.NoMemory imei slots z h ring.medium ring.medium) (sym (quiet e)) (halts_quiet address At stop.NoMemory imei slots z ring.medium ring.medium v.ring (unlogged line most v.ring) (no_memory slots ring.medium ring.medium (omega arith))))
      here (inr e) = let c = cut e in subst (λ (t : Stop). Halts address At t imei slots z w ring.medium ring.medium) (sym e)
          (halts_at_sink address At imei slots (connected (the_connection end rest.0)) z w ring.medium ring begun c.0 c.1 others)

-- what follows from two facts of an Ok, and from a fact of an Err
pub both_ok : {T E A B M : Type 0} (r : Result T E) → (A → B → M) → OnOk r A → OnOk r B → OnOk r M
both_ok (Ok x) f a b = f a b
both_ok (Err e) f a b = tt

pub err_map : {T E : Type 0} (A M : E → Type 0) (r : Result T E) → ((e : E) → r ≡ Err e → A e → M e) → IfErr r A → IfErr r M
err_map A M (Ok x) f a = tt
err_map A M (Err e) f a = f e refl a

-- an error that was handed on
pub handed_on : {T E : Type 0} (r : Result T E) (e : E) (P : E → Type 0) → IsErrAnd r (λ x. x ≡ e) → P e → IfErr r P
handed_on (Ok x) e P h p = tt
handed_on (Err x) e P h p = subst P (sym h) p
