-- A tracker with no talk, and one whose talk begins.
use Rattle.std.proofs.Common.{◌≡◌, ◌<◌, false, Bool, List, [], ℕ, length, sym, subst, arith}
use Rattle.std.proofs.lemmas.Bool.{false≢true}
use Rattle.layout.specs.Rows.{short}
use Rattle.item_streams.specs.Readers.{Reader}
use Rattle.frame_layout.specs.DownRows.{down_verdict}
use Rattle.frame_layout.proofs.Lengths.{starts_short_down}
use Rattle.flash_ring.specs.Images.{AreDistinct, AreOpen}
use Rattle.tracker_session.specs.Trackers.{IsTracker, TrackerView}

-- a tracker with this reader
abbrev pub with_reader : TrackerView → Reader → TrackerView
with_reader v r = record v { answered = r.after_first; have = r.have }

pub dialed-tracker : (v : TrackerView) → v.ring.down ≡ false → v.batch ≡ [] → v.answered ≡ false → v.have ≡ [] → IsTracker v
dialed-tracker v up batch answered have =
    let P : List ℕ → Type 0 = λ ks. AreOpen ks v.ring.slots in
    let Q : Bool × List ℕ → Type 0 = λ z. down_verdict z.0 z.1 ≡ short in
    record {
      opens = subst P (sym batch) (λ j has. absurd (false≢true has));
      distinct = subst AreDistinct (sym batch) tt;
      few = subst (λ (ks : List ℕ). length ks < 256) (sym batch) (omega arith);
      talk = λ _. record { up = up; accepted = λ _. batch; waits = subst Q (λ i. (sym answered i, sym have i)) (starts_short_down false) };
    }
