-- A round that listens: its start, a read, and a piece taken bit by bit.
use Rattle.std.proofs.Common.{◌≡◌, ℕ, ◌+◌, ◌-◌, ◌≤◌, List, [], ◌++◌, take, drop, Option, refl, sym, ap, subst, ◌∙◌, append_assoc, append-nil, arith}
use Rattle.std.proofs.lemmas.List.{take-append-drop, take-take}
use Rattle.std.proofs.Math.Seq.{take-add}
use Rattle.layout.specs.Bytes.{AreBytes}
use Rattle.layout.proofs.Numbers.{bytes-append}
use Rattle.links.specs.Links.{Moves, Traffic}
use Rattle.links.proofs.Moving.{moves_as, moves_none, moves_then}
use Rattle.medium_model.proofs.Images.{counted-none}
use Rattle.flash_ring.specs.Ring.{RingView}
use Rattle.tracker_session.specs.Responses.{ShellMeaning}
use Rattle.tracker_session.specs.RoundStates.{Round, round_of, starts}
use Rattle.tracker_session.specs.Rounds.{written}
use Rattle.tracker_session.specs.Trackers.{TrackerView}
use Rattle.tracker_session.specs.Turns.{Begins, IsReady}
use Rattle.tracker_session.specs.declared.round.Progress.{Progress}
use Rattle.tracker_session.proofs.Advancing.{advances-as, advances-none}
use Rattle.tracker_session.proofs.Going.{Goes}

-- the bytes of a piece that were taken from a place on
pub piece-took : (buffer : List ℕ) (at n count : ℕ) → at + n ≤ count → take n (take (count - at) (drop at buffer)) ≡ take n (drop at buffer)
piece-took buffer at n count le = take-take n (count - at) (drop at buffer) (omega arith)

pub heard-more : (heard buffer : List ℕ) (at n count : ℕ) → at + n ≤ count → (heard ++ take at buffer) ++ take n (take (count - at) (drop at buffer)) ≡ heard ++ take (at + n) buffer
heard-more heard buffer at n count le =
    ap (λ (b : List ℕ). (heard ++ take at buffer) ++ b) (piece-took buffer at n count le) ∙ append_assoc heard (take at buffer) (take n (drop at buffer)) ∙ ap (λ (b : List ℕ). heard ++ b) (sym (take-add at n buffer))

pub all-taken : (heard buffer : List ℕ) (at n count : ℕ) → at + n ≤ count → heard ++ take count buffer ≡ ((heard ++ take at buffer) ++ take n (take (count - at) (drop at buffer))) ++ drop (at + n) (take count buffer)
all-taken heard buffer at n count le =
    ap (λ (b : List ℕ). heard ++ b) (sym (take-append-drop (at + n) (take count buffer)))
    ∙ ap (λ (b : List ℕ). heard ++ (b ++ drop (at + n) (take count buffer))) (take-take (at + n) count buffer le)
    ∙ sym (append_assoc heard (take (at + n) buffer) (drop (at + n) (take count buffer)))
    ∙ ap (λ (b : List ℕ). b ++ drop (at + n) (take count buffer)) (sym (heard-more heard buffer at n count le))

-- the bytes of a piece, heard up to a place and left from there on
pub piece-bytes : (heard buffer : List ℕ) (at count : ℕ) → at ≤ count → AreBytes (heard ++ take at buffer) → AreBytes (take (count - at) (drop at buffer)) → AreBytes (heard ++ take count buffer)
piece-bytes heard buffer at count le front back =
    let same : (heard ++ take at buffer) ++ take (count - at) (drop at buffer) ≡ heard ++ take count buffer =
    append_assoc heard (take at buffer) (take (count - at) (drop at buffer)) ∙ ap (λ (b : List ℕ). heard ++ b) (sym (take-add at (count - at) buffer)) ∙ ap (λ (n : ℕ). heard ++ take n buffer) (omega arith) in
    subst AreBytes same (bytes-append (heard ++ take at buffer) (take (count - at) (drop at buffer)) front back)

module _ {S : Type 0} (m : ShellMeaning S) where
  -- a round that begins
  pub goes-none : (v : TrackerView) (p : Progress) (s : S) (x : Option Traffic) → IsReady v → Begins v p → Goes m (round_of v p s) [] [] v.ring v p s x x
  goes-none v p s x ready begins = record {
    state = starts (round_of v p s);
    bytes_heard = tt;
    advances = advances-as m (round_of v p s) [] [] [] v.have (starts (round_of v p s)) (starts (round_of v p s)) refl (sym begins.have) refl (advances-none m (round_of v p s));
    stands = record {
      accepted = begins.answered;
      batch = begins.batch;
      left = refl;
      orders = begins.orders;
      done = begins.done;
      imei = refl;
      order = refl;
      leaves = record { ring = refl; durable = ready.durable; counted = counted-none v.ring.medium; untouched = λ _. refl; shell = refl };
    };
    wire = moves_none x;
    ready = ready;
  }

  -- more bytes were taken from the link, and none of them is heard yet
  pub goes-read : (r : Round S) (bytes other taken more : List ℕ) (old : RingView) (v : TrackerView) (p : Progress) (s : S) (x y z : Option Traffic) → bytes ≡ other → Goes m r bytes taken old v p s x y → Moves more [] y z → Goes m r other (taken ++ more) old v p s x z
  goes-read r bytes other taken more old v p s x y z same g move = record {
    state = g.state;
    bytes_heard = subst AreBytes same g.bytes_heard;
    advances = advances-as m r bytes other v.have v.have g.state g.state same refl refl g.advances;
    stands = g.stands;
    wire = moves_as (taken ++ more) (written m r g.advances ++ []) (taken ++ more) (written m r g.advances) x z refl (append-nil (written m r g.advances)) (moves_then taken (written m r g.advances) more [] x y z g.wire move);
    ready = g.ready;
  }

  -- the same bytes, told otherwise
  pub goes-as : (r : Round S) (bytes other taken : List ℕ) (old : RingView) (v : TrackerView) (p : Progress) (s : S) (x y : Option Traffic) → bytes ≡ other → Goes m r bytes taken old v p s x y → Goes m r other taken old v p s x y
  goes-as r bytes other taken old v p s x y same g = record {
    state = g.state;
    bytes_heard = subst AreBytes same g.bytes_heard;
    advances = advances-as m r bytes other v.have v.have g.state g.state same refl refl g.advances;
    stands = g.stands;
    wire = g.wire;
    ready = g.ready;
  }
