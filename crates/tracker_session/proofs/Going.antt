-- A round that goes on, as the code keeps it, and how each turn takes it further or ends it.
use Rattle.std.proofs.Common.{◌≡◌, ℕ, ◌+◌, ◌-◌, ◌<◌, nat_lt, Bool, true, List, [], ◌∷◌, ◌++◌, length, take, Option, None, refl, sym, ap, subst, ◌∙◌, append-nil, arith, length-append}
use Rattle.std.proofs.lemmas.Bool.{ltb-true}
use Rattle.avl_values.specs.declared.order.Order.{Order}
use Rattle.layout.specs.Bytes.{AreBytes}
use Rattle.layout.specs.Rows.{Verdict, whole}
use Rattle.layout.proofs.Numbers.{bytes-append, bytes-take}
use Rattle.links.specs.Links.{Moves, Traffic}
use Rattle.links.proofs.Moving.{moves_as, moves_then}
use Rattle.medium_model.specs.State.{MediumState}
use Rattle.medium_model.proofs.Images.{counted-as, counted-then}
use Rattle.frame_layout.specs.DownRows.{down_verdict}
use Rattle.frame_layout.specs.Values.{DownValue, answer, count, order}
use Rattle.flash_ring.specs.Held.{Held, closed_all}
use Rattle.flash_ring.specs.Ring.{RingView}
use Rattle.tracker_session.specs.Batches.{frame_in}
use Rattle.tracker_session.specs.Hearing.{HearsSome, Releases}
use Rattle.tracker_session.specs.Responses.{ShellMeaning, answer_frame, shell_after}
use Rattle.tracker_session.specs.RoundStates.{Fits, IsWaiting, Round, RoundState, accepts, counts, next, next_batch, one_less, sends, slots_now, writes}
use Rattle.tracker_session.specs.Rounds.{Advances, Leaves, written}
use Rattle.tracker_session.specs.Trackers.{TrackerView}
use Rattle.tracker_session.specs.Turns.{IsReady, Reacts, SendsBatch, Takes, batch_now}
use Rattle.tracker_session.specs.declared.round.Progress.{Progress}
use Rattle.tracker_session.specs.declared.heard.Heard.TheVariants as heard
use Rattle.tracker_session.specs.declared.heard.Hearing.{Hearing}
use Rattle.tracker_session.specs.declared.heard.Hearing.TheVariants as hearing
use Rattle.tracker_session.proofs.Advancing.{advances-as, advances-item, advances-more, written-item}

closed-append : (a b : List ℕ) (slots : List (Option Held)) → closed_all (a ++ b) slots ≡ closed_all b (closed_all a slots)
closed-append [] b slots = refl
closed-append (k ∷ a) b slots = closed-append a b _

one-less : (ks : List ℕ) (n : ℕ) → 0 < length ks → one_less ks n ≡ n - 1
one-less [] n some = absurd (omega arith)
one-less (k ∷ ks) n some = refl

pub none-less : (ks : List ℕ) (n : ℕ) → ks ≡ [] → one_less ks n ≡ n
none-less [] n none = refl
none-less (k ∷ ks) n none = absurd cc

module _ {S : Type 0} (m : ShellMeaning S) (r : Round S) where
  -- what the code keeps is where the round stands
  pub record Stands (d : RoundState S) (old : RingView) (v : TrackerView) (p : Progress) (s : S) : Type 0 where
    pub accepted : v.answered ≡ d.accepted
    pub batch : v.batch ≡ d.batch
    pub left : p.left ≡ d.left
    pub orders : p.orders ≡ d.orders
    pub done : p.done ≡ length d.closed
    pub imei : v.imei ≡ r.imei
    pub order : v.order ≡ r.sends
    pub leaves : Leaves m r d old v.ring s

  -- the slots that the code sees
  pub slots-same : (d : RoundState S) (old : RingView) (v : TrackerView) (p : Progress) (s : S) → Stands d old v p s → v.ring.slots ≡ slots_now m r d
  slots-same d old v p s at = ap (λ (w : RingView). w.slots) at.leaves.ring

  pub batch-same : (d : RoundState S) (old : RingView) (v : TrackerView) (p : Progress) (s : S) → Stands d old v p s → batch_now p.left v.order v.ring.slots ≡ next_batch m r d
  batch-same d old v p s at = ap (λ (z : ℕ × Order × List (Option Held)). batch_now z.0 z.1 z.2) (λ i. (at.left i, at.order i, slots-same d old v p s at i))

  pub frame-same : (d : RoundState S) (old : RingView) (v : TrackerView) (p : Progress) (s : S) → Stands d old v p s → frame_in v.ring.slots (batch_now p.left v.order v.ring.slots) ≡ frame_in (slots_now m r d) (next_batch m r d)
  frame-same d old v p s at = ap (λ (z : List (Option Held) × List ℕ). frame_in z.0 z.1) (λ i. (slots-same d old v p s at i, batch-same d old v p s at i))

  -- the next batch went out
  pub sends-on : (d : RoundState S) (old : RingView) (v w : TrackerView) (p q : Progress) (s : S) (x y : Option Traffic) → Stands d old v p s → SendsBatch None v w p q x y
      → Stands (sends m r d) old w q s × Moves [] (frame_in (slots_now m r d) (next_batch m r d)) x y
  sends-on d old v w p q s x y at sent =
      let same = batch-same d old v p s at in
      let some : 0 < length (next_batch m r d) = subst (λ (ks : List ℕ). 0 < length ks) same sent.0 in
      let left_is = sent.2 in
      let left_at = at.left in
      let P : RingView → Type 0 = λ z. Leaves m r d old z s in (
        record {
          accepted = ap (λ (z : TrackerView). z.answered) sent.1 ∙ at.accepted;
          batch = ap (λ (z : TrackerView). z.batch) sent.1 ∙ same;
          left = (let less = one-less (next_batch m r d) d.left some in omega arith);
          orders = sent.3 ∙ at.orders;
          done = sent.4 ∙ at.done;
          imei = ap (λ (z : TrackerView). z.imei) sent.1 ∙ at.imei;
          order = ap (λ (z : TrackerView). z.order) sent.1 ∙ at.order;
          leaves = (let l = subst P (sym (ap (λ (z : TrackerView). z.ring) sent.1)) at.leaves in record { ring = l.ring; durable = l.durable; counted = l.counted; untouched = l.untouched; shell = l.shell });
        },
        moves_as [] _ [] _ x y refl (frame-same d old v p s at) sent.5,
      )

  -- the login was accepted
  pub accepts-on : (d : RoundState S) (old : RingView) (v u : TrackerView) (p : Progress) (s : S) → Stands d old v p s → u ≡ record v { answered = true; have = [] } → Stands (accepts m r d) old u p s
  accepts-on d old v u p s at is =
      let P : RingView → Type 0 = λ z. Leaves m r d old z s in
      record {
        accepted = ap (λ (z : TrackerView). z.answered) is;
        batch = ap (λ (z : TrackerView). z.batch) is ∙ at.batch;
        left = at.left;
        orders = at.orders;
        done = at.done;
        imei = ap (λ (z : TrackerView). z.imei) is ∙ at.imei;
        order = ap (λ (z : TrackerView). z.order) is ∙ at.order;
        leaves = (let l = subst P (sym (ap (λ (z : TrackerView). z.ring) is)) at.leaves in record { ring = l.ring; durable = l.durable; counted = l.counted; untouched = l.untouched; shell = l.shell });
      }

  -- the batch was counted
  pub counts-on : (d : RoundState S) (old : RingView) (v u : TrackerView) (p : Progress) (k : ℕ) (s : S) → Stands d old v p s → k ≡ length v.batch → u ≡ record v { ring = u.ring; batch = []; have = [] } → Releases v.batch v.ring u.ring
      → Stands (counts m r d) old u (record p { done = p.done + k }) s
  counts-on d old v u p k s at k_is is released =
      let slots : closed_all v.batch v.ring.slots ≡ slots_now m r (counts m r d) =
      ap (λ (z : List ℕ × List (Option Held)). closed_all z.0 z.1) (λ i. (at.batch i, slots-same d old v p s at i)) ∙ sym (closed-append d.closed d.batch r.slots) in
      let size : length v.batch ≡ length d.batch = ap length at.batch in
      let done_at = at.done in
      let before : MediumState = v.ring.medium in
      record {
        accepted = ap (λ (z : TrackerView). z.answered) is ∙ at.accepted;
        batch = ap (λ (z : TrackerView). z.batch) is;
        left = at.left;
        orders = at.orders;
        done = omega (arith, length-append d.closed d.batch);
        imei = ap (λ (z : TrackerView). z.imei) is ∙ at.imei;
        order = ap (λ (z : TrackerView). z.order) is ∙ at.order;
        leaves = record {
          ring = released.is ∙ ap (λ (z : List (Option Held) × ℕ × Bool). let w : RingView = record { medium = u.ring.medium; slots = z.0; next = z.1; down = z.2 } in w)
              (λ i. (slots i, ap (λ (w : RingView). w.next) at.leaves.ring i, ap (λ (w : RingView). w.down) at.leaves.ring i));
          durable = released.durable;
          counted = counted-as (let more = length-append d.closed d.batch in omega arith) (λ f. f) (λ f. f) (counted-then at.leaves.counted released.counted);
          untouched = λ none. absurd (omega arith);
          shell = at.leaves.shell;
        };
      }

  -- a command was obeyed
  pub orders-on : (d : RoundState S) (old : RingView) (v w : TrackerView) (p q : Progress) (s t : S) (body : List ℕ) → Stands d old v p s → w ≡ record v { have = [] } → q ≡ record p { orders = p.orders + 1 } → t ≡ shell_after m v.imei s body
      → Stands (next m r d (order body)) old w q t
  orders-on d old v w p q s t body at is progress shell =
      let P : RingView → Type 0 = λ z. Leaves m r d old z s in
      let l = subst P (sym (ap (λ (z : TrackerView). z.ring) is)) at.leaves in
      record {
        accepted = ap (λ (z : TrackerView). z.answered) is ∙ at.accepted;
        batch = ap (λ (z : TrackerView). z.batch) is ∙ at.batch;
        left = ap (λ (z : Progress). z.left) progress ∙ at.left;
        orders = ap (λ (z : Progress). z.orders) progress ∙ ap (λ (n : ℕ). n + 1) at.orders;
        done = ap (λ (z : Progress). z.done) progress ∙ at.done;
        imei = ap (λ (z : TrackerView). z.imei) is ∙ at.imei;
        order = ap (λ (z : TrackerView). z.order) is ∙ at.order;
        leaves = record {
          ring = l.ring;
          durable = l.durable;
          counted = l.counted;
          untouched = l.untouched;
          shell = shell ∙ ap (λ (z : ℕ × S). shell_after m z.0 z.1 body) (λ i. (at.imei i, at.leaves.shell i));
        };
      }

  -- A round that goes on: the bytes heard are read, and for their items all is done.
  pub record Goes (bytes taken : List ℕ) (old : RingView) (v : TrackerView) (p : Progress) (s : S) (x y : Option Traffic) : Type 0 where
    pub state : RoundState S
    pub bytes_heard : AreBytes bytes
    pub advances : Advances m r bytes v.have state
    pub stands : Stands state old v p s
    pub wire : Moves taken (written m r advances) x y
    pub ready : IsReady v

  -- an item, judged by where the round stands
  pub judged : (d : RoundState S) (old : RingView) (v : TrackerView) (p : Progress) (s : S) (all : List ℕ) (verdict : Verdict DownValue) → Stands d old v p s → down_verdict v.answered all ≡ verdict → down_verdict d.accepted all ≡ verdict
  judged d old v p s all verdict at e = ap (λ (b : Bool). down_verdict b all) (sym at.accepted) ∙ e

  -- one more item, for which all is done
  goes-item : (bytes taken b : List ℕ) (old : RingView) (v w : TrackerView) (p q : Progress) (s t : S) (x y z : Option Traffic) (g : Goes bytes taken old v p s x y) (item : DownValue) → AreBytes b
      → down_verdict v.answered (v.have ++ b) ≡ whole item (length (v.have ++ b)) → Fits m r g.state item → (next m r g.state item).accepted ≡ true
      → Stands (next m r g.state item) old w q t → Moves [] (writes m r g.state item) y z → w.have ≡ [] → IsReady w → Goes (bytes ++ b) taken old w q t x z
  goes-item bytes taken b old v w p q s t x y z g item known verdict fits accepted at sent none ready =
      let d = g.state in
      let e = judged d old v p s (v.have ++ b) _ g.stands verdict in
      let a = advances-item m r bytes v.have b d item g.advances e fits accepted in
      record {
        state = next m r d item;
        bytes_heard = bytes-append bytes b g.bytes_heard known;
        advances = advances-as m r (bytes ++ b) (bytes ++ b) [] w.have (next m r d item) (next m r d item) refl (sym none) refl a;
        stands = at;
        wire = moves_as (taken ++ []) _ taken _ x z (append-nil taken) (sym (written-item m r bytes v.have b d item g.advances e fits accepted)) (moves_then taken (written m r g.advances) [] (writes m r d item) x y z g.wire sent);
        ready = ready;
      }

  -- What a turn that doesn't end the round does.
  module _ (bytes taken piece : List ℕ) (n : ℕ) (old : RingView) (v u w : TrackerView) (out : List ℕ) (p q : Progress) (s t : S) (x y z : Option Traffic) (g : Goes bytes taken old v p s x y) (known : AreBytes piece) (ready : IsReady w) where
    -- what was taken
    took : AreBytes (take n piece)
    took = bytes-take n piece known

    goes-by : (h : Hearing) → HearsSome m (nat_lt p.orders 16) v u piece n h s t out → Reacts h None u w out p q y z → Goes (bytes ++ take n piece) taken old w q t x z
    goes-by (hearing.Done heard.More) hears reacts =
        let steps = hears.0.steps in
        let d = g.state in
        let all = v.have ++ take n piece in
        let view : w ≡ record v { have = all } = reacts.view ∙ steps.1 in
        let P : TrackerView × Progress × S → Type 0 = λ k. Stands d old k.0 k.1 k.2 in
        let at : Stands d old (record v { have = all }) p s = record { accepted = g.stands.accepted; batch = g.stands.batch; left = g.stands.left; orders = g.stands.orders; done = g.stands.done; imei = g.stands.imei; order = g.stands.order; leaves = g.stands.leaves } in
        let a = advances-more m r bytes v.have (take n piece) d g.advances (judged d old v p s all _ g.stands steps.0) in
        record {
          state = d;
          bytes_heard = bytes-append bytes (take n piece) g.bytes_heard took;
          advances = advances-as m r (bytes ++ take n piece) (bytes ++ take n piece) all w.have d d refl (sym (ap (λ (k : TrackerView). k.have) view)) refl a;
          stands = subst P (λ i. (sym view i, sym reacts.progress i, sym steps.2 i)) at;
          wire = (let Q : Option Traffic → Type 0 = λ k. Moves taken (written m r g.advances) x k in subst Q (sym reacts.told) g.wire);
          ready = ready;
        }
    goes-by (hearing.Done heard.Accepted) hears reacts =
        let steps = hears.0.steps in
        let f = steps.2 in
        let d = g.state in
        let at = sends-on (accepts m r d) old u w p q s y z (accepts-on d old v u p s g.stands f.2) reacts in
        let P : S → Type 0 = λ k. Stands (next m r d (answer 1)) old w q k in
        goes-item bytes taken (take n piece) old v w p q s t x y z g (answer 1) took (steps.1 ∙ ap (λ (i : DownValue). whole i (length (v.have ++ take n piece))) f.0) (sym g.stands.accepted ∙ f.1, refl) refl
        (subst P (sym f.3) at.0) at.1 (ap (λ (k : TrackerView). k.have) reacts.1 ∙ ap (λ (k : TrackerView). k.have) f.2) ready
    goes-by (hearing.Done heard.Refused) hears reacts = absurd reacts
    goes-by (hearing.Done (heard.Released k)) hears reacts =
        let steps = hears.0.steps in
        let f = steps.2 in
        let d = g.state in
        let at = sends-on (counts m r d) old u w (record p { done = p.done + k }) q s y z (counts-on d old v u p k s g.stands f.3 f.4 f.5) reacts in
        let P : S → Type 0 = λ j. Stands (next m r d (count (length v.batch))) old w q j in
        let size : length v.batch ≡ length d.batch = ap length g.stands.batch in
        let accepted : d.accepted ≡ true = sym g.stands.accepted ∙ f.1 in
        let some = f.2 in
        goes-item bytes taken (take n piece) old v w p q s t x y z g (count (length v.batch)) took (steps.1 ∙ ap (λ (i : DownValue). whole i (length (v.have ++ take n piece))) f.0) (accepted, (omega arith), size) accepted
        (subst P (sym f.6) at.0) at.1 (ap (λ (j : TrackerView). j.have) reacts.1 ∙ ap (λ (j : TrackerView). j.have) f.4) ready
    goes-by (hearing.Done heard.Answer) hears reacts =
        let steps = hears.0.steps in
        let f = steps.2 in
        let body = f.0 in
        let d = g.state in
        let accepted : d.accepted ≡ true = sym g.stands.accepted ∙ f.2 in
        let view : w ≡ record v { have = [] } = reacts.1 ∙ f.3 in
        let low = ltb-true p.orders 16 (hears.1 refl) in
        let orders_at = g.stands.orders in
        let said : out ≡ writes m r d (order body) = f.5 ∙ ap (λ (j : ℕ × S). answer_frame m j.0 j.1 body) (λ i. (g.stands.imei i, g.stands.leaves.shell i)) in
        goes-item bytes taken (take n piece) old v w p q s t x y z g (order body) took (steps.1 ∙ ap (λ (i : DownValue). whole i (length (v.have ++ take n piece))) f.1) (accepted, omega arith) accepted
        (orders-on d old v w p q s t body g.stands view reacts.0.0 f.4) (moves_as [] out [] _ y z refl said reacts.0.1) (ap (λ (j : TrackerView). j.have) view) ready
    goes-by (hearing.Done (heard.Wrong e)) hears reacts = absurd reacts
    goes-by (hearing.Done heard.MediumFault) hears reacts = absurd reacts
    goes-by hearing.Unobeyed hears reacts = absurd reacts

  -- The round goes on.
  pub goes-on : (bytes taken piece : List ℕ) (n : ℕ) (old : RingView) (v w : TrackerView) (p q : Progress) (s t : S) (x y z : Option Traffic) → Goes bytes taken old v p s x y → AreBytes piece → Takes m None v w piece n s t p q y z → IsReady w → Goes (bytes ++ take n piece) taken old w q t x z
  goes-on bytes taken piece n old v w p q s t x y z g known takes ready = goes-by bytes taken piece n old v takes.heard w takes.out p q s t x y z g known ready takes.hearing takes.hears takes.reacts

  -- while it goes on it waits
  pub waiting : (bytes taken : List ℕ) (old : RingView) (v : TrackerView) (p : Progress) (s : S) (x y : Option Traffic) (g : Goes bytes taken old v p s x y) → IsWaiting g.state
  waiting bytes taken old v p s x y g = λ e. subst (λ (ks : List ℕ). 0 < length ks) g.stands.batch (g.ready.batch (g.stands.accepted ∙ e))
