-- What follows from the items that a tracker hears.
use Rattle.std.proofs.Common.{◌≡◌, ◌≢◌, ◌⊎◌, ℕ, ◌<◌, ◌≤◌, Bool, true, false, List, [], ◌++◌, length, take, refl, sym, ap, subst, ◌∙◌}
use Rattle.std.proofs.lemmas.Bool.{false≢true}
use Rattle.layout.specs.Rows.{whole, short}
use Rattle.item_streams.specs.Readers.{Decided, Reader, Pushed, item}
use Rattle.frame_layout.specs.DownRows.{down_rows, down_verdict}
use Rattle.frame_layout.specs.Values.{DownValue, answer, count, order}
use Rattle.frame_layout.proofs.Lengths.{starts_short_down}
use Rattle.frame_layout.proofs.PlaceLaws.{down_place}
use Rattle.frame_channel.specs.DownPushes.{PushedDown, decided_down, lent_down}
use Rattle.frame_channel.specs.declared.down_item.DownItem.{DownItem}
use Rattle.tracker_session.specs.declared.heard.Got.TheVariants as got
use Rattle.tracker_session.specs.declared.heard.Heard.{Heard}
use Rattle.tracker_session.specs.declared.heard.Heard.TheVariants as heard
use Rattle.tracker_session.specs.Hearing.{Hears, HearsAnswer, HearsCount, HearsUnobeyed}
use Rattle.tracker_session.specs.Responses.{ShellMeaning, answer_frame, shell_after}
use Rattle.tracker_session.specs.Trackers.{IsTracker, TrackerView, silent}
use Rattle.tracker_session.proofs.Silence.{with_reader}

-- an item was taken
pub record TakesItem (v : TrackerView) (r q : Reader) (piece : List ℕ) (n : ℕ) (value : DownValue) : Type 0 where
  pub within_piece : n ≤ length piece
  pub some : 0 < length piece → 0 < n
  pub verdict : down_verdict r.after_first (r.have ++ take n piece) ≡ whole value (length (r.have ++ take n piece))
  pub have : q.have ≡ []
  pub after_first : q.after_first ≡ true
  pub failed : q.failed ≡ r.failed
  pub body : q.body ≡ lent_down value r.body

pub takes-item : (v : TrackerView) (r q : Reader) (piece : List ℕ) (n : ℕ) (value : DownValue) → Pushed down_rows lent_down r q piece n (item value) → TakesItem v r q piece n value
takes-item v r q piece n value p = record {
  within_piece = p.within_piece;
  some = p.some;
  verdict = p.verdict;
  have = ap (λ (s : Reader). s.have) p.state;
  after_first = ap (λ (s : Reader). s.after_first) p.state;
  failed = ap (λ (s : Reader). s.failed) p.state;
  body = ap (λ (s : Reader). s.body) p.state;
}

-- the reader of a tracker that took an item
pub item-tracker : (v : TrackerView) (r q : Reader) (piece : List ℕ) (n : ℕ) (value : DownValue) → IsTracker (with_reader v r) → (v.talking ≡ true → r.failed ≡ false) → TakesItem v r q piece n value
    → IsTracker (with_reader v q) × (v.talking ≡ true → q.failed ≡ false)
item-tracker v r q piece n value is going taken =
    let Q : Bool × List ℕ → Type 0 = λ z. down_verdict z.0 z.1 ≡ short in (
      record {
        opens = is.opens;
        distinct = is.distinct;
        few = is.few;
        talk = λ talking. record {
          up = (is.talk talking).up;
          accepted = λ no. absurd (false≢true (sym no ∙ taken.after_first));
          waits = subst Q (λ i. (sym taken.after_first i, sym taken.have i)) (starts_short_down true);
        };
      },
      λ talking. taken.failed ∙ going talking,
    )

module _ {S : Type 0} (m : ShellMeaning S) (v : TrackerView) (r q : Reader) (piece : List ℕ) (n : ℕ) where
  -- where the reader comes after an item
  behind : (value : DownValue) → TakesItem v r q piece n value → with_reader v q ≡ record (with_reader v r) { answered = true; have = [] }
  behind value t = ap (λ (z : Bool × List ℕ). let w : TrackerView = record v { answered = z.0; have = z.1 } in w) (λ i. (t.after_first i, t.have i))

  -- the login's answer
  pub heard-answer : (byte : ℕ) (h : Heard) (w : TrackerView) (s : S) (out : List ℕ) → TakesItem v r q piece n (answer byte) → out ≡ [] → HearsAnswer h byte (with_reader v q) w → Hears m (with_reader v r) w piece n h s s out
  heard-answer byte heard.More w s out t none is = absurd is
  heard-answer byte heard.Accepted w s out t none is = record {
    within_piece = t.within_piece;
    some = t.some;
    steps = (answer byte, t.verdict, (ap answer is.0, down_place r.after_first (answer byte) _ _ t.verdict, is.1 ∙ behind (answer byte) t, refl, none));
  }
  heard-answer byte heard.Refused w s out t none is = record {
    within_piece = t.within_piece;
    some = t.some;
    steps = (answer byte, t.verdict, (ap answer is.0, down_place r.after_first (answer byte) _ _ t.verdict, is.1, refl, none));
  }
  heard-answer byte (heard.Released k) w s out t none is = absurd is
  heard-answer byte heard.Answer w s out t none is = absurd is
  heard-answer byte (heard.Wrong (got.Login b)) w s out t none is = record {
    within_piece = t.within_piece;
    some = t.some;
    steps = (answer byte, t.verdict, ((ap answer (sym is.0), down_place r.after_first (answer byte) _ _ t.verdict, (λ e. is.1 (sym is.0 ∙ e)), (λ e. is.2 (sym is.0 ∙ e))), is.3, refl, none));
  }
  heard-answer byte (heard.Wrong (got.Count k)) w s out t none is = absurd is
  heard-answer byte (heard.Wrong (got.Frame found)) w s out t none is = absurd is
  heard-answer byte heard.MediumFault w s out t none is = absurd is

  -- a count
  pub heard-count : (k : ℕ) (h : Heard) (w : TrackerView) (s : S) (out : List ℕ) → TakesItem v r q piece n (count k) → out ≡ [] → HearsCount h k (with_reader v q) w → Hears m (with_reader v r) w piece n h s s out
  heard-count k heard.More w s out t none is = absurd is
  heard-count k heard.Accepted w s out t none is = absurd is
  heard-count k heard.Refused w s out t none is = absurd is
  heard-count k (heard.Released j) w s out t none is =
      let place = down_place r.after_first (count k) _ _ t.verdict in
      record {
        within_piece = t.within_piece;
        some = t.some;
        steps = (
          count k,
          t.verdict,
          (
            ap count is.0,
            place,
            is.1,
            is.2 ∙ is.0,
            is.3 ∙ ap (λ (z : Bool × List ℕ). let x : TrackerView = record v { ring = w.ring; answered = z.0; batch = []; have = z.1 } in x) (λ i. ((t.after_first ∙ sym place) i, t.have i)),
            is.4,
            refl,
            none,
          ),
        );
      }
  heard-count k heard.Answer w s out t none is = absurd is
  heard-count k (heard.Wrong (got.Login b)) w s out t none is = absurd is
  heard-count k (heard.Wrong (got.Count j)) w s out t none is =
      let P : ℕ → Type 0 = λ x. (v.batch ≡ []) ⊎ (x ≢ length v.batch) in
      record {
        within_piece = t.within_piece;
        some = t.some;
        steps = (count k, t.verdict, ((ap count (sym is.0), down_place r.after_first (count k) _ _ t.verdict, subst P (sym is.0) is.1), is.2, refl, none));
      }
  heard-count k (heard.Wrong (got.Frame found)) w s out t none is = absurd is
  heard-count k heard.MediumFault w s out t none is = record {
    within_piece = t.within_piece;
    some = t.some;
    steps = (count k, t.verdict, (ap count is.0, down_place r.after_first (count k) _ _ t.verdict, is.1, is.2, is.3, refl, none));
  }

  -- a command that was obeyed
  pub heard-order : (body : List ℕ) (s t : S) (out : List ℕ) → TakesItem v r q piece n (order q.body) → body ≡ q.body → t ≡ shell_after m v.imei s body → out ≡ answer_frame m v.imei s body
      → Hears m (with_reader v r) (with_reader v q) piece n heard.Answer s t out
  heard-order body s t out took same shell said =
      let place = down_place r.after_first (order q.body) _ _ took.verdict in
      record {
        within_piece = took.within_piece;
        some = took.some;
        steps = (
          order q.body,
          took.verdict,
          (
            body,
            ap order (sym same),
            place,
            ap (λ (z : Bool × List ℕ). let x : TrackerView = record v { answered = z.0; have = z.1 } in x) (λ i. ((took.after_first ∙ sym place) i, took.have i)),
            shell,
            said,
          ),
        );
      }

  -- and one that wasn't
  pub heard-unobeyed : (w : TrackerView) → TakesItem v r q piece n (order q.body) → w ≡ silent (with_reader v q) → HearsUnobeyed (with_reader v r) w piece n
  heard-unobeyed w took is = record {
    within_piece = took.within_piece;
    body = q.body;
    verdict = took.verdict;
    answered = down_place r.after_first (order q.body) _ _ took.verdict;
    is = is;
  }

  -- what an answer of the reader was
  pub takes-said : (said : DownItem) (a : DownItem) (value : DownValue) → said ≡ a → decided_down a q.body ≡ item value → PushedDown r q piece n said → TakesItem v r q piece n value
  takes-said said a value is decided p =
      let P : Decided DownValue → Type 0 = λ d. Pushed down_rows lent_down r q piece n d in
      takes-item v r q piece n value (subst P (ap (λ (x : DownItem). decided_down x q.body) is ∙ decided) p)

pub answer-not_obeyed : (h : Heard) (byte : ℕ) (v w : TrackerView) (obeys : Bool) → HearsAnswer h byte v w → h ≡ heard.Answer → obeys ≡ true
answer-not_obeyed h byte v w obeys is same = absurd (let P : Heard → Type 0 = λ x. HearsAnswer x byte v w in subst P same is)

pub count-not_obeyed : (h : Heard) (n : ℕ) (v w : TrackerView) (obeys : Bool) → HearsCount h n v w → h ≡ heard.Answer → obeys ≡ true
count-not_obeyed h n v w obeys is same = absurd (let P : Heard → Type 0 = λ x. HearsCount x n v w in subst P same is)
