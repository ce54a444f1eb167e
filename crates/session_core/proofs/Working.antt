-- What is done for one item.
use Rattle.std.proofs.Common.{◌≡◌, ℕ, suc, ◌+◌, ◌<◌, ◌≤◌, Bool, true, false, List, [], ◌∷◌, ◌++◌, length, take, Option, Result, Ok, Err, OnOk, OnErr, if◌then◌else◌, refl, sym, ap, subst, ◌∙◌, append-nil, arith, length-append}
use Rattle.std.specs.Result.{is_err}
use Rattle.std.proofs.lemmas.Bool.{le-leb, lt-leb}
use Rattle.std.proofs.lemmas.List.{take-append-le}
use Rattle.std.proofs.Math.Seq.{take-append-add}
use Rattle.avl_values.specs.declared.errors.Failed.{Failed}
use Rattle.links.specs.Links.{Moves, Traffic, WritesPart}
use Rattle.links.proofs.Moving.{moves_as, moves_then}
use Rattle.command_layout.specs.declared.way.Way.TheVariants.{Up}
use Rattle.command_layout.specs.CommandRows.{command_verdict}
use Rattle.command_layout.specs.Values.{CommandValue}
use Rattle.command_layout.proofs.CommandLaws.{command_whole}
use Rattle.layout.specs.Rows.{whole}
use Rattle.record_layout.specs.RecordsOf.{records_of}
use Rattle.record_layout.specs.declared.head.PacketHead.{PacketHead}
use Rattle.frame_layout.specs.Readings.{IsFramedCommand}
use Rattle.frame_layout.specs.Values.{login, packet}
use Rattle.shelf.specs.Calls.{Call}
use Rattle.shelf.specs.declared.receipt.AdmitFault.{AdmitFault}
use Rattle.shelf.specs.declared.receipt.Receipt.{Receipt}
use Rattle.session_core.specs.Doings.{Doing, Does, IsCut, counted_in}
use Rattle.session_core.specs.Talks.{Meaning, Talk, nobody, device, reply, or_nothing, count_for, records_in}

-- Bytes that were sent.

pub sent_whole : (r : Result (Unit {0}) Failed) (P : Type 0) → is_err r ≡ false → OnOk r P → P
sent_whole (Ok done) P e is = is
sent_whole (Err found) P e is = absurd cc

pub sent_part : (r : Result (Unit {0}) Failed) (P : Type 0) → is_err r ≡ true → OnErr r P → P
sent_part (Ok done) P e is = absurd cc
sent_part (Err found) P e is = is

-- A response is read whole.
pub response_reads : (body : List ℕ) → IsFramedCommand Up body → (v : CommandValue) × (command_verdict Up (length body) body ≡ whole v (length body))
response_reads body f =
    (f.value, ap (command_verdict Up (length body)) (sym (append-nil body)) ∙ command_whole Up f.value body [] f.is)

-- A login.

module _ {O : Type 0} (m : Meaning O) (known : ℕ → Bool) (imei : ℕ) (o : O) where
  abbrev given : List ℕ
  given = or_nothing (m.gives o imei)

  login_reply : known imei ≡ true → reply m known (nobody o) (login imei) ≡ 1 ∷ given
  login_reply is = ap (λ (b : Bool). if b then 1 ∷ given else 0 ∷ []) is

  answered : (answer : ℕ) (b : Bool) (w u : Option Traffic) → b ≡ true → answer ≡ (if b then 1 else 0) → Moves [] (answer ∷ []) w u → Moves [] (1 ∷ []) w u
  answered answer b w u is told move = moves_as [] (answer ∷ []) [] (1 ∷ []) w u refl (ap (λ (n : ℕ). n ∷ []) (told ∙ ap (λ (v : Bool). if v then 1 else 0) is)) move

  pub greeted : (answer : ℕ) (b : Bool) (w u v : Option Traffic) → known imei ≡ true → b ≡ true → answer ≡ (if b then 1 else 0) → Moves [] (answer ∷ []) w u → Moves [] given u v → Moves [] (reply m known (nobody o) (login imei)) w v
  greeted answer b w u v is has told first second =
      moves_as [] (1 ∷ given) [] (reply m known (nobody o) (login imei)) w v refl (sym (login_reply is)) (moves_then [] (1 ∷ []) [] given w u v (answered answer b w u has told first) second)

  pub greeted_part : (answer : ℕ) (b : Bool) (w u v : Option Traffic) → known imei ≡ true → b ≡ true → answer ≡ (if b then 1 else 0) → Moves [] (answer ∷ []) w u → WritesPart given u v → WritesPart (reply m known (nobody o) (login imei)) w v
  greeted_part answer b w u v is has told first second =
      let whole_part : WritesPart (1 ∷ given) w v = (suc second.0, omega (arith, second.1), moves_then [] (1 ∷ []) [] (take second.0 given) w u v (answered answer b w u has told first) second.2) in
      subst (λ (b : List ℕ). WritesPart b w v) (sym (login_reply is)) whole_part

-- A packet.

module _ {S O : Type 0} (leaves : S → ℕ → List ℕ → Result Receipt AdmitFault → S → Type 0) (m : Meaning O) (known : ℕ → Bool) where
  abbrev at : Talk O → S → Option Traffic → ℕ → ℕ → Doing S O
  at talk shelf wire frames records = record { talk = talk; shelf = shelf; wire = wire; frames = frames; records = records }

  abbrev admitted : ℕ → List ℕ → Receipt → Call
  admitted imei body receipt = record { imei = imei; body = body; result = Ok receipt }

  pub packet_done : (head : PacketHead) (body : List ℕ) (imei : ℕ) (o p : O) (s t : S) (w u v : Option Traffic) (f n k : ℕ) (count : List ℕ) (receipt : Receipt) → p ≡ m.asked o imei → leaves s imei body (Ok receipt) t
      → receipt.count ≡ length (records_of body) → k ≡ receipt.count → count ≡ count_for body → Moves [] count w u → Moves [] (or_nothing (m.gives o imei)) u v
      → Does leaves m known (packet head body ∷ []) [] (at (device imei o) s w f n) (at (device imei p) t v (f + 1) (n + k))
  packet_done head body imei o p s t w u v f n k count receipt asked left counted sum is first second =
      let given : List ℕ = or_nothing (m.gives o imei) in
      record {
        talk = ap (λ (q : O). device imei q) asked;
        wire = moves_as [] (count ++ given) [] ((count_for body ++ given) ++ []) w v refl (ap (λ (b : List ℕ). b ++ given) is ∙ sym (append-nil (count_for body ++ given))) (moves_then [] count [] given w u v first second);
        calls = admitted imei body receipt ∷ [];
        feeds = (t, left, refl);
        stored = (refl, refl, counted, tt);
        frames = omega arith;
        records = omega (arith, sum, counted);
      }

  count_size : (body : List ℕ) → length (count_for body) ≡ 4
  count_size body = refl

  none_counted : (ps : List (ℕ × List ℕ)) (n : ℕ) → n < 4 → counted_in ps n ≡ []
  none_counted ps n low = ap (λ (b : Bool). if b then ps else []) (lt-leb 4 n low)

  all_counted : (ps : List (ℕ × List ℕ)) (n : ℕ) → 4 ≤ n → counted_in ps n ≡ ps
  all_counted ps n high = ap (λ (b : Bool). if b then ps else []) (le-leb 4 n high)

  -- the link failed inside the count
  pub count_cut : (head : PacketHead) (body : List ℕ) (imei : ℕ) (o p : O) (s t : S) (w v : Option Traffic) (f n : ℕ) (count : List ℕ) (receipt : Receipt) → leaves s imei body (Ok receipt) t → receipt.count ≡ length (records_of body)
      → count ≡ count_for body → WritesPart count w v → IsCut leaves m known (packet head body) (at (device imei o) s w f n) (at (device imei p) t v f n)
  count_cut head body imei o p s t w v f n count receipt left counted is part =
      let given : List ℕ = or_nothing (m.gives o imei) in
      let own : WritesPart (count_for body) w v = subst (λ (b : List ℕ). WritesPart b w v) is part in
      let size = count_size body in
      let low : own.0 < 4 = omega (arith, own.1) in
      let none = none_counted ((imei, body) ∷ []) own.0 low in
      record {
        part = own.0;
        within = omega (arith, own.1, length-append (count_for body) given);
        wire = moves_as [] (take own.0 (count_for body)) [] (take own.0 (count_for body ++ given)) w v refl (sym (take-append-le own.0 (count_for body) given (omega (arith, own.1)))) own.2;
        calls = admitted imei body receipt ∷ [];
        feeds = (t, left, refl);
        stored = (refl, refl, counted, tt);
        frames = omega (arith, ap (λ (ps : List (ℕ × List ℕ)). length ps) none);
        records = omega (arith, ap records_in none);
      }

  -- the link failed inside the frame that was given after the count
  pub order_cut : (head : PacketHead) (body : List ℕ) (imei : ℕ) (o p : O) (s t : S) (w u v : Option Traffic) (f n k : ℕ) (count : List ℕ) (receipt : Receipt) → leaves s imei body (Ok receipt) t → receipt.count ≡ length (records_of body)
      → k ≡ receipt.count → count ≡ count_for body → Moves [] count w u → WritesPart (or_nothing (m.gives o imei)) u v → IsCut leaves m known (packet head body) (at (device imei o) s w f n) (at (device imei p) t v (f + 1) (n + k))
  order_cut head body imei o p s t w u v f n k count receipt left counted sum is first second =
      let given : List ℕ = or_nothing (m.gives o imei) in
      let size = count_size body in
      let all = all_counted ((imei, body) ∷ []) (length (count_for body) + second.0) (omega arith) in
      let own : Moves [] (count_for body) w u = subst (λ (b : List ℕ). Moves [] b w u) is first in
      record {
        part = length (count_for body) + second.0;
        within = omega (arith, second.1, length-append (count_for body) given);
        wire = moves_as [] (count_for body ++ take second.0 given) [] (take (length (count_for body) + second.0) (count_for body ++ given)) w v refl (sym (take-append-add (count_for body) given second.0)) (moves_then [] (count_for body) [] (take second.0 given) w u v own second.2);
        calls = admitted imei body receipt ∷ [];
        feeds = (t, left, refl);
        stored = (refl, refl, counted, tt);
        frames = omega (arith, ap (λ (ps : List (ℕ × List ℕ)). length ps) all);
        records = omega (arith, sum, counted, ap records_in all);
      }
