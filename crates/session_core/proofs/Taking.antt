-- One step of a session, and what is done for it.
use Rattle.std.proofs.Common.{◌≡◌, ℕ, ◌+◌, Bool, true, false, not, List, [], ◌∷◌, ◌++◌, length, take, Option, Some, None, Result, IfNone, IfSome, if◌then◌else◌, refl, sym, ap, subst, ◌∙◌, append-nil, add-zero}
use Rattle.std.specs.Prelude.{nat_le}
use Rattle.avl_values.specs.declared.fault.Fault.{Fault}
use Rattle.item_streams.specs.Readers.{Decided, Pushed, Reader, broken, item, more}
use Rattle.links.specs.Links.{Moves, Traffic}
use Rattle.links.proofs.Moving.{moves_as, moves_none}
use Rattle.frame_layout.specs.UpRows.{up_rows}
use Rattle.frame_layout.specs.Values.{UpValue, login, packet, response}
use Rattle.frame_layout.proofs.PlaceLaws.{up_place}
use Rattle.frame_channel.specs.UpPushes.{lent_up}
use Rattle.command_layout.specs.Answers.{value_in}
use Rattle.command_layout.specs.declared.way.Way.TheVariants as way
use Rattle.shelf.specs.declared.receipt.AdmitFault.{AdmitFault}
use Rattle.shelf.specs.declared.receipt.Receipt.{Receipt}
use Rattle.session_core.specs.declared.served.SessionEnd.{SessionEnd}
use Rattle.session_core.specs.declared.served.SessionEnd.TheVariants as ends
use Rattle.session_core.specs.declared.session.Step.TheVariants.{More, Login, Packet, Response, Broken}
use Rattle.session_core.specs.Doings.{Doing, counted_in, Does, Stops, StopsAt, IsStranger}
use Rattle.session_core.specs.Readings.{Reads}
use Rattle.session_core.specs.Sessions.{SessionState, IsReady, Heard, is_there, talk_with, talk_of}
use Rattle.session_core.specs.Talks.{Meaning, Talk, nobody, device, stranger, reply, next, told_by, records_in, imei_in, orders_in, is_stranger}
use Rattle.session_core.specs.Works.{Greets, Took}
use Rattle.session_core.proofs.Going.{does_none, stopped}
use Rattle.session_core.proofs.Hearing.{frame_stays}
use Rattle.session_core.proofs.Reading.{reads_push, heads_read, fault_push}

none_there : (i : Option ℕ) → is_there i ≡ false → i ≡ None
none_there None e = refl
none_there (Some imei) e = absurd cc

there_is : (i : Option ℕ) → is_there i ≡ true → i ≡ None → ⊥
there_is None e n = absurd cc
there_is (Some imei) e n = absurd cc

-- the push as one of what was decided
pushed_as : (old new : Reader) (piece : List ℕ) (n : ℕ) (d e : Decided UpValue) → d ≡ e → Pushed up_rows lent_up old new piece n d → Pushed up_rows lent_up old new piece n e
pushed_as old new piece n d e is p = subst (λ (x : Decided UpValue). Pushed up_rows lent_up old new piece n x) is p

pub talk_imei : {O : Type 0} → (i : Option ℕ) (b : Bool) (o : O) → imei_in (talk_with i b o) ≡ i
talk_imei None b o = refl
talk_imei (Some imei) true o = refl
talk_imei (Some imei) false o = refl

pub talk_orders : {O : Type 0} → (i : Option ℕ) (b : Bool) (o : O) → orders_in (talk_with i b o) ≡ o
talk_orders None b o = refl
talk_orders (Some imei) true o = refl
talk_orders (Some imei) false o = refl

pub never_stranger : {O : Type 0} → (i : Option ℕ) (o : O) → is_stranger (talk_with i false o) ≡ false
never_stranger None o = refl
never_stranger (Some imei) o = refl

-- after a frame somebody has logged in
pub packet_has_imei : (old new : SessionState) (piece : List ℕ) (n : ℕ) → Heard old new piece n Packet → new.imei ≡ None → ⊥
packet_has_imei old new piece n h none =
    there_is old.imei (sym h.place ∙ (frame_stays old.reader new.reader piece n h.decided (packet h.says.head new.reader.body) h.says.is refl h.pushed).0) (sym h.imei ∙ none)

pub response_has_imei : (old new : SessionState) (piece : List ℕ) (n : ℕ) → Heard old new piece n Response → new.imei ≡ None → ⊥
response_has_imei old new piece n h none =
    there_is old.imei (sym h.place ∙ (frame_stays old.reader new.reader piece n h.decided (response new.reader.body) h.says.is refl h.pushed).0) (sym h.imei ∙ none)

-- before a login nobody has
login_has_none : (old new : SessionState) (piece : List ℕ) (n imei : ℕ) → Heard old new piece n (Login imei) → old.imei ≡ None
login_has_none old new piece n imei h =
    none_there old.imei (sym h.place ∙ up_place old.reader.after_first (login imei) _ _ (pushed_as old.reader new.reader piece n h.decided (item (login imei)) h.says h.pushed).verdict)

-- it goes on after an item
item_goes : (old new : Reader) (piece : List ℕ) (n : ℕ) (v : UpValue) → old.failed ≡ false → Pushed up_rows lent_up old new piece n (item v) → new.failed ≡ false
item_goes old new piece n v going p = ap (λ (s : Reader). s.failed) p.state ∙ going

more_goes : (old new : Reader) (piece : List ℕ) (n : ℕ) → old.failed ≡ false → Pushed up_rows lent_up old new piece n more → new.failed ≡ false
more_goes old new piece n going p = ap (λ (s : Reader). s.failed) p.state ∙ going

module _ {S O : Type 0} (leaves : S → ℕ → List ℕ → Result Receipt AdmitFault → S → Type 0) (m : Meaning O) (known : ℕ → Bool) where
  abbrev at : Talk O → S → Option Traffic → ℕ → ℕ → Doing S O
  at talk shelf wire frames records = record { talk = talk; shelf = shelf; wire = wire; frames = frames; records = records }

  -- in other words for the two talks
  took_as : (r : Option SessionEnd) (bytes : List ℕ) (old new : SessionState) (s t : S) (w v : Option Traffic) (f k g j : ℕ) (a b c d : Talk O) → a ≡ b → c ≡ d
      → Took leaves m known r bytes old new (at b s w f k) (at d t v g j) → Took leaves m known r bytes old new (at a s w f k) (at c t v g j)
  took_as r bytes old new s t w v f k g j a b c d e h took =
      subst (λ (z : Talk O × Talk O). Took leaves m known r bytes old new (at z.0 s w f k) (at z.1 t v g j)) (λ i. (sym e i, sym h i)) took

  -- More: nothing is wanted.
  pub more_took : (rest : List ℕ) (n : ℕ) (old new : SessionState) (o : O) (s : S) (w : Option Traffic) (f k : ℕ) → IsReady old → Heard old new rest n More
      → Took leaves m known None (take n rest) old new (at (talk_of old o) s w f k) (at (talk_of new o) s w f k)
  more_took rest n old new o s w f k ready h =
      let p = pushed_as old.reader new.reader rest n h.decided more h.says h.pushed in
      took_as None (take n rest) old new s s w w f k f k (talk_of old o) (talk_of old o) (talk_of new o) (talk_of old o) refl (ap (λ (x : Option ℕ × Bool). talk_with x.0 x.1 o) (λ i. (h.imei i, h.refused i))) (
        record { answered = h.owes; going = more_goes old.reader new.reader rest n ready.going p; welcome = h.refused ∙ ready.welcome },
        record { said = []; reads = reads_push old.reader new.reader rest n more p; does = does_none leaves m known (at (talk_of old o) s w f k) },
      )

  -- A fault.
  pub broken_took : (found : Fault) (rest : List ℕ) (n : ℕ) (old new : SessionState) (o : O) (s : S) (w : Option Traffic) (f k : ℕ) → IsReady old → Heard old new rest n (Broken found)
      → Took leaves m known (Some (ends.Broken found)) (take n rest) old new (at (talk_of old o) s w f k) (at (talk_of new o) s w f k)
  broken_took found rest n old new o s w f k ready h =
      let p = pushed_as old.reader new.reader rest n h.decided (broken found.kind found.place) h.says h.pushed in
      took_as (Some (ends.Broken found)) (take n rest) old new s s w w f k f k (talk_of old o) (talk_of old o) (talk_of new o) (talk_of old o) refl (ap (λ (x : Option ℕ × Bool). talk_with x.0 x.1 o) (λ i. (h.imei i, h.refused i)))
      (record { dealt = []; reads = fault_push found old.reader new.reader rest n p; does = does_none leaves m known (at (talk_of old o) s w f k); welcome = ap (λ (b : Bool). is_stranger (talk_with old.imei b o)) ready.welcome ∙ never_stranger old.imei o })

  -- one item comes first
  stops_first : (end : SessionEnd) (v : UpValue) (rest : List ℕ) (n : ℕ) (old new : Reader) (x y : Doing S O) → Pushed up_rows lent_up old new rest n (item v) → StopsAt leaves m known end v x y → imei_in y.talk ≡ imei_in (next m known x.talk v) → Stops leaves m known end (take n rest) [] old x y
  stops_first end v rest n old new x y p stops imei = record {
    dealt = [];
    at = v;
    between = x;
    heads = heads_read (take n rest) (v ∷ []) old new (reads_push old new rest n (item v) p);
    does = does_none leaves m known x;
    stops = stops;
    imei = imei;
  }

  -- A login.

  by_known : (b : Bool) (imei : ℕ) (o q : O) → imei_in (if b then device imei q else stranger imei o) ≡ Some imei
  by_known true imei o q = refl
  by_known false imei o q = refl

  logged_in : (imei : ℕ) (o : O) → imei_in (next m known (nobody o) (login imei)) ≡ Some imei
  logged_in imei o = by_known (known imei) imei o (m.asked o imei)

  welcomed : (imei : ℕ) (o p : O) (s : S) (w v : Option Traffic) (f k : ℕ) → known imei ≡ true → p ≡ m.asked o imei → Moves [] (reply m known (nobody o) (login imei)) w v
      → Does leaves m known (login imei ∷ []) [] (at (nobody o) s w f k) (at (device imei p) s v f k)
  welcomed imei o p s w v f k is asked move = record {
    talk = ap (λ (q : O). device imei q) asked ∙ ap (λ (b : Bool). if b then device imei (m.asked o imei) else stranger imei o) (sym is);
    wire = moves_as [] (reply m known (nobody o) (login imei)) [] (reply m known (nobody o) (login imei) ++ []) w v refl (sym (append-nil (reply m known (nobody o) (login imei)))) move;
    calls = [];
    feeds = refl;
    stored = tt;
    frames = sym (add-zero f);
    records = sym (add-zero k);
  }

  sent_away : (imei who : ℕ) (o p : O) (s : S) (w v : Option Traffic) (f k : ℕ) → known imei ≡ false → p ≡ o → who ≡ imei → Moves [] (reply m known (nobody o) (login imei)) w v
      → IsStranger leaves m known who (login imei) (at (nobody o) s w f k) (at (stranger imei p) s v f k)
  sent_away imei who o p s w v f k is same which move = record {
    orders = p;
    is = ap (λ (i : ℕ). login i) (sym which);
    unknown = ap known which ∙ is;
    before = ap (λ (q : O). nobody q) (sym same);
    does = record {
      talk = ap (λ (q : O). stranger imei q) same ∙ ap (λ (b : Bool). if b then device imei (m.asked o imei) else stranger imei o) (sym is);
      wire = moves_as [] (reply m known (nobody o) (login imei)) [] (reply m known (nobody o) (login imei) ++ []) w v refl (sym (append-nil (reply m known (nobody o) (login imei)))) move;
      calls = [];
      feeds = refl;
      stored = tt;
      frames = sym (add-zero f);
      records = sym (add-zero k);
    };
    talk = ap (λ (i : ℕ). stranger i p) (sym which);
  }

  in_none : (b : Bool) → (let none : List (ℕ × List ℕ) = [] in (if b then none else []) ≡ [])
  in_none true = refl
  in_none false = refl

  cut_frames : (f n : ℕ) → f ≡ f + length (counted_in [] n)
  cut_frames f n = sym (ap (λ (ps : List (ℕ × List ℕ)). f + length ps) (in_none (nat_le 4 n)) ∙ add-zero f)

  cut_records : (k n : ℕ) → k ≡ k + records_in (counted_in [] n)
  cut_records k n = sym (ap (λ (ps : List (ℕ × List ℕ)). k + records_in ps) (in_none (nat_le 4 n)) ∙ add-zero k)

  pub login_took : (imei : ℕ) (rest : List ℕ) (n : ℕ) (old mid new : SessionState) (o p : O) (s : S) (w v : Option Traffic) (f k : ℕ) (r : Option SessionEnd) → IsReady old → Heard old mid rest n (Login imei)
      → new ≡ record mid { owes = false; refused = not (known imei) } → Greets m known imei o w r p v → Took leaves m known r (take n rest) old new (at (talk_of old o) s w f k) (at (talk_of new p) s v f k)
  login_took imei rest n old mid new o p s w v f k None ready h is g =
      let push = pushed_as old.reader mid.reader rest n h.decided (item (login imei)) h.says h.pushed in
      let reader : new.reader ≡ mid.reader = ap (λ (x : SessionState). x.reader) is in
      let who : new.imei ≡ Some imei = ap (λ (x : SessionState). x.imei) is ∙ h.imei in
      let welcome : new.refused ≡ false = ap (λ (x : SessionState). x.refused) is ∙ ap not g.2 in
      took_as None (take n rest) old new s s w v f k f k (talk_of old o) (nobody o) (talk_of new p) (device imei p)
      (ap (λ (x : Option ℕ). talk_with x old.refused o) (login_has_none old mid rest n imei h)) (ap (λ (x : Option ℕ × Bool). talk_with x.0 x.1 p) (λ i. (who i, welcome i))) (
        record { answered = ap (λ (x : SessionState). x.owes) is; going = ap (λ (x : Reader). x.failed) reader ∙ item_goes old.reader mid.reader rest n (login imei) ready.going push; welcome = welcome },
        record { said = login imei ∷ []; reads = subst (λ (x : Reader). Reads (take n rest) (login imei ∷ []) old.reader x) (sym reader) (reads_push old.reader mid.reader rest n (item (login imei)) push); does = welcomed imei o p s w v f k g.2 g.1 g.0 },
      )
  login_took imei rest n old mid new o p s w v f k (Some ends.LinkFault) ready h is g =
      let push = pushed_as old.reader mid.reader rest n h.decided (item (login imei)) h.says h.pushed in
      took_as (Some ends.LinkFault) (take n rest) old new s s w v f k f k (talk_of old o) (nobody o) (talk_of new p) (talk_of new p)
      (ap (λ (x : Option ℕ). talk_with x old.refused o) (login_has_none old mid rest n imei h)) refl
      (stops_first ends.LinkFault (login imei) rest n old.reader mid.reader (at (nobody o) s w f k) (at (talk_of new p) s v f k) push
      (record { part = g.0; within = g.1; wire = g.2; calls = []; feeds = refl; stored = tt; frames = cut_frames f g.0; records = cut_records k g.0 }) (talk_imei new.imei new.refused p ∙ (ap (λ (x : SessionState). x.imei) is ∙ (h.imei ∙ sym (logged_in imei o)))))
  login_took imei rest n old mid new o p s w v f k (Some (ends.Unknown who)) ready h is g =
      let push = pushed_as old.reader mid.reader rest n h.decided (item (login imei)) h.says h.pushed in
      let there : new.imei ≡ Some imei = ap (λ (x : SessionState). x.imei) is ∙ h.imei in
      let refused : new.refused ≡ true = ap (λ (x : SessionState). x.refused) is ∙ ap not g.2 in
      took_as (Some (ends.Unknown who)) (take n rest) old new s s w v f k f k (talk_of old o) (nobody o) (talk_of new p) (stranger imei p)
      (ap (λ (x : Option ℕ). talk_with x old.refused o) (login_has_none old mid rest n imei h)) (ap (λ (x : Option ℕ × Bool). talk_with x.0 x.1 p) (λ i. (there i, refused i)))
      (stops_first (ends.Unknown who) (login imei) rest n old.reader mid.reader (at (nobody o) s w f k) (at (stranger imei p) s v f k) push (sent_away imei who o p s w v f k g.2 g.1 g.3 g.0) (sym (logged_in imei o)))
  login_took imei rest n old mid new o p s w v f k (Some ends.Ended) ready h is g = absurd g
  login_took imei rest n old mid new o p s w v f k (Some (ends.EndedInside j)) ready h is g = absurd g
  login_took imei rest n old mid new o p s w v f k (Some (ends.Broken found)) ready h is g = absurd g
  login_took imei rest n old mid new o p s w v f k (Some (ends.MediumFault j)) ready h is g = absurd g
  login_took imei rest n old mid new o p s w v f k (Some (ends.Down j)) ready h is g = absurd g
  login_took imei rest n old mid new o p s w v f k (Some (ends.LongEnough j)) ready h is g = absurd g
  login_took imei rest n old mid new o p s w v f k (Some ends.NoMemory) ready h is g = absurd g

  -- A packet.

  -- what is known of a session that heard a packet or a response and has answered it
  record Answered (imei : ℕ) (old mid new : SessionState) : Type 0 where
    pub before : old.imei ≡ Some imei
    pub after : new.imei ≡ Some imei
    pub welcome_before : old.refused ≡ false
    pub welcome_after : new.refused ≡ false

  device_took : (r : Option SessionEnd) (imei : ℕ) (bytes : List ℕ) (old mid new : SessionState) (o p : O) (s t : S) (w v : Option Traffic) (f k g j : ℕ) → Answered imei old mid new
      → Took leaves m known r bytes old new (at (device imei o) s w f k) (at (device imei p) t v g j) → Took leaves m known r bytes old new (at (talk_of old o) s w f k) (at (talk_of new p) t v g j)
  device_took r imei bytes old mid new o p s t w v f k g j a took =
      took_as r bytes old new s t w v f k g j (talk_of old o) (device imei o) (talk_of new p) (device imei p)
      (ap (λ (x : Option ℕ × Bool). talk_with x.0 x.1 o) (λ i. (a.before i, a.welcome_before i))) (ap (λ (x : Option ℕ × Bool). talk_with x.0 x.1 p) (λ i. (a.after i, a.welcome_after i))) took

  pub packet_took : (imei : ℕ) (rest : List ℕ) (n : ℕ) (old mid new : SessionState) (o p : O) (s t : S) (w v : Option Traffic) (f k g j : ℕ) (r : Option SessionEnd) → IsReady old → (h : Heard old mid rest n Packet) → mid.imei ≡ Some imei
      → (new.imei ≡ mid.imei) × (new.refused ≡ mid.refused) → IfNone r (new ≡ record mid { owes = false })
      → IfNone r (Does leaves m known (packet h.says.head mid.reader.body ∷ []) [] (at (device imei o) s w f k) (at (device imei p) t v g j))
      → IfSome r (λ end. StopsAt leaves m known end (packet h.says.head mid.reader.body) (at (device imei o) s w f k) (at (device imei p) t v g j))
      → Took leaves m known r (take n rest) old new (at (talk_of old o) s w f k) (at (talk_of new p) t v g j)
  packet_took imei rest n old mid new o p s t w v f k g j None ready h who same is does stops =
      let v' : UpValue = packet h.says.head mid.reader.body in
      let push = pushed_as old.reader mid.reader rest n h.decided (item v') h.says.is h.pushed in
      let reader : new.reader ≡ mid.reader = ap (λ (x : SessionState). x.reader) is in
      let a : Answered imei old mid new = record { before = sym h.imei ∙ who; after = same.0 ∙ who; welcome_before = ready.welcome; welcome_after = same.1 ∙ (h.refused ∙ ready.welcome) } in
      device_took None imei (take n rest) old mid new o p s t w v f k g j a (
        record { answered = ap (λ (x : SessionState). x.owes) is; going = ap (λ (x : Reader). x.failed) reader ∙ item_goes old.reader mid.reader rest n v' ready.going push; welcome = a.welcome_after },
        record { said = v' ∷ []; reads = subst (λ (x : Reader). Reads (take n rest) (v' ∷ []) old.reader x) (sym reader) (reads_push old.reader mid.reader rest n (item v') push); does = does },
      )
  packet_took imei rest n old mid new o p s t w v f k g j (Some end) ready h who same is does stops =
      let v' : UpValue = packet h.says.head mid.reader.body in
      let push = pushed_as old.reader mid.reader rest n h.decided (item v') h.says.is h.pushed in
      let a : Answered imei old mid new = record { before = sym h.imei ∙ who; after = same.0 ∙ who; welcome_before = ready.welcome; welcome_after = same.1 ∙ (h.refused ∙ ready.welcome) } in
      device_took (Some end) imei (take n rest) old mid new o p s t w v f k g j a
      (stopped leaves m known end (take n rest) [] old.reader (at (device imei o) s w f k) (at (device imei p) t v g j)
      (stops_first end v' rest n old.reader mid.reader (at (device imei o) s w f k) (at (device imei p) t v g j) push stops refl))

  -- A response.
  pub response_took : (imei : ℕ) (rest : List ℕ) (n : ℕ) (old new : SessionState) (o p : O) (s : S) (w : Option Traffic) (f k : ℕ) → IsReady old → Heard old new rest n Response → new.imei ≡ Some imei → p ≡ told_by m o imei (value_in way.Up new.reader.body)
      → Took leaves m known None (take n rest) old new (at (talk_of old o) s w f k) (at (talk_of new p) s w f k)
  response_took imei rest n old new o p s w f k ready h who is =
      let v' : UpValue = response new.reader.body in
      let push = pushed_as old.reader new.reader rest n h.decided (item v') h.says.is h.pushed in
      let a : Answered imei old new new = record { before = sym h.imei ∙ who; after = who; welcome_before = ready.welcome; welcome_after = h.refused ∙ ready.welcome } in
      device_took None imei (take n rest) old new new o p s s w w f k f k a (
        record { answered = h.owes; going = item_goes old.reader new.reader rest n v' ready.going push; welcome = a.welcome_after },
        record {
          said = v' ∷ [];
          reads = reads_push old.reader new.reader rest n (item v') push;
          does = record { talk = ap (λ (q : O). device imei q) is; wire = moves_none w; calls = []; feeds = refl; stored = tt; frames = sym (add-zero f); records = sym (add-zero k) };
        },
      )
