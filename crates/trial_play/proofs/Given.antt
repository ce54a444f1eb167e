-- The accounts as one log is fed, as one is added, and as the server's power goes.
use Rattle.std.proofs.Common.{◌≡◌, ◌≤◌, ℕ, zero, suc, ◌==◌, ◌-◌, take, Bool, true, false, List, [], ◌∷◌, ◌++◌, length, map, set, slice_get, Some, if◌then◌else◌, refl, sym, ◌∙◌, ap, subst, arith, append_assoc, append-nil, eq-eqb}
use Rattle.std.specs.List.{Contains}
use Rattle.std.proofs.lemmas.List.Concat.{flat_map-append}
use Rattle.std.proofs.lemmas.List.Elements.{All-append, All-nil}
use Rattle.avl_values.specs.Record.{Record}
use Rattle.trial_model.specs.declared.outcome.ConnectionOutcome.{ConnectionOutcome}
use Rattle.trial_model.specs.declared.outcome.ServerEnd.{ServerEnd}
use Rattle.trial_model.specs.declared.outcome.ServerEnd.TheVariants as Server
use Rattle.trial_model.specs.Answers.{counted_of, is_fault}
use Rattle.trial_model.specs.Connections.{ConnectionHistory, restarted, up_to}
use Rattle.trial_model.specs.Delivery.{delivered_of, frames_between}
use Rattle.trial_model.specs.Frames.{Frame, frames_within, records_in}
use Rattle.trial_model.specs.RecordLists.{AreIn}
use Rattle.trial_server.specs.Archives.{with_records}
use Rattle.trial_server.proofs.Containing.{in-itself, in-left, in-right}
use Rattle.trial_wire.specs.Connections.{Connection, cut_by_power, fed}
use Rattle.trial_wire.proofs.Filters.{within-parts}
use Rattle.trial_play.specs.ServerLines.{changed_at}
use Rattle.trial_play.specs.Trials.{counted_in, given_in, logs_of, records_by}
use Rattle.trial_play.proofs.Places.{none-some, some-same}

pub records-append : (fs gs : List Frame) → records_in (fs ++ gs) ≡ records_in fs ++ records_in gs
records-append fs gs = flat_map-append (λ (f : Frame). f.records) fs gs

pub both-in : (xs ys others more : List Record) → AreIn xs others → AreIn ys more → AreIn (xs ++ ys) (others ++ more)
both-in xs ys others more p q = All-append (Contains (xs ++ ys)) others more (in-left xs ys others p) (in-right xs ys more q)

-- what one log gives
abbrev own : ℕ → ConnectionHistory → ConnectionOutcome → List Record
own imei h c = if c.imei == imei then records_in (frames_within (up_to h.allowed (length c.up)) c.up) else []

more-within : (up : List ℕ) (a b : ℕ) → a ≤ b → AreIn (records_in (frames_within b up)) (records_in (frames_within a up))
more-within up a b order =
    subst (λ rs. AreIn rs (records_in (frames_within a up))) (sym (ap records_in (within-parts up a b order) ∙ records-append (frames_within a up) (frames_between a b up)))
    (in-left (records_in (frames_within a up)) (records_in (frames_between a b up)) (records_in (frames_within a up)) (in-itself (records_in (frames_within a up))))

new-within : (up : List ℕ) (a b : ℕ) → a ≤ b → AreIn (records_in (frames_within b up)) (records_in (frames_between a b up))
new-within up a b order =
    subst (λ rs. AreIn rs (records_in (frames_between a b up))) (sym (ap records_in (within-parts up a b order) ∙ records-append (frames_within a up) (frames_between a b up)))
    (in-right (records_in (frames_within a up)) (records_in (frames_between a b up)) (records_in (frames_between a b up)) (in-itself (records_in (frames_between a b up))))

own-grows : (imei : ℕ) (h k : ConnectionHistory) (c : ConnectionOutcome) → up_to h.allowed (length c.up) ≤ up_to k.allowed (length c.up) → AreIn (own imei k c) (own imei h c)
own-grows imei h k c order = split (c.imei == imei)
  where
    split : (b : Bool) → AreIn (if b then records_in (frames_within (up_to k.allowed (length c.up)) c.up) else []) (if b then records_in (frames_within (up_to h.allowed (length c.up)) c.up) else [])
    split true = more-within c.up (up_to h.allowed (length c.up)) (up_to k.allowed (length c.up)) order
    split false = in-itself []

-- One history of which more is allowed.
pub given-changed : (f : ConnectionHistory → ConnectionHistory) → ((h : ConnectionHistory) (n : ℕ) → up_to h.allowed n ≤ up_to (f h).allowed n) → (imei n : ℕ) (hs : List ConnectionHistory) (logs : List ConnectionOutcome)
    → AreIn (given_in (changed_at f n hs) logs imei) (given_in hs logs imei)
given-changed f wider imei n [] logs = in-itself []
given-changed f wider imei n (h ∷ hs) [] = All-nil (Contains (given_in (changed_at f n (h ∷ hs)) [] imei))
given-changed f wider imei n (h ∷ hs) (c ∷ logs) = split (n == 1) (given-changed f wider imei (n - 1) hs logs)
  where
    split : (b : Bool) → AreIn (given_in (changed_at f (n - 1) hs) logs imei) (given_in hs logs imei)
        → AreIn (given_in (if b then f h ∷ hs else h ∷ changed_at f (n - 1) hs) (c ∷ logs) imei) (own imei h c ++ given_in hs logs imei)
    split true rest = both-in (own imei (f h) c) (given_in hs logs imei) (own imei h c) (given_in hs logs imei) (own-grows imei h (f h) c (wider h (length c.up))) (in-itself (given_in hs logs imei))
    split false rest = both-in (own imei h c) (given_in (changed_at f (n - 1) hs) logs imei) (own imei h c) (given_in hs logs imei) (in-itself (own imei h c)) rest

-- A log that is fed gives what it gave, and the frames between.
module _ (h k : ConnectionHistory) (c : ConnectionOutcome) (b : ℕ) (more : List ℕ) (server : ServerEnd) (order : up_to h.allowed (length c.up) ≤ up_to k.allowed (length c.up)) where
  pub given-grows : (imei n : ℕ) (hs : List ConnectionHistory) (logs : List ConnectionOutcome) → slice_get hs n ≡ Some h → slice_get logs n ≡ Some c
      → AreIn (given_in (set hs n k) (set logs n (fed c b more server)) imei) (given_in hs logs imei)
  given-grows imei n [] logs at_h at_c = absurd (none-some h at_h)
  given-grows imei n (x ∷ hs) [] at_h at_c = absurd (none-some c at_c)
  given-grows imei zero (x ∷ hs) (y ∷ logs) at_h at_c =
      subst (λ (z : ConnectionHistory × ConnectionOutcome). AreIn (own imei k c ++ given_in hs logs imei) (own imei z.0 z.1 ++ given_in hs logs imei)) (λ i. (sym (some-same x h at_h) i, sym (some-same y c at_c) i))
      (both-in (own imei k c) (given_in hs logs imei) (own imei h c) (given_in hs logs imei) (own-grows imei h k c order) (in-itself (given_in hs logs imei)))
  given-grows imei (suc n) (x ∷ hs) (y ∷ logs) at_h at_c =
      both-in (own imei x y) (given_in (set hs n k) (set logs n (fed c b more server)) imei) (own imei x y) (given_in hs logs imei) (in-itself (own imei x y)) (given-grows imei n hs logs at_h at_c)

  own-new : AreIn (own c.imei k c) (records_in (frames_between (up_to h.allowed (length c.up)) (up_to k.allowed (length c.up)) c.up))
  own-new =
      subst (λ b. AreIn (if b then records_in (frames_within (up_to k.allowed (length c.up)) c.up) else []) (records_in (frames_between (up_to h.allowed (length c.up)) (up_to k.allowed (length c.up)) c.up)))
      (sym (eq-eqb c.imei c.imei refl)) (new-within c.up (up_to h.allowed (length c.up)) (up_to k.allowed (length c.up)) order)

  pub given-has : (n : ℕ) (hs : List ConnectionHistory) (logs : List ConnectionOutcome) → slice_get hs n ≡ Some h → slice_get logs n ≡ Some c
      → AreIn (given_in (set hs n k) (set logs n (fed c b more server)) c.imei) (records_in (frames_between (up_to h.allowed (length c.up)) (up_to k.allowed (length c.up)) c.up))
  given-has n [] logs at_h at_c = absurd (none-some h at_h)
  given-has n (x ∷ hs) [] at_h at_c = absurd (none-some c at_c)
  given-has zero (x ∷ hs) (y ∷ logs) at_h at_c =
      in-left (own c.imei k c) (given_in hs logs c.imei) (records_in (frames_between (up_to h.allowed (length c.up)) (up_to k.allowed (length c.up)) c.up)) own-new
  given-has (suc n) (x ∷ hs) (y ∷ logs) at_h at_c =
      in-right (own c.imei x y) (given_in (set hs n k) (set logs n (fed c b more server)) c.imei) (records_in (frames_between (up_to h.allowed (length c.up)) (up_to k.allowed (length c.up)) c.up)) (given-has n hs logs at_h at_c)

-- What is counted of a log of which more is counted is what was, and that.
pub counted-set : (imei n : ℕ) (logs : List ConnectionOutcome) (c : ConnectionOutcome) (b : ℕ) (more : List ℕ) (server : ServerEnd) (fs : List Frame) → slice_get logs n ≡ Some c → counted_of (fed c b more server) ≡ counted_of c ++ fs
    → AreIn (with_records c.imei (records_in fs) (counted_in logs) imei) (counted_in (set logs n (fed c b more server)) imei)
counted-set imei n [] c b more server fs at counts = absurd (none-some c at)
counted-set imei zero (y ∷ logs) c b more server fs at counts =
    subst (λ (z : ConnectionOutcome). AreIn (((if z.imei == imei then records_in (counted_of z) else []) ++ counted_in logs imei) ++ (if c.imei == imei then records_in fs else []))
    ((if c.imei == imei then records_in (counted_of (fed c b more server)) else []) ++ counted_in logs imei)) (sym (some-same y c at)) (split (c.imei == imei))
  where
    split : (o : Bool) → AreIn (((if o then records_in (counted_of c) else []) ++ counted_in logs imei) ++ (if o then records_in fs else [])) ((if o then records_in (counted_of (fed c b more server)) else []) ++ counted_in logs imei)
    split true =
        let was = records_in (counted_of c) in
        let rest = counted_in logs imei in
        let new = records_in fs in
        subst (λ l. AreIn ((was ++ rest) ++ new) (l ++ rest)) (sym (ap records_in counts ∙ records-append (counted_of c) fs))
        (All-append (Contains ((was ++ rest) ++ new)) (was ++ new) rest
        (All-append (Contains ((was ++ rest) ++ new)) was new (in-left (was ++ rest) new was (in-left was rest was (in-itself was))) (in-right (was ++ rest) new new (in-itself new)))
        (in-left (was ++ rest) new rest (in-right was rest rest (in-itself rest))))
    split false = in-left ([] ++ counted_in logs imei) [] ([] ++ counted_in logs imei) (in-itself ([] ++ counted_in logs imei))
counted-set imei (suc n) (y ∷ logs) c b more server fs at counts =
    let mine = if y.imei == imei then records_in (counted_of y) else [] in
    let added = if c.imei == imei then records_in fs else [] in
    subst (λ l. AreIn l (mine ++ counted_in (set logs n (fed c b more server)) imei)) (sym (append_assoc mine (counted_in logs imei) added))
    (both-in mine (counted_in logs imei ++ added) mine (counted_in (set logs n (fed c b more server)) imei) (in-itself mine) (counted-set imei n logs c b more server fs at counts))

-- One log more.

pub given-push : (imei : ℕ) (hs : List ConnectionHistory) (logs : List ConnectionOutcome) (h : ConnectionHistory) (c : ConnectionOutcome) → length hs ≡ length logs
    → given_in (hs ++ h ∷ []) (logs ++ c ∷ []) imei ≡ given_in hs logs imei ++ own imei h c
given-push imei [] [] h c same = append-nil (own imei h c)
given-push imei [] (y ∷ logs) h c same = absurd (omega (arith, same))
given-push imei (x ∷ hs) [] h c same = absurd (omega (arith, same))
given-push imei (x ∷ hs) (y ∷ logs) h c same =
    ap (λ rest. own imei x y ++ rest) (given-push imei hs logs h c (omega (arith, same))) ∙ sym (append_assoc (own imei x y) (given_in hs logs imei) (own imei h c))

pub records-push : (frames : ConnectionOutcome → List Frame) (imei : ℕ) (logs : List ConnectionOutcome) (c : ConnectionOutcome) → records_by frames (logs ++ c ∷ []) imei ≡ with_records c.imei (records_in (frames c)) (records_by frames logs) imei
records-push frames imei [] c = append-nil (if c.imei == imei then records_in (frames c) else [])
records-push frames imei (y ∷ logs) c =
    ap (λ rest. (if y.imei == imei then records_in (frames y) else []) ++ rest) (records-push frames imei logs c)
    ∙ sym (append_assoc (if y.imei == imei then records_in (frames y) else []) (records_by frames logs imei) (if c.imei == imei then records_in (frames c) else []))

-- The server's power loss gives nothing, and what was counted stays counted.

pub restarted-allowed : (h : ConnectionHistory) → (restarted h).allowed ≡ h.allowed
restarted-allowed h = split h.half_open
  where
    split : (b : Bool) → (if b then record h { half_open = false; restarted = true } else h).allowed ≡ h.allowed
    split true = refl
    split false = refl

pub given-restarted : (imei : ℕ) (hs : List ConnectionHistory) (logs : List ConnectionOutcome) → given_in (map restarted hs) logs imei ≡ given_in hs logs imei
given-restarted imei [] logs = refl
given-restarted imei (h ∷ hs) [] = refl
given-restarted imei (h ∷ hs) (c ∷ logs) =
    ap (λ (z : List Record × List Record). z.0 ++ z.1)
    (λ i. (ap (λ m. if c.imei == imei then records_in (frames_within (up_to m (length c.up)) c.up) else []) (restarted-allowed h) i, given-restarted imei hs logs i))

cut-counted : (w : Connection) → (w.going ≡ true → is_fault w.log.server ≡ false) → counted_of (cut_by_power w).log ≡ counted_of w.log
cut-counted w good = split w.going refl
  where
    split : (b : Bool) → w.going ≡ b → counted_of (if b then record { log = record w.log { server = Server.Restart }; going = false } else w).log ≡ counted_of w.log
    split true on = ap (λ (f : Bool). if f then take (length (delivered_of w.log) - 1) (delivered_of w.log) else delivered_of w.log) (sym (good on))
    split false on = refl

cut-imei : (w : Connection) → (cut_by_power w).log.imei ≡ w.log.imei
cut-imei w = split w.going
  where
    split : (b : Bool) → (if b then record { log = record w.log { server = Server.Restart }; going = false } else w).log.imei ≡ w.log.imei
    split true = refl
    split false = refl

pub counted-cut : (imei : ℕ) (ws : List Connection) → ((n : ℕ) (w : Connection) → slice_get ws n ≡ Some w → w.going ≡ true → is_fault w.log.server ≡ false) → counted_in (logs_of (map cut_by_power ws)) imei ≡ counted_in (logs_of ws) imei
counted-cut imei [] good = refl
counted-cut imei (w ∷ ws) good =
    ap (λ (z : ℕ × List Frame × List Record). (if z.0 == imei then records_in z.1 else []) ++ z.2)
    (λ i. (cut-imei w i, cut-counted w (good 0 w refl) i, counted-cut imei ws (λ n v at. good (suc n) v at) i))
