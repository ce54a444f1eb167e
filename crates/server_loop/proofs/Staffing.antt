-- Workers made for their doors, and what they all have done.
use Rattle.std.proofs.Common.{◌≡◌, ⊎_elim, ℕ, zero, suc, ◌+◌, ◌-◌, ◌<◌, ◌≤◌, ◌^◌, Bool, List, [], ◌∷◌, ◌++◌, length, map, slice_get, slice_index_or, take, drop, All, Option, Some, None, IfSome, option_to_list, refl, sym, ap, subst, ◌∙◌, length-append, arith}
use Rattle.std.proofs.lemmas.List.{length-map}
use Rattle.std.proofs.lemmas.Simd.{map-map}
use Rattle.std.proofs.Math.Seq.{take-append_seam}
use Rattle.std.proofs.lemmas.Option.{slice_get_within, slice_get-get_or, get_or_from_slice_get}
use Rattle.links.specs.Links.{LinkState}
use Rattle.doors.specs.Doors.{DoorState}
use Rattle.medium_model.specs.declared.medium.Medium.{Ghosts}
use Rattle.shelf.specs.Admits.{Shelved}
use Rattle.shelf.specs.Entries.{Entry, IsLegalLog, StandsAfter, calls_by, calls_of, counting}
use Rattle.desk.specs.declared.desk.Desk.{Desk}
use Rattle.desk.specs.declared.desk.Seat.{Seat}
use Rattle.desk.specs.Desks.{seen, numbers, IsNewSeat, AreNewSeats}
use Rattle.desk.proofs.Deal.{get-snoc}
use Rattle.desk.proofs.Shelves.{some-same}
use Rattle.desk.proofs.Taking.{get-front, get-last}
use Rattle.server_loop.specs.Staff.{AllReady, AllSeated, AllStaffed, AllWorked, IsSeatOfAll, IsStaffed, door_of, report_of}
use Rattle.server_loop.specs.Workers.{AreWorkers, HasServed, IsWorker}
use Rattle.server_loop.specs.declared.report.WorkerReport.{WorkerReport}
use Rattle.server_loop.specs.declared.worker.Worker.{Worker}

get-map : {X Y : Type 0} (f : X → Y) (xs : List X) (i : ℕ) (x : X) → slice_get xs i ≡ Some x → slice_get (map f xs) i ≡ Some (f x)
get-map f [] i x at = absurd (let low = slice_get_within [] i x at in omega arith)
get-map f (y ∷ xs) zero x at = ap (λ z. Some (f z)) (some-same y x at)
get-map f (y ∷ xs) (suc i) x at = get-map f xs i x at

all-at : {X : Type 0} (P : X → Type 0) (xs : List X) (i : ℕ) (x : X) → All P xs → slice_get xs i ≡ Some x → P x
all-at P xs i x all at = subst P (get_or_from_slice_get xs i x x at) (all i x (slice_get_within xs i x at))

-- a worker whose calls are in a longer history just as they were
in-longer : {L : Type 0} (state : L → LinkState) (follows : L → L → Type 0) (knows : ℕ → Bool) (sessions n : ℕ) (log more : List Entry) (before after : DoorState L) (r : WorkerReport) → calls_of n more ≡ calls_of n log → IsWorker state follows knows sessions n log before after r → IsWorker state follows knows sessions n more before after r
in-longer state follows knows sessions n log more before after r same w = record { cs = w.cs; worked = w.worked; calls = same ∙ w.calls }

module _ {M : Type 0} {d : Ghosts M} where
  -- seats in the order in which they are taken from the end: the last has the next number
  abbrev pub AreLeft : Desk M → ℕ → List (Seat M d) → Type 0
  AreLeft desk next seats = (k j : ℕ) (seat : Seat M d) → slice_get seats k ≡ Some seat → k + suc j ≡ length seats → IsNewSeat desk (next + j) seat

  pub left-first : (desk : Desk M) (seats turned : List (Seat M d)) (size : ℕ) → size ≡ length seats → length turned ≡ length seats
      → ((k : ℕ) (e : Seat M d) → k < size → slice_index_or turned k e ≡ slice_index_or seats (size - 1 - k) e) → AreNewSeats desk seats → AreLeft desk 0 turned
  left-first desk seats turned size is long reversed new k j seat at place =
      let low = slice_get_within turned k seat at in
      let here : slice_index_or turned k seat ≡ seat = get_or_from_slice_get turned k seat seat at in
      let there : size - 1 - k ≡ j = omega arith in
      let same : slice_index_or seats j seat ≡ seat = ap (λ (n : ℕ). slice_index_or seats n seat) (sym there) ∙ (sym (reversed k seat (omega arith)) ∙ here) in
      let number : j ≡ 0 + j = omega arith in
      subst (λ (n : ℕ). IsNewSeat desk n seat) number (new j seat (slice_get-get_or seats j seat (omega arith) ∙ ap (λ (s : Seat M d). Some s) same))

  pub left-next : (desk : Desk M) (next : ℕ) (seats left : List (Seat M d)) (seat : Seat M d) → seats ≡ left ++ seat ∷ [] → AreLeft desk next seats → IsNewSeat desk next seat × AreLeft desk (next + 1) left
  left-next desk next seats left seat cut are =
      let long : length seats ≡ length left + 1 = ap (λ (l : List (Seat M d)). length l) cut ∙ length-append left (seat ∷ []) in
      let last = are (length left) 0 seat (ap (λ (l : List (Seat M d)). slice_get l (length left)) cut ∙ get-last left seat) (omega arith) in
      let same : next + 0 ≡ next = omega arith in (
        subst (λ (n : ℕ). IsNewSeat desk n seat) same last,
        λ k j other at place.
            let further : next + suc j ≡ next + 1 + j = omega arith in
            subst (λ (n : ℕ). IsNewSeat desk n other) further (are k (suc j) other (ap (λ (l : List (Seat M d)). slice_get l k) cut ∙ get-front left (seat ∷ []) k other at) (omega arith)),
      )

module _ {D M : Type 0} {d : Ghosts M} where
  pub staffed-none : (desk : Desk M) (sessions : ℕ) (ws : List (Worker D M d)) → ws ≡ [] → AllStaffed desk sessions ws
  staffed-none desk sessions ws none i w at = absurd (let never : None ≡ Some w = ap (λ (l : List (Worker D M d)). slice_get l i) (sym none) ∙ at in cc)

  pub staffed-snoc : (desk : Desk M) (sessions : ℕ) (ws : List (Worker D M d)) (w : Worker D M d) → AllStaffed desk sessions ws → IsStaffed desk sessions (length ws) w → AllStaffed desk sessions (ws ++ w ∷ [])
  staffed-snoc desk sessions ws w were is i x at = ⊎_elim
      (λ (old : slice_get ws i ≡ Some x). were i x old)
      (λ (new : (i ≡ length ws) × (w ≡ x)). subst (λ (p : ℕ × Worker D M d). IsStaffed desk sessions p.0 p.1) (λ k. (sym new.0 k, new.1 k)) is)
      (get-snoc ws w x i at)

  module _ {L : Type 0} (door_state : D → DoorState L) where
    pub ready-all : (desk : Desk M) (sessions : ℕ) (doors : List D) (ws : List (Worker D M d)) → map door_of ws ≡ doors → All (λ door. (door_state door).link_faults < 2 ^ 63) doors → sessions ≤ 100000
        → AllStaffed desk sessions ws → AllReady door_state desk sessions ws
    ready-all desk sessions doors ws are counts few staffed i w at = record {
      staffed = staffed i w at;
      counts = all-at (λ door. (door_state door).link_faults < 2 ^ 63) doors i (door_of w) counts (ap (λ (l : List D). slice_get l i) (sym are) ∙ get-map door_of ws i w at);
      few = few;
    }

    module _ (state : L → LinkState) (follows : L → L → Type 0) (knows : ℕ → Bool) where
      -- the worker that stood at a place before
      stood : (vs ws : List (Worker D M d)) (i : ℕ) (w : Worker D M d) → length ws ≡ length vs → slice_get ws i ≡ Some w → (v : Worker D M d) × (slice_get vs i ≡ Some v)
      stood vs ws i w same at = let low = slice_get_within ws i w at in (slice_index_or vs i w, slice_get-get_or vs i w (omega arith))

      pub worked-seated : (desk : Desk M) (sessions : ℕ) (vs ws : List (Worker D M d)) → AllWorked door_state state follows knows desk sessions vs ws → AllSeated desk ws
      worked-seated desk sessions vs ws worked i w at = let v = stood vs ws i w worked.count at in (worked.each i v.0 w v.1 at).seated

      are-workers : (sessions n : ℕ) (log : List Entry) (vs ws : List (Worker D M d)) → length ws ≡ length vs
          → ((i : ℕ) (v w : Worker D M d) → slice_get vs i ≡ Some v → slice_get ws i ≡ Some w → IsWorker state follows knows sessions (n + i) log (door_state v.door) (door_state w.door) (report_of w))
          → AreWorkers state follows knows sessions n log (map (λ w. door_state (door_of w)) vs) (map (λ w. door_state (door_of w)) ws) (map report_of ws)
      are-workers sessions n log [] [] long each = tt
      are-workers sessions n log [] (w ∷ ws) long each = absurd (omega arith)
      are-workers sessions n log (v ∷ vs) [] long each = absurd (omega arith)
      are-workers sessions n log (v ∷ vs) (w ∷ ws) long each =
          let here : n + 0 ≡ n = omega arith in
          let first = subst (λ (k : ℕ). IsWorker state follows knows sessions k log (door_state v.door) (door_state w.door) (report_of w)) here (each 0 v w refl refl) in
          let rest = are-workers sessions (suc n) log vs ws (omega arith)
          (λ i x y at there.
          let further : n + suc i ≡ suc n + i = omega arith in
          subst (λ (k : ℕ). IsWorker state follows knows sessions k log (door_state x.door) (door_state y.door) (report_of y)) further (each (suc i) x y at there)) in
          (first, rest)

      pub all-workers : (desk : Desk M) (sessions : ℕ) (vs ws : List (Worker D M d)) (seat : Seat M d) → AllWorked door_state state follows knows desk sessions vs ws → IsSeatOfAll desk ws seat
          → AreWorkers state follows knows sessions 0 (seen seat) (map (λ w. door_state (door_of w)) vs) (map (λ w. door_state (door_of w)) ws) (map report_of ws)
      all-workers desk sessions vs ws seat worked all = are-workers sessions 0 (seen seat) vs ws worked.count one
        where
          one : (i : ℕ) (v w : Worker D M d) → slice_get vs i ≡ Some v → slice_get ws i ≡ Some w → IsWorker state follows knows sessions (0 + i) (seen seat) (door_state v.door) (door_state w.door) (report_of w)
          one i v w at there =
              let has = worked.each i v w at there in
              let same : i ≡ 0 + i = omega arith in
              subst (λ (k : ℕ). IsWorker state follows knows sessions k (seen seat) (door_state v.door) (door_state w.door) (report_of w)) same
              (in-longer state follows knows sessions i (seen has.seated.seat) (seen seat) (door_state v.door) (door_state w.door) (report_of w) (all.keeps i w has.seated.seat there has.seated.is) has.is)

      -- what was said of lists that are these
      pub worked-as : (desk : Desk M) (sessions : ℕ) (us vs xs ws : List (Worker D M d)) → us ≡ vs → xs ≡ ws → AllWorked door_state state follows knows desk sessions us xs → AllWorked door_state state follows knows desk sessions vs ws
      worked-as desk sessions us vs xs ws before after worked = subst (λ (z : List (Worker D M d) × List (Worker D M d)). AllWorked door_state state follows knows desk sessions z.0 z.1) (λ i. (before i, after i)) worked

      -- The workers' seat closes the desk: its history is that of all their connections.
      pub has-served : (desk : Desk M) (sessions : ℕ) (opening closing : Shelved) (vs ws : List (Worker D M d)) (seat : Seat M d) (doors : List D) (reports : List WorkerReport) → AllWorked door_state state follows knows desk sessions vs ws
          → IsSeatOfAll desk ws seat → doors ≡ map door_of ws → reports ≡ map report_of ws → IsLegalLog opening (seen seat) → StandsAfter opening (seen seat) closing → calls_by (numbers seat) (seen seat) ≡ seen seat
          → HasServed state follows knows sessions opening closing (map (λ w. door_state (door_of w)) vs) (map door_state doors) reports
      has-served desk sessions opening closing vs ws seat doors reports worked all doors_are reports_are legal stands whole =
          let long : length reports ≡ length ws = ap (λ (l : List WorkerReport). length l) reports_are ∙ length-map ws report_of in
          let are = all-workers desk sessions vs ws seat worked all in
          let doors_back : map door_state doors ≡ map (λ w. door_state (door_of w)) ws = ap (λ (l : List D). map door_state l) doors_are ∙ map-map door_state door_of ws in
          record {
            log = seen seat;
            legal = legal;
            stands = stands;
            whole = ap (λ (n : ℕ). calls_by (counting 0 n) (seen seat)) long ∙ (ap (λ (ns : List ℕ). calls_by ns (seen seat)) (sym all.all) ∙ whole);
            workers = subst (λ (z : List (DoorState L) × List WorkerReport). AreWorkers state follows knows sessions 0 (seen seat) (map (λ w. door_state (door_of w)) vs) z.0 z.1) (λ i. (sym doors_back i, sym reports_are i)) are;
          }

pub one-less : {Y Z : Type 0} (n : ℕ) (ys now : List Y) (zs left : List Z) (y : Y) (z : Z) → now ≡ ys ++ y ∷ [] → zs ≡ left ++ z ∷ [] → length zs + length ys ≡ n → length left + length now ≡ n
one-less n ys now zs left y z more cut count =
    let here = ap (λ l. length l) more ∙ length-append ys (y ∷ []) in
    let there = ap (λ l. length l) cut ∙ length-append left (z ∷ []) in
    omega arith

pub if-some : {X : Type 0} (P : X → Type 0) (o : Option X) (x : X) → o ≡ Some x → IfSome o P → P x
if-some {X = X} P o x is has = let there : IfSome (Some x) P = subst (λ (z : Option X). IfSome z P) is has in there

pub cut-by : {X : Type 0} (all left : List X) (o : Option X) (x : X) → o ≡ Some x → all ≡ left ++ option_to_list o → all ≡ left ++ x ∷ []
cut-by {X = X} all left o x is cut = subst (λ (z : Option X). all ≡ left ++ option_to_list z) is cut

-- the states of workers' doors are those of their doors
pub door-states : {D M S : Type 0} {d : Ghosts M} (f : D → S) (ws : List (Worker D M d)) (doors : List D) → map door_of ws ≡ doors → map (λ w. f (door_of w)) ws ≡ map f doors
door-states f ws doors are = sym (map-map f door_of ws) ∙ ap (λ l. map f l) are

-- what was served, of an opening shelf and of doors that are these
pub served-as : {L : Type 0} (state : L → LinkState) (follows : L → L → Type 0) (knows : ℕ → Bool) (sessions : ℕ) (opening first closing : Shelved) (before doors after : List (DoorState L)) (reports : List WorkerReport) → opening ≡ first → before ≡ doors
    → HasServed state follows knows sessions opening closing before after reports → HasServed state follows knows sessions first closing doors after reports
served-as {L = L} state follows knows sessions opening first closing before doors after reports same are served =
    subst (λ (z : Shelved × List (DoorState L)). HasServed state follows knows sessions z.0 closing z.1 after reports) (λ i. (same i, are i)) served

-- what was lent of a list and came back is the list
pub whole-again : {X : Type 0} (n : ℕ) (now lent items : List X) → length now ≡ length lent → lent ≡ items → length items ≡ n → take n (now ++ drop (length now) items) ≡ now
whole-again n now lent items same value long =
    let size : n ≡ length now = sym long ∙ (ap (λ l. length l) (sym value) ∙ sym same) in
    ap (λ k. take k (now ++ drop (length now) items)) size ∙ take-append_seam now (drop (length now) items)
