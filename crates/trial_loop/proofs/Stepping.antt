-- The lines of devices, as steps of a trial.
use Rattle.std.proofs.Common.{◌≡◌, ◌<◌, ◌≤◌, ◌+◌, ◌==◌, ◌&&◌, inl, inr, ℕ, zero, suc, Bool, true, false, not, List, [], ◌∷◌, ◌++◌, length, set, slice_get, slice_index_or, Option, Some, None, Result, Ok, Err, OnOk, IfOk, refl, sym, ◌∙◌, ap, subst, arith}
use Rattle.std.proofs.lemmas.Bool.{cases_lt}
use Rattle.std.proofs.lemmas.Option.{get_or_from_slice_get}
use Rattle.flash_ring.specs.Ring.{EverySound, IsDurable, RingView}
use Rattle.flash_ring.proofs.Rings.{either_durable}
use Rattle.medium_model.specs.Images.{IsEither}
use Rattle.acquisition.specs.declared.fix.Fix.{Fix}
use Rattle.avl_values.specs.declared.codec.Codec.{Codec}
use Rattle.avl_values.specs.declared.order.Order.{Order}
use Rattle.io_operands.specs.declared.setting.IoSetting.{IoSetting}
use Rattle.shelf.specs.Shelf.{ShelfView}
use Rattle.trial_model.specs.declared.outcome.ConnectionOutcome.{ConnectionOutcome}
use Rattle.trial_model.specs.declared.script.ScriptLine.{ScriptLine}
use Rattle.trial_model.specs.declared.script.ScriptLine.TheVariants as Line
use Rattle.trial_model.specs.Connections.{is_whole}
use Rattle.trial_model.specs.Script.{Device, Opening, devices_of, lines_of, opening_of}
use Rattle.trial_device.specs.Sides.{Side}
use Rattle.trial_device.proofs.Images.{each-sound}
use Rattle.trial_play.specs.Plays.{OneSide, Plays}
use Rattle.trial_play.specs.ServerLines.{EndsLine, StaysServer}
use Rattle.trial_play.specs.Trials.{TrialState}
use Rattle.trial_play.proofs.Places.{same-at}
use Rattle.trial_server.specs.Serving.{armed}
use Rattle.trial_wire.specs.Connections.{Connection}
use Rattle.trial_loop.specs.Loops.{CanPlay, Connects, LoopState, PlaysNext}
use Rattle.trial_loop.specs.Places.{HasNone, IsPlaceOf}
use Rattle.trial_loop.specs.Feeding.{FeedsNumber}
use Rattle.trial_loop.specs.Rounded.{RoundsBoth}
use Rattle.trial_loop.proofs.Connecting.{connects}
use Rattle.trial_loop.proofs.Late.{plays-late, within}
use Rattle.trial_loop.proofs.OneSides.{CanConnect, CanFix, can-connect, can-fix, plays-none, plays-one}
use Rattle.trial_loop.proofs.Placed.{opens-placed}

-- a ring that is durable is sound in each image
pub durable-sound : (v : RingView) → IsDurable v → EverySound v
durable-sound v durable = each-sound v (IsEither v.slots []) (either_durable v [] durable)

-- The side at the place that was found.
pub record IsAt (imei : ℕ) (sides : List Side) (place : ℕ) (d : Side) : Type 0 where
  pub found : IsPlaceOf imei sides place
  pub here : slice_get sides place ≡ Some d
  pub has : (d.device.imei == imei) ≡ true

pub is-at : (imei : ℕ) (sides slice : List Side) (place : ℕ) (d : Side) → slice ≡ sides → IsPlaceOf imei slice place → d ≡ slice_index_or sides place d → IsAt imei sides place d
is-at imei sides slice place d same found is =
    let there : IsPlaceOf imei sides place = subst (λ xs. IsPlaceOf imei xs place) same found in
    let side : d ≡ there.side = is ∙ get_or_from_slice_get sides place there.side d there.here in
    record {
      found = there;
      here = there.here ∙ ap (λ (x : Side). Some x) (sym side);
      has = ap (λ (x : Side). x.device.imei == imei) side ∙ there.has;
    }

-- a trial with another side at a place
abbrev pub with_side : LoopState → ℕ → Side → LoopState
with_side w place e = record { trial = record w.trial { sides = set w.trial.sides place e }; known = w.known }

-- A line that is one device's own, and all else stays.
abbrev pub IsDeviceLine : ScriptLine → ℕ → (Side → Side → Type 0) → Type 0
IsDeviceLine line imei R = (devices : List Device) (lines : List ScriptLine) (a b : TrialState) → OneSide imei R devices a.sides b.sides → StaysServer a b → Plays devices lines line a b

goes : (line : ScriptLine) (imei : ℕ) (R : Side → Side → Type 0) → IsDeviceLine line imei R → (w : LoopState) (place : ℕ) (d e : Side) → IsAt imei w.trial.sides place d → R d e → PlaysNext line w (with_side w place e)
goes line imei R make w place d e at r = record {
  plays = λ script n next. make (devices_of (lines_of script)) _ w.trial (with_side w place e).trial (plays-one script n line w next imei R place d e at.found at.here r) (record { connections = refl; shelf = refl; fuse = refl });
  known = refl;
}

stays : (line : ScriptLine) (imei : ℕ) (R : Side → Side → Type 0) → IsDeviceLine line imei R → (w : LoopState) → HasNone imei w.trial.sides → PlaysNext line w w
stays line imei R make w none = record {
  plays = λ script n next. make (devices_of (lines_of script)) _ w.trial w.trial (plays-none script n line w next imei R none) (record { connections = refl; shelf = refl; fuse = refl });
  known = refl;
}

-- The same, where what is seen of a trial's parts is a state.
pub device-goes : (line : ScriptLine) (imei : ℕ) (R : Side → Side → Type 0) → IsDeviceLine line imei R → (w s : LoopState) → w ≡ s → (place : ℕ) (d e : Side) → IsAt imei w.trial.sides place d → R d e → PlaysNext line s (with_side w place e)
device-goes line imei R make w s is place d e at r = subst (λ (x : LoopState). PlaysNext line x (with_side w place e)) is (goes line imei R make w place d e at r)

pub device-stays : (line : ScriptLine) (imei : ℕ) (R : Side → Side → Type 0) → IsDeviceLine line imei R → (w s : LoopState) → w ≡ s → (slice : List Side) → slice ≡ w.trial.sides → HasNone imei slice → PlaysNext line s s
device-stays line imei R make w s is slice same none = subst (λ (x : LoopState). PlaysNext line x x) is (stays line imei R make w (subst (HasNone imei) same none))

pub fix-fits : (w s : LoopState) (imei : ℕ) (fix : Fix) (place : ℕ) (d : Side) → w ≡ s → CanPlay (Line.Fix imei fix) s → IsAt imei w.trial.sides place d → CanFix fix d
fix-fits w s imei fix place d is can at =
    let here = subst (CanPlay (Line.Fix imei fix)) (sym is) can in
    can-fix here.0 here.1 (Line.Fix imei fix) w here.2 place d at.here imei fix refl at.has

pub side-fits : (line : ScriptLine) (w s : LoopState) (imei place : ℕ) (d : Side) → w ≡ s → CanPlay line s → IsAt imei w.trial.sides place d → CanConnect d
side-fits line w s imei place d is can at = let here = subst (CanPlay line) (sym is) can in can-connect here.0 here.1 line w here.2 place d at.here

-- The server's fuse is armed as a line begins.
abbrev pub begun : LoopState → LoopState
begun s = record { trial = record s.trial { shelf = armed s.trial.fuse s.trial.shelf }; known = s.known }

pub late-within : (line : ScriptLine) (v s : LoopState) → v ≡ begun s → CanPlay line s → (k : ℕ) (w : Connection) → slice_get v.trial.connections k ≡ Some w → w.log.up_given ≤ length w.log.up
late-within line v s is can k w at = within can.0 can.1 line s can.2 k w (subst (λ (cs : List Connection). slice_get cs k ≡ Some w) (ap (λ (x : LoopState). x.trial.connections) is) at)

pub late-goes : (v s new : LoopState) → v ≡ begun s → (number : ℕ) (bytes : Option ℕ) (between : List Connection) (t : ShelfView) → FeedsNumber v.known number bytes v.trial.connections between v.trial.shelf t
    → EndsLine v.trial.fuse between new.trial.connections t new.trial.shelf → new.trial.fuse ≡ None → new.trial.sides ≡ v.trial.sides → new.known ≡ v.known → PlaysNext (Line.Late number bytes) s new
late-goes v s new is number bytes between t fed ends fuse sides known = record {
  plays = λ script n next. (
    plays-late script n (Line.Late number bytes) s next number bytes between t new.trial
        (subst (λ (x : LoopState). FeedsNumber x.known number bytes x.trial.connections between x.trial.shelf t) is fed)
        (subst (λ (x : LoopState). EndsLine x.trial.fuse between new.trial.connections t new.trial.shelf) is ends) fuse,
    sides ∙ ap (λ (x : LoopState). x.trial.sides) is,
  );
  known = known ∙ ap (λ (x : LoopState). x.known) is;
}

pub connect-goes : (v s new : LoopState) → v ≡ begun s → (o : Opening) (place : ℕ) (d e : Side) → IsAt o.imei v.trial.sides place d → (log : ConnectionOutcome) (going kept : Bool) (t : ShelfView)
    → RoundsBoth v.known o log going v.trial.shelf t d e → kept ≡ (going && not (is_whole o)) → new.trial.sides ≡ set v.trial.sides place e
    → EndsLine v.trial.fuse (v.trial.connections ++ record { log = log; going = kept } ∷ []) new.trial.connections t new.trial.shelf → new.trial.fuse ≡ None → new.known ≡ v.known → Connects o s new
connect-goes v s new is o place d e at log going kept t both kept_is sides ends fuse known = record {
  plays = λ script n l opens next.
      connects script n l s next o opens place d e
      (subst (λ (x : LoopState). IsPlaceOf o.imei x.trial.sides place) is at.found) (subst (λ (x : LoopState). slice_get x.trial.sides place ≡ Some d) is at.here) log going t
      (subst (λ (x : LoopState). RoundsBoth x.known o log going x.trial.shelf t d e) is both) kept kept_is new.trial (sides ∙ ap (λ (x : LoopState). set x.trial.sides place e) is)
      (subst (λ (x : LoopState). EndsLine x.trial.fuse (x.trial.connections ++ record { log = log; going = kept } ∷ []) new.trial.connections t new.trial.shelf) is ends) fuse;
  known = known ∙ ap (λ (x : LoopState). x.known) is;
}

-- what a line that opens a connection finds
pub connect-placed : (l : ScriptLine) (o : Opening) (v s : LoopState) → v ≡ begun s → opening_of l ≡ Some o → CanPlay l s → (slice : List Side) → slice ≡ v.trial.sides → HasNone o.imei slice → ⊥
connect-placed l o v s is opens can slice same none =
    opens-placed can.0 can.1 l s o can.2 opens (subst (HasNone o.imei) (same ∙ ap (λ (x : LoopState). x.trial.sides) is) none)

pub connect-fits : (l : ScriptLine) (v s : LoopState) (imei place : ℕ) (d : Side) → v ≡ begun s → CanPlay l s → IsAt imei v.trial.sides place d → CanConnect d
connect-fits l v s imei place d is can at = can-connect can.0 can.1 l s can.2 place d (subst (λ (x : LoopState). slice_get x.trial.sides place ≡ Some d) is at.here)

pub connect-up : (l : ScriptLine) (v s : LoopState) → v ≡ begun s → CanPlay l s → v.trial.shelf.down ≡ false
connect-up l v s is can = ap (λ (x : LoopState). x.trial.shelf.down) is ∙ armed-up s.trial.fuse s.trial.shelf can.2.sound.server.up
  where
    armed-up : (fuse : Option ℕ) (a : ShelfView) → a.down ≡ false → (armed fuse a).down ≡ false
    armed-up None a up = up
    armed-up (Some k) a up = up

pub on-ok : {T E : Type 0} {P Q : Type 0} (r : Result T E) → (P → Q) → OnOk r P → OnOk r Q
on-ok (Ok x) so p = so p
on-ok (Err e) so p = tt

pub if-ok : {T E : Type 0} (P Q : T → Type 0) (r : Result T E) → ((x : T) → P x → Q x) → IfOk r P → IfOk r Q
if-ok P Q (Ok x) so p = so x p
if-ok P Q (Err e) so p = tt

-- A side by its place.
pub there : (sides : List Side) (place : ℕ) (d : Side) → place < length sides → d ≡ slice_index_or sides place d → slice_get sides place ≡ Some d
there [] place d low is = absurd (omega (arith, low))
there (x ∷ xs) zero d low is = ap (λ (y : Side). Some y) (sym is)
there (x ∷ xs) (suc place) d low is = there xs place d (omega (arith, low)) is

pub none-more : (imei : ℕ) (sides : List Side) (place : ℕ) (x : Side) → ((n : ℕ) (d : Side) → n < place → slice_get sides n ≡ Some d → (d.device.imei == imei) ≡ false) → place < length sides → x ≡ slice_index_or sides place x
    → (x.device.imei == imei) ≡ false → (n : ℕ) (d : Side) → n < place + 1 → slice_get sides n ≡ Some d → (d.device.imei == imei) ≡ false
none-more imei sides place x before low is not n d less at = elim (cases_lt n place) as (λ _. (d.device.imei == imei) ≡ false) [
  | inl lower ↦ before n d lower at
  | inr upper ↦ (
      let same : n ≡ place = omega (arith, less, upper) in
      let here = there sides place x low is in
      subst (λ (y : Side). (y.device.imei == imei) ≡ false) (same-at sides place x d here (subst (λ (k : ℕ). slice_get sides k ≡ Some d) same at)) not)
]

pub both-ok : {T E : Type 0} (P Q : Type 0) (r : Result T E) → OnOk r P → OnOk r Q → OnOk r (P × Q)
both-ok P Q (Ok x) p q = (p, q)
both-ok P Q (Err e) p q = tt

-- Both kinds of line that open a connection.
pub connects-round : (old new : LoopState) (imei piece : ℕ) (up down : Option ℕ) → Connects (record { imei = imei; drains = false; up = up; down = down }) old new → PlaysNext (Line.Round imei piece up down) old new
connects-round old new imei piece up down c = record { plays = λ script n next. c.plays script n (Line.Round imei piece up down) refl next; known = c.known }

pub connects-drain : (old new : LoopState) (imei piece : ℕ) → Connects (record { imei = imei; drains = true; up = None; down = None }) old new → PlaysNext (Line.Drain imei piece) old new
connects-drain old new imei piece c = record { plays = λ script n next. c.plays script n (Line.Drain imei piece) refl next; known = c.known }

-- lines that say what a script's devices are
pub device-plays : (s : LoopState) (imei : ℕ) (codec : Codec) (slots : ℕ) (order : Order) (period distance angle speed : ℕ) (known : Bool) → PlaysNext (Line.Device imei codec slots order period distance angle speed known) s s
device-plays s imei codec slots order period distance angle speed known = record { plays = λ script n next. refl; known = refl }

pub setting-plays : (s : LoopState) (imei : ℕ) (setting : IoSetting) → PlaysNext (Line.Setting imei setting) s s
setting-plays s imei setting = record { plays = λ script n next. refl; known = refl }

-- a line and what it did, as they are seen elsewhere
pub seen-as : (a b : ScriptLine) (s new seen : LoopState) → b ≡ a → seen ≡ new → PlaysNext a s new → PlaysNext b s seen
seen-as a b s new seen line is p = subst (λ (z : ScriptLine × LoopState). PlaysNext z.0 s z.1) (λ i. (sym line i, sym is i)) p
