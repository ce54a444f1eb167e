-- The items of a stream and the talk over them: what came first, who is served, and which packets there are.
use Rattle.std.proofs.Common.{◌≡◌, ℕ, Bool, true, false, List, [], ◌∷◌, ◌++◌, length, Some, None, if◌then◌else◌, refl, sym, ap, ◌∙◌, append_assoc, arith}
use Rattle.layout.proofs.RowLaws.{is_whole}
use Rattle.item_streams.specs.Streams.{AreItems, Item, values}
use Rattle.item_streams.proofs.StreamLaws.{has_reading}
use Rattle.frame_layout.specs.Readings.{comes_later_up, packet_in, packets_of, up_reading}
use Rattle.frame_layout.specs.UpRows.{up_rows}
use Rattle.frame_layout.specs.Values.{UpValue, login, packet, response}
use Rattle.frame_layout.proofs.PlaceLaws.{up_place}
use Rattle.session_core.specs.Courses.{login_in}
use Rattle.session_core.specs.Telling.{total_records}
use Rattle.session_core.specs.SessionCalls.{bodies_of}
use Rattle.session_core.specs.Talks.{Meaning, nobody, device, stranger, after, packets, text, imei_in, is_stranger, records_in}
use Rattle.session_core.proofs.Reading.{up_stream}

-- The first item is a login.

abbrev pub LoginFirst : List UpValue → Type 0
LoginFirst [] = Unit {0}
LoginFirst (login imei ∷ vs) = Unit {0}
LoginFirst (packet head body ∷ vs) = ⊥
LoginFirst (response body ∷ vs) = ⊥

comes_first : (v : UpValue) (vs : List UpValue) → false ≡ comes_later_up v → LoginFirst (v ∷ vs)
comes_first (login imei) vs e = tt
comes_first (packet head body) vs e = absurd cc
comes_first (response body) vs e = absurd cc

joined_first : (items : List (Item UpValue)) (rest bytes : List ℕ) → AreItems (up_rows false) (up_rows true) 0 items rest bytes → LoginFirst (values items)
joined_first [] rest bytes j = tt
joined_first (i ∷ is) rest bytes (front, more, e, fills, end, others) = comes_first i.value (values is) (up_place false i.value _ (front ++ []) (is_whole (up_rows false) 0 i.value front [] fills))

pub login_first : (bytes : List ℕ) → LoginFirst (values (up_reading false bytes).items)
login_first bytes = joined_first (up_reading false bytes).items (up_reading false bytes).rest bytes (has_reading (up_rows false) (up_rows true) 0 bytes up_stream).joined

pub first_of : (xs ys : List UpValue) → LoginFirst (xs ++ ys) → LoginFirst xs
first_of [] ys f = tt
first_of (login imei ∷ xs) ys f = tt
first_of (packet head body ∷ xs) ys f = f
first_of (response body ∷ xs) ys f = f

pub login_same : (xs : List UpValue) (x : UpValue) (ys : List UpValue) → login_in (xs ++ x ∷ ys) ≡ login_in (xs ++ x ∷ [])
login_same [] (login imei) ys = refl
login_same [] (packet head body) ys = refl
login_same [] (response body) ys = refl
login_same (login imei ∷ xs) x ys = refl
login_same (packet head body ∷ xs) x ys = refl
login_same (response body ∷ xs) x ys = refl

-- The bodies of the data frames.

abbrev pub bodies_in : List UpValue → List (List ℕ)
bodies_in [] = []
bodies_in (v ∷ vs) = packet_in v ++ bodies_in vs

pub packets_are : (items : List (Item UpValue)) → packets_of items ≡ bodies_in (values items)
packets_are [] = refl
packets_are (i ∷ is) = ap (λ (b : List (List ℕ)). packet_in i.value ++ b) (packets_are is)

pub bodies_then : (xs ys : List UpValue) → bodies_in (xs ++ ys) ≡ bodies_in xs ++ bodies_in ys
bodies_then [] ys = refl
bodies_then (x ∷ xs) ys = ap (λ (b : List (List ℕ)). packet_in x ++ b) (bodies_then xs ys) ∙ sym (append_assoc (packet_in x) (bodies_in xs) (bodies_in ys))

-- the bodies of packets

pub bodies_of-then : (ps qs : List (ℕ × List ℕ)) → bodies_of (ps ++ qs) ≡ bodies_of ps ++ bodies_of qs
bodies_of-then [] qs = refl
bodies_of-then (p ∷ ps) qs = ap (λ (b : List (List ℕ)). p.1 ∷ b) (bodies_of-then ps qs)

pub bodies_size : (ps : List (ℕ × List ℕ)) → length (bodies_of ps) ≡ length ps
bodies_size [] = refl
bodies_size (p ∷ ps) = omega (arith, bodies_size ps)

pub bodies_total : (ps : List (ℕ × List ℕ)) → total_records (bodies_of ps) ≡ records_in ps
bodies_total [] = refl
bodies_total (p ∷ ps) = omega (arith, bodies_total ps)

module _ {O : Type 0} (m : Meaning O) (known : ℕ → Bool) where
  device_bodies : (imei : ℕ) (o : O) (vs : List UpValue) → bodies_in vs ≡ bodies_of (packets m known (device imei o) vs)
  device_bodies imei o [] = refl
  device_bodies imei o (login other ∷ vs) = device_bodies imei o vs
  device_bodies imei o (packet head body ∷ vs) = ap (λ (b : List (List ℕ)). body ∷ b) (device_bodies imei (m.asked o imei) vs)
  device_bodies imei o (response body ∷ vs) = device_bodies imei _ vs

  -- with a stranger
  pub stranger_stays : (imei : ℕ) (o : O) (vs : List UpValue) → after m known (stranger imei o) vs ≡ stranger imei o
  stranger_stays imei o [] = refl
  stranger_stays imei o (v ∷ vs) = stranger_stays imei o vs

  pub stranger_says : (imei : ℕ) (o : O) (vs : List UpValue) → text m known (stranger imei o) vs ≡ []
  stranger_says imei o [] = refl
  stranger_says imei o (v ∷ vs) = stranger_says imei o vs

  -- Unless a stranger is talked to, the data frames are just the packets.
  known_bodies : (b : Bool) (imei : ℕ) (o q : O) (vs : List UpValue) → is_stranger (after m known (if b then device imei q else stranger imei o) vs) ≡ false → bodies_in vs ≡ bodies_of (packets m known (if b then device imei q else stranger imei o) vs)
  known_bodies true imei o q vs e = device_bodies imei q vs
  known_bodies false imei o q vs e = absurd (let same : is_stranger (after m known (stranger imei o) vs) ≡ true = ap is_stranger (stranger_stays imei o vs) in let no : true ≡ false = sym same ∙ e in cc)

  pub all_bodies : (o : O) (vs : List UpValue) → LoginFirst vs → is_stranger (after m known (nobody o) vs) ≡ false → bodies_in vs ≡ bodies_of (packets m known (nobody o) vs)
  all_bodies o [] f e = refl
  all_bodies o (login imei ∷ vs) f e = known_bodies (known imei) imei o (m.asked o imei) vs e
  all_bodies o (packet head body ∷ vs) f e = absurd f
  all_bodies o (response body ∷ vs) f e = absurd f

  -- Who logged in stays.
  pub device_imei : (imei : ℕ) (o : O) (vs : List UpValue) → imei_in (after m known (device imei o) vs) ≡ Some imei
  device_imei imei o [] = refl
  device_imei imei o (login other ∷ vs) = device_imei imei o vs
  device_imei imei o (packet head body ∷ vs) = device_imei imei (m.asked o imei) vs
  device_imei imei o (response body ∷ vs) = device_imei imei _ vs

  known_imei : (b : Bool) (imei : ℕ) (o q : O) (vs : List UpValue) → imei_in (after m known (if b then device imei q else stranger imei o) vs) ≡ Some imei
  known_imei true imei o q vs = device_imei imei q vs
  known_imei false imei o q vs = ap imei_in (stranger_stays imei o vs)

  pub imei_is : (o : O) (vs : List UpValue) → LoginFirst vs → imei_in (after m known (nobody o) vs) ≡ login_in vs
  imei_is o [] f = refl
  imei_is o (login imei ∷ vs) f = known_imei (known imei) imei o (m.asked o imei) vs
  imei_is o (packet head body ∷ vs) f = absurd f
  imei_is o (response body ∷ vs) f = absurd f

  -- Nobody is talked to only before the first item.
  known_talks : (b : Bool) (imei : ℕ) (o q r : O) (vs : List UpValue) → after m known (if b then device imei q else stranger imei o) vs ≡ nobody r → ⊥
  known_talks b imei o q r vs e = (let who : imei_in (after m known (if b then device imei q else stranger imei o) vs) ≡ Some imei = known_imei b imei o q vs in let no : None ≡ Some imei = sym (ap imei_in e) ∙ who in absurd cc)

  pub none_before : (o r : O) (vs : List UpValue) → LoginFirst vs → after m known (nobody o) vs ≡ nobody r → vs ≡ []
  none_before o r [] f e = refl
  none_before o r (login imei ∷ vs) f e = absurd (known_talks (known imei) imei o (m.asked o imei) r vs e)
  none_before o r (packet head body ∷ vs) f e = absurd f
  none_before o r (response body ∷ vs) f e = absurd f
