-- A reader of a stream up that takes one byte.
use Rattle.std.proofs.Common.{◌≡◌, ℕ, ◌+◌, ◌-◌, ◌<◌, ◌≤◌, Bool, true, false, List, [], ◌∷◌, ◌++◌, length, take, drop, set, refl, sym, ap, subst, ◌∙◌, arith}
use Rattle.std.proofs.Math.Seq.{take-length}
use Rattle.std.proofs.lemmas.List.{drop-take, length-set, length-take-le, take-take, take_more_set}
use Rattle.layout.specs.Rows.{fault, whole}
use Rattle.layout.proofs.RowLaws.{filled}
use Rattle.avl_values.specs.declared.fault.Fault.{Fault}
use Rattle.frame_layout.specs.UpRows.{up_rows, up_verdict}
use Rattle.frame_layout.specs.Values.{UpValue, frame_value, login, packet, response}
use Rattle.frame_layout.specs.declared.body_kind.BodyKind.{BodyKind}
use Rattle.frame_layout.specs.declared.body_kind.BodyKind.TheVariants as kinds
use Rattle.frame_layout.proofs.Places.{SaysAt, SaysFrame, says_at}
use Rattle.frame_channel.specs.BodyIn.{body_in}
use Rattle.frame_channel.specs.UpItems.{frame_item}
use Rattle.frame_channel.specs.UpMachines.{HasTaken}
use Rattle.item_streams.specs.Readers.{Reader}
use Rattle.frame_channel.specs.UpPushes.{PushedByteUp}
use Rattle.frame_channel.specs.declared.up_item.UpItem.TheVariants.{More, Login, Broken}
use Rattle.frame_channel.specs.declared.up_machine.UpMachine.{UpMachine}
use Rattle.frame_channel.proofs.UpSteps.{has_few, has_short}

-- the buffer with one byte more

pub written : (buffer : List ℕ) (len b : ℕ) → len < length buffer → take (len + 1) (set buffer len b) ≡ take len buffer ++ b ∷ []
written buffer len b room = take_more_set buffer len b room

pub room_left : (buffer : List ℕ) (len : ℕ) (after_login : Bool) (m : UpMachine) → length buffer ≡ 65547 → len ≤ 65547 → HasTaken m after_login (take len buffer) → len < 65547
room_left buffer len after_login m room fits taking = omega (arith, has_few m after_login (take len buffer) taking, length-take-le len buffer (omega arith))

-- what a whole verdict says

whole_says : (after_login : Bool) (v : UpValue) (bytes : List ℕ) → up_verdict after_login bytes ≡ whole v (length bytes) → SaysAt after_login v bytes
whole_says after_login v bytes e =
    let f = filled (up_rows after_login) 0 (length bytes) v bytes e in
    let k : f.0 ≡ length bytes = omega (arith, f.1) in
    subst (SaysAt after_login v) (ap (λ n. take n bytes) k ∙ take-length bytes) (says_at after_login v (take f.0 bytes) f.3)

no_login : (kind : BodyKind) (imei : ℕ) (body : List ℕ) → login imei ≡ frame_value kind body → ⊥
no_login (kinds.Packet head) imei body e = absurd (cc)
no_login kinds.Command imei body e = absurd (cc)

frame_place : (after_login : Bool) (kind : BodyKind) (body bytes : List ℕ) → SaysAt after_login (frame_value kind body) bytes → (after_login ≡ true) × SaysFrame (frame_value kind body) bytes
frame_place false kind body bytes s = absurd (no_login kind s.imei body (sym s.value))
frame_place true kind body bytes s = (refl, s)

same_body : (one other : BodyKind) (a b : List ℕ) → frame_value one a ≡ frame_value other b → a ≡ b
same_body (kinds.Packet head) (kinds.Packet other) a b e = cc
same_body (kinds.Packet head) kinds.Command a b e = absurd (cc)
same_body kinds.Command (kinds.Packet other) a b e = absurd (cc)
same_body kinds.Command kinds.Command a b e = cc

-- the body that a whole frame says
body_said : (kind : BodyKind) (body bytes : List ℕ) → SaysFrame (frame_value kind body) bytes → (body ≡ body_in bytes) × (12 ≤ length bytes)
body_said kind body bytes s = (same_body kind s.kind body s.body s.value ∙ sym s.holds.body_is, omega (arith, s.holds.size))

pub frame_verdict_says : (after_login : Bool) (kind : BodyKind) (bytes : List ℕ) → (body : List ℕ) × (up_verdict after_login bytes ≡ whole (frame_value kind body) (length bytes))
    → (after_login ≡ true) × (12 ≤ length bytes) × (up_verdict after_login bytes ≡ whole (frame_value kind (body_in bytes)) (length bytes))
frame_verdict_says after_login kind bytes (body, e) =
    let p = frame_place after_login kind body bytes (whole_says after_login (frame_value kind body) bytes e) in
    let b = body_said kind body bytes p.1 in
    (p.0, b.1, e ∙ ap (λ x. whole (frame_value kind x) (length bytes)) b.0)

-- a reader's fields as contracts see them

abbrev pub seen : List ℕ → List ℕ → ℕ → ℕ → Bool → Bool → Reader
seen buffer last len body_len after_login failed = record { have = take len buffer; after_first = after_login; failed = failed; body = take body_len (drop 8 last) }

pub on_byte : (buffer last : List ℕ) (len body_len b : ℕ) (after_login failed : Bool) (m : UpMachine) → len < length buffer → HasTaken m after_login (take len buffer ++ b ∷ [])
    → PushedByteUp (seen buffer last len body_len after_login failed) (seen (set buffer len b) last (len + 1) body_len after_login failed) b More
on_byte buffer last len body_len b after_login failed m room taking = record {
  verdict = has_short m after_login (take len buffer ++ b ∷ []) taking;
  state = ap (λ (have : List ℕ). let s : Reader = record { have = have; after_first = after_login; failed = failed; body = take body_len (drop 8 last) } in s) (written buffer len b room);
}

pub login_byte : (buffer last : List ℕ) (len body_len b imei : ℕ) (after_login failed : Bool) → up_verdict after_login (take len buffer ++ b ∷ []) ≡ whole (login imei) (length (take len buffer ++ b ∷ []))
    → PushedByteUp (seen buffer last len body_len after_login failed) (seen (set buffer len b) last 0 body_len true failed) b (Login imei)
login_byte buffer last len body_len b imei after_login failed e = record { verdict = e; state = refl }

-- the body's place in a buffer is that in the frame
body_stands : (buffer : List ℕ) (len b : ℕ) → len < length buffer → 12 ≤ len + 1 → take (len + 1 - 12) (drop 8 (set buffer len b)) ≡ body_in (take len buffer ++ b ∷ [])
body_stands buffer len b room some =
    let all = set buffer len b in
    let n = len + 1 in
    let eight : 8 + (n - 8) ≡ n = omega arith in
    let fits : n ≤ length all = omega (arith, length-set buffer len b) in
    let size : length (take n all) ≡ n = length-take-le n all fits in
    let front : drop 8 (take n all) ≡ take (n - 8) (drop 8 all) = ap (λ k. drop 8 (take k all)) (sym eight) ∙ drop-take 8 (n - 8) all in
    sym (ap body_in (sym (written buffer len b room)) ∙ ap (λ k. take (k - 12) (drop 8 (take n all))) size ∙ ap (take (n - 12)) front ∙ take-take (n - 12) (n - 8) (drop 8 all) (omega arith))

-- the reader after a frame of this body
abbrev pub with_body : Reader → List ℕ → Reader
with_body old body = record old { have = []; after_first = true; body = body }

-- the item that a whole frame is
by_kind : (old new : Reader) (b : ℕ) (kind : BodyKind) → up_verdict old.after_first (old.have ++ b ∷ []) ≡ whole (frame_value kind (body_in (old.have ++ b ∷ []))) (length (old.have ++ b ∷ []))
    → new ≡ with_body old (body_in (old.have ++ b ∷ [])) → PushedByteUp old new b (frame_item kind)
by_kind old new b (kinds.Packet head) e state =
    let bytes = old.have ++ b ∷ [] in
    let body : body_in bytes ≡ new.body = sym (ap (λ (s : Reader). s.body) state) in
    record { verdict = e ∙ ap (λ x. whole (packet head x) (length bytes)) body; state = state ∙ ap (with_body old) body }
by_kind old new b kinds.Command e state =
    let bytes = old.have ++ b ∷ [] in
    let body : body_in bytes ≡ new.body = sym (ap (λ (s : Reader). s.body) state) in
    record { verdict = e ∙ ap (λ x. whole (response x) (length bytes)) body; state = state ∙ ap (with_body old) body }

pub frame_byte : (buffer last : List ℕ) (len body_len b : ℕ) (after_login failed : Bool) (kind : BodyKind) → len < length buffer
    → (body : List ℕ) × (up_verdict after_login (take len buffer ++ b ∷ []) ≡ whole (frame_value kind body) (length (take len buffer ++ b ∷ [])))
    → 12 ≤ len + 1
    → PushedByteUp (seen buffer last len body_len after_login failed) (seen last (set buffer len b) 0 (len + 1 - 12) true failed) b (frame_item kind)
frame_byte buffer last len body_len b after_login failed kind room e some =
    let p = frame_verdict_says after_login kind (take len buffer ++ b ∷ []) e in
    by_kind (seen buffer last len body_len after_login failed) (seen last (set buffer len b) 0 (len + 1 - 12) true failed) b kind p.2
    (ap (with_body (seen buffer last len body_len after_login failed)) (body_stands buffer len b room some))

pub broken_byte : (buffer last : List ℕ) (len body_len b : ℕ) (after_login failed : Bool) (found : Fault) → len < length buffer
    → up_verdict after_login (take len buffer ++ b ∷ []) ≡ fault found.kind found.place
    → PushedByteUp (seen buffer last len body_len after_login failed) (seen (set buffer len b) last (len + 1) body_len after_login true) b (Broken found)
broken_byte buffer last len body_len b after_login failed found room e = record {
  verdict = e;
  state = ap (λ (have : List ℕ). let s : Reader = record { have = have; after_first = after_login; failed = true; body = take body_len (drop 8 last) } in s) (written buffer len b room);
}
