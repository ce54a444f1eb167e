-- A reader that goes on through a piece, and what it has read, over any rows.
use Rattle.std.proofs.Common.{◌≡◌, ℕ, ◌+◌, ◌-◌, ◌<◌, ◌≤◌, Bool, true, false, List, [], ◌∷◌, ◌++◌, length, take, drop, get_or, refl, sym, ap, subst, ◌∙◌, arith, append_assoc, below_more, length-drop}
use Rattle.std.proofs.lemmas.List.{append-nil, length-take-le, take-append-drop, take_all, take_more}
use Rattle.std.proofs.Math.Seq.{take-add}
use Rattle.layout.specs.Rows.{Rows, Verdict, fault, judge, short}
use Rattle.avl_values.specs.declared.fault.FaultKind.{FaultKind}
use Rattle.item_streams.specs.Laws.{AreStreamRows}
use Rattle.item_streams.specs.Readers.{Begin, Decided, GoesOn, HasRead, Pushed, PushedByte, ReadTo, Reader, ReadsAs, added, broken, decided_verdict, item, more, reader_after}
use Rattle.item_streams.specs.Streams.{IsNotWhole, Item, Reading, next_rows, reading_of}
use Rattle.item_streams.proofs.StreamLaws.{fault_ends, nothing_read}
use Rattle.item_streams.proofs.StreamSteps.{later_place, rest_completes, rest_grows, same_place}

module _ {V : Type 0} (rows : Bool → Rows V) (lent : V → List ℕ → List ℕ) where
  -- Through a piece, byte by byte.

  abbrev pub holding : Reader → List ℕ → Reader
  holding old have = record old { have = have }

  -- i bytes of the piece were taken, and decided nothing
  pub record Going (old now : Reader) (piece : List ℕ) (i : ℕ) : Type 0 where
    pub is : now ≡ holding old (old.have ++ take i piece)
    pub short_yet : judge (rows old.after_first) 0 (old.have ++ take i piece) ≡ short
    pub first : (k : ℕ) → k < i → judge (rows old.after_first) 0 (old.have ++ take k piece) ≡ short

  pub begins : (old : Reader) (piece : List ℕ) → judge (rows old.after_first) 0 old.have ≡ short → Going old old piece 0
  begins old piece e = record {
    is = ap (holding old) (sym (append-nil old.have));
    short_yet = ap (judge (rows old.after_first) 0) (append-nil old.have) ∙ e;
    first = λ k below. absurd (omega arith);
  }

  one_more : (old : Reader) (piece : List ℕ) (i : ℕ) → i < length piece → old.have ++ take i piece ++ get_or piece i 0 ∷ [] ≡ old.have ++ take (i + 1) piece
  one_more old piece i below = append_assoc old.have (take i piece) (get_or piece i 0 ∷ []) ∙ ap (λ t. old.have ++ t) (sym (take_more piece i 0 below))

  same_state : (old : Reader) (have bytes : List ℕ) (d : Decided V) → reader_after lent (holding old have) bytes d ≡ reader_after lent old bytes d
  same_state old have bytes more = refl
  same_state old have bytes (item v) = refl
  same_state old have bytes (broken kind place) = refl

  -- the next byte and its answer
  record Answered (old new : Reader) (piece : List ℕ) (n : ℕ) (d : Decided V) : Type 0 where
    pub verdict : judge (rows old.after_first) 0 (old.have ++ take n piece) ≡ decided_verdict d (length (old.have ++ take n piece))
    pub state : new ≡ reader_after lent old (old.have ++ take n piece) d

  answered : (old now new : Reader) (piece : List ℕ) (i : ℕ) (d : Decided V) → i < length piece → Going old now piece i → PushedByte rows lent now new (get_or piece i 0) d → Answered old new piece (i + 1) d
  answered old now new piece i d below g byte =
      let have = old.have ++ take i piece in
      let b = get_or piece i 0 in
      let p : PushedByte rows lent (holding old have) new b d = subst (λ (s : Reader). PushedByte rows lent s new b d) g.is byte in
      let joined = one_more old piece i below in
      record {
        verdict = subst (λ bytes. judge (rows old.after_first) 0 bytes ≡ decided_verdict d (length bytes)) joined p.verdict;
        state = p.state ∙ same_state old have (have ++ b ∷ []) d ∙ ap (λ bytes. reader_after lent old bytes d) joined;
      }

  shorter : (old now : Reader) (piece : List ℕ) (i : ℕ) → Going old now piece i → (k : ℕ) → k < i + 1 → judge (rows old.after_first) 0 (old.have ++ take k piece) ≡ short
  shorter old now piece i g = below_more (λ k. judge (rows old.after_first) 0 (old.have ++ take k piece) ≡ short) i g.first g.short_yet

  pub goes_on : (old now new : Reader) (piece : List ℕ) (i : ℕ) → i < length piece → Going old now piece i → PushedByte rows lent now new (get_or piece i 0) more → Going old new piece (i + 1)
  goes_on old now new piece i below g byte =
      let a = answered old now new piece i more below g byte in
      record { is = a.state; short_yet = a.verdict; first = shorter old now piece i g }

  pub decided : (old now new : Reader) (piece : List ℕ) (i : ℕ) (d : Decided V) → i < length piece → Going old now piece i → PushedByte rows lent now new (get_or piece i 0) d → (d ≡ more → ⊥) → Pushed rows lent old new piece (i + 1) d
  decided old now new piece i d below g byte come =
      let a = answered old now new piece i d below g byte in
      record {
        within_piece = omega arith;
        some = λ some. omega arith;
        verdict = a.verdict;
        first = shorter old now piece i g;
        all_for_more = λ is_more. absurd (come is_more);
        state = a.state;
      }

  pub all_taken : (old now : Reader) (piece : List ℕ) (i : ℕ) → i ≡ length piece → Going old now piece i → Pushed rows lent old now piece (length piece) more
  all_taken old now piece i all g =
      let h : Going old now piece (length piece) = subst (Going old now piece) all g in
      record { within_piece = omega arith; some = λ some. some; verdict = h.short_yet; first = h.first; all_for_more = λ is_more. refl; state = h.is }

  -- What it has read.

  stream_rows : (b : Bool) → Begin rows → AreStreamRows (rows b) (rows true)
  stream_rows b begin = record { first_begins = begin b; later_begins = begin true }

  -- a reader without bytes has read nothing
  pub read_none : (s : Reader) → Begin rows → s.have ≡ [] → HasRead rows s.after_first [] [] s
  read_none s begin none =
      let unfinished : IsNotWhole (judge (rows s.after_first) 0 []) = subst (λ (v : Verdict V). IsNotWhole v) (sym (begin s.after_first)) tt in
      record {
        is = nothing_read (rows s.after_first) (rows true) 0 [] unfinished ∙ ap (λ h. record { items = []; rest = h }) (sym none);
        place = refl;
        unfinished = λ going. ap (judge (rows s.after_first) 0) none ∙ begin s.after_first;
      }

  grown : (after_first : Bool) (bytes : List ℕ) (items : List (Item V)) (old new : Reader) (taken : List ℕ) → Begin rows → HasRead rows after_first bytes items old → IsNotWhole (judge (rows old.after_first) 0 (old.have ++ taken))
      → new.have ≡ old.have ++ taken → new.after_first ≡ old.after_first → (new.failed ≡ false → judge (rows old.after_first) 0 (old.have ++ taken) ≡ short) → HasRead rows after_first (bytes ++ taken) (items ++ []) new
  grown after_first bytes items old new taken begin has open_yet have same going = record {
    is = rest_grows (rows after_first) (rows true) (rows old.after_first) bytes taken old.have items (stream_rows after_first begin) has.is has.place open_yet ∙ ap (λ h. record { items = items ++ []; rest = h }) (sym have);
    place = same_place (rows after_first) (rows true) (rows old.after_first) items has.place ∙ ap rows (sym same);
    unfinished = λ up. ap (λ b. judge (rows b) 0 new.have) same ∙ ap (judge (rows old.after_first) 0) have ∙ going up;
  }

  pub pushes_read : (after_first : Bool) (bytes : List ℕ) (items : List (Item V)) (old new : Reader) (piece : List ℕ) (n : ℕ) (d : Decided V) → Begin rows → HasRead rows after_first bytes items old → Pushed rows lent old new piece n d
      → HasRead rows after_first (bytes ++ take n piece) (items ++ added d (length (bytes ++ take n piece))) new
  pushes_read after_first bytes items old new piece n more begin has p =
      grown after_first bytes items old new (take n piece) begin has (subst (λ (v : Verdict V). IsNotWhole v) (sym p.verdict) tt) (ap (λ (s : Reader). s.have) p.state) (ap (λ (s : Reader). s.after_first) p.state) (λ up. p.verdict)
  pushes_read after_first bytes items old new piece n (broken kind place) begin has p =
      grown after_first bytes items old new (take n piece) begin has (subst (λ (v : Verdict V). IsNotWhole v) (sym p.verdict) tt) (ap (λ (s : Reader). s.have) p.state) (ap (λ (s : Reader). s.after_first) p.state)
      (λ up. let failed : new.failed ≡ true = ap (λ (s : Reader). s.failed) p.state in absurd (cc))
  pushes_read after_first bytes items old new piece n (item v) begin has p =
      let one : Item V = record { value = v; end = length (bytes ++ take n piece) } in
      let none : new.have ≡ [] = ap (λ (s : Reader). s.have) p.state in
      let later : new.after_first ≡ true = ap (λ (s : Reader). s.after_first) p.state in
      record {
        is = rest_completes (rows after_first) (rows true) (rows old.after_first) v bytes (take n piece) old.have items (stream_rows after_first begin) has.is has.place p.verdict ∙ ap (λ h. record { items = items ++ one ∷ []; rest = h }) (sym none);
        place = later_place (rows after_first) (rows true) items one ∙ ap rows (sym later);
        unfinished = λ up. ap (judge (rows new.after_first) 0) none ∙ begin new.after_first;
      }

  -- A loop that pushes what is left of a list of bytes.

  pub read_first : (s : Reader) (bytes : List ℕ) → Begin rows → s.have ≡ [] → s.failed ≡ false → ReadTo rows s.after_first bytes 0 [] s
  read_first s bytes begin none going = record { has = read_none s begin none; going = going; within = omega arith }

  -- a slice from a place on is all that is left
  pub pushed_slice : (bytes : List ℕ) (at n : ℕ) (old new : Reader) (d : Decided V) → Pushed rows lent old new (take (length bytes - at) (drop at bytes)) n d → Pushed rows lent old new (drop at bytes) n d
  pushed_slice bytes at n old new d p =
      let all : take (length bytes - at) (drop at bytes) ≡ drop at bytes = take_all (length bytes - at) (drop at bytes) (omega (arith, length-drop at bytes)) in
      subst (λ (b : List ℕ). Pushed rows lent old new b n d) all p

  still_going : (old new : Reader) (bytes : List ℕ) (d : Decided V) → GoesOn d → old.failed ≡ false → new ≡ reader_after lent old bytes d → new.failed ≡ false
  still_going old new bytes more goes going is = ap (λ (s : Reader). s.failed) is ∙ going
  still_going old new bytes (item v) goes going is = ap (λ (s : Reader). s.failed) is ∙ going
  still_going old new bytes (broken kind place) goes going is = absurd goes

  -- what was read once an answer has come, a fault or not
  pub read_on : (after_first : Bool) (bytes : List ℕ) (at n : ℕ) (items : List (Item V)) (old new : Reader) (d : Decided V) → Begin rows → ReadTo rows after_first bytes at items old → Pushed rows lent old new (drop at bytes) n d
      → HasRead rows after_first (take (at + n) bytes) (items ++ added d (at + n)) new
  read_on after_first bytes at n items old new d begin r p =
      let joined : take at bytes ++ take n (drop at bytes) ≡ take (at + n) bytes = sym (take-add at n bytes) in
      let end : length (take (at + n) bytes) ≡ at + n = length-take-le (at + n) bytes (omega (arith, r.within, p.within_piece, length-drop at bytes)) in
      let has = pushes_read after_first (take at bytes) items old new (drop at bytes) n d begin r.has p in
      let taken : HasRead rows after_first (take (at + n) bytes) (items ++ added d (length (take (at + n) bytes))) new =
      subst (λ (b : List ℕ). HasRead rows after_first b (items ++ added d (length b)) new) joined has in
      subst (λ k. HasRead rows after_first (take (at + n) bytes) (items ++ added d k) new) end taken

  pub reads_on : (after_first : Bool) (bytes : List ℕ) (at n : ℕ) (items : List (Item V)) (old new : Reader) (d : Decided V) → Begin rows → ReadTo rows after_first bytes at items old → Pushed rows lent old new (drop at bytes) n d → GoesOn d
      → ReadTo rows after_first bytes (at + n) (items ++ added d (at + n)) new
  reads_on after_first bytes at n items old new d begin r p goes = record {
    has = read_on after_first bytes at n items old new d begin r p;
    going = still_going old new _ d goes r.going p.state;
    within = omega (arith, r.within, p.within_piece, length-drop at bytes);
  }

  -- where the answer is More, all bytes were taken
  pub more_takes_all : (after_first : Bool) (bytes : List ℕ) (at n : ℕ) (items : List (Item V)) (old new : Reader) → ReadTo rows after_first bytes at items old → Pushed rows lent old new (drop at bytes) n more → at + n ≡ length bytes
  more_takes_all after_first bytes at n items old new r p = omega (arith, r.within, p.all_for_more refl, length-drop at bytes)

  -- at the end of the bytes

  pub reads_all : (after_first : Bool) (bytes : List ℕ) (at : ℕ) (items : List (Item V)) (s : Reader) → ReadTo rows after_first bytes at items s → length bytes ≤ at → ReadsAs rows after_first bytes items s.have short
  reads_all after_first bytes at items s r all =
      let has : HasRead rows after_first bytes items s = subst (λ (b : List ℕ). HasRead rows after_first b items s) (take_all at bytes all) r.has in
      record { is = has.is; judged = ap (λ (x : Rows V). judge x 0 s.have) has.place ∙ has.unfinished r.going }

  -- at a fault

  pub reads_broken : (after_first : Bool) (bytes : List ℕ) (at n : ℕ) (items : List (Item V)) (old new : Reader) (kind : FaultKind) (place : ℕ) → Begin rows → ReadTo rows after_first bytes at items old
      → Pushed rows lent old new (drop at bytes) n (broken kind place) → ReadsAs rows after_first bytes items (new.have ++ drop (at + n) bytes) (fault kind place)
  reads_broken after_first bytes at n items old new kind place begin r p =
      let taken = take (at + n) bytes in
      let left = drop (at + n) bytes in
      let first = rows after_first in
      let has : HasRead rows after_first taken items new = subst (λ (i : List (Item V)). HasRead rows after_first taken i new) (append-nil items) (read_on after_first bytes at n items old new (broken kind place) begin r p) in
      let judged : judge (next_rows first (rows true) items) 0 new.have ≡ fault kind place =
      ap (λ (x : Rows V). judge x 0 new.have) has.place ∙ ap (λ (s : Reader). judge (rows s.after_first) 0 s.have) p.state ∙ p.verdict in
      let Q : Reading V → Type 0 = λ x. judge (next_rows first (rows true) x.items) 0 x.rest ≡ fault kind place in
      let ends = fault_ends first (rows true) 0 taken left kind place (stream_rows after_first begin) (subst Q (sym has.is) judged) in
      let R : Reading V → Type 0 = λ x. judge (next_rows first (rows true) x.items) 0 (x.rest ++ left) ≡ fault kind place in
      record {
        is = ap (λ (b : List ℕ). reading_of first (rows true) 0 b) (sym (take-append-drop (at + n) bytes)) ∙ ends.0 ∙ ap (λ (x : Reading V). (let read : Reading V = record { items = x.items; rest = x.rest ++ left } in read)) has.is;
        judged = (let still : judge (next_rows first (rows true) items) 0 (new.have ++ left) ≡ fault kind place = subst R has.is ends.1 in still);
      }
