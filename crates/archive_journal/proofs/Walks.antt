-- A file walked from entry to entry.
use Rattle.std.proofs.Common.{◌≡◌, ◌≢◌, inl, ℕ, zero, suc, ◌+◌, ◌-◌, ◌<◌, ◌≤◌, if◌then◌else◌, Bool, true, false, List, [], ◌∷◌, ◌++◌, length, get_or, take, drop, sym, ◌∙◌, ap, refl, subst, arith, length-take, length-drop}
use Rattle.std.specs.Int.{w32, from_be_bytes}
use Rattle.std.proofs.lemmas.Bool.Decides.{nat_tests}
use Rattle.std.proofs.lemmas.List.{ext_get_or, get_or-take, get_or-drop, drop-drop, take_all, take_rest}
use Rattle.archive_journal.specs.Body.{EntryValue, length_in, is_body, entry_in}
use Rattle.archive_journal.specs.Entries.{magic, size_at, body_at, is_entry, entries_in, entries_of, IsArchive}
use Rattle.archive_journal.specs.Places.{Stand, StandIn}

-- what an entry at the front has
pub record Parts (bytes : List ℕ) : Type 0 where
  pub gate : get_or bytes 0 0 ≡ 0xA5
  pub next : size_at bytes < length bytes
  pub body : is_body (body_at bytes) ≡ true

pub entry-parts : (bytes : List ℕ) → is_entry bytes ≡ true → Parts bytes
unfolding is_entry
entry-parts bytes is = record { gate = grind (arith, nat_tests, is); next = grind (arith, nat_tests, is); body = grind (arith, nat_tests, is) }

pub parts-entry : (bytes : List ℕ) → Parts bytes → is_entry bytes ≡ true
unfolding is_entry
parts-entry bytes p = let gate = p.gate in let next = p.next in let body = p.body in grind (arith, nat_tests, gate, next, body)

not-true : (b : Bool) → (b ≡ true → ⊥) → b ≡ false
not-true true never = absurd (never refl)
not-true false never = refl

pub not-entry-size : (bytes : List ℕ) → length bytes ≤ size_at bytes → is_entry bytes ≡ false
not-entry-size bytes long = not-true (is_entry bytes) (λ is. let next = (entry-parts bytes is).next in omega arith)

pub not-entry-body : (bytes : List ℕ) → is_body (body_at bytes) ≡ false → is_entry bytes ≡ false
not-entry-body bytes other = not-true (is_entry bytes) (λ is. let both : true ≡ false = sym (entry-parts bytes is).body ∙ other in cc)

pub closed-entry : (bytes : List ℕ) → get_or bytes 0 0 ≢ 0xA5 → is_entry bytes ≡ false
closed-entry bytes closed = not-true (is_entry bytes) (λ is. closed (entry-parts bytes is).gate)

pub short-entry : (bytes : List ℕ) → length bytes ≤ 5 → is_entry bytes ≡ false
short-entry bytes few = not-entry-size bytes (omega arith)

-- where two lists agree in front, so do their parts
pub part-same : (n j k : ℕ) (xs ys : List ℕ) → j + k ≤ n → n ≤ length xs → n ≤ length ys → take n xs ≡ take n ys → take k (drop j xs) ≡ take k (drop j ys)
part-same n j k xs ys within long_x long_y same =
    ext_get_or 0 (take k (drop j xs)) (take k (drop j ys)) (omega (arith, length-take k (drop j xs), length-drop j xs, length-take k (drop j ys), length-drop j ys)) (λ i low.
    let low_k : i < k = omega (arith, length-take k (drop j xs)) in
    let low_n : j + i < n = omega arith in
    get_or-take k (drop j xs) i 0 low_k ∙ get_or-drop j xs i 0 ∙ sym (get_or-take n xs (j + i) 0 low_n)
    ∙ ap (λ l. get_or l (j + i) 0) same
    ∙ get_or-take n ys (j + i) 0 low_n ∙ sym (get_or-drop j ys i 0) ∙ sym (get_or-take k (drop j ys) i 0 low_k))

length_in-same : (xs ys : List ℕ) → take 4 xs ≡ take 4 ys → length_in xs ≡ length_in ys
unfolding length_in
length_in-same xs ys same = ap (λ (l : List ℕ). from_be_bytes w32 l) same

-- Two files that agree in front.
record Agree (n : ℕ) (xs ys : List ℕ) : Type 0 where
  long_x : n ≤ length xs
  long_y : n ≤ length ys
  same : take n xs ≡ take n ys

agree-part : (n j k : ℕ) (xs ys : List ℕ) → j + k ≤ n → Agree n xs ys → take k (drop j xs) ≡ take k (drop j ys)
agree-part n j k xs ys within a = part-same n j k xs ys within a.long_x a.long_y a.same

agree-drop : (n j k : ℕ) (xs ys : List ℕ) → n ≡ j + k → Agree n xs ys → Agree k (drop j xs) (drop j ys)
agree-drop n j k xs ys is a = record {
  long_x = (let long = a.long_x in omega (arith, length-drop j xs));
  long_y = (let long = a.long_y in omega (arith, length-drop j ys));
  same = agree-part n j k xs ys (omega arith) a;
}

agree-at : (n : ℕ) (xs ys : List ℕ) → 0 < n → Agree n xs ys → get_or xs 0 0 ≡ get_or ys 0 0
agree-at n xs ys some a = sym (get_or-take n xs 0 0 some) ∙ ap (λ (l : List ℕ). get_or l 0 0) a.same ∙ get_or-take n ys 0 0 some

-- an entry within what agrees
agree-size : (n : ℕ) (xs ys : List ℕ) → size_at ys ≤ n → Agree n xs ys → size_at xs ≡ size_at ys
agree-size n xs ys within a = ap (λ k. 5 + k) (length_in-same (drop 1 xs) (drop 1 ys) (agree-part n 1 4 xs ys (omega arith) a))

agree-body : (n : ℕ) (xs ys : List ℕ) → size_at ys ≤ n → Agree n xs ys → body_at xs ≡ body_at ys
agree-body n xs ys within a =
    let len : length_in (drop 1 xs) ≡ length_in (drop 1 ys) = length_in-same (drop 1 xs) (drop 1 ys) (agree-part n 1 4 xs ys (omega arith) a) in
    ap (λ k. take (4 + k) (drop 1 xs)) len ∙ agree-part n 1 (4 + length_in (drop 1 ys)) xs ys (omega arith) a

agree-entry : (n : ℕ) (xs ys : List ℕ) → size_at ys ≤ n → Agree n xs ys → n < length xs → is_entry ys ≡ true → is_entry xs ≡ true
agree-entry n xs ys within a there is =
    let p = entry-parts ys is in
    let size = agree-size n xs ys within a in
    parts-entry xs (record {
      gate = agree-at n xs ys (omega arith) a ∙ p.gate;
      next = omega arith;
      body = ap is_body (agree-body n xs ys within a) ∙ p.body;
    })

-- The entries in front of a place where two files agree are the same.
stand-same : (es : List EntryValue) (n : ℕ) (xs ys : List ℕ) → Agree n xs ys → n < length xs → Stand es n ys → Stand es n xs
stand-same [] n xs ys a there s = s
stand-same (e ∷ es) n xs ys a there (is, e_is, m, n_is, s) =
    let within : size_at ys ≤ n = omega arith in
    let size = agree-size n xs ys within a in
    let rest = agree-drop n (size_at ys) m xs ys n_is a in
    let P : ℕ → Type 0 = λ k. Stand es m (drop k xs) in (
      agree-entry n xs ys within a there is,
      e_is ∙ ap entry_in (sym (agree-body n xs ys within a)),
      m,
      n_is ∙ ap (λ k. k + m) (sym size),
      subst P (sym size) (stand-same es m (drop (size_at ys) xs) (drop (size_at ys) ys) rest (omega (arith, length-drop (size_at ys) xs)) s),
    )

-- one more
stand-more : (es : List EntryValue) (n : ℕ) (xs : List ℕ) → Stand es n xs → is_entry (drop n xs) ≡ true
    → Stand (es ++ entry_in (body_at (drop n xs)) ∷ []) (n + size_at (drop n xs)) xs
stand-more [] n xs none is =
    let P : ℕ → Type 0 = λ k. Stand (entry_in (body_at (drop k xs)) ∷ []) (k + size_at (drop k xs)) xs in
    let Q : ℕ → Type 0 = λ k. is_entry (drop k xs) ≡ true in
    subst P (sym none) (subst Q none is, refl, 0, omega arith, refl)
stand-more (e ∷ es) n xs (first, e_is, m, n_is, s) is =
    let there : drop m (drop (size_at xs) xs) ≡ drop n xs = drop-drop m (size_at xs) xs ∙ ap (λ k. drop k xs) (sym n_is) in
    let P : List ℕ → Type 0 = λ l. Stand (es ++ entry_in (body_at l) ∷ []) (m + size_at l) (drop (size_at xs) xs) in
    let Q : List ℕ → Type 0 = λ l. is_entry l ≡ true in
    (first, e_is, m + size_at (drop n xs), omega arith, subst P there (stand-more es m (drop (size_at xs) xs) s (subst Q (sym there) is)))

-- Entries one after the other, up to the first that doesn't count, are those that are listed.
stand-entries : (es : List EntryValue) (n fuel : ℕ) (xs : List ℕ) → Stand es n xs → is_entry (drop n xs) ≡ false → length xs ≤ fuel → entries_in fuel xs ≡ es
stand-entries [] n zero xs none last few = refl
stand-entries [] n (suc fuel) xs none last few =
    let P : ℕ → Type 0 = λ k. is_entry (drop k xs) ≡ false in
    let Q : Bool → Type 0 = λ b. (if b then entry_in (body_at xs) ∷ entries_in fuel (drop (size_at xs) xs) else []) ≡ [] in
    let off : is_entry xs ≡ false = subst P none last in
    subst Q (sym off) refl
stand-entries (e ∷ es) n zero xs (is, e_is, m, n_is, s) last few = absurd (let next = (entry-parts xs is).next in omega arith)
stand-entries (e ∷ es) n (suc fuel) xs (is, e_is, m, n_is, s) last few =
    let next = (entry-parts xs is).next in
    let there : drop m (drop (size_at xs) xs) ≡ drop n xs = drop-drop m (size_at xs) xs ∙ ap (λ k. drop k xs) (sym n_is) in
    let P : List ℕ → Type 0 = λ l. is_entry l ≡ false in
    let Q : Bool → Type 0 = λ b. (if b then entry_in (body_at xs) ∷ entries_in fuel (drop (size_at xs) xs) else []) ≡ e ∷ es in
    let rest = stand-entries es m fuel (drop (size_at xs) xs) s (subst P (sym there) last) (omega (arith, length-drop (size_at xs) xs)) in
    subst Q (sym is) (ap (λ (x : EntryValue). x ∷ entries_in fuel (drop (size_at xs) xs)) (sym e_is) ∙ ap (λ (l : List EntryValue). e ∷ l) rest)

-- The same of a file.

pub file-entries : (es : List EntryValue) (gate : ℕ) (file : List ℕ) → StandIn es gate file → is_entry (drop gate file) ≡ false → entries_of file ≡ es
unfolding entries_of
file-entries es gate file s last =
    let there : drop s.size (drop 8 file) ≡ drop gate file = drop-drop s.size 8 file ∙ ap (λ k. drop k file) (sym s.place) in
    let P : List ℕ → Type 0 = λ l. is_entry l ≡ false in
    stand-entries es s.size (length file) (drop 8 file) s.stand (subst P (sym there) last) (omega (arith, length-drop 8 file))

pub file-closed : (es : List EntryValue) (gate : ℕ) (file : List ℕ) → StandIn es gate file → get_or file gate 0 ≢ 0xA5 → entries_of file ≡ es
file-closed es gate file s closed =
    let at : get_or (drop gate file) 0 0 ≡ get_or file gate 0 = get_or-drop gate file 0 0 ∙ ap (λ k. get_or file k 0) (omega arith) in
    file-entries es gate file s (closed-entry (drop gate file) (λ open_gate. closed (sym at ∙ open_gate)))

pub file-same : (es : List EntryValue) (gate : ℕ) (file image : List ℕ) → StandIn es gate file → gate < length image → take gate image ≡ take gate file → StandIn es gate image
file-same es gate file image s there same =
    let place = s.place in
    let before = s.there in
    let a : Agree gate image file = record { long_x = omega arith; long_y = omega arith; same = same } in
    record {
      begins = agree-part gate 0 8 image file (omega arith) a ∙ s.begins;
      size = s.size;
      place = s.place;
      stand = stand-same es s.size (drop 8 image) (drop 8 file) (agree-drop gate 8 s.size image file place a) (omega (arith, length-drop 8 image)) s.stand;
      there = there;
    }

pub file-more : (es : List EntryValue) (gate : ℕ) (file : List ℕ) → StandIn es gate file → is_entry (drop gate file) ≡ true
    → StandIn (es ++ entry_in (body_at (drop gate file)) ∷ []) (gate + size_at (drop gate file)) file
file-more es gate file s is =
    let place = s.place in
    let there : drop s.size (drop 8 file) ≡ drop gate file = drop-drop s.size 8 file ∙ ap (λ k. drop k file) (sym place) in
    let next = (entry-parts (drop gate file) is).next in
    let P : List ℕ → Type 0 = λ l. is_entry l ≡ true in
    let Q : List ℕ → Type 0 = λ l. Stand (es ++ entry_in (body_at l) ∷ []) (s.size + size_at l) (drop 8 file) in
    record {
      begins = s.begins;
      size = s.size + size_at (drop gate file);
      place = omega arith;
      stand = subst Q there (stand-more es s.size (drop 8 file) s.stand (subst P (sym there) is));
      there = omega (arith, length-drop gate file);
    }

-- a file that has at most nine bytes
pub small-entries : (file : List ℕ) → length file ≤ 9 → entries_of file ≡ []
unfolding entries_of
small-entries file few = stand-entries [] 0 (length file) (drop 8 file) refl (short-entry (drop 8 file) (omega (arith, length-drop 8 file))) (omega (arith, length-drop 8 file))

-- a file that has its first gate
pub file-first : (file : List ℕ) → take 8 file ≡ magic → 8 < length file → StandIn [] 8 file
file-first file begins there = record { begins = begins; size = 0; place = refl; stand = refl; there = there }

pub file-archive : (es : List EntryValue) (gate : ℕ) (file : List ℕ) → StandIn es gate file → IsArchive file
file-archive es gate file s = inl s.begins

-- the length that code reads after a gate
pub length-behind : (bytes : List ℕ) (n : ℕ) → n ≡ length_in (take (length bytes - 1) (drop 1 bytes)) → n ≡ length_in (drop 1 bytes)
length-behind bytes n is = is ∙ ap length_in (take_all (length bytes - 1) (drop 1 bytes) (omega (arith, length-drop 1 bytes)))

-- the body that it cuts out there
pub body-behind : (bytes : List ℕ) (n : ℕ) (b : Bool) → n ≡ length_in (drop 1 bytes) → is_body (take (5 + n - 1) (drop 1 bytes)) ≡ b → is_body (body_at bytes) ≡ b
body-behind bytes n b is well = ap (λ k. is_body (take k (drop 1 bytes))) (ap (λ k. 4 + k) (sym is) ∙ omega arith) ∙ well

-- an entry that code has read after others
pub stand-read : (es more : List EntryValue) (e : EntryValue) (gate size : ℕ) (file : List ℕ) → StandIn es gate file → is_entry (take (length file - gate) (drop gate file)) ≡ true
    → e ≡ entry_in (body_at (take (length file - gate) (drop gate file))) → size ≡ size_at (take (length file - gate) (drop gate file)) → more ≡ es ++ e ∷ [] → StandIn more (gate + size) file
stand-read es more e gate size file s is e_is size_is more_is =
    let rest = take_rest file gate in
    let P : List ℕ → Type 0 = λ l. is_entry l ≡ true in
    let Q : ℕ → Type 0 = λ k. StandIn (es ++ entry_in (body_at (drop gate file)) ∷ []) (gate + k) file in
    let R : List EntryValue → Type 0 = λ l. StandIn l (gate + size) file in
    let more_all : more ≡ es ++ entry_in (body_at (drop gate file)) ∷ [] = more_is ∙ ap (λ (x : EntryValue). es ++ x ∷ []) (e_is ∙ ap (λ (l : List ℕ). entry_in (body_at l)) rest) in
    subst R (sym more_all) (subst Q (sym (size_is ∙ ap size_at rest)) (file-more es gate file s (subst P rest is)))
