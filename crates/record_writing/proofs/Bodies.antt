-- A body's records, while they are added.
use Rattle.std.proofs.Common.{◌≡◌, ℕ, zero, suc, ◌+◌, ◌<◌, List, [], ◌∷◌, ◌++◌, length, drop, refl, sym, ap, subst, ◌∙◌, arith, length-append}
use Rattle.std.specs.List.{flat_map, AllByRecursion}
use Rattle.std.proofs.lemmas.Grind.{flat_map-append}
use Rattle.std.proofs.lemmas.List.{append-nil}
use Rattle.avl_values.specs.Codec.{id_of}
use Rattle.avl_values.specs.declared.codec.Codec.{Codec}
use Rattle.record_layout.specs.Packet.{packet_bytes}
use Rattle.record_layout.specs.RecordsOf.{records_in, first_record, or_none}
use Rattle.record_layout.specs.SomeRecord.{IsSomeRecord}
use Rattle.record_layout.proofs.ReadLaws.{records_in_front}
use Rattle.record_writing.specs.Packed.{ArePacked}

pub how_many : (codec : Codec) (n : ℕ) (bytes : List ℕ) → length (records_in codec n bytes) ≡ n
how_many codec zero bytes = refl
how_many codec (suc n) bytes = ap (λ k. suc k) (how_many codec n (drop (or_none (first_record codec bytes)) bytes))

all-append : (P : List ℕ → Type 0) (rs : List (List ℕ)) (r : List ℕ) → AllByRecursion P rs → P r → AllByRecursion P (rs ++ r ∷ [])
all-append P [] r each one = (one, tt)
all-append P (x ∷ rs) r each one = (each.0, all-append P rs r each.1 one)

-- records in a row are the records of their bytes
in_a_row : (codec : Codec) (rs : List (List ℕ)) → AllByRecursion (IsSomeRecord codec) rs → records_in codec (length rs) (flat_map (λ r. r) rs) ≡ rs
in_a_row codec rs each = ap (records_in codec (length rs)) (sym (append-nil (flat_map (λ r. r) rs))) ∙ records_in_front codec rs [] each

row : (rs : List (List ℕ)) (r : List ℕ) → flat_map (λ (x : List ℕ). x) (rs ++ r ∷ []) ≡ flat_map (λ (x : List ℕ). x) rs ++ r
row rs r = flat_map-append (λ (x : List ℕ). x) rs (r ∷ []) ∙ ap (λ l. flat_map (λ (x : List ℕ). x) rs ++ l) (append-nil r)

-- one record more
pub one_more : (codec : Codec) (n : ℕ) (bytes r : List ℕ) → ArePacked codec n bytes → IsSomeRecord codec r → records_in codec (n + 1) (bytes ++ r) ≡ records_in codec n bytes ++ r ∷ []
one_more codec n bytes r packed some =
    let rs = records_in codec n bytes in
    let len : length (rs ++ r ∷ []) ≡ n + 1 = omega (arith, length-append rs (r ∷ []), how_many codec n bytes) in
    let is : bytes ++ r ≡ flat_map (λ x. x) (rs ++ r ∷ []) = ap (λ b. b ++ r) packed.joined ∙ sym (row rs r) in
    ap (λ k. records_in codec k (bytes ++ r)) (sym len) ∙ ap (records_in codec (length (rs ++ r ∷ []))) is
    ∙ in_a_row codec (rs ++ r ∷ []) (all-append (IsSomeRecord codec) rs r packed.each some)

pub still_packed : (codec : Codec) (n : ℕ) (bytes r : List ℕ) → ArePacked codec n bytes → IsSomeRecord codec r → n + 1 < 256 → ArePacked codec (n + 1) (bytes ++ r)
still_packed codec n bytes r packed some few =
    let rs = records_in codec n bytes in
    let e = one_more codec n bytes r packed some in record {
      joined = ap (λ b. b ++ r) packed.joined ∙ sym (row rs r) ∙ ap (flat_map (λ x. x)) (sym e);
      each = subst (AllByRecursion (IsSomeRecord codec)) (sym e) (all-append (IsSomeRecord codec) rs r packed.each some);
      few = few;
    }

-- the whole body's length with one record more
pub body_length : (codec : Codec) (n : ℕ) (bytes r : List ℕ) → ArePacked codec n bytes → length (packet_bytes codec (records_in codec n bytes ++ r ∷ [])) ≡ length bytes + length r + 3
body_length codec n bytes r packed =
    let rs = records_in codec n bytes in
    let flat = flat_map (λ (x : List ℕ). x) (rs ++ r ∷ []) in
    omega (arith, ap length packed.joined, ap length (row rs r), length-append (flat_map (λ (x : List ℕ). x) rs) r, length-append flat (length (rs ++ r ∷ []) ∷ []))

-- the bytes of the whole body
pub whole_body : (codec : Codec) (n : ℕ) (bytes : List ℕ) → ArePacked codec n bytes → id_of codec ∷ n ∷ (bytes ++ n ∷ []) ≡ packet_bytes codec (records_in codec n bytes)
whole_body codec n bytes packed =
    let rs = records_in codec n bytes in
    ap (λ k. id_of codec ∷ k ∷ (bytes ++ k ∷ [])) (sym (how_many codec n bytes)) ∙ ap (λ b. id_of codec ∷ length rs ∷ (b ++ length rs ∷ [])) packed.joined
