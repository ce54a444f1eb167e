-- The records of a body, read from its first bytes.
use Rattle.std.proofs.Common.{◌≡◌, ℕ, ◌<◌, ◌≤◌, List, [], ◌∷◌, ◌-◌, length, length-drop, get_or, take, drop, map, Some, None, refl, sym, ap, ◌∙◌, arith}
use Rattle.std.proofs.Math.Seq.{take-length}
use Rattle.avl_values.specs.Codec.{codec_of}
use Rattle.avl_values.specs.Record.{Record}
use Rattle.avl_values.specs.declared.codec.Codec.{Codec}
use Rattle.record_layout.specs.Packet.{IsPacket}
use Rattle.record_layout.specs.RecordsOf.{records_in, records_by, records_of}
use Rattle.record_layout.proofs.ReadLaws.{records_read}

abbrev pub bytes_of_all : List Record → List (List ℕ)
bytes_of_all rs = map (λ r. r.bytes) rs

pub strip : (codec : Codec) (rs : List (List ℕ)) → bytes_of_all (map (λ r. record { codec = codec; bytes = r }) rs) ≡ rs
strip codec [] = refl
strip codec (r ∷ rs) = ap (λ s. r ∷ s) (strip codec rs)

pub read_few : (body : List ℕ) → length body < 2 → bytes_of_all (records_of body) ≡ []
unfolding records_of
read_few [] few = refl
read_few (a ∷ []) few = refl
read_few (a ∷ b ∷ bs) few = absurd (omega arith)

pub read_unknown : (body : List ℕ) → 2 ≤ length body → None ≡ codec_of (get_or body 0 0) → bytes_of_all (records_of body) ≡ []
unfolding records_of
read_unknown [] h e = absurd (omega arith)
read_unknown (a ∷ []) h e = absurd (omega arith)
read_unknown (a ∷ b ∷ bs) h e = ap (λ c. bytes_of_all (records_by c b bs)) (sym e)

pub read_known : (body : List ℕ) (codec : Codec) → 2 ≤ length body → Some codec ≡ codec_of (get_or body 0 0) → bytes_of_all (records_of body) ≡ records_in codec (get_or body 1 0) (drop 2 body)
unfolding records_of
read_known [] codec h e = absurd (omega arith)
read_known (a ∷ []) codec h e = absurd (omega arith)
read_known (a ∷ b ∷ bs) codec h e = ap (λ c. bytes_of_all (records_by c b bs)) (sym e) ∙ strip codec (records_in codec b bs)

pub packet_read : (codec : Codec) (rs : List (List ℕ)) (body : List ℕ) → IsPacket codec rs body → bytes_of_all (records_of body) ≡ rs
packet_read codec rs body packet = ap bytes_of_all (records_read codec rs body packet) ∙ strip codec rs

-- what a pattern's `rest @ ..` is
pub rest_is : (n : ℕ) (xs : List ℕ) → take (length xs - n) (drop n xs) ≡ drop n xs
rest_is n xs = let len : length xs - n ≡ length (drop n xs) = sym (length-drop n xs) in ap (λ k. take k (drop n xs)) len ∙ take-length (drop n xs)
