-- Groups of elements, one element or one group further.
use Rattle.std.proofs.Common.{◌≡◌, ℕ, zero, suc, ◌+◌, ◌-◌, ◌*◌, ◌<◌, List, [], ◌∷◌, ◌++◌, length, get_or, drop, sym, ap, ◌∙◌, arith}
use Rattle.std.proofs.lemmas.List.{drop-drop}
use Rattle.avl_values.specs.IoElement.{IoElement}
use Rattle.avl_values.specs.Width.{bytes_of}
use Rattle.avl_values.specs.declared.codec.Codec.{Codec}
use Rattle.avl_values.specs.declared.width.Width.{Width}
use Rattle.record_layout.specs.Table.{count_width, id_width}
use Rattle.record_codecs.specs.Elements.{front_number, behind, pairs_in, behind_pairs, groups_in, behind_groups}

pub none_behind : (codec : Codec) (w : Width) (bytes : List ℕ) → behind_pairs codec w 0 bytes ≡ bytes
none_behind codec w bytes = let n : 0 * (bytes_of (id_width codec) + bytes_of w) ≡ 0 = omega arith in ap (λ k. drop k bytes) n

-- what is left: pairs, and then groups
abbrev pub left_of : Codec → Width → ℕ → List Width → List ℕ → List IoElement
left_of codec w n ws bytes = pairs_in codec w n bytes ++ groups_in codec ws (behind_pairs codec w n bytes)

pub left_none : (codec : Codec) (w : Width) (n : ℕ) (ws : List Width) (bytes : List ℕ) → n ≡ 0 → left_of codec w n ws bytes ≡ groups_in codec ws bytes
left_none codec w n ws bytes none = ap (λ k. left_of codec w k ws bytes) none ∙ ap (λ b. groups_in codec ws b) (none_behind codec w bytes)

-- the next group
pub next_group : (codec : Codec) (w : Width) (n : ℕ) (groups : List Width) (bytes : List ℕ) (first : Width) (ws : List Width) (count : ℕ) (rest : List ℕ) → n ≡ 0 → groups ≡ first ∷ ws
    → count ≡ front_number (count_width codec) bytes → rest ≡ behind (count_width codec) bytes → left_of codec w n groups bytes ≡ left_of codec first count ws rest
next_group codec w n groups bytes first ws count rest none is counted behind_is =
    left_none codec w n groups bytes none ∙ ap (λ g. groups_in codec g bytes) is
    ∙ ap (λ k. left_of codec first k ws (behind (count_width codec) bytes)) (sym counted) ∙ ap (λ b. left_of codec first count ws b) (sym behind_is)

-- the next pair
pub next_pair : (codec : Codec) (w : Width) (n : ℕ) (ws : List Width) (bytes : List ℕ) (rest : List ℕ) → 0 < n → rest ≡ behind w (behind (id_width codec) bytes)
    → left_of codec w n ws bytes ≡ record { id = front_number (id_width codec) bytes; width = w; value = front_number w (behind (id_width codec) bytes) } ∷ left_of codec w (n - 1) ws rest
next_pair codec w n ws bytes rest some is =
    let m : n ≡ suc (n - 1) = omega arith in
    let i = bytes_of (id_width codec) in
    let v = bytes_of w in
    let size : suc (n - 1) * (i + v) ≡ (i + v) + (n - 1) * (i + v) = omega arith in
    let e : IoElement = record { id = front_number (id_width codec) bytes; width = w; value = front_number w (behind (id_width codec) bytes) } in
    let d : drop (suc (n - 1) * (i + v)) bytes ≡ drop ((n - 1) * (i + v)) rest =
    ap (λ k. drop k bytes) size ∙ sym (drop-drop ((n - 1) * (i + v)) (i + v) bytes) ∙ ap (λ b. drop ((n - 1) * (i + v)) b) (sym (drop-drop v i bytes) ∙ sym is) in
    ap (λ k. left_of codec w k ws bytes) m ∙ ap (λ b. e ∷ (pairs_in codec w (n - 1) b ++ groups_in codec ws (drop (suc (n - 1) * (i + v)) bytes))) (sym is)
    ∙ ap (λ b. e ∷ (pairs_in codec w (n - 1) rest ++ groups_in codec ws b)) d

-- one group further, past its pairs
pub past_group : (codec : Codec) (ws : List Width) (i : ℕ) (d : Width) (bytes rest : List ℕ) → i < length ws
    → rest ≡ behind_pairs codec (get_or ws i d) (front_number (count_width codec) bytes) (behind (count_width codec) bytes) → behind_groups codec (drop i ws) bytes ≡ behind_groups codec (drop (i + 1) ws) rest
past_group codec [] i d bytes rest lt is = absurd (omega arith)
past_group codec (w ∷ ws) zero d bytes rest lt is = ap (behind_groups codec ws) (sym is) ∙ (let e : 1 ≡ 0 + 1 = omega arith in ap (λ k. behind_groups codec (drop k (w ∷ ws)) rest) e)
past_group codec (w ∷ ws) (suc i) d bytes rest lt is = past_group codec ws i d bytes rest (omega arith) is ∙ (let e : suc (i + 1) ≡ suc i + 1 = omega arith in ap (λ k. behind_groups codec (drop k (w ∷ ws)) rest) e)
