-- What a reader's answer says of its place in the stream.
use Rattle.std.proofs.Common.{◌≡◌, ℕ, true, List, sym, ap, subst, ◌∙◌}
use Rattle.item_streams.specs.Readers.{Decided, Pushed, Reader, item}
use Rattle.frame_layout.specs.Readings.{comes_later_up}
use Rattle.frame_layout.specs.UpRows.{up_rows}
use Rattle.frame_layout.specs.Values.{UpValue}
use Rattle.frame_layout.proofs.PlaceLaws.{up_place}
use Rattle.frame_channel.specs.UpPushes.{lent_up}

-- a frame is heard only after the login, and so the place stays
pub frame_stays : (old new : Reader) (piece : List ℕ) (n : ℕ) (d : Decided UpValue) (v : UpValue) → d ≡ item v → comes_later_up v ≡ true → Pushed up_rows lent_up old new piece n d → (old.after_first ≡ true) × (new.after_first ≡ old.after_first)
frame_stays old new piece n d v is later p =
    let q : Pushed up_rows lent_up old new piece n (item v) = subst (λ (x : Decided UpValue). Pushed up_rows lent_up old new piece n x) is p in
    let before = up_place old.after_first v _ _ q.verdict ∙ later in
    (before, ap (λ (r : Reader). r.after_first) q.state ∙ sym before)
